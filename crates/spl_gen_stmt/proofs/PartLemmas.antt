-- The parts of statements in which no other stands, one behind the other.
use Rattle.std.proofs.Common.{◌≡◌, ℕ, ◌+◌, ◌-◌, ◌%◌, Bool, List, Option, Some, refl, ap, sym, ◌∙◌, subst}
use Rattle.spl_tree.specs.declared.names_and_places.At.{At}
use Rattle.spl_tree.specs.Trees.{Tree, Trees}
use Rattle.spl_tree.specs.StatementTrees as stat
use Rattle.spl_tree.specs.StatementTrees.{Target, Source, Effect}
use Rattle.spl_sorts.specs.spl_meaning.Kinds.{callable}
use Rattle.spl_sorts.specs.spl_meaning.Pending.{waiting, behind_first, behind_second}
use Rattle.spl_branch.specs.declared.buffer.Code.{Code}
use Rattle.spl_statement_code.specs.spl_code.Parts.{Part, pieces, piece, ◌⨟◌}
use Rattle.spl_statement_code.specs.spl_code.Constants.{constant, text_offset}
use Rattle.spl_statement_code.specs.spl_code.Calls.{Scope}
use Rattle.spl_statement_code.specs.spl_code.Code.{code, as_value, reference}
use Rattle.spl_statement_code.specs.spl_code.Appends.{Appends}
use Rattle.spl_statement_code.proofs.spl_code_proofs.AppendLaws.{then_appends, none_appends}
use Rattle.spl_gen_expr.specs.Phrases.{named_part}
use Rattle.spl_statement_code.specs.Landings.{Landing, jump, gone_to}
use Rattle.spl_statement_code.specs.Assignments.{target_index, target_stored, assigned}
use Rattle.spl_statement_code.specs.Effects.{kept_first, told, text_scaled, text_count, move_of, scan_of, leads_to_bytes, source_moved, effect}
use Rattle.spl_statement_code.specs.Statements.{counter, step_value, counting, call_dropped, result_dropped, result_of}

-- a call by itself
pub call_dropped_is : (c : Scope) (x : List ℕ) (es : Trees) (k : ℕ) (d e f : Code) → Appends (named_part c x es k) d e
    → Appends (pieces (result_dropped (result_of (callable (c.names x))))) e f → (at : At) → Appends (call_dropped c x es at k) d f
call_dropped_is c x es k d e f a b at = then_appends (then_appends a (none_appends refl)) b

-- a jump to a label
pub gone : (o : Option Landing) (l : Landing) (k s p : ℕ) {c d : Code} → o ≡ Some l → p ≡ l.pending → s ≡ k - p → Appends (jump s l.mark) c d
    → Appends (gone_to o k) c d
gone o l k s p {c} {d} is few less a =
    subst (λ x. Appends (gone_to x k) c d) (sym is) (subst (λ n. Appends (jump n l.mark) c d) (less ∙ ap (λ n. k - n) few) a)

-- what stands before the turns of a FOR
pub counting_done : (s : Scope) (x : List ℕ) (first : Tree) (step : Trees) (last : Tree) (k m n : ℕ) {c d e f g : Code} → m ≡ k + 1 → n ≡ k + 2
    → Appends (code s first as_value k) c d → Appends (pieces (counter s x k)) d e → Appends (step_value s step m) e f → Appends (code s last as_value n) f g
    → Appends (counting s x first step last k) c g
counting_done s x first step last k m n {c} {d} {e} {f} {g} one two a b t l =
    then_appends (then_appends (then_appends a b) (subst (λ j. Appends (step_value s step j) e f) one t)) (subst (λ j. Appends (code s last as_value j) f g) two l)

-- an assignment
pub assigned_done : (s : Scope) (to : Target) (value : ℕ → Part) (k m : ℕ) {c d e f : Code} → m ≡ waiting to k → Appends (target_index s to k) c d
    → Appends (value m) d e → Appends (pieces (target_stored s to k)) e f → Appends (assigned s to value k) c f
assigned_done s to value k m {c} {d} {e} {f} is a v t = then_appends (then_appends a (subst (λ j. Appends (value j) d e) is v)) t

-- what is moved
pub counted_done : (s : Scope) (used bytes : Bool) (source : Source) (from count : Tree) (k m n : ℕ) {c d e f : Code} → source ≡ stat.Source.counted from count
    → m ≡ behind_first used k → n ≡ behind_second used k → Appends (reference s from m) c d → Appends (code s count as_value n) d e
    → Appends (piece (move_of bytes 0)) e f → Appends (source_moved s used bytes source k) c f
counted_done s used bytes source from count k m n {c} {d} {e} {f} is one two a b t =
    subst (λ x. Appends (source_moved s used bytes x k) c f) (sym is)
    (then_appends (then_appends (subst (λ j. Appends (reference s from j) c d) one a) (subst (λ j. Appends (code s count as_value j) d e) two b)) t)

pub text_done : (s : Scope) (used bytes : Bool) (source : Source) (xs ys : List ℕ) (k : ℕ) {c d : Code} → source ≡ stat.Source.text ys → xs ≡ ys
    → Appends (text_offset xs ⨟ pieces (text_scaled bytes) ⨟ pieces (constant (text_count bytes xs % 65536)) ⨟ piece (move_of bytes 1)) c d
    → Appends (source_moved s used bytes source k) c d
text_done s used bytes source xs ys k {c} {d} is same a =
    subst (λ x. Appends (source_moved s used bytes x k) c d) (sym is)
    (subst (λ x. Appends (text_offset x ⨟ pieces (text_scaled bytes) ⨟ pieces (constant (text_count bytes x % 65536)) ⨟ piece (move_of bytes 1)) c d) same a)

-- a MOVE and a SCAN
pub move_done : (s : Scope) (used b : Bool) (whole : Effect) (to : Tree) (from : Source) (k : ℕ) {c d e f g : Code} → whole ≡ stat.Effect.move to from
    → b ≡ leads_to_bytes s to → Appends (reference s to k) c d → Appends (pieces (kept_first used)) d e → Appends (source_moved s used b from k) e f
    → Appends (pieces (told used)) f g → Appends (effect s used whole k) c g
move_done s used b whole to from k {c} {d} {e} {f} {g} is bytes a r m t =
    subst (λ x. Appends (effect s used x k) c g) (sym is)
    (then_appends (then_appends (then_appends a r) (subst (λ x. Appends (source_moved s used x from k) e f) bytes m)) t)

pub scan_done : (s : Scope) (used : Bool) (whole : Effect) (from : Tree) (until : Bool) (test : Tree) (k m : ℕ) {c d e f g h : Code}
    → whole ≡ stat.Effect.scan from until test → m ≡ behind_first used k → Appends (reference s from k) c d → Appends (pieces (kept_first used)) d e
    → Appends (code s test as_value m) e f → Appends (piece (scan_of until)) f g → Appends (pieces (told used)) g h → Appends (effect s used whole k) c h
scan_done s used whole from until test k m {c} {d} {e} {f} {g} {h} is one a r v x t =
    subst (λ y. Appends (effect s used y k) c h) (sym is)
    (then_appends (then_appends (then_appends (then_appends a r) (subst (λ j. Appends (code s test as_value j) e f) one v)) x) t)
