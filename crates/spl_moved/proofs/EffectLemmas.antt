-- MOVE and SCAN along the tree: their code is whole, and performs them.
use Rattle.std.proofs.Common.{◌≡◌, ℕ, ◌+◌, ◌-◌, ◌%◌, ◌≤◌, Bool, true, false, List, [], ◌∷◌, Option, refl, sym, subst, arith}
use Rattle.std.proofs.lemmas.List.{append-nil}
use Rattle.std.specs.Prelude.{max}
use Rattle.std.proofs.lemmas.Bool.{false≢true}
use Rattle.spl_choices.specs.spl_tree.declared.expressions.Kind.{Kind}
use Rattle.spl_choices.specs.spl_tree.declared.names_and_places.At.{At}
use Rattle.spl_choices.specs.spl_tree.Trees.{Tree}
use Rattle.spl_choices.specs.spl_tree.StatementTrees as stat
use Rattle.spl_choices.specs.spl_tree.StatementTrees.{Source}
use Rattle.spl_choices.specs.spl_branch.declared.pieces.Piece.TheVariants.{Begin}
use Rattle.spl_choices.specs.spl_meaning.Places.{Place}
use Rattle.spl_choices.specs.spl_meaning.Pending.{most, source_most}
use Rattle.spl_choices.specs.spl_meaning.References.{Here, Setting}
use Rattle.spl_choices.specs.spl_meaning.States.{stopping}
use Rattle.spl_choices.specs.spl_meaning.Statements.{value_dropped, effect_done}
use Rattle.spl_choices.specs.spl_meaning.Values.{Who, Callee, value, located}
use Rattle.spl_choices.specs.spl_code.Calls.{Scope}
use Rattle.spl_choices.specs.spl_code.Code.{as_value, code, reference}
use Rattle.spl_choices.specs.spl_code.Parts.{pieces, piece, ◌⨟◌}
use Rattle.spl_choices.specs.spl_code.Constants.{constant, text_offset}
use Rattle.spl_choices.specs.spl_code.Instructions.{DEL}
use Rattle.spl_choices.specs.spl_statement_code.Instructions.{MVBW}
use Rattle.spl_choices.specs.spl_statement_code.Effects.{leads_to_bytes, kept_first, told, move_of, text_scaled, text_count, class_letters, scan_of, effect, source_moved}
use Rattle.spl_choices.specs.spl_statement_code.Landings.{Context}
use Rattle.spl_choices.specs.spl_follow.Simulating.{Surroundings, Simulates, Performs}
use Rattle.spl_choices.specs.spl_follow.Standing.{IsClosed}
use Rattle.spl_choices.proofs.spl_follow_proofs.StandLemmas.{closed_last}
use Rattle.spl_covered.specs.spl_values.Reached.{IsWhole}
use Rattle.spl_covered.proofs.spl_values_proofs.VariableLemmas.{both}
use Rattle.spl_covered.proofs.spl_values_proofs.WholeLemmas.{whole_then, whole_last, whole_behind}
use Rattle.spl_choices.proofs.PartLemmas.{begun_whole}
use Rattle.spl_covered.specs.spl_links.Links.{MayCall}
use Rattle.spl_covered.specs.spl_names.Names.{read_with}
use Rattle.spl_covered.specs.Covered.{is_covered}
use Rattle.spl_covered.proofs.CoverLemmas.{covered_width, covered_gives, covered_whole}
use Rattle.spl_covered.specs.spl_moves.Laws.{CountedMovesPerform}
use Rattle.spl_covered.specs.spl_scans.Laws.{TextMovesPerform, ClassMovesPerform, ScansPerform}
use Rattle.spl_covered.proofs.spl_moves_proofs.CountedLemmas.{counted_perform}
use Rattle.spl_covered.proofs.spl_scans_proofs.TextLemmas.{text_perform}
use Rattle.spl_covered.proofs.spl_scans_proofs.ByteLemmas.{class_perform, scan_perform}
use Rattle.spl_covered.proofs.spl_byte_tests_proofs.LeadLemmas.{bytes_are}
use Rattle.spl_moved.specs.Moved.{is_moved, is_moved_source}
use Rattle.spl_moved.specs.Laws.{MovesAreWhole, MovesPerform}
use Rattle.spl_moved.proofs.ReferenceLemmas.{moved_case, reference_whole, reference_is}

-- ---- bytes of a string

-- ---- whole code

-- the last instruction closes
pub moves_close : (bytes : Bool) (n : ℕ) → IsClosed (move_of bytes n ∷ [])
moves_close true n = refl
moves_close false n = refl

pub scans_close : (until : Bool) → IsClosed (scan_of until ∷ [])
scans_close true = refl
scans_close false = refl

source_whole : (may : Who → Bool) (c : Scope) (st : Setting) (bytes : Bool) (from : Source) (k : ℕ) → is_moved_source may c st false bytes from k ≡ true
    → IsWhole (source_moved c false bytes from k)
source_whole may c st bytes (stat.Source.counted from count) k h =
    let two = both (is_moved may c st bytes from (k + 1)) (is_covered may c st count (k + 2)) h in
    whole_behind (reference c from (k + 1) ⨟ code c count as_value (k + 2)) (move_of bytes 0 ∷ [])
    (whole_then (reference c from (k + 1)) (code c count as_value (k + 2)) (reference_whole may c st bytes from (k + 1) two.0) (covered_whole may c st count (k + 2) two.1))
    (moves_close bytes 0)
source_whole may c st bytes (stat.Source.text text) k h = record {
  closed = λ l ws. closed_last ((text_offset text ⨟ pieces (text_scaled bytes) ⨟ pieces (constant (text_count bytes text % 65536))) l ws).pieces (move_of bytes 1 ∷ [])
      (moves_close bytes 1);
  keeps = λ l ws. record { rest = []; is = sym (append-nil ws) };
}
source_whole may c st bytes (stat.Source.class_of from class) k h =
    let two = both bytes (is_moved may c st true from (k + 1)) h in
    whole_behind (reference c from (k + 1)) (MVBW (class_letters class) ∷ []) (reference_whole may c st true from (k + 1) two.1) refl

pub moves_whole : MovesAreWhole
moves_whole may c st (stat.Effect.move to from) at k h =
    let bytes = leads_to_bytes c.scope to in
    let two = both (is_moved may c.scope st bytes to k) (is_moved_source may c.scope st false bytes from k) h in
    begun_whole at (effect c.scope false (stat.Effect.move to from) k)
    (whole_behind (reference c.scope to k ⨟ pieces [] ⨟ source_moved c.scope false bytes from k) (DEL ∷ [])
    (whole_then (reference c.scope to k ⨟ pieces []) (source_moved c.scope false bytes from k)
    (whole_last (reference c.scope to k) (reference_whole may c.scope st bytes to k two.0)) (source_whole may c.scope st bytes from k two.1)) refl)
moves_whole may c st (stat.Effect.scan from until e) at k h =
    let two = both (is_moved may c.scope st true from k) (is_covered may c.scope st e (k + 1)) h in
    begun_whole at (effect c.scope false (stat.Effect.scan from until e) k)
    (whole_behind (reference c.scope from k ⨟ pieces [] ⨟ code c.scope e as_value (k + 1) ⨟ piece (scan_of until)) (DEL ∷ [])
    (whole_behind (reference c.scope from k ⨟ pieces [] ⨟ code c.scope e as_value (k + 1)) (scan_of until ∷ [])
    (whole_then (reference c.scope from k ⨟ pieces []) (code c.scope e as_value (k + 1))
    (whole_last (reference c.scope from k) (reference_whole may c.scope st true from k two.0)) (covered_whole may c.scope st e (k + 1) two.1)) (scans_close until)) refl)

-- ---- performed

-- a value of one word that is covered
pub word_gives : (may : Who → Bool) (c : Scope) (results : List ℕ → Option (Kind × Place)) (z : Surroundings) (call : Callee) (d : ℕ) (e : Tree) (k need : ℕ)
    → MayCall may c z d call → is_covered may c z.setting e k ≡ true → most c.names e + 8 ≤ need
    → Simulates z d as_value 1 k need (code c e as_value k) (λ s. value (read_with c results z.setting) call e k s)
word_gives may c results z call d e k need around h enough =
    subst (λ (j : ℕ). Simulates z d as_value j k need (code c e as_value k) (λ s. value (read_with c results z.setting) call e k s))
    (covered_width may c z.setting e k h) (covered_gives may c results z call d e k need around h enough)

module _ (counted : CountedMovesPerform) (text_law : TextMovesPerform) (class_law : ClassMovesPerform) (scan_law : ScansPerform) (may : Who → Bool)
    (c : Context) (results : List ℕ → Option (Kind × Place)) (z : Surroundings) (call : Callee) (d number : ℕ) (at : At) (k need : ℕ)
    (around : MayCall may c.scope z d call) where
  abbrev v : Here
  v = read_with c.scope results z.setting

  move_performs : (to : Tree) (from : Source) (bytes : Bool) → is_moved may c.scope z.setting bytes to k ≡ true
      → is_moved_source may c.scope z.setting false bytes from k ≡ true → max (most c.scope.names to) (source_most c.scope.names false from) + 8 ≤ need
      → Performs z d k need (piece (Begin at) ⨟ (reference c.scope to k ⨟ pieces (kept_first false) ⨟ source_moved c.scope false bytes from k ⨟ pieces (told false)))
      (λ s. stopping number at s (λ u. value_dropped (effect_done v call d false (stat.Effect.move to from) k u)))
  move_performs to (stat.Source.counted from count) bytes h j enough =
      let two = both (is_moved may c.scope z.setting bytes from (k + 1)) (is_covered may c.scope z.setting count (k + 2)) j in
      counted z d k need (need - 1) (need - 2) number at bytes (moved_case may c.scope z.setting bytes to k h).kinds.type
      (moved_case may c.scope z.setting bytes from (k + 1) two.0).kinds.type (reference c.scope to k) (reference c.scope from (k + 1))
      (code c.scope count as_value (k + 2)) (λ s. located v call to k s) (λ s. located v call from (k + 1) s) (λ s. value v call count (k + 2) s)
      (moved_case may c.scope z.setting bytes to k h).kinds.units (moved_case may c.scope z.setting bytes from (k + 1) two.0).kinds.units
      (reference_is may c.scope results z call d bytes to k need around h (omega (arith, enough)))
      (reference_is may c.scope results z call d bytes from (k + 1) (need - 1) around two.0 (omega (arith, enough)))
      (covered_whole may c.scope z.setting count (k + 2) two.1)
      (word_gives may c.scope results z call d count (k + 2) (need - 2) around two.1 (omega (arith, enough)))
      (omega (arith, enough)) (omega (arith, enough)) (omega (arith, enough))
  move_performs to (stat.Source.text text) bytes h j enough =
      text_law z d k need number at bytes (moved_case may c.scope z.setting bytes to k h).kinds.type (reference c.scope to k)
      (λ s. located v call to k s) text (moved_case may c.scope z.setting bytes to k h).kinds.units (bytes_are text j)
      (reference_is may c.scope results z call d bytes to k need around h (omega (arith, enough))) (omega (arith, enough))
  move_performs to (stat.Source.class_of from class) true h j enough =
      class_law z d k need (need - 1) number at (moved_case may c.scope z.setting true to k h).kinds.type
      (moved_case may c.scope z.setting true from (k + 1) j).kinds.type class (reference c.scope to k) (reference c.scope from (k + 1))
      (λ s. located v call to k s) (λ s. located v call from (k + 1) s)
      (moved_case may c.scope z.setting true to k h).kinds.units (moved_case may c.scope z.setting true from (k + 1) j).kinds.units
      (reference_is may c.scope results z call d true to k need around h (omega (arith, enough)))
      (reference_is may c.scope results z call d true from (k + 1) (need - 1) around j (omega (arith, enough)))
      (omega (arith, enough)) (omega (arith, enough))
  move_performs to (stat.Source.class_of from class) false h j enough = absurd (false≢true j)

pub moves_perform : CountedMovesPerform → TextMovesPerform → ClassMovesPerform → ScansPerform → MovesPerform
moves_perform counted text class scan may c results z call d number (stat.Effect.move to from) at k need around h enough =
    let bytes = leads_to_bytes c.scope to in
    let two = both (is_moved may c.scope z.setting bytes to k) (is_moved_source may c.scope z.setting false bytes from k) h in
    move_performs counted text class scan may c results z call d number at k need around to from bytes two.0 two.1 enough
moves_perform counted text class scan may c results z call d number (stat.Effect.scan from until e) at k need around h enough =
    let two = both (is_moved may c.scope z.setting true from k) (is_covered may c.scope z.setting e (k + 1)) h in
    let v = read_with c.scope results z.setting in
    scan z d k need (need - 1) number at (moved_case may c.scope z.setting true from k two.0).kinds.type until (reference c.scope from k)
    (code c.scope e as_value (k + 1)) (λ s. located v call from k s) (λ s. value v call e (k + 1) s)
    (moved_case may c.scope z.setting true from k two.0).kinds.units
    (reference_is may c.scope results z call d true from k need around two.0 (omega (arith, enough)))
    (covered_whole may c.scope z.setting e (k + 1) two.1)
    (word_gives may c.scope results z call d e (k + 1) (need - 1) around two.1 (omega (arith, enough)))
    (omega (arith, enough)) (omega (arith, enough))

pub covered_moves_perform : MovesPerform
covered_moves_perform = moves_perform counted_perform text_perform class_perform scan_perform
