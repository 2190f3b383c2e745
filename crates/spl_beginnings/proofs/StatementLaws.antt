-- How the code of a statement begins, along the tree.
use Rattle.std.proofs.Common.{◌≡◌, ℕ, ◌+◌, ◌-◌, ◌%◌, ◌/◌, ◌&&◌, nat_le, Bool, true, false, if◌then◌else◌, List, [], ◌∷◌, ◌++◌, replicate, Option, Some, None, is_some, refl}
use Rattle.std.proofs.lemmas.Bool.{false≢true}
use Rattle.spl_sites.specs.hp_instr.declared.instruction.Mode.{Mode}
use Rattle.spl_statement_code.specs.spl_tree.declared.names_and_places.At.{At}
use Rattle.spl_statement_code.specs.spl_tree.declared.expressions.Kind.{Kind}
use Rattle.spl_statement_code.specs.spl_tree.declared.expressions.Kind.TheVariants as kind
use Rattle.spl_statement_code.specs.spl_tree.Trees as tree
use Rattle.spl_statement_code.specs.spl_tree.Trees.{Tree, Trees}
use Rattle.spl_statement_code.specs.spl_tree.StatementTrees as stat
use Rattle.spl_statement_code.specs.spl_tree.StatementTrees.{Statement, Statements, Target, Source, Effect, Test}
use Rattle.spl_statement_code.specs.spl_meaning.Kinds.{callable}
use Rattle.spl_statement_code.specs.spl_meaning.Pending.{waiting, behind_first, behind_second}
use Rattle.spl_statement_code.specs.spl_meaning.Places as p
use Rattle.spl_statement_code.specs.spl_meaning.References.{Access, its_own, by_address, by_cell, its_result, nowhere, access_of}
use Rattle.spl_statement_code.specs.spl_meaning.Values.{small_constant, sense_of}
use Rattle.spl_statement_code.specs.spl_branch.declared.pieces.Piece.{Piece}
use Rattle.spl_statement_code.specs.spl_code.Instructions.{LDI, LRA, DEL, BR}
use Rattle.spl_statement_code.specs.spl_code.Parts.{Part, pieces, piece}
use Rattle.spl_statement_code.specs.spl_code.Constants.{constant}
use Rattle.spl_statement_code.specs.spl_code.Operands.{mode_of}
use Rattle.spl_statement_code.specs.spl_code.Calls.{Scope}
use Rattle.spl_statement_code.specs.spl_code.Code.{as_value, as_test, is_indexed}
use Rattle.spl_statement_code.specs.spl_code.Stores.{stored, field_stored, pointer_stored, own_stored, cell_stored, element_stored, led_stored, own_field, led_field, from_top}
use Rattle.spl_statement_code.specs.Instructions.{TEST, LSUB, SUBS, TBA, MTBA}
use Rattle.spl_statement_code.specs.Landings.{Landing, Context, dropped, jump, gone_to, landed}
use Rattle.spl_statement_code.specs.Assignments.{assigned_access, index_kept, reference_index, target_index, reference_stored, field_of_name_stored, field_of_reference_stored, target_stored, assigned}
use Rattle.spl_statement_code.specs.Effects.{kept_first, told, text_scaled, text_count, move_of, scan_of, leads_to_bytes, source_moved, effect}
use Rattle.spl_statement_code.specs.Statements.{tested, counter, counter_at, step_value, counting, turns, arm, result_dropped, result_of, call_dropped, statement, listed, arms}
use Rattle.spl_sites.specs.Beginnings.{begins_well}
use Rattle.spl_beginnings.specs.Opens.{BeginsWell, Opens, MayOpen}
use Rattle.spl_beginnings.specs.Found.{Lands, has_sense, is_found, are_found}
use Rattle.spl_beginnings.proofs.PartLaws.{Front, left_of, right_of, front_both, front_if, front_rows, front_open, well_pieces, opens_pieces, may_pieces, may_well, open_may, open_well, well_then, opens_then, may_opens, may_then, well_fresh, opens_fresh, well_begun, well_begun_in_two, well_mark}
use Rattle.spl_beginnings.proofs.ExpressionLaws.{front_constant, opens_offset, front_at, opens_related, opens_code, may_reference}
use Rattle.spl_beginnings.proofs.ValueLaws.{opens_value}

-- one piece, behind others
one : (x : Piece) → begins_well false (x ∷ []) ≡ true → BeginsWell (piece x)
one x is = well_pieces (x ∷ []) is

-- ---- jumps

open_dropped : (k : ℕ) → begins_well true (dropped k) ≡ true
open_dropped k = by (nat_le k 255)
  where
    by : (b : Bool) → begins_well true (if b then SUBS k ∷ [] else replicate (k / 255) (SUBS 255) ++ SUBS (k % 255) ∷ []) ≡ true
    by true = refl
    by false =
        front_open (replicate (k / 255) (SUBS 255)) (SUBS (k % 255) ∷ []) (front_rows (k / 255) (SUBS 255) refl) refl

opens_jump : (k mark : ℕ) → Opens (jump k mark)
opens_jump k mark = opens_then (opens_pieces (dropped k) (open_dropped k)) (well_pieces (BR mark ∷ []) refl)

opens_gone : (o : Option Landing) (k : ℕ) → is_some o ≡ true → Opens (gone_to o k)
opens_gone (Some l) k is = opens_jump (k - l.pending) l.mark
opens_gone None k is = absurd (false≢true is)

well_landed : (o : Option Landing) → BeginsWell (landed o)
well_landed (Some l) = well_mark l.mark
well_landed None = well_pieces [] refl

opens_tested : (c : Scope) (q : Test) (fail k : ℕ) → Opens (tested c q fail k)
opens_tested c (stat.Test.condition e) fail k = opens_code c e (as_test fail) k
opens_tested c (stat.Test.code op) fail k = opens_related op fail

-- ---- stores

front_own : (k : Kind) (b : Bool) (mode : Mode) → Front (own_stored k b mode)
front_own kind.Integer true mode = refl
front_own kind.Logical true mode = refl
front_own kind.Byte true mode = refl
front_own kind.Double true mode = refl
front_own kind.Integer false mode = refl
front_own kind.Logical false mode = refl
front_own kind.Byte false mode = refl
front_own kind.Double false mode = refl

front_cell : (k : Kind) (b : Bool) (mode : Mode) → Front (cell_stored k b mode)
front_cell kind.Integer true mode = refl
front_cell kind.Logical true mode = refl
front_cell kind.Byte true mode = refl
front_cell kind.Double true mode = refl
front_cell kind.Integer false mode = refl
front_cell kind.Logical false mode = refl
front_cell kind.Byte false mode = refl
front_cell kind.Double false mode = refl

front_element : (k : Kind) (b : Bool) (mode : Mode) → Front (element_stored k b mode)
front_element kind.Integer true mode = refl
front_element kind.Logical true mode = refl
front_element kind.Byte true mode = refl
front_element kind.Double true mode = refl
front_element kind.Integer false mode = refl
front_element kind.Logical false mode = refl
front_element kind.Byte false mode = refl
front_element kind.Double false mode = refl

front_led : (k : Kind) (i b : Bool) (mode : Mode) → Front (led_stored k i b mode)
front_led k true b mode = front_element k b mode
front_led k false b mode = front_cell k b mode

front_stored : (a : Access) (i : Bool) (k : ℕ) (place : p.Place) → Front (stored a i k place)
front_stored (its_own d) i k place = front_own d (from_top place) (mode_of k place)
front_stored (by_address d) i k place = front_led d i (from_top place) (mode_of k place)
front_stored (by_cell b d) i k place = front_led d i (from_top place) (mode_of k place)
front_stored its_result i k place = refl
front_stored nowhere i k place = refl

front_own_field : (s z : ℕ) (b : Bool) (mode : Mode) → Front (own_field s z b mode)
front_own_field s z true mode = refl
front_own_field s z false mode = refl

front_led_field : (s z : ℕ) (i b : Bool) (mode : Mode) → Front (led_field s z i b mode)
front_led_field s z true true mode = refl
front_led_field s z true false mode = refl
front_led_field s z false true mode = refl
front_led_field s z false false mode = refl

front_field_stored : (a : Access) (s z : ℕ) (i : Bool) (k : ℕ) (place : p.Place) → Front (field_stored a s z i k place)
front_field_stored (its_own d) s z i k place = front_own_field s z (from_top place) (mode_of k place)
front_field_stored (by_address d) s z i k place = front_led_field s z i (from_top place) (mode_of k place)
front_field_stored (by_cell b d) s z i k place = front_led_field s z i (from_top place) (mode_of k place)
front_field_stored its_result s z i k place = refl
front_field_stored nowhere s z i k place = refl

front_in_reference : (c : Scope) (r : Tree) (k : ℕ) → Front (reference_stored c r k)
front_in_reference c (tree.Tree.named x es at) k =
    front_at (c.places x) _ (λ place. front_stored (assigned_access (c.names x)) (is_indexed es) k place)
front_in_reference c (tree.Tree.number v) k = refl
front_in_reference c (tree.Tree.wide v) k = refl
front_in_reference c (tree.Tree.text bytes) k = refl
front_in_reference c (tree.Tree.truth b) k = refl
front_in_reference c (tree.Tree.address x es at) k = refl
front_in_reference c (tree.Tree.unary op e at) k = refl
front_in_reference c (tree.Tree.binary op a b at) k = refl
front_in_reference c (tree.Tree.shift op e by at) k = refl
front_in_reference c (tree.Tree.field e start size at) k = refl
front_in_reference c (tree.Tree.transfer to e at) k = refl
front_in_reference c (tree.Tree.bytes op a b count at) k = refl

front_in_name : (c : Scope) (x : List ℕ) (i : Bool) (s z k : ℕ) → Front (field_of_name_stored c x i s z k)
front_in_name c x i s z k =
    front_if (nat_le 1 z && nat_le (s + z) 16) _ _ (front_at (c.places x) _ (λ place. front_field_stored (assigned_access (c.names x)) s z i k place)) refl

front_in_field : (c : Scope) (r : Tree) (s z k : ℕ) → Front (field_of_reference_stored c r s z k)
front_in_field c (tree.Tree.named x es at) s z k = front_in_name c x (is_indexed es) s z k
front_in_field c (tree.Tree.number v) s z k = refl
front_in_field c (tree.Tree.wide v) s z k = refl
front_in_field c (tree.Tree.text bytes) s z k = refl
front_in_field c (tree.Tree.truth b) s z k = refl
front_in_field c (tree.Tree.address x es at) s z k = refl
front_in_field c (tree.Tree.unary op e at) s z k = refl
front_in_field c (tree.Tree.binary op a b at) s z k = refl
front_in_field c (tree.Tree.shift op e by at) s z k = refl
front_in_field c (tree.Tree.field e start size at) s z k = refl
front_in_field c (tree.Tree.transfer to e at) s z k = refl
front_in_field c (tree.Tree.bytes op a b count at) s z k = refl

front_in_target : (c : Scope) (to : Target) (k : ℕ) → Front (target_stored c to k)
front_in_target c (stat.Target.plain r) k = front_in_reference c r k
front_in_target c (stat.Target.field r start size) k = front_in_field c r (small_constant c.names start) (small_constant c.names size) k
front_in_target c (stat.Target.address x at) k = front_at (c.places x) (λ place. pointer_stored k place) (λ place. refl)

-- ---- targets

may_kept : (c : Scope) (es : Trees) (k : ℕ) → MayOpen (index_kept c es k)
may_kept c tree.Trees.none k = may_pieces [] refl
may_kept c (tree.Trees.and e es) k = opens_code c e as_value k

may_reference_index : (c : Scope) (r : Tree) (k : ℕ) → MayOpen (reference_index c r k)
may_reference_index c (tree.Tree.named x es at) k = may_kept c es k
may_reference_index c (tree.Tree.number v) k = may_pieces [] refl
may_reference_index c (tree.Tree.wide v) k = may_pieces [] refl
may_reference_index c (tree.Tree.text bytes) k = may_pieces [] refl
may_reference_index c (tree.Tree.truth b) k = may_pieces [] refl
may_reference_index c (tree.Tree.address x es at) k = may_pieces [] refl
may_reference_index c (tree.Tree.unary op e at) k = may_pieces [] refl
may_reference_index c (tree.Tree.binary op a b at) k = may_pieces [] refl
may_reference_index c (tree.Tree.shift op e by at) k = may_pieces [] refl
may_reference_index c (tree.Tree.field e start size at) k = may_pieces [] refl
may_reference_index c (tree.Tree.transfer to e at) k = may_pieces [] refl
may_reference_index c (tree.Tree.bytes op a b count at) k = may_pieces [] refl

may_target_index : (c : Scope) (to : Target) (k : ℕ) → MayOpen (target_index c to k)
may_target_index c (stat.Target.plain r) k = may_reference_index c r k
may_target_index c (stat.Target.field r start size) k = may_reference_index c r k
may_target_index c (stat.Target.address x at) k = may_pieces [] refl

opens_assigned : (c : Scope) (to : Target) (value : ℕ → Part) (k : ℕ) → ((j : ℕ) → Opens (value j)) → Opens (assigned c to value k)
opens_assigned c to value k h =
    opens_then (may_opens (may_target_index c to k) (h (waiting to k))) (may_well (may_pieces (target_stored c to k) (front_in_target c to k)))

-- ---- MOVE and SCAN

front_kept_first : (used : Bool) → Front (kept_first used)
front_kept_first true = refl
front_kept_first false = refl

open_told : (used : Bool) → begins_well true (told used) ≡ true
open_told true = refl
open_told false = refl

open_scaled : (bytes : Bool) → Front (text_scaled bytes)
open_scaled true = refl
open_scaled false = refl

opens_move : (bytes : Bool) (k : ℕ) → Opens (piece (move_of bytes k))
opens_move true k = opens_pieces _ refl
opens_move false k = opens_pieces _ refl

opens_scan : (until : Bool) → Opens (piece (scan_of until))
opens_scan true = opens_pieces _ refl
opens_scan false = opens_pieces _ refl

opens_source : (c : Scope) (used bytes : Bool) (from : Source) (k : ℕ) → Opens (source_moved c used bytes from k)
opens_source c used bytes (stat.Source.counted from count) k =
    may_opens (may_then (may_reference c from (behind_first used k)) (opens_code c count as_value (behind_second used k))) (opens_move bytes 0)
opens_source c used bytes (stat.Source.text text) k =
    opens_then (opens_then (opens_then (opens_offset text) (may_well (may_pieces (text_scaled bytes) (open_scaled bytes))))
    (may_well (may_pieces (constant (text_count bytes text % 65536)) (front_constant (text_count bytes text % 65536))))) (open_well (opens_move bytes 1))
opens_source c used bytes (stat.Source.class_of from class) k = may_opens (may_reference c from (behind_first used k)) (opens_pieces _ refl)

opens_effect : (c : Scope) (used : Bool) (e : Effect) (k : ℕ) → Opens (effect c used e k)
opens_effect c used (stat.Effect.move to from) k =
    opens_then (may_opens (may_then (may_reference c to k) (may_pieces (kept_first used) (front_kept_first used)))
    (opens_source c used (leads_to_bytes c to) from k)) (open_well (opens_pieces (told used) (open_told used)))
opens_effect c used (stat.Effect.scan from until test) k =
    opens_then (may_opens (may_then (may_then (may_reference c from k) (may_pieces (kept_first used) (front_kept_first used)))
    (opens_code c test as_value (behind_first used k))) (opens_scan until)) (open_well (opens_pieces (told used) (open_told used)))

-- ---- FOR and CASE

front_counter_at : (a : Access) (b : Bool) (mode : Mode) → Front (counter_at a b mode)
front_counter_at (its_own k) b mode = front_both (own_stored k b mode) (LRA false false mode ∷ []) (front_own k b mode) refl
front_counter_at (by_address k) true mode = refl
front_counter_at (by_address k) false mode = refl
front_counter_at (by_cell c k) b mode = refl
front_counter_at its_result b mode = refl
front_counter_at nowhere b mode = refl

may_counter : (c : Scope) (x : List ℕ) (k : ℕ) → MayOpen (pieces (counter c x k))
may_counter c x k = may_pieces (counter c x k)
    (front_at (c.places x) _ (λ place. front_counter_at (access_of (c.names x)) (from_top place) (mode_of k place)))

may_step : (c : Scope) (es : Trees) (k : ℕ) → MayOpen (step_value c es k)
may_step c tree.Trees.none k = may_pieces (LDI 1 ∷ []) refl
may_step c (tree.Trees.and e es) k = opens_code c e as_value k

may_counting : (c : Scope) (x : List ℕ) (first : Tree) (step : Trees) (last : Tree) (k : ℕ) → MayOpen (counting c x first step last k)
may_counting c x first step last k =
    may_then (may_then (may_then (opens_code c first as_value k) (may_counter c x k)) (may_step c step (k + 1))) (opens_code c last as_value (k + 2))

opens_turns : (body : Part) → BeginsWell body → Opens (turns body)
opens_turns body h = opens_fresh _ (λ again. opens_fresh _ (λ end.
    opens_then (opens_then (opens_then (opens_then (opens_then (opens_pieces (TBA again ∷ []) refl) (one (BR end) refl)) (well_mark again)) h)
    (one (MTBA again) refl)) (well_mark end)))

opens_arm : (body : Part) (end : ℕ) → BeginsWell body → Opens (arm body end)
opens_arm body end h = opens_fresh _ (λ next.
    opens_then (opens_then (opens_then (opens_then (opens_then (opens_then (opens_then (opens_pieces (TEST ∷ []) refl) (open_well (opens_related 0 next))) (one DEL refl)) h)
    (one (BR end) refl)) (well_mark next)) (one (LDI 1) refl)) (one LSUB refl))

-- ---- calls

front_result : (k : Option Kind) → Front (result_dropped k)
front_result None = refl
front_result (Some kind.Integer) = refl
front_result (Some kind.Logical) = refl
front_result (Some kind.Byte) = refl
front_result (Some kind.Double) = refl

opens_call : (c : Scope) (x : List ℕ) (es : Trees) (at : At) (k : ℕ) → has_sense c x (sense_of x (c.names x)) ≡ true → Opens (call_dropped c x es at k)
opens_call c x es at k is =
    let result = result_of (callable (c.names x)) in
    opens_then (opens_value c (tree.Tree.named x es at) k is) (may_well (may_pieces (result_dropped result) (front_result result)))

-- ---- along the tree

mutual
  pub well_statement : (c : Context) (labels : List ℕ → Bool) → Lands c labels → (s : Statement) → is_found c.scope labels s ≡ true → (k : ℕ) → BeginsWell (statement c s k)
  well_statement c labels lands stat.Statement.empty is k = one (SUBS 0) refl
  well_statement c labels lands (stat.Statement.labelled x at s) is k =
      well_then (well_then (well_landed (c.landings x)) (one (SUBS 0) refl)) (well_statement c labels lands s is k)
  well_statement c labels lands (stat.Statement.block ss) is k = well_then (one (SUBS 0) refl) (well_listed c labels lands ss is k)
  well_statement c labels lands (stat.Statement.if_test q s stat.Statements.none at) is k =
      let first = well_statement c labels lands s (left_of (is_found c.scope labels s) (are_found c.scope labels stat.Statements.none) is) k in
      well_begun at (opens_fresh _ (λ fail. opens_then (opens_then (opens_tested c.scope q fail k) first) (well_mark fail)))
  well_statement c labels lands (stat.Statement.if_test q s (stat.Statements.and t ss) at) is k =
      let first = well_statement c labels lands s (left_of (is_found c.scope labels s) (are_found c.scope labels (stat.Statements.and t ss)) is) k in
      let others = right_of (is_found c.scope labels s) (are_found c.scope labels (stat.Statements.and t ss)) is in
      let other = well_statement c labels lands t (left_of (is_found c.scope labels t) (are_found c.scope labels ss) others) k in
      well_begun at (opens_fresh _ (λ fail. opens_fresh _ (λ end.
      opens_then (opens_then (opens_then (opens_then (opens_then (opens_tested c.scope q fail k) first) (one (BR end) refl)) (well_mark fail)) other)
      (well_mark end))))
  well_statement c labels lands (stat.Statement.while_true e s at) is k =
      well_fresh _ (λ next. well_fresh _ (λ end.
      well_then (well_then (well_then (well_then (well_mark next) (open_well (opens_code c.scope e (as_test end) k)))
      (well_statement c labels lands s is k)) (one (BR next) refl)) (well_mark end)))
  well_statement c labels lands (stat.Statement.until_true s e at) is k =
      well_fresh _ (λ again.
      well_then (well_then (well_then (one (SUBS 0) refl) (well_mark again)) (well_statement c labels lands s is k))
      (open_well (opens_code c.scope e (as_test again) k)))
  well_statement c labels lands (stat.Statement.for_values x first step last s at) is k =
      well_begun_in_two at (may_counting c.scope x first step last k)
      (opens_turns (statement c s (k + 3)) (well_statement c labels lands s is (k + 3)))
  well_statement c labels lands (stat.Statement.case_of e ss at) is k =
      well_begun at (opens_fresh _ (λ end.
      opens_then (may_opens (may_then (opens_code c.scope e as_value k) (may_arms c labels lands ss is k end)) (opens_pieces (DEL ∷ []) refl)) (well_mark end)))
  well_statement c labels lands (stat.Statement.go_to x at) is k = well_begun at (opens_gone (c.landings x) k (lands x is))
  well_statement c labels lands (stat.Statement.return at) is k = well_begun at (opens_jump k c.leave)
  well_statement c labels lands (stat.Statement.assign to e at) is k = well_begun at (opens_assigned c.scope to _ k (λ j. opens_value c.scope e j is))
  well_statement c labels lands (stat.Statement.assign_effect to e at) is k = well_begun at (opens_assigned c.scope to _ k (λ j. opens_effect c.scope true e j))
  well_statement c labels lands (stat.Statement.do_effect e at) is k = well_begun at (opens_effect c.scope false e k)
  well_statement c labels lands (stat.Statement.call x es at) is k = well_begun at (opens_call c.scope x es at k is)

  pub well_listed : (c : Context) (labels : List ℕ → Bool) → Lands c labels → (ss : Statements) → are_found c.scope labels ss ≡ true → (k : ℕ) → BeginsWell (listed c ss k)
  well_listed c labels lands stat.Statements.none is k = well_pieces [] refl
  well_listed c labels lands (stat.Statements.and s ss) is k =
      well_then (well_statement c labels lands s (left_of (is_found c.scope labels s) (are_found c.scope labels ss) is) k)
      (well_listed c labels lands ss (right_of (is_found c.scope labels s) (are_found c.scope labels ss) is) k)

  may_arms : (c : Context) (labels : List ℕ → Bool) → Lands c labels → (ss : Statements) → are_found c.scope labels ss ≡ true → (k end : ℕ) → MayOpen (arms c ss k end)
  may_arms c labels lands stat.Statements.none is k end = may_pieces [] refl
  may_arms c labels lands (stat.Statements.and s ss) is k end =
      open_may (opens_then (opens_arm (statement c s k) end (well_statement c labels lands s (left_of (is_found c.scope labels s) (are_found c.scope labels ss) is) k))
      (may_well (may_arms c labels lands ss (right_of (is_found c.scope labels s) (are_found c.scope labels ss) is) k end)))
