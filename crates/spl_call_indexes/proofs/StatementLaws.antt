-- The calls in the code of a statement, along the tree.
use Rattle.std.proofs.Common.{ℕ, ◌+◌, ◌-◌, ◌%◌, ◌/◌, ◌&&◌, nat_le, Bool, true, false, List, [], ◌∷◌, ◌++◌, replicate, Option, Some, None, refl}
use Rattle.spl_module_code.specs.hp_instr.declared.instruction.Mode.{Mode}
use Rattle.spl_module_code.specs.spl_tree.declared.names_and_places.At.{At}
use Rattle.spl_module_code.specs.spl_tree.declared.expressions.Kind.{Kind}
use Rattle.spl_module_code.specs.spl_tree.declared.expressions.Kind.TheVariants as kind
use Rattle.spl_module_code.specs.spl_tree.Trees as tree
use Rattle.spl_module_code.specs.spl_tree.Trees.{Tree, Trees}
use Rattle.spl_module_code.specs.spl_tree.StatementTrees as stat
use Rattle.spl_module_code.specs.spl_tree.StatementTrees.{Statement, Statements, Target, Source, Effect, Test}
use Rattle.spl_module_code.specs.spl_meaning.Kinds.{callable}
use Rattle.spl_module_code.specs.spl_meaning.Pending.{waiting, behind_first, behind_second}
use Rattle.spl_module_code.specs.spl_meaning.Places as p
use Rattle.spl_module_code.specs.spl_meaning.References.{Access, its_own, by_address, by_cell, its_result, nowhere, access_of}
use Rattle.spl_module_code.specs.spl_meaning.Values.{small_constant}
use Rattle.spl_module_code.specs.spl_branch.declared.pieces.Piece.{Piece}
use Rattle.spl_module_code.specs.spl_branch.declared.pieces.Piece.TheVariants.{Begin, Mark}
use Rattle.spl_module_code.specs.spl_code.Instructions.{LDI, LRA, DEL, BR}
use Rattle.spl_module_code.specs.spl_code.Parts.{Part, pieces, piece}
use Rattle.spl_module_code.specs.spl_code.Constants.{constant}
use Rattle.spl_module_code.specs.spl_code.Operands.{mode_of}
use Rattle.spl_module_code.specs.spl_code.Calls.{Scope}
use Rattle.spl_module_code.specs.spl_code.Code.{as_value, as_test, is_indexed}
use Rattle.spl_module_code.specs.spl_code.Stores.{stored, field_stored, pointer_stored, own_stored, cell_stored, element_stored, led_stored, own_field, led_field, from_top}
use Rattle.spl_module_code.specs.spl_statement_code.Instructions.{TEST, LSUB, SUBS, TBA, MTBA}
use Rattle.spl_module_code.specs.spl_statement_code.Landings.{Landing, Context, dropped, jump, gone_to, landed}
use Rattle.spl_module_code.specs.spl_statement_code.Assignments.{assigned_access, index_kept, reference_index, target_index, reference_stored, field_of_name_stored, field_of_reference_stored, target_stored, assigned}
use Rattle.spl_module_code.specs.spl_statement_code.Effects.{kept_first, told, text_scaled, text_count, move_of, scan_of, leads_to_bytes, source_moved, effect}
use Rattle.spl_module_code.specs.spl_statement_code.Statements.{tested, counter, counter_at, step_value, turns, arm, result_dropped, result_of, call_dropped, statement, listed, arms}
use Rattle.spl_call_indexes.specs.Indexes.{IsIndexedPart, EntriesBelow}
use Rattle.spl_call_indexes.proofs.PartLaws.{Plain, plain_both, plain_if, plain_rows, indexed_pieces, indexed_then, indexed_fresh}
use Rattle.spl_call_indexes.proofs.ExpressionLaws.{plain_constant, indexed_offset, plain_at, indexed_related, indexed_code, indexed_reference}

-- one piece that is no call
one : {n : ℕ} (x : Piece) → Plain (x ∷ []) → IsIndexedPart n (piece x)
one x plain = indexed_pieces (x ∷ []) plain

-- ---- jumps

plain_dropped : (k : ℕ) → Plain (dropped k)
plain_dropped k =
    plain_if (nat_le k 255) (SUBS k ∷ []) (replicate (k / 255) (SUBS 255) ++ SUBS (k % 255) ∷ []) (λ m n. refl)
    (plain_both (replicate (k / 255) (SUBS 255)) (SUBS (k % 255) ∷ []) (plain_rows (k / 255) (SUBS 255) (λ m n. refl)) (λ m n. refl))

indexed_jump : {n : ℕ} (k mark : ℕ) → IsIndexedPart n (jump k mark)
indexed_jump k mark = indexed_then (indexed_pieces (dropped k) (plain_dropped k)) (one (BR mark) (λ m n. refl))

indexed_gone : {n : ℕ} (o : Option Landing) (k : ℕ) → IsIndexedPart n (gone_to o k)
indexed_gone (Some l) k = indexed_jump (k - l.pending) l.mark
indexed_gone None k = indexed_pieces [] (λ m n. refl)

indexed_landed : {n : ℕ} (o : Option Landing) → IsIndexedPart n (landed o)
indexed_landed (Some l) = one (Mark l.mark) (λ m n. refl)
indexed_landed None = indexed_pieces [] (λ m n. refl)

indexed_tested : {n : ℕ} (c : Scope) → EntriesBelow n c → (q : Test) (fail k : ℕ) → IsIndexedPart n (tested c q fail k)
indexed_tested {n} c below (stat.Test.condition e) fail k = indexed_code n c below e (as_test fail) k
indexed_tested c below (stat.Test.code op) fail k = indexed_related op fail

-- ---- stores

plain_own : (k : Kind) (b : Bool) (mode : Mode) → Plain (own_stored k b mode)
plain_own kind.Integer true mode = λ m n. refl
plain_own kind.Logical true mode = λ m n. refl
plain_own kind.Byte true mode = λ m n. refl
plain_own kind.Double true mode = λ m n. refl
plain_own kind.Integer false mode = λ m n. refl
plain_own kind.Logical false mode = λ m n. refl
plain_own kind.Byte false mode = λ m n. refl
plain_own kind.Double false mode = λ m n. refl

plain_cell : (k : Kind) (b : Bool) (mode : Mode) → Plain (cell_stored k b mode)
plain_cell kind.Integer true mode = λ m n. refl
plain_cell kind.Logical true mode = λ m n. refl
plain_cell kind.Byte true mode = λ m n. refl
plain_cell kind.Double true mode = λ m n. refl
plain_cell kind.Integer false mode = λ m n. refl
plain_cell kind.Logical false mode = λ m n. refl
plain_cell kind.Byte false mode = λ m n. refl
plain_cell kind.Double false mode = λ m n. refl

plain_element : (k : Kind) (b : Bool) (mode : Mode) → Plain (element_stored k b mode)
plain_element kind.Integer true mode = λ m n. refl
plain_element kind.Logical true mode = λ m n. refl
plain_element kind.Byte true mode = λ m n. refl
plain_element kind.Double true mode = λ m n. refl
plain_element kind.Integer false mode = λ m n. refl
plain_element kind.Logical false mode = λ m n. refl
plain_element kind.Byte false mode = λ m n. refl
plain_element kind.Double false mode = λ m n. refl

plain_led : (k : Kind) (i b : Bool) (mode : Mode) → Plain (led_stored k i b mode)
plain_led k true b mode = plain_element k b mode
plain_led k false b mode = plain_cell k b mode

plain_stored : (a : Access) (i : Bool) (k : ℕ) (place : p.Place) → Plain (stored a i k place)
plain_stored (its_own d) i k place = plain_own d (from_top place) (mode_of k place)
plain_stored (by_address d) i k place = plain_led d i (from_top place) (mode_of k place)
plain_stored (by_cell b d) i k place = plain_led d i (from_top place) (mode_of k place)
plain_stored its_result i k place = λ m n. refl
plain_stored nowhere i k place = λ m n. refl

plain_own_field : (s z : ℕ) (b : Bool) (mode : Mode) → Plain (own_field s z b mode)
plain_own_field s z true mode = λ m n. refl
plain_own_field s z false mode = λ m n. refl

plain_led_field : (s z : ℕ) (i b : Bool) (mode : Mode) → Plain (led_field s z i b mode)
plain_led_field s z true true mode = λ m n. refl
plain_led_field s z true false mode = λ m n. refl
plain_led_field s z false true mode = λ m n. refl
plain_led_field s z false false mode = λ m n. refl

plain_field_stored : (a : Access) (s z : ℕ) (i : Bool) (k : ℕ) (place : p.Place) → Plain (field_stored a s z i k place)
plain_field_stored (its_own d) s z i k place = plain_own_field s z (from_top place) (mode_of k place)
plain_field_stored (by_address d) s z i k place = plain_led_field s z i (from_top place) (mode_of k place)
plain_field_stored (by_cell b d) s z i k place = plain_led_field s z i (from_top place) (mode_of k place)
plain_field_stored its_result s z i k place = λ m n. refl
plain_field_stored nowhere s z i k place = λ m n. refl

plain_in_reference : (c : Scope) (r : Tree) (k : ℕ) → Plain (reference_stored c r k)
plain_in_reference c (tree.Tree.named x es at) k =
    plain_at (c.places x) _ (λ place. plain_stored (assigned_access (c.names x)) (is_indexed es) k place)
plain_in_reference c (tree.Tree.number v) k = λ m n. refl
plain_in_reference c (tree.Tree.wide v) k = λ m n. refl
plain_in_reference c (tree.Tree.text bytes) k = λ m n. refl
plain_in_reference c (tree.Tree.truth b) k = λ m n. refl
plain_in_reference c (tree.Tree.address x es at) k = λ m n. refl
plain_in_reference c (tree.Tree.unary op e at) k = λ m n. refl
plain_in_reference c (tree.Tree.binary op a b at) k = λ m n. refl
plain_in_reference c (tree.Tree.shift op e by at) k = λ m n. refl
plain_in_reference c (tree.Tree.field e start size at) k = λ m n. refl
plain_in_reference c (tree.Tree.transfer to e at) k = λ m n. refl
plain_in_reference c (tree.Tree.bytes op a b count at) k = λ m n. refl

plain_in_name : (c : Scope) (x : List ℕ) (i : Bool) (s z k : ℕ) → Plain (field_of_name_stored c x i s z k)
plain_in_name c x i s z k =
    plain_if (nat_le 1 z && nat_le (s + z) 16) _ _ (plain_at (c.places x) _ (λ place. plain_field_stored (assigned_access (c.names x)) s z i k place)) (λ m n. refl)

plain_in_field : (c : Scope) (r : Tree) (s z k : ℕ) → Plain (field_of_reference_stored c r s z k)
plain_in_field c (tree.Tree.named x es at) s z k = plain_in_name c x (is_indexed es) s z k
plain_in_field c (tree.Tree.number v) s z k = λ m n. refl
plain_in_field c (tree.Tree.wide v) s z k = λ m n. refl
plain_in_field c (tree.Tree.text bytes) s z k = λ m n. refl
plain_in_field c (tree.Tree.truth b) s z k = λ m n. refl
plain_in_field c (tree.Tree.address x es at) s z k = λ m n. refl
plain_in_field c (tree.Tree.unary op e at) s z k = λ m n. refl
plain_in_field c (tree.Tree.binary op a b at) s z k = λ m n. refl
plain_in_field c (tree.Tree.shift op e by at) s z k = λ m n. refl
plain_in_field c (tree.Tree.field e start size at) s z k = λ m n. refl
plain_in_field c (tree.Tree.transfer to e at) s z k = λ m n. refl
plain_in_field c (tree.Tree.bytes op a b count at) s z k = λ m n. refl

plain_in_target : (c : Scope) (to : Target) (k : ℕ) → Plain (target_stored c to k)
plain_in_target c (stat.Target.plain r) k = plain_in_reference c r k
plain_in_target c (stat.Target.field r start size) k = plain_in_field c r (small_constant c.names start) (small_constant c.names size) k
plain_in_target c (stat.Target.address x at) k = plain_at (c.places x) (λ place. pointer_stored k place) (λ place m n. refl)

-- ---- targets

indexed_kept : {n : ℕ} (c : Scope) → EntriesBelow n c → (es : Trees) (k : ℕ) → IsIndexedPart n (index_kept c es k)
indexed_kept c below tree.Trees.none k = indexed_pieces [] (λ m n. refl)
indexed_kept {n} c below (tree.Trees.and e es) k = indexed_code n c below e as_value k

indexed_reference_index : {n : ℕ} (c : Scope) → EntriesBelow n c → (r : Tree) (k : ℕ) → IsIndexedPart n (reference_index c r k)
indexed_reference_index c below (tree.Tree.named x es at) k = indexed_kept c below es k
indexed_reference_index c below (tree.Tree.number v) k = indexed_pieces [] (λ m n. refl)
indexed_reference_index c below (tree.Tree.wide v) k = indexed_pieces [] (λ m n. refl)
indexed_reference_index c below (tree.Tree.text bytes) k = indexed_pieces [] (λ m n. refl)
indexed_reference_index c below (tree.Tree.truth b) k = indexed_pieces [] (λ m n. refl)
indexed_reference_index c below (tree.Tree.address x es at) k = indexed_pieces [] (λ m n. refl)
indexed_reference_index c below (tree.Tree.unary op e at) k = indexed_pieces [] (λ m n. refl)
indexed_reference_index c below (tree.Tree.binary op a b at) k = indexed_pieces [] (λ m n. refl)
indexed_reference_index c below (tree.Tree.shift op e by at) k = indexed_pieces [] (λ m n. refl)
indexed_reference_index c below (tree.Tree.field e start size at) k = indexed_pieces [] (λ m n. refl)
indexed_reference_index c below (tree.Tree.transfer to e at) k = indexed_pieces [] (λ m n. refl)
indexed_reference_index c below (tree.Tree.bytes op a b count at) k = indexed_pieces [] (λ m n. refl)

indexed_target_index : {n : ℕ} (c : Scope) → EntriesBelow n c → (to : Target) (k : ℕ) → IsIndexedPart n (target_index c to k)
indexed_target_index c below (stat.Target.plain r) k = indexed_reference_index c below r k
indexed_target_index c below (stat.Target.field r start size) k = indexed_reference_index c below r k
indexed_target_index c below (stat.Target.address x at) k = indexed_pieces [] (λ m n. refl)

indexed_assigned : {n : ℕ} (c : Scope) → EntriesBelow n c → (to : Target) (value : ℕ → Part) (k : ℕ) → ((j : ℕ) → IsIndexedPart n (value j))
    → IsIndexedPart n (assigned c to value k)
indexed_assigned c below to value k h =
    indexed_then (indexed_then (indexed_target_index c below to k) (h (waiting to k))) (indexed_pieces (target_stored c to k) (plain_in_target c to k))

-- ---- MOVE and SCAN

plain_kept_first : (used : Bool) → Plain (kept_first used)
plain_kept_first true = λ m n. refl
plain_kept_first false = λ m n. refl

plain_told : (used : Bool) → Plain (told used)
plain_told true = λ m n. refl
plain_told false = λ m n. refl

plain_scaled : (bytes : Bool) → Plain (text_scaled bytes)
plain_scaled true = λ m n. refl
plain_scaled false = λ m n. refl

plain_move : (bytes : Bool) (k : ℕ) → Plain (move_of bytes k ∷ [])
plain_move true k = λ m n. refl
plain_move false k = λ m n. refl

plain_scan : (until : Bool) → Plain (scan_of until ∷ [])
plain_scan true = λ m n. refl
plain_scan false = λ m n. refl

indexed_source : {n : ℕ} (c : Scope) → EntriesBelow n c → (used bytes : Bool) (from : Source) (k : ℕ) → IsIndexedPart n (source_moved c used bytes from k)
indexed_source {n} c below used bytes (stat.Source.counted from count) k =
    indexed_then (indexed_then (indexed_reference n c below from (behind_first used k)) (indexed_code n c below count as_value (behind_second used k)))
    (one (move_of bytes 0) (plain_move bytes 0))
indexed_source c below used bytes (stat.Source.text text) k =
    indexed_then (indexed_then (indexed_then (indexed_offset text) (indexed_pieces (text_scaled bytes) (plain_scaled bytes)))
    (indexed_pieces (constant (text_count bytes text % 65536)) (plain_constant (text_count bytes text % 65536)))) (one (move_of bytes 1) (plain_move bytes 1))
indexed_source {n} c below used bytes (stat.Source.class_of from class) k =
    indexed_then (indexed_reference n c below from (behind_first used k)) (one _ (λ m n. refl))

indexed_effect : {n : ℕ} (c : Scope) → EntriesBelow n c → (used : Bool) (e : Effect) (k : ℕ) → IsIndexedPart n (effect c used e k)
indexed_effect {n} c below used (stat.Effect.move to from) k =
    indexed_then (indexed_then (indexed_then (indexed_reference n c below to k) (indexed_pieces (kept_first used) (plain_kept_first used)))
    (indexed_source c below used (leads_to_bytes c to) from k)) (indexed_pieces (told used) (plain_told used))
indexed_effect {n} c below used (stat.Effect.scan from until test) k =
    indexed_then (indexed_then (indexed_then (indexed_then (indexed_reference n c below from k) (indexed_pieces (kept_first used) (plain_kept_first used)))
    (indexed_code n c below test as_value (behind_first used k))) (one (scan_of until) (plain_scan until))) (indexed_pieces (told used) (plain_told used))

-- ---- FOR and CASE

plain_counter_at : (a : Access) (b : Bool) (mode : Mode) → Plain (counter_at a b mode)
plain_counter_at (its_own k) b mode = plain_both (own_stored k b mode) (LRA false false mode ∷ []) (plain_own k b mode) (λ m n. refl)
plain_counter_at (by_address k) true mode = λ m n. refl
plain_counter_at (by_address k) false mode = λ m n. refl
plain_counter_at (by_cell c k) b mode = λ m n. refl
plain_counter_at its_result b mode = λ m n. refl
plain_counter_at nowhere b mode = λ m n. refl

indexed_counter : {n : ℕ} (c : Scope) (x : List ℕ) (k : ℕ) → IsIndexedPart n (pieces (counter c x k))
indexed_counter c x k = indexed_pieces (counter c x k)
    (plain_at (c.places x) _ (λ place. plain_counter_at (access_of (c.names x)) (from_top place) (mode_of k place)))

indexed_step : {n : ℕ} (c : Scope) → EntriesBelow n c → (es : Trees) (k : ℕ) → IsIndexedPart n (step_value c es k)
indexed_step c below tree.Trees.none k = one (LDI 1) (λ m n. refl)
indexed_step {n} c below (tree.Trees.and e es) k = indexed_code n c below e as_value k

indexed_turns : {n : ℕ} (body : Part) → IsIndexedPart n body → IsIndexedPart n (turns body)
indexed_turns body h = indexed_fresh _ (λ again. indexed_fresh _ (λ end.
    indexed_then (indexed_then (indexed_then (indexed_then (indexed_then (one (TBA again) (λ m n. refl)) (one (BR end) (λ m n. refl))) (one (Mark again) (λ m n. refl))) h)
    (one (MTBA again) (λ m n. refl))) (one (Mark end) (λ m n. refl))))

indexed_arm : {n : ℕ} (body : Part) (end : ℕ) → IsIndexedPart n body → IsIndexedPart n (arm body end)
indexed_arm body end h = indexed_fresh _ (λ next.
    indexed_then (indexed_then (indexed_then (indexed_then (indexed_then (indexed_then (indexed_then (one TEST (λ m n. refl)) (indexed_related 0 next)) (one DEL (λ m n. refl))) h)
    (one (BR end) (λ m n. refl))) (one (Mark next) (λ m n. refl))) (one (LDI 1) (λ m n. refl))) (one LSUB (λ m n. refl)))

-- ---- calls

plain_result : (k : Option Kind) → Plain (result_dropped k)
plain_result None = λ m n. refl
plain_result (Some kind.Integer) = λ m n. refl
plain_result (Some kind.Logical) = λ m n. refl
plain_result (Some kind.Byte) = λ m n. refl
plain_result (Some kind.Double) = λ m n. refl

indexed_call : {n : ℕ} (c : Scope) → EntriesBelow n c → (x : List ℕ) (es : Trees) (at : At) (k : ℕ) → IsIndexedPart n (call_dropped c x es at k)
indexed_call {n} c below x es at k =
    let result = result_of (callable (c.names x)) in
    indexed_then (indexed_code n c below (tree.Tree.named x es at) as_value k) (indexed_pieces (result_dropped result) (plain_result result))

-- ---- along the tree

mutual
  pub indexed_statement : (n : ℕ) (c : Context) → EntriesBelow n c.scope → (s : Statement) (k : ℕ) → IsIndexedPart n (statement c s k)
  indexed_statement n c below stat.Statement.empty k = one (SUBS 0) (λ m n. refl)
  indexed_statement n c below (stat.Statement.labelled x at s) k =
      indexed_then (indexed_then (indexed_landed (c.landings x)) (one (SUBS 0) (λ m n. refl))) (indexed_statement n c below s k)
  indexed_statement n c below (stat.Statement.block ss) k = indexed_then (one (SUBS 0) (λ m n. refl)) (indexed_listed n c below ss k)
  indexed_statement n c below (stat.Statement.if_test q s stat.Statements.none at) k =
      indexed_then (one (Begin at) (λ m n. refl)) (indexed_fresh _ (λ fail.
      indexed_then (indexed_then (indexed_tested c.scope below q fail k) (indexed_statement n c below s k)) (one (Mark fail) (λ m n. refl))))
  indexed_statement n c below (stat.Statement.if_test q s (stat.Statements.and t ss) at) k =
      indexed_then (one (Begin at) (λ m n. refl)) (indexed_fresh _ (λ fail. indexed_fresh _ (λ end.
      indexed_then (indexed_then (indexed_then (indexed_then (indexed_then (indexed_tested c.scope below q fail k) (indexed_statement n c below s k)) (one (BR end) (λ m n. refl)))
      (one (Mark fail) (λ m n. refl))) (indexed_statement n c below t k)) (one (Mark end) (λ m n. refl)))))
  indexed_statement n c below (stat.Statement.while_true e s at) k =
      indexed_fresh _ (λ next. indexed_fresh _ (λ end.
      indexed_then (indexed_then (indexed_then (indexed_then (one (Mark next) (λ m n. refl)) (indexed_code n c.scope below e (as_test end) k)) (indexed_statement n c below s k))
      (one (BR next) (λ m n. refl))) (one (Mark end) (λ m n. refl))))
  indexed_statement n c below (stat.Statement.until_true s e at) k =
      indexed_fresh _ (λ again.
      indexed_then (indexed_then (indexed_then (one (SUBS 0) (λ m n. refl)) (one (Mark again) (λ m n. refl))) (indexed_statement n c below s k))
      (indexed_code n c.scope below e (as_test again) k))
  indexed_statement n c below (stat.Statement.for_values x first step last s at) k =
      indexed_then (indexed_then (one (Begin at) (λ m n. refl))
      (indexed_then (indexed_then (indexed_then (indexed_code n c.scope below first as_value k) (indexed_counter c.scope x k)) (indexed_step c.scope below step (k + 1)))
      (indexed_code n c.scope below last as_value (k + 2)))) (indexed_turns (statement c s (k + 3)) (indexed_statement n c below s (k + 3)))
  indexed_statement n c below (stat.Statement.case_of e ss at) k =
      indexed_then (one (Begin at) (λ m n. refl)) (indexed_fresh _ (λ end.
      indexed_then (indexed_then (indexed_then (indexed_code n c.scope below e as_value k) (indexed_arms n c below ss k end)) (one DEL (λ m n. refl))) (one (Mark end) (λ m n. refl))))
  indexed_statement n c below (stat.Statement.go_to x at) k = indexed_then (one (Begin at) (λ m n. refl)) (indexed_gone (c.landings x) k)
  indexed_statement n c below (stat.Statement.return at) k = indexed_then (one (Begin at) (λ m n. refl)) (indexed_jump k c.leave)
  indexed_statement n c below (stat.Statement.assign to e at) k =
      indexed_then (one (Begin at) (λ m n. refl)) (indexed_assigned c.scope below to _ k (λ j. indexed_code n c.scope below e as_value j))
  indexed_statement n c below (stat.Statement.assign_effect to e at) k =
      indexed_then (one (Begin at) (λ m n. refl)) (indexed_assigned c.scope below to _ k (λ j. indexed_effect c.scope below true e j))
  indexed_statement n c below (stat.Statement.do_effect e at) k = indexed_then (one (Begin at) (λ m n. refl)) (indexed_effect c.scope below false e k)
  indexed_statement n c below (stat.Statement.call x es at) k = indexed_then (one (Begin at) (λ m n. refl)) (indexed_call c.scope below x es at k)

  pub indexed_listed : (n : ℕ) (c : Context) → EntriesBelow n c.scope → (ss : Statements) (k : ℕ) → IsIndexedPart n (listed c ss k)
  indexed_listed n c below stat.Statements.none k = indexed_pieces [] (λ m n. refl)
  indexed_listed n c below (stat.Statements.and s ss) k = indexed_then (indexed_statement n c below s k) (indexed_listed n c below ss k)

  indexed_arms : (n : ℕ) (c : Context) → EntriesBelow n c.scope → (ss : Statements) (k end : ℕ) → IsIndexedPart n (arms c ss k end)
  indexed_arms n c below stat.Statements.none k end = indexed_pieces [] (λ m n. refl)
  indexed_arms n c below (stat.Statements.and s ss) k end = indexed_then (indexed_arm (statement c s k) end (indexed_statement n c below s k)) (indexed_arms n c below ss k end)
