-- The pieces of the code of a statement, along the tree.
use Rattle.std.proofs.Common.{ℕ, ◌+◌, ◌-◌, ◌%◌, ◌/◌, ◌&&◌, nat_le, Bool, true, false, List, [], ◌∷◌, ◌++◌, replicate, Option, Some, None, refl}
use Rattle.spl_sites.specs.hp_instr.declared.instruction.Mode.{Mode}
use Rattle.spl_module_code.specs.spl_tree.declared.names_and_places.At.{At}
use Rattle.spl_module_code.specs.spl_tree.declared.expressions.Kind.{Kind}
use Rattle.spl_module_code.specs.spl_tree.declared.expressions.Kind.TheVariants as kind
use Rattle.spl_module_code.specs.spl_tree.Trees as tree
use Rattle.spl_module_code.specs.spl_tree.Trees.{Tree, Trees}
use Rattle.spl_module_code.specs.spl_tree.StatementTrees as stat
use Rattle.spl_module_code.specs.spl_tree.StatementTrees.{Statement, Statements, Target, Source, Effect, Test}
use Rattle.spl_module_code.specs.spl_meaning.Kinds.{callable}
use Rattle.spl_module_code.specs.spl_meaning.Pending.{waiting, behind_first, behind_second}
use Rattle.spl_module_code.specs.spl_meaning.Places as p
use Rattle.spl_module_code.specs.spl_meaning.References.{Access, its_own, by_address, by_cell, its_result, nowhere, access_of}
use Rattle.spl_module_code.specs.spl_meaning.Values.{small_constant}
use Rattle.spl_module_code.specs.spl_branch.declared.pieces.Piece.{Piece}
use Rattle.spl_module_code.specs.spl_branch.declared.pieces.Piece.TheVariants.{Begin, Mark}
use Rattle.spl_module_code.specs.spl_code.Instructions.{LDI, LRA, DEL, BR}
use Rattle.spl_module_code.specs.spl_code.Parts.{Part, pieces, piece}
use Rattle.spl_module_code.specs.spl_code.Constants.{constant}
use Rattle.spl_module_code.specs.spl_code.Operands.{mode_of}
use Rattle.spl_module_code.specs.spl_code.Calls.{Scope}
use Rattle.spl_module_code.specs.spl_code.Code.{as_value, as_test, is_indexed}
use Rattle.spl_module_code.specs.spl_code.Stores.{stored, field_stored, pointer_stored, own_stored, cell_stored, element_stored, led_stored, own_field, led_field, from_top}
use Rattle.spl_module_code.specs.spl_statement_code.Instructions.{TEST, LSUB, SUBS, TBA, MTBA}
use Rattle.spl_module_code.specs.spl_statement_code.Landings.{Landing, Context, dropped, jump, gone_to, landed}
use Rattle.spl_module_code.specs.spl_statement_code.Assignments.{assigned_access, index_kept, reference_index, target_index, reference_stored, field_of_name_stored, field_of_reference_stored, target_stored, assigned}
use Rattle.spl_module_code.specs.spl_statement_code.Effects.{kept_first, told, text_scaled, text_count, move_of, scan_of, leads_to_bytes, source_moved, effect}
use Rattle.spl_module_code.specs.spl_statement_code.Statements.{tested, counter, counter_at, step_value, turns, arm, result_dropped, result_of, call_dropped, statement, listed, arms}
use Rattle.spl_piece_kinds.specs.Kinds.{HasKinds}
use Rattle.spl_piece_kinds.proofs.PartLaws.{Plain, plain_both, plain_if, plain_rows, kinds_pieces, kinds_then, kinds_fresh}
use Rattle.spl_piece_kinds.proofs.ExpressionLaws.{plain_constant, kinds_offset, plain_at, kinds_related, kinds_code, kinds_reference}

-- one piece that is no call
one : (x : Piece) → Plain (x ∷ []) → HasKinds (piece x)
one x plain = kinds_pieces (x ∷ []) plain

-- ---- jumps

plain_dropped : (k : ℕ) → Plain (dropped k)
plain_dropped k =
    plain_if (nat_le k 255) (SUBS k ∷ []) (replicate (k / 255) (SUBS 255) ++ SUBS (k % 255) ∷ []) refl
    (plain_both (replicate (k / 255) (SUBS 255)) (SUBS (k % 255) ∷ []) (plain_rows (k / 255) (SUBS 255) refl) refl)

kinds_jump : (k mark : ℕ) → HasKinds (jump k mark)
kinds_jump k mark = kinds_then (kinds_pieces (dropped k) (plain_dropped k)) (one (BR mark) refl)

kinds_gone : (o : Option Landing) (k : ℕ) → HasKinds (gone_to o k)
kinds_gone (Some l) k = kinds_jump (k - l.pending) l.mark
kinds_gone None k = kinds_pieces [] refl

kinds_landed : (o : Option Landing) → HasKinds (landed o)
kinds_landed (Some l) = one (Mark l.mark) refl
kinds_landed None = kinds_pieces [] refl

kinds_tested : (c : Scope) (q : Test) (fail k : ℕ) → HasKinds (tested c q fail k)
kinds_tested c (stat.Test.condition e) fail k = kinds_code c e (as_test fail) k
kinds_tested c (stat.Test.code op) fail k = kinds_related op fail

-- ---- stores

plain_own : (k : Kind) (b : Bool) (mode : Mode) → Plain (own_stored k b mode)
plain_own kind.Integer true mode = refl
plain_own kind.Logical true mode = refl
plain_own kind.Byte true mode = refl
plain_own kind.Double true mode = refl
plain_own kind.Integer false mode = refl
plain_own kind.Logical false mode = refl
plain_own kind.Byte false mode = refl
plain_own kind.Double false mode = refl

plain_cell : (k : Kind) (b : Bool) (mode : Mode) → Plain (cell_stored k b mode)
plain_cell kind.Integer true mode = refl
plain_cell kind.Logical true mode = refl
plain_cell kind.Byte true mode = refl
plain_cell kind.Double true mode = refl
plain_cell kind.Integer false mode = refl
plain_cell kind.Logical false mode = refl
plain_cell kind.Byte false mode = refl
plain_cell kind.Double false mode = refl

plain_element : (k : Kind) (b : Bool) (mode : Mode) → Plain (element_stored k b mode)
plain_element kind.Integer true mode = refl
plain_element kind.Logical true mode = refl
plain_element kind.Byte true mode = refl
plain_element kind.Double true mode = refl
plain_element kind.Integer false mode = refl
plain_element kind.Logical false mode = refl
plain_element kind.Byte false mode = refl
plain_element kind.Double false mode = refl

plain_led : (k : Kind) (i b : Bool) (mode : Mode) → Plain (led_stored k i b mode)
plain_led k true b mode = plain_element k b mode
plain_led k false b mode = plain_cell k b mode

plain_stored : (a : Access) (i : Bool) (k : ℕ) (place : p.Place) → Plain (stored a i k place)
plain_stored (its_own d) i k place = plain_own d (from_top place) (mode_of k place)
plain_stored (by_address d) i k place = plain_led d i (from_top place) (mode_of k place)
plain_stored (by_cell b d) i k place = plain_led d i (from_top place) (mode_of k place)
plain_stored its_result i k place = refl
plain_stored nowhere i k place = refl

plain_own_field : (s z : ℕ) (b : Bool) (mode : Mode) → Plain (own_field s z b mode)
plain_own_field s z true mode = refl
plain_own_field s z false mode = refl

plain_led_field : (s z : ℕ) (i b : Bool) (mode : Mode) → Plain (led_field s z i b mode)
plain_led_field s z true true mode = refl
plain_led_field s z true false mode = refl
plain_led_field s z false true mode = refl
plain_led_field s z false false mode = refl

plain_field_stored : (a : Access) (s z : ℕ) (i : Bool) (k : ℕ) (place : p.Place) → Plain (field_stored a s z i k place)
plain_field_stored (its_own d) s z i k place = plain_own_field s z (from_top place) (mode_of k place)
plain_field_stored (by_address d) s z i k place = plain_led_field s z i (from_top place) (mode_of k place)
plain_field_stored (by_cell b d) s z i k place = plain_led_field s z i (from_top place) (mode_of k place)
plain_field_stored its_result s z i k place = refl
plain_field_stored nowhere s z i k place = refl

plain_in_reference : (c : Scope) (r : Tree) (k : ℕ) → Plain (reference_stored c r k)
plain_in_reference c (tree.Tree.named x es at) k =
    plain_at (c.places x) _ (λ place. plain_stored (assigned_access (c.names x)) (is_indexed es) k place)
plain_in_reference c (tree.Tree.number v) k = refl
plain_in_reference c (tree.Tree.wide v) k = refl
plain_in_reference c (tree.Tree.text bytes) k = refl
plain_in_reference c (tree.Tree.truth b) k = refl
plain_in_reference c (tree.Tree.address x es at) k = refl
plain_in_reference c (tree.Tree.unary op e at) k = refl
plain_in_reference c (tree.Tree.binary op a b at) k = refl
plain_in_reference c (tree.Tree.shift op e by at) k = refl
plain_in_reference c (tree.Tree.field e start size at) k = refl
plain_in_reference c (tree.Tree.transfer to e at) k = refl
plain_in_reference c (tree.Tree.bytes op a b count at) k = refl

plain_in_name : (c : Scope) (x : List ℕ) (i : Bool) (s z k : ℕ) → Plain (field_of_name_stored c x i s z k)
plain_in_name c x i s z k =
    plain_if (nat_le 1 z && nat_le (s + z) 16) _ _ (plain_at (c.places x) _ (λ place. plain_field_stored (assigned_access (c.names x)) s z i k place)) refl

plain_in_field : (c : Scope) (r : Tree) (s z k : ℕ) → Plain (field_of_reference_stored c r s z k)
plain_in_field c (tree.Tree.named x es at) s z k = plain_in_name c x (is_indexed es) s z k
plain_in_field c (tree.Tree.number v) s z k = refl
plain_in_field c (tree.Tree.wide v) s z k = refl
plain_in_field c (tree.Tree.text bytes) s z k = refl
plain_in_field c (tree.Tree.truth b) s z k = refl
plain_in_field c (tree.Tree.address x es at) s z k = refl
plain_in_field c (tree.Tree.unary op e at) s z k = refl
plain_in_field c (tree.Tree.binary op a b at) s z k = refl
plain_in_field c (tree.Tree.shift op e by at) s z k = refl
plain_in_field c (tree.Tree.field e start size at) s z k = refl
plain_in_field c (tree.Tree.transfer to e at) s z k = refl
plain_in_field c (tree.Tree.bytes op a b count at) s z k = refl

plain_in_target : (c : Scope) (to : Target) (k : ℕ) → Plain (target_stored c to k)
plain_in_target c (stat.Target.plain r) k = plain_in_reference c r k
plain_in_target c (stat.Target.field r start size) k = plain_in_field c r (small_constant c.names start) (small_constant c.names size) k
plain_in_target c (stat.Target.address x at) k = plain_at (c.places x) (λ place. pointer_stored k place) (λ place. refl)

-- ---- targets

kinds_kept : (c : Scope) (es : Trees) (k : ℕ) → HasKinds (index_kept c es k)
kinds_kept c tree.Trees.none k = kinds_pieces [] refl
kinds_kept c (tree.Trees.and e es) k = kinds_code c e as_value k

kinds_reference_index : (c : Scope) (r : Tree) (k : ℕ) → HasKinds (reference_index c r k)
kinds_reference_index c (tree.Tree.named x es at) k = kinds_kept c es k
kinds_reference_index c (tree.Tree.number v) k = kinds_pieces [] refl
kinds_reference_index c (tree.Tree.wide v) k = kinds_pieces [] refl
kinds_reference_index c (tree.Tree.text bytes) k = kinds_pieces [] refl
kinds_reference_index c (tree.Tree.truth b) k = kinds_pieces [] refl
kinds_reference_index c (tree.Tree.address x es at) k = kinds_pieces [] refl
kinds_reference_index c (tree.Tree.unary op e at) k = kinds_pieces [] refl
kinds_reference_index c (tree.Tree.binary op a b at) k = kinds_pieces [] refl
kinds_reference_index c (tree.Tree.shift op e by at) k = kinds_pieces [] refl
kinds_reference_index c (tree.Tree.field e start size at) k = kinds_pieces [] refl
kinds_reference_index c (tree.Tree.transfer to e at) k = kinds_pieces [] refl
kinds_reference_index c (tree.Tree.bytes op a b count at) k = kinds_pieces [] refl

kinds_target_index : (c : Scope) (to : Target) (k : ℕ) → HasKinds (target_index c to k)
kinds_target_index c (stat.Target.plain r) k = kinds_reference_index c r k
kinds_target_index c (stat.Target.field r start size) k = kinds_reference_index c r k
kinds_target_index c (stat.Target.address x at) k = kinds_pieces [] refl

kinds_assigned : (c : Scope) (to : Target) (value : ℕ → Part) (k : ℕ) → ((j : ℕ) → HasKinds (value j))
    → HasKinds (assigned c to value k)
kinds_assigned c to value k h =
    kinds_then (kinds_then (kinds_target_index c to k) (h (waiting to k))) (kinds_pieces (target_stored c to k) (plain_in_target c to k))

-- ---- MOVE and SCAN

plain_kept_first : (used : Bool) → Plain (kept_first used)
plain_kept_first true = refl
plain_kept_first false = refl

plain_told : (used : Bool) → Plain (told used)
plain_told true = refl
plain_told false = refl

plain_scaled : (bytes : Bool) → Plain (text_scaled bytes)
plain_scaled true = refl
plain_scaled false = refl

plain_move : (bytes : Bool) (k : ℕ) → Plain (move_of bytes k ∷ [])
plain_move true k = refl
plain_move false k = refl

plain_scan : (until : Bool) → Plain (scan_of until ∷ [])
plain_scan true = refl
plain_scan false = refl

kinds_source : (c : Scope) (used bytes : Bool) (from : Source) (k : ℕ) → HasKinds (source_moved c used bytes from k)
kinds_source c used bytes (stat.Source.counted from count) k =
    kinds_then (kinds_then (kinds_reference c from (behind_first used k)) (kinds_code c count as_value (behind_second used k)))
    (one (move_of bytes 0) (plain_move bytes 0))
kinds_source c used bytes (stat.Source.text text) k =
    kinds_then (kinds_then (kinds_then (kinds_offset text) (kinds_pieces (text_scaled bytes) (plain_scaled bytes)))
    (kinds_pieces (constant (text_count bytes text % 65536)) (plain_constant (text_count bytes text % 65536)))) (one (move_of bytes 1) (plain_move bytes 1))
kinds_source c used bytes (stat.Source.class_of from class) k =
    kinds_then (kinds_reference c from (behind_first used k)) (one _ refl)

kinds_effect : (c : Scope) (used : Bool) (e : Effect) (k : ℕ) → HasKinds (effect c used e k)
kinds_effect c used (stat.Effect.move to from) k =
    kinds_then (kinds_then (kinds_then (kinds_reference c to k) (kinds_pieces (kept_first used) (plain_kept_first used)))
    (kinds_source c used (leads_to_bytes c to) from k)) (kinds_pieces (told used) (plain_told used))
kinds_effect c used (stat.Effect.scan from until test) k =
    kinds_then (kinds_then (kinds_then (kinds_then (kinds_reference c from k) (kinds_pieces (kept_first used) (plain_kept_first used)))
    (kinds_code c test as_value (behind_first used k))) (one (scan_of until) (plain_scan until))) (kinds_pieces (told used) (plain_told used))

-- ---- FOR and CASE

plain_counter_at : (a : Access) (b : Bool) (mode : Mode) → Plain (counter_at a b mode)
plain_counter_at (its_own k) b mode = plain_both (own_stored k b mode) (LRA false false mode ∷ []) (plain_own k b mode) refl
plain_counter_at (by_address k) true mode = refl
plain_counter_at (by_address k) false mode = refl
plain_counter_at (by_cell c k) b mode = refl
plain_counter_at its_result b mode = refl
plain_counter_at nowhere b mode = refl

kinds_counter : (c : Scope) (x : List ℕ) (k : ℕ) → HasKinds (pieces (counter c x k))
kinds_counter c x k = kinds_pieces (counter c x k)
    (plain_at (c.places x) _ (λ place. plain_counter_at (access_of (c.names x)) (from_top place) (mode_of k place)))

kinds_step : (c : Scope) (es : Trees) (k : ℕ) → HasKinds (step_value c es k)
kinds_step c tree.Trees.none k = one (LDI 1) refl
kinds_step c (tree.Trees.and e es) k = kinds_code c e as_value k

kinds_turns : (body : Part) → HasKinds body → HasKinds (turns body)
kinds_turns body h = kinds_fresh _ (λ again. kinds_fresh _ (λ end.
    kinds_then (kinds_then (kinds_then (kinds_then (kinds_then (one (TBA again) refl) (one (BR end) refl)) (one (Mark again) refl)) h)
    (one (MTBA again) refl)) (one (Mark end) refl)))

kinds_arm : (body : Part) (end : ℕ) → HasKinds body → HasKinds (arm body end)
kinds_arm body end h = kinds_fresh _ (λ next.
    kinds_then (kinds_then (kinds_then (kinds_then (kinds_then (kinds_then (kinds_then (one TEST refl) (kinds_related 0 next)) (one DEL refl)) h)
    (one (BR end) refl)) (one (Mark next) refl)) (one (LDI 1) refl)) (one LSUB refl))

-- ---- calls

plain_result : (k : Option Kind) → Plain (result_dropped k)
plain_result None = refl
plain_result (Some kind.Integer) = refl
plain_result (Some kind.Logical) = refl
plain_result (Some kind.Byte) = refl
plain_result (Some kind.Double) = refl

kinds_call : (c : Scope) (x : List ℕ) (es : Trees) (at : At) (k : ℕ) → HasKinds (call_dropped c x es at k)
kinds_call c x es at k =
    let result = result_of (callable (c.names x)) in
    kinds_then (kinds_code c (tree.Tree.named x es at) as_value k) (kinds_pieces (result_dropped result) (plain_result result))

-- ---- along the tree

mutual
  pub kinds_statement : (c : Context) (s : Statement) (k : ℕ) → HasKinds (statement c s k)
  kinds_statement c stat.Statement.empty k = one (SUBS 0) refl
  kinds_statement c (stat.Statement.labelled x at s) k =
      kinds_then (kinds_then (kinds_landed (c.landings x)) (one (SUBS 0) refl)) (kinds_statement c s k)
  kinds_statement c (stat.Statement.block ss) k = kinds_then (one (SUBS 0) refl) (kinds_listed c ss k)
  kinds_statement c (stat.Statement.if_test q s stat.Statements.none at) k =
      kinds_then (one (Begin at) refl) (kinds_fresh _ (λ fail.
      kinds_then (kinds_then (kinds_tested c.scope q fail k) (kinds_statement c s k)) (one (Mark fail) refl)))
  kinds_statement c (stat.Statement.if_test q s (stat.Statements.and t ss) at) k =
      kinds_then (one (Begin at) refl) (kinds_fresh _ (λ fail. kinds_fresh _ (λ end.
      kinds_then (kinds_then (kinds_then (kinds_then (kinds_then (kinds_tested c.scope q fail k) (kinds_statement c s k)) (one (BR end) refl))
      (one (Mark fail) refl)) (kinds_statement c t k)) (one (Mark end) refl))))
  kinds_statement c (stat.Statement.while_true e s at) k =
      kinds_fresh _ (λ next. kinds_fresh _ (λ end.
      kinds_then (kinds_then (kinds_then (kinds_then (one (Mark next) refl) (kinds_code c.scope e (as_test end) k)) (kinds_statement c s k))
      (one (BR next) refl)) (one (Mark end) refl)))
  kinds_statement c (stat.Statement.until_true s e at) k =
      kinds_fresh _ (λ again.
      kinds_then (kinds_then (kinds_then (one (SUBS 0) refl) (one (Mark again) refl)) (kinds_statement c s k))
      (kinds_code c.scope e (as_test again) k))
  kinds_statement c (stat.Statement.for_values x first step last s at) k =
      kinds_then (kinds_then (one (Begin at) refl)
      (kinds_then (kinds_then (kinds_then (kinds_code c.scope first as_value k) (kinds_counter c.scope x k)) (kinds_step c.scope step (k + 1)))
      (kinds_code c.scope last as_value (k + 2)))) (kinds_turns (statement c s (k + 3)) (kinds_statement c s (k + 3)))
  kinds_statement c (stat.Statement.case_of e ss at) k =
      kinds_then (one (Begin at) refl) (kinds_fresh _ (λ end.
      kinds_then (kinds_then (kinds_then (kinds_code c.scope e as_value k) (kinds_arms c ss k end)) (one DEL refl)) (one (Mark end) refl)))
  kinds_statement c (stat.Statement.go_to x at) k = kinds_then (one (Begin at) refl) (kinds_gone (c.landings x) k)
  kinds_statement c (stat.Statement.return at) k = kinds_then (one (Begin at) refl) (kinds_jump k c.leave)
  kinds_statement c (stat.Statement.assign to e at) k =
      kinds_then (one (Begin at) refl) (kinds_assigned c.scope to _ k (λ j. kinds_code c.scope e as_value j))
  kinds_statement c (stat.Statement.assign_effect to e at) k =
      kinds_then (one (Begin at) refl) (kinds_assigned c.scope to _ k (λ j. kinds_effect c.scope true e j))
  kinds_statement c (stat.Statement.do_effect e at) k = kinds_then (one (Begin at) refl) (kinds_effect c.scope false e k)
  kinds_statement c (stat.Statement.call x es at) k = kinds_then (one (Begin at) refl) (kinds_call c.scope x es at k)

  pub kinds_listed : (c : Context) (ss : Statements) (k : ℕ) → HasKinds (listed c ss k)
  kinds_listed c stat.Statements.none k = kinds_pieces [] refl
  kinds_listed c (stat.Statements.and s ss) k = kinds_then (kinds_statement c s k) (kinds_listed c ss k)

  kinds_arms : (c : Context) (ss : Statements) (k end : ℕ) → HasKinds (arms c ss k end)
  kinds_arms c stat.Statements.none k end = kinds_pieces [] refl
  kinds_arms c (stat.Statements.and s ss) k end = kinds_then (kinds_arm (statement c s k) end (kinds_statement c s k)) (kinds_arms c ss k end)
