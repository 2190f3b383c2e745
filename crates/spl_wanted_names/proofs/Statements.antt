-- The names that the code of statements wants, along the tree.
use Rattle.std.proofs.Common.{ℕ, suc, ◌+◌, ◌-◌, ◌%◌, Bool, true, false, List, [], ◌∷◌, Option, Some, None, arith}
use Rattle.spl_module_code.specs.spl_tree.declared.names_and_places.At.{At}
use Rattle.spl_module_code.specs.spl_tree.Trees as tree
use Rattle.spl_module_code.specs.spl_tree.Trees.{Tree, Trees}
use Rattle.spl_module_code.specs.spl_tree.StatementTrees as stat
use Rattle.spl_module_code.specs.spl_tree.StatementTrees.{Statement, Statements, Target, Source, Effect, Test}
use Rattle.spl_module_code.specs.spl_meaning.Kinds.{callable}
use Rattle.spl_module_code.specs.spl_meaning.Pending.{waiting, behind_first, behind_second}
use Rattle.spl_module_code.specs.spl_branch.declared.pieces.Piece.TheVariants.{Mark, Begin}
use Rattle.spl_module_code.specs.spl_code.Instructions.{LDI, DEL, BR, BCC}
use Rattle.spl_module_code.specs.spl_code.Operators.{failing_codes}
use Rattle.spl_module_code.specs.spl_code.Parts.{Part}
use Rattle.spl_module_code.specs.spl_code.Constants.{constant}
use Rattle.spl_module_code.specs.spl_code.Calls.{Scope}
use Rattle.spl_module_code.specs.spl_code.Code.{as_value, as_test}
use Rattle.spl_module_code.specs.spl_statement_code.Instructions.{TEST, LSUB, SUBS, TBA, MTBA}
use Rattle.spl_module_code.specs.spl_statement_code.Landings.{Landing, Context, dropped, jump, gone_to, landed}
use Rattle.spl_module_code.specs.spl_statement_code.Assignments.{index_kept, reference_index, target_index, target_stored, assigned}
use Rattle.spl_module_code.specs.spl_statement_code.Effects.{kept_first, told, text_scaled, text_count, move_of, scan_of, leads_to_bytes, source_moved, effect}
use Rattle.spl_module_code.specs.spl_statement_code.Statements.{tested, counter, step_value, turns, arm, result_dropped, result_of, call_dropped, statement, listed, arms}
use Rattle.spl_few_calls.specs.Calls.{calls, calls_among, target_calls, source_calls, effect_calls, test_calls, calls_in, calls_within}
use Rattle.spl_wanted_names.specs.Wants.{IsWanting}
use Rattle.spl_wanted_names.proofs.PartLaws.{wanting_less, wanting_pieces, wanting_then, wanting_behind, wanting_before, wanting_fresh}
use Rattle.spl_wanted_names.proofs.Intrinsics.{Known}
use Rattle.spl_wanted_names.proofs.Expressions.{wanting_offset, wanting_related, wanting_code, wanting_reference}

-- ---- jumps and tests

wanting_jump : {m : ℕ} (k mark : ℕ) → IsWanting m (jump k mark)
wanting_jump k mark = wanting_behind (BR mark ∷ []) (wanting_pieces (dropped k))

wanting_gone : {m : ℕ} (o : Option Landing) (k : ℕ) → IsWanting m (gone_to o k)
wanting_gone (Some l) k = wanting_jump (k - l.pending) l.mark
wanting_gone None k = wanting_pieces []

wanting_landed : {m : ℕ} (o : Option Landing) → IsWanting m (landed o)
wanting_landed (Some l) = wanting_pieces (Mark l.mark ∷ [])
wanting_landed None = wanting_pieces []

wanting_tested : (c : Scope) → Known c.names → (q : Test) (fail k : ℕ) → IsWanting (test_calls q) (tested c q fail k)
wanting_tested c known (stat.Test.condition e) fail k = wanting_code c known e (as_test fail) k
wanting_tested c known (stat.Test.code op) fail k = wanting_related op fail

-- ---- targets

wanting_kept : (c : Scope) → Known c.names → (es : Trees) (k : ℕ) → IsWanting (calls_among es) (index_kept c es k)
wanting_kept c known tree.Trees.none k = wanting_pieces []
wanting_kept c known (tree.Trees.and e es) k = wanting_less (omega arith) (wanting_code c known e as_value k)

wanting_reference_index : (c : Scope) → Known c.names → (r : Tree) (k : ℕ) → IsWanting (calls r) (reference_index c r k)
wanting_reference_index c known (tree.Tree.named x es at) k = wanting_less (omega arith) (wanting_kept c known es k)
wanting_reference_index c known (tree.Tree.number v) k = wanting_pieces []
wanting_reference_index c known (tree.Tree.wide v) k = wanting_pieces []
wanting_reference_index c known (tree.Tree.text bytes) k = wanting_pieces []
wanting_reference_index c known (tree.Tree.truth b) k = wanting_pieces []
wanting_reference_index c known (tree.Tree.address x es at) k = wanting_pieces []
wanting_reference_index c known (tree.Tree.unary op e at) k = wanting_pieces []
wanting_reference_index c known (tree.Tree.binary op a b at) k = wanting_pieces []
wanting_reference_index c known (tree.Tree.shift op e by at) k = wanting_pieces []
wanting_reference_index c known (tree.Tree.field e start size at) k = wanting_pieces []
wanting_reference_index c known (tree.Tree.transfer to e at) k = wanting_pieces []
wanting_reference_index c known (tree.Tree.bytes op a b count at) k = wanting_pieces []

wanting_target_index : (c : Scope) → Known c.names → (to : Target) (k : ℕ) → IsWanting (target_calls to) (target_index c to k)
wanting_target_index c known (stat.Target.plain r) k = wanting_reference_index c known r k
wanting_target_index c known (stat.Target.field r start size) k = wanting_reference_index c known r k
wanting_target_index c known (stat.Target.address x at) k = wanting_pieces []

wanting_assigned : {m : ℕ} (c : Scope) → Known c.names → (to : Target) (value : ℕ → Part) (k : ℕ) → ((j : ℕ) → IsWanting m (value j))
    → IsWanting (target_calls to + m) (assigned c to value k)
wanting_assigned c known to value k h = wanting_behind (target_stored c to k) (wanting_then (wanting_target_index c known to k) (h (waiting to k)))

-- ---- MOVE and SCAN

wanting_source : (c : Scope) → Known c.names → (used bytes : Bool) (from : Source) (k : ℕ) → IsWanting (source_calls from) (source_moved c used bytes from k)
wanting_source c known used bytes (stat.Source.counted from count) k =
    wanting_behind (move_of bytes 0 ∷ [])
    (wanting_then (wanting_reference c known from (behind_first used k)) (wanting_code c known count as_value (behind_second used k)))
wanting_source c known used bytes (stat.Source.text text) k =
    wanting_behind (move_of bytes 1 ∷ []) (wanting_behind (constant (text_count bytes text % 65536)) (wanting_behind (text_scaled bytes) (wanting_offset text)))
wanting_source c known used bytes (stat.Source.class_of from class) k = wanting_behind _ (wanting_reference c known from (behind_first used k))

wanting_effect : (c : Scope) → Known c.names → (used : Bool) (e : Effect) (k : ℕ) → IsWanting (effect_calls e) (effect c used e k)
wanting_effect c known used (stat.Effect.move to from) k =
    wanting_behind (told used)
    (wanting_then (wanting_behind (kept_first used) (wanting_reference c known to k)) (wanting_source c known used (leads_to_bytes c to) from k))
wanting_effect c known used (stat.Effect.scan from until test) k =
    wanting_behind (told used) (wanting_behind (scan_of until ∷ [])
    (wanting_then (wanting_behind (kept_first used) (wanting_reference c known from k)) (wanting_code c known test as_value (behind_first used k))))

-- ---- FOR and CASE

wanting_step : (c : Scope) → Known c.names → (es : Trees) (k : ℕ) → IsWanting (calls_among es) (step_value c es k)
wanting_step c known tree.Trees.none k = wanting_pieces (LDI 1 ∷ [])
wanting_step c known (tree.Trees.and e es) k = wanting_less (omega arith) (wanting_code c known e as_value k)

wanting_turns : {m : ℕ} (body : Part) → IsWanting m body → IsWanting m (turns body)
wanting_turns body h = wanting_fresh _ (λ again. wanting_fresh _ (λ end.
    wanting_behind (Mark end ∷ []) (wanting_behind (MTBA again ∷ [])
    (wanting_less (omega arith) (wanting_then (wanting_behind (Mark again ∷ []) (wanting_behind (BR end ∷ []) (wanting_pieces {n = 0} (TBA again ∷ [])))) h)))))

wanting_arm : {m : ℕ} (body : Part) (end : ℕ) → IsWanting m body → IsWanting m (arm body end)
wanting_arm body end h = wanting_fresh _ (λ next.
    wanting_behind (LSUB ∷ []) (wanting_behind (LDI 1 ∷ []) (wanting_behind (Mark next ∷ []) (wanting_behind (BR end ∷ [])
    (wanting_less (omega arith) (wanting_then (wanting_behind (DEL ∷ []) (wanting_behind (BCC (failing_codes 0) next ∷ []) (wanting_pieces {n = 0} (TEST ∷ [])))) h))))))

-- a call by itself
wanting_call : (c : Scope) → Known c.names → (x : List ℕ) (es : Trees) (at : At) (k : ℕ) → IsWanting (suc (calls_among es)) (call_dropped c x es at k)
wanting_call c known x es at k =
    wanting_behind (result_dropped (result_of (callable (c.names x)))) (wanting_code c known (tree.Tree.named x es at) as_value k)

-- ---- along the tree

mutual
  pub wanting_statement : (c : Context) → Known c.scope.names → (s : Statement) (k : ℕ) → IsWanting (calls_in s) (statement c s k)
  wanting_statement c known stat.Statement.empty k = wanting_pieces (SUBS 0 ∷ [])
  wanting_statement c known (stat.Statement.labelled x at s) k =
      wanting_less (omega arith) (wanting_then (wanting_behind (SUBS 0 ∷ []) (wanting_landed {m = 0} (c.landings x))) (wanting_statement c known s k))
  wanting_statement c known (stat.Statement.block ss) k = wanting_before (SUBS 0 ∷ []) (wanting_listed c known ss k)
  wanting_statement c known (stat.Statement.if_test q s stat.Statements.none at) k =
      wanting_before (Begin at ∷ []) (wanting_fresh _ (λ fail.
      wanting_behind (Mark fail ∷ []) (wanting_less (omega arith) (wanting_then (wanting_tested c.scope known q fail k) (wanting_statement c known s k)))))
  wanting_statement c known (stat.Statement.if_test q s (stat.Statements.and t ss) at) k =
      wanting_before (Begin at ∷ []) (wanting_fresh _ (λ fail. wanting_fresh _ (λ end.
      wanting_behind (Mark end ∷ []) (wanting_less (omega arith) (wanting_then (wanting_behind (Mark fail ∷ []) (wanting_behind (BR end ∷ [])
      (wanting_then (wanting_tested c.scope known q fail k) (wanting_statement c known s k)))) (wanting_statement c known t k))))))
  wanting_statement c known (stat.Statement.while_true e s at) k =
      wanting_fresh _ (λ next. wanting_fresh _ (λ end.
      wanting_behind (Mark end ∷ []) (wanting_behind (BR next ∷ [])
      (wanting_then (wanting_before (Mark next ∷ []) (wanting_code c.scope known e (as_test end) k)) (wanting_statement c known s k)))))
  wanting_statement c known (stat.Statement.until_true s e at) k =
      wanting_fresh _ (λ again.
      wanting_less (omega arith) (wanting_then (wanting_then (wanting_behind (Mark again ∷ []) (wanting_pieces {n = 0} (SUBS 0 ∷ []))) (wanting_statement c known s k))
      (wanting_code c.scope known e (as_test again) k)))
  wanting_statement c known (stat.Statement.for_values x first step last s at) k =
      wanting_then (wanting_before (Begin at ∷ [])
      (wanting_then (wanting_then (wanting_behind (counter c.scope x k) (wanting_code c.scope known first as_value k)) (wanting_step c.scope known step (k + 1)))
      (wanting_code c.scope known last as_value (k + 2)))) (wanting_turns (statement c s (k + 3)) (wanting_statement c known s (k + 3)))
  wanting_statement c known (stat.Statement.case_of e ss at) k =
      wanting_before (Begin at ∷ []) (wanting_fresh _ (λ end.
      wanting_behind (Mark end ∷ []) (wanting_behind (DEL ∷ []) (wanting_then (wanting_code c.scope known e as_value k) (wanting_arms c known ss k end)))))
  wanting_statement c known (stat.Statement.go_to x at) k = wanting_before (Begin at ∷ []) (wanting_gone (c.landings x) k)
  wanting_statement c known (stat.Statement.return at) k = wanting_before (Begin at ∷ []) (wanting_jump k c.leave)
  wanting_statement c known (stat.Statement.assign to e at) k =
      wanting_before (Begin at ∷ []) (wanting_assigned c.scope known to _ k (λ j. wanting_code c.scope known e as_value j))
  wanting_statement c known (stat.Statement.assign_effect to e at) k =
      wanting_before (Begin at ∷ []) (wanting_assigned c.scope known to _ k (λ j. wanting_effect c.scope known true e j))
  wanting_statement c known (stat.Statement.do_effect e at) k = wanting_before (Begin at ∷ []) (wanting_effect c.scope known false e k)
  wanting_statement c known (stat.Statement.call x es at) k = wanting_before (Begin at ∷ []) (wanting_call c.scope known x es at k)

  pub wanting_listed : (c : Context) → Known c.scope.names → (ss : Statements) (k : ℕ) → IsWanting (calls_within ss) (listed c ss k)
  wanting_listed c known stat.Statements.none k = wanting_pieces []
  wanting_listed c known (stat.Statements.and s ss) k = wanting_then (wanting_statement c known s k) (wanting_listed c known ss k)

  wanting_arms : (c : Context) → Known c.scope.names → (ss : Statements) (k end : ℕ) → IsWanting (calls_within ss) (arms c ss k end)
  wanting_arms c known stat.Statements.none k end = wanting_pieces []
  wanting_arms c known (stat.Statements.and s ss) k end =
      wanting_then (wanting_arm (statement c s k) end (wanting_statement c known s k)) (wanting_arms c known ss k end)
