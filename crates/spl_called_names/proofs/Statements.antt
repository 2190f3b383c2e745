-- The names that the code of statements wants, along the tree.
use Rattle.std.proofs.Common.{ℕ, ◌+◌, ◌-◌, ◌%◌, Bool, true, false, List, [], ◌∷◌, ◌++◌, Option, Some, None}
use Rattle.spl_module_code.specs.spl_tree.declared.names_and_places.At.{At}
use Rattle.spl_module_code.specs.spl_tree.Trees as tree
use Rattle.spl_module_code.specs.spl_tree.Trees.{Tree, Trees}
use Rattle.spl_module_code.specs.spl_tree.StatementTrees as stat
use Rattle.spl_module_code.specs.spl_tree.StatementTrees.{Statement, Statements, Target, Source, Effect, Test}
use Rattle.spl_module_code.specs.spl_meaning.Kinds.{callable}
use Rattle.spl_module_code.specs.spl_meaning.Pending.{waiting, behind_first, behind_second}
use Rattle.spl_module_code.specs.spl_meaning.Bound.{names_in, names_among, index_names, target_names, source_names, effect_names, test_names, statement_names, statements_names}
use Rattle.spl_module_code.specs.spl_branch.declared.pieces.Piece.TheVariants.{Mark, Begin}
use Rattle.spl_module_code.specs.spl_code.Instructions.{LDI, DEL, BR, BCC}
use Rattle.spl_module_code.specs.spl_code.Operators.{failing_codes}
use Rattle.spl_module_code.specs.spl_code.Parts.{Part}
use Rattle.spl_module_code.specs.spl_code.Constants.{constant}
use Rattle.spl_module_code.specs.spl_code.Calls.{Scope}
use Rattle.spl_module_code.specs.spl_code.Code.{as_value, as_test}
use Rattle.spl_module_code.specs.spl_statement_code.Instructions.{TEST, LSUB, SUBS, TBA, MTBA}
use Rattle.spl_module_code.specs.spl_statement_code.Landings.{Landing, Context, dropped, jump, gone_to, landed}
use Rattle.spl_module_code.specs.spl_statement_code.Assignments.{index_kept, reference_index, target_index, target_stored, assigned}
use Rattle.spl_module_code.specs.spl_statement_code.Effects.{kept_first, told, text_scaled, text_count, move_of, scan_of, leads_to_bytes, source_moved, effect}
use Rattle.spl_module_code.specs.spl_statement_code.Statements.{tested, counter, step_value, turns, arm, result_dropped, result_of, call_dropped, statement, listed, arms}
use Rattle.spl_called_names.specs.Called.{Testing, IsPassing}
use Rattle.spl_called_names.proofs.PartLaws.{passing_pieces, passing_then, passing_behind, passing_before, passing_fresh, Pass, first_pass, last_pass}
use Rattle.spl_called_names.proofs.Expressions.{passing_offset, passing_related, passing_code, passing_reference}

-- ---- jumps and tests

passing_jump : {t : Testing} (k mark : ℕ) → IsPassing t (jump k mark)
passing_jump k mark = passing_behind (BR mark ∷ []) (passing_pieces (dropped k))

passing_gone : {t : Testing} (o : Option Landing) (k : ℕ) → IsPassing t (gone_to o k)
passing_gone (Some l) k = passing_jump (k - l.pending) l.mark
passing_gone None k = passing_pieces []

passing_landed : {t : Testing} (o : Option Landing) → IsPassing t (landed o)
passing_landed (Some l) = passing_pieces (Mark l.mark ∷ [])
passing_landed None = passing_pieces []

passing_tested : {t : Testing} (c : Scope) (q : Test) → Pass t c.names (test_names q) → (fail k : ℕ) → IsPassing t (tested c q fail k)
passing_tested c (stat.Test.condition e) h fail k = passing_code c e h (as_test fail) k
passing_tested c (stat.Test.code op) h fail k = passing_related op fail

-- ---- targets

passing_kept : {t : Testing} (c : Scope) (es : Trees) → Pass t c.names (names_among es) → (k : ℕ) → IsPassing t (index_kept c es k)
passing_kept c tree.Trees.none h k = passing_pieces []
passing_kept c (tree.Trees.and e es) h k = passing_code c e (first_pass (names_in e) (names_among es) h) as_value k

passing_reference_index : {t : Testing} (c : Scope) (r : Tree) → Pass t c.names (index_names r) → (k : ℕ) → IsPassing t (reference_index c r k)
passing_reference_index c (tree.Tree.named x es at) h k = passing_kept c es h k
passing_reference_index c (tree.Tree.number v) h k = passing_pieces []
passing_reference_index c (tree.Tree.wide v) h k = passing_pieces []
passing_reference_index c (tree.Tree.text bytes) h k = passing_pieces []
passing_reference_index c (tree.Tree.truth b) h k = passing_pieces []
passing_reference_index c (tree.Tree.address x es at) h k = passing_pieces []
passing_reference_index c (tree.Tree.unary op e at) h k = passing_pieces []
passing_reference_index c (tree.Tree.binary op a b at) h k = passing_pieces []
passing_reference_index c (tree.Tree.shift op e by at) h k = passing_pieces []
passing_reference_index c (tree.Tree.field e start size at) h k = passing_pieces []
passing_reference_index c (tree.Tree.transfer to e at) h k = passing_pieces []
passing_reference_index c (tree.Tree.bytes op a b count at) h k = passing_pieces []

passing_target_index : {t : Testing} (c : Scope) (to : Target) → Pass t c.names (target_names to) → (k : ℕ) → IsPassing t (target_index c to k)
passing_target_index c (stat.Target.plain r) h k = passing_reference_index c r h k
passing_target_index c (stat.Target.field r start size) h k = passing_reference_index c r h k
passing_target_index c (stat.Target.address x at) h k = passing_pieces []

passing_assigned : {t : Testing} (c : Scope) (to : Target) (value : ℕ → Part) → Pass t c.names (target_names to) → (k : ℕ) → ((j : ℕ) → IsPassing t (value j))
    → IsPassing t (assigned c to value k)
passing_assigned c to value h k g = passing_behind (target_stored c to k) (passing_then (passing_target_index c to h k) (g (waiting to k)))

-- ---- MOVE and SCAN

passing_source : {t : Testing} (c : Scope) (used bytes : Bool) (from : Source) → Pass t c.names (source_names from) → (k : ℕ)
    → IsPassing t (source_moved c used bytes from k)
passing_source c used bytes (stat.Source.counted from count) h k =
    passing_behind (move_of bytes 0 ∷ [])
    (passing_then (passing_reference c from (first_pass (names_in from) (names_in count) h) (behind_first used k))
    (passing_code c count (last_pass (names_in from) (names_in count) h) as_value (behind_second used k)))
passing_source c used bytes (stat.Source.text text) h k =
    passing_behind (move_of bytes 1 ∷ []) (passing_behind (constant (text_count bytes text % 65536)) (passing_behind (text_scaled bytes) (passing_offset text)))
passing_source c used bytes (stat.Source.class_of from class) h k = passing_behind _ (passing_reference c from h (behind_first used k))

passing_effect : {t : Testing} (c : Scope) (used : Bool) (e : Effect) → Pass t c.names (effect_names e) → (k : ℕ) → IsPassing t (effect c used e k)
passing_effect c used (stat.Effect.move to from) h k =
    passing_behind (told used)
    (passing_then (passing_behind (kept_first used) (passing_reference c to (first_pass (names_in to) (source_names from) h) k))
    (passing_source c used (leads_to_bytes c to) from (last_pass (names_in to) (source_names from) h) k))
passing_effect c used (stat.Effect.scan from until test) h k =
    passing_behind (told used) (passing_behind (scan_of until ∷ [])
    (passing_then (passing_behind (kept_first used) (passing_reference c from (first_pass (names_in from) (names_in test) h) k))
    (passing_code c test (last_pass (names_in from) (names_in test) h) as_value (behind_first used k))))

-- ---- FOR and CASE

passing_step : {t : Testing} (c : Scope) (es : Trees) → Pass t c.names (names_among es) → (k : ℕ) → IsPassing t (step_value c es k)
passing_step c tree.Trees.none h k = passing_pieces (LDI 1 ∷ [])
passing_step c (tree.Trees.and e es) h k = passing_code c e (first_pass (names_in e) (names_among es) h) as_value k

passing_turns : {t : Testing} (body : Part) → IsPassing t body → IsPassing t (turns body)
passing_turns body h = passing_fresh _ (λ again. passing_fresh _ (λ end.
    passing_behind (Mark end ∷ []) (passing_behind (MTBA again ∷ [])
    (passing_then (passing_behind (Mark again ∷ []) (passing_behind (BR end ∷ []) (passing_pieces (TBA again ∷ [])))) h))))

passing_arm : {t : Testing} (body : Part) (end : ℕ) → IsPassing t body → IsPassing t (arm body end)
passing_arm body end h = passing_fresh _ (λ next.
    passing_behind (LSUB ∷ []) (passing_behind (LDI 1 ∷ []) (passing_behind (Mark next ∷ []) (passing_behind (BR end ∷ [])
    (passing_then (passing_behind (DEL ∷ []) (passing_behind (BCC (failing_codes 0) next ∷ []) (passing_pieces (TEST ∷ [])))) h)))))

-- a call by itself
passing_call : {t : Testing} (c : Scope) (x : List ℕ) (es : Trees) (at : At) → Pass t c.names (names_among es ++ x ∷ []) → (k : ℕ)
    → IsPassing t (call_dropped c x es at k)
passing_call c x es at h k =
    passing_behind (result_dropped (result_of (callable (c.names x)))) (passing_code c (tree.Tree.named x es at) h as_value k)

-- ---- along the tree

mutual
  pub passing_statement : {t : Testing} (c : Context) (s : Statement) → Pass t c.scope.names (statement_names s) → (k : ℕ) → IsPassing t (statement c s k)
  passing_statement c stat.Statement.empty h k = passing_pieces (SUBS 0 ∷ [])
  passing_statement c (stat.Statement.labelled x at s) h k =
      passing_then (passing_behind (SUBS 0 ∷ []) (passing_landed (c.landings x))) (passing_statement c s h k)
  passing_statement c (stat.Statement.block ss) h k = passing_before (SUBS 0 ∷ []) (passing_listed c ss h k)
  passing_statement c (stat.Statement.if_test q s stat.Statements.none at) h k =
      let taken = first_pass (test_names q ++ statement_names s) (statements_names stat.Statements.none) h in
      passing_before (Begin at ∷ []) (passing_fresh _ (λ fail.
      passing_behind (Mark fail ∷ [])
      (passing_then (passing_tested c.scope q (first_pass (test_names q) (statement_names s) taken) fail k)
      (passing_statement c s (last_pass (test_names q) (statement_names s) taken) k))))
  passing_statement c (stat.Statement.if_test q s (stat.Statements.and t ss) at) h k =
      let taken = first_pass (test_names q ++ statement_names s) (statements_names (stat.Statements.and t ss)) h in
      let other = first_pass (statement_names t) (statements_names ss) (last_pass (test_names q ++ statement_names s) (statements_names (stat.Statements.and t ss)) h) in
      passing_before (Begin at ∷ []) (passing_fresh _ (λ fail. passing_fresh _ (λ end.
      passing_behind (Mark end ∷ []) (passing_then (passing_behind (Mark fail ∷ []) (passing_behind (BR end ∷ [])
      (passing_then (passing_tested c.scope q (first_pass (test_names q) (statement_names s) taken) fail k)
      (passing_statement c s (last_pass (test_names q) (statement_names s) taken) k)))) (passing_statement c t other k)))))
  passing_statement c (stat.Statement.while_true e s at) h k =
      passing_fresh _ (λ next. passing_fresh _ (λ end.
      passing_behind (Mark end ∷ []) (passing_behind (BR next ∷ [])
      (passing_then (passing_before (Mark next ∷ []) (passing_code c.scope e (first_pass (names_in e) (statement_names s) h) (as_test end) k))
      (passing_statement c s (last_pass (names_in e) (statement_names s) h) k)))))
  passing_statement c (stat.Statement.until_true s e at) h k =
      passing_fresh _ (λ again.
      passing_then (passing_then (passing_behind (Mark again ∷ []) (passing_pieces (SUBS 0 ∷ [])))
      (passing_statement c s (first_pass (statement_names s) (names_in e) h) k)) (passing_code c.scope e (last_pass (statement_names s) (names_in e) h) (as_test again) k))
  passing_statement c (stat.Statement.for_values x first step last s at) h k =
      let three = first_pass (names_in first ++ names_among step ++ names_in last) (statement_names s) h in
      let two = first_pass (names_in first ++ names_among step) (names_in last) three in
      passing_then (passing_before (Begin at ∷ [])
      (passing_then (passing_then
      (passing_behind (counter c.scope x k) (passing_code c.scope first (first_pass (names_in first) (names_among step) two) as_value k))
      (passing_step c.scope step (last_pass (names_in first) (names_among step) two) (k + 1)))
      (passing_code c.scope last (last_pass (names_in first ++ names_among step) (names_in last) three) as_value (k + 2))))
      (passing_turns (statement c s (k + 3)) (passing_statement c s (last_pass (names_in first ++ names_among step ++ names_in last) (statement_names s) h) (k + 3)))
  passing_statement c (stat.Statement.case_of e ss at) h k =
      passing_before (Begin at ∷ []) (passing_fresh _ (λ end.
      passing_behind (Mark end ∷ []) (passing_behind (DEL ∷ [])
      (passing_then (passing_code c.scope e (first_pass (names_in e) (statements_names ss) h) as_value k)
      (passing_arms c ss (last_pass (names_in e) (statements_names ss) h) k end)))))
  passing_statement c (stat.Statement.go_to x at) h k = passing_before (Begin at ∷ []) (passing_gone (c.landings x) k)
  passing_statement c (stat.Statement.return at) h k = passing_before (Begin at ∷ []) (passing_jump k c.leave)
  passing_statement c (stat.Statement.assign to e at) h k =
      passing_before (Begin at ∷ [])
      (passing_assigned c.scope to _ (first_pass (target_names to) (names_in e) h) k
      (λ j. passing_code c.scope e (last_pass (target_names to) (names_in e) h) as_value j))
  passing_statement c (stat.Statement.assign_effect to e at) h k =
      passing_before (Begin at ∷ [])
      (passing_assigned c.scope to _ (first_pass (target_names to) (effect_names e) h) k
      (λ j. passing_effect c.scope true e (last_pass (target_names to) (effect_names e) h) j))
  passing_statement c (stat.Statement.do_effect e at) h k = passing_before (Begin at ∷ []) (passing_effect c.scope false e h k)
  passing_statement c (stat.Statement.call x es at) h k = passing_before (Begin at ∷ []) (passing_call c.scope x es at h k)

  pub passing_listed : {t : Testing} (c : Context) (ss : Statements) → Pass t c.scope.names (statements_names ss) → (k : ℕ) → IsPassing t (listed c ss k)
  passing_listed c stat.Statements.none h k = passing_pieces []
  passing_listed c (stat.Statements.and s ss) h k =
      passing_then (passing_statement c s (first_pass (statement_names s) (statements_names ss) h) k)
      (passing_listed c ss (last_pass (statement_names s) (statements_names ss) h) k)

  passing_arms : {t : Testing} (c : Context) (ss : Statements) → Pass t c.scope.names (statements_names ss) → (k end : ℕ) → IsPassing t (arms c ss k end)
  passing_arms c stat.Statements.none h k end = passing_pieces []
  passing_arms c (stat.Statements.and s ss) h k end =
      passing_then (passing_arm (statement c s k) end (passing_statement c s (first_pass (statement_names s) (statements_names ss) h) k))
      (passing_arms c ss (last_pass (statement_names s) (statements_names ss) h) k end)
