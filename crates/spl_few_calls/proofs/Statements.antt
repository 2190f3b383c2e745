-- A statement has as many tokens as calls at least.
use Rattle.std.proofs.Common.{◌≤◌, ◌+◌, List, length, arith}
use Rattle.spl_sound.specs.spl_tree.Symbols.{Lexeme}
use Rattle.spl_sound.specs.spl_tree.Trees.{Tree, trees}
use Rattle.spl_sound.specs.spl_tree.StatementTrees as stat
use Rattle.spl_sound.specs.spl_tree.StatementTrees.{statements}
use Rattle.spl_sound.specs.spl_tree.Statements as st
use Rattle.spl_few_calls.specs.Calls.{calls, calls_among, target_calls, source_calls, effect_calls, test_calls, calls_in, calls_within}
use Rattle.spl_few_calls.proofs.Expressions.{constant_eats, level_eats, arguments_eat}

expression_eats : {e : Tree} {ts rest : List Lexeme} → st.Expression e ts rest → calls e + length rest ≤ length ts
expression_eats (st.Expression.expression l) = level_eats l

condition_eats : {e : Tree} {ts rest : List Lexeme} → st.Condition e ts rest → calls e + length rest ≤ length ts
condition_eats (st.Condition.condition l) = level_eats l

reference_eats : {r : Tree} {ts rest : List Lexeme} → st.Reference r ts rest → calls r + length rest ≤ length ts
reference_eats (st.Reference.name i) = omega arith
reference_eats (st.Reference.element i o e z) = let a = expression_eats e in omega arith

target_eats : {x : stat.Target} {ts rest : List Lexeme} → st.Target x ts rest → target_calls x + length rest ≤ length ts
target_eats (st.Target.plain r) = reference_eats r
target_eats (st.Target.field r d o a k b z) = let x = reference_eats r in let y = constant_eats a in let w = constant_eats b in omega arith
target_eats (st.Target.address a i) = omega arith

source_eats : {x : stat.Source} {ts rest : List Lexeme} → st.Source x ts rest → source_calls x + length rest ≤ length ts
source_eats (st.Source.counted r k o e z) = let a = reference_eats r in let b = expression_eats e in omega arith
source_eats (st.Source.text i) = omega arith
source_eats (st.Source.while_class r k t c) = let a = reference_eats r in omega arith

effect_eats : {x : stat.Effect} {ts rest : List Lexeme} → st.Effect x ts rest → effect_calls x + length rest ≤ length ts
effect_eats (st.Effect.move m r k x) = let a = reference_eats r in let b = source_eats x in omega arith
effect_eats (st.Effect.scan_while m r k e) = let a = reference_eats r in let b = expression_eats e in omega arith
effect_eats (st.Effect.scan_until m r k e) = let a = reference_eats r in let b = expression_eats e in omega arith

test_eats : {q : stat.Test} {ts rest : List Lexeme} → st.Test q ts rest → test_calls q + length rest ≤ length ts
test_eats (st.Test.condition e) = condition_eats e
test_eats (st.Test.code i r) = omega arith

stepped_eats : {es : List Tree} {ts rest : List Lexeme} → st.Stepped es ts rest → calls_among (trees es) + length rest ≤ length ts
stepped_eats st.Stepped.absent = omega arith
stepped_eats (st.Stepped.step i e) = let a = expression_eats e in omega arith

mutual
  pub statement_eats : {x : stat.Statement} {ts rest : List Lexeme} → st.Statement x ts rest → calls_in x + length rest ≤ length ts
  statement_eats st.Statement.empty = omega arith
  statement_eats (st.Statement.labelled i k x) = let a = statement_eats x in omega arith
  statement_eats (st.Statement.block i xs z) = let a = statements_eat xs in omega arith
  statement_eats (st.Statement.if_then i q t x) = let a = test_eats q in let b = statement_eats x in omega arith
  statement_eats (st.Statement.if_else i q t x e l y) = let a = test_eats q in let b = statement_eats x in let c = statement_eats y in omega arith
  statement_eats (st.Statement.while_do i q k x) = let a = condition_eats q in let b = statement_eats x in omega arith
  statement_eats (st.Statement.do_until i x k q) = let a = statement_eats x in let b = condition_eats q in omega arith
  statement_eats (st.Statement.for_do i n k a s u b o x) =
      let p = expression_eats a in let q = stepped_eats s in let r = expression_eats b in let y = statement_eats x in omega arith
  statement_eats (st.Statement.case_of i e o b xs z) = let a = expression_eats e in let c = statements_eat xs in omega arith
  statement_eats (st.Statement.go i j) = omega arith
  statement_eats (st.Statement.go_to i j k) = omega arith
  statement_eats (st.Statement.goto i j) = omega arith
  statement_eats (st.Statement.return i) = omega arith
  statement_eats (st.Statement.assign x k e) = let a = target_eats x in let b = expression_eats e in omega arith
  statement_eats (st.Statement.assign_effect x k e) = let a = target_eats x in let b = effect_eats e in omega arith
  statement_eats (st.Statement.effect e) = effect_eats e
  statement_eats (st.Statement.call i) = omega arith
  statement_eats (st.Statement.call_with i o es z) = let a = arguments_eat es in omega arith

  pub statements_eat : {xs : List stat.Statement} {ts rest : List Lexeme} → st.Statements xs ts rest → calls_within (statements xs) + length rest ≤ length ts
  statements_eat (st.Statements.one x) = let a = statement_eats x in omega arith
  statements_eat (st.Statements.more x k xs) = let a = statement_eats x in let b = statements_eat xs in omega arith
