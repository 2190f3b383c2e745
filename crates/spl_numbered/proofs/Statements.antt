-- A statement takes its tokens from the front.
use Rattle.std.proofs.Common.{◌≤◌, ℕ, List, arith}
use Rattle.spl_bounds.specs.spl_tree.Symbols.{Lexeme}
use Rattle.spl_bounds.specs.spl_tree.Trees.{Tree}
use Rattle.spl_bounds.specs.spl_tree.StatementTrees as stat
use Rattle.spl_bounds.specs.spl_tree.Statements as st
use Rattle.spl_numbered.proofs.Beyond.{beyond}
use Rattle.spl_numbered.proofs.Expressions.{constant_eats, level_eats, arguments_eat}

expression_eats : (top : ℕ) {e : Tree} {ts rest : List Lexeme} → st.Expression e ts rest → beyond top rest ≤ beyond top ts
expression_eats top (st.Expression.expression l) = level_eats top l

condition_eats : (top : ℕ) {e : Tree} {ts rest : List Lexeme} → st.Condition e ts rest → beyond top rest ≤ beyond top ts
condition_eats top (st.Condition.condition l) = level_eats top l

reference_eats : (top : ℕ) {r : Tree} {ts rest : List Lexeme} → st.Reference r ts rest → beyond top rest ≤ beyond top ts
reference_eats top (st.Reference.name i) = omega arith
reference_eats top (st.Reference.element i o e z) = let a = expression_eats top e in omega arith

target_eats : (top : ℕ) {x : stat.Target} {ts rest : List Lexeme} → st.Target x ts rest → beyond top rest ≤ beyond top ts
target_eats top (st.Target.plain r) = reference_eats top r
target_eats top (st.Target.field r d o a k b z) = let x = reference_eats top r in let y = constant_eats top a in let w = constant_eats top b in omega arith
target_eats top (st.Target.address a i) = omega arith

source_eats : (top : ℕ) {x : stat.Source} {ts rest : List Lexeme} → st.Source x ts rest → beyond top rest ≤ beyond top ts
source_eats top (st.Source.counted r k o e z) = let a = reference_eats top r in let b = expression_eats top e in omega arith
source_eats top (st.Source.text i) = omega arith
source_eats top (st.Source.while_class r k t c) = let a = reference_eats top r in omega arith

effect_eats : (top : ℕ) {x : stat.Effect} {ts rest : List Lexeme} → st.Effect x ts rest → beyond top rest ≤ beyond top ts
effect_eats top (st.Effect.move m r k x) = let a = reference_eats top r in let b = source_eats top x in omega arith
effect_eats top (st.Effect.scan_while m r k e) = let a = reference_eats top r in let b = expression_eats top e in omega arith
effect_eats top (st.Effect.scan_until m r k e) = let a = reference_eats top r in let b = expression_eats top e in omega arith

test_eats : (top : ℕ) {q : stat.Test} {ts rest : List Lexeme} → st.Test q ts rest → beyond top rest ≤ beyond top ts
test_eats top (st.Test.condition e) = condition_eats top e
test_eats top (st.Test.code i r) = omega arith

stepped_eats : (top : ℕ) {es : List Tree} {ts rest : List Lexeme} → st.Stepped es ts rest → beyond top rest ≤ beyond top ts
stepped_eats top st.Stepped.absent = omega arith
stepped_eats top (st.Stepped.step i e) = let a = expression_eats top e in omega arith

mutual
  pub statement_eats : (top : ℕ) {x : stat.Statement} {ts rest : List Lexeme} → st.Statement x ts rest → beyond top rest ≤ beyond top ts
  statement_eats top st.Statement.empty = omega arith
  statement_eats top (st.Statement.labelled i k x) = let a = statement_eats top x in omega arith
  statement_eats top (st.Statement.block i xs z) = let a = statements_eat top xs in omega arith
  statement_eats top (st.Statement.if_then i q t x) = let a = test_eats top q in let b = statement_eats top x in omega arith
  statement_eats top (st.Statement.if_else i q t x e l y) = let a = test_eats top q in let b = statement_eats top x in let c = statement_eats top y in omega arith
  statement_eats top (st.Statement.while_do i q k x) = let a = condition_eats top q in let b = statement_eats top x in omega arith
  statement_eats top (st.Statement.do_until i x k q) = let a = statement_eats top x in let b = condition_eats top q in omega arith
  statement_eats top (st.Statement.for_do i n k a s u b o x) =
      let p = expression_eats top a in let q = stepped_eats top s in let r = expression_eats top b in let y = statement_eats top x in omega arith
  statement_eats top (st.Statement.case_of i e o b xs z) = let a = expression_eats top e in let c = statements_eat top xs in omega arith
  statement_eats top (st.Statement.go i j) = omega arith
  statement_eats top (st.Statement.go_to i j k) = omega arith
  statement_eats top (st.Statement.goto i j) = omega arith
  statement_eats top (st.Statement.return i) = omega arith
  statement_eats top (st.Statement.assign x k e) = let a = target_eats top x in let b = expression_eats top e in omega arith
  statement_eats top (st.Statement.assign_effect x k e) = let a = target_eats top x in let b = effect_eats top e in omega arith
  statement_eats top (st.Statement.effect e) = effect_eats top e
  statement_eats top (st.Statement.call i) = omega arith
  statement_eats top (st.Statement.call_with i o es z) = let a = arguments_eat top es in omega arith

  pub statements_eat : (top : ℕ) {xs : List stat.Statement} {ts rest : List Lexeme} → st.Statements xs ts rest → beyond top rest ≤ beyond top ts
  statements_eat top (st.Statements.one x) = let a = statement_eats top x in omega arith
  statements_eat top (st.Statements.more x k xs) = let a = statement_eats top x in let b = statements_eat top xs in omega arith
