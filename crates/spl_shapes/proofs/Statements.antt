-- Statements that tokens spell, along their productions.
use Rattle.std.proofs.Common.{◌≡◌, ◌&&◌, nat_lt, Bool, true, List, refl}
use Rattle.std.proofs.lemmas.Bool.{and_from}
use Rattle.spl_cuts.specs.spl_tree.Symbols.{Lexeme}
use Rattle.spl_cuts.specs.spl_tree.Trees.{Tree, trees}
use Rattle.spl_cuts.specs.spl_tree.StatementTrees.{Statement, Target, Source, Effect, Test, statements}
use Rattle.spl_cuts.specs.spl_tree.Statements as st
use Rattle.spl_shapes.specs.Shapes.{is_one_at_most, is_shaped, are_shaped, is_shaped_reference, is_shaped_target, is_shaped_source, is_shaped_effect, is_shaped_test, is_shaped_statement, are_shaped_statements}
use Rattle.spl_shapes.specs.Laws.{HaveBytes}
use Rattle.spl_shapes.proofs.Operators.{relation_small, class_small}
use Rattle.spl_shapes.proofs.Expressions.{constant_rest, level_shaped, arguments_shaped}

-- what is shaped, and the tokens behind it
abbrev pub Told : Bool → List Lexeme → Type 0
Told b rest = (b ≡ true) × HaveBytes rest

expression_shaped : {e : Tree} {ts rest : List Lexeme} → st.Expression e ts rest → HaveBytes ts → Told (is_shaped e) rest
expression_shaped (st.Expression.expression d) b = let k = level_shaped d b in (k.shaped, k.behind)

condition_shaped : {e : Tree} {ts rest : List Lexeme} → st.Condition e ts rest → HaveBytes ts → Told (is_shaped e) rest
condition_shaped (st.Condition.condition d) b = let k = level_shaped d b in (k.shaped, k.behind)

reference_shaped : {r : Tree} {ts rest : List Lexeme} → st.Reference r ts rest → HaveBytes ts → Told (is_shaped_reference r) rest
reference_shaped (st.Reference.name i) b = (refl, b.1)
reference_shaped (st.Reference.element {e = e} i o d z) b =
    let k = expression_shaped d b.1.1 in (and_from true (is_shaped e && true) refl (and_from (is_shaped e) true k.0 refl), k.1.1)

target_shaped : {x : Target} {ts rest : List Lexeme} → st.Target x ts rest → HaveBytes ts → Told (is_shaped_target x) rest
target_shaped (st.Target.plain d) b = reference_shaped d b
target_shaped (st.Target.field d i o p c q z) b = let k = reference_shaped d b in (k.0, (constant_rest q (constant_rest p k.1.1.1).1).1)
target_shaped (st.Target.address i j) b = (refl, b.1.1)

source_shaped : {x : Source} {ts rest : List Lexeme} → st.Source x ts rest → HaveBytes ts → Told (is_shaped_source x) rest
source_shaped (st.Source.counted {r = r} {e = e} d i o n z) b =
    let k = reference_shaped d b in
    let m = expression_shaped n k.1.1.1 in
    (and_from (is_shaped_reference r) (is_shaped e) k.0 m.0, m.1.1)
source_shaped (st.Source.text i) b = (b.0, b.1)
source_shaped (st.Source.while_class {r = r} {n = n} {t = t} d i j is) b =
    let k = reference_shaped d b in (and_from (is_shaped_reference r) (nat_lt n 5) k.0 (class_small t.letters n is), k.1.1.1)

effect_shaped : {x : Effect} {ts rest : List Lexeme} → st.Effect x ts rest → HaveBytes ts → Told (is_shaped_effect x) rest
effect_shaped (st.Effect.move {r = r} {x = x} i d a n) b =
    let k = reference_shaped d b.1 in
    let m = source_shaped n k.1.1 in
    (and_from (is_shaped_reference r) (is_shaped_source x) k.0 m.0, m.1)
effect_shaped (st.Effect.scan_while {r = r} {e = e} i d w n) b =
    let k = reference_shaped d b.1 in
    let m = expression_shaped n k.1.1 in
    (and_from (is_shaped_reference r) (is_shaped e) k.0 m.0, m.1)
effect_shaped (st.Effect.scan_until {r = r} {e = e} i d w n) b =
    let k = reference_shaped d b.1 in
    let m = expression_shaped n k.1.1 in
    (and_from (is_shaped_reference r) (is_shaped e) k.0 m.0, m.1)

test_shaped : {x : Test} {ts rest : List Lexeme} → st.Test x ts rest → HaveBytes ts → Told (is_shaped_test x) rest
test_shaped (st.Test.condition d) b = condition_shaped d b
test_shaped (st.Test.code {op = op} i r) b = (relation_small op r, b.1)

step_shaped : {es : List Tree} {ts rest : List Lexeme} → st.Stepped es ts rest → HaveBytes ts → Told (is_one_at_most (trees es) && are_shaped (trees es)) rest
step_shaped st.Stepped.absent b = (refl, b)
step_shaped (st.Stepped.step {e = e} i d) b = let k = expression_shaped d b.1 in (and_from (is_shaped e) true k.0 refl, k.1)

mutual
  pub statement_shaped : {x : Statement} {ts rest : List Lexeme} → st.Statement x ts rest → HaveBytes ts → Told (is_shaped_statement x) rest
  statement_shaped st.Statement.empty b = (refl, b)
  statement_shaped (st.Statement.labelled i k d) b = statement_shaped d b.1.1
  statement_shaped (st.Statement.block i d z) b = let k = statements_shaped d b.1 in (k.0, k.1.1)
  statement_shaped (st.Statement.if_then {q = q} {x = x} i d t s) b =
      let k = test_shaped d b.1 in
      let m = statement_shaped s k.1.1 in
      (and_from (is_shaped_test q && is_shaped_statement x) true (and_from (is_shaped_test q) (is_shaped_statement x) k.0 m.0) refl, m.1)
  statement_shaped (st.Statement.if_else {q = q} {x = x} {y = y} i d t s c l r) b =
      let k = test_shaped d b.1 in
      let m = statement_shaped s k.1.1 in
      let n = statement_shaped r m.1.1 in (
        and_from (is_shaped_test q && is_shaped_statement x) (true && (is_shaped_statement y && true)) (and_from (is_shaped_test q) (is_shaped_statement x) k.0 m.0)
            (and_from (is_shaped_statement y) true n.0 refl),
        n.1,
      )
  statement_shaped (st.Statement.while_do {e = e} {x = x} i d t s) b =
      let k = condition_shaped d b.1 in
      let m = statement_shaped s k.1.1 in
      (and_from (is_shaped e) (is_shaped_statement x) k.0 m.0, m.1)
  statement_shaped (st.Statement.do_until {e = e} {x = x} i s t d) b =
      let m = statement_shaped s b.1 in
      let k = condition_shaped d m.1.1 in
      (and_from (is_shaped_statement x) (is_shaped e) m.0 k.0, k.1)
  statement_shaped (st.Statement.for_do {a = a} {b = last} {es = es} {x = x} i j k d p u q t s) b =
      let first = expression_shaped d b.1.1.1 in
      let step = step_shaped p first.1 in
      let end = expression_shaped q step.1.1 in
      let m = statement_shaped s end.1.1 in (
        and_from ((is_shaped a && is_shaped last) && (is_one_at_most (trees es) && are_shaped (trees es))) (is_shaped_statement x)
            (and_from (is_shaped a && is_shaped last) (is_one_at_most (trees es) && are_shaped (trees es)) (and_from (is_shaped a) (is_shaped last) first.0 end.0) step.0) m.0,
        m.1,
      )
  statement_shaped (st.Statement.case_of {e = e} {xs = xs} i d o j s z) b =
      let k = expression_shaped d b.1 in
      let m = statements_shaped s k.1.1.1 in
      (and_from (is_shaped e) (are_shaped_statements (statements xs)) k.0 m.0, m.1.1)
  statement_shaped (st.Statement.go i j) b = (refl, b.1.1)
  statement_shaped (st.Statement.go_to i k j) b = (refl, b.1.1.1)
  statement_shaped (st.Statement.goto i j) b = (refl, b.1.1)
  statement_shaped (st.Statement.return i) b = (refl, b.1)
  statement_shaped (st.Statement.assign {x = x} {e = e} d i n) b =
      let k = target_shaped d b in
      let m = expression_shaped n k.1.1 in
      (and_from (is_shaped_target x) (is_shaped e) k.0 m.0, m.1)
  statement_shaped (st.Statement.assign_effect {x = x} {e = e} d i n) b =
      let k = target_shaped d b in
      let m = effect_shaped n k.1.1 in
      (and_from (is_shaped_target x) (is_shaped_effect e) k.0 m.0, m.1)
  statement_shaped (st.Statement.effect d) b = effect_shaped d b
  statement_shaped (st.Statement.call i) b = (refl, b.1)
  statement_shaped (st.Statement.call_with i o d z) b = let k = arguments_shaped d b.1.1 in (k.0, k.1.1)

  pub statements_shaped : {xs : List Statement} {ts rest : List Lexeme} → st.Statements xs ts rest → HaveBytes ts → Told (are_shaped_statements (statements xs)) rest
  statements_shaped (st.Statements.one {x = x} d) b = let k = statement_shaped d b in (and_from (is_shaped_statement x) true k.0 refl, k.1)
  statements_shaped (st.Statements.more {x = x} {xs = xs} d i r) b =
      let k = statement_shaped d b in
      let m = statements_shaped r k.1.1 in
      (and_from (is_shaped_statement x) (are_shaped_statements (statements xs)) k.0 m.0, m.1)
