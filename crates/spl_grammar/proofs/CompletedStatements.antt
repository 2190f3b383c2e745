-- Each open prefix of a statement can be completed, one production at a time.
use Rattle.std.proofs.Common.{ℕ, ◌≡◌, true, false, List, [], ◌∷◌, Some, None, refl}
use Rattle.spl_reading.specs.spl_tree.declared.symbols.Symbol.TheVariants as s
use Rattle.spl_reading.specs.spl_tree.declared.symbols.Reserved.TheVariants as wd
use Rattle.spl_reading.specs.spl_tree.Symbols.{Lexeme}
use Rattle.spl_reading.specs.spl_tree.Expressions as g
use Rattle.spl_reading.specs.spl_tree.Trees.{Tree}
use Rattle.spl_reading.specs.spl_tree.StatementTrees as stat
use Rattle.spl_reading.specs.spl_tree.StatementTrees.{closed}
use Rattle.spl_reading.specs.spl_tree.Statements as st
use Rattle.spl_reading.specs.spl_tree.Statements.{class_of}
use Rattle.spl_reading.specs.spl_tree.OpenStatements as op
use Rattle.spl_reading.specs.spl_tree.OpenStatements.{StatementStep}
use Rattle.spl_reading.specs.spl_tree.Parts.{Part}
use Rattle.spl_grammar.proofs.MovedParts.{same, behind, along, move_constant, move_arguments}
use Rattle.spl_grammar.proofs.MovedStatements.{SomeExpression, SomeCondition, SomeReference, SomeSource, SomeEffect, SomeTest, SomeStatements, move_expression, move_condition, move_reference, move_target, move_test, move_stepped, still_closed, move_statement, move_statements}
use Rattle.spl_grammar.proofs.CompletedParts.{AnyLevel, AnyStatement, Inside, free, a_constant, some_arguments, a_reference, a_source, an_effect, a_test, a_statement, some_statements, filled, Completed, around, open_at, token, word, a_name, a_number, a_class, one_level, one_expression}

-- a level as an expression or a condition
expr : {ts rest : List Lexeme} (l : AnyLevel false None 10 ts rest) → st.Expression l.tree ts rest
expr l = st.Expression.expression l.spelled

-- a condition
cond : {ts rest : List Lexeme} (l : AnyLevel true None 10 ts rest) → st.Condition l.tree ts rest
cond l = st.Condition.condition l.spelled

-- what one token completes
name_expr : (more : List Lexeme) → SomeExpression (a_name ∷ more) more
name_expr more = let a = one_expression more in record { tree = a.tree; spelled = expr a }

-- a condition of one token
name_cond : (more : List Lexeme) → SomeCondition (a_name ∷ more) more
name_cond more = let a = one_level true None 10 free more in record { tree = a.tree; spelled = cond a }

-- some part of each kind
any_reference : {x : Tree} {ts rest : List Lexeme} → st.Reference x ts rest → SomeReference ts rest
any_reference r = record { tree = _; spelled = r }

-- a source
any_source : {x : stat.Source} {ts rest : List Lexeme} → st.Source x ts rest → SomeSource ts rest
any_source r = record { tree = _; spelled = r }

-- an effect
any_effect : {x : stat.Effect} {ts rest : List Lexeme} → st.Effect x ts rest → SomeEffect ts rest
any_effect r = record { tree = _; spelled = r }

-- a test
any_test : {x : stat.Test} {ts rest : List Lexeme} → st.Test x ts rest → SomeTest ts rest
any_test r = record { tree = _; spelled = r }

-- a statement
any_statement : {x : stat.Statement} {ts rest : List Lexeme} → st.Statement x ts rest → AnyStatement ts rest
any_statement r = record { tree = _; spelled = r }

-- statements
any_statements : {xs : List stat.Statement} {ts rest : List Lexeme} → st.Statements xs ts rest → SomeStatements ts rest
any_statements r = record { trees = _; spelled = r }

-- the name of a class is one
a_class_is : class_of a_class.letters ≡ Some 0
unfolding class_of
a_class_is = refl

-- one step, and the part that is open behind it
pub statement_completed : {p q : Part} {d j : ℕ} {ts mid rest : List Lexeme} → StatementStep p d ts q j mid
    → (Inside q → Completed q mid rest) → Completed p ts rest
statement_completed (op.index i j) o = around free (token s.Close ∷ []) o (λ us next more sw b.
    filled (behind (behind sw))
    (any_reference (st.Reference.element i j (expr b) refl)))
statement_completed (op.index_close i j e) o = open_at (token s.Close ∷ []) o (λ more.
    let a = move_expression e (token s.Close ∷ more) in
    filled (behind (behind a.swap))
    (any_reference (st.Reference.element i j a.whole.spelled refl)))
statement_completed (op.whole_reference r) o = open_at [] o (λ more.
    let a = move_reference r more in
    filled a.swap
    (any_reference a.whole.spelled))
statement_completed op.source_reference o = around a_reference (word wd.While ∷ a_class ∷ []) o (λ us next more sw b.
    filled sw
    (any_source (st.Source.while_class b.spelled refl refl a_class_is)))
statement_completed (op.source_mark r) o = open_at (word wd.While ∷ a_class ∷ []) o (λ more.
    let a = move_reference r (word wd.While ∷ a_class ∷ more) in
    filled a.swap
    (any_source (st.Source.while_class a.whole.spelled refl refl a_class_is)))
statement_completed (op.source_open {k = k} r i) o = open_at (token s.Open ∷ a_name ∷ token s.Close ∷ []) o (λ more.
    let n = name_expr (token s.Close ∷ more) in let a = move_reference r (k ∷ token s.Open ∷ a_name ∷ token s.Close ∷ more) in
    filled (along a.swap (behind same))
    (any_source (st.Source.counted a.whole.spelled i refl n.spelled refl)))
statement_completed (op.source_count {k = k} {o = m} r i j) o = around free (token s.Close ∷ []) o (λ us next more sw b.
    let a = move_reference r (k ∷ m ∷ us) in
    filled (along a.swap (behind (behind sw)))
    (any_source (st.Source.counted a.whole.spelled i j (expr b) refl)))
statement_completed (op.source_close {k = k} {o = m} r i j e) o = open_at (token s.Close ∷ []) o (λ more.
    let n = move_expression e (token s.Close ∷ more) in let a = move_reference r (k ∷ m ∷ n.to) in
    filled (along a.swap (behind (behind n.swap)))
    (any_source (st.Source.counted a.whole.spelled i j n.whole.spelled refl)))
statement_completed (op.source_class {k = k} r i) o = open_at (a_class ∷ []) o (λ more.
    let a = move_reference r (k ∷ a_class ∷ more) in
    filled (along a.swap (behind same))
    (any_source (st.Source.while_class a.whole.spelled i refl a_class_is)))
statement_completed (op.move_reference i) o = around a_reference (token s.Assign ∷ token s.Text ∷ []) o (λ us next more sw b.
    filled (behind sw)
    (any_effect (st.Effect.move i b.spelled refl (st.Source.text refl))))
statement_completed (op.move_assign i r) o = open_at (token s.Assign ∷ token s.Text ∷ []) o (λ more.
    let a = move_reference r (token s.Assign ∷ token s.Text ∷ more) in
    filled (behind a.swap)
    (any_effect (st.Effect.move i a.whole.spelled refl (st.Source.text refl))))
statement_completed (op.move_source {k = k} i r j) o = around a_source [] o (λ us next more sw b.
    let a = move_reference r (k ∷ us) in
    filled (behind (along a.swap (behind sw)))
    (any_effect (st.Effect.move i a.whole.spelled j b.spelled)))
statement_completed (op.scan_reference i) o = around a_reference (word wd.While ∷ a_name ∷ []) o (λ us next more sw b.
    let n = name_expr more in
    filled (behind sw)
    (any_effect (st.Effect.scan_while i b.spelled refl n.spelled)))
statement_completed (op.scan_mark i r) o = open_at (word wd.While ∷ a_name ∷ []) o (λ more.
    let n = name_expr more in let a = move_reference r (word wd.While ∷ a_name ∷ more) in
    filled (behind a.swap)
    (any_effect (st.Effect.scan_while i a.whole.spelled refl n.spelled)))
statement_completed (op.scan_while {k = k} i r j) o = around free [] o (λ us next more sw b.
    let a = move_reference r (k ∷ us) in
    filled (behind (along a.swap (behind sw)))
    (any_effect (st.Effect.scan_while i a.whole.spelled j (expr b))))
statement_completed (op.scan_until {k = k} i r j) o = around free [] o (λ us next more sw b.
    let a = move_reference r (k ∷ us) in
    filled (behind (along a.swap (behind sw)))
    (any_effect (st.Effect.scan_until i a.whole.spelled j (expr b))))
statement_completed op.test_condition o = around free [] o (λ us next more sw b.
    filled sw
    (any_test (st.Test.condition (cond b))))
statement_completed (op.label i j) o = around a_statement [] o (λ us next more sw b.
    filled (behind (behind sw))
    (any_statement (st.Statement.labelled i j b.spelled)))
statement_completed (op.begin i) o = around some_statements (word wd.End ∷ []) o (λ us next more sw b.
    filled (behind sw)
    (any_statement (st.Statement.block i b.spelled refl)))
statement_completed (op.begin_end i xs) o = open_at (word wd.End ∷ []) o (λ more.
    let a = move_statements xs (word wd.End ∷ more) in
    filled (behind a.swap)
    (any_statement (st.Statement.block i a.whole.spelled refl)))
statement_completed (op.if_test i) o = around a_test (word wd.Then ∷ []) o (λ us next more sw b.
    filled (behind sw)
    (any_statement (st.Statement.if_then i b.spelled refl st.Statement.empty)))
statement_completed (op.if_then i q) o = open_at (word wd.Then ∷ []) o (λ more.
    let a = move_test q (word wd.Then ∷ more) in
    filled (behind a.swap)
    (any_statement (st.Statement.if_then i a.whole.spelled refl st.Statement.empty)))
statement_completed (op.then_branch {t = t} i q j) o = around a_statement [] o (λ us next more sw b.
    let a = move_test q (t ∷ us) in
    filled (behind (along a.swap (behind sw)))
    (any_statement (st.Statement.if_then i a.whole.spelled j b.spelled)))
statement_completed (op.else_mark {t = t} i q j x e) o = open_at [] o (λ more.
    let n = move_statement x more in let a = move_test q (t ∷ n.to) in
    filled (behind (along a.swap (behind n.swap)))
    (any_statement (st.Statement.if_then i a.whole.spelled j n.whole.spelled)))
statement_completed (op.else_branch {t = t} {l = l} i q j x e k) o = around a_statement [] o (λ us next more sw b.
    let n = move_statement x (l ∷ us) in let a = move_test q (t ∷ n.to) in
    filled (behind (along a.swap (behind (along n.swap (behind sw)))))
    (any_statement (st.Statement.if_else i a.whole.spelled j n.whole.spelled (still_closed n.whole.alike e) k b.spelled)))
statement_completed (op.while_condition i) o = around free (word wd.Do ∷ []) o (λ us next more sw b.
    filled (behind sw)
    (any_statement (st.Statement.while_do i (cond b) refl st.Statement.empty)))
statement_completed (op.while_do i e) o = open_at (word wd.Do ∷ []) o (λ more.
    let a = move_condition e (word wd.Do ∷ more) in
    filled (behind a.swap)
    (any_statement (st.Statement.while_do i a.whole.spelled refl st.Statement.empty)))
statement_completed (op.while_body {k = k} i e j) o = around a_statement [] o (λ us next more sw b.
    let a = move_condition e (k ∷ us) in
    filled (behind (along a.swap (behind sw)))
    (any_statement (st.Statement.while_do i a.whole.spelled j b.spelled)))
statement_completed (op.do_body i) o = around a_statement (word wd.Until ∷ a_name ∷ []) o (λ us next more sw b.
    let n = name_cond more in
    filled (behind sw)
    (any_statement (st.Statement.do_until i b.spelled refl n.spelled)))
statement_completed (op.do_until i x) o = open_at (word wd.Until ∷ a_name ∷ []) o (λ more.
    let n = name_cond more in let a = move_statement x (word wd.Until ∷ a_name ∷ more) in
    filled (behind a.swap)
    (any_statement (st.Statement.do_until i a.whole.spelled refl n.spelled)))
statement_completed (op.do_condition {k = k} i x j) o = around free [] o (λ us next more sw b.
    let a = move_statement x (k ∷ us) in
    filled (behind (along a.swap (behind sw)))
    (any_statement (st.Statement.do_until i a.whole.spelled j (cond b))))
statement_completed (op.for_name i) o = open_at (a_name ∷ token s.Assign ∷ a_name ∷ word wd.Until ∷ a_name ∷ word wd.Do ∷ []) o (λ more.
    let a = name_expr (word wd.Until ∷ a_name ∷ word wd.Do ∷ more) in let n = name_expr (word wd.Do ∷ more) in
    filled (behind same)
    (any_statement (st.Statement.for_do i refl refl a.spelled st.Stepped.absent refl n.spelled refl st.Statement.empty)))
statement_completed (op.for_assign i j) o = open_at (token s.Assign ∷ a_name ∷ word wd.Until ∷ a_name ∷ word wd.Do ∷ []) o (λ more.
    let a = name_expr (word wd.Until ∷ a_name ∷ word wd.Do ∷ more) in let n = name_expr (word wd.Do ∷ more) in
    filled (behind (behind same))
    (any_statement (st.Statement.for_do i j refl a.spelled st.Stepped.absent refl n.spelled refl st.Statement.empty)))
statement_completed (op.for_first i j k) o = around free (word wd.Until ∷ a_name ∷ word wd.Do ∷ []) o (λ us next more sw b.
    let n = name_expr (word wd.Do ∷ more) in
    filled (behind (behind (behind sw)))
    (any_statement (st.Statement.for_do i j k (expr b) st.Stepped.absent refl n.spelled refl st.Statement.empty)))
statement_completed (op.for_step i j k e) o = open_at (word wd.Until ∷ a_name ∷ word wd.Do ∷ []) o (λ more.
    let n = name_expr (word wd.Do ∷ more) in let a = move_expression e (word wd.Until ∷ a_name ∷ word wd.Do ∷ more) in
    filled (behind (behind (behind a.swap)))
    (any_statement (st.Statement.for_do i j k a.whole.spelled st.Stepped.absent refl n.spelled refl st.Statement.empty)))
statement_completed (op.for_step_value {p = m} i j k e p) o = around free (word wd.Until ∷ a_name ∷ word wd.Do ∷ []) o (λ us next more sw b.
    let n = name_expr (word wd.Do ∷ more) in let a = move_expression e (m ∷ us) in
    filled (behind (behind (behind (along a.swap (behind sw)))))
    (any_statement (st.Statement.for_do i j k a.whole.spelled (st.Stepped.step p (expr b)) refl n.spelled refl st.Statement.empty)))
statement_completed (op.for_until i j k e p) o = open_at (word wd.Until ∷ a_name ∷ word wd.Do ∷ []) o (λ more.
    let n = name_expr (word wd.Do ∷ more) in let c = move_stepped p (word wd.Until ∷ a_name ∷ word wd.Do ∷ more) in let a = move_expression e c.to in
    filled (behind (behind (behind (along a.swap c.swap))))
    (any_statement (st.Statement.for_do i j k a.whole.spelled c.whole.spelled refl n.spelled refl st.Statement.empty)))
statement_completed (op.for_last {u = u} i j k e p q) o = around free (word wd.Do ∷ []) o (λ us next more sw b.
    let c = move_stepped p (u ∷ us) in let a = move_expression e c.to in
    filled (behind (behind (behind (along a.swap (along c.swap (behind sw))))))
    (any_statement (st.Statement.for_do i j k a.whole.spelled c.whole.spelled q (expr b) refl st.Statement.empty)))
statement_completed (op.for_do {u = u} i j k e p q f) o = open_at (word wd.Do ∷ []) o (λ more.
    let n = move_expression f (word wd.Do ∷ more) in let c = move_stepped p (u ∷ n.to) in let a = move_expression e c.to in
    filled (behind (behind (behind (along a.swap (along c.swap (behind n.swap))))))
    (any_statement (st.Statement.for_do i j k a.whole.spelled c.whole.spelled q n.whole.spelled refl st.Statement.empty)))
statement_completed (op.for_body {u = u} {o = m} i j k e p q f r) o = around a_statement [] o (λ us next more sw b.
    let n = move_expression f (m ∷ us) in let c = move_stepped p (u ∷ n.to) in let a = move_expression e c.to in
    filled (behind (behind (behind (along a.swap (along c.swap (behind (along n.swap (behind sw))))))))
    (any_statement (st.Statement.for_do i j k a.whole.spelled c.whole.spelled q n.whole.spelled r b.spelled)))
statement_completed (op.case_value i) o = around free (word wd.Of ∷ word wd.Begin ∷ word wd.End ∷ []) o (λ us next more sw b.
    filled (behind sw)
    (any_statement (st.Statement.case_of i (expr b) refl refl (st.Statements.one st.Statement.empty) refl)))
statement_completed (op.case_of i e) o = open_at (word wd.Of ∷ word wd.Begin ∷ word wd.End ∷ []) o (λ more.
    let a = move_expression e (word wd.Of ∷ word wd.Begin ∷ word wd.End ∷ more) in
    filled (behind a.swap)
    (any_statement (st.Statement.case_of i a.whole.spelled refl refl (st.Statements.one st.Statement.empty) refl)))
statement_completed (op.case_begin {o = m} i e j) o = open_at (word wd.Begin ∷ word wd.End ∷ []) o (λ more.
    let a = move_expression e (m ∷ word wd.Begin ∷ word wd.End ∷ more) in
    filled (behind (along a.swap (behind same)))
    (any_statement (st.Statement.case_of i a.whole.spelled j refl (st.Statements.one st.Statement.empty) refl)))
statement_completed (op.case_arms {o = m} {b = l} i e j k) o = around some_statements (word wd.End ∷ []) o (λ us next more sw b.
    let a = move_expression e (m ∷ l ∷ us) in
    filled (behind (along a.swap (behind (behind sw))))
    (any_statement (st.Statement.case_of i a.whole.spelled j k b.spelled refl)))
statement_completed (op.case_end {o = m} {b = l} i e j k xs) o = open_at (word wd.End ∷ []) o (λ more.
    let n = move_statements xs (word wd.End ∷ more) in let a = move_expression e (m ∷ l ∷ n.to) in
    filled (behind (along a.swap (behind (behind n.swap))))
    (any_statement (st.Statement.case_of i a.whole.spelled j k n.whole.spelled refl)))
statement_completed (op.go i) o = open_at (a_name ∷ []) o (λ more.
    filled (behind same)
    (any_statement (st.Statement.go i refl)))
statement_completed (op.go_to i j) o = open_at (a_name ∷ []) o (λ more.
    filled (behind (behind same))
    (any_statement (st.Statement.go_to i j refl)))
statement_completed (op.goto i) o = open_at (a_name ∷ []) o (λ more.
    filled (behind same)
    (any_statement (st.Statement.goto i refl)))
statement_completed op.target_reference o = around a_reference (token s.Assign ∷ a_name ∷ []) o (λ us next more sw b.
    let n = name_expr more in
    filled sw
    (any_statement (st.Statement.assign (st.Target.plain b.spelled) refl n.spelled)))
statement_completed (op.target_dot {b = m} r i) o = open_at (token s.Open ∷ a_number ∷ token s.Colon ∷ a_number ∷ token s.Close ∷ token s.Assign ∷ a_name ∷ []) o (λ more.
    let n = name_expr more in let a = move_reference r (m ∷ token s.Open ∷ a_number ∷ token s.Colon ∷ a_number ∷ token s.Close ∷ token s.Assign ∷ a_name ∷ more) in
    filled (along a.swap (behind same))
    (any_statement (st.Statement.assign (st.Target.field a.whole.spelled i refl (g.Constant.number refl) refl (g.Constant.number refl) refl) refl n.spelled)))
statement_completed (op.target_start {b = m} {o = k} r i j) o = around a_constant (token s.Colon ∷ a_number ∷ token s.Close ∷ token s.Assign ∷ a_name ∷ []) o (λ us next more sw b.
    let n = name_expr more in let a = move_reference r (m ∷ k ∷ us) in
    filled (along a.swap (behind (behind sw)))
    (any_statement (st.Statement.assign (st.Target.field a.whole.spelled i j b.spelled refl (g.Constant.number refl) refl) refl n.spelled)))
statement_completed (op.target_colon {b = m} {o = k} r i j v) o = open_at (token s.Colon ∷ a_number ∷ token s.Close ∷ token s.Assign ∷ a_name ∷ []) o (λ more.
    let n = name_expr more in let c = move_constant v (token s.Colon ∷ a_number ∷ token s.Close ∷ token s.Assign ∷ a_name ∷ more) in let a = move_reference r (m ∷ k ∷ c.to) in
    filled (along a.swap (behind (behind c.swap)))
    (any_statement (st.Statement.assign (st.Target.field a.whole.spelled i j c.whole.spelled refl (g.Constant.number refl) refl) refl n.spelled)))
statement_completed (op.target_length {b = m} {o = k} {k = l} r i j v q) o = around a_constant (token s.Close ∷ token s.Assign ∷ a_name ∷ []) o (λ us next more sw b.
    let n = name_expr more in let c = move_constant v (l ∷ us) in let a = move_reference r (m ∷ k ∷ c.to) in
    filled (along a.swap (behind (behind (along c.swap (behind sw)))))
    (any_statement (st.Statement.assign (st.Target.field a.whole.spelled i j c.whole.spelled q b.spelled refl) refl n.spelled)))
statement_completed (op.target_close {b = m} {o = k} {k = l} r i j v q u) o = open_at (token s.Close ∷ token s.Assign ∷ a_name ∷ []) o (λ more.
    let n = name_expr more in let d = move_constant u (token s.Close ∷ token s.Assign ∷ a_name ∷ more) in let c = move_constant v (l ∷ d.to) in let a = move_reference r (m ∷ k ∷ c.to) in
    filled (along a.swap (behind (behind (along c.swap (behind d.swap)))))
    (any_statement (st.Statement.assign (st.Target.field a.whole.spelled i j c.whole.spelled q d.whole.spelled refl) refl n.spelled)))
statement_completed (op.target_address i) o = open_at (a_name ∷ token s.Assign ∷ a_name ∷ []) o (λ more.
    let n = name_expr more in
    filled (behind same)
    (any_statement (st.Statement.assign (st.Target.address i refl) refl n.spelled)))
statement_completed (op.target_assign x) o = open_at (token s.Assign ∷ a_name ∷ []) o (λ more.
    let n = name_expr more in let a = move_target x (token s.Assign ∷ a_name ∷ more) in
    filled a.swap
    (any_statement (st.Statement.assign a.whole.spelled refl n.spelled)))
statement_completed (op.value {k = k} x i) o = around free [] o (λ us next more sw b.
    let a = move_target x (k ∷ us) in
    filled (along a.swap (behind sw))
    (any_statement (st.Statement.assign a.whole.spelled i (expr b))))
statement_completed (op.value_effect {k = k} x i) o = around an_effect [] o (λ us next more sw b.
    let a = move_target x (k ∷ us) in
    filled (along a.swap (behind sw))
    (any_statement (st.Statement.assign_effect a.whole.spelled i b.spelled)))
statement_completed op.effect_of o = around an_effect [] o (λ us next more sw b.
    filled sw
    (any_statement (st.Statement.effect b.spelled)))
statement_completed (op.call_arguments i j) o = around some_arguments (token s.Close ∷ []) o (λ us next more sw b.
    filled (behind (behind sw))
    (any_statement (st.Statement.call_with i j b.spelled refl)))
statement_completed (op.call_close i j x) o = open_at (token s.Close ∷ []) o (λ more.
    let a = move_arguments x (token s.Close ∷ more) in
    filled (behind (behind a.swap))
    (any_statement (st.Statement.call_with i j a.whole.spelled refl)))
statement_completed (op.whole_statement x) o = open_at [] o (λ more.
    let a = move_statement x more in
    filled a.swap
    (any_statement a.whole.spelled))
statement_completed op.first_statement o = around a_statement [] o (λ us next more sw b.
    filled sw
    (any_statements (st.Statements.one b.spelled)))
statement_completed (op.semicolon x) o = open_at [] o (λ more.
    let a = move_statement x more in
    filled a.swap
    (any_statements (st.Statements.one a.whole.spelled)))
statement_completed (op.next_statement {k = k} x i) o = around some_statements [] o (λ us next more sw b.
    let a = move_statement x (k ∷ us) in
    filled (along a.swap (behind sw))
    (any_statements (st.Statements.more a.whole.spelled i b.spelled)))
