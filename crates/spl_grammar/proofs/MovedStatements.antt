-- A part of a statement depends on no token behind it.
use Rattle.std.proofs.Common.{◌≡◌, Bool, true, List, ◌∷◌, refl}
use Rattle.spl_reading.specs.spl_tree.Symbols.{Lexeme}
use Rattle.spl_reading.specs.spl_tree.Trees.{Tree}
use Rattle.spl_reading.specs.spl_tree.StatementTrees as stat
use Rattle.spl_reading.specs.spl_tree.StatementTrees.{closed}
use Rattle.spl_reading.specs.spl_tree.Statements as st
use Rattle.spl_grammar.proofs.MovedParts.{Swap, same, behind, along, Moved, move, move_constant, move_arguments}

-- Some part that is spelled; of a statement, one that an ELSE can follow where it could follow the given one.

pub record SomeExpression (ts rest : List Lexeme) : Type 0 where
  pub tree : Tree
  pub spelled : st.Expression tree ts rest

pub record SomeCondition (ts rest : List Lexeme) : Type 0 where
  pub tree : Tree
  pub spelled : st.Condition tree ts rest

pub record SomeReference (ts rest : List Lexeme) : Type 0 where
  pub tree : Tree
  pub spelled : st.Reference tree ts rest

pub record SomeTarget (ts rest : List Lexeme) : Type 0 where
  pub tree : stat.Target
  pub spelled : st.Target tree ts rest

pub record SomeSource (ts rest : List Lexeme) : Type 0 where
  pub tree : stat.Source
  pub spelled : st.Source tree ts rest

pub record SomeEffect (ts rest : List Lexeme) : Type 0 where
  pub tree : stat.Effect
  pub spelled : st.Effect tree ts rest

pub record SomeTest (ts rest : List Lexeme) : Type 0 where
  pub tree : stat.Test
  pub spelled : st.Test tree ts rest

pub record SomeStepped (ts rest : List Lexeme) : Type 0 where
  pub trees : List Tree
  pub spelled : st.Stepped trees ts rest

pub record SomeStatement (x : stat.Statement) (ts rest : List Lexeme) : Type 0 where
  pub tree : stat.Statement
  pub alike : closed tree ≡ closed x
  pub spelled : st.Statement tree ts rest

pub record SomeStatements (ts rest : List Lexeme) : Type 0 where
  pub trees : List stat.Statement
  pub spelled : st.Statements trees ts rest

-- an expression
pub move_expression : {e : Tree} {ts rest : List Lexeme} → st.Expression e ts rest → (more : List Lexeme)
    → Moved SomeExpression ts rest more more
move_expression (st.Expression.expression l) more = let a = move l more in record {
  to = a.to;
  swap = a.swap;
  whole = record { tree = _; spelled = st.Expression.expression a.whole.spelled };
}

-- a condition
pub move_condition : {e : Tree} {ts rest : List Lexeme} → st.Condition e ts rest → (more : List Lexeme)
    → Moved SomeCondition ts rest more more
move_condition (st.Condition.condition l) more = let a = move l more in record {
  to = a.to;
  swap = a.swap;
  whole = record { tree = _; spelled = st.Condition.condition a.whole.spelled };
}

-- a reference
pub move_reference : {r : Tree} {ts rest : List Lexeme} → st.Reference r ts rest → (more : List Lexeme)
    → Moved SomeReference ts rest more more
move_reference (st.Reference.name i) more = record {
  to = _;
  swap = behind same;
  whole = record { tree = _; spelled = st.Reference.name i };
}
move_reference (st.Reference.element {z = z} i j e y) more = let b = move_expression e (z ∷ more) in record {
  to = _;
  swap = behind (behind (along b.swap (behind same)));
  whole = record { tree = _; spelled = st.Reference.element i j b.whole.spelled y };
}

-- a target
pub move_target : {x : stat.Target} {ts rest : List Lexeme} → st.Target x ts rest → (more : List Lexeme)
    → Moved SomeTarget ts rest more more
move_target (st.Target.plain r) more = let a = move_reference r more in record {
  to = a.to;
  swap = a.swap;
  whole = record { tree = _; spelled = st.Target.plain a.whole.spelled };
}
move_target (st.Target.field {d = d} {o = o} {k = k} {z = z} r i j v q u y) more =
    let b = move_constant u (z ∷ more) in let m = move_constant v (k ∷ b.to) in
    let a = move_reference r (d ∷ o ∷ m.to) in record {
      to = a.to;
      swap = along a.swap (behind (behind (along m.swap (behind (along b.swap (behind same))))));
      whole = record { tree = _; spelled = st.Target.field a.whole.spelled i j m.whole.spelled q b.whole.spelled y };
    }
move_target (st.Target.address i j) more = record {
  to = _;
  swap = behind (behind same);
  whole = record { tree = _; spelled = st.Target.address i j };
}

-- a source
pub move_source : {x : stat.Source} {ts rest : List Lexeme} → st.Source x ts rest → (more : List Lexeme)
    → Moved SomeSource ts rest more more
move_source (st.Source.counted {k = k} {o = o} {z = z} r i j e y) more = let b = move_expression e (z ∷ more) in
    let a = move_reference r (k ∷ o ∷ b.to) in record {
      to = a.to;
      swap = along a.swap (behind (behind (along b.swap (behind same))));
      whole = record { tree = _; spelled = st.Source.counted a.whole.spelled i j b.whole.spelled y };
    }
move_source (st.Source.text i) more = record {
  to = _;
  swap = behind same;
  whole = record { tree = _; spelled = st.Source.text i };
}
move_source (st.Source.while_class {k = k} {t = t} r i j e) more = let a = move_reference r (k ∷ t ∷ more) in record {
  to = a.to;
  swap = along a.swap (behind (behind same));
  whole = record { tree = _; spelled = st.Source.while_class a.whole.spelled i j e };
}

-- an effect
pub move_effect : {x : stat.Effect} {ts rest : List Lexeme} → st.Effect x ts rest → (more : List Lexeme)
    → Moved SomeEffect ts rest more more
move_effect (st.Effect.move {k = k} i r j x) more = let b = move_source x more in
    let a = move_reference r (k ∷ b.to) in record {
      to = _;
      swap = behind (along a.swap (behind b.swap));
      whole = record { tree = _; spelled = st.Effect.move i a.whole.spelled j b.whole.spelled };
    }
move_effect (st.Effect.scan_while {k = k} i r j e) more = let b = move_expression e more in
    let a = move_reference r (k ∷ b.to) in record {
      to = _;
      swap = behind (along a.swap (behind b.swap));
      whole = record { tree = _; spelled = st.Effect.scan_while i a.whole.spelled j b.whole.spelled };
    }
move_effect (st.Effect.scan_until {k = k} i r j e) more = let b = move_expression e more in
    let a = move_reference r (k ∷ b.to) in record {
      to = _;
      swap = behind (along a.swap (behind b.swap));
      whole = record { tree = _; spelled = st.Effect.scan_until i a.whole.spelled j b.whole.spelled };
    }

-- a test
pub move_test : {q : stat.Test} {ts rest : List Lexeme} → st.Test q ts rest → (more : List Lexeme)
    → Moved SomeTest ts rest more more
move_test (st.Test.condition e) more = let a = move_condition e more in record {
  to = a.to;
  swap = a.swap;
  whole = record { tree = _; spelled = st.Test.condition a.whole.spelled };
}
move_test (st.Test.code i b) more = record {
  to = _;
  swap = behind same;
  whole = record { tree = _; spelled = st.Test.code i b };
}

-- a step, or none
pub move_stepped : {es : List Tree} {ts rest : List Lexeme} → st.Stepped es ts rest → (more : List Lexeme)
    → Moved SomeStepped ts rest more more
move_stepped st.Stepped.absent more = record {
  to = _;
  swap = same;
  whole = record { trees = _; spelled = st.Stepped.absent };
}
move_stepped (st.Stepped.step i e) more = let a = move_expression e more in record {
  to = _;
  swap = behind a.swap;
  whole = record { trees = _; spelled = st.Stepped.step i a.whole.spelled };
}

-- a statement at the end of a swap
pub statement_to : {x y : stat.Statement} {ts rest next to more : List Lexeme} → closed y ≡ closed x
    → Swap rest next ts to → st.Statement y to more → Moved (SomeStatement x) ts rest next more
statement_to e w s = record { to = _; swap = w; whole = record { tree = _; alike = e; spelled = s } }

-- one that no ELSE can belong to stays so
pub still_closed : {a b : Bool} → a ≡ b → b ≡ true → a ≡ true
still_closed e f = rw e f

mutual
  unfolding closed

  -- a statement
  pub move_statement : {x : stat.Statement} {ts rest : List Lexeme} → st.Statement x ts rest → (more : List Lexeme)
      → Moved (SomeStatement x) ts rest more more
  move_statement st.Statement.empty more = statement_to refl same st.Statement.empty
  move_statement (st.Statement.labelled i j x) more = let a = move_statement x more in
      statement_to a.whole.alike (behind (behind a.swap)) (st.Statement.labelled i j a.whole.spelled)
  move_statement (st.Statement.block {z = z} i xs y) more = let a = move_statements xs (z ∷ more) in
      statement_to refl (behind (along a.swap (behind same))) (st.Statement.block i a.whole.spelled y)
  move_statement (st.Statement.if_then {t = t} i q j x) more = let b = move_statement x more in
      let a = move_test q (t ∷ b.to) in
      statement_to refl (behind (along a.swap (behind b.swap)))
      (st.Statement.if_then i a.whole.spelled j b.whole.spelled)
  move_statement (st.Statement.if_else {t = t} {l = l} i q j x e k y) more = let n = move_statement y more in
      let b = move_statement x (l ∷ n.to) in let a = move_test q (t ∷ b.to) in
      statement_to n.whole.alike (behind (along a.swap (behind (along b.swap (behind n.swap)))))
      (st.Statement.if_else i a.whole.spelled j b.whole.spelled (still_closed b.whole.alike e) k n.whole.spelled)
  move_statement (st.Statement.while_do {k = k} i e j x) more = let b = move_statement x more in
      let a = move_condition e (k ∷ b.to) in
      statement_to b.whole.alike (behind (along a.swap (behind b.swap)))
      (st.Statement.while_do i a.whole.spelled j b.whole.spelled)
  move_statement (st.Statement.do_until {k = k} i x j e) more = let b = move_condition e more in
      let a = move_statement x (k ∷ b.to) in
      statement_to refl (behind (along a.swap (behind b.swap)))
      (st.Statement.do_until i a.whole.spelled j b.whole.spelled)
  move_statement (st.Statement.for_do {u = u} {d = d} i j k e p q f r x) more = let n = move_statement x more in
      let m = move_expression f (d ∷ n.to) in let b = move_stepped p (u ∷ m.to) in let a = move_expression e b.to in
      statement_to n.whole.alike
      (behind (behind (behind (along a.swap (along b.swap (behind (along m.swap (behind n.swap))))))))
      (st.Statement.for_do i j k a.whole.spelled b.whole.spelled q m.whole.spelled r n.whole.spelled)
  move_statement (st.Statement.case_of {o = o} {b = b} {z = z} i e j k xs y) more =
      let n = move_statements xs (z ∷ more) in let a = move_expression e (o ∷ b ∷ n.to) in
      statement_to refl (behind (along a.swap (behind (behind (along n.swap (behind same))))))
      (st.Statement.case_of i a.whole.spelled j k n.whole.spelled y)
  move_statement (st.Statement.go i j) more = statement_to refl (behind (behind same)) (st.Statement.go i j)
  move_statement (st.Statement.go_to i j k) more =
      statement_to refl (behind (behind (behind same))) (st.Statement.go_to i j k)
  move_statement (st.Statement.goto i j) more = statement_to refl (behind (behind same)) (st.Statement.goto i j)
  move_statement (st.Statement.return i) more = statement_to refl (behind same) (st.Statement.return i)
  move_statement (st.Statement.assign {k = k} x i e) more = let b = move_expression e more in
      let a = move_target x (k ∷ b.to) in
      statement_to refl (along a.swap (behind b.swap)) (st.Statement.assign a.whole.spelled i b.whole.spelled)
  move_statement (st.Statement.assign_effect {k = k} x i e) more = let b = move_effect e more in
      let a = move_target x (k ∷ b.to) in
      statement_to refl (along a.swap (behind b.swap)) (st.Statement.assign_effect a.whole.spelled i b.whole.spelled)
  move_statement (st.Statement.effect e) more = let a = move_effect e more in
      statement_to refl a.swap (st.Statement.effect a.whole.spelled)
  move_statement (st.Statement.call i) more = statement_to refl (behind same) (st.Statement.call i)
  move_statement (st.Statement.call_with {z = z} i j a y) more = let b = move_arguments a (z ∷ more) in
      statement_to refl (behind (behind (along b.swap (behind same)))) (st.Statement.call_with i j b.whole.spelled y)

  -- statements
  pub move_statements : {xs : List stat.Statement} {ts rest : List Lexeme} → st.Statements xs ts rest
      → (more : List Lexeme) → Moved SomeStatements ts rest more more
  move_statements (st.Statements.one x) more = let a = move_statement x more in record {
    to = a.to;
    swap = a.swap;
    whole = record { trees = _; spelled = st.Statements.one a.whole.spelled };
  }
  move_statements (st.Statements.more {k = k} x i xs) more = let b = move_statements xs more in
      let a = move_statement x (k ∷ b.to) in record {
        to = a.to;
        swap = along a.swap (behind b.swap);
        whole = record { trees = _; spelled = st.Statements.more a.whole.spelled i b.whole.spelled };
      }
