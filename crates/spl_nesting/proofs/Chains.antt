-- A chain of open productions to some part, with at least so many constructs open.
use Rattle.std.proofs.Common.{◌≡◌, ◌≤◌, ℕ, ◌+◌, suc, max, Bool, true, false, List, refl, arith}
use Rattle.std.specs.Prelude.{nat_lt}
use Rattle.std.proofs.lemmas.Bool.{ltb-true, ltb-false}
use Rattle.spl_sound.specs.spl_tree.Symbols.{Lexeme}
use Rattle.spl_sound.specs.spl_tree.StatementTrees as stat
use Rattle.spl_sound.specs.spl_tree.StatementTrees.{statements}
use Rattle.spl_sound.specs.spl_tree.Statements as st
use Rattle.spl_sound.specs.spl_tree.DeclarationTrees as decl
use Rattle.spl_sound.specs.spl_tree.Units.{Unit_of}
use Rattle.spl_sound.specs.spl_tree.Parts as part
use Rattle.spl_sound.specs.spl_tree.Parts.{Part}
use Rattle.spl_sound.specs.spl_tree.OpenExpressions.{Step, Opens, here, inner, of_statement, of_declaration}
use Rattle.spl_sound.specs.spl_tree.OpenStatements.{StatementStep}
use Rattle.spl_nesting.specs.Nesting.{nested, nested_among, most_in_unit}
use Rattle.spl_nesting.proofs.Bodies.{Goes, unit_goes}

pub record Deep (p : Part) (d : ℕ) (ts : List Lexeme) (n : ℕ) : Type 0 where
  pub part : Part
  pub constructs : ℕ
  pub rest : List Lexeme
  pub chain : Opens p d 0 ts part constructs 0 rest
  pub enough : d + n ≤ constructs

-- nothing more is open
at_once : (p : Part) (d : ℕ) (ts : List Lexeme) → Deep p d ts 0
at_once p d ts = record { part = p; constructs = d; rest = ts; chain = here; enough = omega arith }

-- a step before a chain
along : {p q : Part} {d j n m : ℕ} {ts mid : List Lexeme} → Step p d 0 ts q j 0 mid → Deep q j mid n → d + m ≤ j + n → Deep p d ts m
along s r e = let f = r.enough in record { part = r.part; constructs = r.constructs; rest = r.rest; chain = inner s r.chain; enough = omega arith }

-- so there is one where fewer have to be open
less : {p : Part} {d n m : ℕ} {ts : List Lexeme} → Deep p d ts n → m ≤ n → Deep p d ts m
less r l = let f = r.enough in record { part = r.part; constructs = r.constructs; rest = r.rest; chain = r.chain; enough = omega arith }

-- the deeper of two
either : {p : Part} {d a b : ℕ} {ts : List Lexeme} → Deep p d ts a → Deep p d ts b → Deep p d ts (max a b)
either {p = p} {d = d} {a = a} {b = b} {ts = ts} x y = by (nat_lt a b) refl
  where
    by : (t : Bool) → nat_lt a b ≡ t → Deep p d ts (max a b)
    by true h = let l = ltb-true a b h in let e = y.enough in less y (omega arith)
    by false h = let l = ltb-false a b h in let e = x.enough in less x (omega arith)

mutual
  statement_deep : {x : stat.Statement} {ts rest : List Lexeme} → st.Statement x ts rest → (d : ℕ) → Deep part.statement d ts (nested x)
  statement_deep st.Statement.empty d = at_once _ d _
  statement_deep (st.Statement.labelled i k x) d = along (of_statement (StatementStep.label i k)) (statement_deep x (suc d)) (omega arith)
  statement_deep (st.Statement.block i xs z) d = along (of_statement (StatementStep.begin i)) (statements_deep xs (suc d)) (omega arith)
  statement_deep (st.Statement.if_then i q t x) d = along (of_statement (StatementStep.then_branch i q t)) (statement_deep x (suc d)) (omega arith)
  statement_deep (st.Statement.if_else {x = a} {y = b} i q t x e l y) d =
      less (either {a = suc (nested a)} {b = suc (nested b)}
      (along (of_statement (StatementStep.then_branch i q t)) (statement_deep x (suc d)) (omega arith))
      (along (of_statement (StatementStep.else_branch i q t x e l)) (statement_deep y (suc d)) (omega arith))) (omega arith)
  statement_deep (st.Statement.while_do i q k x) d = along (of_statement (StatementStep.while_body i q k)) (statement_deep x (suc d)) (omega arith)
  statement_deep (st.Statement.do_until i x k q) d = along (of_statement (StatementStep.do_body i)) (statement_deep x (suc d)) (omega arith)
  statement_deep (st.Statement.for_do i n k a s u b o x) d =
      along (of_statement (StatementStep.for_body i n k a s u b o)) (statement_deep x (suc d)) (omega arith)
  statement_deep (st.Statement.case_of i e o b xs z) d = along (of_statement (StatementStep.case_arms i e o b)) (statements_deep xs (suc d)) (omega arith)
  statement_deep (st.Statement.go _ _) d = at_once _ d _
  statement_deep (st.Statement.go_to _ _ _) d = at_once _ d _
  statement_deep (st.Statement.goto _ _) d = at_once _ d _
  statement_deep (st.Statement.return _) d = at_once _ d _
  statement_deep (st.Statement.assign _ _ _) d = at_once _ d _
  statement_deep (st.Statement.assign_effect _ _ _) d = at_once _ d _
  statement_deep (st.Statement.effect _) d = at_once _ d _
  statement_deep (st.Statement.call _) d = at_once _ d _
  statement_deep (st.Statement.call_with _ _ _ _) d = at_once _ d _

  statements_deep : {xs : List stat.Statement} {ts rest : List Lexeme} → st.Statements xs ts rest → (d : ℕ)
      → Deep part.statements d ts (nested_among (statements xs))
  statements_deep (st.Statements.one x) d = along (of_statement StatementStep.first_statement) (statement_deep x d) (omega arith)
  statements_deep (st.Statements.more x k xs) d = either
      (along (of_statement StatementStep.first_statement) (statement_deep x d) (omega arith))
      (along (of_statement (StatementStep.next_statement x k)) (statements_deep xs d) (omega arith))

-- in all bodies of a unit
deep_at : Part → List Lexeme → ℕ → Type 0
deep_at p ts n = Deep p 0 ts n

deep_goes : Goes deep_at nested_among
unfolding deep_at
deep_goes = record {
  nothing = λ p ts. at_once p 0 ts;
  behind = λ p q ts mid n s r. along (of_declaration s) r (omega arith);
  both = λ p ts a b x y. either x y;
  list = λ xs ts rest x. statements_deep x 0;
  single = λ x ts rest y. less (statement_deep y 0) (omega arith);
}

pub unit_deep : {u : decl.UnitTree} {ts : List Lexeme} → Unit_of u ts → Deep part.unit 0 ts (most_in_unit nested_among u)
unfolding deep_at
unit_deep w = unit_goes deep_at nested_among deep_goes w
