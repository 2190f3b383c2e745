-- A chain of open productions to some part with as much open as parts wait there. A construct counts as 15 operators: as many constructs
-- are open as groups of 8 operators, so 7 operators may be lost where a part begins its own count, and 8 are left of a construct.
use Rattle.std.proofs.Common.{◌≡◌, ◌≤◌, ℕ, ◌+◌, ◌*◌, ◌-◌, ◌/◌, ◌==◌, suc, zero, max, Bool, true, false, List, [], ◌∷◌, Option, refl, ap, ◌∙◌, arith}
use Rattle.std.specs.Prelude.{nat_lt}
use Rattle.std.proofs.lemmas.Bool.{ltb-true, ltb-false, eqb-true}
use Rattle.spl_sound.specs.spl_tree.declared.names_and_places.At.{At}
use Rattle.spl_sound.specs.spl_tree.declared.symbols.Symbol.TheVariants as s
use Rattle.spl_sound.specs.spl_tree.declared.symbols.Reserved.TheVariants as w
use Rattle.spl_sound.specs.spl_tree.Symbols.{Lexeme, Is}
use Rattle.spl_sound.specs.spl_tree.Operators.{Form, bytes_of}
use Rattle.spl_sound.specs.spl_tree.Trees as tree
use Rattle.spl_sound.specs.spl_tree.Trees.{Tree, trees}
use Rattle.spl_sound.specs.spl_tree.StatementTrees as stat
use Rattle.spl_sound.specs.spl_tree.StatementTrees.{statements}
use Rattle.spl_sound.specs.spl_tree.Expressions as g
use Rattle.spl_sound.specs.spl_tree.Statements as st
use Rattle.spl_sound.specs.spl_tree.DeclarationTrees as decl
use Rattle.spl_sound.specs.spl_tree.Units.{Unit_of}
use Rattle.spl_sound.specs.spl_tree.Parts as part
use Rattle.spl_sound.specs.spl_tree.Parts.{Part}
use Rattle.spl_sound.specs.spl_tree.OpenExpressions as op
use Rattle.spl_sound.specs.spl_tree.OpenExpressions.{Step, Opens, here, inner, of_statement, of_declaration}
use Rattle.spl_sound.specs.spl_tree.OpenStatements.{StatementStep, expr, cond}
use Rattle.spl_nesting.specs.Nesting.{most_in_unit}
use Rattle.spl_nesting.specs.Heights.{height, height_among, height_index, height_target, height_source, height_effect, height_test, statement_height, statements_height}
use Rattle.spl_nesting.proofs.Bodies.{Goes, unit_goes}

pub record High (p : Part) (d n : ℕ) (ts : List Lexeme) (m : ℕ) : Type 0 where
  pub part : Part
  pub constructs : ℕ
  pub operators : ℕ
  pub rest : List Lexeme
  pub chain : Opens p d n ts part constructs operators rest
  pub enough : 15 * d + n + m ≤ 15 * constructs + operators

-- nothing more is open
pub at_once : (p : Part) (d n : ℕ) (ts : List Lexeme) → High p d n ts 0
at_once p d n ts = record { part = p; constructs = d; operators = n; rest = ts; chain = here; enough = omega arith }

-- a step before a chain
pub along : {p q : Part} {d n j k m i : ℕ} {ts mid : List Lexeme} → Step p d n ts q j k mid → High q j k mid m → 15 * d + n + i ≤ 15 * j + k + m
    → High p d n ts i
along s r e = let f = r.enough in
    record { part = r.part; constructs = r.constructs; operators = r.operators; rest = r.rest; chain = inner s r.chain; enough = omega arith }

-- so there is one where less has to be open
pub less : {p : Part} {d n m i : ℕ} {ts : List Lexeme} → High p d n ts m → i ≤ m → High p d n ts i
less r l = let f = r.enough in
    record { part = r.part; constructs = r.constructs; operators = r.operators; rest = r.rest; chain = r.chain; enough = omega arith }

-- the higher of two
pub either : {p : Part} {d n a b : ℕ} {ts : List Lexeme} → High p d n ts a → High p d n ts b → High p d n ts (max a b)
either {p = p} {d = d} {n = n} {a = a} {b = b} {ts = ts} x y = by (nat_lt a b) refl
  where
    by : (t : Bool) → nat_lt a b ≡ t → High p d n ts (max a b)
    by true h = let l = ltb-true a b h in less y (omega arith)
    by false h = let l = ltb-false a b h in less x (omega arith)

-- ---- expressions

-- what an operand has open, where some parts wait in it, and 7 more: those that may be lost
spare : ℕ → ℕ
spare zero = 0
spare (suc m) = suc m + 7

spare_most : (m : ℕ) → spare m ≤ m + 7
unfolding spare
spare_most zero = omega arith
spare_most (suc m) = omega arith

-- an operand, behind some operators of its expression
in_operand : {c : Bool} {f : Option At} (d n : ℕ) {ts : List Lexeme} (m : ℕ) → High (part.unary f) (d + n / 8) 0 ts (spare m)
    → High (part.level c f 0) d n ts m
unfolding spare
in_operand d n zero r = at_once _ d n _
in_operand d n (suc m) r = along op.operand r (omega arith)

-- another level is not the third
not_three : (k m : ℕ) → (m == 3) ≡ false → (k == m) ≡ true → (k == 3) ≡ false
not_three k m other same = ap (λ j. j == 3) (eqb-true k m same) ∙ other

-- the count of a comparison waits for both references
bytes_height : (e count : Tree) → height (bytes_of e count) ≤ max (height e) (suc (height count))
bytes_height (tree.Tree.binary op a b at) count = omega arith
bytes_height (tree.Tree.number v) count = omega arith
bytes_height (tree.Tree.wide v) count = omega arith
bytes_height (tree.Tree.text bytes) count = omega arith
bytes_height (tree.Tree.truth b) count = omega arith
bytes_height (tree.Tree.named x es at) count = omega arith
bytes_height (tree.Tree.address x es at) count = omega arith
bytes_height (tree.Tree.unary op e at) count = omega arith
bytes_height (tree.Tree.shift op e by at) count = omega arith
bytes_height (tree.Tree.field e start size at) count = omega arith
bytes_height (tree.Tree.transfer k e at) count = omega arith
bytes_height (tree.Tree.bytes op a b size at) count = omega arith

mutual
  unfolding spare

  level_high : {c : Bool} {f : Option At} {h m : ℕ} {x : Form} {e : Tree} {ts rest : List Lexeme} → g.Level c f h m x e ts rest → (d n : ℕ)
      → High (part.level c f h) d n ts (height e)
  level_high (g.Level.operand {e = e} u) d n = in_operand d n (height e) (unary_high u (d + n / 8))
  level_high (g.Level.up p l) d n = along (op.below p) (level_high l d n) (omega arith)
  level_high (g.Level.unsigned p l) d n = along (op.unsigned p) (level_high l d n) (omega arith)
  level_high (g.Level.signed p i s q l) d n = along (op.signed p i s q) (level_high l d n) (omega arith)
  level_high (g.Level.negative p i l) d n = along (op.negative p i) (level_high l d n) (omega arith)
  level_high (g.Level.joined {m = m} p a i b r) d n =
      either (level_high a d n) (along (op.right p a i b) (level_high r d (suc (n + m))) (omega arith))
  level_high (g.Level.related {m = m} p a i b r z) d n =
      either (along (op.below (not_three _ 4 refl p)) (level_high a d n) (omega arith))
      (along (op.right_of_relation p a i b) (level_high r d (suc (n + m))) (omega arith))
  level_high (g.Level.shifted p l _ _ _ _ _ _) d n = level_high l d n
  level_high (g.Level.bytes {m = m} {e = e} {count = count} p l k o r z) d n =
      less (either (along (op.below (not_three _ 8 refl p)) (level_high l d n) (omega arith))
      (along {i = suc (height count)} (op.bytes_count p l k o) (level_high r (suc (d + (n + m) / 8)) 0) (omega arith))) (bytes_height e count)

  unary_high : {f : Option At} {x : Form} {e : Tree} {ts rest : List Lexeme} → g.Unary f x e ts rest → (d : ℕ)
      → High (part.unary f) d 0 ts (spare (height e))
  unary_high (g.Unary.inverse i u) d = along (op.inverse i) (unary_high u (suc d)) (omega arith)
  unary_high (g.Unary.plain p) d = along op.primary_of (primary_high p d) (omega arith)
  unary_high (g.Unary.bits p _ _ _ _ _ _) d = along op.primary_of (primary_high p d) (omega arith)

  primary_high : {f : Option At} {x : Form} {e : Tree} {ts rest : List Lexeme} → g.Primary f x e ts rest → (d : ℕ)
      → High (part.primary f) d 0 ts (spare (height e))
  primary_high (g.Primary.number _) d = at_once _ d 0 _
  primary_high (g.Primary.wide _) d = at_once _ d 0 _
  primary_high (g.Primary.negative_number _) d = at_once _ d 0 _
  primary_high (g.Primary.negative_wide _) d = at_once _ d 0 _
  primary_high (g.Primary.text _) d = at_once _ d 0 _
  primary_high (g.Primary.truth _) d = at_once _ d 0 _
  primary_high (g.Primary.name _) d = at_once _ d 0 _
  primary_high (g.Primary.call {es = es} i o a z) d =
      let s = spare_most (height_among (trees es)) in along (op.call_arguments i o) (arguments_high a (suc d)) (omega arith)
  primary_high (g.Primary.address _ _) d = at_once _ d 0 _
  primary_high (g.Primary.address_of {e = e} a i o l z) d =
      let s = spare_most (height_among (trees (e ∷ []))) in along (op.address_index a i o) (level_high l (suc d) 0) (omega arith)
  primary_high (g.Primary.parens {e = e} o l z) d = let s = spare_most (height e) in along (op.inside o) (level_high l (suc d) 0) (omega arith)
  primary_high (g.Primary.transfer {e = e} i o l z) d =
      let s = spare_most (height e) in along (op.transfer_inside i o) (level_high l (suc d) 0) (omega arith)

  -- each argument waits for those behind it
  arguments_high : {es : List Tree} {ts rest : List Lexeme} → g.Arguments es ts rest → (d : ℕ)
      → High part.arguments d 0 ts (height_among (trees es) - 1)
  arguments_high (g.Arguments.one l) d = along op.argument (level_high l d 0) (omega arith)
  arguments_high (g.Arguments.several {e = e} {es = es} l k a) d =
      less (either {a = height e} {b = height_among (trees es) - 1} (along op.argument (level_high l d 0) (omega arith))
      (along (op.next_argument l k) (arguments_high a d) (omega arith))) (omega arith)

-- ---- parts of statements

expression_high : {e : Tree} {ts rest : List Lexeme} → st.Expression e ts rest → (d : ℕ) → High expr d 0 ts (height e)
expression_high (st.Expression.expression l) d = level_high l d 0

condition_high : {e : Tree} {ts rest : List Lexeme} → st.Condition e ts rest → (d : ℕ) → High cond d 0 ts (height e)
condition_high (st.Condition.condition l) d = level_high l d 0

-- a reference, read or assigned
reference_high : {r : Tree} {ts rest : List Lexeme} → st.Reference r ts rest → (d : ℕ) → High part.reference d 0 ts (max (height r) (height_index r))
reference_high (st.Reference.name _) d = at_once _ d 0 _
reference_high (st.Reference.element i o e z) d = along (of_statement (StatementStep.index i o)) (expression_high e (suc d)) (omega arith)

target_high : {x : stat.Target} {ts rest : List Lexeme} → st.Target x ts rest → (d : ℕ) → High part.statement d 0 ts (height_target x)
target_high (st.Target.plain r) d = along (of_statement StatementStep.target_reference) (reference_high r d) (omega arith)
target_high (st.Target.field r _ _ _ _ _ _) d = along (of_statement StatementStep.target_reference) (reference_high r d) (omega arith)
target_high (st.Target.address _ _) d = at_once _ d 0 _

-- what stands behind an address waits for it: one part that is no construct
source_high : {x : stat.Source} {ts rest : List Lexeme} → st.Source x ts rest → (d : ℕ) → High part.source d 0 ts (height_source x - 1)
source_high (st.Source.counted {r = r} {e = e} a k o x z) d =
    less (either {a = height r} {b = suc (height e)} (along (of_statement StatementStep.source_reference) (reference_high a d) (omega arith))
    (along (of_statement (StatementStep.source_count a k o)) (expression_high x (suc d)) (omega arith))) (omega arith)
source_high (st.Source.text _) d = at_once _ d 0 _
source_high (st.Source.while_class a _ _ _) d = along (of_statement StatementStep.source_reference) (reference_high a d) (omega arith)

effect_high : {x : stat.Effect} {ts rest : List Lexeme} → st.Effect x ts rest → (d : ℕ) → High part.effect d 0 ts (height_effect x - 1)
effect_high (st.Effect.move {r = r} {x = x} i a k s) d =
    less (either {a = height r} {b = height_source x - 1} (along (of_statement (StatementStep.move_reference i)) (reference_high a d) (omega arith))
    (along (of_statement (StatementStep.move_source i a k)) (source_high s d) (omega arith))) (omega arith)
effect_high (st.Effect.scan_while {r = r} {e = e} i a k x) d =
    less (either {a = height r} {b = height e} (along (of_statement (StatementStep.scan_reference i)) (reference_high a d) (omega arith))
    (along (of_statement (StatementStep.scan_while i a k)) (expression_high x d) (omega arith))) (omega arith)
effect_high (st.Effect.scan_until {r = r} {e = e} i a k x) d =
    less (either {a = height r} {b = height e} (along (of_statement (StatementStep.scan_reference i)) (reference_high a d) (omega arith))
    (along (of_statement (StatementStep.scan_until i a k)) (expression_high x d) (omega arith))) (omega arith)

test_high : {q : stat.Test} {ts rest : List Lexeme} → st.Test q ts rest → (d : ℕ) → High part.test d 0 ts (height_test q)
test_high (st.Test.condition c) d = along (of_statement StatementStep.test_condition) (condition_high c d) (omega arith)
test_high (st.Test.code _ _) d = at_once _ d 0 _

-- the step of a FOR, behind its first value
step_high : {a : Tree} {es : List Tree} {f t k : Lexeme} {ts mid next : List Lexeme} → Is (s.Word w.For) f → Is s.Name t → Is s.Assign k
    → st.Expression a ts mid → st.Stepped es mid next → (d : ℕ) → High part.statement d 0 (f ∷ t ∷ k ∷ ts) (height_among (trees es))
step_high i n k a st.Stepped.absent d = at_once _ d 0 _
step_high i n k a (st.Stepped.step p x) d = along (of_statement (StatementStep.for_step_value i n k a p)) (expression_high x (suc d)) (omega arith)

-- ---- statements: what is assigned and what follows an address are two parts that are no constructs

mutual
  pub statement_high : {x : stat.Statement} {ts rest : List Lexeme} → st.Statement x ts rest → (d : ℕ) → High part.statement d 0 ts (statement_height x - 2)
  statement_high st.Statement.empty d = at_once _ d 0 _
  statement_high (st.Statement.labelled i k x) d = along (of_statement (StatementStep.label i k)) (statement_high x (suc d)) (omega arith)
  statement_high (st.Statement.block i xs z) d = along (of_statement (StatementStep.begin i)) (statements_high xs (suc d)) (omega arith)
  statement_high (st.Statement.if_then {q = q} {x = x} i c t y) d =
      less (either {a = height_test q} {b = statement_height x - 2} (along (of_statement (StatementStep.if_test i)) (test_high c (suc d)) (omega arith))
      (along (of_statement (StatementStep.then_branch i c t)) (statement_high y (suc d)) (omega arith))) (omega arith)
  statement_high (st.Statement.if_else {q = q} {x = x} {y = y} i c t a e l b) d =
      less (either {a = height_test q} {b = max (statement_height x - 2) (statement_height y - 2)}
      (along (of_statement (StatementStep.if_test i)) (test_high c (suc d)) (omega arith))
      (either (along (of_statement (StatementStep.then_branch i c t)) (statement_high a (suc d)) (omega arith))
      (along (of_statement (StatementStep.else_branch i c t a e l)) (statement_high b (suc d)) (omega arith)))) (omega arith)
  statement_high (st.Statement.while_do {e = e} {x = x} i c k y) d =
      less (either {a = height e} {b = statement_height x - 2}
      (along (of_statement (StatementStep.while_condition i)) (condition_high c (suc d)) (omega arith))
      (along (of_statement (StatementStep.while_body i c k)) (statement_high y (suc d)) (omega arith))) (omega arith)
  statement_high (st.Statement.do_until {e = e} {x = x} i y k c) d =
      less (either {a = statement_height x - 2} {b = height e}
      (along (of_statement (StatementStep.do_body i)) (statement_high y (suc d)) (omega arith))
      (along (of_statement (StatementStep.do_condition i y k)) (condition_high c (suc d)) (omega arith))) (omega arith)
  statement_high (st.Statement.for_do {a = a} {b = b} {es = es} {x = x} i n k p s u q o y) d =
      less (either {a = height a} {b = max (height_among (trees es)) (max (height b) (statement_height x - 1))}
      (along (of_statement (StatementStep.for_first i n k)) (expression_high p (suc d)) (omega arith))
      (either (step_high i n k p s d)
      (either (along (of_statement (StatementStep.for_last i n k p s u)) (expression_high q (suc d)) (omega arith))
      (along (of_statement (StatementStep.for_body i n k p s u q o)) (statement_high y (suc d)) (omega arith))))) (omega arith)
  statement_high (st.Statement.case_of {e = e} {xs = xs} i c o b y z) d =
      less (either {a = height e} {b = statements_height (statements xs) - 2}
      (along (of_statement (StatementStep.case_value i)) (expression_high c (suc d)) (omega arith))
      (along (of_statement (StatementStep.case_arms i c o b)) (statements_high y (suc d)) (omega arith))) (omega arith)
  statement_high (st.Statement.go _ _) d = at_once _ d 0 _
  statement_high (st.Statement.go_to _ _ _) d = at_once _ d 0 _
  statement_high (st.Statement.goto _ _) d = at_once _ d 0 _
  statement_high (st.Statement.return _) d = at_once _ d 0 _
  statement_high (st.Statement.assign {x = x} {e = e} t k v) d =
      less (either {a = height_target x} {b = height e} (target_high t d)
      (along (of_statement (StatementStep.value t k)) (expression_high v d) (omega arith))) (omega arith)
  statement_high (st.Statement.assign_effect {x = x} {e = e} t k v) d =
      less (either {a = height_target x} {b = height_effect e - 1} (target_high t d)
      (along (of_statement (StatementStep.value_effect t k)) (effect_high v d) (omega arith))) (omega arith)
  statement_high (st.Statement.effect v) d = along (of_statement StatementStep.effect_of) (effect_high v d) (omega arith)
  statement_high (st.Statement.call _) d = at_once _ d 0 _
  statement_high (st.Statement.call_with i o a z) d = along (of_statement (StatementStep.call_arguments i o)) (arguments_high a (suc d)) (omega arith)

  pub statements_high : {xs : List stat.Statement} {ts rest : List Lexeme} → st.Statements xs ts rest → (d : ℕ)
      → High part.statements d 0 ts (statements_height (statements xs) - 2)
  statements_high (st.Statements.one x) d = along (of_statement StatementStep.first_statement) (statement_high x d) (omega arith)
  statements_high (st.Statements.more {x = x} {xs = xs} y k ys) d =
      less (either {a = statement_height x - 2} {b = statements_height (statements xs) - 2}
      (along (of_statement StatementStep.first_statement) (statement_high y d) (omega arith))
      (along (of_statement (StatementStep.next_statement y k)) (statements_high ys d) (omega arith))) (omega arith)

-- in all bodies of a unit
high_at : Part → List Lexeme → ℕ → Type 0
high_at p ts n = High p 0 0 ts (n - 2)

high_goes : Goes high_at statements_height
unfolding high_at
high_goes = record {
  nothing = λ p ts. less (at_once p 0 0 ts) (omega arith);
  behind = λ p q ts mid n s r. along (of_declaration s) r (omega arith);
  both = λ p ts a b x y. less (either x y) (omega arith);
  list = λ xs ts rest x. statements_high x 0;
  single = λ x ts rest y. less (statement_high y 0) (omega arith);
}

pub unit_high : {u : decl.UnitTree} {ts : List Lexeme} → Unit_of u ts → High part.unit 0 0 ts (most_in_unit statements_height u - 2)
unfolding high_at
unit_high w = unit_goes high_at statements_height high_goes w
