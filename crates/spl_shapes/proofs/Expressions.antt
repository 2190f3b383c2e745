-- Expressions that tokens spell, along their productions: each is shaped, is what its form says, and leaves tokens whose letters are bytes.
use Rattle.std.proofs.Common.{ℕ, suc, ◌≡◌, ◌-◌, ◌==◌, ◌&&◌, nat_lt, Bool, true, List, [], ◌∷◌, Option, refl, sym, subst}
use Rattle.std.proofs.lemmas.Bool.{and_parts, and_from, eqb-true}
use Rattle.spl_cuts.specs.spl_tree.declared.names_and_places.At.{At}
use Rattle.spl_cuts.specs.spl_tree.Symbols.{Lexeme}
use Rattle.spl_cuts.specs.spl_tree.Operators.{Form, reference, comparison, other, compared, form_of_call, bytes_of, binds}
use Rattle.spl_cuts.specs.spl_tree.Expressions as g
use Rattle.spl_cuts.specs.spl_tree.Statements.{is_relation}
use Rattle.spl_cuts.specs.spl_tree.Trees as tree
use Rattle.spl_cuts.specs.spl_tree.Trees.{Tree, trees, Constant}
use Rattle.spl_shapes.specs.Shapes.{is_reference, is_shaped, are_shaped}
use Rattle.spl_shapes.specs.Laws.{HaveBytes}
use Rattle.spl_shapes.proofs.Operators.{operator_small, relation_there, relation_small, sign_small, shift_small}

-- ---- what a form says

-- two references with a relation between
pub record IsCompared (e : Tree) : Type 0 where
  pub op : ℕ
  pub left : Tree
  pub right : Tree
  pub at : At
  pub is : e ≡ tree.Tree.binary op left right at
  pub relation : is_relation op ≡ true
  pub first : is_reference left ≡ true
  pub second : is_reference right ≡ true

abbrev pub IsForm : Form → Tree → Type 0
IsForm reference e = is_reference e ≡ true
IsForm comparison e = IsCompared e
IsForm other e = Unit {0}

-- an expression, and the tokens behind it
pub record Spelt (x : Form) (e : Tree) (rest : List Lexeme) : Type 0 where
  pub shaped : is_shaped e ≡ true
  pub form : IsForm x e
  pub behind : HaveBytes rest

spelt : (x : Form) (e : Tree) (rest : List Lexeme) → is_shaped e ≡ true → IsForm x e → HaveBytes rest → Spelt x e rest
spelt x e rest a b c = record { shaped = a; form = b; behind = c }

-- a relation of two operands
compared_form : (x y : Form) (op : ℕ) (a b : Tree) (at : At) → is_relation op ≡ true → IsForm x a → IsForm y b → IsForm (compared x y) (tree.Tree.binary op a b at)
compared_form reference reference op a b at rel p q = record { op = op; left = a; right = b; at = at; is = refl; relation = rel; first = p; second = q }
compared_form reference comparison op a b at rel p q = tt
compared_form reference other op a b at rel p q = tt
compared_form comparison y op a b at rel p q = tt
compared_form other y op a b at rel p q = tt

-- a name with parts in parentheses
call_form : (letters : List ℕ) (es : List Tree) (at : At) → IsForm (form_of_call es) (tree.Tree.named letters (trees es) at)
call_form letters [] at = tt
call_form letters (e ∷ []) at = refl
call_form letters (e ∷ f ∷ es) at = tt

-- an operator of two operands
both_shaped : (op : ℕ) (a b : Tree) → nat_lt op 16 ≡ true → is_shaped a ≡ true → is_shaped b ≡ true → (nat_lt op 16 && is_shaped a && is_shaped b) ≡ true
both_shaped op a b p q r = and_from (nat_lt op 16 && is_shaped a) (is_shaped b) (and_from (nat_lt op 16) (is_shaped a) p q) r

-- a comparison of so many bytes
bytes_shaped : (e count : Tree) → is_shaped e ≡ true → IsCompared e → is_shaped count ≡ true → is_shaped (bytes_of e count) ≡ true
bytes_shaped e count shaped k many = subst (λ (t : Tree). is_shaped (bytes_of t count) ≡ true) (sym k.is) (
    let op = k.op in
    let a = k.left in
    let b = k.right in
    let whole : (nat_lt op 16 && is_shaped a && is_shaped b) ≡ true = subst (λ (t : Tree). is_shaped t ≡ true) k.is shaped in
    let two = and_parts (nat_lt op 16 && is_shaped a) (is_shaped b) whole in
    let one = and_parts (nat_lt op 16) (is_shaped a) two.0 in
    and_from (nat_lt (op - 5) 6 && is_reference a && is_reference b) (is_shaped a && is_shaped b && is_shaped count)
    (and_from (nat_lt (op - 5) 6 && is_reference a) (is_reference b)
    (and_from (nat_lt (op - 5) 6) (is_reference a) (relation_small op k.relation) k.first) k.second)
    (and_from (is_shaped a && is_shaped b) (is_shaped count) (and_from (is_shaped a) (is_shaped b) one.1 two.1) many))

-- ---- constants

pub constant_rest : {v : Constant} {ts rest : List Lexeme} → g.Constant v ts rest → HaveBytes ts → HaveBytes rest
constant_rest (g.Constant.number i) h = h.1
constant_rest (g.Constant.wide i) h = h.1
constant_rest (g.Constant.signed_number i p j) h = h.1.1
constant_rest (g.Constant.signed_wide i p j) h = h.1.1
constant_rest (g.Constant.text i) h = h.1
constant_rest (g.Constant.truth i) h = h.1
constant_rest (g.Constant.name i) h = h.1

-- the level of a relation
fourth : (op h : ℕ) → (suc h == 4) ≡ true → (binds op == suc h) ≡ true → (binds op == 4) ≡ true
fourth op h four is = by h four is
  where
    by : (k : ℕ) → (suc k == 4) ≡ true → (binds op == suc k) ≡ true → (binds op == 4) ≡ true
    by k e q = subst (λ (n : ℕ). (binds op == n) ≡ true) (eqb-true (suc k) 4 e) q

-- ---- expressions

mutual
  pub level_shaped : {c : Bool} {f : Option At} {h n : ℕ} {x : Form} {e : Tree} {ts rest : List Lexeme} → g.Level c f h n x e ts rest → HaveBytes ts → Spelt x e rest
  level_shaped (g.Level.operand d) b = unary_shaped d b
  level_shaped (g.Level.up p d) b = level_shaped d b
  level_shaped (g.Level.unsigned p d) b = level_shaped d b
  level_shaped {e = e} {rest = rest} (g.Level.signed {op = op} p i is q d) b =
      let k = level_shaped d b.1 in spelt other e rest (and_from (nat_lt (op - 11) 3) _ (sign_small op is) k.shaped) tt k.behind
  level_shaped {e = e} {rest = rest} (g.Level.negative p i d) b = let k = level_shaped d b.1 in spelt other e rest k.shaped tt k.behind
  level_shaped {e = e} {rest = rest} (g.Level.joined {h = h} {op = op} {a = a1} {b = b1} p d i q k) b =
      let l = level_shaped d b in
      let r = level_shaped k l.behind.1 in
      spelt other e rest (both_shaped op a1 b1 (operator_small op h q) l.shaped r.shaped) tt r.behind
  level_shaped {x = z} {e = e} {rest = rest} (g.Level.related {h = h} {op = op} {x = x} {y = y} {a = a1} {b = b1} p d i q k same) b =
      let l = level_shaped d b in
      let r = level_shaped k l.behind.1 in
      spelt z e rest (both_shaped op a1 b1 (operator_small op h q) l.shaped r.shaped)
      (subst (λ (w : Form). IsForm w e) same (compared_form x y op a1 b1 _ (relation_there op (fourth op h p q)) l.form r.form)) r.behind
  level_shaped {e = e} {rest = rest} (g.Level.shifted {k = k} {w = w} p d i j is o v z) b =
      let l = level_shaped d b in
      spelt other e rest (and_from (nat_lt k 6) _ (shift_small w.letters k is) l.shaped) tt (constant_rest v l.behind.1.1.1).1
  level_shaped {e = e2} {rest = rest} (g.Level.bytes {e = e1} {count = count} p d i o k z) b =
      let l = level_shaped d b in
      let r = level_shaped k l.behind.1.1 in
      spelt other e2 rest (bytes_shaped e1 count l.shaped l.form r.shaped) tt r.behind.1

  unary_shaped : {f : Option At} {x : Form} {e : Tree} {ts rest : List Lexeme} → g.Unary f x e ts rest → HaveBytes ts → Spelt x e rest
  unary_shaped {e = e} {rest = rest} (g.Unary.inverse i d) b = let k = unary_shaped d b.1 in spelt other e rest k.shaped tt k.behind
  unary_shaped (g.Unary.plain d) b = primary_shaped d b
  unary_shaped {e = e} {rest = rest} (g.Unary.bits d i o p c q z) b =
      let k = primary_shaped d b in
      spelt other e rest k.shaped tt (constant_rest q (constant_rest p k.behind.1.1).1).1

  primary_shaped : {f : Option At} {x : Form} {e : Tree} {ts rest : List Lexeme} → g.Primary f x e ts rest → HaveBytes ts → Spelt x e rest
  primary_shaped {e = e} {rest = rest} (g.Primary.number i) b = spelt other e rest refl tt b.1
  primary_shaped {e = e} {rest = rest} (g.Primary.wide i) b = spelt other e rest refl tt b.1
  primary_shaped {e = e} {rest = rest} (g.Primary.negative_number i) b = spelt other e rest refl tt b.1
  primary_shaped {e = e} {rest = rest} (g.Primary.negative_wide i) b = spelt other e rest refl tt b.1
  primary_shaped {e = e} {rest = rest} (g.Primary.text i) b = spelt other e rest b.0 tt b.1
  primary_shaped {e = e} {rest = rest} (g.Primary.truth i) b = spelt other e rest refl tt b.1
  primary_shaped {e = e} {rest = rest} (g.Primary.name i) b = spelt reference e rest refl refl b.1
  primary_shaped {e = e} {rest = rest} (g.Primary.call {es = es} {t = t} i o d z) b =
      let k = arguments_shaped d b.1.1 in spelt (form_of_call es) e rest k.0 (call_form t.letters es t.at) k.1.1
  primary_shaped {e = e} {rest = rest} (g.Primary.address i j) b = spelt other e rest refl tt b.1.1
  primary_shaped {e = e} {rest = rest} (g.Primary.address_of {e = inner} i j o d z) b =
      let k = level_shaped d b.1.1.1 in spelt other e rest (and_from (is_shaped inner) true k.shaped refl) tt k.behind.1
  primary_shaped {e = e} {rest = rest} (g.Primary.parens o d z) b = let k = level_shaped d b.1 in spelt other e rest k.shaped tt k.behind.1
  primary_shaped {e = e} {rest = rest} (g.Primary.transfer i o d z) b = let k = level_shaped d b.1.1 in spelt other e rest k.shaped tt k.behind.1

  pub arguments_shaped : {es : List Tree} {ts rest : List Lexeme} → g.Arguments es ts rest → HaveBytes ts → (are_shaped (trees es) ≡ true) × HaveBytes rest
  arguments_shaped (g.Arguments.one {e = e} d) b = let k = level_shaped d b in (and_from (is_shaped e) true k.shaped refl, k.behind)
  arguments_shaped (g.Arguments.several {e = e} {es = es} d i r) b =
      let k = level_shaped d b in
      let m = arguments_shaped r k.behind.1 in
      (and_from (is_shaped e) (are_shaped (trees es)) k.shaped m.0, m.1)
