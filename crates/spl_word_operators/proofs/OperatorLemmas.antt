-- What is wanted of a value; and operators of two operands, of which none is AND or OR.
use Rattle.std.proofs.Common.{◌≡◌, ◌⊎◌, inl, inr, ℕ, ◌+◌, ◌≤◌, Bool, true, false, List, [], ◌∷◌, refl, sym, ap, subst, ◌∙◌, arith}
use Rattle.std.specs.Prelude.{◌==◌, ◌&&◌, ◌||◌, nat_lt, nat_le, if◌then◌else◌}
use Rattle.std.proofs.lemmas.Bool.{eqb-true, ltb-true, ltb-false, leb-true, false≢true}
use Rattle.std.proofs.Math.Logic.{⊎_elim}
use Rattle.spl_doubles.specs.spl_tree.declared.expressions.Kind.TheVariants as kind
use Rattle.spl_doubles.specs.spl_meaning.Kinds.{Operand, of, const, unknown, Class, integers, logicals, doubles, mixed, plus, minus, times, modulo, lor_operator, xor_operator, is_connective, is_relation, relation_number, works_on_bits, gives_logical, class_of, class_operand, binary_operand, operand_width}
use Rattle.spl_doubles.specs.spl_meaning.Operations.{by_class, bits_done, joined}
use Rattle.spl_doubles.specs.spl_meaning.States.{State, Outcome, then_go}
use Rattle.spl_doubles.specs.spl_code.Parts.{Part, pieces, ◌⨟◌}
use Rattle.spl_doubles.specs.spl_code.Operators.{operator, class_operator}
use Rattle.spl_doubles.specs.spl_code.Code as made
use Rattle.spl_doubles.specs.spl_code.Code.{Aim, as_value, as_test, closing}
use Rattle.spl_doubles.specs.spl_code.Instructions.{BRE}
use Rattle.spl_doubles.specs.spl_follow.Standing.{IsClosed}
use Rattle.spl_doubles.specs.spl_follow.Simulating.{Surroundings, Simulates}
use Rattle.spl_doubles.specs.spl_values.Reached.{is_sum, is_word_class, IsWhole}
use Rattle.spl_doubles.proofs.spl_values_proofs.SumLemmas.{sum_cases, sums_give}
use Rattle.spl_doubles.proofs.spl_values_proofs.VariableLemmas.{both}
use Rattle.spl_doubles.proofs.spl_values_proofs.WholeLemmas.{whole_last, whole_then, whole_behind, then_same, same_simulates}
use Rattle.spl_doubles.proofs.spl_conditions_proofs.ConditionLemmas.{closed_values}
use Rattle.spl_doubles.proofs.spl_conditions_proofs.RelationLemmas.{compared_whole, relations}
use Rattle.spl_doubles.specs.spl_operators.Laws.{is_word_operand, over, is_quotient, is_bitwise, land_operator}
use Rattle.spl_doubles.proofs.spl_operators_proofs.OperandLemmas.{products, quotient_cases, quotients}
use Rattle.spl_doubles.proofs.spl_operators_proofs.BitLemmas.{bitwise_cases, bitwise}
use Rattle.spl_word_operators.specs.Operators.{is_plain, is_covered_operator}

-- ---- what is wanted

-- a value's code is whole with what stands behind it
pub closing_whole : (a : Part) (aim : Aim) → IsWhole a → IsWhole (a ⨟ closing aim)
closing_whole a as_value x = whole_last a x
closing_whole a (as_test fail) x = whole_behind a (BRE fail ∷ []) x refl

-- ---- numbers and kinds

-- a truth is one of two
pub truths : (b : Bool) → (b ≡ true) ⊎ (b ≡ false)
truths true = inl refl
truths false = inr refl

-- where a test holds, and where it does not
pub where_true : {A : Type 0} (b : Bool) (x y : A) → b ≡ true → (if b then x else y) ≡ x
where_true b x y e = ap (λ (c : Bool). if c then x else y) e

pub where_false : {A : Type 0} (b : Bool) (x y : A) → b ≡ false → (if b then x else y) ≡ y
where_false b x y e = ap (λ (c : Bool). if c then x else y) e

-- so what holds of both holds of the side
pub of_true : (b x y : Bool) → b ≡ true → (if b then x else y) ≡ true → x ≡ true
of_true b x y e h = sym (where_true b x y e) ∙ h

pub of_false : (b x y : Bool) → b ≡ false → (if b then x else y) ≡ true → y ≡ true
of_false b x y e h = sym (where_false b x y e) ∙ h

-- all of four tests
pub four : (a b c d : Bool) → (a && b && c && d) ≡ true → (a ≡ true) × (b ≡ true) × (c ≡ true) × (d ≡ true)
four a b c d e =
    let last = both (a && b && c) d e in
    let more = both (a && b) c last.0 in
    let first = both a b more.0 in (first.0, first.1, more.1, last.1)

-- either of two tests
pub either : (a b : Bool) → (a || b) ≡ true → (a ≡ true) ⊎ (b ≡ true)
either true b e = inl refl
either false b e = inr e

-- a relation does not work on bits
pub no_bits : (o : ℕ) → is_relation o ≡ true → works_on_bits o ≡ false
no_bits o e = by (nat_le 5 o) refl (nat_lt o 5) refl e where
  by : (a : Bool) → nat_le 5 o ≡ a → (b : Bool) → nat_lt o 5 ≡ b → (a && nat_lt o 11) ≡ true → b ≡ false
  by true low false high e = refl
  by true low true high e = let l = leb-true 5 o low in let h = ltb-true o 5 high in absurd (omega (arith, l, h))
  by false low b high e = absurd (false≢true e)

-- the result of AND and OR is a LOGICAL
pub connective_operand : (o : ℕ) (left right : Operand) → is_connective o ≡ true → is_word_operand (binary_operand o left right) ≡ true
connective_operand o left right e = by (gives_logical o) refl where
  by : (b : Bool) → gives_logical o ≡ b → is_word_operand (binary_operand o left right) ≡ true
  by true is = ap is_word_operand (where_true (gives_logical o) _ (class_operand (class_of left right)) is)
  by false is = let l = ltb-true o 2 e in let h = ltb-false o 11 is in absurd (omega (arith, l, h))

-- and so is that of a relation
pub relation_operand : (o : ℕ) (left right : Operand) → is_relation o ≡ true → is_word_operand (binary_operand o left right) ≡ true
relation_operand o left right e = by (gives_logical o) refl where
  by : (b : Bool) → gives_logical o ≡ b → is_word_operand (binary_operand o left right) ≡ true
  by true is = ap is_word_operand (where_true (gives_logical o) _ (class_operand (class_of left right)) is)
  by false is =
      let two = both (nat_le 5 o) (nat_lt o 11) e in
      let h = ltb-true o 11 two.1 in
      let l = ltb-false o 11 is in
      absurd (omega (arith, h, l))

-- that of two single words of a class has one word
class_word : (x : Class) → is_word_class x ≡ true → is_word_operand (class_operand x) ≡ true
class_word integers e = refl
class_word logicals e = refl
class_word doubles e = absurd (false≢true e)
class_word mixed e = absurd (false≢true e)

pub binary_word : (o : ℕ) (left right : Operand) → is_word_class (class_of left right) ≡ true → is_word_operand (binary_operand o left right) ≡ true
binary_word o left right one = by (gives_logical o) refl where
  by : (b : Bool) → gives_logical o ≡ b → is_word_operand (binary_operand o left right) ≡ true
  by true is = ap is_word_operand (where_true (gives_logical o) _ (class_operand (class_of left right)) is)
  by false is =
      ap is_word_operand (where_false (gives_logical o) _ (class_operand (class_of left right)) is) ∙ class_word (class_of left right) one

-- what has one word has the width of one
pub word_wide : (x : Operand) → is_word_operand x ≡ true → operand_width x ≡ 1
word_wide (of kind.Integer) e = refl
word_wide (of kind.Logical) e = refl
word_wide (of kind.Byte) e = refl
word_wide (of kind.Double) e = absurd (false≢true e)
word_wide const e = refl
word_wide unknown e = absurd (false≢true e)

-- ---- + - * / MOD, LOR, XOR and LAND

-- what holds of each of them holds of all
plain_all : (P : ℕ → Type 0) → P plus → P minus → P times → P over → P modulo → P lor_operator → P xor_operator → P land_operator → (o : ℕ)
    → is_plain o ≡ true → P o
plain_all P p1 p2 p3 p4 p5 p6 p7 p8 o e =
    ⊎_elim
    (λ i. ⊎_elim
    (λ j. ⊎_elim (λ h. ⊎_elim (λ is. subst P (sym is) p1) (λ is. subst P (sym is) p2) (sum_cases o h)) (λ h. subst P (sym (eqb-true o times h)) p3)
    (either (is_sum o) (o == times) j))
    (λ j. ⊎_elim (λ is. subst P (sym is) p4) (λ is. subst P (sym is) p5) (quotient_cases o j)) (either (is_sum o || (o == times)) (is_quotient o) i))
    (λ i. ⊎_elim (λ is. subst P (sym is) p6) (λ others. ⊎_elim (λ is. subst P (sym is) p7) (λ is. subst P (sym is) p8) others) (bitwise_cases o i))
    (either (is_sum o || (o == times) || is_quotient o) (is_bitwise o) e)

-- the code of each closes
class_closes : (x : Class) → is_word_class x ≡ true
    → IsClosed (class_operator x plus) × IsClosed (class_operator x minus) × IsClosed (class_operator x times) × IsClosed (class_operator x over)
    × IsClosed (class_operator x modulo)
class_closes integers e = (refl, refl, refl, refl, refl)
class_closes logicals e = (refl, refl, refl, refl, refl)
class_closes doubles e = absurd (false≢true e)
class_closes mixed e = absurd (false≢true e)

plain_whole : (o : ℕ) (class : Class) (aim : Aim) (operands : Part) → is_plain o ≡ true → is_word_class class ≡ true → IsWhole operands
    → IsWhole (made.operated o class aim operands)
plain_whole o class aim operands e one x =
    let c = class_closes class one in
    plain_all (λ n. IsWhole (made.operated n class aim operands)) (each plus c.0) (each minus c.1) (each times c.2) (each over c.3) (each modulo c.4)
    (each lor_operator refl) (each xor_operator refl) (each land_operator refl) o e where
      each : (n : ℕ) → IsClosed (operator class n) → IsWhole (operands ⨟ pieces (operator class n) ⨟ closing aim)
      each n closed = closing_whole (operands ⨟ pieces (operator class n)) aim (whole_behind operands (operator class n) x closed)

plain_simulates : (z : Surroundings) (d k need more o : ℕ) (left right : Operand) (aim : Aim) (a b : Part) (first other : State → Outcome (List ℕ))
    → is_plain o ≡ true → is_word_class (class_of left right) ≡ true → IsWhole a → IsWhole b → Simulates z d as_value 1 k need a first
    → Simulates z d as_value 1 (k + 1) more b other → more + 1 ≤ need → 3 ≤ need
    → Simulates z d aim 1 k need (made.operated o (class_of left right) aim (a ⨟ b))
    (λ s. then_go (first s) (λ vs t. then_go (other t) (λ us u. joined o left right vs us u)))
plain_simulates z d k need more o left right aim a b first other e one wa wb sa sb enough room =
    let c = class_closes class one in
    plain_all (λ n. Simulates z d aim 1 k need (made.operated n class aim (a ⨟ b)) (λ s. then_go (first s) (λ vs t. then_go (other t) (λ us u. joined n left right vs us u))))
    (each plus c.0 (sums_give z d k need more plus class a b first other refl one wa wb sa sb enough))
    (each minus c.1 (sums_give z d k need more minus class a b first other refl one wa wb sa sb enough))
    (each times c.2 (products z d k need more class a b first other one wa wb sa sb enough))
    (each over c.3 (quotients z d k need more over class a b first other refl one wa wb sa sb enough room))
    (each modulo c.4 (quotients z d k need more modulo class a b first other refl one wa wb sa sb enough room))
    (each lor_operator refl (bitwise z d k need more lor_operator a b first other refl wa wb sa sb enough))
    (each xor_operator refl (bitwise z d k need more xor_operator a b first other refl wa wb sa sb enough))
    (each land_operator refl (bitwise z d k need more land_operator a b first other refl wa wb sa sb enough)) o e where
      class : Class
      class = class_of left right

      each : (n : ℕ) → IsClosed (operator class n)
          → Simulates z d as_value 1 k need (a ⨟ b ⨟ pieces (operator class n)) (λ s. then_go (first s) (λ vs t. then_go (other t) (λ us u. joined n left right vs us u)))
          → Simulates z d aim 1 k need (a ⨟ b ⨟ pieces (operator class n) ⨟ closing aim) (λ s. then_go (first s) (λ vs t. then_go (other t) (λ us u. joined n left right vs us u)))
      each n closed x =
          closed_values z d k need aim (a ⨟ b ⨟ pieces (operator class n)) (λ s. then_go (first s) (λ vs t. then_go (other t) (λ us u. joined n left right vs us u)))
          (whole_behind (a ⨟ b) (operator class n) (whole_then a b wa wb) closed) x

-- ---- relations

relation_whole : (o : ℕ) (class : Class) (aim : Aim) (operands : Part) → is_relation o ≡ true → is_word_class class ≡ true → IsWhole operands
    → IsWhole (made.operated o class aim operands)
relation_whole o class aim operands e one x =
    subst (λ (a : Part). IsWhole a) (sym (where_true (is_relation o) (made.compared (relation_number o) class aim operands) (operands ⨟ pieces (operator class o) ⨟ closing aim) e))
    (compared_whole (relation_number o) class aim operands one x)

relation_simulates : (z : Surroundings) (d k need more o : ℕ) (left right : Operand) (aim : Aim) (a b : Part) (first other : State → Outcome (List ℕ))
    → is_relation o ≡ true → is_word_class (class_of left right) ≡ true → IsWhole a → IsWhole b → Simulates z d as_value 1 k need a first
    → Simulates z d as_value 1 (k + 1) more b other → more + 1 ≤ need
    → Simulates z d aim 1 k need (made.operated o (class_of left right) aim (a ⨟ b))
    (λ s. then_go (first s) (λ vs t. then_go (other t) (λ us u. joined o left right vs us u)))
relation_simulates z d k need more o left right aim a b first other e one wa wb sa sb enough =
    same_simulates z d aim 1 k need (made.operated o class aim (a ⨟ b)) (made.compared (relation_number o) class aim (a ⨟ b))
    (λ s. then_go (first s) (λ vs t. then_go (other t) (λ us u. joined o left right vs us u)))
    (λ s. then_go (first s) (λ vs t. then_go (other t) (λ us u. by_class class o vs us u)))
    (where_true (is_relation o) (made.compared (relation_number o) class aim (a ⨟ b)) (a ⨟ b ⨟ pieces (operator class o) ⨟ closing aim) e)
    (λ s. then_same (first s) (λ vs t. then_go (other t) (λ us u. joined o left right vs us u)) (λ vs t. then_go (other t) (λ us u. by_class class o vs us u))
    (λ vs t. then_same (other t) (λ us u. joined o left right vs us u) (λ us u. by_class class o vs us u)
    (λ us u. where_false (works_on_bits o) (bits_done o vs us u) (by_class class o vs us u) (no_bits o e))))
    (relations z d k need more o class aim a b first other e one wa wb sa sb enough) where
      class : Class
      class = class_of left right

-- ---- all of them

-- the code of one is whole, whatever is wanted of it
pub operated_whole : (o : ℕ) (class : Class) (aim : Aim) (operands : Part) → is_covered_operator o ≡ true → is_word_class class ≡ true → IsWhole operands
    → IsWhole (made.operated o class aim operands)
operated_whole o class aim operands e one x =
    ⊎_elim (λ i. relation_whole o class aim operands i one x) (λ i. plain_whole o class aim operands i one x) (either (is_relation o) (is_plain o) e)

-- and it simulates the operation
pub operated_simulates : (z : Surroundings) (d k need more o : ℕ) (left right : Operand) (aim : Aim) (a b : Part) (first other : State → Outcome (List ℕ))
    → is_covered_operator o ≡ true → is_word_class (class_of left right) ≡ true → IsWhole a → IsWhole b → Simulates z d as_value 1 k need a first
    → Simulates z d as_value 1 (k + 1) more b other → more + 1 ≤ need → 3 ≤ need
    → Simulates z d aim 1 k need (made.operated o (class_of left right) aim (a ⨟ b))
    (λ s. then_go (first s) (λ vs t. then_go (other t) (λ us u. joined o left right vs us u)))
operated_simulates z d k need more o left right aim a b first other e one wa wb sa sb enough room =
    ⊎_elim (λ i. relation_simulates z d k need more o left right aim a b first other i one wa wb sa sb enough)
    (λ i. plain_simulates z d k need more o left right aim a b first other i one wa wb sa sb enough room) (either (is_relation o) (is_plain o) e)
