-- The kinds of what is covered: of one word, or DOUBLE; and what a name is that leads to a value.
use Rattle.std.proofs.Common.{◌≡◌, ◌⊎◌, inl, inr, ℕ, ◌+◌, Bool, true, false, List, Option, Some, ℤ, refl, ap, ◌∙◌, arith}
use Rattle.std.specs.Prelude.{◌==◌, ◌&&◌, ◌||◌, not}
use Rattle.std.proofs.lemmas.Bool.{false≢true, not-true}
use Rattle.std.proofs.Math.Logic.{⊎_elim}
use Rattle.spl_covered.specs.spl_tree.declared.expressions.Kind.{Kind}
use Rattle.spl_covered.specs.spl_tree.declared.expressions.Kind.TheVariants as kind
use Rattle.spl_covered.specs.spl_tree.declared.names_and_places.At.{At}
use Rattle.spl_covered.specs.spl_tree.Trees as tree
use Rattle.spl_covered.specs.spl_tree.Trees.{Tree, Trees}
use Rattle.spl_covered.specs.spl_meaning.Names as n
use Rattle.spl_covered.specs.spl_meaning.Names.{Sort}
use Rattle.spl_covered.specs.spl_meaning.Kinds.{of, width, named_operand, callable, kind_of, operand_width, class_of, is_connective, is_relation, is_byte, is_long_text, reference_kind, compares_text, positive, negative}
use Rattle.spl_covered.specs.spl_meaning.Pending.{profile_formals, profile_result_words}
use Rattle.spl_covered.specs.spl_meaning.Places.{Place}
use Rattle.spl_covered.specs.spl_meaning.References.{Setting, access_of}
use Rattle.spl_covered.specs.spl_meaning.Values.{Who, a_variable, sense_of}
use Rattle.spl_covered.specs.spl_code.Calls.{Scope}
use Rattle.spl_covered.specs.spl_values.Reached.{is_sum, is_word_class}
use Rattle.spl_covered.specs.spl_operators.Laws.{is_word_operand, is_single}
use Rattle.spl_covered.specs.spl_word_operators.Operators.{is_covered_operator, is_covered_sign}
use Rattle.spl_covered.specs.spl_byte_tests.Elements.{is_byte_element}
use Rattle.spl_covered.specs.spl_names.Names.{is_covered_name, is_led_element, is_wide_name, is_wide_element, is_wide_led}
use Rattle.spl_covered.specs.spl_whom.Whom.{is_word_call, is_double_call}
use Rattle.spl_covered.specs.Covered.{is_spelled, is_covered, is_wide, is_covered_variable, is_wide_variable, is_covered_reference, are_covered_arguments}
use Rattle.spl_covered.proofs.spl_values_proofs.VariableLemmas.{both}
use Rattle.spl_covered.proofs.spl_word_operators_proofs.OperatorLemmas.{truths, of_false, four, either, connective_operand, relation_operand, binary_word}
use Rattle.spl_covered.proofs.spl_word_operators_proofs.UnaryLemmas.{sign_word}
use Rattle.spl_covered.proofs.spl_word_operators_proofs.DoubleLemmas.{sign_kind, sum_kind}
use Rattle.spl_covered.proofs.spl_names_proofs.LedLemmas.{single_word}
use Rattle.spl_covered.proofs.spl_whom_proofs.NameLemmas.{call_word, call_double}
use Rattle.spl_safe_values.proofs.Locations.{led_kind}
use Rattle.spl_safe_values.proofs.Names.{HasKind, Found, single_found, led_found, element_found, wide_name_found, wide_led_found, wide_element_found}

-- ---- names

-- what leads to a word is a variable of its kind
pub led_operand : (o : Option Sort) (t : Kind) → led_kind (access_of o) ≡ Some t → named_operand o ≡ of t
led_operand (Some (n.simple u own)) t e = let q : u ≡ t = cc in ap of q
led_operand (Some (n.array u own low high)) t e = let q : u ≡ t = cc in ap of q
led_operand (Some (n.view u own base)) t e = let q : u ≡ t = cc in ap of q
led_operand (Some (n.pointer u own)) t e = let q : u ≡ t = cc in ap of q
led_operand (Some (n.value u)) t e = let q : u ≡ t = cc in ap of q
led_operand (Some (n.by_reference u)) t e = let q : u ≡ t = cc in ap of q
led_operand (Some (n.array_parameter u)) t e = let q : u ≡ t = cc in ap of q
led_operand o t e = cc

pub led_sense : (x : List ℕ) (o : Option Sort) (t : Kind) → led_kind (access_of o) ≡ Some t → sense_of x o ≡ a_variable
led_sense x (Some (n.simple u own)) t e = refl
led_sense x (Some (n.array u own low high)) t e = refl
led_sense x (Some (n.view u own base)) t e = refl
led_sense x (Some (n.pointer u own)) t e = refl
led_sense x (Some (n.value u)) t e = refl
led_sense x (Some (n.by_reference u)) t e = refl
led_sense x (Some (n.array_parameter u)) t e = refl
led_sense x o t e = cc

-- a name without an index: a constant, or a location of one word
pub record IsConstant (o : Option Sort) : Type 0 where
  pub value : ℤ
  pub is : o ≡ Some (n.equate (Some value))

pub name_found : (st : Setting) (k : ℕ) (o : Option Sort) (place : Option Place) → is_covered_name st k o place ≡ true
    → IsConstant o ⊎ Found (access_of o) place 1
name_found st k (Some (n.equate (Some v))) place e = inl (record { value = v; is = refl })
name_found st k (Some (n.simple t own)) place e = inr (single_found st k t place e)
name_found st k (Some (n.value t)) place e = inr (single_found st k t place e)
name_found st k (Some (n.by_reference t)) place e = inr (led_found st k (access_of (Some (n.by_reference t))) place e)
name_found st k (Some (n.array t own low high)) place e = inr (led_found st k (access_of (Some (n.array t own low high))) place e)
name_found st k (Some (n.view t own base)) place e = inr (led_found st k (access_of (Some (n.view t own base))) place e)
name_found st k (Some (n.array_parameter t)) place e = inr (led_found st k (access_of (Some (n.array_parameter t))) place e)
name_found st k (Some (n.pointer t own)) place e = inr (led_found st k (access_of (Some (n.pointer t own))) place e)
name_found st k o place e = absurd (false≢true e)

-- the operand of such
kind_word : (t : Kind) → width t ≡ 1 → is_word_operand (of t) ≡ true
kind_word kind.Integer e = refl
kind_word kind.Logical e = refl
kind_word kind.Byte e = refl
kind_word kind.Double e = absurd (omega (arith, e))

kind_double : (t : Kind) → width t ≡ 2 → t ≡ kind.Double
kind_double kind.Double e = refl
kind_double kind.Integer e = absurd (omega (arith, e))
kind_double kind.Logical e = absurd (omega (arith, e))
kind_double kind.Byte e = absurd (omega (arith, e))

led_word : (o : Option Sort) → HasKind (access_of o) 1 → is_word_operand (named_operand o) ≡ true
led_word o r = ap is_word_operand (led_operand o r.type r.is) ∙ kind_word r.type r.wide

led_double : (o : Option Sort) → HasKind (access_of o) 2 → named_operand o ≡ of kind.Double
led_double o r = led_operand o r.type r.is ∙ ap of (kind_double r.type r.wide)

-- ---- what is asked of parts

module _ (may : Who → Bool) (c : Scope) (st : Setting) where
  -- the arguments of a name that is called
  abbrev pub asked_arguments : List ℕ → Trees → ℕ → Bool
  asked_arguments x es k =
      are_covered_arguments may c st (profile_formals (callable (c.names x))) es (k + profile_result_words (callable (c.names x)))

  -- operands of an operator of one word
  pub record AreOperands (o : ℕ) (a b : Tree) (k : ℕ) : Type 0 where
    pub apart : compares_text c.names o a b ≡ false
    pub class : is_word_class (class_of (kind_of c.names a) (kind_of c.names b)) ≡ true
    pub left : is_covered may c st a k ≡ true
    pub right : is_covered may c st b (k + operand_width (kind_of c.names a)) ≡ true

  -- of a relation of DOUBLEs
  pub record AreRelated (o : ℕ) (a b : Tree) (k : ℕ) : Type 0 where
    pub relation : is_relation o ≡ true
    pub apart : compares_text c.names o a b ≡ false
    pub left : is_wide may c st a k ≡ true
    pub right : is_wide may c st b (k + operand_width (kind_of c.names a)) ≡ true

  -- and of a comparison with a string
  pub record IsText (o : ℕ) (a b : Tree) (k : ℕ) : Type 0 where
    pub compares : compares_text c.names o a b ≡ true
    pub relation : is_relation o ≡ true
    pub bytes : is_byte_element c st a ≡ true
    pub reference' : is_covered_reference may c st a k ≡ true

  abbrev one_class : ℕ → Tree → Tree → ℕ → Bool
  one_class o a b k =
      (is_covered_operator o && not (compares_text c.names o a b)) && is_word_class (class_of (kind_of c.names a) (kind_of c.names b))
      && is_covered may c st a k && is_covered may c st b (k + operand_width (kind_of c.names a))

  abbrev two_doubles : ℕ → Tree → Tree → ℕ → Bool
  two_doubles o a b k =
      (is_relation o && not (compares_text c.names o a b)) && (is_wide may c st a k && is_wide may c st b (k + operand_width (kind_of c.names a)))

  abbrev some_text : ℕ → Tree → Tree → ℕ → Bool
  some_text o a b k = compares_text c.names o a b && (is_spelled b && (is_byte_element c st a && is_covered_reference may c st a k))

  operands_are : (o : ℕ) (a b : Tree) (k : ℕ) → one_class o a b k ≡ true → AreOperands o a b k
  operands_are o a b k e =
      let parts = four (is_covered_operator o && not (compares_text c.names o a b)) (is_word_class (class_of (kind_of c.names a) (kind_of c.names b))) (is_covered may c st a k)
      (is_covered may c st b (k + operand_width (kind_of c.names a))) e in
      let two = both (is_covered_operator o) (not (compares_text c.names o a b)) parts.0 in
      record { apart = not-true (compares_text c.names o a b) two.1; class = parts.1; left = parts.2; right = parts.3 }

  related_are : (o : ℕ) (a b : Tree) (k : ℕ) → two_doubles o a b k ≡ true → AreRelated o a b k
  related_are o a b k e =
      let two = both (is_relation o && not (compares_text c.names o a b)) (is_wide may c st a k && is_wide may c st b (k + operand_width (kind_of c.names a))) e in
      let first = both (is_relation o) (not (compares_text c.names o a b)) two.0 in
      let rest = both (is_wide may c st a k) (is_wide may c st b (k + operand_width (kind_of c.names a))) two.1 in
      record { relation = first.0; apart = not-true (compares_text c.names o a b) first.1; left = rest.0; right = rest.1 }

  text_is : (o : ℕ) (a b : Tree) (k : ℕ) → some_text o a b k ≡ true → IsText o a b k
  text_is o a b k e =
      let two = both (compares_text c.names o a b) (is_spelled b && (is_byte_element c st a && is_covered_reference may c st a k)) e in
      let rest = both (is_spelled b) (is_byte_element c st a && is_covered_reference may c st a k) two.1 in
      let last = both (is_byte_element c st a) (is_covered_reference may c st a k) rest.1 in
      let relates = both (is_relation o && is_byte (reference_kind c.names a)) (is_long_text b) two.0 in
      record {
        compares = two.0;
        relation = (both (is_relation o) (is_byte (reference_kind c.names a)) relates.0).0;
        bytes = last.0;
        reference' = last.1;
      }

  -- any of them, where it is neither AND nor OR
  pub by_operator : {A : Type 0} (o : ℕ) (a b : Tree) (at : At) (k : ℕ) → is_connective o ≡ false
      → is_covered may c st (tree.Tree.binary o a b at) k ≡ true → (AreOperands o a b k → A) → (AreRelated o a b k → A) → (IsText o a b k → A) → A
  by_operator o a b at k i e one two three =
      ⊎_elim (λ plain. one (operands_are o a b k plain))
      (λ other. ⊎_elim (λ pair. two (related_are o a b k pair)) (λ text. three (text_is o a b k text)) (either (two_doubles o a b k) (some_text o a b k) other))
      (either (one_class o a b k) (two_doubles o a b k || some_text o a b k) (of_false (is_connective o) _ _ i e))

  -- ---- kinds

  variable_word : (x : List ℕ) (es : Trees) (k : ℕ) → is_covered_variable may c st x es k ≡ true → is_word_operand (named_operand (c.names x)) ≡ true
  variable_word x tree.Trees.none k e =
      ⊎_elim (λ r. ap (λ (o : Option Sort). is_word_operand (named_operand o)) r.is) (λ r. led_word (c.names x) r.kind')
      (name_found st k (c.names x) (c.places x) e)
  variable_word x (tree.Trees.and i tree.Trees.none) k e =
      led_word (c.names x)
      (element_found st k (access_of (c.names x)) (c.places x) (both (is_led_element st k (access_of (c.names x)) (c.places x)) (is_covered may c st i k) e).0).kind'
  variable_word x (tree.Trees.and i (tree.Trees.and j js)) k e = absurd (false≢true e)

  -- a name that leads to DOUBLEs
  pub wide_found : (x : List ℕ) (k : ℕ) → is_wide_variable may c st x tree.Trees.none k ≡ true → Found (access_of (c.names x)) (c.places x) 2
  wide_found x k e =
      ⊎_elim (λ own. wide_name_found st k (c.names x) (c.places x) own) (λ led. wide_led_found st k (access_of (c.names x)) (c.places x) led)
      (either (is_wide_name st k (c.names x) (c.places x)) (is_wide_led st k (access_of (c.names x)) (c.places x)) e)

  variable_double : (x : List ℕ) (es : Trees) (k : ℕ) → is_wide_variable may c st x es k ≡ true → named_operand (c.names x) ≡ of kind.Double
  variable_double x tree.Trees.none k e = led_double (c.names x) (wide_found x k e).kind'
  variable_double x (tree.Trees.and i tree.Trees.none) k e =
      led_double (c.names x)
      (wide_element_found st k (access_of (c.names x)) (c.places x) (both (is_wide_element st k (access_of (c.names x)) (c.places x)) (is_covered may c st i k) e).0).kind'
  variable_double x (tree.Trees.and i (tree.Trees.and j js)) k e = absurd (false≢true e)

  -- a covered value has one word
  pub covered_word : (e : Tree) (k : ℕ) → is_covered may c st e k ≡ true → is_word_operand (kind_of c.names e) ≡ true
  covered_word (tree.Tree.number v) k e = refl
  covered_word (tree.Tree.truth b) k e = refl
  covered_word (tree.Tree.text bytes) k e = refl
  covered_word (tree.Tree.named x es at) k e =
      ⊎_elim (λ own. variable_word x es k own)
      (λ other. call_word may st x (c.names x) (both (is_word_call may st x (c.names x)) (asked_arguments x es k) other).0)
      (either (is_covered_variable may c st x es k) (is_word_call may st x (c.names x) && asked_arguments x es k) e)
  covered_word (tree.Tree.unary o a at) k e =
      let two = both (is_covered_sign o) (is_covered may c st a k) e in sign_word o (kind_of c.names a) two.0 (covered_word a k two.1)
  covered_word (tree.Tree.shift o a by at) k e = refl
  covered_word (tree.Tree.field a start size at) k e = refl
  covered_word (tree.Tree.transfer to a at) k e = single_word to (both (is_single to) (is_covered may c st a k || is_wide may c st a k) e).0
  covered_word (tree.Tree.binary o a b at) k e =
      ⊎_elim (λ i. connective_operand o (kind_of c.names a) (kind_of c.names b) i)
      (λ i. by_operator o a b at k i e (λ one. binary_word o (kind_of c.names a) (kind_of c.names b) one.class)
      (λ two. relation_operand o (kind_of c.names a) (kind_of c.names b) two.relation)
      (λ text. relation_operand o (kind_of c.names a) (kind_of c.names b) text.relation)) (truths (is_connective o))
  covered_word (tree.Tree.wide v) k e = absurd (false≢true e)
  covered_word (tree.Tree.address x es at) k e = refl
  covered_word (tree.Tree.bytes o a b count at) k e = refl

  -- the operands of a sum of DOUBLEs
  pub sum_parts : (o : ℕ) (a b : Tree) (at : At) (k : ℕ) → is_wide may c st (tree.Tree.binary o a b at) k ≡ true
      → (is_sum o ≡ true) × (is_wide may c st a k ≡ true) × (is_wide may c st b (k + operand_width (kind_of c.names a)) ≡ true)
  sum_parts o a b at k e =
      let two = both (is_sum o) (is_wide may c st a k && is_wide may c st b (k + operand_width (kind_of c.names a))) e in
      let rest = both (is_wide may c st a k) (is_wide may c st b (k + operand_width (kind_of c.names a))) two.1 in
      (two.0, rest.0, rest.1)

  -- the kind of a wide one is DOUBLE
  pub wide_kind : (e : Tree) (k : ℕ) → is_wide may c st e k ≡ true → kind_of c.names e ≡ of kind.Double
  wide_kind (tree.Tree.wide v) k e = refl
  wide_kind (tree.Tree.named x es at) k e =
      ⊎_elim (λ own. variable_double x es k own)
      (λ other. call_double may st x (c.names x) (both (is_double_call may st x (c.names x)) (asked_arguments x es k) other).0)
      (either (is_wide_variable may c st x es k) (is_double_call may st x (c.names x) && asked_arguments x es k) e)
  wide_kind (tree.Tree.transfer kind.Double a at) k e = refl
  wide_kind (tree.Tree.unary o a at) k e =
      let two = both ((o == positive) || (o == negative)) (is_wide may c st a k) e in
      sign_kind o (kind_of c.names a) two.0 (wide_kind a k two.1)
  wide_kind (tree.Tree.binary o a b at) k e =
      let parts = sum_parts o a b at k e in
      sum_kind c.names o a b at parts.0 (wide_kind a k parts.1) (wide_kind b (k + operand_width (kind_of c.names a)) parts.2)
  wide_kind e k h = absurd (false≢true h)
