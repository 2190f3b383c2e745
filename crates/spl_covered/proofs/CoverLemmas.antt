-- Expressions that are covered, along the tree: their code is whole, their values are of one word or of two, and the code gives them or tests them;
-- and so are their arguments.
use Rattle.std.proofs.Common.{◌≡◌, ℕ, ◌+◌, ◌-◌, ◌%◌, ◌<◌, ◌≤◌, Bool, true, false, List, [], ◌∷◌, refl, sym, ap, subst, arith}
use Rattle.std.specs.Prelude.{Option, Some, None, ◌==◌, ◌&&◌, ◌||◌, not, nat_lt, nat_le, if◌then◌else◌}
use Rattle.std.proofs.lemmas.Bool.{ltb-true, false≢true, not-true}
use Rattle.std.proofs.Math.Logic.{⊎_elim}
use Rattle.spl_byte_tests.specs.spl_tree.declared.expressions.Kind.{Kind}
use Rattle.spl_byte_tests.specs.spl_tree.declared.expressions.Kind.TheVariants as kind
use Rattle.spl_byte_tests.specs.spl_tree.declared.names_and_places.At.{At}
use Rattle.spl_byte_tests.specs.spl_tree.Trees as tree
use Rattle.spl_byte_tests.specs.spl_tree.Trees.{Tree, Trees, Constant}
use Rattle.spl_byte_tests.specs.spl_meaning.Names.{Names, Formal, Profile, text_value, truth_word}
use Rattle.spl_byte_tests.specs.spl_meaning.Kinds.{Operand, of, doubles, is_byte, reference_kind, is_long_text, is_connective, is_relation, positive, negative, named_operand, compares_text, kind_of, operand_width, class_of, callable}
use Rattle.spl_byte_tests.specs.spl_meaning.Operations.{double_words, by_class, signed_done, transferred}
use Rattle.spl_byte_tests.specs.spl_meaning.Pending.{by_value, value_words, formal_words, formals_words, result_words, profile_formals, profile_result_words, most, most_of}
use Rattle.spl_byte_tests.specs.spl_meaning.Places.{Place}
use Rattle.spl_byte_tests.specs.spl_meaning.References.{Here, Setting, access_of, locate}
use Rattle.spl_byte_tests.specs.spl_meaning.States.{State, Outcome, done, then_go}
use Rattle.spl_byte_tests.specs.spl_meaning.Values as run
use Rattle.spl_byte_tests.specs.spl_meaning.Values.{Who, Callee, small_constant, text_bytes, value, located, index, address_done}
use Rattle.spl_byte_tests.specs.spl_code.Calls.{Scope}
use Rattle.spl_byte_tests.specs.spl_code.Code.{Aim, as_value, as_test, closing, code, reference, arguments}
use Rattle.spl_byte_tests.specs.spl_code.Constants.{double_constant}
use Rattle.spl_byte_tests.specs.spl_code.Operators.{class_operator, sign_operator, transfer, as_parameter}
use Rattle.spl_byte_tests.specs.spl_code.Parts.{Part, pieces, nothing, ◌⨟◌}
use Rattle.spl_byte_tests.specs.spl_follow.Simulating.{Surroundings, Simulates}
use Rattle.spl_byte_tests.specs.spl_values.Reached.{is_sum, is_word_class, IsWhole}
use Rattle.spl_byte_tests.proofs.spl_values_proofs.VariableLemmas.{both}
use Rattle.spl_byte_tests.proofs.spl_values_proofs.WholeLemmas.{whole_pieces, whole_then, whole_last, whole_behind, same_simulates, last_simulates}
use Rattle.spl_whom.proofs.spl_conditions_proofs.ConditionLemmas.{closed_values}
use Rattle.spl_byte_tests.proofs.spl_doubles_proofs.DoubleLemmas.{constants_give, low_words_give, extensions_give, sums_give}
use Rattle.spl_byte_tests.proofs.spl_doubles_proofs.SignLemmas.{signs_give}
use Rattle.spl_whom.specs.spl_operators.Laws.{is_word_operand, is_single}
use Rattle.spl_whom.specs.spl_links.Laws.{HasCode, none, some, ArgumentsCode}
use Rattle.spl_whom.specs.spl_links.Links.{MayCall}
use Rattle.spl_byte_tests.specs.spl_word_operators.Operators.{is_covered_operator, is_covered_sign}
use Rattle.spl_byte_tests.proofs.spl_word_operators_proofs.OperatorLemmas.{closing_whole, truths, of_true, of_false, four, either, connective_operand, relation_operand, binary_word, word_wide}
use Rattle.spl_byte_tests.proofs.spl_word_operators_proofs.UnaryLemmas.{sign_word, sign_whole, sign_simulates, shift_whole, shift_simulates, field_whole, field_simulates, transfer_whole, transfer_simulates}
use Rattle.spl_byte_tests.specs.spl_names.Names.{read_with, is_led_element, is_addressed_element, is_wide_name, is_wide_element, is_wide_led}
use Rattle.spl_byte_tests.proofs.spl_names_proofs.LedLemmas.{single_word, element_case, kind_operand, element_whole, element_simulates}
use Rattle.spl_byte_tests.proofs.spl_names_proofs.NameLemmas.{constant_whole, constant_simulates, text_whole, text_simulates, name_cases, name_whole, name_simulates}
use Rattle.spl_byte_tests.proofs.spl_names_proofs.AddressLemmas as addresses
use Rattle.spl_byte_tests.proofs.spl_names_proofs.WideLedLemmas as leading
use Rattle.spl_byte_tests.proofs.spl_names_proofs.WideLedLemmas.{leading_case, led_of_element}
use Rattle.spl_byte_tests.proofs.spl_names_proofs.WideNameLemmas as doubled
use Rattle.spl_byte_tests.proofs.spl_names_proofs.WideNameLemmas.{wide_case}
use Rattle.spl_whom.specs.Whom.{is_word_call, is_double_call, IsCalled, profile_called}
use Rattle.spl_covered.specs.Covered.{is_spelled, is_covered, is_wide, is_covered_variable, is_wide_variable, is_covered_address, is_passed, is_covered_reference, are_covered_arguments}
use Rattle.spl_covered.specs.Laws.{CoveredCodeIsWhole, CoveredTestsAreWhole, CoveredValuesSimulate, CoveredTestsSimulate, WideCodeIsWhole, WideValuesSimulate, ArgumentsAreWhole, ArgumentsSimulate}
use Rattle.spl_covered.proofs.BinaryLemmas.{IsRelated, related_whole, related_simulates, IsOperator, connective_whole, connective_simulates, operator_whole, operator_simulates, spelled_whole, spelled_simulates, waiting_room, either_room, left_room}
use Rattle.spl_byte_tests.specs.spl_moves.Moving.{IsReference}
use Rattle.spl_byte_tests.specs.spl_scans.Laws.{AreBytes}
use Rattle.spl_byte_tests.specs.Elements.{is_byte_element}
use Rattle.spl_byte_tests.proofs.LeadLemmas.{bytes_are}
use Rattle.spl_byte_tests.proofs.TestLemmas.{bytes_whole, bytes_compared}
use Rattle.spl_covered.proofs.LeadLemmas.{bytes_lead}
use Rattle.spl_byte_tests.proofs.spl_word_operators_proofs.DoubleLemmas as double
use Rattle.spl_covered.proofs.ArgumentLemmas.{doubled_gives, behind_both, argument_whole, argument_gives, behind_argument, Given, nothing_given, words_given, first_gives, given_code}
use Rattle.spl_whom.proofs.NameLemmas.{word_case, double_case, called_is, call_word, call_double}
use Rattle.spl_whom.proofs.CallLemmas.{bare_whole, bare_simulates, call_room, call_whole, call_simulates}

-- ---- what is asked of parts

module _ (may : Who → Bool) (c : Scope) (st : Setting) where
  -- of a name: by itself, or of a call
  abbrev asked_arguments : List ℕ → Trees → ℕ → Bool
  asked_arguments x es k =
      are_covered_arguments may c st (profile_formals (callable (c.names x))) es (k + profile_result_words (callable (c.names x)))

  -- of a shift: its number and its count, and that its operand is covered
  shift_parts : (o : ℕ) (a : Tree) (by : Constant) (at : At) (k : ℕ) → is_covered may c st (tree.Tree.shift o a by at) k ≡ true
      → (o < 6) × (small_constant c.names by < 64) × (is_covered may c st a k ≡ true)
  shift_parts o a by at k e =
      let two = both (nat_lt o 6 && nat_lt (small_constant c.names by) 64) (is_covered may c st a k) e in
      let first = both (nat_lt o 6) (nat_lt (small_constant c.names by) 64) two.0 in
      (ltb-true o 6 first.0, ltb-true (small_constant c.names by) 64 first.1, two.1)

  -- of the operands of AND and OR: both are covered, with as many words waiting
  connective_parts : (o : ℕ) (a b : Tree) (at : At) (k : ℕ) → is_connective o ≡ true → is_covered may c st (tree.Tree.binary o a b at) k ≡ true
      → (is_covered may c st a k ≡ true) × (is_covered may c st b k ≡ true)
  connective_parts o a b at k i e = both (is_covered may c st a k) (is_covered may c st b k) (of_true (is_connective o) _ _ i e)

  -- of those of any other: both are covered, where the left one waits for the right one
  abbrev is_operator : ℕ → Tree → Tree → ℕ → Bool
  is_operator o a b k =
      (is_covered_operator o && not (compares_text c.names o a b)) && is_word_class (class_of (kind_of c.names a) (kind_of c.names b))
      && is_covered may c st a k && is_covered may c st b (k + operand_width (kind_of c.names a))

  operator_parts : (o : ℕ) (a b : Tree) (k : ℕ) → is_operator o a b k ≡ true
      → IsOperator c o a b × (is_covered may c st a k ≡ true) × (is_covered may c st b (k + operand_width (kind_of c.names a)) ≡ true)
  operator_parts o a b k e =
      let parts = four (is_covered_operator o && not (compares_text c.names o a b)) (is_word_class (class_of (kind_of c.names a) (kind_of c.names b))) (is_covered may c st a k)
      (is_covered may c st b (k + operand_width (kind_of c.names a))) e in
      let two = both (is_covered_operator o) (not (compares_text c.names o a b)) parts.0 in
      (record { operator = two.0; apart = not-true (compares_text c.names o a b) two.1; class = parts.1 }, parts.2, parts.3)

  -- of a relation of DOUBLEs
  abbrev is_double_relation : ℕ → Tree → Tree → ℕ → Bool
  is_double_relation o a b k =
      (is_relation o && not (compares_text c.names o a b)) && (is_wide may c st a k && is_wide may c st b (k + operand_width (kind_of c.names a)))

  record AreRelated (o : ℕ) (a b : Tree) (k : ℕ) : Type 0 where
    relation : is_relation o ≡ true
    apart : compares_text c.names o a b ≡ false
    left : is_wide may c st a k ≡ true
    right : is_wide may c st b (k + operand_width (kind_of c.names a)) ≡ true

  related_parts : (o : ℕ) (a b : Tree) (k : ℕ) → is_double_relation o a b k ≡ true → AreRelated o a b k
  related_parts o a b k e =
      let two = both (is_relation o && not (compares_text c.names o a b)) (is_wide may c st a k && is_wide may c st b (k + operand_width (kind_of c.names a))) e in
      let first = both (is_relation o) (not (compares_text c.names o a b)) two.0 in
      let rest = both (is_wide may c st a k) (is_wide may c st b (k + operand_width (kind_of c.names a))) two.1 in
      record { relation = first.0; apart = not-true (compares_text c.names o a b) first.1; left = rest.0; right = rest.1 }

  -- of a comparison with a string, from a reference to bytes on
  abbrev is_compared : Tree → ℕ → Bool
  is_compared a k = is_byte_element c st a && is_covered_reference may c st a k

  abbrev is_text_relation : ℕ → Tree → Tree → ℕ → Bool
  is_text_relation o a b k = compares_text c.names o a b && (is_spelled b && is_compared a k)

  record IsText (o : ℕ) (a b : Tree) (k : ℕ) : Type 0 where
    compares : compares_text c.names o a b ≡ true
    relation : is_relation o ≡ true
    small : AreBytes (text_bytes b)
    bytes : is_byte_element c st a ≡ true
    reference' : is_covered_reference may c st a k ≡ true

  text_parts : (o : ℕ) (a b : Tree) (k : ℕ) → is_text_relation o a b k ≡ true → IsText o a b k
  text_parts o a b k e =
      let two = both (compares_text c.names o a b) (is_spelled b && is_compared a k) e in
      let rest = both (is_spelled b) (is_compared a k) two.1 in
      let last = both (is_byte_element c st a) (is_covered_reference may c st a k) rest.1 in
      let relates = both (is_relation o && is_byte (reference_kind c.names a)) (is_long_text b) two.0 in
      record {
        compares = two.0;
        relation = (both (is_relation o) (is_byte (reference_kind c.names a)) relates.0).0;
        small = bytes_are (text_bytes b) rest.0;
        bytes = last.0;
        reference' = last.1;
      }

  -- and of one by a count
  record AreCounted (a b count : Tree) (k : ℕ) : Type 0 where
    first : is_byte_element c st a ≡ true
    first_reference : is_covered_reference may c st a k ≡ true
    other : is_byte_element c st b ≡ true
    other_reference : is_covered_reference may c st b (k + 1) ≡ true
    counts : is_covered may c st count (k + 2) ≡ true

  bytes_parts : (o : ℕ) (a b count : Tree) (at : At) (k : ℕ) → is_covered may c st (tree.Tree.bytes o a b count at) k ≡ true → AreCounted a b count k
  bytes_parts o a b count at k e =
      let two = both (is_compared a k) (is_compared b (k + 1) && is_covered may c st count (k + 2)) e in
      let one = both (is_byte_element c st a) (is_covered_reference may c st a k) two.0 in
      let rest = both (is_compared b (k + 1)) (is_covered may c st count (k + 2)) two.1 in
      let next = both (is_byte_element c st b) (is_covered_reference may c st b (k + 1)) rest.0 in
      record { first = one.0; first_reference = one.1; other = next.0; other_reference = next.1; counts = rest.1 }

  -- any of them, where it is neither AND nor OR
  by_operator : {A : Type 0} (o : ℕ) (a b : Tree) (at : At) (k : ℕ) → is_connective o ≡ false → is_covered may c st (tree.Tree.binary o a b at) k ≡ true
      → (is_operator o a b k ≡ true → A) → (is_double_relation o a b k ≡ true → A) → (IsText o a b k → A) → A
  by_operator o a b at k i e one two three =
      ⊎_elim one (λ other. ⊎_elim two (λ text. three (text_parts o a b k text)) (either (is_double_relation o a b k) (is_text_relation o a b k) other))
      (either (is_operator o a b k) (is_double_relation o a b k || is_text_relation o a b k) (of_false (is_connective o) _ _ i e))

  -- of a sum of DOUBLEs
  sum_parts : (o : ℕ) (a b : Tree) (k : ℕ)
      → (is_sum o && (is_wide may c st a k && is_wide may c st b (k + operand_width (kind_of c.names a)))) ≡ true
      → (is_sum o ≡ true) × (is_wide may c st a k ≡ true) × (is_wide may c st b (k + operand_width (kind_of c.names a)) ≡ true)
  sum_parts o a b k e =
      let two = both (is_sum o) (is_wide may c st a k && is_wide may c st b (k + operand_width (kind_of c.names a))) e in
      let rest = both (is_wide may c st a k) (is_wide may c st b (k + operand_width (kind_of c.names a))) two.1 in
      (two.0, rest.0, rest.1)

  -- the arguments of what a name stands for
  arguments_of : (x : List ℕ) (es : Trees) (k words : ℕ) (r : IsCalled may st x (c.names x) words) → asked_arguments x es k ≡ true
      → are_covered_arguments may c st (profile_called r).formals es (k + result_words (profile_called r)) ≡ true
  arguments_of x es k words r e =
      subst (λ (o : Option Profile). are_covered_arguments may c st (profile_formals o) es (k + profile_result_words o) ≡ true) (called_is may st x (c.names x) words r) e

  -- ---- kinds

  -- a name by itself or an element has one word
  variable_word : (x : List ℕ) (es : Trees) (k : ℕ) → is_covered_variable may c st x es k ≡ true → is_word_operand (named_operand (c.names x)) ≡ true
  variable_word x tree.Trees.none k e =
      ⊎_elim (λ r. r.operand) (λ other. ⊎_elim (λ r. r.operand) (λ r. kind_operand (named_operand (c.names x)) r.type r.operand r.word) other)
      (name_cases st x k (c.names x) (c.places x) e)
  variable_word x (tree.Trees.and i tree.Trees.none) k e =
      let r = element_case st x k (c.names x) (c.places x) (both (is_led_element st k (access_of (c.names x)) (c.places x)) (is_covered may c st i k) e).0 in
      kind_operand (named_operand (c.names x)) r.type r.operand r.word
  variable_word x (tree.Trees.and i (tree.Trees.and j js)) k e = absurd (false≢true e)

  -- or is a DOUBLE
  variable_double : (x : List ℕ) (es : Trees) (k : ℕ) → is_wide_variable may c st x es k ≡ true → named_operand (c.names x) ≡ of kind.Double
  variable_double x tree.Trees.none k e =
      ⊎_elim (λ own. (wide_case st x k (c.names x) (c.places x) own).operand) (λ led. (leading_case st x k (c.names x) (c.places x) led).operand)
      (either (is_wide_name st k (c.names x) (c.places x)) (is_wide_led st k (access_of (c.names x)) (c.places x)) e)
  variable_double x (tree.Trees.and i tree.Trees.none) k e =
      let two = both (is_wide_element st k (access_of (c.names x)) (c.places x)) (is_covered may c st i k) e in
      (leading_case st x k (c.names x) (c.places x) (led_of_element st k (access_of (c.names x)) (c.places x) two.0)).operand
  variable_double x (tree.Trees.and i (tree.Trees.and j js)) k e = absurd (false≢true e)

  -- a covered value has one word
  covered_word : (e : Tree) (k : ℕ) → is_covered may c st e k ≡ true → is_word_operand (kind_of c.names e) ≡ true
  covered_word (tree.Tree.number v) k e = refl
  covered_word (tree.Tree.truth b) k e = refl
  covered_word (tree.Tree.text bytes) k e = refl
  covered_word (tree.Tree.named x es at) k e =
      ⊎_elim (λ own. variable_word x es k own)
      (λ other. call_word may st x (c.names x) (both (is_word_call may st x (c.names x)) (asked_arguments x es k) other).0)
      (either (is_covered_variable may c st x es k) (is_word_call may st x (c.names x) && asked_arguments x es k) e)
  covered_word (tree.Tree.unary o a at) k e =
      let two = both (is_covered_sign o) (is_covered may c st a k) e in sign_word o (kind_of c.names a) two.0 (covered_word a k two.1)
  covered_word (tree.Tree.shift o a by at) k e = refl
  covered_word (tree.Tree.field a start size at) k e = refl
  covered_word (tree.Tree.transfer to a at) k e = single_word to (both (is_single to) (is_covered may c st a k || is_wide may c st a k) e).0
  covered_word (tree.Tree.binary o a b at) k e =
      ⊎_elim (λ i. connective_operand o (kind_of c.names a) (kind_of c.names b) i)
      (λ i. by_operator o a b at k i e (λ one. binary_word o (kind_of c.names a) (kind_of c.names b) (operator_parts o a b k one).0.class)
      (λ two. relation_operand o (kind_of c.names a) (kind_of c.names b) (related_parts o a b k two).relation)
      (λ text. relation_operand o (kind_of c.names a) (kind_of c.names b) text.relation)) (truths (is_connective o))
  covered_word (tree.Tree.wide v) k e = absurd (false≢true e)
  covered_word (tree.Tree.address x es at) k e = refl
  covered_word (tree.Tree.bytes o a b count at) k e = refl

  -- the kind of a wide one is DOUBLE
  wide_kind : (e : Tree) (k : ℕ) → is_wide may c st e k ≡ true → kind_of c.names e ≡ of kind.Double
  wide_kind (tree.Tree.wide v) k e = refl
  wide_kind (tree.Tree.named x es at) k e =
      ⊎_elim (λ own. variable_double x es k own)
      (λ other. call_double may st x (c.names x) (both (is_double_call may st x (c.names x)) (asked_arguments x es k) other).0)
      (either (is_wide_variable may c st x es k) (is_double_call may st x (c.names x) && asked_arguments x es k) e)
  wide_kind (tree.Tree.transfer kind.Double a at) k e = refl
  wide_kind (tree.Tree.unary o a at) k e =
      let two = both ((o == positive) || (o == negative)) (is_wide may c st a k) e in
      double.sign_kind o (kind_of c.names a) two.0 (wide_kind a k two.1)
  wide_kind (tree.Tree.binary o a b at) k e =
      let parts = sum_parts o a b k e in
      double.sum_kind c.names o a b at parts.0 (wide_kind a k parts.1) (wide_kind b (k + operand_width (kind_of c.names a)) parts.2)
  wide_kind (tree.Tree.transfer kind.Integer a at) k e = absurd (false≢true e)
  wide_kind (tree.Tree.transfer kind.Logical a at) k e = absurd (false≢true e)
  wide_kind (tree.Tree.transfer kind.Byte a at) k e = absurd (false≢true e)
  wide_kind (tree.Tree.number v) k e = absurd (false≢true e)
  wide_kind (tree.Tree.truth b) k e = absurd (false≢true e)
  wide_kind (tree.Tree.text bytes) k e = absurd (false≢true e)
  wide_kind (tree.Tree.address x es at) k e = absurd (false≢true e)
  wide_kind (tree.Tree.shift o a by at) k e = absurd (false≢true e)
  wide_kind (tree.Tree.field a start size at) k e = absurd (false≢true e)
  wide_kind (tree.Tree.bytes o a b count at) k e = absurd (false≢true e)

  -- so is that of both of a relation of such
  relation_of : (o : ℕ) (a b : Tree) (k : ℕ) → AreRelated o a b k → IsRelated c o a b
  relation_of o a b k r = record {
    relation = r.relation;
    apart = r.apart;
    left = wide_kind a k r.left;
    right = wide_kind b (k + operand_width (kind_of c.names a)) r.right;
  }

  -- ---- whole code

  mutual
    -- what is covered has whole code, whatever is wanted of it
    code_whole : (e : Tree) (aim : Aim) (k : ℕ) → is_covered may c st e k ≡ true → IsWhole (code c e aim k)
    code_whole (tree.Tree.number v) aim k e = constant_whole (v % 65536) aim
    code_whole (tree.Tree.truth b) aim k e = constant_whole (truth_word b) aim
    code_whole (tree.Tree.text bytes) aim k e = text_whole (text_value bytes) aim e
    code_whole (tree.Tree.named x es at) aim k e =
        ⊎_elim (λ own. variable_whole x es at aim k own)
        (λ other. let two = both (is_word_call may st x (c.names x)) (asked_arguments x es k) other in
        let r = word_case may st x (c.names x) two.0 in
        let p = profile_called r in
        call_whole may c st x es at aim k 1 r (omega arith) (λ a x. closing_whole a aim x)
        (arguments_code p.formals es (k + result_words p) (arguments_of x es k 1 r two.1)))
        (either (is_covered_variable may c st x es k) (is_word_call may st x (c.names x) && asked_arguments x es k) e)
    code_whole (tree.Tree.unary o a at) aim k e =
        let two = both (is_covered_sign o) (is_covered may c st a k) e in
        sign_whole o (kind_of c.names a) aim (code c a as_value k) two.0 (covered_word a k two.1) (code_whole a as_value k two.1)
    code_whole (tree.Tree.shift o a by at) aim k e =
        shift_whole o (small_constant c.names by) aim (code c a as_value k) (code_whole a as_value k (shift_parts o a by at k e).2)
    code_whole (tree.Tree.field a start size at) aim k e =
        let two = both (nat_le 1 (small_constant c.names size) && nat_le (small_constant c.names start + small_constant c.names size) 16) (is_covered may c st a k) e in
        field_whole (small_constant c.names start) (small_constant c.names size) aim (code c a as_value k) two.0 (code_whole a as_value k two.1)
    code_whole (tree.Tree.transfer to a at) aim k e =
        let two = both (is_single to) (is_covered may c st a k || is_wide may c st a k) e in
        ⊎_elim (λ one. transfer_whole to (kind_of c.names a) aim (code c a as_value k) two.0 (covered_word a k one) (code_whole a as_value k one))
        (λ wide. subst (λ (x : Operand). IsWhole (code c a as_value k ⨟ pieces (transfer to x) ⨟ closing aim)) (sym (wide_kind a k wide))
        (closing_whole (code c a as_value k ⨟ pieces (transfer to (of kind.Double))) aim (double.low_whole to (code c a as_value k) two.0 (double_whole a k wide))))
        (either (is_covered may c st a k) (is_wide may c st a k) two.1)
    code_whole (tree.Tree.binary o a b at) aim k e =
        ⊎_elim
        (λ i. let parts = connective_parts o a b at k i e in
        connective_whole c o a b at aim k i (λ fail. code_whole a (as_test fail) k parts.0) (λ fail. code_whole b (as_test fail) k parts.1))
        (λ i. by_operator o a b at k i e
        (λ one. let parts = operator_parts o a b k one in
        operator_whole c o a b at aim k i parts.0 (code_whole a as_value k parts.1) (code_whole b as_value (k + operand_width (kind_of c.names a)) parts.2))
        (λ two. let r = related_parts o a b k two in
        related_whole c o a b at aim k i (relation_of o a b k r) (double_whole a k r.left) (double_whole b (k + operand_width (kind_of c.names a)) r.right))
        (λ text. spelled_whole c o a b at aim k i text.compares (reference_whole a k text.reference')))
        (truths (is_connective o))
    code_whole (tree.Tree.address x es at) aim k e = address_whole x es at aim k e
    code_whole (tree.Tree.wide v) aim k e = absurd (false≢true e)
    code_whole (tree.Tree.bytes o a b count at) aim k e =
        let parts = bytes_parts o a b count at k e in
        bytes_whole o aim (reference c a k) (reference c b (k + 1)) (code c count as_value (k + 2)) (reference_whole a k parts.first_reference)
        (reference_whole b (k + 1) parts.other_reference) (code_whole count as_value (k + 2) parts.counts)

    variable_whole : (x : List ℕ) (es : Trees) (at : At) (aim : Aim) (k : ℕ) → is_covered_variable may c st x es k ≡ true
        → IsWhole (code c (tree.Tree.named x es at) aim k)
    variable_whole x tree.Trees.none at aim k e = name_whole c st x at aim k e
    variable_whole x (tree.Trees.and i tree.Trees.none) at aim k e =
        let two = both (is_led_element st k (access_of (c.names x)) (c.places x)) (is_covered may c st i k) e in
        element_whole c st x i at aim k (element_case st x k (c.names x) (c.places x) two.0) (λ a x. closing_whole a aim x) (code_whole i as_value k two.1)
    variable_whole x (tree.Trees.and i (tree.Trees.and j js)) at aim k e = absurd (false≢true e)

    address_whole : (x : List ℕ) (es : Trees) (at : At) (aim : Aim) (k : ℕ) → is_covered_address may c st x es k ≡ true
        → IsWhole (code c (tree.Tree.address x es at) aim k)
    address_whole x tree.Trees.none at aim k e = addresses.address_whole c st x at aim k e
    address_whole x (tree.Trees.and i tree.Trees.none) at aim k e =
        let two = both (is_addressed_element st k (access_of (c.names x)) (c.places x)) (is_covered may c st i k) e in
        addresses.element_whole c st x i at aim k (addresses.addressed_case st k (access_of (c.names x)) (c.places x) two.0) (code_whole i as_value k two.1)
    address_whole x (tree.Trees.and i (tree.Trees.and j js)) at aim k e = absurd (false≢true e)

    -- so have DOUBLEs
    double_whole : (e : Tree) (k : ℕ) → is_wide may c st e k ≡ true → IsWhole (code c e as_value k)
    double_whole (tree.Tree.wide v) k e =
        whole_last (pieces (double_constant (v % 4294967296)))
        (whole_pieces (double_constant (v % 4294967296)) (double.double_closed (v % 4294967296)))
    double_whole (tree.Tree.named x es at) k e =
        ⊎_elim (λ own. double_variable_whole x es at k own)
        (λ other. let two = both (is_double_call may st x (c.names x)) (asked_arguments x es k) other in
        let r = double_case may st x (c.names x) two.0 in
        let p = profile_called r in
        call_whole may c st x es at as_value k 2 r (omega arith) (λ a x. whole_last a x)
        (arguments_code p.formals es (k + result_words p) (arguments_of x es k 2 r two.1)))
        (either (is_wide_variable may c st x es k) (is_double_call may st x (c.names x) && asked_arguments x es k) e)
    double_whole (tree.Tree.transfer kind.Double a at) k e =
        let one = code c a as_value k in
        ⊎_elim (λ word. let two = both (is_word_operand (kind_of c.names a)) (is_covered may c st a k) word in
        whole_last (one ⨟ pieces (transfer kind.Double (kind_of c.names a)))
        (whole_behind one (transfer kind.Double (kind_of c.names a)) (code_whole a as_value k two.1) (double.extension_closed (kind_of c.names a) two.0)))
        (λ wide. subst (λ (x : Operand). IsWhole (one ⨟ pieces (transfer kind.Double x) ⨟ nothing)) (sym (wide_kind a k wide))
        (whole_last (one ⨟ pieces []) (whole_last one (double_whole a k wide))))
        (either (is_word_operand (kind_of c.names a) && is_covered may c st a k) (is_wide may c st a k) e)
    double_whole (tree.Tree.unary o a at) k e =
        let two = both ((o == positive) || (o == negative)) (is_wide may c st a k) e in
        let one = code c a as_value k in
        subst (λ (x : Operand). IsWhole (one ⨟ pieces (sign_operator o x) ⨟ nothing)) (sym (wide_kind a k two.1))
        (whole_last (one ⨟ pieces (sign_operator o (of kind.Double))) (double.sign_whole o one two.0 (double_whole a k two.1)))
    double_whole (tree.Tree.binary o a b at) k e =
        let parts = sum_parts o a b k e in
        let j = k + operand_width (kind_of c.names a) in
        let operands = whole_then (code c a as_value k) (code c b as_value j) (double_whole a k parts.1) (double_whole b j parts.2) in
        subst (λ (p : Part). IsWhole p) (sym (double.sum_code c o a b at k parts.0 (wide_kind a k parts.1) (wide_kind b j parts.2)))
        (whole_last (code c a as_value k ⨟ code c b as_value j ⨟ pieces (class_operator doubles o))
        (whole_behind (code c a as_value k ⨟ code c b as_value j) (class_operator doubles o) operands (double.sum_closed o parts.0)))
    double_whole (tree.Tree.transfer kind.Integer a at) k e = absurd (false≢true e)
    double_whole (tree.Tree.transfer kind.Logical a at) k e = absurd (false≢true e)
    double_whole (tree.Tree.transfer kind.Byte a at) k e = absurd (false≢true e)
    double_whole (tree.Tree.number v) k e = absurd (false≢true e)
    double_whole (tree.Tree.truth b) k e = absurd (false≢true e)
    double_whole (tree.Tree.text bytes) k e = absurd (false≢true e)
    double_whole (tree.Tree.address x es at) k e = absurd (false≢true e)
    double_whole (tree.Tree.shift o a by at) k e = absurd (false≢true e)
    double_whole (tree.Tree.field a start size at) k e = absurd (false≢true e)
    double_whole (tree.Tree.bytes o a b count at) k e = absurd (false≢true e)

    double_variable_whole : (x : List ℕ) (es : Trees) (at : At) (k : ℕ) → is_wide_variable may c st x es k ≡ true
        → IsWhole (code c (tree.Tree.named x es at) as_value k)
    double_variable_whole x tree.Trees.none at k e =
        ⊎_elim (λ own. doubled.name_whole c st x at k (wide_case st x k (c.names x) (c.places x) own)) (λ led. leading.led_whole c st x at k led)
        (either (is_wide_name st k (c.names x) (c.places x)) (is_wide_led st k (access_of (c.names x)) (c.places x)) e)
    double_variable_whole x (tree.Trees.and i tree.Trees.none) at k e =
        let two = both (is_wide_element st k (access_of (c.names x)) (c.places x)) (is_covered may c st i k) e in
        leading.element_whole c st x i at k two.0 (code_whole i as_value k two.1)
    double_variable_whole x (tree.Trees.and i (tree.Trees.and j js)) at k e = absurd (false≢true e)

    -- references
    reference_whole : (e : Tree) (k : ℕ) → is_covered_reference may c st e k ≡ true → IsWhole (reference c e k)
    reference_whole (tree.Tree.named x es at) k h = bare_whole (reference c (tree.Tree.named x es at) k) (address_whole x es at as_value k h)
    reference_whole (tree.Tree.number v) k h = absurd (false≢true h)
    reference_whole (tree.Tree.wide v) k h = absurd (false≢true h)
    reference_whole (tree.Tree.text bytes) k h = absurd (false≢true h)
    reference_whole (tree.Tree.truth b) k h = absurd (false≢true h)
    reference_whole (tree.Tree.address x es at) k h = absurd (false≢true h)
    reference_whole (tree.Tree.unary o a at) k h = absurd (false≢true h)
    reference_whole (tree.Tree.binary o a b at) k h = absurd (false≢true h)
    reference_whole (tree.Tree.shift o a by at) k h = absurd (false≢true h)
    reference_whole (tree.Tree.field a start size at) k h = absurd (false≢true h)
    reference_whole (tree.Tree.transfer to a at) k h = absurd (false≢true h)
    reference_whole (tree.Tree.bytes o a b count at) k h = absurd (false≢true h)

    -- and arguments, where there are any
    arguments_code : (fs : List Formal) (es : Trees) (k : ℕ) → are_covered_arguments may c st fs es k ≡ true → HasCode (arguments c fs es k)
    arguments_code [] tree.Trees.none k h = none
    arguments_code (f ∷ fs) (tree.Trees.and e es) k h =
        let two = both (is_passed (by_value f) f.kind (is_covered may c st e k) (is_wide may c st e k) (is_covered_reference may c st e k))
        (are_covered_arguments may c st fs es (k + formal_words f)) h in
        some (behind_argument (if by_value f then code c e as_value k ⨟ pieces (as_parameter f.kind) else reference c e k) (arguments c fs es (k + formal_words f))
        (argument_whole (by_value f) f.kind (is_covered may c st e k) (is_wide may c st e k) (is_covered_reference may c st e k) (code c e as_value k) (reference c e k) two.0
        (λ i. code_whole e as_value k i) (λ i. double_whole e k i) (λ i. reference_whole e k i))
        (arguments_code fs es (k + formal_words f) two.1))
    arguments_code [] (tree.Trees.and e es) k h = absurd (false≢true h)
    arguments_code (f ∷ fs) tree.Trees.none k h = absurd (false≢true h)

-- so a covered value is one word wide
pub covered_width : (may : Who → Bool) (c : Scope) (st : Setting) (e : Tree) (k : ℕ) → is_covered may c st e k ≡ true
    → operand_width (kind_of c.names e) ≡ 1
covered_width may c st e k covered = word_wide (kind_of c.names e) (covered_word may c st e k covered)

pub covered_whole : CoveredCodeIsWhole
covered_whole may c st e k covered = code_whole may c st e as_value k covered

pub tests_whole : CoveredTestsAreWhole
tests_whole may c st e k fail covered = code_whole may c st e (as_test fail) k covered

pub wide_whole : WideCodeIsWhole
wide_whole may c st e k covered = double_whole may c st e k covered

pub arguments_whole : ArgumentsAreWhole
arguments_whole may c st f fs (tree.Trees.and e es) k h =
    let two = both (is_passed (by_value f) f.kind (is_covered may c st e k) (is_wide may c st e k) (is_covered_reference may c st e k))
    (are_covered_arguments may c st fs es (k + formal_words f)) h in
    behind_argument (if by_value f then code c e as_value k ⨟ pieces (as_parameter f.kind) else reference c e k) (arguments c fs es (k + formal_words f))
    (argument_whole (by_value f) f.kind (is_covered may c st e k) (is_wide may c st e k) (is_covered_reference may c st e k) (code c e as_value k) (reference c e k) two.0
    (λ i. code_whole may c st e as_value k i) (λ i. double_whole may c st e k i) (λ i. reference_whole may c st e k i))
    (arguments_code may c st fs es (k + formal_words f) two.1)
arguments_whole may c st f fs tree.Trees.none k h = absurd (false≢true h)

-- ---- values

-- a truth value is a word
truth_small : (b : Bool) → truth_word b < 65536
truth_small true = omega arith
truth_small false = omega arith

-- a parameter has one word at least
formal_wide : (given : Bool) (t : Option Kind) → 1 ≤ value_words given t
formal_wide true (Some kind.Double) = omega arith
formal_wide true (Some kind.Integer) = omega arith
formal_wide true (Some kind.Logical) = omega arith
formal_wide true (Some kind.Byte) = omega arith
formal_wide true None = omega arith
formal_wide false t = omega arith

-- the room of an index
index_room : (c : Scope) (x : List ℕ) (i : Tree) (at : At) (need : ℕ) → most c.names (tree.Tree.named x (tree.Trees.and i tree.Trees.none) at) + 8 ≤ need
    → most c.names i + 8 ≤ need
index_room c x i at need room = omega (arith, room)

address_room : (c : Scope) (x : List ℕ) (i : Tree) (at : At) (need : ℕ)
    → most c.names (tree.Tree.address x (tree.Trees.and i tree.Trees.none) at) + 8 ≤ need → most c.names i + 8 ≤ need
address_room c x i at need room = omega (arith, room)

-- the room of both references and the count of a comparison
bytes_room : (names : Names) (o : ℕ) (a b count : Tree) (at : At) (need : ℕ) → most names (tree.Tree.bytes o a b count at) + 8 ≤ need
    → (most names a + 8 ≤ need) × (most names b + 8 + 1 ≤ need) × (most names count + 8 + 2 ≤ need)
bytes_room names o a b count at need room = (omega (arith, room), omega (arith, room), omega (arith, room))

-- what waits in the index of a reference waits in the reference
index_waits : (may : Who → Bool) (c : Scope) (st : Setting) (x : List ℕ) (es : Trees) (at : At) (k : ℕ) → is_covered_address may c st x es k ≡ true
    → most c.names (tree.Tree.address x es at) ≤ most c.names (tree.Tree.named x es at)
index_waits may c st x tree.Trees.none at k e = omega arith
index_waits may c st x (tree.Trees.and i tree.Trees.none) at k e = omega arith
index_waits may c st x (tree.Trees.and i (tree.Trees.and j js)) at k e = absurd (false≢true e)

module _ (may : Who → Bool) (c : Scope) (results : List ℕ → Option (Kind × Place)) (z : Surroundings) (call : Callee) (d : ℕ)
    (links : MayCall may c z d call) where
  abbrev st : Setting
  st = z.setting

  abbrev here : Here
  here = read_with c results z.setting

  -- a reference to bytes that are compared
  bytes_given : (e : Tree) (k need : ℕ) → is_byte_element c st e ≡ true → is_covered_reference may c st e k ≡ true
      → Simulates z d as_value 1 k need (reference c e k) (λ s. then_go (located here call e k s) address_done)
      → IsReference z d k need kind.Byte (reference c e k) (λ s. located here call e k s)
  bytes_given e k need bytes h sim = record {
    whole = reference_whole may c st e k h;
    leads = λ s lies. bytes_lead may c results st call e k s bytes h lies;
    simulates = sim;
  }

  mutual
    -- Along the tree, each construct over its parts.
    simulated : (e : Tree) (aim : Aim) (k need : ℕ) → is_covered may c st e k ≡ true → most c.names e + 8 ≤ need
        → Simulates z d aim 1 k need (code c e aim k) (λ s. value here call e k s)
    simulated (tree.Tree.number v) aim k need e enough = constant_simulates z d aim k need (v % 65536) (omega arith) (omega (arith, enough))
    simulated (tree.Tree.truth b) aim k need e enough = constant_simulates z d aim k need (truth_word b) (truth_small b) (omega (arith, enough))
    simulated (tree.Tree.text bytes) aim k need e enough = text_simulates z d aim k need (text_value bytes) e (omega (arith, enough))
    simulated (tree.Tree.named x es at) aim k need e enough =
        ⊎_elim (λ own. variable_gives x es at aim k need own enough)
        (λ other. let two = both (is_word_call may st x (c.names x)) (asked_arguments may c st x es k) other in
        let r = word_case may st x (c.names x) two.0 in
        let p = profile_called r in
        let asked = arguments_of may c st x es k 1 r two.1 in
        let waits = call_room may c st x es at 1 r in
        let fs = formals_words p.formals in
        let room : most_of c.names p.formals (result_words p) es + 8 ≤ result_words p + (need - result_words p) = omega (arith, waits, enough) in
        let fits : formals_words p.formals ≤ need - result_words p = omega (arith, waits, enough) in
        call_simulates may c results z call d x es at aim k need 1 links r (omega arith) enough
        (λ a f whole sim. closed_values z d k need aim a f whole sim)
        (arguments_code may c st p.formals es (k + result_words p) asked)
        (given_code p z d k (need - result_words p) (arguments c p.formals es (k + result_words p)) (λ s. run.arguments here call p.formals es (k + result_words p) s)
        (arguments_given p.formals es (k + result_words p) (result_words p) (need - result_words p) asked room fits)))
        (either (is_covered_variable may c st x es k) (is_word_call may st x (c.names x) && asked_arguments may c st x es k) e)
    simulated (tree.Tree.unary o a at) aim k need e enough =
        let two = both (is_covered_sign o) (is_covered may c st a k) e in
        sign_simulates z d k need o (kind_of c.names a) aim (code c a as_value k) (λ s. value here call a k s) two.0
        (covered_word may c st a k two.1) (omega (arith, enough)) (code_whole may c st a as_value k two.1) (simulated a as_value k need two.1 enough)
    simulated (tree.Tree.shift o a by at) aim k need e enough =
        let parts = shift_parts may c st o a by at k e in
        shift_simulates z d k need o (small_constant c.names by) aim (code c a as_value k) (λ s. value here call a k s) parts.0 parts.1
        (code_whole may c st a as_value k parts.2) (simulated a as_value k need parts.2 enough)
    simulated (tree.Tree.field a start size at) aim k need e enough =
        let two = both (nat_le 1 (small_constant c.names size) && nat_le (small_constant c.names start + small_constant c.names size) 16) (is_covered may c st a k) e in
        field_simulates z d k need (small_constant c.names start) (small_constant c.names size) aim (code c a as_value k)
        (λ s. value here call a k s) two.0 (code_whole may c st a as_value k two.1) (simulated a as_value k need two.1 enough)
    simulated (tree.Tree.transfer to a at) aim k need e enough =
        let two = both (is_single to) (is_covered may c st a k || is_wide may c st a k) e in
        let one = code c a as_value k in
        let first : State → Outcome (List ℕ) = λ s. value here call a k s in
        ⊎_elim (λ word. transfer_simulates z d k need to (kind_of c.names a) aim one first two.0
        (covered_word may c st a k word) (code_whole may c st a as_value k word) (simulated a as_value k need word enough))
        (λ wide. subst (λ (x : Operand). Simulates z d aim 1 k need (one ⨟ pieces (transfer to x) ⨟ closing aim) (λ s. then_go (first s) (λ vs t. transferred to x vs t)))
        (sym (wide_kind may c st a k wide))
        (closed_values z d k need aim (one ⨟ pieces (transfer to (of kind.Double))) (λ s. then_go (first s) (λ vs t. transferred to (of kind.Double) vs t))
        (double.low_whole to one two.0 (double_whole may c st a k wide))
        (low_words_give z d k need to one first two.0 (double_whole may c st a k wide) (double_gives a k need wide enough))))
        (either (is_covered may c st a k) (is_wide may c st a k) two.1)
    simulated (tree.Tree.binary o a b at) aim k need e enough =
        ⊎_elim
        (λ i. let parts = connective_parts may c st o a b at k i e in
        let room = either_room c.names o a b at need i enough in
        connective_simulates c results z call d o a b at aim k need i (omega (arith, enough)) (λ fail. code_whole may c st a (as_test fail) k parts.0)
        (λ fail. code_whole may c st b (as_test fail) k parts.1) (λ fail. simulated a (as_test fail) k need parts.0 room.0)
        (λ fail. simulated b (as_test fail) k need parts.1 room.1))
        (λ i. by_operator may c st o a b at k i e
        (λ plain. let parts = operator_parts may c st o a b k plain in
        let j = k + operand_width (kind_of c.names a) in
        let one = word_wide (kind_of c.names a) (covered_word may c st a k parts.1) in
        let room = waiting_room c.names o a b at need i parts.0.apart 1 one enough in
        operator_simulates c results z call d o a b at aim k need (most c.names b + 8) i parts.0 room.1 (omega (arith, enough)) (code_whole may c st a as_value k parts.1)
        (code_whole may c st b as_value j parts.2) (simulated a as_value k need parts.1 room.0)
        (subst (λ (n : ℕ). Simulates z d as_value 1 (k + n) (most c.names b + 8) (code c b as_value j) (λ s. value here call b j s)) one
        (simulated b as_value j (most c.names b + 8) parts.2 (omega arith))))
        (λ pair. let r = related_parts may c st o a b k pair in
        let j = k + operand_width (kind_of c.names a) in
        let both' = relation_of may c st o a b k r in
        let two : operand_width (kind_of c.names a) ≡ 2 = ap operand_width both'.left in
        let room = waiting_room c.names o a b at need i r.apart 2 two enough in
        related_simulates c results z call d o a b at aim k need (most c.names b + 8) i both' room.1 (double_whole may c st a k r.left)
        (double_whole may c st b j r.right) (double_gives a k need r.left room.0)
        (subst (λ (n : ℕ). Simulates z d as_value 2 (k + n) (most c.names b + 8) (code c b as_value j) (λ s. value here call b j s)) two
        (double_gives b j (most c.names b + 8) r.right (omega arith))))
        (λ text. spelled_simulates c results z call d o a b at aim k need i text.compares text.small (omega (arith, enough))
        (bytes_given a k need text.bytes text.reference' (reference_gives a k need text.reference' (left_room c.names o a b at need enough)))))
        (truths (is_connective o))
    simulated (tree.Tree.address x es at) aim k need e enough = address_gives x es at aim k need e enough
    simulated (tree.Tree.wide v) aim k need e enough = absurd (false≢true e)
    simulated (tree.Tree.bytes o a b count at) aim k need e enough =
        let parts = bytes_parts may c st o a b count at k e in
        let room = bytes_room c.names o a b count at need enough in
        bytes_compared z d k need (most c.names b + 8) (most c.names count + 8) o aim (reference c a k) (reference c b (k + 1)) (code c count as_value (k + 2))
        (λ s. located here call a k s) (λ s. located here call b (k + 1) s) (λ s. value here call count (k + 2) s)
        (bytes_given a k need parts.first parts.first_reference (reference_gives a k need parts.first_reference room.0))
        (bytes_given b (k + 1) (most c.names b + 8) parts.other parts.other_reference
        (reference_gives b (k + 1) (most c.names b + 8) parts.other_reference (omega arith))) (code_whole may c st count as_value (k + 2) parts.counts)
        (simulated count as_value (k + 2) (most c.names count + 8) parts.counts (omega arith)) room.1 room.2 (omega (arith, enough))

    variable_gives : (x : List ℕ) (es : Trees) (at : At) (aim : Aim) (k need : ℕ) → is_covered_variable may c st x es k ≡ true
        → most c.names (tree.Tree.named x es at) + 8 ≤ need
        → Simulates z d aim 1 k need (code c (tree.Tree.named x es at) aim k) (λ s. value here call (tree.Tree.named x es at) k s)
    variable_gives x tree.Trees.none at aim k need e enough = name_simulates c results z call d x at aim k need e (omega (arith, enough))
    variable_gives x (tree.Trees.and i tree.Trees.none) at aim k need e enough =
        let two = both (is_led_element st k (access_of (c.names x)) (c.places x)) (is_covered may c st i k) e in
        element_simulates c results z call d x i at aim k need (element_case st x k (c.names x) (c.places x) two.0) (omega (arith, enough))
        (code_whole may c st i as_value k two.1) (simulated i as_value k need two.1 (index_room c x i at need enough))
    variable_gives x (tree.Trees.and i (tree.Trees.and j js)) at aim k need e enough = absurd (false≢true e)

    address_gives : (x : List ℕ) (es : Trees) (at : At) (aim : Aim) (k need : ℕ) → is_covered_address may c st x es k ≡ true
        → most c.names (tree.Tree.address x es at) + 8 ≤ need
        → Simulates z d aim 1 k need (code c (tree.Tree.address x es at) aim k) (λ s. value here call (tree.Tree.address x es at) k s)
    address_gives x tree.Trees.none at aim k need e enough = addresses.address_simulates c results z call d x at aim k need e (omega (arith, enough))
    address_gives x (tree.Trees.and i tree.Trees.none) at aim k need e enough =
        let two = both (is_addressed_element st k (access_of (c.names x)) (c.places x)) (is_covered may c st i k) e in
        addresses.element_simulates c results z call d x i at aim k need (addresses.addressed_case st k (access_of (c.names x)) (c.places x) two.0) (omega (arith, enough))
        (code_whole may c st i as_value k two.1) (simulated i as_value k need two.1 (address_room c x i at need enough))
    address_gives x (tree.Trees.and i (tree.Trees.and j js)) at aim k need e enough = absurd (false≢true e)

    -- DOUBLEs
    double_gives : (e : Tree) (k need : ℕ) → is_wide may c st e k ≡ true → most c.names e + 8 ≤ need
        → Simulates z d as_value 2 k need (code c e as_value k) (λ s. value here call e k s)
    double_gives (tree.Tree.wide v) k need e enough =
        last_simulates z d as_value 2 k need (pieces (double_constant (v % 4294967296))) (λ s. done (double_words (v % 4294967296)) s)
        (constants_give z d k need (v % 4294967296) (omega arith) (omega (arith, enough)))
    double_gives (tree.Tree.named x es at) k need e enough =
        ⊎_elim (λ own. double_variable_gives x es at k need own enough)
        (λ other. let two = both (is_double_call may st x (c.names x)) (asked_arguments may c st x es k) other in
        let r = double_case may st x (c.names x) two.0 in
        let p = profile_called r in
        let asked = arguments_of may c st x es k 2 r two.1 in
        let waits = call_room may c st x es at 2 r in
        let room : most_of c.names p.formals (result_words p) es + 8 ≤ result_words p + (need - result_words p) = omega (arith, waits, enough) in
        let fits : formals_words p.formals ≤ need - result_words p = omega (arith, waits, enough) in
        call_simulates may c results z call d x es at as_value k need 2 links r (omega arith) enough
        (λ a f whole sim. last_simulates z d as_value 2 k need a f sim)
        (arguments_code may c st p.formals es (k + result_words p) asked)
        (given_code p z d k (need - result_words p) (arguments c p.formals es (k + result_words p)) (λ s. run.arguments here call p.formals es (k + result_words p) s)
        (arguments_given p.formals es (k + result_words p) (result_words p) (need - result_words p) asked room fits)))
        (either (is_wide_variable may c st x es k) (is_double_call may st x (c.names x) && asked_arguments may c st x es k) e)
    double_gives (tree.Tree.transfer kind.Double a at) k need e enough =
        let one = code c a as_value k in
        let first : State → Outcome (List ℕ) = λ s. value here call a k s in
        ⊎_elim (λ word. let two = both (is_word_operand (kind_of c.names a)) (is_covered may c st a k) word in
        last_simulates z d as_value 2 k need (one ⨟ pieces (transfer kind.Double (kind_of c.names a)))
        (λ s. then_go (first s) (λ vs t. transferred kind.Double (kind_of c.names a) vs t))
        (extensions_give z d k need (kind_of c.names a) one first two.0 (omega (arith, enough)) (code_whole may c st a as_value k two.1)
        (simulated a as_value k need two.1 enough)))
        (λ wide. subst (λ (x : Operand). Simulates z d as_value 2 k need (one ⨟ pieces (transfer kind.Double x) ⨟ nothing) (λ s. then_go (first s) (λ vs t. transferred kind.Double x vs t)))
        (sym (wide_kind may c st a k wide))
        (last_simulates z d as_value 2 k need (one ⨟ pieces []) (λ s. then_go (first s) (λ vs t. transferred kind.Double (of kind.Double) vs t))
        (doubled_gives z d k need one first (double_gives a k need wide enough))))
        (either (is_word_operand (kind_of c.names a) && is_covered may c st a k) (is_wide may c st a k) e)
    double_gives (tree.Tree.unary o a at) k need e enough =
        let two = both ((o == positive) || (o == negative)) (is_wide may c st a k) e in
        let one = code c a as_value k in
        let first : State → Outcome (List ℕ) = λ s. value here call a k s in
        subst (λ (x : Operand). Simulates z d as_value 2 k need (one ⨟ pieces (sign_operator o x) ⨟ nothing) (λ s. then_go (first s) (λ vs t. signed_done o x vs t)))
        (sym (wide_kind may c st a k two.1))
        (last_simulates z d as_value 2 k need (one ⨟ pieces (sign_operator o (of kind.Double))) (λ s. then_go (first s) (λ vs t. signed_done o (of kind.Double) vs t))
        (signs_give z d k need o one first two.0 (double_whole may c st a k two.1) (double_gives a k need two.1 enough)))
    double_gives (tree.Tree.binary o a b at) k need e enough =
        let parts = sum_parts may c st o a b k e in
        let j = k + operand_width (kind_of c.names a) in
        let left = wide_kind may c st a k parts.1 in
        let right = wide_kind may c st b j parts.2 in
        let room = double.sum_room c.names o a b at need parts.0 left enough in
        let first = code c a as_value k in
        let other = code c b as_value j in
        let sum = sums_give z d k need (most c.names b + 8) o first other (λ s. value here call a k s) (λ s. value here call b j s) parts.0 (double_whole may c st a k parts.1)
        (double_whole may c st b j parts.2) (double_gives a k need parts.1 room.0)
        (subst (λ (i : ℕ). Simulates z d as_value 2 (k + i) (most c.names b + 8) other (λ s. value here call b j s)) (ap operand_width left)
        (double_gives b j (most c.names b + 8) parts.2 (omega arith))) room.1 in
        same_simulates z d as_value 2 k need (code c (tree.Tree.binary o a b at) as_value k) (first ⨟ other ⨟ pieces (class_operator doubles o) ⨟ nothing)
        (λ s. value here call (tree.Tree.binary o a b at) k s)
        (λ s. then_go (value here call a k s) (λ vs t. then_go (value here call b j t) (λ us u. by_class doubles o vs us u)))
        (double.sum_code c o a b at k parts.0 left right) (λ s. double.sum_is here call o a b at k s parts.0 left right)
        (last_simulates z d as_value 2 k need (first ⨟ other ⨟ pieces (class_operator doubles o))
        (λ s. then_go (value here call a k s) (λ vs t. then_go (value here call b j t) (λ us u. by_class doubles o vs us u))) sum)
    double_gives (tree.Tree.transfer kind.Integer a at) k need e enough = absurd (false≢true e)
    double_gives (tree.Tree.transfer kind.Logical a at) k need e enough = absurd (false≢true e)
    double_gives (tree.Tree.transfer kind.Byte a at) k need e enough = absurd (false≢true e)
    double_gives (tree.Tree.number v) k need e enough = absurd (false≢true e)
    double_gives (tree.Tree.truth b) k need e enough = absurd (false≢true e)
    double_gives (tree.Tree.text bytes) k need e enough = absurd (false≢true e)
    double_gives (tree.Tree.address x es at) k need e enough = absurd (false≢true e)
    double_gives (tree.Tree.shift o a by at) k need e enough = absurd (false≢true e)
    double_gives (tree.Tree.field a start size at) k need e enough = absurd (false≢true e)
    double_gives (tree.Tree.bytes o a b count at) k need e enough = absurd (false≢true e)

    double_variable_gives : (x : List ℕ) (es : Trees) (at : At) (k need : ℕ) → is_wide_variable may c st x es k ≡ true
        → most c.names (tree.Tree.named x es at) + 8 ≤ need
        → Simulates z d as_value 2 k need (code c (tree.Tree.named x es at) as_value k) (λ s. value here call (tree.Tree.named x es at) k s)
    double_variable_gives x tree.Trees.none at k need e enough =
        ⊎_elim (λ own. doubled.name_simulates c results z call d x at k need (wide_case st x k (c.names x) (c.places x) own) (omega (arith, enough)))
        (λ led. leading.led_simulates c results z call d x at k need led (omega (arith, enough)))
        (either (is_wide_name st k (c.names x) (c.places x)) (is_wide_led st k (access_of (c.names x)) (c.places x)) e)
    double_variable_gives x (tree.Trees.and i tree.Trees.none) at k need e enough =
        let two = both (is_wide_element st k (access_of (c.names x)) (c.places x)) (is_covered may c st i k) e in
        leading.element_simulates c results z call d x i at k need two.0 (omega (arith, enough)) (code_whole may c st i as_value k two.1)
        (simulated i as_value k need two.1 (index_room c x i at need enough))
    double_variable_gives x (tree.Trees.and i (tree.Trees.and j js)) at k need e enough = absurd (false≢true e)

    -- references
    reference_gives : (e : Tree) (k need : ℕ) → is_covered_reference may c st e k ≡ true → most c.names e + 8 ≤ need
        → Simulates z d as_value 1 k need (reference c e k) (λ s. then_go (located here call e k s) address_done)
    reference_gives (tree.Tree.named x es at) k need e enough =
        let few = index_waits may c st x es at k e in
        same_simulates z d as_value 1 k need (reference c (tree.Tree.named x es at) k) (reference c (tree.Tree.named x es at) k)
        (λ s. then_go (located here call (tree.Tree.named x es at) k s) address_done) (λ s. value here call (tree.Tree.address x es at) k s) refl
        (λ s. behind_both (index here call es k s) (λ i t. locate here x i t) address_done)
        (bare_simulates z d 1 k need (reference c (tree.Tree.named x es at) k) (λ s. value here call (tree.Tree.address x es at) k s)
        (address_gives x es at as_value k need e (omega (arith, enough, few))))
    reference_gives (tree.Tree.number v) k need e enough = absurd (false≢true e)
    reference_gives (tree.Tree.wide v) k need e enough = absurd (false≢true e)
    reference_gives (tree.Tree.text bytes) k need e enough = absurd (false≢true e)
    reference_gives (tree.Tree.truth b) k need e enough = absurd (false≢true e)
    reference_gives (tree.Tree.address x es at) k need e enough = absurd (false≢true e)
    reference_gives (tree.Tree.unary o a at) k need e enough = absurd (false≢true e)
    reference_gives (tree.Tree.binary o a b at) k need e enough = absurd (false≢true e)
    reference_gives (tree.Tree.shift o a by at) k need e enough = absurd (false≢true e)
    reference_gives (tree.Tree.field a start size at) k need e enough = absurd (false≢true e)
    reference_gives (tree.Tree.transfer to a at) k need e enough = absurd (false≢true e)
    reference_gives (tree.Tree.bytes o a b count at) k need e enough = absurd (false≢true e)

    -- and arguments, where there are any
    arguments_given : (fs : List Formal) (es : Trees) (k w need : ℕ) → are_covered_arguments may c st fs es k ≡ true
        → most_of c.names fs w es + 8 ≤ w + need → formals_words fs ≤ need
        → Given z d (formals_words fs) k need (arguments c fs es k) (λ s. run.arguments here call fs es k s)
    arguments_given [] tree.Trees.none k w need h enough fits = nothing_given refl (λ s. refl)
    arguments_given (f ∷ fs) (tree.Trees.and e es) k w need h enough fits =
        let word = is_covered may c st e k in
        let pair = is_wide may c st e k in
        let led = is_covered_reference may c st e k in
        let two = both (is_passed (by_value f) f.kind word pair led) (are_covered_arguments may c st fs es (k + formal_words f)) h in
        let a : Part = if by_value f then code c e as_value k ⨟ pieces (as_parameter f.kind) else reference c e k in
        let whole = argument_whole (by_value f) f.kind word pair led (code c e as_value k) (reference c e k) two.0
        (λ i. code_whole may c st e as_value k i) (λ i. double_whole may c st e k i) (λ i. reference_whole may c st e k i) in
        let room : most c.names e + 8 ≤ need = omega (arith, enough) in
        words_given (behind_argument a (arguments c fs es (k + formal_words f)) whole (arguments_code may c st fs es (k + formal_words f) two.1))
        (first_gives z d (formal_words f) (formals_words fs) k need (need - formal_words f) a (arguments c fs es (k + formal_words f))
        (λ s. run.argument f (λ s1. value here call e k s1) (λ s1. located here call e k s1) s) (λ s. run.arguments here call fs es (k + formal_words f) s) whole
        (argument_gives z d k need (by_value f) f.kind word pair led (code c e as_value k) (reference c e k) (λ s. value here call e k s)
        (λ s. then_go (located here call e k s) address_done) two.0
        (λ i. (code_whole may c st e as_value k i, simulated e as_value k need i room)) (λ i. (double_whole may c st e k i, double_gives e k need i room))
        (λ i. reference_gives e k need i room))
        (arguments_given fs es (k + formal_words f) (w + formal_words f) (need - formal_words f) two.1 (omega (arith, enough, fits)) (omega (arith, fits)))
        (omega (arith, fits)))
    arguments_given [] (tree.Trees.and e es) k w need h enough fits = absurd (false≢true h)
    arguments_given (f ∷ fs) tree.Trees.none k w need h enough fits = absurd (false≢true h)

-- ---- the laws

-- the kind of a covered value is that of one word
pub covered_gives : CoveredValuesSimulate
covered_gives may c results z call d e k need links covered enough =
    subst (λ (j : ℕ). Simulates z d as_value j k need (code c e as_value k) (λ s. value (read_with c results z.setting) call e k s))
    (sym (covered_width may c z.setting e k covered)) (simulated may c results z call d links e as_value k need covered enough)

pub covered_tests : CoveredTestsSimulate
covered_tests may c results z call d e k need fail links covered enough = simulated may c results z call d links e (as_test fail) k need covered enough

pub wide_gives : WideValuesSimulate
wide_gives may c results z call d e k need links covered enough = double_gives may c results z call d links e k need covered enough

pub arguments_give : ArgumentsSimulate
arguments_give may c results z call d f fs es k w need links covered enough fits =
    by (arguments_given may c results z call d links (f ∷ fs) es k w need covered enough fits) refl where
      wide : 1 ≤ formals_words (f ∷ fs)
      wide = let some = formal_wide (by_value f) f.kind in omega (arith, some)

      by : {a : Part} → Given z d (formals_words (f ∷ fs)) k need a (λ s. run.arguments (read_with c results z.setting) call (f ∷ fs) es k s)
          → a ≡ arguments c (f ∷ fs) es k
          → Simulates z d as_value (formals_words (f ∷ fs)) k need (arguments c (f ∷ fs) es k) (λ s. run.arguments (read_with c results z.setting) call (f ∷ fs) es k s)
      by (nothing_given zero is) same = absurd (omega (arith, wide, zero))
      by (words_given whole sim) same =
          subst (λ (a : Part). Simulates z d as_value (formals_words (f ∷ fs)) k need a (λ s. run.arguments (read_with c results z.setting) call (f ∷ fs) es k s)) same sim

-- ---- arguments of a procedure

-- their code, which may be none
pub arguments_have_code : (may : Who → Bool) (c : Scope) (st : Setting) (fs : List Formal) (es : Trees) (k : ℕ) → are_covered_arguments may c st fs es k ≡ true
    → HasCode (arguments c fs es k)
arguments_have_code may c st fs es k covered = arguments_code may c st fs es k covered

pub arguments_made : (may : Who → Bool) (c : Scope) (results : List ℕ → Option (Kind × Place)) (z : Surroundings) (call : Callee) (d : ℕ) (p : Profile)
    (es : Trees) (k more : ℕ) → MayCall may c z d call → are_covered_arguments may c z.setting p.formals es (k + result_words p) ≡ true
    → most_of c.names p.formals (result_words p) es + 8 ≤ result_words p + more → formals_words p.formals ≤ more
    → ArgumentsCode p z d k more (arguments c p.formals es (k + result_words p))
    (λ s. run.arguments (read_with c results z.setting) call p.formals es (k + result_words p) s)
arguments_made may c results z call d p es k more links covered enough fits =
    given_code p z d k more (arguments c p.formals es (k + result_words p)) (λ s. run.arguments (read_with c results z.setting) call p.formals es (k + result_words p) s)
    (arguments_given may c results z call d links p.formals es (k + result_words p) (result_words p) more covered enough fits)
