-- Operators of two operands that break no rule.
-- 1. operators by their numbers       (always)
-- 2. operators                        (binary_covered)
use Rattle.std.proofs.Common.{◌≡◌, ℕ, ◌+◌, ◌&&◌, ◌||◌, not, nat_lt, Bool, true, false, if◌then◌else◌, List, [], ◌++◌, refl, sym, subst, ap, ◌∙◌, arith}
use Rattle.std.proofs.lemmas.Bool.{and_from, or_left, or_right, not_from_false, ltb-true, agree_below, agree_below_at}
use Rattle.spl_shapes.specs.spl_tree.declared.names_and_places.At.{At}
use Rattle.spl_shapes.specs.spl_tree.declared.expressions.Kind.TheVariants as kind
use Rattle.spl_shapes.specs.spl_tree.Trees as tree
use Rattle.spl_shapes.specs.spl_tree.Trees.{Tree}
use Rattle.spl_near_places.specs.spl_meaning.Kinds.{Operand, of, Class, integers, logicals, doubles, mixed, class_of, class_operand, is_double, is_unknown, is_connective, is_relation, works_on_bits, gives_logical, multiplies, operand_width, kind_of, compares_text}
use Rattle.spl_near_places.specs.spl_meaning.Pending.{left_words}
use Rattle.spl_near_places.specs.spl_meaning.References.{Setting}
use Rattle.spl_near_places.specs.spl_meaning.Values.{Who}
use Rattle.spl_near_places.specs.spl_meaning.Faults.{Fault, unless}
use Rattle.spl_near_places.specs.spl_meaning.ExpressionRules as rule
use Rattle.spl_near_places.specs.spl_meaning.ExpressionRules.{rule_kind, is_bits, is_mixed, mixes, is_operation, binary_faults, faults, place_in}
use Rattle.spl_near_places.specs.spl_code.Calls.{Scope}
use Rattle.spl_covered.specs.spl_values.Reached.{is_sum, is_word_class}
use Rattle.spl_covered.specs.spl_word_operators.Operators.{is_covered_operator}
use Rattle.spl_covered.proofs.spl_word_operators_proofs.OperatorLemmas.{where_true, where_false}
use Rattle.spl_covered.specs.spl_byte_tests.Elements.{is_byte_element}
use Rattle.spl_covered.specs.Covered.{is_covered, is_wide, is_covered_reference, is_spelled}
use Rattle.spl_near_places.proofs.spl_meaning_proofs.RuleKinds.{same_kind}
use Rattle.spl_near_places.proofs.spl_sound_names_proofs.Tables.{left_none, right_none, unless_none, never}
use Rattle.spl_sound_values.proofs.Parts.{implies, other, not_so}
use Rattle.spl_sound_values.proofs.Calls.{ValueCovered}
use Rattle.spl_sound_values.proofs.Operands.{bits_single, Classed, words, wide, classed, bits_class}

-- ---- 1. operators by their numbers

-- what is so of each operator
always : (f : ℕ → Bool) → agree_below f (λ o. true) 16 ≡ true → (op : ℕ) → nat_lt op 16 ≡ true → f op ≡ true
always f all op few = agree_below_at f (λ o. true) 16 op all (ltb-true op 16 few)

-- all but AND and OR are covered
operator_covered : (op : ℕ) → nat_lt op 16 ≡ true → is_connective op ≡ false → is_covered_operator op ≡ true
operator_covered op few none = other (is_connective op) (is_covered_operator op) (always (λ o. is_connective o || is_covered_operator o) refl op few) none

-- those that work on bits give a LOGICAL, and so do relations
bits_logical : (op : ℕ) → nat_lt op 16 ≡ true → works_on_bits op ≡ true → gives_logical op ≡ true
bits_logical op few = implies (works_on_bits op) (gives_logical op) (always (λ o. not (works_on_bits o) || gives_logical o) refl op few)

pub relation_logical : (op : ℕ) → nat_lt op 16 ≡ true → is_relation op ≡ true → gives_logical op ≡ true
relation_logical op few = implies (is_relation op) (gives_logical op) (always (λ o. not (is_relation o) || gives_logical o) refl op few)

-- a relation is neither AND nor OR, which work on bits
pub relation_plain : (op : ℕ) → nat_lt op 16 ≡ true → is_relation op ≡ true → is_connective op ≡ false
relation_plain op few is =
    not_so (is_connective op) (implies (is_relation op) (not (is_connective op)) (always (λ o. not (is_relation o) || not (is_connective o)) refl op few) is)

plain_connective : (op : ℕ) → nat_lt op 16 ≡ true → works_on_bits op ≡ false → is_connective op ≡ false
plain_connective op few none =
    not_so (is_connective op) (other (works_on_bits op) (not (is_connective op)) (always (λ o. works_on_bits o || not (is_connective o)) refl op few) none)

-- what DOUBLEs have beside relations is sums, which are no relations
wide_operator : (op : ℕ) → nat_lt op 16 ≡ true → works_on_bits op ≡ false → multiplies op ≡ false → (is_relation op || is_sum op) ≡ true
wide_operator op few bits products =
    other (multiplies op) (is_relation op || is_sum op)
    (other (works_on_bits op) (multiplies op || (is_relation op || is_sum op))
    (always (λ o. works_on_bits o || (multiplies o || (is_relation o || is_sum o))) refl op few) bits) products

sum_wide : (op : ℕ) → nat_lt op 16 ≡ true → is_sum op ≡ true → gives_logical op ≡ false
sum_wide op few is =
    not_so (gives_logical op) (implies (is_sum op) (not (gives_logical op)) (always (λ o. not (is_sum o) || not (gives_logical o)) refl op few) is)

-- ---- the rules of operators by the kinds of their operands

abbrev kinds_faults : ℕ → Operand → Operand → Tree → Tree → At → List Fault
kinds_faults op o p a b at =
    if works_on_bits op then unless (is_bits o) 7 (place_in at a) ++ unless (is_bits p) 7 (place_in at b)
    else unless (mixes o p) 4 at ++ unless (is_operation op o p) 5 at

-- operands that break no rule have their own kinds there
pub plain_sound : (sc : rule.Scope) (op : ℕ) (a b : Tree) (at : At) → faults sc at a ≡ [] → faults sc at b ≡ [] → binary_faults sc.names op a b at ≡ []
    → kinds_faults op (kind_of sc.names a) (kind_of sc.names b) a b at ≡ []
plain_sound sc op a b at first second none =
    subst (λ o. kinds_faults op o (kind_of sc.names b) a b at ≡ []) (same_kind sc at a first)
    (subst (λ p. kinds_faults op (rule_kind sc.names a) p a b at ≡ []) (same_kind sc at b second) none)

-- ---- values of operators

module _ (may : Who → Bool) (c : Scope) (st : Setting) where
  -- a LOGICAL
  pub logical_value : (op : ℕ) (a b : Tree) (at : At) (k : ℕ) → gives_logical op ≡ true → is_covered may c st (tree.Tree.binary op a b at) k ≡ true
      → ValueCovered may c st (tree.Tree.binary op a b at) k
  logical_value op a b at k logical covered = record {
    known = ap is_unknown same;
    word = λ single. covered;
    wide = λ double. never (sym (ap is_double same) ∙ double);
    reference = never;
  }
    where
      same : kind_of c.names (tree.Tree.binary op a b at) ≡ of kind.Logical
      same = where_true (gives_logical op) (of kind.Logical) (class_operand (class_of (kind_of c.names a) (kind_of c.names b))) logical

  -- a value of a class of one word
  word_known : (g : Bool) (d : Class) → is_word_class d ≡ true → is_unknown (if g then of kind.Logical else class_operand d) ≡ false
  word_known true d is = refl
  word_known false integers is = refl
  word_known false logicals is = refl
  word_known false doubles is = never is
  word_known false mixed is = never is

  word_single : (g : Bool) (d : Class) → is_double (class_operand d) ≡ false → is_double (if g then of kind.Logical else class_operand d) ≡ false
  word_single true d is = refl
  word_single false d is = is

  word_value : (op : ℕ) (a b : Tree) (at : At) (k : ℕ) → is_word_class (class_of (kind_of c.names a) (kind_of c.names b)) ≡ true
      → is_double (class_operand (class_of (kind_of c.names a) (kind_of c.names b))) ≡ false → is_covered may c st (tree.Tree.binary op a b at) k ≡ true
      → ValueCovered may c st (tree.Tree.binary op a b at) k
  word_value op a b at k class single covered = record {
    known = word_known (gives_logical op) (class_of (kind_of c.names a) (kind_of c.names b)) class;
    word = λ one. covered;
    wide = λ double. never (sym (word_single (gives_logical op) (class_of (kind_of c.names a) (kind_of c.names b)) single) ∙ double);
    reference = never;
  }

  -- a DOUBLE
  wide_value : (op : ℕ) (a b : Tree) (at : At) (k : ℕ) → gives_logical op ≡ false → class_of (kind_of c.names a) (kind_of c.names b) ≡ doubles
      → is_wide may c st (tree.Tree.binary op a b at) k ≡ true → ValueCovered may c st (tree.Tree.binary op a b at) k
  wide_value op a b at k plain class covered = record {
    known = ap is_unknown same;
    word = λ single. never (sym single ∙ ap is_double same);
    wide = λ double. covered;
    reference = never;
  }
    where
      same : kind_of c.names (tree.Tree.binary op a b at) ≡ of kind.Double
      same =
          where_false (gives_logical op) (of kind.Logical) (class_operand (class_of (kind_of c.names a) (kind_of c.names b))) plain
          ∙ ap (λ (d : Class). class_operand d) class

  -- neither AND nor OR
  pub by_others : (op : ℕ) (a b : Tree) (at : At) (k : ℕ) → is_connective op ≡ false
      → (((is_covered_operator op && not (compares_text c.names op a b)) && is_word_class (class_of (kind_of c.names a) (kind_of c.names b))
      && is_covered may c st a k && is_covered may c st b (k + operand_width (kind_of c.names a)))
      || ((is_relation op && not (compares_text c.names op a b)) && (is_wide may c st a k && is_wide may c st b (k + operand_width (kind_of c.names a)))
      || (compares_text c.names op a b && (is_spelled b && (is_byte_element c st a && is_covered_reference may c st a k))))) ≡ true
      → is_covered may c st (tree.Tree.binary op a b at) k ≡ true
  by_others op a b at k none covered = where_false (is_connective op) (is_covered may c st a k && is_covered may c st b k) _ none ∙ covered

  -- operands of one word
  words_covered : (op : ℕ) (a b : Tree) (at : At) (k : ℕ) → nat_lt op 16 ≡ true → is_connective op ≡ false → compares_text c.names op a b ≡ false
      → is_word_class (class_of (kind_of c.names a) (kind_of c.names b)) ≡ true → is_covered may c st a k ≡ true
      → is_covered may c st b (k + operand_width (kind_of c.names a)) ≡ true → is_covered may c st (tree.Tree.binary op a b at) k ≡ true
  words_covered op a b at k few none apart class first second =
      by_others op a b at k none
      (or_left _ _
      (and_from _ _
      (and_from _ _
      (and_from _ _
      (and_from (is_covered_operator op) (not (compares_text c.names op a b)) (operator_covered op few none) (not_from_false (compares_text c.names op a b) apart))
      class) first) second))

  -- a relation of DOUBLEs
  wides_covered : (op : ℕ) (a b : Tree) (at : At) (k : ℕ) → nat_lt op 16 ≡ true → is_relation op ≡ true → compares_text c.names op a b ≡ false
      → is_wide may c st a k ≡ true → is_wide may c st b (k + operand_width (kind_of c.names a)) ≡ true
      → is_covered may c st (tree.Tree.binary op a b at) k ≡ true
  wides_covered op a b at k few relation apart first second =
      by_others op a b at k (relation_plain op few relation)
      (or_right _ _
      (or_left _ _
      (and_from _ _
      (and_from (is_relation op) (not (compares_text c.names op a b)) relation (not_from_false (compares_text c.names op a b) apart))
      (and_from (is_wide may c st a k) (is_wide may c st b (k + operand_width (kind_of c.names a))) first second))))

  -- ---- 3. operators

  -- what waits for the right operand: nothing of AND and OR, and else the left one
  waits_not : (op : ℕ) (a b : Tree) (k : ℕ) → is_connective op ≡ true → k + left_words c.names op a b ≡ k
  waits_not op a b k is = ap (λ (w : ℕ). k + w) (where_true (is_connective op) 0 _ is) ∙ same k
    where
      same : (j : ℕ) → j + 0 ≡ j
      same j = omega arith

  waits : (op : ℕ) (a b : Tree) (k : ℕ) → is_connective op ≡ false → compares_text c.names op a b ≡ false
      → k + left_words c.names op a b ≡ k + operand_width (kind_of c.names a)
  waits op a b k none apart =
      ap (λ (w : ℕ). k + w) (where_false (is_connective op) 0 _ none ∙ where_false (compares_text c.names op a b) 0 (operand_width (kind_of c.names a)) apart)

  -- those that work on bits
  bits_covered : (op : ℕ) (a b : Tree) (at : At) (k : ℕ) → nat_lt op 16 ≡ true → compares_text c.names op a b ≡ false → works_on_bits op ≡ true
      → unless (is_bits (kind_of c.names a)) 7 (place_in at a) ++ unless (is_bits (kind_of c.names b)) 7 (place_in at b) ≡ [] → ValueCovered may c st a k → ValueCovered may c st b (k + left_words c.names op a b)
      → ValueCovered may c st (tree.Tree.binary op a b at) k
  bits_covered op a b at k few apart works none first second = logical_value op a b at k (bits_logical op few works) (by (is_connective op) refl)
    where
      left : is_bits (kind_of c.names a) ≡ true
      left = unless_none (is_bits (kind_of c.names a)) 7 (place_in at a) (left_none (unless (is_bits (kind_of c.names a)) 7 (place_in at a)) (unless (is_bits (kind_of c.names b)) 7 (place_in at b)) none)

      right : is_bits (kind_of c.names b) ≡ true
      right = unless_none (is_bits (kind_of c.names b)) 7 (place_in at b) (right_none (unless (is_bits (kind_of c.names a)) 7 (place_in at a)) (unless (is_bits (kind_of c.names b)) 7 (place_in at b)) none)

      one : is_covered may c st a k ≡ true
      one = first.word (bits_single (kind_of c.names a) left)

      two : is_covered may c st b (k + left_words c.names op a b) ≡ true
      two = second.word (bits_single (kind_of c.names b) right)

      by : (t : Bool) → is_connective op ≡ t → is_covered may c st (tree.Tree.binary op a b at) k ≡ true
      by true is =
          where_true (is_connective op) (is_covered may c st a k && is_covered may c st b k) _ is
          ∙ and_from (is_covered may c st a k) (is_covered may c st b k) one (subst (λ (j : ℕ). is_covered may c st b j ≡ true) (waits_not op a b k is) two)
      by false is =
          words_covered op a b at k few is apart (bits_class (kind_of c.names a) (kind_of c.names b) first.known second.known left right) one
          (subst (λ (j : ℕ). is_covered may c st b j ≡ true) (waits op a b k is apart) two)

  -- all others, by the class of their operands
  others_covered : (op : ℕ) (a b : Tree) (at : At) (k : ℕ) → nat_lt op 16 ≡ true → compares_text c.names op a b ≡ false → works_on_bits op ≡ false
      → unless (mixes (kind_of c.names a) (kind_of c.names b)) 4 at ++ unless (is_operation op (kind_of c.names a) (kind_of c.names b)) 5 at ≡ []
      → ValueCovered may c st a k → ValueCovered may c st b (k + left_words c.names op a b) → ValueCovered may c st (tree.Tree.binary op a b at) k
  others_covered op a b at k few apart works none first second = by (classed (kind_of c.names a) (kind_of c.names b) matched)
    where
      mixing : List Fault
      mixing = unless (mixes (kind_of c.names a) (kind_of c.names b)) 4 at

      operates : List Fault
      operates = unless (is_operation op (kind_of c.names a) (kind_of c.names b)) 5 at

      matched : is_mixed (class_of (kind_of c.names a) (kind_of c.names b)) ≡ false
      matched =
          not_so (is_mixed (class_of (kind_of c.names a) (kind_of c.names b)))
          (other (is_unknown (kind_of c.names b)) (not (is_mixed (class_of (kind_of c.names a) (kind_of c.names b))))
          (known_apart (is_unknown (kind_of c.names a)) (is_unknown (kind_of c.names b)) _
          (unless_none (mixes (kind_of c.names a) (kind_of c.names b)) 4 at (left_none mixing operates none)) first.known) second.known)
        where
          known_apart : (b d e : Bool) → (b || d || e) ≡ true → b ≡ false → (d || e) ≡ true
          known_apart true d e is none = never (sym none)
          known_apart false d e is none = is

      plain : is_connective op ≡ false
      plain = plain_connective op few works

      operation : (d e m : Bool) → not (d && e && m) ≡ true → d ≡ true → e ≡ true → m ≡ false
      operation true true m is left right = not_so m is
      operation false e m is left right = never left
      operation true false m is left right = never right

      by : Classed (kind_of c.names a) (kind_of c.names b) (class_of (kind_of c.names a) (kind_of c.names b))
          → ValueCovered may c st (tree.Tree.binary op a b at) k
      by (words class left right single) =
          word_value op a b at k class single
          (words_covered op a b at k few plain apart class (first.word left)
          (subst (λ (j : ℕ). is_covered may c st b j ≡ true) (waits op a b k plain apart) (second.word right)))
      by (wide class left right) =
          choose (is_relation op) refl
          (wide_operator op few works
          (operation (is_double (kind_of c.names a)) (is_double (kind_of c.names b)) (multiplies op)
          (unless_none (is_operation op (kind_of c.names a) (kind_of c.names b)) 5 at (right_none mixing operates none)) left right))
        where
          here : is_wide may c st b (k + operand_width (kind_of c.names a)) ≡ true
          here = subst (λ (j : ℕ). is_wide may c st b j ≡ true) (waits op a b k plain apart) (second.wide right)

          choose : (t : Bool) → is_relation op ≡ t → (t || is_sum op) ≡ true → ValueCovered may c st (tree.Tree.binary op a b at) k
          choose true is either =
              logical_value op a b at k (relation_logical op few is) (wides_covered op a b at k few is apart (first.wide left) here)
          choose false is sum =
              wide_value op a b at k (sum_wide op few sum) class (and_from (is_sum op) _ sum (and_from (is_wide may c st a k) _ (first.wide left) here))

  -- an operator that compares no bytes
  pub binary_covered : (op : ℕ) (a b : Tree) (at : At) (k : ℕ) → nat_lt op 16 ≡ true → compares_text c.names op a b ≡ false
      → kinds_faults op (kind_of c.names a) (kind_of c.names b) a b at ≡ [] → ValueCovered may c st a k → ValueCovered may c st b (k + left_words c.names op a b)
      → ValueCovered may c st (tree.Tree.binary op a b at) k
  binary_covered op a b at k few apart none first second = by (works_on_bits op) refl none
    where
      by : (t : Bool) → works_on_bits op ≡ t
          → (if t then unless (is_bits (kind_of c.names a)) 7 (place_in at a) ++ unless (is_bits (kind_of c.names b)) 7 (place_in at b)
          else unless (mixes (kind_of c.names a) (kind_of c.names b)) 4 at ++ unless (is_operation op (kind_of c.names a) (kind_of c.names b)) 5 at) ≡ []
          → ValueCovered may c st (tree.Tree.binary op a b at) k
      by true is none = bits_covered op a b at k few apart is none first second
      by false is none = others_covered op a b at k few apart is none first second
