-- Operators of values that have the words of their class.
use Rattle.std.proofs.Common.{◌≡◌, ◌⊎◌, ℕ, ◌-◌, ◌%◌, ◌==◌, Bool, true, false, List, [], ◌∷◌, length, Option, Some, None, refl, sym, subst, arith}
use Rattle.std.specs.Prelude.{if◌then◌else◌, ◌||◌}
use Rattle.std.proofs.lemmas.Bool.{false≢true}
use Rattle.std.proofs.Math.Logic.{⊎_elim}
use Rattle.spl_covered.specs.hp_word.Words.{added, subtracted, multiplied, divided, negated, logically_added, logically_subtracted, logically_multiplied, logically_divided, double_added, double_subtracted, double_negated, words_compared, logically_compared, doubles_compared}
use Rattle.spl_covered.specs.hp_word.Bytes.{double}
use Rattle.spl_covered.specs.hp_word.declared.arithmetic.Arith.{Arith}
use Rattle.spl_covered.specs.hp_word.declared.arithmetic.Wide.{Wide}
use Rattle.spl_covered.specs.hp_word.declared.arithmetic.Quotient.{Quotient}
use Rattle.spl_covered.specs.hp_word.declared.arithmetic.Code.{Code}
use Rattle.spl_covered.specs.hp_word.declared.endings.Trap.TheVariants.{IntegerOverflow, DivideByZero}
use Rattle.spl_covered.specs.spl_tree.declared.expressions.Kind.{Kind}
use Rattle.spl_covered.specs.spl_tree.declared.expressions.Kind.TheVariants as kind
use Rattle.spl_covered.specs.spl_meaning.Names.{truth_word}
use Rattle.spl_covered.specs.spl_meaning.Kinds.{Operand, of, const, unknown, Class, integers, logicals, doubles, mixed, class_of, width, works_on_bits, is_relation, relation_number, positive, negative, plus, minus, times, modulo, or_operator}
use Rattle.spl_covered.specs.spl_meaning.Operations.{double_words, is_odd, word_done, double_done, quotient_done, relation_done, on_integers, on_logicals, on_doubles, by_class, on_bits, bits_done, joined, minus_done, not_done, signed_done, shift_done, field_done, extended, transferred, passed, related}
use Rattle.spl_covered.specs.spl_meaning.Elements.{with_one}
use Rattle.spl_covered.specs.spl_meaning.States.{State, trapped, Outcome, done, then_go}
use Rattle.spl_covered.specs.spl_meaning.Values.{connected}
use Rattle.spl_covered.specs.spl_values.Reached.{is_word_class}
use Rattle.spl_covered.specs.spl_operators.Laws.{is_word_operand, is_single}
use Rattle.spl_covered.proofs.spl_word_operators_proofs.OperatorLemmas.{no_bits}
use Rattle.spl_safe_values.proofs.Came.{Comes, One, Two, comes_go, comes_done, comes_ends, comes_if, comes_one}

-- ---- results

word_done_comes : (r : Arith) → Comes One (word_done r)
word_done_comes r = comes_if r.overflow (comes_ends (trapped IntegerOverflow)) (comes_done (r.value ∷ []) refl)

double_done_comes : (r : Wide) → Comes Two (double_done r)
double_done_comes r = comes_if r.overflow (comes_ends (trapped IntegerOverflow)) (comes_done (double_words r.value) refl)

quotient_comes : (rest : Bool) (o : Option Quotient) → Comes One (quotient_done rest o)
quotient_comes rest None = comes_ends (trapped DivideByZero)
quotient_comes rest (Some q) =
    comes_if q.overflow (comes_ends (trapped IntegerOverflow)) (comes_done ((if rest then q.remainder else q.quotient) ∷ []) refl)

relation_comes : (op : ℕ) (c : Code) → Comes One (relation_done op c)
relation_comes op c = comes_done (truth_word (related op c) ∷ []) refl

-- the sum of two words, which a FOR takes
pub sum_comes : (x y : ℕ) → Comes One (λ s. word_done (added x y) s)
sum_comes x y = word_done_comes (added x y)

-- ---- two operands

integers_come : (op x y : ℕ) → Comes One (on_integers op x y)
integers_come op x y =
    comes_if (is_relation op) (relation_comes (relation_number op) (words_compared x y))
    (comes_if (op == plus) (word_done_comes (added x y))
    (comes_if (op == minus) (word_done_comes (subtracted x y))
    (comes_if (op == times) (word_done_comes (multiplied x y)) (quotient_comes (op == modulo) (divided x y)))))

logicals_come : (op x y : ℕ) → Comes One (on_logicals op x y)
logicals_come op x y =
    comes_if (is_relation op) (relation_comes (relation_number op) (logically_compared x y))
    (comes_if (op == plus) (comes_done ((logically_added x y).value ∷ []) refl)
    (comes_if (op == minus) (comes_done ((logically_subtracted x y).value ∷ []) refl)
    (comes_if (op == times) (comes_done ((logically_multiplied x y).value % 65536 ∷ []) refl)
    (quotient_comes (op == modulo) (logically_divided x y)))))

words_come : (class : Class) (op x y : ℕ) → is_word_class class ≡ true → Comes One (by_class class op (x ∷ []) (y ∷ []))
words_come integers op x y e = integers_come op x y
words_come logicals op x y e = logicals_come op x y
words_come doubles op x y e = absurd (false≢true e)
words_come mixed op x y e = absurd (false≢true e)

-- of two words of a class
pub joined_comes : (op : ℕ) (l r : Operand) (vs us : List ℕ) → is_word_class (class_of l r) ≡ true → One vs → One us → Comes One (joined op l r vs us)
joined_comes op l r [] us e one other = absurd (omega (arith, one))
joined_comes op l r (v ∷ []) [] e one other = absurd (omega (arith, other))
joined_comes op l r (v ∷ []) (u ∷ []) e one other =
    comes_if (works_on_bits op) (comes_done (on_bits op v u ∷ []) refl) (words_come (class_of l r) op v u e)
joined_comes op l r (v ∷ []) (u ∷ x ∷ us) e one other = absurd (omega (arith, other))
joined_comes op l r (v ∷ x ∷ vs) us e one other = absurd (omega (arith, one))

-- a relation of DOUBLEs
related_doubles : (op x y : ℕ) → is_relation op ≡ true → Comes One (on_doubles op x y)
related_doubles op x y e = by (is_relation op) e
  where
    by : (t : Bool) → t ≡ true
        → Comes One (λ s. if t then relation_done (relation_number op) (doubles_compared x y) s
        else if op == plus then double_done (double_added x y) s else double_done (double_subtracted x y) s)
    by true h = relation_comes (relation_number op) (doubles_compared x y)
    by false h = absurd (false≢true h)

pub double_relation_comes : (op : ℕ) (vs us : List ℕ) → is_relation op ≡ true → Two vs → Two us
    → Comes One (joined op (of kind.Double) (of kind.Double) vs us)
double_relation_comes op [] us e two other = absurd (omega (arith, two))
double_relation_comes op (h ∷ []) us e two other = absurd (omega (arith, two))
double_relation_comes op (h ∷ l ∷ []) [] e two other = absurd (omega (arith, other))
double_relation_comes op (h ∷ l ∷ []) (i ∷ []) e two other = absurd (omega (arith, other))
double_relation_comes op (h ∷ l ∷ []) (i ∷ m ∷ []) e two other = by (works_on_bits op) (no_bits op e)
  where
    by : (t : Bool) → t ≡ false
        → Comes One (λ s. if t then bits_done op (h ∷ l ∷ []) (i ∷ m ∷ []) s else by_class doubles op (h ∷ l ∷ []) (i ∷ m ∷ []) s)
    by true x = absurd (false≢true (sym x))
    by false x = related_doubles op (double h l) (double i m) e
double_relation_comes op (h ∷ l ∷ []) (i ∷ m ∷ x ∷ us) e two other = absurd (omega (arith, other))
double_relation_comes op (h ∷ l ∷ x ∷ vs) us e two other = absurd (omega (arith, two))

-- their sum and difference
pub double_sum_comes : (op : ℕ) (vs us : List ℕ) → ((op ≡ plus) ⊎ (op ≡ minus)) → Two vs → Two us
    → Comes Two (joined op (of kind.Double) (of kind.Double) vs us)
double_sum_comes op [] us e two other = absurd (omega (arith, two))
double_sum_comes op (h ∷ []) us e two other = absurd (omega (arith, two))
double_sum_comes op (h ∷ l ∷ []) [] e two other = absurd (omega (arith, other))
double_sum_comes op (h ∷ l ∷ []) (i ∷ []) e two other = absurd (omega (arith, other))
double_sum_comes op (h ∷ l ∷ []) (i ∷ m ∷ []) e two other =
    ⊎_elim (λ is. at plus is (double_done_comes (double_added (double h l) (double i m))))
    (λ is. at minus is (double_done_comes (double_subtracted (double h l) (double i m)))) e
  where
    at : (n : ℕ) → op ≡ n → Comes Two (joined n (of kind.Double) (of kind.Double) (h ∷ l ∷ []) (i ∷ m ∷ []))
        → Comes Two (joined op (of kind.Double) (of kind.Double) (h ∷ l ∷ []) (i ∷ m ∷ []))
    at n is x = subst (λ (j : ℕ). Comes Two (joined j (of kind.Double) (of kind.Double) (h ∷ l ∷ []) (i ∷ m ∷ []))) (sym is) x
double_sum_comes op (h ∷ l ∷ []) (i ∷ m ∷ x ∷ us) e two other = absurd (omega (arith, other))
double_sum_comes op (h ∷ l ∷ x ∷ vs) us e two other = absurd (omega (arith, two))

-- AND and OR
right_comes : (f : State → Outcome (List ℕ)) → Comes One f
    → Comes One (λ s. then_go (f s) (λ us s2. with_one us s2 (λ u s3. done (truth_word (is_odd u) ∷ []) s3)))
right_comes f h = comes_go h (λ us one. comes_one us one (λ u. comes_done (truth_word (is_odd u) ∷ []) refl))

pub connected_comes : (op : ℕ) (vs : List ℕ) (f : State → Outcome (List ℕ)) → One vs → Comes One f → Comes One (λ s. connected op vs s f)
connected_comes op vs f one h = comes_one vs one (λ w. comes_if (op == or_operator)
    (comes_if (is_odd w) (comes_done (65535 ∷ []) refl) (right_comes f h)) (comes_if (is_odd w) (right_comes f h) (comes_done (0 ∷ []) refl)))

-- ---- one operand

minus_comes : (k : Operand) (w : ℕ) → is_word_operand k ≡ true → Comes One (minus_done k (w ∷ []))
minus_comes (of kind.Integer) w e = word_done_comes (negated w)
minus_comes (of kind.Logical) w e = comes_done _ refl
minus_comes (of kind.Byte) w e = comes_done _ refl
minus_comes (of kind.Double) w e = absurd (false≢true e)
minus_comes const w e = word_done_comes (negated w)
minus_comes unknown w e = absurd (false≢true e)

pub signed_comes : (op : ℕ) (k : Operand) (vs : List ℕ) → is_word_operand k ≡ true → One vs → Comes One (signed_done op k vs)
signed_comes op k [] e one = absurd (omega (arith, one))
signed_comes op k (w ∷ []) e one =
    comes_if (op == positive) (comes_done (w ∷ []) refl) (comes_if (op == negative) (minus_comes k w e) (comes_done ((65535 - w) ∷ []) refl))
signed_comes op k (w ∷ x ∷ vs) e one = absurd (omega (arith, one))

-- of a DOUBLE: + and -
pub double_signed_comes : (op : ℕ) (vs : List ℕ) → ((op == positive) || (op == negative)) ≡ true → Two vs
    → Comes Two (signed_done op (of kind.Double) vs)
double_signed_comes op [] e two = absurd (omega (arith, two))
double_signed_comes op (h ∷ []) e two = absurd (omega (arith, two))
double_signed_comes op (h ∷ l ∷ []) e two = by (op == positive) (op == negative) e
  where
    by : (t u : Bool) → (t || u) ≡ true
        → Comes Two (λ s. if t then done (h ∷ l ∷ []) s else if u then minus_done (of kind.Double) (h ∷ l ∷ []) s else not_done (h ∷ l ∷ []) s)
    by true u x = comes_done (h ∷ l ∷ []) refl
    by false true x = double_done_comes (double_negated (double h l))
    by false false x = absurd (false≢true x)
double_signed_comes op (h ∷ l ∷ x ∷ vs) e two = absurd (omega (arith, two))

pub shift_comes : (op count : ℕ) (vs : List ℕ) → One vs → Comes One (shift_done op count vs)
shift_comes op count [] one = absurd (omega (arith, one))
shift_comes op count (w ∷ []) one = comes_done _ refl
shift_comes op count (w ∷ x ∷ vs) one = absurd (omega (arith, one))

pub field_comes : (start size : ℕ) (vs : List ℕ) → One vs → Comes One (field_done start size vs)
field_comes start size [] one = absurd (omega (arith, one))
field_comes start size (w ∷ []) one = comes_done _ refl
field_comes start size (w ∷ x ∷ vs) one = absurd (omega (arith, one))

-- ---- transfers

-- to one word, of one word
pub transferred_comes : (to : Kind) (from : Operand) (vs : List ℕ) → is_single to ≡ true → One vs → Comes One (transferred to from vs)
transferred_comes to from [] e one = absurd (omega (arith, one))
transferred_comes kind.Integer from (w ∷ []) e one = comes_done (w ∷ []) refl
transferred_comes kind.Logical from (w ∷ []) e one = comes_done (w ∷ []) refl
transferred_comes kind.Byte from (w ∷ []) e one = comes_done (w % 256 ∷ []) refl
transferred_comes kind.Double from (w ∷ []) e one = absurd (false≢true e)
transferred_comes to from (w ∷ x ∷ vs) e one = absurd (omega (arith, one))

-- and of two
pub low_comes : (to : Kind) (from : Operand) (vs : List ℕ) → is_single to ≡ true → Two vs → Comes One (transferred to from vs)
low_comes to from [] e two = absurd (omega (arith, two))
low_comes to from (w ∷ []) e two = absurd (omega (arith, two))
low_comes kind.Integer from (h ∷ l ∷ []) e two = comes_done (l ∷ []) refl
low_comes kind.Logical from (h ∷ l ∷ []) e two = comes_done (l ∷ []) refl
low_comes kind.Byte from (h ∷ l ∷ []) e two = comes_done (l % 256 ∷ []) refl
low_comes kind.Double from (h ∷ l ∷ []) e two = absurd (false≢true e)
low_comes to from (w ∷ x ∷ y ∷ vs) e two = absurd (omega (arith, two))

-- to two words, of one word
extended_word : (from : Operand) (w : ℕ) → is_word_operand from ≡ true → Comes Two (extended from (w ∷ []))
extended_word (of kind.Integer) w e = comes_done _ refl
extended_word (of kind.Logical) w e = comes_done _ refl
extended_word (of kind.Byte) w e = comes_done _ refl
extended_word (of kind.Double) w e = absurd (false≢true e)
extended_word const w e = comes_done _ refl
extended_word unknown w e = absurd (false≢true e)

pub extended_comes : (from : Operand) (vs : List ℕ) → is_word_operand from ≡ true → One vs → Comes Two (extended from vs)
extended_comes from [] e one = absurd (omega (arith, one))
extended_comes from (w ∷ []) e one = extended_word from w e
extended_comes from (w ∷ x ∷ vs) e one = absurd (omega (arith, one))

-- and of two
pub doubled_comes : (vs : List ℕ) → Two vs → Comes Two (extended (of kind.Double) vs)
doubled_comes [] two = absurd (omega (arith, two))
doubled_comes (w ∷ []) two = absurd (omega (arith, two))
doubled_comes (h ∷ l ∷ []) two = comes_done _ refl
doubled_comes (w ∷ x ∷ y ∷ vs) two = absurd (omega (arith, two))

-- ---- parameters

-- a value as its parameter holds it
pub passed_comes : (t : Kind) (vs : List ℕ) → length vs ≡ width t → Comes (λ us. length us ≡ width t) (passed (Some t) vs)
passed_comes kind.Double [] wide = absurd (omega (arith, wide))
passed_comes kind.Double (w ∷ []) wide = absurd (omega (arith, wide))
passed_comes kind.Double (h ∷ l ∷ []) wide = comes_done _ refl
passed_comes kind.Double (w ∷ x ∷ y ∷ vs) wide = absurd (omega (arith, wide))
passed_comes t [] wide = by t wide
  where
    by : (t : Kind) → 0 ≡ width t → Comes (λ us. length us ≡ width t) (passed (Some t) [])
    by kind.Integer x = absurd (omega (arith, x))
    by kind.Logical x = absurd (omega (arith, x))
    by kind.Byte x = absurd (omega (arith, x))
    by kind.Double x = absurd (omega (arith, x))
passed_comes kind.Integer (w ∷ []) wide = comes_done _ refl
passed_comes kind.Logical (w ∷ []) wide = comes_done _ refl
passed_comes kind.Byte (w ∷ []) wide = comes_done _ refl
passed_comes kind.Integer (w ∷ x ∷ vs) wide = absurd (omega (arith, wide))
passed_comes kind.Logical (w ∷ x ∷ vs) wide = absurd (omega (arith, wide))
passed_comes kind.Byte (w ∷ x ∷ vs) wide = absurd (omega (arith, wide))
