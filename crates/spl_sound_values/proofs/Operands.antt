-- Kinds of operands that break no rule, and of what operators make of them.
use Rattle.std.proofs.Common.{◌≡◌, ℕ, ◌==◌, ◌&&◌, ◌||◌, nat_lt, Bool, true, false, if◌then◌else◌, refl, sym, ◌∙◌, arith}
use Rattle.std.proofs.lemmas.Bool.{ltb-true, eqb-false, or_left, or_right, and_parts}
use Rattle.spl_shapes.specs.spl_tree.declared.expressions.Kind.TheVariants as kind
use Rattle.spl_near_places.specs.spl_meaning.Kinds.{Operand, of, const, unknown, is_integer, is_logical, is_constant, is_double, is_unknown, Class, integers, logicals, doubles, mixed, class_of, class_operand, positive, negative, complement, minus_operand, unary_operand}
use Rattle.spl_near_places.specs.spl_meaning.ExpressionRules.{is_bits, is_mixed, fits}
use Rattle.spl_covered.specs.spl_values.Reached.{is_word_class}
use Rattle.spl_covered.specs.spl_operators.Laws.{is_word_operand}
use Rattle.spl_covered.specs.spl_word_operators.Operators.{is_covered_sign}
use Rattle.spl_near_places.proofs.spl_sound_names_proofs.Tables.{never}

-- ---- one operand

-- what has bits has one word
pub bits_single : (o : Operand) → is_bits o ≡ true → is_double o ≡ false
bits_single (of kind.Double) is = never is
bits_single (of kind.Integer) is = never is
bits_single (of kind.Logical) is = refl
bits_single (of kind.Byte) is = refl
bits_single const is = refl
bits_single unknown is = refl

-- what is known and no DOUBLE has one word
pub word_operand : (o : Operand) → is_unknown o ≡ false → is_double o ≡ false → is_word_operand o ≡ true
word_operand (of kind.Integer) known single = refl
word_operand (of kind.Logical) known single = refl
word_operand (of kind.Byte) known single = refl
word_operand (of kind.Double) known single = never (sym single)
word_operand const known single = refl
word_operand unknown known single = never (sym known)

-- ---- signs

minus_double : (o : Operand) → is_double (minus_operand o) ≡ is_double o
minus_double (of kind.Integer) = refl
minus_double (of kind.Logical) = refl
minus_double (of kind.Byte) = refl
minus_double (of kind.Double) = refl
minus_double const = refl
minus_double unknown = refl

minus_unknown : (o : Operand) → is_unknown (minus_operand o) ≡ is_unknown o
minus_unknown (of kind.Integer) = refl
minus_unknown (of kind.Logical) = refl
minus_unknown (of kind.Byte) = refl
minus_unknown (of kind.Double) = refl
minus_unknown const = refl
minus_unknown unknown = refl

-- what is so of the kind that an operator of one operand makes
by_sign : (P : Operand → Type 0) (op : ℕ) (o : Operand) → nat_lt op 3 ≡ true → ((op == positive) ≡ true → P o) → ((op == negative) ≡ true → P (minus_operand o))
    → ((op == complement) ≡ true → P (of kind.Logical)) → P (unary_operand op o)
by_sign P op o few plus minus none = by (op == positive) (op == negative) (op == complement) refl refl refl
  where
    by : (p m n : Bool) → (op == positive) ≡ p → (op == negative) ≡ m → (op == complement) ≡ n → P (if p then o else if m then minus_operand o else of kind.Logical)
    by true m n same other third = plus same
    by false true n same other third = minus other
    by false false true same other third = none third
    by false false false same other third =
        absurd (omega (arith, ltb-true op 3 few, eqb-false op 0 same, eqb-false op 1 other, eqb-false op 2 third))

pub sign_covered : (op : ℕ) → nat_lt op 3 ≡ true → is_covered_sign op ≡ true
sign_covered op few =
    by_sign (λ o. is_covered_sign op ≡ true) op const few
    (λ is. or_right (op == complement) ((op == positive) || (op == negative)) (or_left (op == positive) (op == negative) is))
    (λ is. or_right (op == complement) ((op == positive) || (op == negative)) (or_right (op == positive) (op == negative) is))
    (λ is. or_left (op == complement) ((op == positive) || (op == negative)) is)

pub sign_known : (op : ℕ) (o : Operand) → nat_lt op 3 ≡ true → is_unknown o ≡ false → is_unknown (unary_operand op o) ≡ false
sign_known op o few known = by_sign (λ p. is_unknown p ≡ false) op o few (λ is. known) (λ is. minus_unknown o ∙ known) (λ is. refl)

-- a result of one word has an operand of one
pub sign_word : (op : ℕ) (o : Operand) → nat_lt op 3 ≡ true → ((op == complement) ≡ true → is_double o ≡ false) → is_double (unary_operand op o) ≡ false
    → is_double o ≡ false
sign_word op o few bits =
    by_sign (λ p. is_double p ≡ false → is_double o ≡ false) op o few (λ is single. single) (λ is single. sym (minus_double o) ∙ single) (λ is single. bits is)

-- and one of two has one of two, and is no NOT
pub sign_wide : (op : ℕ) (o : Operand) → nat_lt op 3 ≡ true → is_double (unary_operand op o) ≡ true
    → (((op == positive) || (op == negative)) ≡ true) × (is_double o ≡ true)
sign_wide op o few =
    by_sign (λ p. is_double p ≡ true → (((op == positive) || (op == negative)) ≡ true) × (is_double o ≡ true)) op o few
    (λ is double. (or_left (op == positive) (op == negative) is, double))
    (λ is double. (or_right (op == positive) (op == negative) is, sym (minus_double o) ∙ double)) (λ is double. never double)

-- ---- two operands

integer_single : (o : Operand) → is_integer o ≡ true → is_double o ≡ false
integer_single (of kind.Double) is = never is
integer_single (of kind.Integer) is = refl
integer_single (of kind.Logical) is = refl
integer_single (of kind.Byte) is = refl
integer_single const is = refl
integer_single unknown is = refl

logical_single : (o : Operand) → is_logical o ≡ true → is_double o ≡ false
logical_single (of kind.Double) is = never is
logical_single (of kind.Integer) is = refl
logical_single (of kind.Logical) is = refl
logical_single (of kind.Byte) is = refl
logical_single const is = refl
logical_single unknown is = refl

constant_single : (o : Operand) → is_constant o ≡ true → is_double o ≡ false
constant_single (of k) is = never is
constant_single const is = refl
constant_single unknown is = refl

-- Operands that have an operation: both of one word, or both DOUBLEs.
pub data Classed (a b : Operand) (c : Class) : Type 0 where
  words : is_word_class c ≡ true → is_double a ≡ false → is_double b ≡ false → is_double (class_operand c) ≡ false → Classed a b c
  wide : c ≡ doubles → is_double a ≡ true → is_double b ≡ true → Classed a b c

pub classed : (a b : Operand) → is_mixed (class_of a b) ≡ false → Classed a b (class_of a b)
classed a b =
    by (is_integer a && is_integer b) (is_logical a && is_logical b) (is_logical a && is_constant b) (is_constant a && is_logical b) (is_double a && is_double b)
    refl refl refl refl refl
  where
    by : (t u v w x : Bool) → (is_integer a && is_integer b) ≡ t → (is_logical a && is_logical b) ≡ u → (is_logical a && is_constant b) ≡ v
        → (is_constant a && is_logical b) ≡ w → (is_double a && is_double b) ≡ x
        → is_mixed (if t then integers else if u then logicals else if v then logicals else if w then logicals else if x then doubles else mixed) ≡ false
        → Classed a b (if t then integers else if u then logicals else if v then logicals else if w then logicals else if x then doubles else mixed)
    by true u v w x t-is u-is v-is w-is x-is apart =
        let two = and_parts (is_integer a) (is_integer b) t-is in words refl (integer_single a two.0) (integer_single b two.1) refl
    by false true v w x t-is u-is v-is w-is x-is apart =
        let two = and_parts (is_logical a) (is_logical b) u-is in words refl (logical_single a two.0) (logical_single b two.1) refl
    by false false true w x t-is u-is v-is w-is x-is apart =
        let two = and_parts (is_logical a) (is_constant b) v-is in words refl (logical_single a two.0) (constant_single b two.1) refl
    by false false false true x t-is u-is v-is w-is x-is apart =
        let two = and_parts (is_constant a) (is_logical b) w-is in words refl (constant_single a two.0) (logical_single b two.1) refl
    by false false false false true t-is u-is v-is w-is x-is apart =
        let two = and_parts (is_double a) (is_double b) x-is in wide refl two.0 two.1
    by false false false false false t-is u-is v-is w-is x-is apart = never (sym apart)

-- what has bits and is known is one of three
by_bits : (P : Operand → Type 0) → P (of kind.Logical) → P (of kind.Byte) → P const → (o : Operand) → is_unknown o ≡ false → is_bits o ≡ true → P o
by_bits P logical byte constant (of kind.Integer) known bits = never bits
by_bits P logical byte constant (of kind.Double) known bits = never bits
by_bits P logical byte constant (of kind.Logical) known bits = logical
by_bits P logical byte constant (of kind.Byte) known bits = byte
by_bits P logical byte constant const known bits = constant
by_bits P logical byte constant unknown known bits = never (sym known)

-- two of them have an operation
pub bits_class : (a b : Operand) → is_unknown a ≡ false → is_unknown b ≡ false → is_bits a ≡ true → is_bits b ≡ true → is_word_class (class_of a b) ≡ true
bits_class a b first second bits more =
    by_bits (λ o. is_word_class (class_of o b) ≡ true) (by_bits (λ o. is_word_class (class_of (of kind.Logical) o) ≡ true) refl refl refl b second more)
    (by_bits (λ o. is_word_class (class_of (of kind.Byte) o) ≡ true) refl refl refl b second more)
    (by_bits (λ o. is_word_class (class_of const o) ≡ true) refl refl refl b second more) a first bits

-- ---- parameters

-- a value that fits a DOUBLE is one, and one that fits another kind is none
pub fits_wide : (o : Operand) → is_unknown o ≡ false → fits kind.Double o ≡ true → is_double o ≡ true
fits_wide (of k) known is = by (is_double (of k)) is
  where
    by : (b : Bool) → (b || false) ≡ true → b ≡ true
    by true is = refl
    by false is = is
fits_wide const known is = is
fits_wide unknown known is = never (sym known)
