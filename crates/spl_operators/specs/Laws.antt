-- The laws of this crate: operators of one and of two single words, each over its operands as variables. The left operand waits for the right one.
use Rattle.std.specs.Prelude.{◌≡◌, ℕ, ◌+◌, ◌≤◌, ◌<◌, ◌==◌, ◌&&◌, ◌||◌, nat_le, Bool, true, false, List}
use Rattle.spl_conditions.specs.spl_tree.declared.expressions.Kind.{Kind}
use Rattle.spl_conditions.specs.spl_tree.declared.expressions.Kind.TheVariants as kind
use Rattle.spl_conditions.specs.spl_meaning.Kinds.{Class, Operand, of, const, unknown, lor_operator, xor_operator, times, modulo, positive, negative}
use Rattle.spl_conditions.specs.spl_meaning.Operations.{by_class, bits_done, signed_done, shift_done, field_done, transferred}
use Rattle.spl_conditions.specs.spl_meaning.States.{State, Outcome, then_go}
use Rattle.spl_conditions.specs.spl_code.Code.{as_value}
use Rattle.spl_conditions.specs.spl_code.Operators.{class_operator, bit_operator, sign_operator, shift_operator, field_operator, transfer}
use Rattle.spl_conditions.specs.spl_code.Parts.{Part, pieces, ◌⨟◌}
use Rattle.spl_conditions.specs.spl_follow.Simulating.{Surroundings, Simulates}
use Rattle.spl_conditions.specs.spl_values.Reached.{is_word_class, IsWhole}

-- ---- two operands

-- *: of INTEGERs, with its trap; of LOGICALs the low word of the product
abbrev pub ProductsSimulate : Type 0
ProductsSimulate = (z : Surroundings) (d k need more : ℕ) (class : Class) (a b : Part) (first other : State → Outcome (List ℕ)) → is_word_class class ≡ true
    → IsWhole a → IsWhole b → Simulates z d as_value 1 k need a first → Simulates z d as_value 1 (k + 1) more b other → more + 1 ≤ need
    → Simulates z d as_value 1 k need (a ⨟ b ⨟ pieces (class_operator class times))
    (λ s. then_go (first s) (λ vs t. then_go (other t) (λ us u. by_class class times vs us u)))

-- /
abbrev pub over : ℕ
over = 14

-- / and MOD
abbrev pub is_quotient : ℕ → Bool
is_quotient op = (op == over) || (op == modulo)

-- / and MOD: quotient or remainder stays. Both trap where the divisor is zero, and INTEGERs where the quotient is out of range. The dividend of
-- LOGICALs is made a double, for which there is a word more.
abbrev pub QuotientsSimulate : Type 0
QuotientsSimulate = (z : Surroundings) (d k need more op : ℕ) (class : Class) (a b : Part) (first other : State → Outcome (List ℕ)) → is_quotient op ≡ true
    → is_word_class class ≡ true → IsWhole a → IsWhole b → Simulates z d as_value 1 k need a first → Simulates z d as_value 1 (k + 1) more b other
    → more + 1 ≤ need → 3 ≤ need
    → Simulates z d as_value 1 k need (a ⨟ b ⨟ pieces (class_operator class op))
    (λ s. then_go (first s) (λ vs t. then_go (other t) (λ us u. by_class class op vs us u)))

-- LAND
abbrev pub land_operator : ℕ
land_operator = 4

-- LOR, XOR and LAND
abbrev pub is_bitwise : ℕ → Bool
is_bitwise op = (op == lor_operator) || (op == xor_operator) || (op == land_operator)

-- LOR, XOR and LAND of all bits of two words
abbrev pub BitsSimulate : Type 0
BitsSimulate = (z : Surroundings) (d k need more op : ℕ) (a b : Part) (first other : State → Outcome (List ℕ)) → is_bitwise op ≡ true → IsWhole a → IsWhole b
    → Simulates z d as_value 1 k need a first → Simulates z d as_value 1 (k + 1) more b other → more + 1 ≤ need
    → Simulates z d as_value 1 k need (a ⨟ b ⨟ pieces (bit_operator op))
    (λ s. then_go (first s) (λ vs t. then_go (other t) (λ us u. bits_done op vs us u)))

-- ---- one operand

-- what has one word: a value of a kind but DOUBLE, or a constant
abbrev pub is_word_operand : Operand → Bool
is_word_operand (of kind.Double) = false
is_word_operand (of k) = true
is_word_operand const = true
is_word_operand unknown = false

-- + and -: + leaves the value; - of INTEGERs and constants traps where the result is out of range; of LOGICALs and BYTEs it is the difference
-- from zero, for which there is a word more.
abbrev pub SignsSimulate : Type 0
SignsSimulate = (z : Surroundings) (d k need op : ℕ) (operand : Operand) (a : Part) (meaning : State → Outcome (List ℕ))
    → ((op == positive) || (op == negative)) ≡ true → is_word_operand operand ≡ true → 2 ≤ need → IsWhole a → Simulates z d as_value 1 k need a meaning
    → Simulates z d as_value 1 k need (a ⨟ pieces (sign_operator op operand)) (λ s. then_go (meaning s) (λ vs t. signed_done op operand vs t))

-- the six shifts, by their numbers, by less than 64 places
abbrev pub ShiftsSimulate : Type 0
ShiftsSimulate = (z : Surroundings) (d k need op count : ℕ) (a : Part) (meaning : State → Outcome (List ℕ)) → op < 6 → count < 64 → IsWhole a
    → Simulates z d as_value 1 k need a meaning
    → Simulates z d as_value 1 k need (a ⨟ pieces (shift_operator op count)) (λ s. then_go (meaning s) (λ vs t. shift_done op count vs t))

-- a field that lies within the word
abbrev pub FieldsSimulate : Type 0
FieldsSimulate = (z : Surroundings) (d k need start size : ℕ) (a : Part) (meaning : State → Outcome (List ℕ))
    → (nat_le 1 size && nat_le (start + size) 16) ≡ true → IsWhole a → Simulates z d as_value 1 k need a meaning
    → Simulates z d as_value 1 k need (a ⨟ pieces (field_operator start size)) (λ s. then_go (meaning s) (λ vs t. field_done start size vs t))

-- a kind whose values are single words
abbrev pub is_single : Kind → Bool
is_single kind.Double = false
is_single _ = true

-- a single word as one of another kind: a BYTE keeps the right eight bits
abbrev pub TransfersSimulate : Type 0
TransfersSimulate = (z : Surroundings) (d k need : ℕ) (to : Kind) (from : Operand) (a : Part) (meaning : State → Outcome (List ℕ)) → is_single to ≡ true
    → is_word_operand from ≡ true → IsWhole a → Simulates z d as_value 1 k need a meaning
    → Simulates z d as_value 1 k need (a ⨟ pieces (transfer to from)) (λ s. then_go (meaning s) (λ vs t. transferred to from vs t))
