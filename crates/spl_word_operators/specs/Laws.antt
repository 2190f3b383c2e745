-- The laws of this crate: operators over their operands as variables, whatever is wanted of them.
use Rattle.std.specs.Prelude.{◌≡◌, ℕ, ◌+◌, ◌≤◌, true, List}
use Rattle.spl_doubles.specs.spl_meaning.Kinds.{Operand, Class, class_of}
use Rattle.spl_doubles.specs.spl_meaning.Operations.{joined, signed_done}
use Rattle.spl_doubles.specs.spl_meaning.States.{State, Outcome, then_go}
use Rattle.spl_doubles.specs.spl_code.Parts.{Part, pieces, ◌⨟◌}
use Rattle.spl_doubles.specs.spl_code.Operators.{sign_operator}
use Rattle.spl_doubles.specs.spl_code.Code as made
use Rattle.spl_doubles.specs.spl_code.Code.{Aim, as_value, closing}
use Rattle.spl_doubles.specs.spl_follow.Simulating.{Surroundings, Simulates}
use Rattle.spl_doubles.specs.spl_values.Reached.{is_word_class, IsWhole}
use Rattle.spl_doubles.specs.spl_operators.Laws.{is_word_operand}
use Rattle.spl_word_operators.specs.Operators.{is_covered_operator, is_covered_sign}

-- behind whole operands of a class of one word the code of an operator is whole
abbrev pub OperatorsAreWhole : Type 0
OperatorsAreWhole = (o : ℕ) (class : Class) (aim : Aim) (operands : Part) → is_covered_operator o ≡ true → is_word_class class ≡ true → IsWhole operands
    → IsWhole (made.operated o class aim operands)

-- Behind two words of a class, of which the left one waits for the right one, it simulates the operation, with room for the three of a division.
abbrev pub OperatorsSimulate : Type 0
OperatorsSimulate = (z : Surroundings) (d k need more o : ℕ) (left right : Operand) (aim : Aim) (a b : Part) (first other : State → Outcome (List ℕ))
    → is_covered_operator o ≡ true → is_word_class (class_of left right) ≡ true → IsWhole a → IsWhole b → Simulates z d as_value 1 k need a first
    → Simulates z d as_value 1 (k + 1) more b other → more + 1 ≤ need → 3 ≤ need
    → Simulates z d aim 1 k need (made.operated o (class_of left right) aim (a ⨟ b))
    (λ s. then_go (first s) (λ vs t. then_go (other t) (λ us u. joined o left right vs us u)))

-- so is that of a sign, behind one word
abbrev pub SignsAreWhole : Type 0
SignsAreWhole = (o : ℕ) (x : Operand) (aim : Aim) (a : Part) → is_covered_sign o ≡ true → is_word_operand x ≡ true → IsWhole a
    → IsWhole (a ⨟ pieces (sign_operator o x) ⨟ closing aim)

abbrev pub SignsSimulate : Type 0
SignsSimulate = (z : Surroundings) (d k need o : ℕ) (x : Operand) (aim : Aim) (a : Part) (meaning : State → Outcome (List ℕ)) → is_covered_sign o ≡ true
    → is_word_operand x ≡ true → 2 ≤ need → IsWhole a → Simulates z d as_value 1 k need a meaning
    → Simulates z d aim 1 k need (a ⨟ pieces (sign_operator o x) ⨟ closing aim) (λ s. then_go (meaning s) (λ vs t. signed_done o x vs t))
