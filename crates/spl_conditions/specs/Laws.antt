-- The laws of this crate: values as tests, relations, NOT, AND and OR, each over its parts as variables. A test goes on where it holds, and
-- leads to its mark where it does not.
use Rattle.std.specs.Prelude.{◌≡◌, ℕ, ◌+◌, ◌≤◌, true, List}
use Rattle.spl_values.specs.spl_meaning.Kinds.{Class, Operand, complement, is_connective, is_relation, relation_number}
use Rattle.spl_values.specs.spl_meaning.Operations.{by_class, signed_done}
use Rattle.spl_values.specs.spl_meaning.States.{State, Outcome, then_go}
use Rattle.spl_values.specs.spl_meaning.Values as meant
use Rattle.spl_values.specs.spl_code.Parts.{Part, pieces, ◌⨟◌}
use Rattle.spl_values.specs.spl_code.Operators.{sign_operator}
use Rattle.spl_values.specs.spl_code.Code as made
use Rattle.spl_values.specs.spl_code.Code.{Aim, as_value, as_test, closing}
use Rattle.spl_values.specs.spl_follow.Simulating.{Surroundings, Simulates}
use Rattle.spl_values.specs.Reached.{is_word_class, IsWhole}

-- a value that is wanted stays as it is; one that is tested is deleted, and its lowest bit decides
abbrev pub ClosedValuesSimulate : Type 0
ClosedValuesSimulate = (z : Surroundings) (d k need : ℕ) (aim : Aim) (a : Part) (meaning : State → Outcome (List ℕ)) → IsWhole a
    → Simulates z d as_value 1 k need a meaning → Simulates z d aim 1 k need (a ⨟ closing aim) meaning

-- A relation of two single words of one class: the left operand waits for the right one, both are compared, and the test leads to its mark in
-- the codes in which the relation does not hold. As a value it is all ones, or zero.
abbrev pub RelationsSimulate : Type 0
RelationsSimulate = (z : Surroundings) (d k need more op : ℕ) (class : Class) (aim : Aim) (a b : Part) (first other : State → Outcome (List ℕ))
    → is_relation op ≡ true → is_word_class class ≡ true → IsWhole a → IsWhole b → Simulates z d as_value 1 k need a first
    → Simulates z d as_value 1 (k + 1) more b other → more + 1 ≤ need
    → Simulates z d aim 1 k need (made.compared (relation_number op) class aim (a ⨟ b))
    (λ s. then_go (first s) (λ vs t. then_go (other t) (λ us u. by_class class op vs us u)))

-- NOT of a single word turns each of its bits
abbrev pub ComplementsSimulate : Type 0
ComplementsSimulate = (z : Surroundings) (d k need : ℕ) (operand : Operand) (a : Part) (meaning : State → Outcome (List ℕ)) → IsWhole a
    → Simulates z d as_value 1 k need a meaning
    → Simulates z d as_value 1 k need (a ⨟ pieces (sign_operator complement operand)) (λ s. then_go (meaning s) (λ vs t. signed_done complement operand vs t))

-- AND and OR of two tests, each with any mark: the right side is not worked out where the left one decides.
abbrev pub ConnectivesSimulate : Type 0
ConnectivesSimulate = (z : Surroundings) (d k need op : ℕ) (aim : Aim) (left right : Aim → Part) (first other : State → Outcome (List ℕ))
    → is_connective op ≡ true → 1 ≤ need → ((fail : ℕ) → IsWhole (left (as_test fail))) → ((fail : ℕ) → IsWhole (right (as_test fail)))
    → ((fail : ℕ) → Simulates z d (as_test fail) 1 k need (left (as_test fail)) first)
    → ((fail : ℕ) → Simulates z d (as_test fail) 1 k need (right (as_test fail)) other)
    → Simulates z d aim 1 k need (made.connected op aim left right) (λ s. then_go (first s) (λ vs t. meant.connected op vs t other))
