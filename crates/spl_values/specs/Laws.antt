-- The laws of this crate: constants, simple variables and sums, each over its parts as variables.
use Rattle.std.specs.Prelude.{◌≡◌, ℕ, ◌+◌, ◌≤◌, ◌<◌, true, false, List, [], ◌∷◌}
use Rattle.hp_yields.specs.spl_tree.declared.expressions.Kind.{Kind}
use Rattle.hp_yields.specs.spl_meaning.Kinds.{Class}
use Rattle.hp_yields.specs.spl_meaning.Operations.{by_class}
use Rattle.hp_yields.specs.spl_meaning.Places.{Place}
use Rattle.hp_yields.specs.spl_meaning.References.{its_own, address_of, variable_located, read}
use Rattle.hp_yields.specs.spl_meaning.States.{State, Outcome, done, then_go}
use Rattle.hp_yields.specs.spl_code.Parts.{Part, pieces, ◌⨟◌}
use Rattle.hp_yields.specs.spl_code.Constants.{constant}
use Rattle.hp_yields.specs.spl_code.Operators.{class_operator}
use Rattle.hp_yields.specs.spl_code.Operands.{mode_of, loaded}
use Rattle.hp_yields.specs.spl_code.Code.{as_value}
use Rattle.hp_yields.specs.spl_follow.Simulating.{Surroundings, Simulates}
use Rattle.spl_values.specs.Reached.{is_word_kind, is_seen, is_sum, is_word_class, IsWhole}

-- a word that is pushed, by one instruction or by three
abbrev pub ConstantsSimulate : Type 0
ConstantsSimulate = (z : Surroundings) (d k need c : ℕ) → c < 65536 → 1 ≤ need
    → Simulates z d as_value 1 k need (pieces (constant c)) (λ s. done (c ∷ []) s)

-- A variable of one word at a place that is seen. Where that is no data word the run strays, and past STACK both trap.
abbrev pub VariablesSimulate : Type 0
VariablesSimulate = (z : Surroundings) (d k need : ℕ) (t : Kind) (place : Place) → is_word_kind t ≡ true → is_seen z.setting k place ≡ true → 1 ≤ need
    → Simulates z d as_value 1 k need (pieces (loaded (its_own t) false (mode_of k place)))
    (λ s. read (variable_located t (address_of place s.now)) s)

-- + and - of two single words of one class: the left operand waits for the right one, whose code keeps the names wanted, and INTEGERs trap
-- where the sum is out of range.
abbrev pub SumsSimulate : Type 0
SumsSimulate = (z : Surroundings) (d k need more op : ℕ) (class : Class) (a b : Part) (first other : State → Outcome (List ℕ)) → is_sum op ≡ true
    → is_word_class class ≡ true → IsWhole a → IsWhole b → Simulates z d as_value 1 k need a first → Simulates z d as_value 1 (k + 1) more b other
    → more + 1 ≤ need
    → Simulates z d as_value 1 k need (a ⨟ b ⨟ pieces (class_operator class op))
    (λ s. then_go (first s) (λ vs t. then_go (other t) (λ us u. by_class class op vs us u)))
