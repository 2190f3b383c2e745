-- The laws of this crate: DOUBLE constants, sums, relations, signs, transfers and stores, each over its parts as variables. The high word of a
-- DOUBLE is the lower one.
use Rattle.std.specs.Prelude.{◌≡◌, ℕ, ◌+◌, ◌≤◌, ◌<◌, ◌==◌, ◌||◌, Bool, true, false, List, Some}
use Rattle.spl_operators.specs.spl_tree.declared.expressions.Kind.{Kind}
use Rattle.spl_operators.specs.spl_tree.declared.expressions.Kind.TheVariants as kind
use Rattle.spl_operators.specs.spl_tree.declared.names_and_places.At.{At}
use Rattle.spl_operators.specs.spl_branch.declared.pieces.Piece.TheVariants.{Begin}
use Rattle.spl_operators.specs.spl_meaning.Kinds.{Operand, of, doubles, positive, negative, is_relation, relation_number}
use Rattle.spl_operators.specs.spl_meaning.Operations.{double_words, by_class, signed_done, transferred, kept}
use Rattle.spl_operators.specs.spl_meaning.Places.{Place}
use Rattle.spl_operators.specs.spl_meaning.References.{its_own, address_of, variable_located, led_located, index_or_zero, store}
use Rattle.spl_operators.specs.spl_meaning.States.{State, Outcome, done, then_go, stopping}
use Rattle.spl_operators.specs.spl_meaning.Values.{as_index}
use Rattle.spl_operators.specs.spl_code.Code as made
use Rattle.spl_operators.specs.spl_code.Code.{Aim, as_value}
use Rattle.spl_operators.specs.spl_code.Constants.{double_constant}
use Rattle.spl_operators.specs.spl_code.Operands.{mode_of}
use Rattle.spl_operators.specs.spl_code.Operators.{class_operator, sign_operator, transfer}
use Rattle.spl_operators.specs.spl_code.Parts.{Part, pieces, piece, nothing, ◌⨟◌}
use Rattle.spl_operators.specs.spl_code.Stores.{stored, cell_stored, element_stored}
use Rattle.spl_operators.specs.spl_follow.Simulating.{Surroundings, Simulates, Performs}
use Rattle.spl_operators.specs.spl_values.Reached.{is_sum, is_reached, IsWhole}
use Rattle.spl_operators.specs.Laws.{is_word_operand, is_single}

-- a double that is pushed, its high word and then its low one
abbrev pub DoubleConstantsSimulate : Type 0
DoubleConstantsSimulate = (z : Surroundings) (d k need c : ℕ) → c < 4294967296 → 2 ≤ need
    → Simulates z d as_value 2 k need (pieces (double_constant c)) (λ s. done (double_words c) s)

-- + and - of two DOUBLEs: the left operand waits for the right one, and both trap where the sum is out of range.
abbrev pub DoubleSumsSimulate : Type 0
DoubleSumsSimulate = (z : Surroundings) (d k need more op : ℕ) (a b : Part) (first other : State → Outcome (List ℕ)) → is_sum op ≡ true → IsWhole a
    → IsWhole b → Simulates z d as_value 2 k need a first → Simulates z d as_value 2 (k + 2) more b other → more + 2 ≤ need
    → Simulates z d as_value 2 k need (a ⨟ b ⨟ pieces (class_operator doubles op))
    (λ s. then_go (first s) (λ vs t. then_go (other t) (λ us u. by_class doubles op vs us u)))

-- A relation of two DOUBLEs: both are compared, and the test leads to its mark in the codes in which it does not hold. As a value it is all ones, or
-- zero.
abbrev pub DoubleRelationsSimulate : Type 0
DoubleRelationsSimulate = (z : Surroundings) (d k need more op : ℕ) (aim : Aim) (a b : Part) (first other : State → Outcome (List ℕ))
    → is_relation op ≡ true → IsWhole a → IsWhole b → Simulates z d as_value 2 k need a first
    → Simulates z d as_value 2 (k + 2) more b other → more + 2 ≤ need
    → Simulates z d aim 1 k need (made.compared (relation_number op) doubles aim (a ⨟ b))
    (λ s. then_go (first s) (λ vs t. then_go (other t) (λ us u. by_class doubles op vs us u)))

-- + and -: + leaves the value, and - traps where the result is out of range.
abbrev pub DoubleSignsSimulate : Type 0
DoubleSignsSimulate = (z : Surroundings) (d k need op : ℕ) (a : Part) (meaning : State → Outcome (List ℕ)) → ((op == positive) || (op == negative)) ≡ true
    → IsWhole a → Simulates z d as_value 2 k need a meaning
    → Simulates z d as_value 2 k need (a ⨟ pieces (sign_operator op (of kind.Double)))
    (λ s. then_go (meaning s) (λ vs t. signed_done op (of kind.Double) vs t))

-- a DOUBLE as a value of one word: its low word, of which a BYTE keeps the right eight bits
abbrev pub LowWordsSimulate : Type 0
LowWordsSimulate = (z : Surroundings) (d k need : ℕ) (to : Kind) (a : Part) (meaning : State → Outcome (List ℕ)) → is_single to ≡ true → IsWhole a
    → Simulates z d as_value 2 k need a meaning
    → Simulates z d as_value 1 k need (a ⨟ pieces (transfer to (of kind.Double))) (λ s. then_go (meaning s) (λ vs t. transferred to (of kind.Double) vs t))

-- A value of one word as a DOUBLE: INTEGERs and constants by their sign, LOGICALs and BYTEs by zero. There is a word more for the sign.
abbrev pub ExtensionsSimulate : Type 0
ExtensionsSimulate = (z : Surroundings) (d k need : ℕ) (from : Operand) (a : Part) (meaning : State → Outcome (List ℕ)) → is_word_operand from ≡ true
    → 2 ≤ need → IsWhole a → Simulates z d as_value 1 k need a meaning
    → Simulates z d as_value 2 k need (a ⨟ pieces (transfer kind.Double from)) (λ s. then_go (meaning s) (λ vs t. transferred kind.Double from vs t))

-- ---- stores

-- A DOUBLE is stored in a variable at a place that is reached, where both of its words are data words; else the run strays, and past STACK both
-- trap.
abbrev pub DoubleVariablesAssigned : Type 0
DoubleVariablesAssigned = (z : Surroundings) (d k need number : ℕ) (at : At) (place : Place) (a : Part) (value : State → Outcome (List ℕ))
    → is_reached z.setting k place ≡ true → 2 ≤ need → IsWhole a → Simulates z d as_value 2 k need a value
    → Performs z d k need (piece (Begin at) ⨟ (nothing ⨟ a ⨟ pieces (stored (its_own kind.Double) false k place)))
    (λ s. stopping number at s (λ u. then_go (value u) (λ vs v. store (variable_located kind.Double (address_of place v.now)) vs v)))

-- The same through the word of a name, without an index. In a split procedure what is led to is in the extra segment, past which both trap too.
abbrev pub DoubleCellsAssigned : Type 0
DoubleCellsAssigned = (z : Surroundings) (d k need number : ℕ) (at : At) (far : Bool) (place : Place) (a : Part) (value : State → Outcome (List ℕ))
    → is_reached z.setting k place ≡ true → far ≡ z.setting.split → 2 ≤ need → IsWhole a → Simulates z d as_value 2 k need a value
    → Performs z d k need (piece (Begin at) ⨟ (nothing ⨟ a ⨟ pieces (cell_stored kind.Double false (mode_of k place))))
    (λ s. stopping number at s (λ u. then_go (value u) (λ vs v.
    then_go (led_located far kind.Double (Some place) 0 v) (λ p x. store p (kept p.kind vs) x))))

-- And in an element: its index is made first, and waits below both words until the store has taken it to X.
abbrev pub DoubleElementsAssigned : Type 0
DoubleElementsAssigned = (z : Surroundings) (d k need more number : ℕ) (at : At) (far : Bool) (place : Place) (a b : Part)
    (index value : State → Outcome (List ℕ)) → is_reached z.setting k place ≡ true → far ≡ z.setting.split → 3 ≤ need → more + 1 ≤ need → IsWhole a
    → IsWhole b → Simulates z d as_value 1 k need a index → Simulates z d as_value 2 (k + 1) more b value
    → Performs z d k need (piece (Begin at) ⨟ (a ⨟ b ⨟ pieces (element_stored kind.Double false (mode_of k place))))
    (λ s. stopping number at s (λ u. then_go (then_go (index u) as_index) (λ i v. then_go (value v) (λ vs w.
    then_go (led_located far kind.Double (Some place) (index_or_zero i) w) (λ p x. store p (kept p.kind vs) x)))))
