-- The laws of this crate: comparisons of bytes, over the code of their operands.
use Rattle.std.specs.Prelude.{ℕ, ◌+◌, ◌≤◌, List}
use Rattle.spl_names.specs.spl_tree.declared.expressions.Kind.TheVariants as kind
use Rattle.spl_names.specs.spl_meaning.Elements.{with_one, compared_by, compared_text, relation_told}
use Rattle.spl_names.specs.spl_meaning.References.{Located}
use Rattle.spl_names.specs.spl_meaning.States.{State, Outcome, then_go}
use Rattle.spl_names.specs.spl_code.Code.{Aim, as_value, text_related, bytes_related}
use Rattle.spl_names.specs.spl_code.Parts.{Part, ◌⨟◌}
use Rattle.spl_scans.specs.spl_follow.Simulating.{Surroundings, Simulates}
use Rattle.spl_scans.specs.spl_values.Reached.{IsWhole}
use Rattle.spl_scans.specs.spl_moves.Moving.{IsReference}
use Rattle.spl_scans.specs.Laws.{AreBytes}

-- ---- by a count

-- such a comparison closes
abbrev pub ByteComparisonsAreWhole : Type 0
ByteComparisonsAreWhole = (op : ℕ) (aim : Aim) (a b c : Part) → IsWhole a → IsWhole b → IsWhole c → IsWhole (bytes_related op aim (a ⨟ b ⨟ c))

-- The bytes from two references on, upwards where the count is positive and downwards where it is negative: the first that differ decide. Each
-- pair takes a step of the run, and one of the machine at the word of the comparison. As a value it is all ones, or zero.
abbrev pub ByteComparisonsSimulate : Type 0
ByteComparisonsSimulate = (z : Surroundings) (d k need more most op : ℕ) (aim : Aim) (a b c : Part) (to from : State → Outcome Located)
    (count : State → Outcome (List ℕ)) → IsReference z d k need kind.Byte a to → IsReference z d (k + 1) more kind.Byte b from → IsWhole c
    → Simulates z d as_value 1 (k + 2) most c count → more + 1 ≤ need → most + 2 ≤ need → 3 ≤ need
    → Simulates z d aim 1 k need (bytes_related op aim (a ⨟ b ⨟ c))
    (λ s. then_go (to s) (λ p u. then_go (from u) (λ q v. then_go (count v) (λ vs w. with_one vs w (λ size x. relation_told op (compared_by size p q x))))))

-- ---- with a string

abbrev pub TextComparisonsAreWhole : Type 0
TextComparisonsAreWhole = (op : ℕ) (aim : Aim) (a : Part) (text : List ℕ) → IsWhole a → IsWhole (text_related op aim a text)

-- The bytes from a reference on with those of a string, which lies in the code.
abbrev pub TextComparisonsSimulate : Type 0
TextComparisonsSimulate = (z : Surroundings) (d k need op : ℕ) (aim : Aim) (a : Part) (to : State → Outcome Located) (text : List ℕ) → AreBytes text
    → IsReference z d k need kind.Byte a to → 3 ≤ need
    → Simulates z d aim 1 k need (text_related op aim a text) (λ s. then_go (to s) (λ p u. relation_told op (compared_text p text u)))
