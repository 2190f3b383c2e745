-- The law of this crate.
use Rattle.std.specs.Prelude.{◌≡◌, ℕ, Bool, true, List, Option}
use Rattle.spl_linked_values.specs.spl_covered.spl_tree.declared.expressions.Kind.{Kind}
use Rattle.spl_linked_values.specs.spl_covered.spl_tree.StatementTrees.{Statements}
use Rattle.spl_linked_values.specs.spl_covered.spl_meaning.Places.{Place}
use Rattle.spl_linked_values.specs.spl_covered.spl_meaning.References.{Setting}
use Rattle.spl_linked_values.specs.spl_covered.spl_meaning.Values.{Who}
use Rattle.spl_linked_values.specs.spl_covered.spl_code.Parts.{Wanted}
use Rattle.spl_linked_values.specs.Linked.{linked_of, Tells}
use Rattle.spl_safe_parts.specs.spl_safe_effects.spl_stores.spl_statement_code.Landings.{Context}
use Rattle.spl_safe_parts.specs.spl_safe_effects.spl_stores.spl_statement_code.Statements.{listed}
use Rattle.spl_safe_parts.specs.spl_safe_effects.spl_stores.Covered.{are_covered}

-- Statements that are covered call none but procedures that are entries of their module, or whose names it wants: where all that their code wants passes a
-- test, they are covered with calls of those alone that are linked.
abbrev pub CoveredListsAreLinked : Type 0
CoveredListsAreLinked = (t : Wanted → Bool) (may : Who → Bool) (returns : Bool) (c : Context) (results : List ℕ → Option (Kind × Place)) (st : Setting)
    (ss : Statements) (k : ℕ) → are_covered may returns c.scope results st ss k ≡ true
    → Tells t (are_covered (linked_of t c.scope may) returns c.scope results st ss k ≡ true) (listed c ss k)
