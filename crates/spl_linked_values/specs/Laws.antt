-- The law of this crate.
use Rattle.std.specs.Prelude.{◌≡◌, ℕ, Bool, true}
use Rattle.spl_covered.specs.spl_tree.Trees.{Tree}
use Rattle.spl_covered.specs.spl_meaning.References.{Setting}
use Rattle.spl_covered.specs.spl_meaning.Values.{Who}
use Rattle.spl_covered.specs.spl_code.Calls.{Scope}
use Rattle.spl_covered.specs.spl_code.Code.{Aim, code, reference}
use Rattle.spl_covered.specs.spl_code.Parts.{Wanted}
use Rattle.spl_covered.specs.Covered.{is_covered, is_wide, is_covered_reference}
use Rattle.spl_linked_values.specs.Linked.{linked_of, Tells}

-- Values and references that are covered call none but procedures that are entries of their module, or whose names it wants: where all that their code wants
-- passes a test, they are covered with calls of those alone that are linked.
pub record CoveredValuesAreLinked : Type 0 where
  pub words : (t : Wanted → Bool) (may : Who → Bool) (c : Scope) (st : Setting) (e : Tree) (aim : Aim) (k : ℕ) → is_covered may c st e k ≡ true
      → Tells t (is_covered (linked_of t c may) c st e k ≡ true) (code c e aim k)
  pub doubles : (t : Wanted → Bool) (may : Who → Bool) (c : Scope) (st : Setting) (e : Tree) (aim : Aim) (k : ℕ) → is_wide may c st e k ≡ true
      → Tells t (is_wide (linked_of t c may) c st e k ≡ true) (code c e aim k)
  pub references : (t : Wanted → Bool) (may : Who → Bool) (c : Scope) (st : Setting) (e : Tree) (k : ℕ) → is_covered_reference may c st e k ≡ true
      → Tells t (is_covered_reference (linked_of t c may) c st e k ≡ true) (reference c e k)
