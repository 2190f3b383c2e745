-- Whom a body calls whose module wants no more than passes a test: procedures of the module, and of others those that pass.
use Rattle.std.specs.Prelude.{◌≡◌, ◌&&◌, ◌||◌, ℕ, Bool, true, false, List, is_some}
use Rattle.std.specs.List.{list_all}
use Rattle.spl_covered.specs.spl_meaning.Values.{Who, procedure, subroutine}
use Rattle.spl_covered.specs.spl_code.Calls.{Scope}
use Rattle.spl_covered.specs.spl_code.Parts.{Part, Wanted}

-- a procedure that is an entry of the module, or a name that passes
abbrev pub is_linked : (Wanted → Bool) → Scope → Who → Bool
is_linked t c (procedure x) = is_some (c.procedures x) || t (record { name = x; gate = false })
is_linked t c (subroutine x) = true

-- of those who may be called, those that are linked
abbrev pub linked_of : (Wanted → Bool) → Scope → (Who → Bool) → Who → Bool
linked_of t c may who = may who && is_linked t c who

-- A part of code tells something, where all that is wanted behind it passes; and then all that is wanted before it does.
pub record Tells (t : Wanted → Bool) (P : Type 0) (part : Part) : Type 0 where
  pub back : (l : ℕ) (ws : List Wanted) → list_all t (part l ws).wants ≡ true → list_all t ws ≡ true
  pub tells : (l : ℕ) (ws : List Wanted) → list_all t (part l ws).wants ≡ true → P
