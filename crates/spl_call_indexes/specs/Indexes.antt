-- Calls in parts of code: what a call wants is among the names wanted behind its part, and the entry that it calls is one of so many.
use Rattle.std.specs.Prelude.{◌≡◌, ℕ, ◌<◌, ◌≤◌, true, List, length, Some}
use Rattle.std.specs.List.{list_all}
use Rattle.spl_module_code.specs.spl_meaning.Laws.{IsFront}
use Rattle.spl_module_code.specs.spl_branch.Pieces.{is_indexed}
use Rattle.spl_module_code.specs.spl_code.Parts.{Part, Wanted}
use Rattle.spl_module_code.specs.spl_code.Calls.{Scope}

-- whatever stands before a part: the names that were wanted are the first of those wanted behind it, and each call has its index
pub record IsIndexedPart (entries : ℕ) (part : Part) : Type 0 where
  pub grows : (l : ℕ) (ws : List Wanted) → length ws ≤ length (part l ws).wants
  pub keeps : (l : ℕ) (ws : List Wanted) → IsFront ws (part l ws).wants
  pub calls : (l : ℕ) (ws : List Wanted) → list_all (is_indexed (length (part l ws).wants) entries) (part l ws).pieces ≡ true

-- the entries that are called in a scope are among the first so many
pub record EntriesBelow (entries : ℕ) (c : Scope) : Type 0 where
  pub procedures : (x : List ℕ) (entry : ℕ) → c.procedures x ≡ Some entry → entry < entries
  pub subroutines : (x : List ℕ) (entry : ℕ) → c.subroutines x ≡ Some entry → entry < entries
