-- The names that modules want are few, and those of the system are intrinsics.
use Rattle.std.specs.Prelude.{◌≡◌, ◌≤◌, ℕ, true, List, length}
use Rattle.std.specs.List.{list_all}
use Rattle.spl_module_code.specs.spl_branch.declared.buffer.Code.{Code}
use Rattle.spl_module_code.specs.spl_scopes.Scopes.{Placed}
use Rattle.spl_module_code.specs.Modules.{module_part, IsCodeOf}
use Rattle.spl_module_code.specs.spl_code.Parts.{wants_of}
use Rattle.spl_wanted_names.specs.Wants.{names_gate, IsWanting}
use Rattle.spl_wanted_names.specs.Counts.{module_calls}

abbrev pub ModulesWantFewNames : Type 0
ModulesWantFewNames = (p : Placed) (g : ℕ) → IsWanting (module_calls p.unit g) (module_part p g)

-- and so where code is that of a unit in a segment
abbrev pub WantsAreKnown : Type 0
WantsAreKnown = (p : Placed) (name : List ℕ) (g : ℕ) (c : Code) → IsCodeOf p name g c
    → (length c.wants.items ≤ module_calls p.unit g) × (list_all names_gate (wants_of c.wants.items) ≡ true)
