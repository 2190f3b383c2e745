-- The code of a unit in a segment is complete, so a module is finished of it.
use Rattle.std.specs.Prelude.{ℕ, List}
use Rattle.spl_call_indexes.specs.spl_branch.declared.buffer.Code.{Code}
use Rattle.spl_call_indexes.specs.spl_branch.Codes.{IsComplete}
use Rattle.spl_call_indexes.specs.spl_scopes.Scopes.{Placed}
use Rattle.spl_call_indexes.specs.spl_module_code.Modules.{IsCodeOf}

abbrev pub CodesAreComplete : Type 0
CodesAreComplete = (p : Placed) (name : List ℕ) (g : ℕ) (c : Code) → IsCodeOf p name g c → IsComplete c
