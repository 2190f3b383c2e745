-- What stands around the list of a unit, and what its main body may use.
use Rattle.std.specs.Prelude.{Bool, true, false, []}
use Rattle.spl_tree.specs.DeclarationTrees.{Declarations}
use Rattle.spl_sound.specs.spl_meaning.Names.{Names, nothing_declared}
use Rattle.spl_sound.specs.spl_meaning.DeclarationRules.{Around}
use Rattle.spl_sound.specs.spl_meaning.ExpressionRules.{Scope}
use Rattle.spl_uses.specs.spl_found.OwnNames.{behind_declarations}

-- no names are outside
abbrev pub unit_around : Bool → Around
unit_around subprogram = record { names = nothing_declared; in_procedure = false; split = false; subprogram = subprogram }

-- the whole list
abbrev pub list_names : Declarations → Names
list_names ds = behind_declarations nothing_declared nothing_declared ds

-- the main body, where the list is this
abbrev pub main_with : Names → Scope
main_with names = record { names = names; is_local = λ x. true; results = []; split = false; is_main = true }
