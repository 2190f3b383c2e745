-- A loop over the declarations of a unit.
use Rattle.std.proofs.Common.{◌≡◌, ◌++◌, map, drop}
use Rattle.spl_tree.specs.DeclarationTrees.{declarations}
use Rattle.spl_tree.specs.Spells.{declaration}
use Rattle.spl_tree.specs.Views.{letters}
use Rattle.spl_module_code.specs.spl_sound.Spelled.{source_of}
use Rattle.spl_module_code.specs.Modules.{uses_among}
use Rattle.spl_unit_codes.proofs.picking.use_all.Given as goal

-- the names so far, and those of the declarations from here on, are the old ones and those of all
abbrev pub invariant-loop-item : goal.invariant-loop-item
invariant-loop-item l =
    map letters l.names.items ++ uses_among (source_of l.unit) (declarations (map declaration (drop l.item-index l.item-items)))
    ≡ map letters l.fn.names.items ++ uses_among (source_of l.unit) (declarations (map declaration l.item-items))
