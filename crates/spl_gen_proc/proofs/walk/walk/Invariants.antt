-- A loop over the declarations of a unit.
use Rattle.std.proofs.Common.{map, drop}
use Rattle.spl_tree.specs.DeclarationTrees.{declarations}
use Rattle.spl_tree.specs.Spells.{declaration}
use Rattle.spl_unit_laws.specs.spl_body_scopes.Levels.{level_of}
use Rattle.spl_unit_walks.specs.Views.{fixed_of}
use Rattle.spl_unit_walks.proofs.Frees.{UnitWalk}
use Rattle.spl_gen_proc.proofs.walk.walk.Given as goal

-- the walk has come to here, and these declarations are left
abbrev pub invariant-loop-item : goal.invariant-loop-item
invariant-loop-item l =
    UnitWalk (fixed_of l.fixed) l.fixed.unit.now.subprogram (declarations (map declaration l.fixed.unit.now.items.items))
    (declarations (map declaration (drop l.item-index l.fixed.unit.now.items.items)))
    (record { level = level_of l.fn.level; at = l.fn.start; parts = l.fn.parts.items }) (record { level = level_of l.level; at = l.at; parts = l.parts.items })
