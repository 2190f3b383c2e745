-- A loop over declarations.
use Rattle.std.proofs.Common.{map, drop}
use Rattle.spl_tree.specs.DeclarationTrees.{declarations}
use Rattle.spl_tree.specs.Spells.{declaration}
use Rattle.spl_unit_laws.specs.spl_body_scopes.Levels.{level_of}
use Rattle.spl_unit_walks.proofs.LevelWalks.{LevelWalk}
use Rattle.spl_unit_walks.proofs.levels.declare_all.Given as goal

-- these declarations are left
abbrev pub invariant-loop-item : goal.invariant-loop-item
invariant-loop-item l =
    LevelWalk (level_of l.fn.level) (declarations (map declaration l.list)) (declarations (map declaration (drop l.item-index l.list))) (level_of l.level)
