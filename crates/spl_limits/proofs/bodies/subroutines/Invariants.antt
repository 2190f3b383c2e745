-- A loop over declarations.
use Rattle.std.proofs.Common.{◌≡◌, map, drop}
use Rattle.spl_tree.specs.DeclarationTrees.{declarations}
use Rattle.spl_tree.specs.Spells.{declaration}
use Rattle.spl_sound.specs.spl_meaning.Names.{find}
use Rattle.spl_sorts.specs.Tables.{table_of}
use Rattle.spl_areas.specs.spl_found.OwnNames.{over}
use Rattle.spl_limits.specs.FirstPassed.{behind_subroutines}
use Rattle.spl_limits.proofs.bodies.subroutines.Given as goal

-- the first limit with the subroutines from here on is that with all
abbrev pub invariant-loop-d : goal.invariant-loop-d
invariant-loop-d l =
    let around = over (find (table_of l.own)) (find (table_of l.outer)) in
    behind_subroutines around (declarations (map declaration (drop l.d-index l.list))) l.first
    ≡ behind_subroutines around (declarations (map declaration l.list)) l.initial.first
