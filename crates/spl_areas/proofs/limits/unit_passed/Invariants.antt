-- A loop over declarations.
use Rattle.std.proofs.Common.{◌≡◌, map, drop}
use Rattle.spl_tree.specs.DeclarationTrees.{declarations}
use Rattle.spl_tree.specs.Spells.{declaration}
use Rattle.spl_sound.specs.spl_meaning.Names.{find, nothing_declared}
use Rattle.spl_sorts.specs.Tables.{table_of}
use Rattle.spl_places.specs.Gathered.{passed_among}
use Rattle.spl_areas.proofs.limits.unit_passed.Given as goal

-- the first limit with the procedures from here on is that with all
abbrev pub invariant-loop-d : goal.invariant-loop-d
invariant-loop-d l =
    passed_among (find (table_of l.here)) (declarations (map declaration (drop l.d-index l.list))) l.first
    ≡ passed_among nothing_declared (declarations (map declaration l.list)) l.initial.first
