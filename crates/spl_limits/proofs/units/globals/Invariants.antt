-- A loop over declarations.
use Rattle.std.proofs.Common.{◌≡◌, map, drop}
use Rattle.spl_tree.specs.DeclarationTrees.{declarations}
use Rattle.spl_tree.specs.Spells.{declaration}
use Rattle.spl_sound.specs.spl_meaning.Names.{find, nothing_declared}
use Rattle.spl_sorts.specs.Tables.{table_of}
use Rattle.spl_areas.specs.spl_found.OwnNames.{behind_declarations}
use Rattle.spl_limits.specs.FirstPassed.{behind_globals}
use Rattle.spl_limits.proofs.units.globals.Given as goal

-- the first limit and the names with the declarations from here on are those with all
abbrev pub invariant-loop-d : goal.invariant-loop-d
invariant-loop-d l = record {
  first :
      behind_globals (find (table_of l.here)) (declarations (map declaration (drop l.d-index l.list))) l.first
      ≡ behind_globals (find (table_of l.initial.here)) (declarations (map declaration l.list)) l.initial.first;
  names :
      behind_declarations nothing_declared (find (table_of l.here)) (declarations (map declaration (drop l.d-index l.list)))
      ≡ behind_declarations nothing_declared (find (table_of l.initial.here)) (declarations (map declaration l.list));
}
