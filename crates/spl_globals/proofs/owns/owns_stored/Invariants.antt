-- A loop over declarations.
use Rattle.std.proofs.Common.{◌≡◌, map, drop}
use Rattle.spl_tree.specs.DeclarationTrees.{declarations}
use Rattle.spl_tree.specs.Spells.{declaration}
use Rattle.spl_sorts.specs.spl_meaning.Names.{find, nothing_declared}
use Rattle.spl_sorts.specs.Tables.{table_of}
use Rattle.spl_areas.specs.Gathered.{items_among}
use Rattle.spl_initials.specs.Memory.{memory_of}
use Rattle.spl_globals.specs.Stored.{owns_stored, behind_owns}
use Rattle.spl_globals.proofs.owns.owns_stored.Given as goal

-- what is stored with the procedures from here on is what is stored with all; and so it is with where the next start
abbrev pub invariant-loop-d : goal.invariant-loop-d
invariant-loop-d l = record {
  words :
      owns_stored l.pass (find (table_of l.here)) l.next.own l.next.own_arrays (declarations (map declaration (drop l.d-index l.list))) (memory_of l.words)
      ≡ owns_stored l.pass nothing_declared l.fn.at.own l.fn.at.own_arrays (declarations (map declaration l.list)) (memory_of l.initial.words);
  next :
      behind_owns l.next (items_among (find (table_of l.here)) (declarations (map declaration (drop l.d-index l.list))))
      ≡ behind_owns l.fn.at (items_among nothing_declared (declarations (map declaration l.list)));
}
