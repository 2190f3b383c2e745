-- A loop over the declarations of a body.
use Rattle.std.proofs.Common.{◌≡◌, map, drop, length}
use Rattle.spl_tree.specs.DeclarationTrees.{declarations}
use Rattle.spl_tree.specs.Spells.{declaration}
use Rattle.spl_sound.specs.spl_meaning.Names.{find}
use Rattle.spl_places.specs.NameMaps.{entries_of, behind_table}
use Rattle.spl_scopes.specs.Entries.{main, inner_entries}
use Rattle.spl_modules.specs.Entered.{entered_of, behind_entries, inner_indexes}
use Rattle.spl_modules.proofs.walk.subroutines.Given as goal

-- what is entered and named so far, and what those from here on add, is all
abbrev pub invariant-loop-d : goal.invariant-loop-d
invariant-loop-d l = record {
  entered : behind_entries (entered_of l.modules.items) (inner_entries l.segment main (declarations (map declaration (drop l.d-index l.list))))
      ≡ behind_entries (entered_of l.fn.modules.items) (inner_entries l.segment main (declarations (map declaration l.list)));
  names : behind_table (find (entries_of l.own)) (inner_indexes (length ((entered_of l.modules.items).made l.segment)) (declarations (map declaration (drop l.d-index l.list))))
      ≡ find (inner_indexes (length ((entered_of l.fn.modules.items).made l.segment)) (declarations (map declaration l.list)));
}
