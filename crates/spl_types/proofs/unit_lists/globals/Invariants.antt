use Rattle.std.proofs.Common.{◌≡◌, map}
use Rattle.spl_tree.specs.DeclarationTrees.{declarations}
use Rattle.spl_tree.specs.Spells.{declaration}
use Rattle.spl_sound.specs.spl_meaning.Names.{find, nothing_declared}
use Rattle.spl_sorts.specs.Tables.{table_of}
use Rattle.spl_lists.specs.Arounds.{around_of}
use Rattle.spl_uses.specs.spl_found.OwnNames.{behind_declarations}
use Rattle.spl_uses.specs.spl_found.FoundUnits.{walked_list}
use Rattle.spl_types.specs.WaitingNames.{waits_of}
use Rattle.spl_types.specs.OtherUnits.{agrees_of}
use Rattle.spl_types.proofs.GlobalWalks.{walk_left, names_left}
use Rattle.spl_types.proofs.unit_lists.globals.Given as goal

-- what is found and declared from here on is what is in all
abbrev pub invariant-loop-item : goal.invariant-loop-item
invariant-loop-item l =
    (walk_left (around_of l.around) (agrees_of l.others) (waits_of l.waiting) (find (table_of l.here)) l.items l.item-index l.report
    ≡ walked_list (around_of l.around) (agrees_of l.others) (waits_of l.initial.waiting) (find (table_of l.initial.here)) (declarations (map declaration l.items)) l.initial.report)
    × (names_left (find (table_of l.here)) l.items l.item-index
    ≡ behind_declarations nothing_declared (find (table_of l.initial.here)) (declarations (map declaration l.items)))
