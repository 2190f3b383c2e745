-- A loop over the names of segments.
use Rattle.std.proofs.Common.{map, drop}
use Rattle.spl_tree.specs.Views.{letters}
use Rattle.spl_module_code.specs.spl_meaning.Names.{find}
use Rattle.spl_module_code.specs.spl_places.NameMaps.{entries_of}
use Rattle.spl_unit_codes.proofs.Picks.{PickedSoFar}
use Rattle.spl_unit_codes.proofs.picking.pick.Given as goal

-- the modules so far were picked along the names before this one
abbrev pub invariant-loop-name : goal.invariant-loop-name
invariant-loop-name l =
    PickedSoFar (find (entries_of l.numbers)) l.fn.slots.items l.slots.items (map letters l.names) (map letters (drop l.name-index l.names))
    l.fn.modules.items l.modules.items
