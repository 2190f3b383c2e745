-- The slots are those of the codes, and the numbers those of the segments.
use Rattle.std.proofs.Common.{map}
use Rattle.spl_tree.specs.Views.{letters}
use Rattle.spl_sound.specs.spl_meaning.Names.{find}
use Rattle.spl_sound.specs.Spelled.{source_of}
use Rattle.spl_unit_laws.specs.spl_places.NameMaps.{entries_of}
use Rattle.spl_unit_walks.proofs.UnitParts.{parts_picked}
use Rattle.spl_unit_walks.proofs.picks.picked_parts.Goals as goal

pub returns : goal.returns
returns c =
    parts_picked (source_of c.args.unit.now) (map letters c.args.names.now) c.args.parts.items c.in_ok-slots.slots.items (find (entries_of c.in_ok-numbers.numbers))
    c.args.modules.now.items c.pick.new.modules.items c.in_ok-slots.ensures c.in_ok-numbers.ensures c.in_ok-pick.ensures
