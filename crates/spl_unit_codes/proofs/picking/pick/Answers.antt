-- Name by name.
use Rattle.std.proofs.Common.{map}
use Rattle.spl_tree.specs.Views.{letters}
use Rattle.spl_module_code.specs.spl_meaning.Names.{find}
use Rattle.spl_module_code.specs.spl_places.NameMaps.{entries_of}
use Rattle.spl_unit_codes.proofs.Picks.{picked_first, picked_more, picked_all}
use Rattle.spl_unit_codes.proofs.picking.pick.Goals as goal

pub loop-name-init : goal.loop-name-init
loop-name-init c = picked_first (find (entries_of c.args.numbers.now)) c.args.slots.items c.args.names.now c.args.modules.now.items

pub loop-name-preserved : goal.loop-name-preserved
loop-name-preserved c =
    picked_more (find (entries_of c.args.numbers.now)) c.args.slots.items c.loop-name.slots.items c.take.new.slots.items (map letters c.args.names.now)
    c.args.modules.now.items c.loop-name.modules.items c.take.new.modules.items c.args.names.now c.loop-name.name-index c.name-item.result c.find.result
    c.loop-name-test.true c.name-item.is c.find.ensures c.in_ok-take.ensures c.loop-name.invariant

pub returns : goal.returns
returns c =
    picked_all (find (entries_of c.args.numbers.now)) c.args.slots.items c.loop-name.slots.items (map letters c.args.names.now)
    c.args.modules.now.items c.loop-name.modules.items c.args.names.now c.loop-name.name-index c.loop-name-test.false c.loop-name.invariant
