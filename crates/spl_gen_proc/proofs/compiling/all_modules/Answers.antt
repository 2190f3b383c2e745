-- One unit more.
use Rattle.std.proofs.Common.{map}
use Rattle.spl_tree.specs.Views.{letters}
use Rattle.spl_sound.specs.Spelled.{source_of}
use Rattle.spl_unit_walks.proofs.UnitsWalks.{units_first, units_next, unit_once, unit_begin, units_done}
use Rattle.spl_gen_proc.proofs.compiling.all_modules.Goals as goal

pub loop-unit-init : goal.loop-unit-init
loop-unit-init c = units_first c.args.rooms.now (map letters c.args.names.now) c.args.units.now c.args.start c.new-modules.result.items c.new-modules.ensures.items c.requires.once c.requires.begin

pub unit_modules-requires-clause-begins : goal.unit_modules-requires-clause-begins
unit_modules-requires-clause-begins c =
    unit_begin c.args.rooms.now (map letters c.args.names.now) (map source_of c.args.units.now) c.args.units.now c.loop-unit.unit-index c.unit-item.result
    c.args.start c.loop-unit.at c.loop-unit.modules.items c.loop-unit.invariant c.loop-unit-test.true c.unit-item.is

pub unit_modules-requires-clause-once : goal.unit_modules-requires-clause-once
unit_modules-requires-clause-once c =
    unit_once c.args.rooms.now (map letters c.args.names.now) (map source_of c.args.units.now) c.args.units.now c.loop-unit.unit-index c.unit-item.result
    c.args.start c.loop-unit.at c.loop-unit.modules.items c.loop-unit.invariant c.loop-unit-test.true c.unit-item.is

pub loop-unit-preserved : goal.loop-unit-preserved
loop-unit-preserved c =
    units_next c.args.rooms.now (map letters c.args.names.now) (map source_of c.args.units.now) c.args.units.now c.loop-unit.unit-index c.unit-item.result
    c.args.start c.loop-unit.at c.in_ok-at.at c.loop-unit.modules.items c.unit_modules.new.modules.items c.loop-unit.invariant c.loop-unit-test.true c.unit-item.is
    c.in_ok-at.ensures

pub returns : goal.returns
returns c =
    units_done c.args.rooms.now (map letters c.args.names.now) (map source_of c.args.units.now) c.args.units.now c.loop-unit.unit-index
    c.args.start c.loop-unit.at c.loop-unit.modules.items c.loop-unit.invariant c.loop-unit-test.false
