use Rattle.std.proofs.Common.{rules, ◌<◌, length}
use Rattle.spl_types.proofs.CheckLaws.{bodies_step}
use Rattle.spl_types.proofs.checking.all_bodies.Goals as goal

-- the procedures of a unit more
pub loop-unit-preserved : goal.loop-unit-preserved
loop-unit-preserved c =
    let units = c.args.units.now in
    let inside : c.loop-unit.unit-index < length units = search rules in
    bodies_step units c.loop-unit.unit-index c.unit-item.result c.loop-unit.all.items c.push.new.self.items c.in_ok-bodies.bodies inside (search rules)
    c.in_ok-push.ensures.items c.loop-unit.invariant c.in_ok-bodies.ensures
