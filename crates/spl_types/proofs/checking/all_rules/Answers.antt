use Rattle.std.proofs.Common.{rules, ◌<◌, length, sym, ◌∙◌}
use Rattle.spl_types.proofs.CheckLaws.{units_step}
use Rattle.spl_types.proofs.checking.all_rules.Goals as goal

-- a unit more
pub loop-i-preserved : goal.loop-i-preserved
loop-i-preserved c =
    let units = c.args.units.now in
    let inside : c.loop-i.i < length units = search rules in
    sym (units_step c.args.all.now units c.loop-i.i c.index-units-i.result c.others-others.result c.loop-i.report c.unit_rules.new.report
    c.requires.bodies inside (search rules) c.others-others.ensures.before c.others-others.ensures.behind c.in_ok-unit_rules.ensures)
    ∙ c.loop-i.invariant
