-- The last program has one unit more.
use Rattle.job_text.specs.States.{with_unit}
use Rattle.job_text.specs.Views.{text_value}
use Rattle.job_text.proofs.PartLemmas.{last_changed, one_unit_more}
use Rattle.job_text.proofs.parts.begin_unit.Goals as goal

pub returns-in_ok-push-in-Some : goal.returns-in_ok-push-in-Some
returns-in_ok-push-in-Some c =
    let h = c.in-Some.ensures.item in
    last_changed text_value with_unit c.args.programs.now c.in-Some.program.now (record { name = c.in-Some.program.now.name; units = c.push.new.self }) h.3.0 h.1
    (one_unit_more c.in-Some.program.now c.push.new.self _ c.in_ok-push-in-Some.ensures.items c.new.ensures.items)
