-- The last program is the last text, and has as many units.
use Rattle.std.proofs.Common.{◌≡◌, length, rules, ◌∙◌, sym}
use Rattle.job_text.proofs.PartLemmas.{last_units_are}
use Rattle.job_text.proofs.rules.last_units.Goals as goal

pub returns-in-Some : goal.returns-in-Some
returns-in-Some c =
    let h = c.in-Some.ensures.item in
    let count : c.len.result ≡ length c.in-Some.program.now.units.items = search rules in
    count ∙ sym (last_units_are c.args.programs.now c.in-Some.program.now h.3.0 h.1)
