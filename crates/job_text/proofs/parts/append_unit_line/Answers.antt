-- The last program has the line in its last unit.
use Rattle.job_text.specs.States.{with_unit_line}
use Rattle.job_text.specs.Views.{text_value}
use Rattle.job_text.proofs.PartLemmas.{last_changed_if}
use Rattle.job_text.proofs.parts.append_unit_line.Goals as goal

pub returns-in-Some : goal.returns-in-Some
returns-in-Some c =
    let h = c.in-Some.ensures.item in
    last_changed_if text_value (with_unit_line c.args.line.now) c.args.programs.now c.in-Some.program.now c.append_to_program.new.program
    c.append_to_program.result h.3.0 h.1 c.append_to_program.ensures
