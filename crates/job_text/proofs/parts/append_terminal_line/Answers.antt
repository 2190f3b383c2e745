-- The last session has the line behind those that it had.
use Rattle.job_text.specs.States.{with_terminal_line}
use Rattle.job_text.specs.Views.{seat_value}
use Rattle.job_text.proofs.PartLemmas.{last_changed_if}
use Rattle.job_text.proofs.parts.append_terminal_line.Goals as goal

pub returns-in-Some : goal.returns-in-Some
returns-in-Some c =
    let h = c.in-Some.ensures.item in
    last_changed_if seat_value (with_terminal_line c.args.line.now) c.args.seats.now c.in-Some.seat.now c.append_typed.new.seat
    c.append_typed.result h.3.0 h.1 c.append_typed.ensures
