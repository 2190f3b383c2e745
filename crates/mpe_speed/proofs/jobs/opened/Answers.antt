-- The one seat is within the limits.
use Rattle.std.proofs.Common.{◌≡◌, List, [], length, ap, sym, subst, arith}
use Rattle.hp_program.specs.declared.program.Program.{Program}
use Rattle.mpe_turns.specs.Opening.{AreSeats}
use Rattle.mpe_turns.proofs.OpenLemmas.{seats_more, seats_none}
use Rattle.mpe_speed.proofs.jobs.opened.Goals as goal

pub open-requires-clause-seats : goal.open-requires-clause-seats
open-requires-clause-seats c =
    let programs = c.in_ok-programs.programs.items in
    let one : length programs ≡ 1 = ap (λ (ps : List Program). length ps) c.in_ok-programs.ensures.items in
    subst (AreSeats programs) (sym c.in_ok-seats.ensures.items)
    (seats_more programs [] c.seat.result (seats_none programs) (omega arith)
    (omega (arith, one, c.seat.ensures.program)) (omega (arith, c.seat.ensures.stack)) (omega (arith, c.seat.ensures.extra)))
