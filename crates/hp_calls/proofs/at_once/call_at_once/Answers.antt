-- The second part leaves a transfer of the same row.
use Rattle.hp_calls.proofs.PhaseLaws.{transfers_on}
use Rattle.hp_calls.proofs.at_once.call_at_once.Goals as goal

pub returns-in-Went-clause-row : goal.returns-in-Went-clause-row
returns-in-Went-clause-row g c = λ segments here of.
    let went = rw c.in-Went.is at (c.in_ok-phase.ensures.row segments here) in
    transfers_on segments _ 4 _ _ c.in-Went.phase c.finish_if_held.result _ _ _
    (c.finish_if_held.ensures.same segments of) c.finish_if_held.ensures.waits went
