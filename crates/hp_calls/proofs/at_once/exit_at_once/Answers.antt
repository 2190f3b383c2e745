-- The second part leaves a transfer of the same row.
use Rattle.hp_calls.proofs.PhaseLaws.{transfers_on}
use Rattle.hp_calls.proofs.at_once.exit_at_once.Goals as goal

pub returns-clause-row : goal.returns-clause-row
returns-clause-row g c = λ program count of.
    transfers_on program _ 0 _ _ c.in_ok-phase.phase c.finish_if_held.result _ _ _
    (c.finish_if_held.ensures.same program of) c.finish_if_held.ensures.waits (c.in_ok-phase.ensures.row program count)
