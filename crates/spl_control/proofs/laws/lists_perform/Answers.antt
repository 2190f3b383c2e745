-- Where the first statement's code ends, the others' begins.
use Rattle.spl_control.proofs.SequenceLemmas.{idle_performs, nothing_performs, lists_perform}
use Rattle.spl_control.proofs.laws.lists_perform.Goals as goal

pub returns-clause-idle : goal.returns-clause-idle
returns-clause-idle c = idle_performs

pub returns-clause-none : goal.returns-clause-none
returns-clause-none c = nothing_performs

pub returns-clause-more : goal.returns-clause-more
returns-clause-more c = lists_perform
