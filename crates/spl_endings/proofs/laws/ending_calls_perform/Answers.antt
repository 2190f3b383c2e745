-- By what the gate does, and what the run does there.
use Rattle.spl_endings.proofs.CallLemmas.{terminate_performs, quit_performs}
use Rattle.spl_endings.proofs.laws.ending_calls_perform.Goals as goal

pub returns-clause-terminate : goal.returns-clause-terminate
returns-clause-terminate c = terminate_performs

pub returns-clause-quit : goal.returns-clause-quit
returns-clause-quit c = quit_performs
