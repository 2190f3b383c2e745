-- By what the callee does, and what the run does around it.
use Rattle.spl_links.proofs.CallLemmas.{calls_whole, calls_give, calls_perform}
use Rattle.spl_links.proofs.laws.calls_simulate.Goals as goal

pub returns-clause-whole : goal.returns-clause-whole
returns-clause-whole c = calls_whole

pub returns-clause-simulates : goal.returns-clause-simulates
returns-clause-simulates c = calls_give

pub returns-clause-performs : goal.returns-clause-performs
returns-clause-performs c = calls_perform
