-- Call by call.
use Rattle.spl_calls.proofs.ProcedureLemmas.{call_whole, call_performs}
use Rattle.spl_calls.proofs.laws.covered_calls_perform.Goals as goal

pub returns-clause-whole : goal.returns-clause-whole
returns-clause-whole c = call_whole

pub returns-clause-performs : goal.returns-clause-performs
returns-clause-performs c = call_performs
