-- What was read is what the text is.
use Rattle.job_text.proofs.AnswerLemmas.{answered_ok, answered_fault, answered_jobs, answered_faults}
use Rattle.job_text.proofs.reader.read_job.Goals as goal

pub returns-clause-ok : goal.returns-clause-ok
returns-clause-ok c = answered_ok c.args.bytes.now c.args.prep c.read_text.result c.read_text.ensures

pub returns-clause-fault : goal.returns-clause-fault
returns-clause-fault c = answered_fault c.args.bytes.now c.args.prep c.read_text.result c.read_text.ensures

pub returns-clause-jobs : goal.returns-clause-jobs
returns-clause-jobs c = λ job is. answered_jobs c.args.bytes.now c.args.prep c.read_text.result job c.read_text.ensures is

pub returns-clause-faults : goal.returns-clause-faults
returns-clause-faults c = λ line rule b. answered_faults c.args.bytes.now c.args.prep c.read_text.result line rule c.read_text.ensures b
