use Rattle.job_text.proofs.JobLaws.{jobs_break_nothing}
use Rattle.job_text.proofs.laws.jobs_break_nothing.Goals as goal

pub returns : goal.returns
returns c = jobs_break_nothing
