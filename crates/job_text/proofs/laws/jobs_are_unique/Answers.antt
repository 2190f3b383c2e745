use Rattle.job_text.proofs.JobLaws.{jobs_are_unique}
use Rattle.job_text.proofs.laws.jobs_are_unique.Goals as goal

pub returns : goal.returns
returns c = jobs_are_unique
