use Rattle.job_text.proofs.JobLaws.{faults_are_unique}
use Rattle.job_text.proofs.laws.faults_are_unique.Goals as goal

pub returns : goal.returns
returns c = faults_are_unique
