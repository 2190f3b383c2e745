use Rattle.job_text.proofs.PrepLemmas.{prepared_jobs_are_single}
use Rattle.job_text.proofs.laws.prepared_jobs_are_single.Goals as goal

pub returns : goal.returns
returns c = prepared_jobs_are_single
