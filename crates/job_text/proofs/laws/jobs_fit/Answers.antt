use Rattle.job_text.proofs.FitLemmas.{jobs_fit}
use Rattle.job_text.proofs.laws.jobs_fit.Goals as goal

pub returns : goal.returns
returns c = jobs_fit
