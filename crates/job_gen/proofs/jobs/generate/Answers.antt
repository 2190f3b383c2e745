use Rattle.std.proofs.Common.{◌≡◌, ℕ, List, ◌≤◌, length, false, ◌++◌, subst, sym, ap, ◌∙◌}
use Rattle.job_text.specs.Jobs.{JobIs}
use Rattle.job_gen.specs.Pieces.{text_of}
use Rattle.job_gen.specs.Generated as generated
use Rattle.job_gen.specs.Jobs.{generated_job}
use Rattle.job_gen.proofs.SizeLemmas.{generated_short}
use Rattle.job_gen.proofs.JobLemmas.{generated_is_job}
use Rattle.job_gen.proofs.jobs.generate.Goals as goal

-- all lines were appended to nothing
all : (c : goal.In_ok-job) → c.job.new.self.text.items ≡ generated.generated c.args.n
unfolding generated.generated
all c = c.in_ok-job.ensures.text ∙ ap (λ (t : List ℕ). t ++ text_of c.args.n generated.job_lines) c.new.ensures.items

pub returns-clause-text : goal.returns-clause-text
returns-clause-text c = all c

pub returns-clause-short : goal.returns-clause-short
returns-clause-short c = subst (λ (t : List ℕ). length t ≤ 1048576) (sym (all c)) (generated_short c.args.n)

pub returns-clause-job : goal.returns-clause-job
returns-clause-job c = subst (λ (t : List ℕ). JobIs t false (generated_job c.args.n)) (sym (all c)) (generated_is_job c.args.n)
