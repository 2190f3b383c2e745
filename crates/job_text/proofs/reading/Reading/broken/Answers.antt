-- The first of the tests that fails.
use Rattle.std.proofs.Common.{◌∙◌, ap}
use Rattle.job_text.specs.Rules.{first_failing, broken}
use Rattle.job_text.proofs.reading.Reading.broken.Goals as goal

pub returns : goal.returns
unfolding broken
returns c = c.first_failing.ensures ∙ ap (first_failing 1) c.kept.ensures
