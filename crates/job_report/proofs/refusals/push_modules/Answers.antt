-- The pieces are those of the definition.
use Rattle.job_report.proofs.refusals.push_modules.Goals as goal

pub returns : goal.returns
returns c = rw (← c.modules_word-what.ensures, ← c.modules_name-name.ensures) c.push_line.ensures
