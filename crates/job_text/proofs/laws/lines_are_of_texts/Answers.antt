-- Line by line.
use Rattle.job_text.proofs.LineBytes.{lines_of_texts}
use Rattle.job_text.proofs.laws.lines_are_of_texts.Goals as goal

pub returns : goal.returns
returns c = lines_of_texts
