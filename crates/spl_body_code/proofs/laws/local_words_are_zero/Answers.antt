-- Rows of 255 and the rest.
use Rattle.spl_body_code.proofs.ZeroLaws.{zeros_pushed}
use Rattle.spl_body_code.proofs.laws.local_words_are_zero.Goals as goal

pub returns : goal.returns
returns c = zeros_pushed
