-- Room, zeros, cells and values are paid by heading and items.
use Rattle.spl_body_code.proofs.BodyLaws.{subroutine_few}
use Rattle.spl_body_code.proofs.laws.subroutine_has_few_words.Goals as goal

pub returns : goal.returns
returns c = subroutine_few
