-- Room, zeros, cells and values are paid by heading and items.
use Rattle.spl_body_code.proofs.BodyLaws.{main_few}
use Rattle.spl_body_code.proofs.laws.main_body_has_few_words.Goals as goal

pub returns : goal.returns
returns c = main_few
