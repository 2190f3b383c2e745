-- Piece by piece.
use Rattle.spl_stands.proofs.StandLemmas as lemmas
use Rattle.spl_stands.proofs.laws.words_stand.Goals as goal

pub returns : goal.returns
returns c = λ g seg words s w ps p q due there marks fits stands. lemmas.words_stand g seg words there s w marks ps p q due fits stands
