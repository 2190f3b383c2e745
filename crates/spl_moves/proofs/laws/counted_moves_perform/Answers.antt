-- By one element after the other, behind both addresses and the count.
use Rattle.spl_moves.proofs.CountedLemmas.{counted_perform}
use Rattle.spl_moves.proofs.AnswerLemmas.{counted_answer}
use Rattle.spl_moves.proofs.laws.counted_moves_perform.Goals as goal

pub returns-clause-performs : goal.returns-clause-performs
returns-clause-performs c = counted_perform

pub returns-clause-answers : goal.returns-clause-answers
returns-clause-answers c = counted_answer
