-- By what the gate leaves.
use Rattle.spl_answers.proofs.AnswerLemmas.{answers_give}
use Rattle.spl_answers.proofs.laws.answers_simulate.Goals as goal

pub returns : goal.returns
returns c = answers_give
