-- By what the moves answer over parts.
use Rattle.spl_moved.proofs.AnswerLemmas.{answers_whole, covered_moves_answer}
use Rattle.spl_moved.proofs.laws.covered_moves_answer.Goals as goal

pub returns-clause-whole : goal.returns-clause-whole
returns-clause-whole c = answers_whole

pub returns-clause-answers : goal.returns-clause-answers
returns-clause-answers c = covered_moves_answer
