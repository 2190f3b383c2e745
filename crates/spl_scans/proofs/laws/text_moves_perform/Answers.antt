-- By where the string stands in the code, and one element after the other.
use Rattle.spl_scans.proofs.TextLemmas.{text_perform}
use Rattle.spl_scans.proofs.AnswerLemmas.{text_answer}
use Rattle.spl_scans.proofs.laws.text_moves_perform.Goals as goal

pub returns-clause-performs : goal.returns-clause-performs
returns-clause-performs c = text_perform

pub returns-clause-answers : goal.returns-clause-answers
returns-clause-answers c = text_answer
