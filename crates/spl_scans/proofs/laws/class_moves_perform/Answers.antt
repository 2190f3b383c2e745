-- By one byte after the other, until one decides.
use Rattle.spl_scans.proofs.ByteLemmas.{class_perform}
use Rattle.spl_scans.proofs.AnswerLemmas.{class_answer}
use Rattle.spl_scans.proofs.laws.class_moves_perform.Goals as goal

pub returns-clause-performs : goal.returns-clause-performs
returns-clause-performs c = class_perform

pub returns-clause-answers : goal.returns-clause-answers
returns-clause-answers c = class_answer
