-- By one byte after the other, until one decides.
use Rattle.spl_scans.proofs.ByteLemmas.{scan_perform}
use Rattle.spl_scans.proofs.AnswerLemmas.{scan_answer}
use Rattle.spl_scans.proofs.laws.scans_perform.Goals as goal

pub returns-clause-performs : goal.returns-clause-performs
returns-clause-performs c = scan_perform

pub returns-clause-answers : goal.returns-clause-answers
returns-clause-answers c = scan_answer
