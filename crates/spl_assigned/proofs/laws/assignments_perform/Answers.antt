-- By whether a condition code is kept.
use Rattle.spl_assigned.proofs.AnswerLemmas.{answers_put}
use Rattle.spl_assigned.proofs.AssignLemmas.{assignments_whole, assignments}
use Rattle.spl_assigned.proofs.laws.assignments_perform.Goals as goal

pub returns-clause-answers : goal.returns-clause-answers
returns-clause-answers c = answers_put

pub returns-clause-whole : goal.returns-clause-whole
returns-clause-whole c = assignments_whole

pub returns-clause-performs : goal.returns-clause-performs
returns-clause-performs c = assignments
