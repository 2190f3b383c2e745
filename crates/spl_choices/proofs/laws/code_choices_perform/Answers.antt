-- By the code that is known.
use Rattle.spl_choices.proofs.CodeLemmas.{code_choices, code_eithers}
use Rattle.spl_choices.proofs.laws.code_choices_perform.Goals as goal

pub returns-clause-one : goal.returns-clause-one
returns-clause-one c = code_choices

pub returns-clause-either : goal.returns-clause-either
returns-clause-either c = code_eithers
