-- Each side from where the test leads.
use Rattle.spl_choices.proofs.ChoiceLemmas.{choices, eithers}
use Rattle.spl_choices.proofs.laws.choices_perform.Goals as goal

pub returns-clause-one : goal.returns-clause-one
returns-clause-one c = choices

pub returns-clause-either : goal.returns-clause-either
returns-clause-either c = eithers
