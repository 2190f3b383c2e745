-- Each call has a token of its own.
use Rattle.spl_few_calls.proofs.Units.{few, few_in_units}
use Rattle.spl_few_calls.proofs.laws.units_have_few_calls.Goals as goal

pub returns-clause-tokens : goal.returns-clause-tokens
returns-clause-tokens c = few

pub returns-clause-units : goal.returns-clause-units
returns-clause-units c = few_in_units
