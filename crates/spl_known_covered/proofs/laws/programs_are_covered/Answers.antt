-- Each is computed.
use Rattle.spl_known_covered.proofs.Known.{all_covered, none_covered, all_calling, none_calling, all_inner, none_inner}
use Rattle.spl_known_covered.proofs.laws.programs_are_covered.Goals as goal

pub returns-clause-covered : goal.returns-clause-covered
returns-clause-covered c = all_covered

pub returns-clause-others : goal.returns-clause-others
returns-clause-others c = none_covered

pub returns-clause-calling : goal.returns-clause-calling
returns-clause-calling c = all_calling

pub returns-clause-uncalled : goal.returns-clause-uncalled
returns-clause-uncalled c = none_calling

pub returns-clause-inner : goal.returns-clause-inner
returns-clause-inner c = all_inner

pub returns-clause-uncalled_inner : goal.returns-clause-uncalled_inner
returns-clause-uncalled_inner c = none_inner
