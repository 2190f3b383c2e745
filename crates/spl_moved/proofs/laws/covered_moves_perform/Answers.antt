-- By what the moves do over parts.
use Rattle.spl_moved.proofs.EffectLemmas.{moves_whole, covered_moves_perform}
use Rattle.spl_moved.proofs.laws.covered_moves_perform.Goals as goal

pub returns-clause-whole : goal.returns-clause-whole
returns-clause-whole c = moves_whole

pub returns-clause-performs : goal.returns-clause-performs
returns-clause-performs c = covered_moves_perform
