-- The head, and then the turns.
use Rattle.spl_counts.proofs.CountLemmas.{counts}
use Rattle.spl_counts.proofs.HeadLemmas.{own_heads, passed_heads}
use Rattle.spl_counts.proofs.laws.counts_perform.Goals as goal

pub returns-clause-counts : goal.returns-clause-counts
returns-clause-counts c = counts

pub returns-clause-own : goal.returns-clause-own
returns-clause-own c = own_heads

pub returns-clause-passed : goal.returns-clause-passed
returns-clause-passed c = passed_heads
