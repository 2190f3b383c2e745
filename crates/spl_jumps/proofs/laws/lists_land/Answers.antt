-- Jump by jump, each with fewer steps left.
use Rattle.spl_jumps.proofs.LandLemmas.{nothing_from, lists_from, lists_land, blocks}
use Rattle.spl_jumps.proofs.laws.lists_land.Goals as goal

pub returns-clause-none : goal.returns-clause-none
returns-clause-none c = nothing_from

pub returns-clause-more : goal.returns-clause-more
returns-clause-more c = lists_from

pub returns-clause-lands : goal.returns-clause-lands
returns-clause-lands c = lists_land

pub returns-clause-block : goal.returns-clause-block
returns-clause-block c = blocks
