-- A pair's row is its operation's.
use Rattle.hp_cpu.proofs.ActLemmas.{pair_acts}
use Rattle.hp_cpu.proofs.pairs.pair.Goals as goal

pub returns : goal.returns
returns c = λ program. pair_acts program c.args.left c.args.right _ _ c.half.result _ _ c.half.ensures
