-- The row of the group is the instruction's.
use Rattle.hp_cpu.proofs.ActLemmas.{reference_acts}
use Rattle.hp_cpu.proofs.words.with_reference.Goals as goal

pub returns : goal.returns
returns g c = λ program here. reference_acts program c.args.i _ _ _ _ c.memory_op.result c.requires (c.memory_op.ensures program here)
