-- The row of the group is the instruction's.
use Rattle.hp_cpu.proofs.ActLemmas.{field_acts}
use Rattle.hp_cpu.proofs.words.with_field.Goals as goal

pub returns : goal.returns
returns c = λ program. field_acts program c.args.i _ _ _ _ c.field_op.result c.requires.group c.field_op.ensures
