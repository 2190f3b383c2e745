-- The laws of the round trip, at the word.
use Rattle.std.proofs.Common.{arith}
use Rattle.hp_instr.proofs.LabelLaws.{label_bits-label, is_label-label}
use Rattle.hp_instr.proofs.labels.read_label.Goals as goal

pub returns-clause-is_label : goal.returns-clause-is_label
returns-clause-is_label c = rw c.by_first_bits.ensures (is_label-label c.args.w (omega arith))

pub returns-clause-again : goal.returns-clause-again
returns-clause-again c = rw c.by_first_bits.ensures (label_bits-label c.args.w (omega arith))
