use Rattle.std.proofs.Common.{arith}
use Rattle.mpe_segmenter.proofs.FitLemmas.{external_formed}
use Rattle.mpe_segmenter.proofs.labels.label_of.Goals as goal

-- an intrinsic's entry is one of eight
pub returns-then-key-clause-formed : goal.returns-then-key-clause-formed
returns-then-key-clause-formed c = external_formed 255 c.gate_number.result (omega arith) (omega (arith, c.gate_number.ensures.small))
