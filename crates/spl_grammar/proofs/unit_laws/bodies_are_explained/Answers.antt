use Rattle.std.proofs.Common.{arith}
use Rattle.spl_grammar.proofs.SoundUnits.{body_explained}
use Rattle.spl_grammar.proofs.unit_laws.bodies_are_explained.Goals as goal

-- by the readers, rule by rule
pub returns : goal.returns
returns c = λ room d segment ts sum. body_explained room d segment ts (omega arith)
