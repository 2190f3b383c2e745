use Rattle.std.proofs.Common.{arith}
use Rattle.spl_grammar.proofs.CutUnits.{unit_explained}
use Rattle.spl_grammar.proofs.unit_laws.units_are_explained.Goals as goal

-- by the readers, rule by rule
pub returns : goal.returns
returns c = λ room d ts sum. unit_explained room d ts (omega arith)
