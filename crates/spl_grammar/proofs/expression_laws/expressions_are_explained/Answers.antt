use Rattle.std.proofs.Common.{arith}
use Rattle.spl_grammar.proofs.SoundExpressions.{expression_explained}
use Rattle.spl_grammar.proofs.expression_laws.expressions_are_explained.Goals as goal

-- by the readers, rule by rule
pub returns : goal.returns
returns c = λ room d ts sum. expression_explained room 0 d ts (omega arith) (omega arith)
