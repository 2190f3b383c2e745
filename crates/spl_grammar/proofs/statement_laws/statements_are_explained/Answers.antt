use Rattle.std.proofs.Common.{arith}
use Rattle.spl_reading.specs.ReadStatements.{statement}
use Rattle.spl_grammar.proofs.SoundStatements.{statement_explained}
use Rattle.spl_grammar.proofs.ExplainReaders.{explain_as}
use Rattle.spl_grammar.proofs.statement_laws.statements_are_explained.Goals as goal

-- by the readers, rule by rule
pub returns : goal.returns
returns c = λ room d ts sum. explain_as (statement room ts) (statement_explained room d ts (omega arith)) (λ x rest v. v.spelled)
