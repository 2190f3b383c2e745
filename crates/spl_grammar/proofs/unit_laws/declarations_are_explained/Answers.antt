use Rattle.std.proofs.Common.{arith}
use Rattle.spl_grammar.proofs.SoundUnits.{declaration_in}
use Rattle.spl_grammar.proofs.unit_laws.declarations_are_explained.Goals as goal

-- by the readers, rule by rule
pub returns : goal.returns
returns c = λ room d procedures after segment ts sum. declaration_in room d procedures after segment ts (omega arith)
