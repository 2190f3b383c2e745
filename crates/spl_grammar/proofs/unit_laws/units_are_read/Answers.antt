use Rattle.spl_grammar.proofs.CompleteUnits.{unit_read}
use Rattle.spl_grammar.proofs.unit_laws.units_are_read.Goals as goal

-- by induction on the spelling
pub returns : goal.returns
returns c = λ u ts room v. (unit_read v room).outcome
