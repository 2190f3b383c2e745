use Rattle.spl_grammar.proofs.UnitLaws.{shallow_read}
use Rattle.spl_grammar.proofs.unit_laws.shallow_units_are_read.Goals as goal

-- where it is too deep some chain has more open
pub returns : goal.returns
returns c = λ u ts room d sum v h. shallow_read room d u ts sum v h
