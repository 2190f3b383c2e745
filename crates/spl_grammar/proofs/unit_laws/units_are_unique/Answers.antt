use Rattle.spl_grammar.proofs.UnitLaws.{unit_unique}
use Rattle.spl_grammar.proofs.unit_laws.units_are_unique.Goals as goal

-- both are what is read where as many constructs may be open as there are tokens
pub returns : goal.returns
returns c = λ u v ts a b. unit_unique a b
