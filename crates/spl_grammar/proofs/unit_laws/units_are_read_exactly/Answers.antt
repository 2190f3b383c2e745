use Rattle.spl_grammar.proofs.UnitLaws.{read_exactly, exactly_read}
use Rattle.spl_grammar.proofs.unit_laws.units_are_read_exactly.Goals as goal

-- what is read is spelled, and what is spelled is read where it is not too deep
pub returns : goal.returns
returns c = λ u ts room. (read_exactly room u ts, λ x. exactly_read room u ts x.0 x.1)
