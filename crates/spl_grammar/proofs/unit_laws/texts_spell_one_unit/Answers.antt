use Rattle.std.proofs.Common.{sym, ◌∙◌}
use Rattle.spl_grammar.proofs.UnitLaws.{unit_unique}
use Rattle.spl_grammar.proofs.unit_laws.texts_spell_one_unit.Goals as goal

-- both are what the tokens spell
pub returns : goal.returns
returns c = λ lexed a b x y. (unit_unique x.rest y.rest, x.subprogram ∙ sym y.subprogram, x.segments ∙ sym y.segments)
