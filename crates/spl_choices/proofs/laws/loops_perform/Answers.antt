-- Turn by turn, each paid by its own step.
use Rattle.spl_choices.proofs.LoopLemmas.{whiles, untils}
use Rattle.spl_choices.proofs.laws.loops_perform.Goals as goal

pub returns-clause-before : goal.returns-clause-before
returns-clause-before c = whiles

pub returns-clause-behind : goal.returns-clause-behind
returns-clause-behind c = untils
