-- Turn by turn.
use Rattle.spl_control.proofs.ControlLemmas.{loops, repeats}
use Rattle.spl_control.proofs.laws.loops_follow.Goals as goal

pub returns-clause-before : goal.returns-clause-before
returns-clause-before c = loops

pub returns-clause-behind : goal.returns-clause-behind
returns-clause-behind c = repeats
