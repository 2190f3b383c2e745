-- One operation of one word.
use Rattle.spl_conditions.proofs.ComplementLemmas.{complements}
use Rattle.spl_conditions.proofs.laws.complements_simulate.Goals as goal

pub returns : goal.returns
returns c = complements
