-- The label is an external one, of the gate.
use Rattle.spl_routines.proofs.GateLemmas.{gates_are_served}
use Rattle.spl_routines.proofs.laws.gates_are_served.Goals as goal

pub returns : goal.returns
returns c = gates_are_served
