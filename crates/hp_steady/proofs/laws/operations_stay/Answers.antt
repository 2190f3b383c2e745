-- By the table of operations.
use Rattle.hp_steady.proofs.StackStays.{operated-stays}
use Rattle.hp_steady.proofs.laws.operations_stay.Goals as goal

pub returns : goal.returns
returns c = λ code m. operated-stays m code
