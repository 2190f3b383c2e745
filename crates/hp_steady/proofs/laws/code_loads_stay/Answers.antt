-- A word is pushed, whichever it is.
use Rattle.hp_steady.proofs.MemoryStays.{code_loaded-stays}
use Rattle.hp_steady.proofs.laws.code_loads_stay.Goals as goal

pub returns : goal.returns
returns c = λ segments back d m. code_loaded-stays m segments back d
