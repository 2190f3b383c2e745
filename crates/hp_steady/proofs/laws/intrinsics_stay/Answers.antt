-- By the eight intrinsics.
use Rattle.hp_steady.proofs.GateStays.{served-stays}
use Rattle.hp_steady.proofs.laws.intrinsics_stay.Goals as goal

pub returns : goal.returns
returns c = λ entry m. served-stays m entry
