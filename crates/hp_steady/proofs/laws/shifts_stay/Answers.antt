-- A shift leaves a word for a word.
use Rattle.hp_steady.proofs.WordStays.{shifting-stays}
use Rattle.hp_steady.proofs.laws.shifts_stay.Goals as goal

pub returns : goal.returns
returns c = λ kind count m. shifting-stays m kind count
