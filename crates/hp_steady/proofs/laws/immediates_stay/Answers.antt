-- By the table of immediate numbers.
use Rattle.hp_steady.proofs.WordStays.{immediate_row-stays}
use Rattle.hp_steady.proofs.laws.immediates_stay.Goals as goal

pub returns : goal.returns
returns c = λ which n m. immediate_row-stays m which n
