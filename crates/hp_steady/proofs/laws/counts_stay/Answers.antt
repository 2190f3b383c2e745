-- By the table of counts.
use Rattle.hp_steady.proofs.WordStays.{count_row-stays}
use Rattle.hp_steady.proofs.laws.counts_stay.Goals as goal

pub returns : goal.returns
returns c = λ which n m. count_row-stays m which n
