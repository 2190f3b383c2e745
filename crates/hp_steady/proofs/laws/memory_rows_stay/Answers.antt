-- By the table of majors.
use Rattle.hp_steady.proofs.MemoryStays.{memory_row-stays}
use Rattle.hp_steady.proofs.laws.memory_rows_stay.Goals as goal

pub returns : goal.returns
returns c = λ major second mode i x m. memory_row-stays m major second mode i x
