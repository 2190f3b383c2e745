-- By the table of moves.
use Rattle.hp_steady.proofs.MoveStays.{move_row-stays}
use Rattle.hp_steady.proofs.laws.moves_stay_or_pass.Goals as goal

pub returns : goal.returns
returns c = λ segments which n m. move_row-stays m segments which n
