-- Words are added modulo 65,536.
use Rattle.spl_body_code.proofs.CellLaws.{cells_move}
use Rattle.spl_body_code.proofs.laws.cells_move_with_the_base.Goals as goal

pub returns : goal.returns
returns c = cells_move
