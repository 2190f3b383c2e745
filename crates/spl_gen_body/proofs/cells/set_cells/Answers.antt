-- One cell more, and none left.
use Rattle.spl_initials.specs.Cells.{found_in}
use Rattle.spl_gen_body.proofs.CellWalks.{cells_end}
use Rattle.spl_gen_body.proofs.cells.set_cells.Goals as goal

pub returns : goal.returns
returns c = c.loop-datum.invariant c.loop-datum.code (cells_end (found_in c.args.list.now) c.args.items.now c.loop-datum.datum-index c.loop-datum.code c.loop-datum-test.false)
