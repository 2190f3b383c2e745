-- What is appended with the cells from here on is all.
use Rattle.std.proofs.Common.{false, map, drop}
use Rattle.spl_initials.specs.spl_places.ListedData.{datum_of}
use Rattle.spl_initials.specs.Cells.{found_in, cells_by}
use Rattle.spl_branch.specs.declared.buffer.Code.{Code}
use Rattle.spl_body_code.specs.spl_code.Parts.{pieces}
use Rattle.spl_body_code.specs.spl_code.Appends.{Appends}
use Rattle.spl_body_code.specs.Cells.{cells_set}
use Rattle.spl_gen_body.proofs.cells.set_cells.Given as goal

abbrev pub invariant-loop-datum : goal.invariant-loop-datum
invariant-loop-datum l =
    (e : Code)
    → Appends (pieces (cells_set (cells_by false (found_in l.list) (map datum_of (drop l.datum-index l.items))))) l.code e
    → Appends (pieces (cells_set (cells_by false (found_in l.list) (map datum_of l.items)))) l.fn.code e
