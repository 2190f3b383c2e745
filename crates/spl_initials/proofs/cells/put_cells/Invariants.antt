-- A loop over items.
use Rattle.std.proofs.Common.{◌≡◌, map, drop}
use Rattle.spl_sorts.specs.spl_meaning.Places as places
use Rattle.spl_sorts.specs.spl_meaning.Runs.{global_address}
use Rattle.spl_places.specs.ListedData.{datum_of}
use Rattle.spl_initials.specs.Memory.{memory_of}
use Rattle.spl_initials.specs.Cells.{found_in, cells_by}
use Rattle.spl_initials.proofs.cells.put_cells.Given as goal

-- with the cells from here on the words are those with all
abbrev pub invariant-loop-datum : goal.invariant-loop-datum
invariant-loop-datum l =
    places.put_cells global_address (cells_by l.own (found_in l.list) (map datum_of (drop l.datum-index l.items))) (memory_of l.words)
    ≡ places.put_cells global_address (cells_by l.own (found_in l.list) (map datum_of l.items)) (memory_of l.initial.words)
