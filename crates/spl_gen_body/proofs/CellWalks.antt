-- Loops over items: the cells that are set from one on.
use Rattle.std.proofs.Common.{◌≡◌, ◌<◌, ◌≤◌, ℕ, ◌+◌, List, ◌++◌, map, drop, length, get_or, false, refl, ◌∙◌}
use Rattle.std.proofs.lemmas.Grind.{flat_map-append}
use Rattle.spl_initials.proofs.spl_lists_proofs.NameWalks.{onward, onward_end}
use Rattle.spl_initials.specs.spl_places.declared.data.Datum.{Datum}
use Rattle.spl_initials.specs.spl_places.ListedData.{datum_of}
use Rattle.spl_initials.specs.Cells.{Found, item_cell, cells_by}
use Rattle.spl_branch.specs.declared.buffer.Code.{Code}
use Rattle.spl_body_code.specs.spl_code.Parts.{pieces}
use Rattle.spl_body_code.specs.spl_code.Appends.{Appends}
use Rattle.spl_body_code.proofs.spl_code_proofs.AppendLaws.{none_appends}
use Rattle.spl_operations.proofs.PutLemmas.{pieces_then}
use Rattle.spl_body_code.specs.Cells.{cell_set, cells_set}

-- what is set from an item on is its own cell, and what is set from the next on
cells_onward : (f : Found) (list : List Datum) (i : ℕ) (x : Datum) → i < length list → x ≡ get_or list i x
    → cells_set (cells_by false f (map datum_of (drop i list)))
    ≡ cells_set (item_cell false f (datum_of x)) ++ cells_set (cells_by false f (map datum_of (drop (i + 1) list)))
cells_onward f list i x lt is =
    onward datum_of (λ ds. cells_set (cells_by false f ds)) list i x lt is
    ∙ flat_map-append cell_set (item_cell false f (datum_of x)) (cells_by false f (map datum_of (drop (i + 1) list)))

-- one cell more
pub cells_step : (f : Found) (list : List Datum) (i : ℕ) (x : Datum) {c d e : Code} → i < length list → x ≡ get_or list i x
    → Appends (pieces (cells_set (item_cell false f (datum_of x)))) c d
    → Appends (pieces (cells_set (cells_by false f (map datum_of (drop (i + 1) list))))) d e
    → Appends (pieces (cells_set (cells_by false f (map datum_of (drop i list))))) c e
cells_step f list i x {c} {d} {e} lt is a b =
    rw (cells_onward f list i x lt is)
    (pieces_then {xs = cells_set (item_cell false f (datum_of x))} {ys = cells_set (cells_by false f (map datum_of (drop (i + 1) list)))} a b)

-- none is left
pub cells_end : (f : Found) (list : List Datum) (i : ℕ) (c : Code) → length list ≤ i
    → Appends (pieces (cells_set (cells_by false f (map datum_of (drop i list))))) c c
cells_end f list i c le = rw (onward_end datum_of (λ ds. cells_set (cells_by false f ds)) list i le) (none_appends refl)

pub ruleset cell_steps = (cells_step, cells_end)
