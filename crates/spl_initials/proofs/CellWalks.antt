-- Loops over items: the cells that are put from one on.
use Rattle.std.proofs.Common.{◌≡◌, ◌<◌, ◌≤◌, ℕ, ◌+◌, Bool, List, [], ◌∷◌, ◌++◌, map, drop, length, get_or, Option, refl, ◌∙◌}
use Rattle.spl_sorts.specs.spl_meaning.Places.{Place, Cell, Initial, stored, viewed, cell_word, put_cells, put_initials, put_values}
use Rattle.spl_sorts.specs.spl_meaning.Runs.{global_address}
use Rattle.spl_places.proofs.spl_lists_proofs.NameWalks.{onward, onward_end}
use Rattle.spl_places.specs.declared.data.Datum.{Datum}
use Rattle.spl_places.specs.ListedData.{datum_of}
use Rattle.spl_initials.specs.Cells.{Found, item_cell, cells_by}

-- cells one behind the other
pub cells_both : (address : Place → ℕ) (xs ys : List Cell) (mem : ℕ → Option ℕ) → put_cells address (xs ++ ys) mem ≡ put_cells address ys (put_cells address xs mem)
cells_both address [] ys mem = refl
cells_both address (c ∷ xs) ys mem =
    cells_both address xs ys (stored (address c.place) (viewed c.as_bytes (cell_word c.array.kind c.array.low (address c.array.from))) mem)

-- and initial values
pub initials_both : (address : Place → ℕ) (xs ys : List Initial) (mem : ℕ → Option ℕ) → put_initials address (xs ++ ys) mem ≡ put_initials address ys (put_initials address xs mem)
initials_both address [] ys mem = refl
initials_both address (i ∷ xs) ys mem = initials_both address xs ys (put_values i.kind (address i.from) 0 i.values mem)

pub cell_step : (own : Bool) (f : Found) (list : List Datum) (i : ℕ) (x : Datum) (mem : ℕ → Option ℕ) → i < length list → x ≡ get_or list i x
    → put_cells global_address (cells_by own f (map datum_of (drop i list))) mem
    ≡ put_cells global_address (cells_by own f (map datum_of (drop (i + 1) list))) (put_cells global_address (item_cell own f (datum_of x)) mem)
cell_step own f list i x mem lt is =
    onward datum_of (λ ds. put_cells global_address (cells_by own f ds) mem) list i x lt is
    ∙ cells_both global_address (item_cell own f (datum_of x)) (cells_by own f (map datum_of (drop (i + 1) list))) mem

pub cell_end : (own : Bool) (f : Found) (list : List Datum) (i : ℕ) (mem : ℕ → Option ℕ) → length list ≤ i
    → put_cells global_address (cells_by own f (map datum_of (drop i list))) mem ≡ mem
cell_end own f list i mem le = onward_end datum_of (λ ds. put_cells global_address (cells_by own f ds) mem) list i le
