-- Cells, and then initial values; and calls of procedures that have such ones.
use Rattle.std.proofs.Common.{ℕ, subst}
use Rattle.std.specs.Prelude.{Option}
use Rattle.spl_procedures.specs.spl_meaning.Places.{Place, put_cells, put_initials}
use Rattle.spl_procedures.specs.spl_body_code.Cells.{cells_set, initials_set}
use Rattle.spl_procedures.proofs.spl_follow_proofs.PartLemmas.{stand_from_place}
use Rattle.spl_procedures.proofs.spl_values_proofs.VariableLemmas.{both}
use Rattle.spl_procedures.specs.Laws.{ProceduresAreCalled}
use Rattle.spl_procedures.proofs.ClearLemmas.{clear_cells}
use Rattle.spl_cells.specs.Settable.{cells_settable, initials_settable}
use Rattle.spl_cells.specs.Laws.{SettableAreSet, SettableProceduresAreCalled}
use Rattle.spl_cells.proofs.PutLemmas.{cells_keep, addresses as places_in, addresses_same}
use Rattle.spl_cells.proofs.StepLemmas.{Fresh, fresh_on, Stepped, steps_join, with_words}
use Rattle.spl_cells.proofs.CellLemmas.{cells_follow}
use Rattle.spl_cells.proofs.InitialLemmas.{initials_follow}

-- a body's cells, and then its initial values
pub settable_set : SettableAreSet
settable_set g w sites b e p q stands s m at matches locals room silent =
    let parts = both (cells_settable b.words b.cells) (initials_settable b.words b.initials) e in
    let cut = stand_from_place g sites (cells_set b.cells) (initials_set b.initials) p q (clear_cells b.cells) stands in
    let f : Fresh g w sites b p s m = record { at = at; matches = matches; locals = locals; room = room; silent = silent } in
    let mem : ℕ → Option ℕ = put_cells (places_in s.now) b.cells s.now.mem in
    let cells = cells_follow g w sites b b.cells parts.0 p cut.0 s m cut.1 f in
    let later = initials_follow g w sites b b.initials parts.1 cut.0 q (with_words g w sites b s mem) cells.0 cut.2
    (fresh_on g w sites b p cut.0 mem s m cells f (λ x h. cells_keep (places_in s.now) b.cells s.now.mem x h)) in
    steps_join g w sites b p cut.0 q mem (put_initials (places_in s.now) b.initials mem) s m cut.3 cut.4 cells
    (subst (λ (address : Place → ℕ). Stepped g w sites b cut.0 q (put_initials address b.initials mem) (with_words g w sites b s mem) cells.0)
    (addresses_same s.now mem) later)

-- what a call asks of the code that sets them
pub settable_called : ProceduresAreCalled → SettableAreSet → SettableProceduresAreCalled
settable_called called set g w sites b start first leave end call d code known e statements =
    called g w sites b start first leave end call d code known (set g w sites b e) statements
