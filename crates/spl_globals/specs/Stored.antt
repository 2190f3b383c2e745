-- The data words of a program as they are stored along its units: the cells of all lists, or the initial values of all.
use Rattle.std.specs.Prelude.{ℕ, ◌+◌, Bool, true, false, if◌then◌else◌, List, [], ◌∷◌, Option}
use Rattle.spl_tree.specs.DeclarationTrees as decl
use Rattle.spl_tree.specs.DeclarationTrees.{Heading, Declaration, Declarations, declarations}
use Rattle.spl_sorts.specs.spl_meaning.Names.{Names, find, nothing_declared, parameters, formals_of}
use Rattle.spl_sorts.specs.spl_meaning.Tables.{Source}
use Rattle.spl_sorts.specs.spl_meaning.Places.{item_words, array_words, put_cells, put_initials}
use Rattle.spl_sorts.specs.spl_meaning.Bodies.{primary_words, global_words, global_array_words}
use Rattle.spl_sorts.specs.spl_meaning.Runs.{global_address}
use Rattle.spl_initials.specs.spl_found.OwnNames.{behind_declaration}
use Rattle.spl_initials.specs.spl_places.declared.places.Area.{Area}
use Rattle.spl_initials.specs.spl_places.declared.places.Area.TheVariants as area
use Rattle.spl_initials.specs.spl_places.declared.places.Starts.{Starts}
use Rattle.spl_initials.specs.spl_places.ListedData.{Datum}
use Rattle.spl_initials.specs.spl_places.Counters.{total_words}
use Rattle.spl_initials.specs.spl_places.Spots.{place_in, frame_starts}
use Rattle.spl_initials.specs.spl_places.Programs.{unit_items}
use Rattle.spl_initials.specs.Cells.{cells_by, initials_by}
use Rattle.spl_initials.specs.Lists.{found_of, starts_of}
use Rattle.spl_areas.specs.Gathered.{items_under, items_in, items_among}
use Rattle.spl_globals.specs.declared.stored.Pass.{Pass}
use Rattle.spl_globals.specs.declared.stored.Pass.TheVariants as pass
use Rattle.spl_globals.specs.declared.areas.Areas.{Areas}

-- data words by their addresses
abbrev pub Memory : Type 0
Memory = ℕ → Option ℕ

-- what is stored of a list of declarations with these items, which starts there, with the names outside it and those before it
abbrev pub list_stored : Pass → Bool → Area → Starts → Names → Names → List Datum → Declarations → Memory → Memory
list_stored pass.Cells own a at outer here items ds mem =
    put_cells global_address (cells_by own (found_of (place_in a) (starts_of at) items) items) mem
list_stored pass.Initials own a at outer here items ds mem =
    put_initials global_address (initials_by own outer (found_of (place_in a) (starts_of at) items) here ds) mem

-- ---- OWN items

-- of the list of a procedure, whose OWN items and arrays start there, with the names outside it
abbrev pub procedure_stored : Pass → Names → ℕ → ℕ → Heading → Declarations → Memory → Memory
procedure_stored p outer own own_arrays h ds mem =
    list_stored p true area.Frame (frame_starts own own_arrays (items_under outer h ds)) outer (find (parameters (formals_of h))) (items_under outer h ds) ds mem

-- of the procedure that a declaration is
abbrev pub declaration_stored : Pass → Names → ℕ → ℕ → Declaration → Memory → Memory
declaration_stored p outer own own_arrays (decl.Declaration.procedure h items ss) mem = procedure_stored p outer own own_arrays h items mem
declaration_stored p outer own own_arrays d mem = mem

-- of the procedures among declarations
abbrev pub owns_stored : Pass → Names → ℕ → ℕ → Declarations → Memory → Memory
owns_stored p here own own_arrays decl.none mem = mem
owns_stored p here own own_arrays (decl.and d ds) mem =
    let behind = behind_declaration nothing_declared here d in
    owns_stored p behind (own + total_words true item_words (items_in behind d)) (own_arrays + total_words true array_words (items_in behind d)) ds
    (declaration_stored p behind own own_arrays d mem)

-- ---- units

-- where a unit's list starts, as one of globals
abbrev pub global_starts : Areas → Starts
global_starts at = record { own = 0; own_arrays = 0; here = at.primary; here_arrays = at.secondary }

-- of the globals of a unit that is no subprogram
abbrev pub globals_stored : Pass → Areas → Source → Memory → Memory
globals_stored p at u mem =
    if u.subprogram then mem
    else list_stored p false area.Globals (global_starts at) nothing_declared nothing_declared (unit_items u) (declarations u.tree.items) mem

-- of a unit: its globals, and then the OWN items of its procedures
abbrev pub unit_stored : Pass → Areas → Source → Memory → Memory
unit_stored p at u mem = owns_stored p nothing_declared at.own at.own_arrays (declarations u.tree.items) (globals_stored p at u mem)

-- where the next unit's data start
abbrev pub behind_owns : Areas → List Datum → Areas
behind_owns at ds = record {
  primary = at.primary;
  secondary = at.secondary;
  own = at.own + total_words true item_words ds;
  own_arrays = at.own_arrays + total_words true array_words ds;
}

abbrev pub behind_globals : Areas → List Datum → Areas
behind_globals at ds = record {
  primary = at.primary + total_words false item_words ds;
  secondary = at.secondary + total_words false array_words ds;
  own = at.own;
  own_arrays = at.own_arrays;
}

abbrev pub behind_unit : Areas → Source → Areas
behind_unit at u = behind_owns (behind_globals at (unit_items u)) (items_among nothing_declared (declarations u.tree.items))

-- of units in order
abbrev pub units_stored : Pass → Areas → List Source → Memory → Memory
units_stored p at [] mem = mem
units_stored p at (u ∷ us) mem = units_stored p (behind_unit at u) us (unit_stored p at u mem)

-- ---- a program

-- where the four parts of its data start: the globals, their arrays' data, the OWN items, and their arrays' data
abbrev pub first_areas : List Source → Areas
first_areas us = record {
  primary = 0;
  secondary = primary_words us;
  own = global_words us;
  own_arrays = primary_words us + global_array_words us;
}

-- the same by the items of all units, and of all procedures
abbrev pub areas_of : List Datum → List Datum → Areas
areas_of gs ls = record {
  primary = 0;
  secondary = total_words false item_words gs + total_words true item_words ls;
  own = total_words false item_words gs;
  own_arrays = total_words false item_words gs + total_words true item_words ls + total_words false array_words gs;
}

-- and how many data words there are
abbrev pub words_of : List Datum → List Datum → ℕ
words_of gs ls =
    total_words false item_words gs + total_words true item_words ls + total_words false array_words gs + total_words true array_words ls
