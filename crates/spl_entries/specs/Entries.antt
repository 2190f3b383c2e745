-- The places of items and parameters in source order, each with the sum of the words before it.
use Rattle.std.specs.Prelude.{ℕ, ◌+◌, pos, neg_ℤ, Bool, true, false, if◌then◌else◌, List, [], ◌∷◌, ◌++◌, Option, Some, None}
use Rattle.spl_sorts.specs.hp_word.Words.{word_of}
use Rattle.spl_tree.specs.declared.names_and_places.At.{At}
use Rattle.spl_tree.specs.DeclarationTrees as decl
use Rattle.spl_tree.specs.DeclarationTrees.{Heading, Declaration, Declarations, declarations}
use Rattle.spl_sorts.specs.spl_meaning.Names as n
use Rattle.spl_sorts.specs.spl_meaning.Names.{Names, Sort, Formal, nothing_declared, formals_of}
use Rattle.spl_sorts.specs.spl_meaning.Tables.{Source}
use Rattle.spl_sorts.specs.spl_meaning.Places.{is_own}
use Rattle.spl_sorts.specs.spl_meaning.Pending.{formal_words, formals_words}
use Rattle.spl_sorts.specs.spl_meaning.Bodies.{marker_gap}
use Rattle.spl_formals.specs.spl_found.OwnNames.{behind_declaration}
use Rattle.spl_globals.specs.spl_places.declared.places.Starts.{Starts}
use Rattle.spl_globals.specs.spl_places.ListedData.{Datum, items_data}
use Rattle.spl_globals.specs.spl_places.Spots.{behind_item, frame_starts}
use Rattle.spl_globals.specs.spl_areas.Gathered.{items_under}
use Rattle.spl_globals.specs.declared.areas.Areas.{Areas}
use Rattle.spl_globals.specs.Stored.{first_areas, global_starts, behind_owns, behind_globals}
use Rattle.spl_entries.specs.declared.place_type.Place.{Place}

-- ---- parameters

-- a parameter that begins so many words below a base
abbrev pub parameter_entry : At → ℕ → Place
parameter_entry at words = record { at = at; word = word_of (neg_ℤ (pos words)); array = None }

-- parameters below a base that is `gap` words above the last of them
abbrev pub parameter_entries : ℕ → List Formal → List Place
parameter_entries gap [] = []
parameter_entries gap (f ∷ fs) = parameter_entry f.at (gap + formal_words f + formals_words fs) ∷ parameter_entries gap fs

-- ---- items

-- the data of an array begin where the next array's data do
abbrev pub array_word : Starts → Sort → Option ℕ
array_word at (n.array k own low high) = Some (word_of (pos (if own then at.own_arrays else at.here_arrays)))
array_word at _ = None

-- an item stands where the next item does
abbrev pub item_entry : Starts → Datum → Place
item_entry at d = record { at = d.at; word = word_of (pos (if is_own d.sort then at.own else at.here)); array = array_word at d.sort }

-- items one behind the other
abbrev pub item_entries : Starts → List Datum → List Place
item_entries at [] = []
item_entries at (d ∷ ds) = item_entry at d ∷ item_entries (behind_item at d.sort) ds

-- ---- procedures and subroutines

-- the parameters of a subroutine stand below its return word
abbrev pub inner_entries : Declaration → List Place
inner_entries (decl.Declaration.subroutine h s) = parameter_entries 0 (formals_of h)
inner_entries d = []

abbrev pub subroutines_entries : Declarations → List Place
subroutines_entries decl.none = []
subroutines_entries (decl.and d ds) = inner_entries d ++ subroutines_entries ds

-- the items of a procedure, of which those that are OWN stand at these addresses
abbrev pub frame_entries : ℕ → ℕ → List Datum → List Place
frame_entries own own_arrays ds = item_entries (frame_starts own own_arrays ds) ds

-- a procedure, with the names outside it: its parameters, its items, and the parameters of its subroutines
abbrev pub procedure_entries : Names → Areas → Heading → Declarations → List Place
procedure_entries outer at h ds =
    parameter_entries marker_gap (formals_of h) ++ frame_entries at.own at.own_arrays (items_under outer h ds) ++ subroutines_entries ds

-- a declaration that is one, with the names behind its heading
abbrev pub bodies_entries : Names → Areas → Declaration → List Place
bodies_entries here at (decl.Declaration.procedure h items ss) = procedure_entries here at h items
bodies_entries here at d = inner_entries d

abbrev pub bodies_behind : Names → Areas → Declaration → Areas
bodies_behind here at (decl.Declaration.procedure h items ss) = behind_owns at (items_under here h items)
bodies_behind here at d = at

-- ---- lists of units

-- a declaration in a unit's list, with the names outside the list and those before it
abbrev pub entries_in : Names → Names → Areas → Declaration → List Place
entries_in outer here at (decl.Declaration.data_items own k items) = item_entries (global_starts at) (items_data outer own k here items)
entries_in outer here at d = bodies_entries (behind_declaration outer here d) at d

-- where the next data stand
abbrev pub areas_behind : Names → Names → Areas → Declaration → Areas
areas_behind outer here at (decl.Declaration.data_items own k items) = behind_globals at (items_data outer own k here items)
areas_behind outer here at d = bodies_behind (behind_declaration outer here d) at d

-- declarations in order
abbrev pub entries_among : Names → Names → Areas → Declarations → List Place
entries_among outer here at decl.none = []
entries_among outer here at (decl.and d ds) =
    entries_in outer here at d ++ entries_among outer (behind_declaration outer here d) (areas_behind outer here at d) ds

abbrev pub areas_among : Names → Names → Areas → Declarations → Areas
areas_among outer here at decl.none = at
areas_among outer here at (decl.and d ds) = areas_among outer (behind_declaration outer here d) (areas_behind outer here at d) ds

-- units in order
abbrev pub units_entries : Areas → List Source → List Place
units_entries at [] = []
units_entries at (u ∷ us) =
    let ds = declarations u.tree.items in
    entries_among nothing_declared nothing_declared at ds ++ units_entries (areas_among nothing_declared nothing_declared at ds) us

-- a program
abbrev pub entries_of : List Source → List Place
entries_of us = units_entries (first_areas us) us
