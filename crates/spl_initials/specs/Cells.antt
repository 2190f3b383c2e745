-- The cells and initial values of a list by look-ups of places and arrays.
use Rattle.std.specs.Prelude.{ℕ, Bool, false, if◌then◌else◌, List, [], ◌∷◌, ◌++◌, map, Option}
use Rattle.spl_tree.specs.declared.expressions.Kind.{Kind}
use Rattle.spl_tree.specs.DeclarationTrees as decl
use Rattle.spl_tree.specs.DeclarationTrees.{Item, Declaration, Declarations}
use Rattle.spl_sorts.specs.spl_meaning.Names as n
use Rattle.spl_sorts.specs.spl_meaning.Names.{Names, Sort, find, same_flag, constant_or_zero}
use Rattle.spl_sorts.specs.spl_meaning.Tables.{shaped}
use Rattle.spl_sorts.specs.spl_meaning.Places.{Place, Array, Cell, Initial, is_own, is_byte_kind, cell_with, start_of, initial_at}
use Rattle.spl_places.specs.spl_found.OwnNames.{over, with_name, behind_declaration}
use Rattle.spl_places.specs.ListedData.{Datum}
use Rattle.spl_places.specs.declared.places.ListPlaces.{ListPlaces}
use Rattle.spl_places.specs.NameMaps.{entries_of, shown}
use Rattle.spl_places.specs.Spots.{spot_of, array_of}

-- the place that each name has, and the array
pub record Found : Type 0 where
  pub place : List ℕ → Option Place
  pub array : List ℕ → Option Array

-- in the places of a list
abbrev pub found_in : ListPlaces → Found
found_in l = record { place = shown spot_of (find (entries_of l.places)); array = shown array_of (find (entries_of l.arrays)) }

-- the cell of an array, or of a view of one
abbrev pub cell_by : Found → List ℕ → Sort → List Cell
cell_by f x (n.array k own low high) = cell_with (f.place x) false (f.array x)
cell_by f x (n.view k own base) = cell_with (f.place x) (is_byte_kind k) (f.array base)
cell_by f x _ = []

-- the cell of an item, where it is OWN as is asked
abbrev pub item_cell : Bool → Found → Datum → List Cell
item_cell own f d = if same_flag own (is_own d.sort) then cell_by f d.name d.sort else []

-- the cells of items in order
abbrev pub cells_by : Bool → Found → List Datum → List Cell
cells_by own f [] = []
cells_by own f (d ∷ ds) = item_cell own f d ++ cells_by own f ds

-- the initial values of an item, read with the names before it
abbrev pub item_initial : Names → Kind → Found → Names → Item → List Initial
item_initial outer k f here i = initial_at (start_of (f.place i.name) (f.array i.name)) k (map (constant_or_zero (over here outer)) i.first)

-- the initial values of items in order
abbrev pub initials_of_items : Names → Bool → Kind → Found → Names → List Item → List Initial
initials_of_items outer own k f here [] = []
initials_of_items outer own k f here (i ∷ is) =
    item_initial outer k f here i ++ initials_of_items outer own k f (with_name here i.name (shaped (over here outer) own k i.shape)) is

-- the initial values of a declaration, where its items are OWN as is asked
abbrev pub initials_of_declaration : Bool → Names → Found → Names → Declaration → List Initial
initials_of_declaration own outer f here (decl.Declaration.data_items kept k items) =
    if same_flag own kept then initials_of_items outer kept k f here items else []
initials_of_declaration own outer f here d = []

-- the initial values of declarations in order
abbrev pub initials_by : Bool → Names → Found → Names → Declarations → List Initial
initials_by own outer f here decl.none = []
initials_by own outer f here (decl.and d ds) =
    initials_of_declaration own outer f here d ++ initials_by own outer f (behind_declaration outer here d) ds
