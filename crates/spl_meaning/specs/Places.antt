-- Where data stand: places, cells of arrays, initial values, and the areas of a program.
use Rattle.std.specs.Prelude.{ℕ, suc, ◌+◌, ◌*◌, ◌/◌, ◌%◌, ℤ, pos, ◌-ℤ◌, ◌*ℤ◌, int_lt, unsigned_abs, Bool, true, false, if◌then◌else◌, nat_eq, nat_lt, List, [], ◌∷◌, ◌++◌, map, Option, Some, None}
use Rattle.hp_word.specs.Words.{word_of, double_of}
use Rattle.hp_word.specs.Bytes.{with_byte, high_word, low_word}
use Rattle.spl_tree.specs.declared.expressions.Kind.{Kind}
use Rattle.spl_tree.specs.declared.expressions.Kind.TheVariants as kind
use Rattle.spl_tree.specs.DeclarationTrees as decl
use Rattle.spl_tree.specs.DeclarationTrees.{Declaration, Declarations, Item, declarations}
use Rattle.spl_meaning.specs.Names as n
use Rattle.spl_meaning.specs.Names.{Names, Sort, Table, Formal, same_flag, find, within, constant_or_zero}
use Rattle.spl_meaning.specs.Kinds.{width}
use Rattle.spl_meaning.specs.Tables.{declared, shaped, with_declaration}

-- A place: the address of a data word; or so many words above or below the base, the last word of the live marker, which the machine
-- has in Q; or below the return word of the live subroutine.
pub data Place : Type 0 where
  data_word : ℕ → Place
  above_base : ℕ → Place
  below_base : ℕ → Place
  below_return : ℕ → Place

-- ---- words of items

-- an item that is OWN
abbrev pub is_own : Sort → Bool
is_own (n.simple k own) = own
is_own (n.array k own low high) = own
is_own (n.view k own base) = own
is_own (n.pointer k own) = own
is_own _ = false

-- a variable has the words of its kind; an array, a view and a pointer have a cell
abbrev pub item_words : Sort → ℕ
item_words (n.simple k own) = width k
item_words (n.array k own low high) = 1
item_words (n.view k own base) = 1
item_words (n.pointer k own) = 1
item_words _ = 0

-- the number of elements from low to high
abbrev pub elements : ℤ → ℤ → ℕ
elements low high = if int_lt high low then 0 else suc (unsigned_abs (high -ℤ low))

-- the words of so many elements: two for a DOUBLE, one for two BYTEs, rounded up
abbrev pub elements_words : Kind → ℕ → ℕ
elements_words kind.Double count = 2 * count
elements_words kind.Byte count = (count + 1) / 2
elements_words _ count = count

-- the words of an array's data
abbrev pub array_words : Sort → ℕ
array_words (n.array k own low high) = elements_words k (elements low high)
array_words _ = 0

-- a number of words where the item is OWN or not
abbrev pub where_own : Bool → (Sort → ℕ) → Sort → ℕ
where_own true words s = if is_own s then words s else 0
where_own false words s = if is_own s then 0 else words s

-- the sum of numbers of things
abbrev pub sum : {A : Type 0} → (A → ℕ) → List A → ℕ
sum f [] = 0
sum f (a ∷ as') = f a + sum f as'

-- the words of a list's items, OWN or not; and of its arrays' data
abbrev pub list_words : Bool → Table Sort → ℕ
list_words own table = sum (λ e. where_own own item_words e.1) table

-- the words of a list's arrays, OWN or not
abbrev pub list_array_words : Bool → Table Sort → ℕ
list_array_words own table = sum (λ e. where_own own array_words e.1) table

-- ---- places of items

-- where a list's OWN items and arrays begin, as addresses, and where its other items and arrays do
pub record Starts : Type 0 where
  pub own : ℕ
  pub own_arrays : ℕ
  pub here : ℕ
  pub here_arrays : ℕ

-- an item, or an array's data, after the OWN ones and the others before it
abbrev pub place_of : (ℕ → Place) → Bool → ℕ → ℕ → Place
place_of at true owned here = data_word owned
place_of at false owned here = at here

-- a list of one, or of none
abbrev pub only : {A : Type 0} → Bool → A → List A
only true a = a ∷ []
only false a = []

-- where each item of a list stands
abbrev pub places_from : (ℕ → Place) → ℕ → ℕ → Table Sort → Table Place
places_from at owned here [] = []
places_from at owned here (e ∷ es) =
    only (nat_lt 0 (item_words e.1)) (e.0, place_of at (is_own e.1) owned here)
    ++ places_from at (owned + where_own true item_words e.1) (here + where_own false item_words e.1) es

-- an array's data: where they begin, their kind, and the lower bound
pub record Array : Type 0 where
  pub from : Place
  pub kind : Kind
  pub low : ℤ

-- an item that is an array has data there
abbrev pub array_at : Place → Sort → List Array
array_at from (n.array k own low high) = record { from = from; kind = k; low = low } ∷ []
array_at from _ = []

-- where each array's data of a list stand
abbrev pub arrays_from : (ℕ → Place) → ℕ → ℕ → Table Sort → Table Array
arrays_from at owned here [] = []
arrays_from at owned here (e ∷ es) =
    map (λ a. (e.0, a)) (array_at (place_of at (is_own e.1) owned here) e.1)
    ++ arrays_from at (owned + where_own true array_words e.1) (here + where_own false array_words e.1) es

-- a cell: its place, the array that it leads to, and whether a word array is seen as bytes
pub record Cell : Type 0 where
  pub place : Place
  pub array : Array
  pub as_bytes : Bool

-- whether a kind is BYTE
abbrev pub is_byte_kind : Kind → Bool
is_byte_kind kind.Byte = true
is_byte_kind _ = false

-- a cell where its place and its array are known
abbrev pub cell_with : Option Place → Bool → Option Array → List Cell
cell_with (Some p) as_bytes (Some a) = record { place = p; array = a; as_bytes = as_bytes } ∷ []
cell_with _ as_bytes _ = []

-- the cell of an array, or of a view of one
abbrev pub cell_of : Table Place → Table Array → List ℕ → Sort → List Cell
cell_of places arrays x (n.array k own low high) = cell_with (find places x) false (find arrays x)
cell_of places arrays x (n.view k own base) = cell_with (find places x) (is_byte_kind k) (find arrays base)
cell_of places arrays x _ = []

-- the cells of a list's items that are OWN, or of those that are not
abbrev pub cells_among : Bool → Table Place → Table Array → Table Sort → List Cell
cells_among own places arrays [] = []
cells_among own places arrays (e ∷ es) =
    (if same_flag own (is_own e.1) then cell_of places arrays e.0 e.1 else []) ++ cells_among own places arrays es

-- The word in the cell of an array whose data begin at an address: that address less the lower bound, twice that for a DOUBLE;
-- for a BYTE the byte address less it.
abbrev pub cell_word : Kind → ℤ → ℕ → ℕ
cell_word kind.Double low a = word_of (pos a -ℤ pos 2 *ℤ low)
cell_word kind.Byte low a = word_of (pos (2 * a) -ℤ low)
cell_word _ low a = word_of (pos a -ℤ low)

-- a view of bytes has twice the word
abbrev pub viewed : Bool → ℕ → ℕ
viewed true w = 2 * w % 65536
viewed false w = w

-- ---- initial values

-- initial values from a place on
pub record Initial : Type 0 where
  pub from : Place
  pub kind : Kind
  pub values : List ℤ

-- where initial values begin: at an array's data, or at the item itself
abbrev pub start_of : Option Place → Option Array → Option Place
start_of place (Some a) = Some a.from
start_of place None = place

-- initial values where their place is known
abbrev pub initial_at : Option Place → Kind → List ℤ → List Initial
initial_at None k vs = []
initial_at (Some p) k vs = record { from = p; kind = k; values = vs } ∷ []

-- the initial values of a declaration's items, each read with the names before it: those outside, and the list up to the item
abbrev pub item_initials : Names → Bool → Kind → Table Place → Table Array → Table Sort → List Item → List Initial
item_initials outer own k places arrays table [] = []
item_initials outer own k places arrays table (i ∷ is) =
    initial_at (start_of (find places i.name) (find arrays i.name)) k (map (constant_or_zero (within table outer)) i.first)
    ++ item_initials outer own k places arrays (declared table i.name (shaped (within table outer) own k i.shape)) is

-- the initial values of one declaration, where its items are OWN or where they are not
abbrev pub declaration_initials : Bool → Names → Table Place → Table Array → Table Sort → Declaration → List Initial
declaration_initials own outer places arrays table (decl.Declaration.data_items kept k items) =
    if same_flag own kept then item_initials outer kept k places arrays table items else []
declaration_initials own outer places arrays table d = []

-- the initial values of declarations, behind those of a list
abbrev pub initials_among : Bool → Names → Table Place → Table Array → Table Sort → Declarations → List Initial
initials_among own outer places arrays table decl.none = []
initials_among own outer places arrays table (decl.and d ds) =
    declaration_initials own outer places arrays table d ++ initials_among own outer places arrays (with_declaration outer table d) ds

-- ---- data words

-- the data words and one more, with v at its address
abbrev pub put : ℕ → ℕ → (ℕ → Option ℕ) → ℕ → Option ℕ
put a v mem b = if nat_eq a b then Some v else mem b

-- a data word takes another value; what is none stays none
abbrev pub changed : Option ℕ → ℕ → Option ℕ
changed (Some w) v = Some v
changed None v = None

-- the same data words, of which that at an address has the value v
abbrev pub stored : ℕ → ℕ → (ℕ → Option ℕ) → ℕ → Option ℕ
stored a v mem b = if nat_eq a b then changed (mem b) v else mem b

-- a data word, or zero where there is none
abbrev pub word_or_zero : Option ℕ → ℕ
word_or_zero (Some v) = v
word_or_zero None = 0

-- the data words with a byte at a byte address
abbrev pub put_byte : ℕ → ℕ → (ℕ → Option ℕ) → ℕ → Option ℕ
put_byte b v mem = stored (b / 2) (with_byte b v (word_or_zero (mem (b / 2)))) mem

-- the j-th value of a kind from an address on
abbrev pub put_value : Kind → ℕ → ℕ → ℤ → (ℕ → Option ℕ) → ℕ → Option ℕ
put_value kind.Double a j v mem = stored (a + 2 * j) (high_word (double_of v)) (stored (a + 2 * j + 1) (low_word (double_of v)) mem)
put_value kind.Byte a j v mem = put_byte (2 * a + j) (word_of v % 256) mem
put_value _ a j v mem = stored (a + j) (word_of v) mem

-- values of a kind one behind the other
abbrev pub put_values : Kind → ℕ → ℕ → List ℤ → (ℕ → Option ℕ) → ℕ → Option ℕ
put_values k a j [] mem = mem
put_values k a j (v ∷ vs) mem = put_values k a (suc j) vs (put_value k a j v mem)

-- cells and initial values, where places have these addresses
abbrev pub put_cells : (Place → ℕ) → List Cell → (ℕ → Option ℕ) → ℕ → Option ℕ
put_cells address [] mem = mem
put_cells address (c ∷ cs) mem =
    put_cells address cs (stored (address c.place) (viewed c.as_bytes (cell_word c.array.kind c.array.low (address c.array.from))) mem)

-- all initial values
abbrev pub put_initials : (Place → ℕ) → List Initial → (ℕ → Option ℕ) → ℕ → Option ℕ
put_initials address [] mem = mem
put_initials address (i ∷ is) mem = put_initials address is (put_values i.kind (address i.from) 0 i.values mem)

-- ---- lists with their places

-- a list of declarations with its places, its cells and initial values
pub record Laid : Type 0 where
  pub places : Table Place
  pub cells : List Cell
  pub initials : List Initial

-- Those that are OWN, or those that are not: of declarations behind a list, with names outside it, which make the whole list.
abbrev pub laid : Bool → Names → Table Sort → (ℕ → Place) → Starts → Table Sort → Declarations → Laid
laid own outer before at starts table ds =
    let places = places_from at starts.own starts.here table in
    let arrays = arrays_from at starts.own_arrays starts.here_arrays table in
    record {
      places = places;
      cells = cells_among own places arrays table;
      initials = initials_among own outer places arrays before ds;
    }
