-- What a list of declarations holds of data, and lists in which no item of data stands behind its own name.
use Rattle.std.specs.Prelude.{◌≡◌, ℕ, Bool, true, false, List, [], ◌∷◌, ◌++◌, None}
use Rattle.spl_tree.specs.declared.expressions.Kind.{Kind}
use Rattle.spl_tree.specs.DeclarationTrees as decl
use Rattle.spl_tree.specs.DeclarationTrees.{Item, Declaration, Declarations}
use Rattle.spl_sorts.specs.spl_meaning.Names as n
use Rattle.spl_sorts.specs.spl_meaning.Names.{Names, Sort, Table, find, within}
use Rattle.spl_sorts.specs.spl_meaning.Tables.{declared, shaped, with_declaration}
use Rattle.spl_sorts.specs.spl_meaning.Places.{only}
use Rattle.spl_places.specs.ListedData.{Datum}

-- a variable, an array, a view or a pointer
abbrev pub is_data : Sort → Bool
is_data (n.simple k own) = true
is_data (n.array k own low high) = true
is_data (n.view k own base) = true
is_data (n.pointer k own) = true
is_data _ = false

-- the items of data in a list
abbrev pub held : Table Sort → Table Sort
held [] = []
held (e ∷ es) = only (is_data e.1) e ++ held es

-- an item with its name
abbrev pub named : Datum → List ℕ × Sort
named d = (d.name, d.sort)

-- each item's name is new in its list
abbrev pub NewItems : Names → Bool → Kind → Table Sort → List Item → Type 0
NewItems outer own k table [] = Unit {0}
NewItems outer own k table (i ∷ is) =
    (find table i.name ≡ None) × NewItems outer own k (declared table i.name (shaped (within table outer) own k i.shape)) is

-- the same of the items of a declaration
abbrev pub NewIn : Names → Table Sort → Declaration → Type 0
NewIn outer table (decl.Declaration.data_items own k items) = NewItems outer own k table items
NewIn outer table d = Unit {0}

-- and of those of declarations behind a list: no item's name stands before it
abbrev pub NewNames : Names → Table Sort → Declarations → Type 0
NewNames outer table decl.none = Unit {0}
NewNames outer table (decl.and d ds) = NewIn outer table d × NewNames outer (with_declaration outer table d) ds
