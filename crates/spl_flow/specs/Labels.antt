-- Labels as tables of declarations: those of the lists around a statement, and those of a body so far.
use Rattle.std.specs.Prelude.{ℕ, not, Bool, List, [], ◌∷◌, Option, is_some}
use Rattle.std.specs.List.{list_any}
use Rattle.spl_tree.specs.DeclarationTrees.{Placed}
use Rattle.spl_sorts.specs.spl_meaning.Names as n
use Rattle.spl_sorts.specs.spl_meaning.Names.{find}
use Rattle.spl_sorts.specs.spl_meaning.Tables.{declared}
use Rattle.spl_sorts.specs.spl_meaning.Faults.{Fault, unless, first_fault}
use Rattle.spl_sorts.specs.declared.tables.Table.{Table}
use Rattle.spl_sorts.specs.Tables.{table_of}

-- whether a table has a name
abbrev pub has : n.Table n.Sort → List ℕ → Bool
has t x = is_some (find t x)

-- which labels some tables have
abbrev pub shown : List Table → List ℕ → Bool
shown ts x = list_any (λ t. has (table_of t) x) ts

-- a table with labels behind its own names
abbrev pub with_labels : n.Table n.Sort → List (List ℕ) → n.Table n.Sort
with_labels t [] = t
with_labels t (x ∷ xs) = with_labels (declared t x n.label) xs

-- the labels of a body so far, and the first fault
abbrev pub Seen : Type 0
Seen = n.Table n.Sort × Option Fault

-- behind one label more. 20: it stands twice.
abbrev pub seen_label : Seen → Placed → Seen
seen_label s x = (declared s.0 x.letters n.label, first_fault s.1 (unless (not (has s.0 x.letters)) 20 x.at))

-- behind labels in order
abbrev pub seen_all : Seen → List Placed → Seen
seen_all s [] = s
seen_all s (x ∷ xs) = seen_all (seen_label s x) xs

-- as a table and a report show it
abbrev pub seen : Table → Option Fault → Seen
seen t f = (table_of t, f)
