-- Lists of declarations as the meaning of sources has them.
use Rattle.std.specs.Prelude.{ℕ, List, map}
use Rattle.arrayvec.specs.ArrayVec.{ArrayVec}
use Rattle.spl_meaning.specs.Names as n
use Rattle.spl_sorts.specs.declared.sorts.Sort.{Sort}
use Rattle.spl_sorts.specs.declared.tables.Table.{Table}
use Rattle.spl_sorts.specs.declared.tables.Names.{Names}
use Rattle.spl_sorts.specs.Sorts.{sort_of}

-- a name with what it stands for
abbrev pub entry_of : ArrayVec ℕ × Sort → List ℕ × n.Sort
entry_of e = (e.0.items, sort_of e.1)

-- the names of a list, in order
abbrev pub table_of : Table → n.Table n.Sort
table_of t = map entry_of t.names.entries

-- what a name stands for at a place
abbrev pub names_of : Names → n.Names
names_of s x = n.or_else (n.find (table_of s.inner.now) x) (n.or_else (n.find (table_of s.own.now) x) (n.find (table_of s.outer.now) x))
