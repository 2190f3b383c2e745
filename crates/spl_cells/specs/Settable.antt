-- Which cells and initial values the code at a procedure's entry sets as the run does; of a program this can be tested.
use Rattle.std.specs.Prelude.{ℕ, ◌+◌, ◌&&◌, nat_lt, nat_le, Bool, true, false, ℤ, List, [], ◌∷◌}
use Rattle.spl_procedures.specs.spl_tree.declared.expressions.Kind.{Kind}
use Rattle.spl_procedures.specs.spl_meaning.Kinds.{width}
use Rattle.spl_procedures.specs.spl_meaning.Places.{Place, data_word, above_base, below_base, below_return, Cell, Initial}
use Rattle.spl_procedures.specs.spl_meaning.Bodies.{Body}

-- So many words stand, from a place on, among so many local words, which begin at the word above the base; and an instruction reaches the first.
abbrev pub is_local : ℕ → ℕ → Place → Bool
is_local words count (above_base n) = nat_lt 0 n && nat_le (n + count) (words + 1) && nat_lt n 128
is_local words count (data_word a) = false
is_local words count (below_base n) = false
is_local words count (below_return n) = false

-- an array's data have an address, or stand above the base
abbrev pub has_origin : Place → Bool
has_origin (data_word a) = true
has_origin (above_base n) = true
has_origin (below_base n) = false
has_origin (below_return n) = false

-- a cell, which is a local word
abbrev pub is_cell_settable : ℕ → Cell → Bool
is_cell_settable words c = is_local words 1 c.place && has_origin c.array.from

abbrev pub cells_settable : ℕ → List Cell → Bool
cells_settable words [] = true
cells_settable words (c ∷ cs) = is_cell_settable words c && cells_settable words cs

-- initial values of a local item: it is a simple one, and has one at most
abbrev pub values_settable : ℕ → Place → Kind → List ℤ → Bool
values_settable words from k [] = true
values_settable words from k (v ∷ []) = is_local words (width k) from
values_settable words from k (v ∷ u ∷ vs) = false

abbrev pub initials_settable : ℕ → List Initial → Bool
initials_settable words [] = true
initials_settable words (i ∷ is) = values_settable words i.from i.kind i.values && initials_settable words is

-- the cells and the initial values of a procedure's body
abbrev pub are_settable : Body → Bool
are_settable b = cells_settable b.words b.cells && initials_settable b.words b.initials
