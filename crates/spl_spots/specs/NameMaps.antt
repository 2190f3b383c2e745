-- Maps by names, and what names have in a list behind what they had.
use Rattle.std.specs.Prelude.{ℕ, List, map, Option, option_map}
use Rattle.arrayvec.specs.ArrayVec.{ArrayVec}
use Rattle.spl_sorts.specs.spl_meaning.Names.{Table, find, or_else}
use Rattle.spl_spots.specs.declared.name_maps.NameMap.{NameMap}

-- a name with its value
abbrev pub entry_of : {V : Type 0} → ArrayVec ℕ × V → List ℕ × V
entry_of e = (e.0.items, e.1)

-- the names of a map in order, with their values
abbrev pub entries_of : {V : Type 0} → NameMap V → Table V
entries_of m = map entry_of m.names.entries

-- what names have, seen through f
unfoldable pub shown : {V A : Type 0} → (V → A) → (List ℕ → Option V) → List ℕ → Option A
shown f has x = option_map f (has x)

-- what names had, and what a list has for the others
unfoldable pub behind_table : {A : Type 0} → (List ℕ → Option A) → Table A → List ℕ → Option A
behind_table has t x = or_else (has x) (find t x)
