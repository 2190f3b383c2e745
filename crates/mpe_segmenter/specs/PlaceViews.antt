-- What contracts see of names with numbers, and of names that are wanted: the letters of each.
use Rattle.std.specs.Prelude.{ℕ, List, map}
use Rattle.arrayvec.specs.ArrayVec.{ArrayVec}
use Rattle.mpe_segmenter.specs.declared.wants.Key.{Key}
use Rattle.mpe_segmenter.specs.Entries.{Wanted}

-- the letters of a name, with its number
abbrev pub pair_of : ArrayVec ℕ × ℕ → List ℕ × ℕ
pair_of e = (e.0.items, e.1)

abbrev pub placed : List (ArrayVec ℕ × ℕ) → List (List ℕ × ℕ)
placed es = map pair_of es

-- the letters of a name that is wanted, and its kind
abbrev pub seen : Key → Wanted
seen k = record { name = k.name.items; gate = k.gate }
