-- A list of words as data words by their addresses.
use Rattle.std.specs.Prelude.{ℕ, List, Option}
use Rattle.std.specs.List.{slice_get}

-- the word at each address below the length; none elsewhere
unfoldable pub memory_of : List ℕ → ℕ → Option ℕ
memory_of words a = slice_get words a
