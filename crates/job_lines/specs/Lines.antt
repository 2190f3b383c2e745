-- The lines of a text, and the words of a line.
use Rattle.std.specs.Prelude.{ℕ, ◌-◌, Bool, ◌==◌, ◌||◌, nat_lt, nat_eq, if◌then◌else◌, List, [], ◌∷◌, length, filter, take, slice_index}
use Rattle.std.specs.List.{slice_split, list_all}
use lib.Pointwise.{pointwise}

-- a line that a line feed ends loses one carriage return at its end
abbrev pub without_return : List ℕ → List ℕ
without_return line = if slice_index line (length line - 1) == 13 then take (length line - 1) line else line

-- behind the last line feed there is a line where something stands; it keeps its carriage return
abbrev pub last_line : List ℕ → List (List ℕ)
last_line [] = []
last_line (b ∷ bs) = (b ∷ bs) ∷ []

-- the lines in the parts between line feeds
abbrev pub lines_of_parts : List (List ℕ) → List (List ℕ)
lines_of_parts [] = []
lines_of_parts (part ∷ []) = last_line part
lines_of_parts (part ∷ next ∷ parts) = without_return part ∷ lines_of_parts (next ∷ parts)

-- the lines of a text
unfoldable pub lines : List ℕ → List (List ℕ)
lines text = lines_of_parts (slice_split (λ b. b == 10) text)

-- a blank is a space or a tab
abbrev pub is_blank : ℕ → Bool
is_blank b = (b == 32) || (b == 9)

-- a line of blanks alone, or of nothing
abbrev pub is_blank_line : List ℕ → Bool
is_blank_line line = list_all is_blank line

-- the words of a line, which blanks part
abbrev pub words : List ℕ → List (List ℕ)
words line = filter (λ w. nat_lt 0 (length w)) (slice_split is_blank line)

-- two words are equal
abbrev pub same : List ℕ → List ℕ → Bool
same a b = pointwise nat_eq a b
