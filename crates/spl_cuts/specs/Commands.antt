-- Command lines: what stands behind their `$`.
use Rattle.std.specs.Prelude.{ℕ, Bool, true, false, ◌==◌, ◌&&◌, ◌||◌, nat_lt, nat_le, List, [], ◌∷◌, length, map, filter, drop, take_while, Option, None, Some, option_map, option_and_then, if◌then◌else◌}
use Rattle.std.specs.List.{slice_split, list_all}
use Rattle.spl_tree.specs.Symbols.{is_word}
use Rattle.spl_cuts.specs.Bytes.{is_blank, is_letter, is_digit, is_name_byte, capital, begins}

-- what an option of $CONTROL says; most have no effect
pub data Setting : Type 0 where
  segment : List ℕ → Setting
  subprogram : Setting
  other : Setting

-- a name: a letter, then letters, digits and apostrophes, at most 15 characters in all
abbrev pub is_name : List ℕ → Bool
is_name w = begins is_letter w && list_all is_name_byte w && nat_le (length w) 15

abbrev pub is_number : List ℕ → Bool
is_number w = begins is_digit w && list_all is_digit w

-- the words that blanks part
abbrev pub words : List ℕ → List (List ℕ)
words text = filter (λ w. nat_lt 0 (length w)) (slice_split is_blank text)

-- a name alone
abbrev pub plain : List ℕ → Option Setting
plain n = if is_name n then Some (if is_word (map capital n) "SUBPROGRAM" then subprogram else other) else None

-- a name with a name or number as its value
abbrev pub valued : List ℕ → List ℕ → Option Setting
valued n v =
    if is_name n && (is_name v || is_number v)
    then Some (if is_word (map capital n) "SEGMENT" && is_name v then segment (map capital v) else other) else None

-- the only one of some words, if there is just one
abbrev pub only : List (List ℕ) → Option (List ℕ)
only (w ∷ []) = Some w
only _ = None

-- an option, by the word on each side of its `=`
unfoldable pub setting : List (Option (List ℕ)) → Option Setting
setting (n ∷ []) = option_and_then plain n
setting (n ∷ v ∷ []) = option_and_then (λ n. option_and_then (valued n) v) n
setting _ = None

abbrev pub is_equals : ℕ → Bool
is_equals b = b == 61

abbrev pub is_comma : ℕ → Bool
is_comma b = b == 44

-- the option that stands between two commas; blanks may stand round it and round its `=`
unfoldable pub option : List ℕ → Option Setting
option text = setting (map (λ side. only (words side)) (slice_split is_equals text))

-- all options, if each is one
unfoldable pub options : List (List ℕ) → Option (List Setting)
options [] = Some []
options (x ∷ xs) = option_and_then (λ s. option_map (λ ss. s ∷ ss) (options xs)) (option x)

-- the options of a command: $PAGE and $TITLE have none, and those of $CONTROL are parted by commas
unfoldable pub command_named : List ℕ → List ℕ → Option (List Setting)
command_named name more =
    if is_word name "PAGE" || is_word name "TITLE" then Some [] else
    if is_word name "CONTROL" then options (slice_split is_comma more) else None

-- the options of the command that follows a `$`, and nothing where it is none
unfoldable pub command : List ℕ → Option (List Setting)
command line = let name = take_while is_name_byte line in command_named (map capital name) (drop (length name) line)

-- the segment that is in force behind these options, where one was in force before
abbrev pub segment_after : List ℕ → List Setting → List ℕ
segment_after s [] = s
segment_after s (segment t ∷ os) = segment_after t os
segment_after s (o ∷ os) = segment_after s os

abbrev pub has_subprogram : List Setting → Bool
has_subprogram [] = false
has_subprogram (subprogram ∷ os) = true
has_subprogram (o ∷ os) = has_subprogram os
