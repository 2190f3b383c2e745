-- The words of a program's segments.
use Rattle.std.specs.Prelude.{ℕ, List, [], slice_get, Option, option_and_then, unwrap_or, map}
use Rattle.hp_program.specs.declared.program.Program.{Program}

-- the words of each segment
abbrev pub segments_of : Program → List (List ℕ)
segments_of p = map (λ s. s.items) p.segments.items

-- the words of a segment; none of one that is not there
abbrev pub words_of : List (List ℕ) → ℕ → List ℕ
words_of segments seg = unwrap_or (slice_get segments seg) []

-- the word at an offset of a segment; none from the segment's size on
unfoldable pub code_word : List (List ℕ) → ℕ → ℕ → Option ℕ
code_word segments seg p = option_and_then (λ words. slice_get words p) (slice_get segments seg)
