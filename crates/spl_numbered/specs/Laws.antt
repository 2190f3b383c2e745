-- The units of texts number their segments.
use Rattle.std.specs.Prelude.{ℕ, ◌≡◌, List, []}
use Rattle.spl_bounds.specs.spl_cuts.Signs.{Listed}
use Rattle.spl_bounds.specs.spl_cuts.Cutting.{CutsWithin}
use Rattle.spl_bounds.specs.spl_cuts.Lexemes.{lexemes}
use Rattle.spl_bounds.specs.spl_reading.Readers.{Got}
use Rattle.spl_bounds.specs.spl_grammar.Verdicts.{Verdict}
use Rattle.spl_bounds.specs.spl_meaning.Tables.{Source}
use Rattle.spl_bounds.specs.Segments.{NumbersSegments}

-- a unit that has the segments of a text, whose tokens spell it
abbrev pub TextsNumberSegments : Type 0
TextsNumberSegments = (n limit : ℕ) (text : List ℕ) (x : Listed) (u : Source) → CutsWithin n limit text x → u.segments ≡ x.segments
    → Verdict (lexemes x) (Got u.tree []) → NumbersSegments u
