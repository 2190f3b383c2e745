-- Below what parameters stand.
use Rattle.std.specs.Prelude.{ℕ}
use Rattle.spl_sorts.specs.spl_meaning.Places.{Place, below_base, below_return}
use Rattle.spl_sorts.specs.spl_meaning.Bodies.{marker_gap}
use Rattle.spl_body_scopes.specs.declared.places.Base.{Base}
use Rattle.spl_body_scopes.specs.declared.places.Base.TheVariants as base

-- so many words below the marker of a procedure, or below the return word of a subroutine
abbrev pub below_in : Base → ℕ → Place
below_in base.Marker n = below_base n
below_in base.Return n = below_return n

-- the words between the last parameter and what these words are counted from
abbrev pub gap_of : Base → ℕ
gap_of base.Marker = marker_gap
gap_of base.Return = 0
