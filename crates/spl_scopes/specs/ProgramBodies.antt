-- The bodies of a program by its units.
use Rattle.std.specs.Prelude.{◌≡◌, List, [], ◌∷◌, Option, None}
use Rattle.spl_code.specs.spl_meaning.Names.{or_else}
use Rattle.spl_code.specs.spl_meaning.Tables.{Source}
use Rattle.spl_code.specs.spl_meaning.Bodies.{Body, program_of}
use Rattle.spl_code.specs.spl_meaning.Limits.{joined}
use Rattle.spl_scopes.specs.Entries.{main}
use Rattle.spl_scopes.specs.Scopes.{Placed, first_reached, placed_units, routine_bodies, outer_body}

-- the main body of the first unit that has one
abbrev pub first_main : List Placed → Option Body
first_main [] = None
first_main (p ∷ ps) = or_else (outer_body p main) (first_main ps)

-- the procedures of a program are those of its units, in order
abbrev pub ProceduresAreOfUnits : Type 0
ProceduresAreOfUnits = (us : List Source) → (program_of us).procedures ≡ joined routine_bodies (placed_units (first_reached us) us)

-- and its main body is that of the first unit that has one
abbrev pub MainIsOfUnits : Type 0
MainIsOfUnits = (us : List Source) → (program_of us).main ≡ first_main (placed_units (first_reached us) us)
