-- Programs in which no two procedures have the same name.
use Rattle.std.specs.Prelude.{◌&&◌, ◌||◌, not, Bool, true, false, ℕ, List, [], ◌∷◌}
use Rattle.spl_routines.specs.spl_meaning.Names.{same_name}
use Rattle.spl_routines.specs.spl_meaning.Tables.{Source}
use Rattle.spl_routines.specs.spl_meaning.Bodies.{Named, program_of}

-- one of these procedures has this name
abbrev pub has_named : List ℕ → List Named → Bool
has_named x [] = false
has_named x (b ∷ bs) = same_name x b.name || has_named x bs

-- no two of these have the same
abbrev pub are_apart : List Named → Bool
are_apart [] = true
are_apart (b ∷ bs) = not (has_named b.name bs) && are_apart bs

-- nor have two procedures of a program, whichever units they are of
abbrev pub are_unique : List Source → Bool
are_unique us = are_apart (program_of us).procedures
