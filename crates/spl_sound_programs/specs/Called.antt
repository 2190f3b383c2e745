-- Programs whose subroutines are covered. Of main bodies and of procedures nothing is asked, but that their subroutines are.
use Rattle.std.specs.Prelude.{ℕ, List, [], ◌∷◌, ◌++◌}
use Rattle.spl_linked_names.specs.spl_meaning.Names as n
use Rattle.spl_linked_names.specs.spl_meaning.Names.{Sort, Table}
use Rattle.spl_linked_names.specs.spl_meaning.Limits.{joined}
use Rattle.spl_linked_names.specs.spl_meaning.Tables.{Source, routine_table, routines_of, unit_table}

-- the names that stand for procedures in a list
abbrev pub procedures_in : Table Sort → List (List ℕ)
procedures_in [] = []
procedures_in ((x, n.procedure p) ∷ t) = x ∷ procedures_in t
procedures_in (e ∷ t) = procedures_in t

-- and those that stand for subroutines
abbrev pub subroutines_in : Table Sort → List (List ℕ)
subroutines_in [] = []
subroutines_in ((x, n.subroutine p) ∷ t) = x ∷ subroutines_in t
subroutines_in (e ∷ t) = subroutines_in t

-- all names of procedures that units declare, with a body or without one
abbrev pub procedure_names : List Source → List (List ℕ)
procedure_names us = joined (λ u. procedures_in (unit_table u)) us

-- all names of subroutines: of main bodies, and of procedures
abbrev pub subroutine_names : List Source → List (List ℕ)
subroutine_names us = joined (λ u. subroutines_in (unit_table u) ++ joined (λ r. subroutines_in (routine_table r)) (routines_of u)) us
