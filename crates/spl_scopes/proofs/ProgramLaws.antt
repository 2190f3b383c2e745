-- The bodies of units, one unit behind the other, are those of the program.
use Rattle.std.proofs.Common.{ℕ, ◌≡◌, Bool, true, false, List, [], ◌∷◌, ◌++◌, Option, Some, None, refl, ap, if◌then◌else◌}
use Rattle.spl_code.specs.spl_meaning.Names.{or_else}
use Rattle.spl_code.specs.spl_meaning.Tables.{Source}
use Rattle.spl_code.specs.spl_meaning.Bodies.{Body, Named, Reached, reached_behind, program_from, main_body, data_words}
use Rattle.spl_code.specs.spl_meaning.Limits.{joined}
use Rattle.spl_scopes.specs.Scopes.{first_reached, placed_units, routine_bodies, global_places}
use Rattle.spl_scopes.specs.ProgramBodies.{first_main, ProceduresAreOfUnits, MainIsOfUnits}

procedures_from : (words : ℕ) (at : Reached) (us : List Source) → (program_from words at us).procedures ≡ joined routine_bodies (placed_units at us)
procedures_from words at [] = refl
procedures_from words at (u ∷ us) =
    ap (λ (bs : List Named). routine_bodies (record { at = at; unit = u }) ++ bs) (procedures_from words (reached_behind u at) us)

-- a unit with a main body, or the next
chosen : (b : Bool) (m : Body) (r q : Option Body) → r ≡ q → (if b then r else Some m) ≡ or_else (if b then None else Some m) q
chosen true m r q same = same
chosen false m r q same = refl

main_from : (words : ℕ) (at : Reached) (us : List Source) → (program_from words at us).main ≡ first_main (placed_units at us)
main_from words at [] = refl
main_from words at (u ∷ us) =
    chosen u.subprogram (main_body (global_places (record { at = at; unit = u })) u) (program_from words (reached_behind u at) us).main
    (first_main (placed_units (reached_behind u at) us)) (main_from words (reached_behind u at) us)

pub procedures_of_units : ProceduresAreOfUnits
procedures_of_units us = procedures_from (data_words us) (first_reached us) us

pub main_of_units : MainIsOfUnits
main_of_units us = main_from (data_words us) (first_reached us) us
