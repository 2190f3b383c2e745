-- The law of this crate.
use Rattle.std.specs.Prelude.{◌≡◌, ℕ, ◌+◌, ◌≤◌, Bool, true, List, Some}
use Rattle.spl_mains.specs.hp_program.declared.program.Program.{Program}
use Rattle.spl_callees.specs.hp_steady.Laws.{WordsAreNear}
use Rattle.spl_mains.specs.spl_meaning.Bodies.{Body, program_of}
use Rattle.spl_mains.specs.spl_meaning.Runs.{calls}
use Rattle.spl_mains.specs.spl_meaning.Tables.{Source}
use Rattle.spl_readings.specs.spl_branch.declared.modules.Module.{Module}
use Rattle.spl_readings.specs.spl_scopes.Entries.{Owner, module_entries, subroutine_index}
use Rattle.spl_readings.specs.spl_scopes.Scopes.{Placed, first_reached, placed_units, outer_body, body_segment}
use Rattle.spl_readings.specs.spl_module_code.Bodies.{statements_scope}
use Rattle.spl_mains.specs.spl_carries.Carries.{weight}
use Rattle.spl_mains.specs.spl_follow.Following.{Rate}
use Rattle.spl_mains.specs.spl_follow.Parts.{Exits}
use Rattle.spl_inners.specs.spl_sites.Grounds.{ground_of}
use Rattle.spl_callees.specs.spl_links.Links.{MayCall}
use Rattle.spl_callees.specs.Callees.{surrounded}
use Rattle.spl_inners.specs.spl_routines.Among.{IsIn}
use Rattle.spl_inners.specs.spl_routines.Located.{MadeOf, Located, sites_at, wants_at}
use Rattle.spl_inners.specs.spl_sound_jumps.Laws.{LandsInRoutines, LandsInInners}
use Rattle.spl_callable.specs.Callable.{may_call, is_covered_frame, are_callable, most_words}

-- In a program that modules of units make, a body that is covered with its subroutines may call the procedures of some names and those of its subroutines
-- that have some others, where these procedures may be called: each call does in the machine what it does in the run, whatever number of calls one within
-- another that is. A step of the run pays for as many of the machine as the program weighs; one of the machine lets as many of the run pass as any procedure
-- has local words.
abbrev pub CallablesFollow : Type 0
CallablesFollow = (us : List Source) (p : Program) (near : WordsAreNear p) (ms : List Module) → MadeOf us p ms
    → ((q : Placed) → IsIn q (placed_units (first_reached us) us) → LandsInRoutines q.unit)
    → ((q : Placed) → IsIn q (placed_units (first_reached us) us) → LandsInInners q.unit)
    → (xs ys : List (List ℕ)) → are_callable xs ys us ≡ true
    → (w : Rate) → w.step ≡ weight p → most_words (program_of us).procedures + 8 ≤ w.reach
    → (q : Placed) → IsIn q (placed_units (first_reached us) us) → (o : Owner) (b : Body) → outer_body q o ≡ Some b → (at : Located ms q (body_segment q.unit o))
    → (returns : Bool) → is_covered_frame xs ys (program_of us).procedures (module_entries q.unit (body_segment q.unit o)) o returns b ≡ true
    → (x : Exits) (d : ℕ)
    → MayCall (may_call xs ys (subroutine_index o (module_entries q.unit (body_segment q.unit o)))) (statements_scope (module_entries q.unit (body_segment q.unit o)) o b)
    (surrounded (ground_of p near ms) w (sites_at at) (wants_at at) b.here.setting x) d (calls (program_of us).procedures d b)
