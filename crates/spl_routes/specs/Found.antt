-- To which procedure a way leads.
use Rattle.std.specs.Prelude.{◌≡◌, ℕ, List, Some}
use Rattle.std.specs.List.{slice_get}
use Rattle.spl_routines.specs.hp_program.declared.program.Program.{Program}
use Rattle.spl_routines.specs.hp_steady.Laws.{WordsAreNear}
use Rattle.spl_routines.specs.spl_meaning.Tables.{Source}
use Rattle.spl_routines.specs.spl_meaning.Bodies.{Named}
use Rattle.spl_routines.specs.spl_branch.declared.modules.Module.{Module}
use Rattle.spl_routines.specs.spl_scopes.Entries.{routine}
use Rattle.spl_routines.specs.spl_scopes.Scopes.{Placed, first_reached, placed_units, routine_bodies, body_segment}
use Rattle.spl_routines.specs.spl_follow.Doing.{Way, body}
use Rattle.spl_routines.specs.Among.{IsIn}
use Rattle.spl_routines.specs.Located.{Located, sites_at}
use Rattle.spl_routines.specs.Routines.{RoutineStands}

-- A way leads to the procedure of a name: to the entry at which the code of a procedure with this name stands, of one of these units.
pub record Finds (us : List Source) (p : Program) (near : WordsAreNear p) (ms : List Module) (way : Way) (x : List ℕ) : Type 0 where
  pub unit : Placed
  pub among : IsIn unit (placed_units (first_reached us) us)
  pub number : ℕ
  pub named : Named
  pub there : slice_get (routine_bodies unit) number ≡ Some named
  pub name : named.name ≡ x
  pub at : Located ms unit (body_segment unit.unit (routine number))
  pub stands : RoutineStands p near at number named
  pub leads : way ≡ body ((sites_at at).marks stands.entry)
