-- The laws of this crate.
use Rattle.std.specs.Prelude.{◌≡◌, ℕ, List, Some}
use Rattle.std.specs.List.{slice_get}
use Rattle.spl_carries.specs.hp_program.declared.program.Program.{Program}
use Rattle.spl_ways.specs.hp_steady.Laws.{WordsAreNear}
use Rattle.spl_carries.specs.spl_meaning.Names.{find}
use Rattle.spl_carries.specs.spl_meaning.Tables.{Source}
use Rattle.spl_carries.specs.spl_meaning.Bodies.{Named}
use Rattle.spl_ways.specs.spl_branch.declared.modules.Module.{Module}
use Rattle.spl_label_marks.specs.spl_scopes.Entries.{routine}
use Rattle.spl_label_marks.specs.spl_scopes.Scopes.{Placed, first_reached, placed_units, routine_bodies, body_segment}
use Rattle.spl_label_marks.specs.spl_module_code.Modules.{numbered}
use Rattle.spl_endings.specs.Gates.{GatesLead}
use Rattle.spl_routines.specs.Among.{IsIn}
use Rattle.spl_routines.specs.Located.{MadeOf, Located, sites_at, wants_at}
use Rattle.spl_routines.specs.Routines.{RoutineStands}

-- In a program of modules the code of each procedure stands in each module that has the code of its unit in its segment.
abbrev pub RoutinesStand : Type 0
RoutinesStand = (us : List Source) (p : Program) (near : WordsAreNear p) (ms : List Module) → MadeOf us p ms
    → (q : Placed) → IsIn q (placed_units (first_reached us) us) → (i : ℕ) (b : Named) → slice_get (routine_bodies q) i ≡ Some b
    → (at : Located ms q (body_segment q.unit (routine i))) → RoutineStands p near at i b

-- And there is such a module, where the procedure's segment is the first of its name in its unit.
abbrev pub RoutinesAreThere : Type 0
RoutinesAreThere = (us : List Source) (p : Program) (near : WordsAreNear p) (ms : List Module) → MadeOf us p ms
    → (q : Placed) → IsIn q (placed_units (first_reached us) us) → (i : ℕ) (b : Named) → slice_get (routine_bodies q) i ≡ Some b
    → (x : List ℕ) → find (numbered 0 q.unit.segments) x ≡ Some (body_segment q.unit (routine i))
    → (at : Located ms q (body_segment q.unit (routine i))) × RoutineStands p near at i b

-- In each module a name of an intrinsic that it wants leads to where that one is served.
abbrev pub GatesAreServed : Type 0
GatesAreServed = (us : List Source) (p : Program) (ms : List Module) → MadeOf us p ms → (q : Placed) (g : ℕ) (at : Located ms q g)
    → GatesLead (sites_at at) (wants_at at)
