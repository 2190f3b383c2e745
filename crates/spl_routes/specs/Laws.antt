-- The laws of this crate.
use Rattle.std.specs.Prelude.{◌≡◌, ℕ, true, false, List, Some}
use Rattle.std.specs.List.{slice_get}
use Rattle.spl_routines.specs.hp_program.declared.program.Program.{Program}
use Rattle.spl_routines.specs.hp_steady.Laws.{WordsAreNear}
use Rattle.spl_routines.specs.spl_meaning.Tables.{Source}
use Rattle.spl_routines.specs.spl_meaning.Bodies.{Named, program_of, body_named}
use Rattle.spl_routines.specs.spl_meaning.Sound.{IsSound}
use Rattle.spl_routines.specs.spl_branch.declared.modules.Module.{Module}
use Rattle.spl_routines.specs.spl_scopes.Entries.{module_entries, procedure_index}
use Rattle.spl_routines.specs.spl_scopes.Scopes.{Placed, first_reached, placed_units, routine_bodies}
use Rattle.spl_sound_jumps.specs.Laws.{Lands}
use Rattle.spl_routines.specs.Among.{IsIn}
use Rattle.spl_routines.specs.Located.{MadeOf, Located, sites_at, wants_at}
use Rattle.spl_routes.specs.Found.{Finds}
use Rattle.spl_routes.specs.Unique.{are_unique}

-- In each module the entry of a name leads to the procedure of that name.
abbrev pub EntriesFind : Type 0
EntriesFind = (us : List Source) (p : Program) (near : WordsAreNear p) (ms : List Module) → MadeOf us p ms
    → (q : Placed) → IsIn q (placed_units (first_reached us) us) → (g : ℕ) (at : Located ms q g) (x : List ℕ) (index : ℕ)
    → procedure_index (module_entries q.unit g) x ≡ Some index → Finds us p near ms ((sites_at at).ways false index) x

-- And so does a name that it wants, which is no intrinsic's.
abbrev pub WantsFind : Type 0
WantsFind = (us : List Source) (p : Program) (near : WordsAreNear p) (ms : List Module) → MadeOf us p ms
    → (q : Placed) (g : ℕ) (at : Located ms q g) (x : List ℕ) (index : ℕ)
    → slice_get (wants_at at) index ≡ Some (record { name = x; gate = false }) → Finds us p near ms ((sites_at at).ways true index) x

-- In units that break no rule labels and jumps of each procedure lead somewhere.
abbrev pub RoutinesLand : Type 0
RoutinesLand = (us : List Source) → IsSound us → (q : Placed) → IsIn q (placed_units (first_reached us) us) → (i : ℕ) (b : Named)
    → slice_get (routine_bodies q) i ≡ Some b → Lands b.body.statements

-- Where no two procedures have the same name, the procedure of a unit is the one of its name in the program.
abbrev pub NamesMean : Type 0
NamesMean = (us : List Source) → are_unique us ≡ true → (q : Placed) → IsIn q (placed_units (first_reached us) us) → (i : ℕ) (b : Named)
    → slice_get (routine_bodies q) i ≡ Some b → body_named (program_of us).procedures b.name ≡ Some b.body
