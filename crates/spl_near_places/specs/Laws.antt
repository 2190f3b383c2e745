-- The laws of this crate.
use Rattle.std.specs.Prelude.{◌≡◌, ℕ, ◌||◌, true, false, List, [], None, Some}
use Rattle.spl_sound_names.specs.spl_meaning.Names.{Sort, Table, find, parameters, formals_of}
use Rattle.spl_sound_names.specs.spl_meaning.Places.{Place}
use Rattle.spl_sound_names.specs.spl_meaning.Tables.{Source, Routine, Subroutine, routine_table}
use Rattle.spl_sound_names.specs.spl_meaning.Bodies.{Body, subroutine_body, procedure_body}
use Rattle.spl_sound_names.specs.spl_meaning.DeclarationRules.{heading_faults, local_faults, procedure_scope}
use Rattle.spl_sound_names.specs.spl_meaning.Limits.{first_full}
use Rattle.spl_sound_names.specs.spl_meaning.Sound.{IsSound}
use Rattle.spl_scopes.specs.Scopes.{Placed, unit_at}
use Rattle.spl_sound_names.specs.Known.{is_known, is_item, is_passed}
use Rattle.spl_near_places.specs.Near.{PlacesAreNear, is_framed, BodiesAreNear}

-- In units that break no rule and pass no limit each name and each result of a main body or a procedure stands where a mode of the machine reaches.
abbrev pub BodiesOfUnitsAreNear : Type 0
BodiesOfUnitsAreNear = (us : List Source) → IsSound us → first_full us ≡ None → (i : ℕ) (p : Placed) → unit_at us i ≡ Some p → BodiesAreNear p

-- So it is in the subroutines of such a body.
abbrev pub SubroutinesAreNear : Type 0
SubroutinesAreNear = (b : Body) (s : Subroutine) → b.here.setting.inside ≡ false → PlacesAreNear b.here → PlacesAreNear (subroutine_body b s).here

-- In a split procedure whose heading and list break no rule the items and parameters of its list stand in its frame: none is OWN.
abbrev pub SplitNamesAreFramed : Type 0
SplitNamesAreFramed = (globals : Table Place) (own own_arrays : ℕ) (r : Routine) → r.heading.split ≡ true
    → ((x : List ℕ) (s : Sort) → find r.globals x ≡ Some s → is_known s ≡ true) → heading_faults r.heading.split r.heading ≡ []
    → local_faults (record { names = find r.globals; in_procedure = true; split = r.heading.split; subprogram = false })
    (procedure_scope r.globals r.heading r.items) (parameters (formals_of r.heading)) r.items ≡ []
    → (x : List ℕ) (s : Sort) (p : Place) → find (routine_table r) x ≡ Some s → (is_item s || is_passed s) ≡ true
    → (procedure_body globals own own_arrays r).here.places x ≡ Some p → is_framed p ≡ true
