-- Where the units of a program that breaks no rule begin: their data and their rooms.
use Rattle.std.specs.Prelude.{◌≡◌, ℕ, ◌++◌, true, List, [], drop}
use Rattle.spl_sound_labels.specs.spl_meaning.Tables.{Source, routines_of, unit_subroutines}
use Rattle.spl_sound_labels.specs.spl_meaning.Limits.{joined}
use Rattle.spl_sound_labels.specs.spl_meaning.Bodies.{Reached}
use Rattle.spl_sound_labels.specs.spl_places.Programs.{Each, NewInUnit, NewInRoutine}
use Rattle.spl_routine_code.specs.spl_rooms.declared.room_type.Room.{Room}
use Rattle.spl_routine_code.specs.spl_rooms.Rooms.{rooms_in}
use Rattle.spl_routine_code.specs.spl_body_scopes.Units.{UnitsLeft}
use Rattle.spl_unit_laws.specs.declared.cursors.Start.{Start}

-- no subprogram has a subroutine
abbrev pub NoInnersIn : Source → Type 0
NoInnersIn u = u.subprogram ≡ true → unit_subroutines u ≡ []

-- a unit whose data and rooms begin at `at`: each name is new in its lists, and its rooms are the next ones
pub record UnitBegins (rooms : List Room) (u : Source) (at : Start) : Type 0 where
  pub reached : Reached
  pub new : NewInUnit u
  pub new_routines : Each NewInRoutine (routines_of u)
  pub primary : reached.primary ≡ at.primary
  pub own : reached.own ≡ at.own
  pub own_arrays : reached.own_arrays ≡ at.own_arrays
  pub inners : NoInnersIn u
  pub others : List Room
  pub rooms_are : drop at.room rooms ≡ rooms_in u ++ others

-- the units that are left of a program, behind others
pub record UnitsBegin (rooms : List Room) (us : List Source) (at : Start) : Type 0 where
  pub all : List Source
  pub before : ℕ
  pub left : UnitsLeft all before at.primary at.own us
  pub own_arrays : at.own_arrays ≡ left.at.own_arrays
  pub inners : Each NoInnersIn us
  pub rooms_are : drop at.room rooms ≡ joined rooms_in us
