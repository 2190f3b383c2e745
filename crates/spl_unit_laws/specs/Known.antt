-- What is known of a unit while its code grows along its declarations.
use Rattle.std.specs.Prelude.{ℕ, List, None}
use Rattle.spl_routine_code.specs.spl_rooms.declared.room_type.Room.{Room}
use Rattle.spl_unit_codes.specs.spl_modules.Entered.{Indexes}
use Rattle.spl_routine_code.specs.spl_body_scopes.Levels.{Level}
use Rattle.spl_routine_code.specs.spl_body_scopes.Results.{result_of}
use Rattle.spl_routine_code.specs.Routines.{Around}
use Rattle.spl_unit_codes.specs.declared.growing.Growing.{Growing}
use Rattle.spl_unit_laws.specs.declared.cursors.Cursor.{Cursor}

-- what stays the same for a whole unit
pub record Fixed : Type 0 where
  -- the segment of its main body
  pub segment : ℕ
  -- the level of its list, behind all declarations
  pub whole : Level
  -- the indexes of the procedures of each segment, of each procedure's subroutines by its number, and of the main body's
  pub procedures : ℕ → Indexes
  pub inner : ℕ → Indexes
  pub main_inner : Indexes
  -- the rooms of all bodies of the program
  pub rooms : List Room

-- what is known between two declarations
pub record Known : Type 0 where
  -- the names declared so far, with the places of all globals
  pub level : Level
  -- how many procedures there are so far, where the next OWN item stands, and which rooms the next procedure and the next subroutine of the main
  -- body have; and the code of each segment
  pub at : Cursor
  pub parts : List Growing

-- what stands around the subroutines of the main body
abbrev pub main_around : Fixed → Around
main_around f = record {
  own = f.whole;
  outer = f.whole;
  result = result_of None;
  calls = record { procedures = f.procedures f.segment; subroutines = f.main_inner };
}
