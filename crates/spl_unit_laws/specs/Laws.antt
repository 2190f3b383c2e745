-- What the units of a program come to.
use Rattle.std.specs.Prelude.{◌≡◌, ◌+◌, ℕ, List}
use Rattle.spl_sound_labels.specs.spl_meaning.Tables.{Source}
use Rattle.spl_sound_labels.specs.spl_meaning.Bodies.{global_words, primary_words, global_array_words}
use Rattle.spl_sound_labels.specs.spl_meaning.Sound.{IsSound}
use Rattle.spl_sound_labels.specs.spl_places.Programs.{Each}
use Rattle.spl_routine_code.specs.spl_rooms.declared.room_type.Room.{Room}
use Rattle.spl_routine_code.specs.spl_rooms.Rooms.{rooms_of}
use Rattle.spl_routine_code.specs.spl_branch.declared.modules.Module.{Module}
use Rattle.spl_unit_codes.specs.spl_module_code.Modules.{program_uses, AreModules}
use Rattle.spl_unit_laws.specs.declared.cursors.Start.{Start}
use Rattle.spl_unit_laws.specs.Units.{UnitsStand, OnceInBodies}

-- where the first unit of a program begins
abbrev pub first_start : List Source → Start
first_start us = record { primary = 0; own = global_words us; own_arrays = primary_words us + global_array_words us; room = 0 }

abbrev pub UnitsAreMade : Type 0
UnitsAreMade = (us : List Source) (rooms : List Room) (names : List (List ℕ)) (start : Start) (ms : List Module) → IsSound us → rooms ≡ rooms_of us
    → names ≡ program_uses us → start ≡ first_start us → UnitsStand rooms names us start ms → AreModules us ms

abbrev pub LabelsStandOnce : Type 0
LabelsStandOnce = (us : List Source) → IsSound us → Each OnceInBodies us
