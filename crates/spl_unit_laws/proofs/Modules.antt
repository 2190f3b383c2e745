-- The units of a program, from the first on, come to its modules.
use Rattle.std.proofs.Common.{◌≡◌, List, refl, subst}
use Rattle.spl_sound_labels.specs.spl_meaning.Tables.{Source}
use Rattle.spl_sound_labels.specs.spl_meaning.Sound.{IsSound}
use Rattle.spl_sound_labels.proofs.spl_places_proofs.SoundLaws.{sound_new}
use Rattle.spl_routine_code.specs.spl_rooms.declared.room_type.Room.{Room}
use Rattle.spl_routine_code.specs.spl_rooms.Rooms.{rooms_of}
use Rattle.spl_routine_code.specs.spl_scopes.Scopes.{placed_units, first_reached}
use Rattle.spl_unit_codes.specs.spl_module_code.Modules.{AreOf}
use Rattle.spl_sound_labels.proofs.LabelLaws.{sound_labels}
use Rattle.spl_sound_labels.proofs.InnerLaws.{sound_none}
use Rattle.spl_unit_laws.specs.declared.cursors.Start.{Start}
use Rattle.spl_unit_laws.specs.Units.{UnitsStand}
use Rattle.spl_unit_laws.specs.Begins.{UnitsBegin}
use Rattle.spl_unit_laws.specs.Laws.{first_start, UnitsAreMade, LabelsStandOnce}
use Rattle.spl_unit_laws.proofs.UnitMade.{units_made}
use Rattle.spl_unit_laws.proofs.OnceLaws.{units_once}

-- the first unit of a program that breaks no rule
abbrev pub units_first : (us : List Source) (rooms : List Room) → IsSound us → rooms ≡ rooms_of us → UnitsBegin rooms us (first_start us)
units_first us rooms sound has =
    let new = sound_new us sound in
    record {
      all = us;
      before = 0;
      left = record { at = first_reached us; globals_at = refl; owns_at = refl; units = refl; new_units = new.0; new_routines = new.1 };
      own_arrays = refl;
      inners = sound_none us sound;
      rooms_are = has;
    }

pub modules_made : UnitsAreMade
modules_made us rooms names start ms sound has used first stand =
    let here : UnitsStand rooms names us (first_start us) ms = subst (λ (s : Start). UnitsStand rooms names us s ms) first stand in
    subst (λ ns. AreOf ns (placed_units (first_reached us) us) ms) used
    (units_made us (first_start us) names rooms ms (units_first us rooms sound has) here)

pub once : LabelsStandOnce
once us sound = units_once us (sound_labels us sound)
