-- The law of this crate.
use Rattle.std.specs.Prelude.{◌≡◌, ℕ, false, List, None}
use Rattle.spl_sound_programs.specs.spl_linked_names.hp_program.declared.program.Program.{Program}
use Rattle.spl_sound_programs.specs.spl_linked_names.spl_meaning.Tables.{Source}
use Rattle.spl_sound_programs.specs.spl_linked_names.spl_meaning.Runs.{Seat, is_lost}
use Rattle.spl_sound_programs.specs.spl_sound_bodies.spl_branch.declared.modules.Module.{Module}
use Rattle.spl_sound_programs.specs.spl_linked_names.mpe_segmenter.Faults.{first_fault}
use Rattle.spl_sound_programs.specs.spl_linked_names.spl_places.Programs.{Each}
use Rattle.spl_sound_programs.specs.spl_linked_names.spl_bounds.Segments.{NumbersSegments}
use Rattle.spl_sound_programs.specs.spl_linked_names.spl_bounds.Programs.{IsOf}
use Rattle.spl_sound_programs.specs.spl_sound_bodies.spl_ruled_bodies.Laws.{AreShaped}

-- Of units that tokens spell, that break no rule and pass no limit, and whose modules have no fault, no run is ever lost, whatever its seat and its steps.
abbrev pub SoundProgramsAreNeverLost : Type 0
SoundProgramsAreNeverLost = (us : List Source) (ms : List Module) (globals : List ℕ) (p : Program) → IsOf us ms globals p → Each NumbersSegments us
    → AreShaped us → first_fault ms ≡ None → (seat : Seat) (n : ℕ) → is_lost us seat n ≡ false
