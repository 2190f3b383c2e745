-- The laws of this crate.
use Rattle.std.specs.Prelude.{◌≡◌, ℕ, true, List, None}
use Rattle.spl_linked_names.specs.hp_program.declared.program.Program.{Program}
use Rattle.spl_linked_names.specs.spl_meaning.Tables.{Source}
use Rattle.spl_linked_names.specs.spl_meaning.Places.{put_cells, put_initials}
use Rattle.spl_linked_names.specs.spl_meaning.Bodies.{data_words, program_of}
use Rattle.spl_linked_names.specs.spl_meaning.Runs.{global_address, zeros}
use Rattle.spl_sound_bodies.specs.spl_branch.declared.modules.Module.{Module}
use Rattle.spl_linked_names.specs.mpe_segmenter.Faults.{first_fault}
use Rattle.spl_linked_names.specs.spl_places.Programs.{Each}
use Rattle.spl_sound_bodies.specs.spl_initials.Memory.{memory_of}
use Rattle.spl_linked_names.specs.spl_carries.Carries.{Carries}
use Rattle.spl_linked_names.specs.spl_bounds.Segments.{NumbersSegments}
use Rattle.spl_linked_names.specs.spl_bounds.Programs.{IsOf}
use Rattle.spl_sound_bodies.specs.spl_ruled_bodies.Laws.{AreShaped}
use Rattle.spl_linked_names.specs.spl_carried.Covered.{is_covered_program}
use Rattle.spl_sound_programs.specs.Called.{procedure_names, subroutine_names}

-- A program of units that tokens spell, that break no rule and pass no limit, and whose modules have no fault, is covered, whatever it is made of.
abbrev pub SoundProgramsAreCovered : Type 0
SoundProgramsAreCovered = (us : List Source) (ms : List Module) (globals : List ℕ) (p : Program) → IsOf us ms globals p → Each NumbersSegments us
    → AreShaped us → first_fault ms ≡ None → is_covered_program (procedure_names us) (subroutine_names us) us ≡ true

-- So it carries its units.
abbrev pub SoundProgramsCarry : Type 0
SoundProgramsCarry = (us : List Source) (ms : List Module) (globals : List ℕ) (p : Program) → IsOf us ms globals p → Each NumbersSegments us → AreShaped us
    → first_fault ms ≡ None
    → memory_of globals ≡ put_initials global_address (program_of us).initials (put_cells global_address (program_of us).cells (zeros (data_words us)))
    → Carries p us
