-- The law of this crate.
use Rattle.std.specs.Prelude.{◌≡◌, true, List, ℕ, None}
use Rattle.spl_bounds.specs.hp_program.declared.program.Program.{Program}
use Rattle.spl_bounds.specs.spl_meaning.Tables.{Source}
use Rattle.spl_bounds.specs.spl_meaning.Places.{put_cells, put_initials}
use Rattle.spl_bounds.specs.spl_meaning.Bodies.{data_words, program_of}
use Rattle.spl_bounds.specs.spl_meaning.Runs.{global_address, zeros}
use Rattle.spl_bounds.specs.spl_branch.declared.modules.Module.{Module}
use Rattle.spl_bounds.specs.mpe_segmenter.Faults.{first_fault}
use Rattle.spl_bounds.specs.spl_places.Programs.{Each}
use Rattle.spl_bounds.specs.spl_initials.Memory.{memory_of}
use Rattle.spl_bounds.specs.spl_carries.Carries.{Carries}
use Rattle.spl_bounds.specs.Segments.{NumbersSegments}
use Rattle.spl_bounds.specs.Programs.{IsOf}
use Rattle.spl_carried.specs.Covered.{is_covered_program}

-- A program that modules of units make, which have no fault, with the data words of these units, carries them: where the units break no rule and
-- pass no limit, number their segments, and are covered, with calls of procedures of some names and of subroutines of some names.
abbrev pub CoveredProgramsCarry : Type 0
CoveredProgramsCarry = (us : List Source) (ms : List Module) (globals : List ℕ) (p : Program) → IsOf us ms globals p → Each NumbersSegments us
    → first_fault ms ≡ None
    → memory_of globals ≡ put_initials global_address (program_of us).initials (put_cells global_address (program_of us).cells (zeros (data_words us)))
    → (xs ys : List (List ℕ)) → is_covered_program xs ys us ≡ true → Carries p us
