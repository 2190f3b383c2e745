-- What the words decide of the programs that are made, which depend on the form that each branch takes: whether a segment is too long, and whether the
-- sessions open in the job's memory.
use Rattle.std.specs.Prelude.{ℕ, ◌≡◌, ◌<◌, true, false, List, [], ◌∷◌, slice_get, Option, None, Some}
use Rattle.std.specs.Io.KnownBytes.{Appends}
use Rattle.job_report.specs.declared.refusals.ModulesRefusal.TheVariants as modules
use Rattle.job_report.specs.Refusals.{modules_refused}
use Rattle.job_gen.specs.job_text.Jobs.{JobValue, JobIs}
use Rattle.job_gen.specs.job_text.States.{TextValue}
use Rattle.hp_program.specs.declared.program.Program.{Program}
use Rattle.job_gen.specs.mpe_session.declared.seat.Seat.{Seat}
use Rattle.job_runs.specs.mpe_turns.declared.fault.OpenFault.{OpenFault}
use Rattle.job_runs.specs.mpe_turns.Opening.{refusal}
use Rattle.mpe_progfile.specs.Files.{IsFile}
use Rattle.spl_tree.specs.declared.names_and_places.Name.{Name}
use Rattle.spl_program.specs.spl_meaning.Tables.{Source}
use Rattle.spl_program.specs.spl_meaning.Bound.{bound}
use Rattle.spl_program.specs.Programs.{IsProgram}
use Rattle.spl_linkable.specs.spl_branch.declared.modules.Module.{Module}
use Rattle.spl_linkable.specs.mpe_segmenter.Faults.{Fault, first_fault}
use Rattle.spl_linkable.specs.spl_module_names.Faults.{counts_words}
use Rattle.spl_numbered.specs.spl_bounds.spl_module_code.Modules.{AreModules}
use Rattle.hp3000_top.specs.declared.exit.Exit.{Exit}
use Rattle.hp3000_top.specs.declared.exit.Exit.TheVariants as e
use Rattle.hp3000_top.specs.declared.verbs.Verb.{Verb}
use Rattle.hp3000_top.specs.declared.verbs.Verb.TheVariants as verb
use Rattle.hp3000_top.specs.Causes.{IsJob, open_line}
use Rattle.hp3000_top.specs.Answers.{Over, Certain}

-- ---- of what bytes

-- The texts are units that break no rule and pass no limit, and of some modules of theirs no fault is the first but that of too many words. It is
-- so of all modules of the units if of some.
pub record IsNamed (t : TextValue) : Type 0 where
  pub units : List Source
  pub are : IsProgram t.units units
  pub modules : List Module
  pub are_modules : AreModules units modules
  pub named : (x : Fault) → first_fault modules ≡ Some x → counts_words x ≡ true

-- each of them
pub data AreNamed : List TextValue → Type 0 where
  none : AreNamed []
  more : {t : TextValue} {ts : List TextValue} → IsNamed t → AreNamed ts → AreNamed (t ∷ ts)

-- the bytes are a job, to be run or to be prepared, whose programs have no fault but that of too many words; or a program's file
abbrev pub IsNamedOf : Verb → List ℕ → Type 0
IsNamedOf verb.Run bytes = (job : JobValue) × JobIs bytes false job × AreNamed job.programs
IsNamedOf (verb.Gen n) bytes = (job : JobValue) × JobIs bytes false job × AreNamed job.programs
IsNamedOf verb.Prep bytes = (job : JobValue) × JobIs bytes true job × AreNamed job.programs
IsNamedOf verb.List bytes = (p : Program) × IsFile p bytes

-- the bytes that the verb is about are so
abbrev pub IsLeftToWords : Option Verb → Option (List ℕ) → Type 0
IsLeftToWords None left = ⊥
IsLeftToWords (Some v) left = Certain v left (λ bytes. IsNamedOf v bytes)

-- ---- by what line

-- a segment of one of these programs is too long, by the line for it, and may have more than 16,383 words
pub data IsLong (ts : List TextValue) : List ℕ → Type 0 where
  long : (k : ℕ) (t : TextValue) (us : List Source) (segment : Name) → slice_get ts k ≡ Some t → IsProgram t.units us
      → 16383 < bound us segment.text.items → IsLong ts (modules_refused t.name (modules.SegmentFull segment))

-- the bytes are a job with such a program; or one whose programs are made, and its sessions don't open
pub data Crowds (bytes : List ℕ) : List ℕ → Type 0 where
  long : {line : List ℕ} (job : JobValue) → JobIs bytes false job → IsLong job.programs line → Crowds bytes line
  sessions : {f : OpenFault} (job : JobValue) (made : List Program) (seats : List Seat) → IsJob bytes job made seats
      → refusal job.memory seats made ≡ Some f → Crowds bytes (open_line f)

-- by the verb
abbrev pub CrowdsOf : Verb → List ℕ → List ℕ → Type 0
CrowdsOf verb.Run bytes line = Crowds bytes line
CrowdsOf (verb.Gen n) bytes line = Crowds bytes line
CrowdsOf verb.Prep bytes line = (job : JobValue) × JobIs bytes true job × IsLong job.programs line
CrowdsOf verb.List bytes line = ⊥

-- done; or refused by such a line, which was appended; unless memory is wanting
abbrev pub IsDecided : Exit → Option Verb → Option (List ℕ) → Option (List ℕ) → Option (List ℕ) → Type 0
IsDecided e.Done v left old new = Unit {0}
IsDecided e.NoMemory v left old new = Unit {0}
IsDecided e.Refused (Some v) left old new = Over v left (λ bytes. (line : List ℕ) × CrowdsOf v bytes line × Appends old new line)
IsDecided _ v left old new = ⊥
