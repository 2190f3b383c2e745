-- What is made of the texts of a job's programs: a program of each, or the line that tells why not.
use Rattle.std.specs.Prelude.{ℕ, ◌≡◌, false, List, [], ◌∷◌, Option, None, Some}
use Rattle.job_report.specs.declared.refusals.UnitRefusal.TheVariants as wrong
use Rattle.job_report.specs.declared.refusals.ModulesRefusal.{ModulesRefusal}
use Rattle.job_report.specs.declared.refusals.ModulesRefusal.TheVariants as modules
use Rattle.job_report.specs.Refusals.{unit_refused, modules_refused}
use Rattle.job_gen.specs.job_text.States.{TextValue}
use Rattle.hp_program.specs.declared.program.Program.{Program}
use Rattle.spl_program.specs.spl_meaning.Tables.{Source}
use Rattle.spl_program.specs.declared.faults.ProgramFault.{ProgramFault}
use Rattle.spl_program.specs.declared.faults.ProgramFault.TheVariants as why
use Rattle.spl_program.specs.Programs.{IsProgram, IsFault}
use Rattle.spl_linkable.specs.mpe_segmenter.declared.faults.PrepFault.{PrepFault}
use Rattle.spl_linkable.specs.mpe_segmenter.declared.faults.PrepFault.TheVariants as link
use Rattle.spl_linkable.specs.spl_built.Built.{IsBuilt, IsUnlinked}
use Rattle.spl_linkable.specs.spl_module_names.Faults.{tells_words}
use Rattle.spl_linkable.specs.Linkable.{IsLinkable}

-- The program is built of the units that these texts are, which break no rule and pass no limit. This holds of more than one program.
pub record IsMade (texts : List (List ℕ)) (p : Program) : Type 0 where
  pub units : List Source
  pub are : IsProgram texts units
  pub built : IsBuilt units p

-- the line for a program whose texts have this fault; want of memory has none
abbrev pub fault_line : List ℕ → ProgramFault → List ℕ
fault_line name (why.Text kind at) = unit_refused name at (wrong.Text kind)
fault_line name (why.Rule rule at) = unit_refused name at (wrong.Rule rule)
fault_line name (why.Limit limit at) = unit_refused name at (wrong.Limit limit)
fault_line name why.NoMemory = []

-- what is told of a fault of modules; of want of memory nothing
abbrev pub told_of : PrepFault → Option ModulesRefusal
told_of link.NoMain = Some modules.NoMain
told_of link.TwoMains = Some modules.TwoMains
told_of (link.Doubled n) = Some (modules.Doubled n)
told_of (link.Unresolved n) = Some (modules.Unresolved n)
told_of (link.SegmentsFull count) = Some modules.SegmentsFull
told_of (link.EntriesFull segment count) = Some (modules.EntriesFull segment)
told_of (link.SegmentFull segment words) = Some (modules.SegmentFull segment)
told_of link.NoMemory = None

-- the line that tells it
abbrev pub told_line : List ℕ → Option ModulesRefusal → List ℕ
told_line name None = []
told_line name (Some refusal) = modules_refused name refusal

-- the line for a program whose modules have this fault; want of memory has none
abbrev pub link_line : List ℕ → PrepFault → List ℕ
link_line name f = told_line name (told_of f)

-- a program is refused by this line: its texts have a fault; or they have none, and modules of its units have one
pub data IsRefused (t : TextValue) : List ℕ → Type 0 where
  faulty : {f : ProgramFault} → IsFault t.units f → IsRefused t (fault_line t.name f)
  unlinked : {f : PrepFault} (us : List Source) → IsProgram t.units us → IsUnlinked us f → IsRefused t (link_line t.name f)

-- the programs are made of these texts, each of its own
pub data AreMade : List TextValue → List Program → Type 0 where
  none : AreMade [] []
  more : {t : TextValue} {ts : List TextValue} {p : Program} {ps : List Program} → IsMade t.units p → AreMade ts ps → AreMade (t ∷ ts) (p ∷ ps)

-- the first of them that is not made is refused by this line
pub data FirstRefused : List TextValue → List ℕ → Type 0 where
  here : {t : TextValue} {ts : List TextValue} {line : List ℕ} → IsRefused t line → FirstRefused (t ∷ ts) line
  behind : {t : TextValue} {ts : List TextValue} {line : List ℕ} (p : Program) → IsMade t.units p → FirstRefused ts line → FirstRefused (t ∷ ts) line

-- ---- what is certain: of linkable units some program can be made, and a fault of texts is one

-- No line refuses a program: of its units one can be made whichever form each branch takes.
pub record IsSure (t : TextValue) : Type 0 where
  pub units : List Source
  pub are : IsProgram t.units units
  pub linkable : IsLinkable units

-- no line refuses any of them
pub data AreSure : List TextValue → Type 0 where
  none : AreSure []
  more : {t : TextValue} {ts : List TextValue} → IsSure t → AreSure ts → AreSure (t ∷ ts)

-- The first of them of which that is not said has a fault, which this line tells: of its texts; or of the modules of its units, whichever form
-- each branch takes, so no fault that counts words.
pub data FirstFaulty : List TextValue → List ℕ → Type 0 where
  here : {t : TextValue} {ts : List TextValue} {f : ProgramFault} → IsFault t.units f → FirstFaulty (t ∷ ts) (fault_line t.name f)
  unlinkable : {t : TextValue} {ts : List TextValue} {f : PrepFault} (us : List Source) → IsProgram t.units us → IsUnlinked us f → tells_words f ≡ false
      → FirstFaulty (t ∷ ts) (link_line t.name f)
  behind : {t : TextValue} {ts : List TextValue} {line : List ℕ} → IsSure t → FirstFaulty ts line → FirstFaulty (t ∷ ts) line
