-- What the parts of the top call answer.
use Rattle.std.specs.Prelude.{ℕ, ◌≡◌, ◌≤◌, List, [], ◌∷◌, length, Option, None, Some, Vec}
use Rattle.std.specs.Global.{Global}
use Rattle.std.specs.Io.KnownBytes.{Appends}
use Rattle.hp_outside.specs.Whole.{ReadsToEnd, AppendsPrefix}
use Rattle.job_gen.specs.Generated.{generated}
use Rattle.job_report.specs.Listings.{listing_of}
use Rattle.job_report.specs.Refusals.{job_refused, memory_refused}
use Rattle.job_gen.specs.job_text.declared.faults.JobFault.{JobFault}
use Rattle.job_gen.specs.job_text.declared.faults.JobFault.TheVariants as job_fault
use Rattle.job_gen.specs.job_text.Jobs.{JobValue}
use Rattle.job_gen.specs.job_text.States.{TextValue}
use Rattle.job_runs.specs.Reported.{names_of}
use Rattle.hp_program.specs.declared.program.Program.{Program}
use Rattle.hp_program.specs.Programs.{segments_of}
use Rattle.job_runs.specs.mpe_overlay.Codes.{codes_of}
use Rattle.job_gen.specs.mpe_session.declared.seat.Seat.{Seat}
use Rattle.job_runs.specs.mpe_worlds.Opening.{opening}
use Rattle.job_runs.specs.mpe_worlds.Dispatch.{after}
use Rattle.job_runs.specs.mpe_turns.declared.fault.OpenFault.{OpenFault}
use Rattle.job_runs.specs.mpe_turns.declared.fault.OpenFault.TheVariants.{StackTooSmall, MemoryTooSmall}
use Rattle.mpe_progfile.specs.declared.faults.FileFault.{FileFault}
use Rattle.mpe_progfile.specs.declared.faults.FileFault.TheVariants as file_fault
use Rattle.mpe_progfile.specs.Files.{IsFile}
use Rattle.job_runs.specs.mpe_turns.declared.monitor.Monitor.{Monitor}
use Rattle.job_runs.specs.mpe_turns.Monitors.{world_of}
use Rattle.job_runs.specs.mpe_turns.Opening.{refusal}
use Rattle.spl_linkable.specs.mpe_segmenter.declared.faults.PrepFault.{PrepFault}
use Rattle.spl_linkable.specs.spl_built.Built.{IsUnlinked}
use Rattle.spl_program.specs.spl_meaning.Tables.{Source}
use Rattle.spl_program.specs.declared.faults.ProgramFault.{ProgramFault}
use Rattle.spl_program.specs.declared.faults.ProgramFault.TheVariants as why
use Rattle.hp3000_top.specs.declared.unmade.Unmade.{Unmade}
use Rattle.hp3000_top.specs.declared.unmade.Unmade.TheVariants as unmade
use Rattle.hp3000_top.specs.declared.answer.Answer.{Answer}
use Rattle.hp3000_top.specs.declared.answer.Answer.TheVariants.{Report, Crowded, File, Listing, Refusal}
use Rattle.hp3000_top.specs.declared.exit.Exit.{Exit}
use Rattle.hp3000_top.specs.declared.exit.Exit.TheVariants as e
use Rattle.hp3000_top.specs.declared.ran.Ran.{Ran}
use Rattle.hp3000_top.specs.declared.ran.Ran.TheVariants.{Plain}
use Rattle.hp3000_top.specs.declared.verbs.Verb.{Verb}
use Rattle.hp3000_top.specs.declared.verbs.Verb.TheVariants as verb
use Rattle.hp3000_top.specs.Programs.{link_line, IsRefused, FirstRefused}
use Rattle.hp3000_top.specs.Causes.{RunsJobs, account_with, account_of, Runs, IsPrepared, CauseOf, open_line}
use Rattle.hp3000_top.specs.Answers.{IsCrowded, IsOfMemory}

-- ---- programs

-- a fault that has a line
abbrev pub IsTold : ProgramFault → Type 0
IsTold why.NoMemory = ⊥
IsTold _ = Unit {0}

-- the line tells the first fault of modules of the units; want of memory says nothing
abbrev pub UnlinkedBy : List ℕ → List Source → Unmade → Type 0
UnlinkedBy name us (unmade.Refused line) = (f : PrepFault) × IsUnlinked us f × (line.items ≡ link_line name f)
UnlinkedBy name us unmade.NoMemory = Unit {0}

-- the line refuses the program, or the first of some; want of memory says nothing
abbrev pub RefusedBy : TextValue → Unmade → Type 0
RefusedBy t (unmade.Refused line) = IsRefused t line.items
RefusedBy t unmade.NoMemory = Unit {0}

abbrev pub RefusedAmong : List TextValue → Unmade → Type 0
RefusedAmong ts (unmade.Refused line) = FirstRefused ts line.items
RefusedAmong ts unmade.NoMemory = Unit {0}

-- a program equal to another
pub record IsCopy (p q : Program) : Type 0 where
  pub segments : segments_of q ≡ segments_of p
  pub main : q.main ≡ p.main
  pub entry : q.entry ≡ p.entry
  pub globals : q.globals.items ≡ p.globals.items

pub data AreCopies : List Program → List Program → Type 0 where
  none : AreCopies [] []
  more : {p q : Program} {ps qs : List Program} → IsCopy p q → AreCopies ps qs → AreCopies (p ∷ ps) (q ∷ qs)

-- ---- sessions

-- the stack of a session is too small
abbrev pub IsOfStack : OpenFault → Type 0
IsOfStack (StackTooSmall session need given) = Unit {0}
IsOfStack _ = ⊥

-- why sessions of these programs don't open is told: by the line of a stack, or with the programs by that of the memory
abbrev pub IsUnopened : OpenFault → List Program → Answer → Type 0
IsUnopened f programs (Refusal line) = (line.items ≡ open_line f) × IsOfStack f
IsUnopened f programs (Crowded made line) =
    (made.items ≡ programs) × ((need : ℕ) × (given : ℕ) × (f ≡ MemoryTooSmall need given) × (line.items ≡ memory_refused need given))
IsUnopened f programs _ = ⊥

-- the sessions of a job, whose text has so many bytes, open and its turns are taken; or they don't open, and the line tells why
abbrev pub Answers : Verb → ℕ → JobValue → List Seat → List Program → Answer → Type 0
Answers v bytes job seats programs (Report made monitor text) =
    (made.items ≡ programs) × (refusal job.memory seats programs ≡ None)
    × (world_of monitor ≡ after (codes_of programs) job.quantum job.turns (opening job.memory seats programs))
    × (text.items ≡ account_with v bytes (names_of job.programs) job.stats (world_of monitor))
Answers v bytes job seats programs (Refusal line) =
    (f : OpenFault) × (refusal job.memory seats programs ≡ Some f) × (line.items ≡ open_line f) × IsOfStack f
Answers v bytes job seats programs (Crowded made line) =
    (made.items ≡ programs)
    × ((need : ℕ) × (given : ℕ) × (refusal job.memory seats programs ≡ Some (MemoryTooSmall need given)) × (line.items ≡ memory_refused need given))
Answers v bytes job seats programs (File made text) = ⊥
Answers v bytes job seats programs (Listing text) = ⊥

-- ---- the input

-- the bytes that a verb is about: the text of the generated job, or an input that was read to its end
abbrev pub IsInput : ℕ → Verb → Option (List ℕ) → Option (List ℕ) → List ℕ → Type 0
IsInput limit (verb.Gen n) old new bytes = (bytes ≡ generated n) × (length bytes ≤ limit)
IsInput limit _ old new bytes = ReadsToEnd limit old new bytes

-- the line for the first faulty line of a job
abbrev pub TellsJob : JobFault → List ℕ → Type 0
TellsJob (job_fault.Rule l r) line = line ≡ job_refused l r
TellsJob job_fault.NoMemory line = ⊥

-- a fault that has a line
abbrev pub IsFaultOfFile : FileFault → Type 0
IsFaultOfFile file_fault.NoMemory = ⊥
IsFaultOfFile _ = Unit {0}

-- the answer is the file of the only one of these programs
abbrev pub IsFileOf : List Program → Answer → Type 0
IsFileOf programs (File made text) = (p : Program) × (programs ≡ p ∷ []) × (made.items ≡ programs) × IsFile p text.items
IsFileOf programs _ = ⊥

-- no line of a memory that is too small
abbrev pub IsRoomy : Verb → List ℕ → Type 0
IsRoomy verb.Run line = IsOfMemory line → ⊥
IsRoomy (verb.Gen n) line = IsOfMemory line → ⊥
IsRoomy _ line = Unit {0}

-- what the bytes come to is what is answered
pub data IsAnswered (bytes : List ℕ) : Verb → Answer → Type 0 where
  report : {v : Verb} {made : Vec Program Global} {monitor : Monitor} {text : Vec ℕ Global} (job : JobValue) → RunsJobs v → Runs bytes job made.items (world_of monitor)
      → text.items ≡ account_of v bytes job (world_of monitor) → IsAnswered bytes v (Report made monitor text)
  crowded : {v : Verb} {made : Vec Program Global} {line : Vec ℕ Global} (need given : ℕ) → RunsJobs v → line.items ≡ memory_refused need given
      → IsCrowded bytes made.items need given → IsAnswered bytes v (Crowded made line)
  file : {made : Vec Program Global} {text : Vec ℕ Global} (job : JobValue) (p : Program) → IsPrepared bytes job p → made.items ≡ p ∷ [] → IsFile p text.items
      → IsAnswered bytes verb.Prep (File made text)
  listing : {text : Vec ℕ Global} (p : Program) → IsFile p bytes → text.items ≡ listing_of p → IsAnswered bytes verb.List (Listing text)
  refuses : {v : Verb} {line : Vec ℕ Global} → CauseOf v bytes line.items → IsRoomy v line.items → IsAnswered bytes v (Refusal line)

-- ---- the output

-- the bytes of an answer
abbrev pub text_of : Answer → List ℕ
text_of (Report made monitor text) = text.items
text_of (Crowded made line) = line.items
text_of (File made text) = text.items
text_of (Listing text) = text.items
text_of (Refusal line) = line.items

-- how an answer ends
abbrev pub exit_of : Answer → Exit
exit_of (Report made monitor text) = e.Done
exit_of (Crowded made line) = e.Refused
exit_of (File made text) = e.Done
exit_of (Listing text) = e.Done
exit_of (Refusal line) = e.Refused

-- the programs behind an answer
abbrev pub made_by : Answer → List Program → List Program
made_by (Report made monitor text) old = made.items
made_by (Crowded made line) old = made.items
made_by (File made text) old = made.items
made_by _ old = old

-- what is left of a run behind an answer
abbrev pub ran_by : Answer → Option Ran → Option Ran
ran_by (Report made monitor text) old = Some (Plain monitor)
ran_by _ old = old

-- an answer was written whole; or the sink failed, and all is as before but for a part of the text
pub data IsTaken (a : Answer) (old new : Option (List ℕ)) (faults : Type 0) (made_old made_new : List Program) (ran_old ran_new : Option Ran) (x : Exit) : Type 0 where
  whole : x ≡ exit_of a → Appends old new (text_of a) → made_new ≡ made_by a made_old → ran_new ≡ ran_by a ran_old
      → IsTaken a old new faults made_old made_new ran_old ran_new x
  cut : x ≡ e.WriteFault → AppendsPrefix old new (text_of a) → faults → made_new ≡ made_old → ran_new ≡ ran_old
      → IsTaken a old new faults made_old made_new ran_old ran_new x
