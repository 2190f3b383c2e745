-- What programs surely need, whichever form each branch takes, and jobs whose sessions surely open.
use Rattle.std.specs.Prelude.{ℕ, ◌≡◌, ◌+◌, ◌≤◌, nat_lt, max, false, if◌then◌else◌, List, [], ◌∷◌, slice_get, Option, None, Some}
use Rattle.job_gen.specs.job_text.Jobs.{JobValue, JobIs}
use Rattle.job_gen.specs.job_text.States.{TextValue, SeatValue}
use Rattle.job_runs.specs.mpe_turns.declared.fault.OpenFault.{OpenFault}
use Rattle.job_runs.specs.mpe_turns.declared.fault.OpenFault.TheVariants.{StackTooSmall}
use Rattle.job_runs.specs.mpe_turns.Opening.{first_of_two}
use Rattle.spl_program.specs.spl_meaning.Tables.{Source}
use Rattle.spl_program.specs.spl_meaning.Bodies.{data_words}
use Rattle.spl_linkable.specs.Linkable.{IsLinkable}
use Rattle.spl_numbered.specs.spl_bounds.Programs.{most_words}
use Rattle.spl_program.specs.Programs.{IsProgram}

-- the words of the stack of each of a program's sessions, and of its largest segment
pub record Need : Type 0 where
  pub stack : ℕ
  pub words : ℕ

-- A program that no line refuses needs so much. Linkable units have several programs; all have the units' data words, above which the main body's
-- marker stands, and none has a segment of more words than the greatest bound.
pub data Needs (t : TextValue) : Need → Type 0 where
  is_linkable : (us : List Source) → IsProgram t.units us → IsLinkable us → Needs t (record { stack = data_words us + 4; words = most_words us })

-- each of them
pub data AllNeed : List TextValue → List Need → Type 0 where
  none : AllNeed [] []
  more : {t : TextValue} {ts : List TextValue} {d : Need} {ds : List Need} → Needs t d → AllNeed ts ds → AllNeed (t ∷ ts) (d ∷ ds)

-- a stack that is too small for what its program needs, of session n
abbrev pub small_by : ℕ → Option Need → SeatValue → Option OpenFault
small_by n None seat = None
small_by n (Some d) seat = if nat_lt seat.stack d.stack then Some (StackTooSmall n d.stack seat.stack) else None

-- the first of them, of sessions of which the first has the number n
abbrev pub first_small : ℕ → List Need → List SeatValue → Option OpenFault
first_small n ds [] = None
first_small n ds (seat ∷ seats) = first_of_two (small_by n (slice_get ds seat.program) seat) (first_small (n + 1) ds seats)

-- the words of all stacks and extra segments
abbrev pub held_words : List SeatValue → ℕ
held_words [] = 0
held_words (seat ∷ seats) = seat.stack + seat.extra + held_words seats

-- the words of the largest segment of any program
abbrev pub most_needed : List Need → ℕ
most_needed [] = 0
most_needed (d ∷ ds) = max d.words (most_needed ds)

-- The bytes are a job whose programs no line refuses and whose stacks suffice, and the memory holds the stacks and extra segments and the largest
-- segment that a program may have.
pub record SurelyOpens (bytes : List ℕ) : Type 0 where
  pub job : JobValue
  pub is : JobIs bytes false job
  pub needs : List Need
  pub need : AllNeed job.programs needs
  pub stacks : first_small 0 needs job.sessions ≡ None
  pub memory : held_words job.sessions + most_needed needs ≤ job.memory
