-- What the top call answers and writes.
use Rattle.std.specs.Prelude.{ℕ, ◌≡◌, ◌≤◌, List, [], ◌∷◌, length, slice_get, Option, None, Some, IfSome, ◌⊎◌}
use Rattle.std.specs.Io.KnownBytes.{Appends, IsAtEnd}
use Rattle.hp_outside.specs.Whole.{AppendsPrefix, IsLongerThan}
use Rattle.job_gen.specs.job_text.Jobs.{JobValue}
use Rattle.job_gen.specs.job_text.States.{TextValue, SeatValue}
use Rattle.job_report.specs.Listings.{listing_of}
use Rattle.job_gen.specs.Generated.{generated}
use Rattle.job_report.specs.Refusals.{memory_refused}
use Rattle.hp_program.specs.declared.program.Program.{Program}
use Rattle.mpe_progfile.specs.Files.{IsFile}
use Rattle.job_runs.specs.mpe_worlds.Worlds.{Run, World}
use Rattle.job_runs.specs.mpe_turns.declared.fault.OpenFault.TheVariants.{MemoryTooSmall}
use Rattle.job_runs.specs.mpe_turns.Opening.{refusal}
use Rattle.job_runs.specs.mpe_turns.Monitors.{world_of}
use Rattle.job_gen.specs.mpe_session.declared.seat.Seat as seats
use Rattle.hp3000_top.specs.declared.exit.Exit.{Exit}
use Rattle.hp3000_top.specs.declared.exit.Exit.TheVariants as e
use Rattle.hp3000_top.specs.declared.ran.Ran.{Ran}
use Rattle.hp3000_top.specs.declared.ran.Ran.TheVariants.{Plain}
use Rattle.hp3000_top.specs.declared.verbs.Verb.{Verb}
use Rattle.hp3000_top.specs.declared.verbs.Verb.TheVariants as verb
use Rattle.spl_program.specs.spl_meaning.Tables.{Source}
use Rattle.hp3000_top.specs.Programs.{AreSure}
use Rattle.spl_program.specs.Programs.{IsProgram}
use Rattle.hp3000_top.specs.Carried.{CarryTheirs, FollowsUnits}
use Rattle.hp3000_top.specs.Needs.{SurelyOpens}
use Rattle.hp3000_top.specs.Causes.{IsJob, account_of, Runs, IsPrepared, CauseOf, SureCauseOf, ComesTo}

-- nothing is asked for that takes an input
abbrev pub TakesNone : Option Verb → Type 0
TakesNone None = Unit {0}
TakesNone (Some (verb.Gen n)) = Unit {0}
TakesNone (Some _) = ⊥

-- an input that is asked for was read to its end, and has at most so many bytes
abbrev pub IsWhole : ℕ → Option Verb → Option (List ℕ) → Option (List ℕ) → Type 0
IsWhole limit None old new = ⊥
IsWhole limit (Some (verb.Gen n)) old new = Unit {0}
IsWhole limit (Some _) old new = IfSome old (λ all. length all ≤ limit) × IsAtEnd new

-- it is asked for, and has more bytes than that
abbrev pub IsTooLong : ℕ → Option Verb → Option (List ℕ) → Type 0
IsTooLong limit None left = ⊥
IsTooLong limit (Some (verb.Gen n)) left = ⊥
IsTooLong limit (Some _) left = IsLongerThan limit left

-- the answers at which nothing is written
abbrev pub IsSilent : Exit → Type 0
IsSilent e.Done = ⊥
IsSilent e.Refused = ⊥
IsSilent e.WriteFault = ⊥
IsSilent _ = Unit {0}

-- the answers that rest on an input that was read whole: it is done, it is refused, or writing what it comes to broke off
abbrev pub IsAnswer : Exit → Type 0
IsAnswer e.Done = Unit {0}
IsAnswer e.Refused = Unit {0}
IsAnswer e.WriteFault = Unit {0}
IsAnswer _ = ⊥

-- This holds of the bytes that were read: those that were left, where the input tells them.
abbrev pub Read : Option (List ℕ) → (List ℕ → Type 0) → Type 0
Read left P = (bytes : List ℕ) × IfSome left (λ all. bytes ≡ all) × P bytes

-- This holds of the bytes that a verb is about: those that were read, or the text of the generated job with its number.
abbrev pub Over : Verb → Option (List ℕ) → (List ℕ → Type 0) → Type 0
Over (verb.Gen n) left P = P (generated n)
Over _ left P = Read left P

-- ---- refused

-- one line was appended to what was written, and the bytes that the verb is about are refused by it
abbrev pub Refuses : Option Verb → Option (List ℕ) → Option (List ℕ) → Option (List ℕ) → Type 0
Refuses None left old new = ⊥
Refuses (Some v) left old new = Over v left (λ bytes. (line : List ℕ) × CauseOf v bytes line × Appends old new line)

-- a part of what these bytes come to was appended, from its front on
abbrev pub BreaksOff : Option Verb → Option (List ℕ) → Option (List ℕ) → Option (List ℕ) → Type 0
BreaksOff None left old new = ⊥
BreaksOff (Some v) left old new = Over v left (λ bytes. (text : List ℕ) × ComesTo bytes v text × AppendsPrefix old new text)

-- ---- done

-- what is left of the run is a monitor, and it stands for this world
abbrev pub HasRun : Option Ran → World → Type 0
HasRun None w = ⊥
HasRun (Some (Plain m)) w = world_of m ≡ w

-- what is told of the job's world was appended to what was written, and the monitor stands for that world
pub record DeliversJob (v : Verb) (bytes : List ℕ) (made : List Program) (ran : Option Ran) (old new : Option (List ℕ)) : Type 0 where
  pub job : JobValue
  pub world : World
  pub runs : Runs bytes job made world
  pub has_run : HasRun ran world
  pub appends : Appends old new (account_of v bytes job world)

-- the file of the program that is made of the job was appended
pub record DeliversFile (bytes : List ℕ) (made : List Program) (old new : Option (List ℕ)) : Type 0 where
  pub job : JobValue
  pub program : Program
  pub is : IsPrepared bytes job program
  pub made_is : made ≡ program ∷ []
  pub file : List ℕ
  pub is_file : IsFile program file
  pub appends : Appends old new file

-- the listing of the program whose file the bytes are was appended
pub record DeliversListing (bytes : List ℕ) (old new : Option (List ℕ)) : Type 0 where
  pub program : Program
  pub is_file : IsFile program bytes
  pub appends : Appends old new (listing_of program)

abbrev pub DeliversOf : Verb → List ℕ → List Program → Option Ran → Option (List ℕ) → Option (List ℕ) → Type 0
DeliversOf verb.Run bytes made ran old new = DeliversJob verb.Run bytes made ran old new
DeliversOf (verb.Gen n) bytes made ran old new = DeliversJob (verb.Gen n) bytes made ran old new
DeliversOf verb.Prep bytes made ran old new = DeliversFile bytes made old new
DeliversOf verb.List bytes made ran old new = DeliversListing bytes old new

-- what the verb asks for of the bytes that it is about was appended
abbrev pub Delivers : Option Verb → Option (List ℕ) → List Program → Option Ran → Option (List ℕ) → Option (List ℕ) → Type 0
Delivers None left made ran old new = ⊥
Delivers (Some v) left made ran old new = Over v left (λ bytes. DeliversOf v bytes made ran old new)

-- ---- the headline

-- There is a session for each of the job's, and each follows the run of its program's units, alone.
pub record EachIsAsAlone (job : JobValue) (runs : List Run) : Type 0 where
  pub count : length runs ≡ length job.sessions
  pub follows : (k : ℕ) (seat : SeatValue) (t : TextValue) (r : Run) → slice_get job.sessions k ≡ Some seat → slice_get job.programs seat.program ≡ Some t
      → slice_get runs k ≡ Some r → (us : List Source) → IsProgram t.units us → FollowsUnits us seat r

-- what was told is of a world of the job's sessions in which each is so, and the programs carry what they are made of
pub record ReportsAsAlone (v : Verb) (bytes : List ℕ) (made : List Program) (old new : Option (List ℕ)) : Type 0 where
  pub job : JobValue
  pub world : World
  pub runs : Runs bytes job made world
  pub carry : CarryTheirs job.programs made
  pub each : EachIsAsAlone job world.runs
  pub appends : Appends old new (account_of v bytes job world)

-- the program that was made of a job that is prepared carries what it is made of
pub record CarriesPrepared (bytes : List ℕ) (made : List Program) : Type 0 where
  pub job : JobValue
  pub program : Program
  pub is : IsPrepared bytes job program
  pub made_is : made ≡ program ∷ []
  pub carry : CarryTheirs job.programs made

-- of a job that is run, or prepared
abbrev pub AreAsAlone : Option Verb → Option (List ℕ) → List Program → Option (List ℕ) → Option (List ℕ) → Type 0
AreAsAlone (Some verb.Run) left made old new = Over verb.Run left (λ bytes. ReportsAsAlone verb.Run bytes made old new)
AreAsAlone (Some (verb.Gen n)) left made old new = Over (verb.Gen n) left (λ bytes. ReportsAsAlone (verb.Gen n) bytes made old new)
AreAsAlone (Some verb.Prep) left made old new = Over verb.Prep left (λ bytes. CarriesPrepared bytes made)
AreAsAlone _ left made old new = Unit {0}

-- ---- when each answer has to come

-- This holds of the text of the generated job; or of the bytes that are left, which the source tells, and there are at most 1,048,576.
abbrev pub Certain : Verb → Option (List ℕ) → (List ℕ → Type 0) → Type 0
Certain (verb.Gen n) left P = P (generated n)
Certain _ None P = ⊥
Certain _ (Some bytes) P = (length bytes ≤ 1048576) × P bytes

-- The bytes are a job whose programs no line refuses and whose sessions open whichever form each branch takes; or one whose only program no line
-- refuses, and that a program can be made of; or a program's file.
abbrev pub IsSurelyDoneOf : Verb → List ℕ → Type 0
IsSurelyDoneOf verb.Run bytes = SurelyOpens bytes
IsSurelyDoneOf verb.Prep bytes = (job : JobValue) × (p : Program) × IsPrepared bytes job p × AreSure job.programs
IsSurelyDoneOf verb.List bytes = (p : Program) × IsFile p bytes
IsSurelyDoneOf (verb.Gen n) bytes = SurelyOpens bytes

-- the bytes that the verb is about are so
abbrev pub IsSurelyDone : Option Verb → Option (List ℕ) → Type 0
IsSurelyDone None left = ⊥
IsSurelyDone (Some v) left = Certain v left (λ bytes. IsSurelyDoneOf v bytes)

-- done, unless memory is wanting
abbrev pub IsDone : Exit → Type 0
IsDone e.Done = Unit {0}
IsDone e.NoMemory = Unit {0}
IsDone _ = ⊥

-- the bytes that the verb is about can be refused by this line alone
abbrev pub IsSurelyRefused : Option Verb → Option (List ℕ) → List ℕ → Type 0
IsSurelyRefused None left line = ⊥
IsSurelyRefused (Some v) left line = Certain v left (λ bytes. SureCauseOf v bytes line)

-- this line was appended, unless memory is wanting
abbrev pub IsRefusedBy : Exit → Option (List ℕ) → Option (List ℕ) → List ℕ → Type 0
IsRefusedBy e.Refused old new line = Appends old new line
IsRefusedBy e.NoMemory old new line = Unit {0}
IsRefusedBy _ old new line = ⊥

-- ---- what is made, and left of the run

-- the programs of a job that the memory is too small for, so much being needed and so much given
pub record IsCrowded (bytes : List ℕ) (made : List Program) (need given : ℕ) : Type 0 where
  pub job : JobValue
  pub seats : List seats.Seat
  pub is : IsJob bytes job made seats
  pub refused : refusal job.memory seats made ≡ Some (MemoryTooSmall need given)

-- these programs carry the units of their texts
pub record CarriesCrowded (bytes : List ℕ) (made : List Program) (need given : ℕ) : Type 0 where
  pub crowded : IsCrowded bytes made need given
  pub carry : CarryTheirs crowded.job.programs made

-- this is the line of a memory that is too small
abbrev pub IsOfMemory : List ℕ → Type 0
IsOfMemory line = (need : ℕ) × (given : ℕ) × (line ≡ memory_refused need given)

-- Where the line is that of a memory that is too small, it is too small for these programs, which carry their units; where it is another they are as
-- before.
abbrev pub MadeBy : List ℕ → List ℕ → List Program → List Program → Type 0
MadeBy bytes line old new =
    ((need : ℕ) × (given : ℕ) × (line ≡ memory_refused need given) × CarriesCrowded bytes new need given)
    ⊎ ((new ≡ old) × (IsOfMemory line → ⊥))

-- What is done by `run`, `gen` and `prep` has its programs; a job to be run that is refused has them where the line that was appended is that of a
-- memory that is too small. Else they are as before.
abbrev pub MadeAt : Exit → Option Verb → Option (List ℕ) → Option (List ℕ) → Option (List ℕ) → List Program → List Program → Type 0
MadeAt e.Done (Some verb.Run) left before now old new = Unit {0}
MadeAt e.Done (Some verb.Prep) left before now old new = Unit {0}
MadeAt e.Done (Some (verb.Gen n)) left before now old new = Unit {0}
MadeAt e.Refused (Some verb.Run) left before now old new =
    Over verb.Run left (λ bytes. (line : List ℕ) × Appends before now line × MadeBy bytes line old new)
MadeAt e.Refused (Some (verb.Gen n)) left before now old new =
    Over (verb.Gen n) left (λ bytes. (line : List ℕ) × Appends before now line × MadeBy bytes line old new)
MadeAt _ _ left before now old new = new ≡ old

-- what is done by `run` or `gen` leaves its monitor; else what is left is as before
abbrev pub RanAt : Exit → Option Verb → Option Ran → Option Ran → Type 0
RanAt e.Done (Some verb.Run) old new = Unit {0}
RanAt e.Done (Some (verb.Gen n)) old new = Unit {0}
RanAt _ _ old new = new ≡ old
