-- From the texts of units to their run: what is said of some programs, each by its text.
use Rattle.std.specs.Prelude.{ℕ, suc, ◌≡◌, List, [], ◌∷◌, ◌++◌, map, codes, Option, Some, None, Result, Ok, Err}
use Prim.Native.String.{String}
use Rattle.spl_meaning.specs.hp_word.declared.arithmetic.Code.{Code}
use Rattle.spl_meaning.specs.spl_tree.declared.names_and_places.At.{At}
use Rattle.spl_meaning.specs.spl_tree.DeclarationTrees.{UnitTree}
use Rattle.spl_cuts.specs.Signs.{Listed}
use Rattle.spl_cuts.specs.Lexemes.{lexemes}
use Rattle.spl_cuts.specs.Reading.{read_text}
use Rattle.spl_cuts.specs.declared.faults.LexKind.{LexKind}
use Rattle.spl_reading.specs.Readers.{Outcome, Got}
use Rattle.spl_reading.specs.ReadDeclarations as read
use Rattle.spl_meaning.specs.Tables.{Source}
use Rattle.spl_meaning.specs.Faults.{Fault}
use Rattle.spl_meaning.specs.Sound.{first_broken}
use Rattle.spl_meaning.specs.Limits.{Full, first_full}
use Rattle.spl_meaning.specs.Bound.{bound}
use Rattle.spl_meaning.specs.States.{Begun}
use Rattle.spl_meaning.specs.Runs.{Seat, Standing, Point, alone, begins}

-- ---- a text as a unit

-- a unit that was read, with what its text said of it
abbrev pub source_with : Listed → Outcome UnitTree → Option Source
source_with x (Got u rest) = Some (record { subprogram = x.subprogram; segments = x.segments; tree = u })
source_with x _ = None

-- the unit of a list of tokens
abbrev pub source_listed : Result Listed (LexKind × At) → Option Source
source_listed (Ok x) = source_with x (read.unit 64 (lexemes x))
source_listed (Err fault) = None

-- the unit that a text spells, the number of the unit first
abbrev pub source_of : ℕ → List ℕ → Option Source
source_of unit text = source_listed (read_text unit 262144 text)

-- a unit before others, where all were read
abbrev pub source_before : Option Source → Option (List Source) → Option (List Source)
source_before (Some u) (Some us) = Some (u ∷ us)
source_before _ _ = None

-- the units that texts spell, with something before the first
abbrev pub sources_from : ℕ → List ℕ → List String → Option (List Source)
sources_from unit front [] = Some []
sources_from unit front (t ∷ ts) = source_before (source_of unit (front ++ codes t)) (sources_from (suc unit) [] ts)

-- ---- what is said of a run

-- A program by the texts of its units, what its session is given, a number of steps, and the point at which its run then is.
pub record Known : Type 0 where
  -- what stands before the first text
  pub front : String
  pub texts : List String
  pub stack : ℕ
  pub extra : ℕ
  pub room : ℕ
  pub lines : List String
  pub steps : ℕ
  pub printed : List ℕ
  pub standing : Standing

-- a program of one unit in the usual seat, which prints nothing and is there after some thousand steps
abbrev pub usual : String → Standing → Known
usual text standing =
    record { front = ""; texts = text ∷ []; stack = 1024; extra = 0; room = 16384; lines = []; steps = 9999; printed = []; standing = standing }

-- some declarations for many programs
abbrev pub general_declarations : String
general_declarations = "BEGIN LOGICAL ARRAY W(0:39); BYTE ARRAY B(*)=W; INTEGER I,J,K,N; LOGICAL L; INTRINSIC PRINT,READ,ASCII,DASCII,BINARY,DBINARY,TERMINATE,QUIT; "

-- the same behind these
abbrev pub general : String → Standing → Known
general text standing = record (usual text standing) {
  front = "BEGIN LOGICAL ARRAY W(0:39); BYTE ARRAY B(*)=W; INTEGER I,J,K,N; LOGICAL L; INTRINSIC PRINT,READ,ASCII,DASCII,BINARY,DBINARY,TERMINATE,QUIT; ";
}

-- the seat of a known program
abbrev pub seat_of : Known → Seat
seat_of k = record { stack = k.stack; extra = k.extra; room = k.room; lines = map codes k.lines }

-- the point of units that were read
abbrev pub point_with : Option (List Source) → Seat → ℕ → Option Point
point_with None seat n = None
point_with (Some us) seat n = Some (alone us seat n)

-- the point of the texts' run
abbrev pub known_point : Known → Option Point
known_point k = point_with (sources_from 1 (codes k.front) k.texts) (seat_of k) k.steps

-- the run is there after these steps
abbrev pub IsSo : Known → Type 0
IsSo k = known_point k ≡ Some (record { printed = k.printed; standing = k.standing })

-- each of these runs is as is said of it
abbrev pub AllRunSo : List Known → Type 0
AllRunSo [] = Unit {0}
AllRunSo (k ∷ ks) = IsSo k × AllRunSo ks

-- ---- what is said of the statements that a run begins

-- a statement begun: its number, its line, its column, the condition code that is known, and the words at some addresses
abbrev pub Seen : Type 0
Seen = ℕ × ℕ × ℕ × Option Code × List (Option ℕ)

-- a program, a number of steps, some addresses, and the statements begun
pub record KnownBegun : Type 0 where
  pub text : String
  pub steps : ℕ
  pub addresses : List ℕ
  pub begun : List Seen

-- a statement begun, as it is told
abbrev pub seen_at : List ℕ → Begun → Seen
seen_at addresses b = (b.number, b.at.line, b.at.column, b.code, map b.data'.mem addresses)

-- the statements that units begin
abbrev pub begun_with : Option (List Source) → ℕ → List ℕ → Option (List Seen)
begun_with None n addresses = None
begun_with (Some us) n addresses =
    Some (map (seen_at addresses) (begins us (record { stack = 1024; extra = 0; room = 16384; lines = [] }) n))

-- the run begins these
abbrev pub BeginsSo : KnownBegun → Type 0
BeginsSo k = begun_with (sources_from 1 [] (k.text ∷ [])) k.steps k.addresses ≡ Some k.begun

-- each of these runs does
abbrev pub AllBegunSo : List KnownBegun → Type 0
AllBegunSo [] = Unit {0}
AllBegunSo (k ∷ ks) = BeginsSo k × AllBegunSo ks

-- ---- what is said of rules and limits

-- The texts of units, with the first rule that they break, or the first limit that they pass: its number, unit, line and column.
pub record KnownFault : Type 0 where
  pub front : String
  pub texts : List String
  pub rule : Option (ℕ × ℕ × ℕ × ℕ)
  pub limit : Option (ℕ × ℕ × ℕ × ℕ)

-- one unit that first breaks a rule, or passes a limit, at a place
abbrev pub breaking : ℕ → ℕ → ℕ → ℕ → String → KnownFault
breaking rule unit line column text =
    record { front = ""; texts = text ∷ []; rule = Some (rule, unit, line, column); limit = None }

-- and one that passes a limit
abbrev pub passing : ℕ → ℕ → ℕ → ℕ → String → KnownFault
passing limit unit line column text =
    record { front = ""; texts = text ∷ []; rule = None; limit = Some (limit, unit, line, column) }

-- a number with its place
abbrev pub told : ℕ → At → ℕ × ℕ × ℕ × ℕ
told n at = (n, at.unit, at.line, at.column)

-- a fault as it is told
abbrev pub fault_told : Option Fault → Option (ℕ × ℕ × ℕ × ℕ)
fault_told None = None
fault_told (Some f) = Some (told f.rule f.at)

-- a limit as it is told
abbrev pub full_told : Option Full → Option (ℕ × ℕ × ℕ × ℕ)
full_told None = None
full_told (Some f) = Some (told f.limit f.at)

-- the first rule and the first limit of units that were read
abbrev pub findings : Option (List Source) → Option (Option (ℕ × ℕ × ℕ × ℕ) × Option (ℕ × ℕ × ℕ × ℕ))
findings None = None
findings (Some us) = Some (fault_told (first_broken us), full_told (first_full us))

-- these are found first
abbrev pub FaultIsSo : KnownFault → Type 0
FaultIsSo k = findings (sources_from 1 (codes k.front) k.texts) ≡ Some (k.rule, k.limit)

-- each of these is
abbrev pub AllFaultsSo : List KnownFault → Type 0
AllFaultsSo [] = Unit {0}
AllFaultsSo (k ∷ ks) = FaultIsSo k × AllFaultsSo ks

-- a known program breaks no rule and passes no limit
abbrev pub IsRight : Known → Type 0
IsRight k = findings (sources_from 1 (codes k.front) k.texts) ≡ Some (None, None)

-- each of these programs is right
abbrev pub AllRight : List Known → Type 0
AllRight [] = Unit {0}
AllRight (k ∷ ks) = IsRight k × AllRight ks

-- ---- what is said of bounds

-- a unit's text, the name of a segment, and how many words it may have
pub record KnownBound : Type 0 where
  pub text : String
  pub segment : String
  pub words : ℕ

-- the bound of a segment of units that were read
abbrev pub bound_told : Option (List Source) → List ℕ → Option ℕ
bound_told None x = None
bound_told (Some us) x = Some (bound us x)

-- the segment may have so many words
abbrev pub BoundIsSo : KnownBound → Type 0
BoundIsSo k = bound_told (sources_from 1 [] (k.text ∷ [])) (codes k.segment) ≡ Some k.words

-- each of these may
abbrev pub AllBoundsSo : List KnownBound → Type 0
AllBoundsSo [] = Unit {0}
AllBoundsSo (k ∷ ks) = BoundIsSo k × AllBoundsSo ks
