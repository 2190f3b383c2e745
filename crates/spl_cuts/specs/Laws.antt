-- The laws of cutting: what is read of a text is what it is cut into, or its first fault.
use Rattle.std.specs.Prelude.{ℕ, ◌≡◌, ◌+◌, ◌*◌, ◌<◌, ◌≤◌, List, length, take, Ok, Err}
use Rattle.spl_tree.specs.declared.names_and_places.At.{At}
use Rattle.spl_cuts.specs.declared.faults.LexKind.{LexKind}
use Rattle.spl_cuts.specs.declared.faults.LexKind.TheVariants as k
use Rattle.spl_cuts.specs.Signs.{Listed}
use Rattle.spl_cuts.specs.Cutting.{Cuts, CutsWithin, Bad, FirstFault}
use Rattle.spl_cuts.specs.FaultEnds.{EndsBehind}
use Rattle.spl_cuts.specs.Whole.{IsWhole}
use Rattle.spl_cuts.specs.Reading.{read_text}

-- a text is read as the list that it is cut into
abbrev pub CutsAreRead : Type 0
CutsAreRead = (unit limit : ℕ) (text : List ℕ) (x : Listed) → CutsWithin unit limit text x → read_text unit limit text ≡ Ok x

-- the list that is read of a text is the one that it is cut into
abbrev pub TextsAreCut : Type 0
TextsAreCut = (unit limit : ℕ) (text : List ℕ) (x : Listed) → read_text unit limit text ≡ Ok x → CutsWithin unit limit text x

-- the first fault of a text is the one that is read
abbrev pub FaultsAreRead : Type 0
FaultsAreRead = (unit limit : ℕ) (text : List ℕ) (kind : LexKind) (at : At) → FirstFault unit limit text kind at → read_text unit limit text ≡ Err (kind, at)

-- the fault that is read of a text is its first
abbrev pub FaultsAreFirst : Type 0
FaultsAreFirst = (unit limit : ℕ) (text : List ℕ) (kind : LexKind) (at : At) → read_text unit limit text ≡ Err (kind, at) → FirstFault unit limit text kind at

-- a text is cut in at most one way
abbrev pub CutsAreUnique : Type 0
CutsAreUnique = (unit m n : ℕ) (text : List ℕ) (x y : Listed) → Cuts unit m text x → Cuts unit n text y → x ≡ y

-- a text that is cut has no bad piece
abbrev pub CutsAreSound : Type 0
CutsAreSound = (unit m n : ℕ) (text : List ℕ) (x : Listed) (kind : LexKind) (at : At) → Cuts unit m text x → Bad unit n text kind at → ⊥

-- a text has at most one bad piece
abbrev pub BadPiecesAreUnique : Type 0
BadPiecesAreUnique =
    (unit m n : ℕ) (text : List ℕ) (kind other : LexKind) (at there : At) → Bad unit m text kind at → Bad unit n text other there
    → (kind ≡ other) × (at ≡ there)

-- a text has at most one first fault
abbrev pub FaultsAreUnique : Type 0
FaultsAreUnique =
    (unit limit : ℕ) (text : List ℕ) (kind other : LexKind) (at there : At) → FirstFault unit limit text kind at
    → FirstFault unit limit text other there → (kind ≡ other) × (at ≡ there)

-- each segment but the first takes a command line of at least 17 bytes
abbrev pub SegmentsAreFew : Type 0
SegmentsAreFew = (unit count : ℕ) (text : List ℕ) (x : Listed) → Cuts unit count text x → 17 * length x.segments ≤ 17 + length text

-- the piece of a first fault ends somewhere
abbrev pub FaultsEnd : Type 0
FaultsEnd =
    (unit limit : ℕ) (text : List ℕ) (kind : LexKind) (at : At) → FirstFault unit limit text kind at
    → (size : ℕ) × EndsBehind unit limit text kind at size

-- a fault whose piece ends somewhere is a first fault
abbrev pub EndedFaultsAreFirst : Type 0
EndedFaultsAreFirst =
    (unit limit : ℕ) (text : List ℕ) (kind : LexKind) (at : At) (size : ℕ) → EndsBehind unit limit text kind at size
    → FirstFault unit limit text kind at

-- A text with the same bytes up to the end of that piece, and the same byte behind it, is not cut, unless the fault is that too
-- many tokens arise, and then too many do in that text. Where the piece ends the text, the other text is the same.
abbrev pub FaultsStand : Type 0
FaultsStand =
    (unit limit : ℕ) (text : List ℕ) (kind : LexKind) (at : At) (size : ℕ) → EndsBehind unit limit text kind at size
    → (other : List ℕ) → take (size + 1) other ≡ take (size + 1) text → (count : ℕ) (x : Listed) → Cuts unit count other x
    → (kind ≡ k.TooManyTokens) × (limit < count)

-- A list that a text is cut into within a limit has at most so many tokens before its end, which is its last token and no other; and
-- each token has the number of the unit, and that of a segment of the list.
abbrev pub CutsAreWhole : Type 0
CutsAreWhole = (unit limit : ℕ) (text : List ℕ) (x : Listed) → CutsWithin unit limit text x → IsWhole unit limit x
