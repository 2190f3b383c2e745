-- MOVE and SCAN. Where the answer is used, the first address is kept below, and all behind it wait one word higher.
use Rattle.std.specs.Prelude.{ℕ, ◌%◌, ◌==◌, Bool, true, false, if◌then◌else◌, List, [], ◌∷◌, length}
use Rattle.spl_code.specs.spl_tree.Trees.{Tree}
use Rattle.spl_code.specs.spl_tree.StatementTrees as stat
use Rattle.spl_code.specs.spl_tree.StatementTrees.{Source, Effect}
use Rattle.spl_code.specs.spl_meaning.Kinds.{reference_kind, is_byte}
use Rattle.spl_code.specs.spl_meaning.Pending.{behind_first, behind_second}
use Rattle.spl_code.specs.spl_meaning.Elements.{as_words}
use Rattle.spl_code.specs.spl_branch.declared.pieces.Piece.{Piece}
use Rattle.spl_code.specs.Instructions.{DUP, XCH, DEL, LSL}
use Rattle.spl_code.specs.Parts.{Part, pieces, piece, ◌⨟◌}
use Rattle.spl_code.specs.Constants.{constant, text_offset}
use Rattle.spl_code.specs.Calls.{Scope}
use Rattle.spl_code.specs.Code.{code, as_value, reference}
use Rattle.spl_statement_code.specs.Instructions.{LSUB, MOVE, MVB, MVBW, SCW, SCU}

-- whether a reference leads to bytes
abbrev pub leads_to_bytes : Scope → Tree → Bool
leads_to_bytes c r = is_byte (reference_kind c.names r)

-- the first address once more, where the answer is used
abbrev pub kept_first : Bool → List Piece
kept_first true = DUP ∷ []
kept_first false = []

-- The end address is on top: its distance from the first one is the answer, and where that is not used it is deleted.
abbrev pub told : Bool → List Piece
told true = XCH ∷ LSUB ∷ []
told false = DEL ∷ []

-- the move of words or of bytes, from the data (0) or from the code (1)
abbrev pub move_of : Bool → ℕ → Piece
move_of true from_code = MVB from_code
move_of false from_code = MOVE from_code

-- where a string lies, as the move wants it: by its bytes or by its words
abbrev pub text_scaled : Bool → List Piece
text_scaled true = LSL 1 ∷ []
text_scaled false = []

-- how many bytes or words a string has
abbrev pub text_count : Bool → List ℕ → ℕ
text_count true bytes = length bytes
text_count false bytes = length (as_words bytes)

-- the letters of a class A, N, AN, AS, ANS by its number: 1 for N, 2 for A, and 4 where small letters become capitals
abbrev pub class_letters : ℕ → ℕ
class_letters c = if c == 0 then 2 else if c == 1 then 1 else if c == 2 then 3 else if c == 3 then 6 else 7

-- SCAN UNTIL or WHILE
abbrev pub scan_of : Bool → Piece
scan_of true = SCU
scan_of false = SCW

-- what is moved behind the target's address, and the move
abbrev pub source_moved : Scope → Bool → Bool → Source → ℕ → Part
source_moved c used bytes (stat.Source.counted from count) k =
    reference c from (behind_first used k) ⨟ code c count as_value (behind_second used k) ⨟ piece (move_of bytes 0)
source_moved c used bytes (stat.Source.text text) k =
    text_offset text ⨟ pieces (text_scaled bytes) ⨟ pieces (constant (text_count bytes text % 65536)) ⨟ piece (move_of bytes 1)
source_moved c used bytes (stat.Source.class_of from class) k =
    reference c from (behind_first used k) ⨟ piece (MVBW (class_letters class))

-- a MOVE or a SCAN, whose answer is used or not
abbrev pub effect : Scope → Bool → Effect → ℕ → Part
effect c used (stat.Effect.move to from) k =
    reference c to k ⨟ pieces (kept_first used) ⨟ source_moved c used (leads_to_bytes c to) from k ⨟ pieces (told used)
effect c used (stat.Effect.scan from until test) k =
    reference c from k ⨟ pieces (kept_first used) ⨟ code c test as_value (behind_first used k) ⨟ piece (scan_of until) ⨟ pieces (told used)
