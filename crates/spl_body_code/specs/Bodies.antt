-- The code of bodies around that of their statements. The mark of the entry, `entry`, was made before and is set; the mark of the way out,
-- `leave`, which RETURN leads to, is made and set here.
use Rattle.std.specs.Prelude.{ℕ, ◌+◌, ◌%◌, Bool, true, false, List, [], ◌∷◌, ◌++◌, codes}
use Rattle.spl_code.specs.spl_meaning.Places.{Cell, Initial}
use Rattle.spl_code.specs.spl_meaning.Pending.{formals_words}
use Rattle.spl_code.specs.spl_meaning.Bodies.{Body}
use Rattle.spl_code.specs.spl_branch.declared.pieces.Piece.{Piece}
use Rattle.spl_code.specs.spl_branch.declared.pieces.Piece.TheVariants.{Mark}
use Rattle.spl_code.specs.Parts.{Part, pieces, piece, ◌⨟◌, with_fresh, call_wanted}
use Rattle.spl_body_code.specs.Frames.{granted, zeroed, SPLT, JOIN, EXIT, SXIT}
use Rattle.spl_body_code.specs.Cells.{cells_set, initials_set}

-- what a procedure's frame needs
pub record Frame : Type 0 where
  -- the words of its local items and their arrays' data
  pub words : ℕ
  -- the room above them
  pub room : ℕ
  pub cells : List Cell
  pub initials : List Initial
  -- whether the procedure is split
  pub split : Bool

-- of a body
abbrev pub frame_of : Body → Frame
frame_of b = record { words = b.words; room = b.depth'; cells = b.cells; initials = b.initials; split = b.here.setting.split }

-- a split procedure runs in split mode
abbrev pub mode_entered : Bool → List Piece
mode_entered true = SPLT ∷ []
mode_entered false = []

-- and leaves it
abbrev pub mode_left : Bool → List Piece
mode_left true = JOIN ∷ []
mode_left false = []

-- ---- procedures

-- Before the statements of a procedure: room for its local words and what is above them; its local words, zero; their cells; initial values;
-- and then split mode, where it is split.
abbrev pub procedure_entered : Frame → List Piece
procedure_entered f = granted (f.words + f.room) ++ zeroed f.words ++ cells_set f.cells ++ initials_set f.initials ++ mode_entered f.split

-- behind them: whole mode again, and the exit, which deletes the words of the parameters and leaves the result
abbrev pub procedure_left : Bool → ℕ → List Piece
procedure_left split words = mode_left split ++ EXIT (words % 256) ∷ []

-- a procedure
abbrev pub procedure_code : Body → ℕ → (ℕ → Part) → Part
procedure_code b entry statements =
    with_fresh (λ leave.
    piece (Mark entry) ⨟ pieces (procedure_entered (frame_of b)) ⨟ statements leave ⨟ piece (Mark leave)
    ⨟ pieces (procedure_left b.here.setting.split (formals_words b.profile.formals)))

-- ---- subroutines

-- behind the statement of a subroutine: the exit, which deletes the words of the parameters and leaves the result
abbrev pub subroutine_left : ℕ → List Piece
subroutine_left words = SXIT (words % 256) ∷ []

-- a subroutine, which goes on in the frame around it
abbrev pub subroutine_code : Body → ℕ → (ℕ → Part) → Part
subroutine_code b entry statement =
    with_fresh (λ leave.
    piece (Mark entry) ⨟ pieces (granted b.depth') ⨟ statement leave ⨟ piece (Mark leave)
    ⨟ pieces (subroutine_left (formals_words b.profile.formals)))

-- ---- the main body

-- behind the statements of the main body: the call of the intrinsic that ends the session's program
abbrev pub main_left : Part
main_left = call_wanted (codes "TERMINATE") true

-- the main body, in which no RETURN stands
abbrev pub main_code : Body → ℕ → Part → Part
main_code b entry statements = piece (Mark entry) ⨟ pieces (granted b.depth') ⨟ statements ⨟ main_left
