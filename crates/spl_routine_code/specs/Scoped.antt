-- The code of bodies by what it is made of: the frame or the room, how many words the parameters have, and the statements.
use Rattle.std.specs.Prelude.{ℕ}
use Rattle.spl_branch.specs.declared.pieces.Piece.TheVariants.{Mark}
use Rattle.spl_label_marks.specs.spl_code.Parts.{Part, pieces, piece, ◌⨟◌, with_fresh}
use Rattle.spl_label_marks.specs.spl_body_code.Frames.{granted}
use Rattle.spl_label_marks.specs.spl_body_code.Bodies.{Frame, procedure_entered, procedure_left, subroutine_left, main_left}

-- a procedure
abbrev pub procedure_with : Frame → ℕ → ℕ → (ℕ → Part) → Part
procedure_with frame words entry statements =
    with_fresh (λ leave. piece (Mark entry) ⨟ pieces (procedure_entered frame) ⨟ statements leave ⨟ piece (Mark leave) ⨟ pieces (procedure_left frame.split words))

-- a subroutine
abbrev pub subroutine_with : ℕ → ℕ → ℕ → (ℕ → Part) → Part
subroutine_with depth words entry statement =
    with_fresh (λ leave. piece (Mark entry) ⨟ pieces (granted depth) ⨟ statement leave ⨟ piece (Mark leave) ⨟ pieces (subroutine_left words))

-- a main body
abbrev pub main_with : ℕ → ℕ → Part → Part
main_with depth entry statements = piece (Mark entry) ⨟ pieces (granted depth) ⨟ statements ⨟ main_left
