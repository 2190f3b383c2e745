-- How many zeros pieces push.
use Rattle.std.specs.Prelude.{◌≡◌, ℕ, ◌==◌, if◌then◌else◌}
use Rattle.spl_code.specs.hp_instr.declared.instruction.Instr.{Instr}
use Rattle.spl_code.specs.hp_instr.declared.instruction.Instr.TheVariants as i
use Rattle.spl_code.specs.spl_meaning.Places.{sum}
use Rattle.spl_code.specs.spl_branch.declared.pieces.Piece.{Piece}
use Rattle.spl_code.specs.spl_branch.declared.pieces.Piece.TheVariants.{Do}
use Rattle.spl_body_code.specs.Frames.{zeroed}

-- ADDS, whose code is 7, pushes as many as its number says; other instructions push none
abbrev pub zeros_by : Instr → ℕ
zeros_by (i.Control which n) = if which == 7 then n else 0
zeros_by by = 0

abbrev pub zeros_in : Piece → ℕ
zeros_in (Do by) = zeros_by by
zeros_in x = 0

-- for so many local words there are as many zeros
abbrev pub LocalWordsAreZero : Type 0
LocalWordsAreZero = (words : ℕ) → sum zeros_in (zeroed words) ≡ words
