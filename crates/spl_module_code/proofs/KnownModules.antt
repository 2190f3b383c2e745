-- The modules of a unit, worked by hand. Segment 0 has its main body, with a subroutine T; segment 1 has F with a subroutine S, and H with U.
-- No body does anything.
use Rattle.std.specs.Prelude.{◌≡◌, ℕ, true, List, [], ◌∷◌, ◌++◌, codes, Some, None, refl}
use Rattle.spl_statement_code.specs.hp_instr.declared.instruction.Instr.TheVariants as i
use Rattle.spl_statement_code.specs.spl_branch.declared.pieces.Piece.{Piece}
use Rattle.spl_statement_code.specs.spl_branch.declared.pieces.Piece.TheVariants.{Mark, Call}
use Rattle.spl_statement_code.specs.Instructions.{SUBS}
use Rattle.spl_body_code.specs.Frames.{ROOM, ADDS, EXIT, SXIT}
use Rattle.spl_modules.specs.spl_scopes.Scopes.{Placed, first_reached}
use Rattle.spl_module_code.specs.Modules.{module_written, marks_before, main_mark}
use Rattle.spl_module_code.proofs.KnownUnits.{unit}

abbrev pub placed : Placed
placed = record { at = first_reached (unit ∷ []); unit = unit }

-- a body that does nothing, between the marks of its entry and of its way out
abbrev pub idle_body : ℕ → ℕ → List Piece → List Piece
idle_body entry leave way_out = Mark entry ∷ ROOM 8 ∷ SUBS 0 ∷ Mark leave ∷ way_out

-- T with a word, and the main body, which ends the program
in_segment_0 : module_written placed 0 ≡ record {
  pieces = idle_body 0 2 (SXIT 1 ∷ []) ++ Mark 1 ∷ ROOM 8 ∷ Call (i.Control 0 0) true 0 ∷ [];
  marks = 1;
  wants = record { name = codes "TERMINATE"; gate = true } ∷ [];
}
in_segment_0 = refl

-- S with a DOUBLE, F with a local word and one parameter, and U and H
in_segment_1 : module_written placed 1 ≡ record {
  pieces = idle_body 1 4 (SXIT 2 ∷ []) ++ Mark 0 ∷ ROOM 9 ∷ ADDS 1 ∷ SUBS 0 ∷ Mark 5 ∷ EXIT 1 ∷ idle_body 3 6 (SXIT 0 ∷ []) ++ idle_body 2 7 (EXIT 0 ∷ []);
  marks = 4;
  wants = [];
}
in_segment_1 = refl

-- F, S, H and U have entries in segment 1; T and the main body marks in segment 0
entries_of_segment_1 : marks_before placed 1 ≡ 4
entries_of_segment_1 = refl

marks_of_segment_0 : marks_before placed 0 ≡ 2
marks_of_segment_0 = refl

main_of_segment_0 : main_mark placed 0 ≡ Some 1
main_of_segment_0 = refl

main_of_segment_1 : main_mark placed 1 ≡ None
main_of_segment_1 = refl
