-- The code of MOVE and SCAN, worked by hand.
use Rattle.std.specs.Prelude.{◌≡◌, [], ◌∷◌, codes, false, true}
use Rattle.std.proofs.Common.{refl}
use Rattle.spl_code.specs.hp_instr.declared.instruction.Mode.TheVariants.{QPlus, QMinus, SMinus}
use Rattle.spl_code.specs.spl_tree.StatementTrees as stat
use Rattle.spl_code.specs.spl_branch.declared.pieces.Piece.TheVariants.{Literal, Place, Mark}
use Rattle.spl_code.specs.Instructions.{operate, LDI, LOAD, LRA, LSL, DUP, XCH, STOR, DEL, LOAD_BEFORE, BR}
use Rattle.spl_statement_code.specs.Instructions.{MOVE, MVB, MVBW, SCW, SCU}
use Rattle.spl_statement_code.proofs.KnownNames.{name, number, here, start, pieces_of}

-- MOVE A:=R,(3): words, the target's address below the source's
words_by_count : pieces_of (stat.Statement.do_effect (stat.Effect.move (name "A") (stat.Source.counted (name "R") (number 3))) here)
    ≡ start ∷ LOAD false false (QPlus 6) ∷ LOAD false false (QMinus 4) ∷ LDI 3 ∷ MOVE 0 ∷ DEL ∷ []
words_by_count = refl

-- MOVE B:=Y,(W): bytes; W stands below two words that wait
bytes_by_count : pieces_of (stat.Statement.do_effect (stat.Effect.move (name "B") (stat.Source.counted (name "Y") (name "W"))) here)
    ≡ start ∷ LOAD false false (QPlus 8) ∷ LRA false false (QPlus 3) ∷ LSL 1 ∷ LOAD false false (SMinus 3) ∷ MVB 0 ∷ DEL ∷ []
bytes_by_count = refl

-- MOVE B:="ABC" and MOVE A:="ABC": 3 bytes, or 2 words; 65 * 256 + 66 and 67 * 256 + 32 lie there
bytes_of_a_string : pieces_of (stat.Statement.do_effect (stat.Effect.move (name "B") (stat.Source.text (codes "ABC"))) here)
    ≡ start ∷ LOAD false false (QPlus 8)
    ∷ BR 20 ∷ Mark 21 ∷ Literal 16706 ∷ Literal 17184 ∷ Place 21 ∷ Mark 20 ∷ LOAD_BEFORE ∷ LSL 1 ∷ LDI 3 ∷ MVB 1 ∷ DEL ∷ []
bytes_of_a_string = refl

words_of_a_string : pieces_of (stat.Statement.do_effect (stat.Effect.move (name "A") (stat.Source.text (codes "ABC"))) here)
    ≡ start ∷ LOAD false false (QPlus 6)
    ∷ BR 20 ∷ Mark 21 ∷ Literal 16706 ∷ Literal 17184 ∷ Place 21 ∷ Mark 20 ∷ LOAD_BEFORE ∷ LDI 2 ∷ MOVE 1 ∷ DEL ∷ []
words_of_a_string = refl

-- MOVE B:=Y WHILE AN, and WHILE AS
while_of_a_class : pieces_of (stat.Statement.do_effect (stat.Effect.move (name "B") (stat.Source.class_of (name "Y") 2)) here)
    ≡ start ∷ LOAD false false (QPlus 8) ∷ LRA false false (QPlus 3) ∷ LSL 1 ∷ MVBW 3 ∷ DEL ∷ []
while_of_a_class = refl

while_of_a_raising_class : pieces_of (stat.Statement.do_effect (stat.Effect.move (name "B") (stat.Source.class_of (name "B") 3)) here)
    ≡ start ∷ LOAD false false (QPlus 8) ∷ LOAD false false (QPlus 8) ∷ MVBW 6 ∷ DEL ∷ []
while_of_a_raising_class = refl

-- SCAN B UNTIL W, and SCAN B WHILE 32
scan_until : pieces_of (stat.Statement.do_effect (stat.Effect.scan (name "B") true (name "W")) here)
    ≡ start ∷ LOAD false false (QPlus 8) ∷ LOAD false false (SMinus 2) ∷ SCU ∷ DEL ∷ []
scan_until = refl

scan_while : pieces_of (stat.Statement.do_effect (stat.Effect.scan (name "B") false (number 32)) here)
    ≡ start ∷ LOAD false false (QPlus 8) ∷ LDI 32 ∷ SCW ∷ DEL ∷ []
scan_while = refl

-- I:=MOVE A:=R,(W): the target's address is kept, W stands below three words that wait, and the answer counts from the target
answer_of_a_move : pieces_of
    (stat.Statement.assign_effect (stat.Target.plain (name "I")) (stat.Effect.move (name "A") (stat.Source.counted (name "R") (name "W"))) here)
    ≡ start ∷ LOAD false false (QPlus 6) ∷ DUP ∷ LOAD false false (QMinus 4) ∷ LOAD false false (SMinus 4) ∷ MOVE 0
    ∷ XCH ∷ operate 0o62 ∷ STOR false false (QPlus 1) ∷ []
answer_of_a_move = refl

-- I:=SCAN B UNTIL W
answer_of_a_scan : pieces_of (stat.Statement.assign_effect (stat.Target.plain (name "I")) (stat.Effect.scan (name "B") true (name "W")) here)
    ≡ start ∷ LOAD false false (QPlus 8) ∷ DUP ∷ LOAD false false (SMinus 3) ∷ SCU ∷ XCH ∷ operate 0o62 ∷ STOR false false (QPlus 1) ∷ []
answer_of_a_scan = refl
