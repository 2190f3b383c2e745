-- The code of assignments, worked by hand.
use Rattle.std.specs.Prelude.{◌≡◌, [], ◌∷◌, codes, false, true}
use Rattle.std.proofs.Common.{refl}
use Rattle.spl_code.specs.hp_word.Bytes as w
use Rattle.spl_code.specs.hp_instr.declared.instruction.Instr.TheVariants as i
use Rattle.spl_code.specs.hp_instr.declared.instruction.Mode.TheVariants.{QPlus, QMinus, SMinus}
use Rattle.spl_code.specs.spl_tree.Trees as tree
use Rattle.spl_code.specs.spl_tree.Trees.{Tree}
use Rattle.spl_code.specs.spl_tree.StatementTrees as stat
use Rattle.spl_code.specs.spl_tree.StatementTrees.{Statement, Target}
use Rattle.spl_code.specs.spl_branch.declared.pieces.Piece.TheVariants.{Do}
use Rattle.spl_code.specs.Instructions.{LDI, LOAD, STOR, LDX, LDXN, DPF, DEL, XCH}
use Rattle.spl_statement_code.proofs.KnownNames.{name, name_of, number, here, start, pieces_of, pieces_while}

-- an assignment
abbrev becomes : Target → Tree → Statement
becomes to e = stat.Statement.assign to e here

-- I:=5
into_a_variable : pieces_of (becomes (stat.Target.plain (name "I")) (number 5)) ≡ start ∷ LDI 5 ∷ STOR false false (QPlus 1) ∷ []
into_a_variable = refl

-- W:=W in a FOR: the value has moved W away by a word
into_a_parameter : pieces_while 3 (becomes (stat.Target.plain (name "W")) (name "W"))
    ≡ start ∷ LOAD false false (SMinus 4) ∷ LDXN 1 ∷ STOR false true (SMinus 4) ∷ []
into_a_parameter = refl

-- A(I):=W: the index waits below the value
into_an_element : pieces_of (becomes (stat.Target.plain (name_of "A" (name "I"))) (name "W"))
    ≡ start ∷ LOAD false false (QPlus 1) ∷ LOAD false false (SMinus 2) ∷ LDX (SMinus 1) ∷ STOR true true (QPlus 6) ∷ DEL ∷ []
into_an_element = refl

-- A:=5 is element 0
into_the_first_element : pieces_of (becomes (stat.Target.plain (name "A")) (number 5)) ≡ start ∷ LDI 5 ∷ STOR true false (QPlus 6) ∷ []
into_the_first_element = refl

-- F:=5 is the procedure's result, and T:=1D that of the subroutine, 4 words below its return word
into_a_result : pieces_of (becomes (stat.Target.plain (name "F")) (number 5)) ≡ start ∷ LDI 5 ∷ STOR false false (QMinus 5) ∷ []
into_a_result = refl

into_a_double_result : pieces_of (becomes (stat.Target.plain (name "T")) (tree.Tree.wide 1))
    ≡ start ∷ LDI 0 ∷ LDI 1 ∷ LDXN 1 ∷ Do (i.Memory 14 true true false (SMinus 4)) ∷ []
unfolding w.high_word w.low_word
into_a_double_result = refl

-- I.(0:8):=1 and A(1).(4:16-4):=3
into_a_field : pieces_of (becomes (stat.Target.field (name "I") (tree.Constant.number false 0) (tree.Constant.number false 8)) (number 1))
    ≡ start ∷ LDI 1 ∷ LOAD false false (QPlus 1) ∷ XCH ∷ DPF 0 8 ∷ STOR false false (QPlus 1) ∷ []
into_a_field = refl

into_a_field_of_an_element : pieces_of
    (becomes (stat.Target.field (name_of "A" (number 1)) (tree.Constant.number false 4) (tree.Constant.number false 12)) (number 3))
    ≡ start ∷ LDI 1 ∷ LDI 3 ∷ LDX (SMinus 1) ∷ LOAD true true (QPlus 6) ∷ XCH ∷ DPF 4 12 ∷ STOR true true (QPlus 6) ∷ DEL ∷ []
into_a_field_of_an_element = refl

-- @P:=@A, and @P:=5
into_a_pointer : pieces_of (becomes (stat.Target.address (codes "P") here) (tree.Tree.address (codes "A") tree.Trees.none here))
    ≡ start ∷ LOAD false false (QPlus 6) ∷ STOR false false (QPlus 9) ∷ []
into_a_pointer = refl

into_a_pointer_by_number : pieces_of (becomes (stat.Target.address (codes "P") here) (number 5)) ≡ start ∷ LDI 5 ∷ STOR false false (QPlus 9) ∷ []
into_a_pointer_by_number = refl

-- P:=5 goes where the pointer leads, R:=5 where the parameter does
through_a_pointer : pieces_of (becomes (stat.Target.plain (name "P")) (number 5)) ≡ start ∷ LDI 5 ∷ STOR true false (QPlus 9) ∷ []
through_a_pointer = refl

through_an_address : pieces_of (becomes (stat.Target.plain (name "R")) (number 5)) ≡ start ∷ LDI 5 ∷ STOR true false (QMinus 4) ∷ []
through_an_address = refl
