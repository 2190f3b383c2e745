-- The code of blocks, of IF and of CASE, worked by hand.
use Rattle.std.specs.Prelude.{◌≡◌, [], ◌∷◌, false}
use Rattle.std.proofs.Common.{refl}
use Rattle.spl_code.specs.hp_instr.declared.instruction.Mode.TheVariants.{QPlus}
use Rattle.spl_code.specs.spl_tree.StatementTrees as stat
use Rattle.spl_code.specs.spl_branch.declared.pieces.Piece.TheVariants.{Mark}
use Rattle.spl_code.specs.Instructions.{operate, LDI, LOAD, STOR, DEL, BR, BRE, BCC}
use Rattle.spl_statement_code.specs.Instructions.{SUBS, TEST}
use Rattle.spl_statement_code.specs.Statements.{statement}
use Rattle.spl_statement_code.proofs.KnownNames.{context, name, number, binary, set_to, both, here, start, pieces_of, pieces_while}

-- a statement without code of its own has one word
nothing_to_do : pieces_of stat.Statement.empty ≡ SUBS 0 ∷ []
nothing_to_do = refl

nothing_in_a_loop : pieces_while 3 stat.Statement.empty ≡ SUBS 0 ∷ []
nothing_in_a_loop = refl

-- BEGIN I:=1; I:=2 END: the second is not lost
of_a_block : pieces_of (stat.Statement.block (both (set_to "I" 1) (set_to "I" 2)))
    ≡ SUBS 0 ∷ start ∷ LDI 1 ∷ STOR false false (QPlus 1) ∷ start ∷ LDI 2 ∷ STOR false false (QPlus 1) ∷ []
of_a_block = refl

of_an_empty_block : pieces_of (stat.Statement.block stat.Statements.none) ≡ SUBS 0 ∷ []
of_an_empty_block = refl

-- IF I<5 THEN I:=1
if_without_else : pieces_of (stat.Statement.if_test (stat.Test.condition (binary 7 (name "I") (number 5))) (set_to "I" 1) stat.Statements.none here)
    ≡ start ∷ LOAD false false (QPlus 1) ∷ LDI 5 ∷ operate 0o17 ∷ BCC 6 20 ∷ start ∷ LDI 1 ∷ STOR false false (QPlus 1) ∷ Mark 20 ∷ []
if_without_else = refl

-- IF L THEN I:=1 ELSE I:=2: behind the first part the second is passed
if_with_else : pieces_of
    (stat.Statement.if_test (stat.Test.condition (name "L")) (set_to "I" 1) (stat.Statements.and (set_to "I" 2) stat.Statements.none) here)
    ≡ start ∷ LOAD false false (QPlus 2) ∷ BRE 20 ∷ start ∷ LDI 1 ∷ STOR false false (QPlus 1) ∷ BR 21
    ∷ Mark 20 ∷ start ∷ LDI 2 ∷ STOR false false (QPlus 1) ∷ Mark 21 ∷ []
if_with_else = refl

-- IF > THEN and IF <= THEN test the condition code: 4 is CCG, 2 is CCE, 1 is CCL
if_greater : pieces_of (stat.Statement.if_test (stat.Test.code 3) (set_to "I" 1) stat.Statements.none here)
    ≡ start ∷ BCC 3 20 ∷ start ∷ LDI 1 ∷ STOR false false (QPlus 1) ∷ Mark 20 ∷ []
if_greater = refl

if_at_most : pieces_of (stat.Statement.if_test (stat.Test.code 4) stat.Statement.empty stat.Statements.none here)
    ≡ start ∷ BCC 4 20 ∷ SUBS 0 ∷ Mark 20 ∷ []
if_at_most = refl

-- CASE I OF BEGIN I:=1; I:=2 END: the first is taken at 0; mark 20 is the end
case_of_two : pieces_of (stat.Statement.case_of (name "I") (both (set_to "I" 1) (set_to "I" 2)) here)
    ≡ start ∷ LOAD false false (QPlus 1)
    ∷ TEST ∷ BCC 5 21 ∷ DEL ∷ start ∷ LDI 1 ∷ STOR false false (QPlus 1) ∷ BR 20 ∷ Mark 21 ∷ LDI 1 ∷ operate 0o62
    ∷ TEST ∷ BCC 5 22 ∷ DEL ∷ start ∷ LDI 2 ∷ STOR false false (QPlus 1) ∷ BR 20 ∷ Mark 22 ∷ LDI 1 ∷ operate 0o62
    ∷ DEL ∷ Mark 20 ∷ []
case_of_two = refl

case_of_none : pieces_of (stat.Statement.case_of (number 7) stat.Statements.none here) ≡ start ∷ LDI 7 ∷ DEL ∷ Mark 20 ∷ []
case_of_none = refl

-- a CASE with two arms makes three marks
marks_of_a_case : (statement context (stat.Statement.case_of (name "I") (both (set_to "I" 1) (set_to "I" 2)) here) 0 20 []).marks ≡ 3
marks_of_a_case = refl
