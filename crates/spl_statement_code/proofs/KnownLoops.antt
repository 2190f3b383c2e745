-- The code of loops, worked by hand.
use Rattle.std.specs.Prelude.{◌≡◌, [], ◌∷◌, codes, false, true}
use Rattle.std.proofs.Common.{refl}
use Rattle.spl_code.specs.hp_instr.declared.instruction.Mode.TheVariants.{QPlus, QMinus, SMinus, DbPlus}
use Rattle.spl_code.specs.spl_tree.Trees as tree
use Rattle.spl_code.specs.spl_tree.StatementTrees as stat
use Rattle.spl_code.specs.spl_branch.declared.pieces.Piece.TheVariants.{Mark}
use Rattle.spl_code.specs.Instructions.{operate, LDI, LOAD, STOR, LRA, LDXN, XCH, BR, BRE, BCC}
use Rattle.spl_statement_code.specs.Instructions.{SUBS, TBA, MTBA}
use Rattle.spl_statement_code.proofs.KnownNames.{name, number, binary, set_to, here, start, pieces_of, pieces_while}

-- WHILE L DO I:=1: the test stands first, and the loop goes back to it
while_true : pieces_of (stat.Statement.while_true (name "L") (set_to "I" 1) here)
    ≡ Mark 20 ∷ LOAD false false (QPlus 2) ∷ BRE 21 ∷ start ∷ LDI 1 ∷ STOR false false (QPlus 1) ∷ BR 20 ∷ Mark 21 ∷ []
while_true = refl

-- WHILE L OR L DO: the marks of the test come behind those of the loop
while_either : pieces_of (stat.Statement.while_true (binary 0 (name "L") (name "L")) stat.Statement.empty here)
    ≡ Mark 20 ∷ LOAD false false (QPlus 2) ∷ BRE 22 ∷ BR 23 ∷ Mark 22 ∷ LOAD false false (QPlus 2) ∷ BRE 21 ∷ Mark 23
    ∷ SUBS 0 ∷ BR 20 ∷ Mark 21 ∷ []
while_either = refl

-- DO I:=1 UNTIL L: where the test fails it leads back
do_until : pieces_of (stat.Statement.until_true (set_to "I" 1) (name "L") here)
    ≡ SUBS 0 ∷ Mark 20 ∷ start ∷ LDI 1 ∷ STOR false false (QPlus 1) ∷ LOAD false false (QPlus 2) ∷ BRE 20 ∷ []
do_until = refl

do_until_less : pieces_of (stat.Statement.until_true stat.Statement.empty (binary 7 (name "I") (number 5)) here)
    ≡ SUBS 0 ∷ Mark 20 ∷ SUBS 0 ∷ LOAD false false (QPlus 1) ∷ LDI 5 ∷ operate 0o17 ∷ BCC 6 20 ∷ []
do_until_less = refl

-- FOR I:=1 UNTIL 9 DO: address, step and limit; the first test stands before the body
for_a_local : pieces_of (stat.Statement.for_values (codes "I") (number 1) tree.Trees.none (number 9) stat.Statement.empty here)
    ≡ start ∷ LDI 1 ∷ STOR false false (QPlus 1) ∷ LRA false false (QPlus 1) ∷ LDI 1 ∷ LDI 9 ∷ TBA 20 ∷ BR 21
    ∷ Mark 20 ∷ SUBS 0 ∷ MTBA 20 ∷ Mark 21 ∷ []
for_a_local = refl

-- FOR G:=W STEP W UNTIL W DO I:=W: a subroutine's parameter moves away by what waits, 0, 1, 2 and 3 words
for_a_global : pieces_of
    (stat.Statement.for_values (codes "G") (name "W") (tree.Trees.and (name "W") tree.Trees.none) (name "W")
    (stat.Statement.assign (stat.Target.plain (name "I")) (name "W") here) here)
    ≡ start ∷ LOAD false false (SMinus 1) ∷ STOR false false (DbPlus 10) ∷ LRA false false (DbPlus 10)
    ∷ LOAD false false (SMinus 2) ∷ LOAD false false (SMinus 3) ∷ TBA 20 ∷ BR 21
    ∷ Mark 20 ∷ start ∷ LOAD false false (SMinus 4) ∷ STOR false false (QPlus 1) ∷ MTBA 20 ∷ Mark 21 ∷ []
for_a_global = refl

-- FOR W:=1 in the third word that waits: the value has moved W away, and behind the store it has not
for_a_parameter : pieces_while 3 (stat.Statement.for_values (codes "W") (number 1) tree.Trees.none (number 9) stat.Statement.empty here)
    ≡ start ∷ LDI 1 ∷ LDXN 1 ∷ STOR false true (SMinus 4) ∷ LRA false false (SMinus 4) ∷ LDI 1 ∷ LDI 9 ∷ TBA 20 ∷ BR 21
    ∷ Mark 20 ∷ SUBS 0 ∷ MTBA 20 ∷ Mark 21 ∷ []
for_a_parameter = refl

-- FOR R:=1, by the address that was passed for R, which stays below
for_an_address : pieces_of (stat.Statement.for_values (codes "R") (number 1) tree.Trees.none (number 9) stat.Statement.empty here)
    ≡ start ∷ LDI 1 ∷ LOAD false false (QMinus 4) ∷ XCH ∷ STOR true false (SMinus 1) ∷ LDI 1 ∷ LDI 9 ∷ TBA 20 ∷ BR 21
    ∷ Mark 20 ∷ SUBS 0 ∷ MTBA 20 ∷ Mark 21 ∷ []
for_an_address = refl

-- FOR U:=1, by an address that the value has moved away
for_a_moved_address : pieces_of (stat.Statement.for_values (codes "U") (number 1) tree.Trees.none (number 9) stat.Statement.empty here)
    ≡ start ∷ LDI 1 ∷ LDXN 1 ∷ LOAD false true (SMinus 2) ∷ XCH ∷ STOR true false (SMinus 1) ∷ LDI 1 ∷ LDI 9 ∷ TBA 20 ∷ BR 21
    ∷ Mark 20 ∷ SUBS 0 ∷ MTBA 20 ∷ Mark 21 ∷ []
for_a_moved_address = refl
