-- The code of conditions, worked by hand: as tests that lead to mark 9, and as values, with marks from 20 on.
use Rattle.std.specs.Prelude.{◌≡◌, ◌+◌, [], ◌∷◌, codes, false, true}
use Rattle.std.proofs.Common.{refl}
use Rattle.spl_branch.specs.hp_instr.declared.instruction.Instr.TheVariants as i
use Rattle.spl_branch.specs.hp_instr.declared.instruction.Mode.TheVariants.{QPlus}
use Rattle.spl_meaning.specs.spl_tree.Trees as tree
use Rattle.spl_branch.specs.declared.pieces.Piece.TheVariants.{Do, Literal, Place, Mark}
use Rattle.spl_code.specs.Instructions.{operate, LDI, LDNI, LOAD, ZERO, LSL, BR, BRE, BCC, CMPB, LOAD_BEFORE}
use Rattle.spl_code.specs.Code.{code, as_value, as_test}
use Rattle.spl_code.proofs.KnownNames.{name, number, binary, nowhere, scope, value_of, test_of}

-- a value is tested by its lowest bit
lowest_bit : test_of (name "L") ≡ LOAD false false (QPlus 2) ∷ BRE 9 ∷ []
lowest_bit = refl

turned_bit : test_of (tree.Tree.unary 2 (name "L") nowhere) ≡ LOAD false false (QPlus 2) ∷ operate 0o65 ∷ BRE 9 ∷ []
turned_bit = refl

-- I=5, I<5, L>=5, D<>D: the branch is taken in the other codes, 4 for CCG, 2 for CCE, 1 for CCL
equal : test_of (binary 5 (name "I") (number 5)) ≡ LOAD false false (QPlus 1) ∷ LDI 5 ∷ operate 0o17 ∷ BCC (4 + 1) 9 ∷ []
equal = refl

less : test_of (binary 7 (name "I") (number 5)) ≡ LOAD false false (QPlus 1) ∷ LDI 5 ∷ operate 0o17 ∷ BCC (4 + 2) 9 ∷ []
less = refl

at_least : test_of (binary 10 (name "L") (number 5)) ≡ LOAD false false (QPlus 2) ∷ LDI 5 ∷ operate 0o60 ∷ BCC 1 9 ∷ []
at_least = refl

greater : test_of (binary 8 (name "L") (number 5)) ≡ LOAD false false (QPlus 2) ∷ LDI 5 ∷ operate 0o60 ∷ BCC (2 + 1) 9 ∷ []
greater = refl

at_most : test_of (binary 9 (name "I") (number 5)) ≡ LOAD false false (QPlus 1) ∷ LDI 5 ∷ operate 0o17 ∷ BCC 4 9 ∷ []
at_most = refl

doubles_differ : test_of (binary 6 (name "D") (name "D"))
    ≡ Do (i.Memory 13 true false false (QPlus 4)) ∷ Do (i.Memory 13 true false false (QPlus 4)) ∷ operate 0o10 ∷ BCC 2 9 ∷ []
doubles_differ = refl

-- L AND I<5: either leads to the mark
both : test_of (binary 1 (name "L") (binary 7 (name "I") (number 5)))
    ≡ LOAD false false (QPlus 2) ∷ BRE 9 ∷ LOAD false false (QPlus 1) ∷ LDI 5 ∷ operate 0o17 ∷ BCC 6 9 ∷ []
both = refl

-- L OR I<5: where L fails the right side is tested, at mark 20; else it goes on at mark 21
either : test_of (binary 0 (name "L") (binary 7 (name "I") (number 5)))
    ≡ LOAD false false (QPlus 2) ∷ BRE 20 ∷ BR 21 ∷ Mark 20 ∷ LOAD false false (QPlus 1) ∷ LDI 5 ∷ operate 0o17 ∷ BCC 6 9 ∷ Mark 21 ∷ []
either = refl

-- I<5 as a value: all ones, or zero at mark 20
relation_as_value : value_of (binary 7 (name "I") (number 5))
    ≡ LOAD false false (QPlus 1) ∷ LDI 5 ∷ operate 0o17 ∷ BCC 6 20 ∷ LDNI 1 ∷ BR 21 ∷ Mark 20 ∷ ZERO ∷ Mark 21 ∷ []
relation_as_value = refl

-- L OR L as a value, whose inner marks are 22 and 23
either_as_value : value_of (binary 0 (name "L") (name "L"))
    ≡ LOAD false false (QPlus 2) ∷ BRE 22 ∷ BR 23 ∷ Mark 22 ∷ LOAD false false (QPlus 2) ∷ BRE 20 ∷ Mark 23
    ∷ LDNI 1 ∷ BR 21 ∷ Mark 20 ∷ ZERO ∷ Mark 21 ∷ []
either_as_value = refl

-- how many marks these make
marks_of_a_test : (code scope (binary 7 (name "I") (number 5)) (as_test 9) 0 20 []).marks ≡ 0
marks_of_a_test = refl

marks_of_a_value : (code scope (binary 0 (name "L") (name "L")) as_value 0 20 []).marks ≡ 4
marks_of_a_value = refl

-- the marks of a right operand come behind those of the left one: (I<5) LAND (I<6)
marks_in_order : value_of (binary 4 (binary 7 (name "I") (number 5)) (binary 7 (name "I") (number 6)))
    ≡ LOAD false false (QPlus 1) ∷ LDI 5 ∷ operate 0o17 ∷ BCC 6 20 ∷ LDNI 1 ∷ BR 21 ∷ Mark 20 ∷ ZERO ∷ Mark 21
    ∷ LOAD false false (QPlus 1) ∷ LDI 6 ∷ operate 0o17 ∷ BCC 6 22 ∷ LDNI 1 ∷ BR 23 ∷ Mark 22 ∷ ZERO ∷ Mark 23 ∷ operate 0o70 ∷ []
marks_in_order = refl

-- B="ABC": the bytes from B's cell on with those at twice the offset that the code holds; 65 * 256 + 66 and 67 * 256 + 32 lie there
bytes_of_a_string : test_of (binary 5 (name "B") (tree.Tree.text (codes "ABC")))
    ≡ LOAD false false (QPlus 8)
    ∷ BR 20 ∷ Mark 21 ∷ Literal 16706 ∷ Literal 17184 ∷ Place 21 ∷ Mark 20 ∷ LOAD_BEFORE ∷ LSL 1 ∷ LDI 3 ∷ CMPB 1 ∷ BCC 5 9 ∷ []
bytes_of_a_string = refl

-- B<Y,(I): both addresses, and then the count
bytes_by_count : test_of (tree.Tree.bytes 2 (name "B") (name "Y") (name "I") nowhere)
    ≡ LOAD false false (QPlus 8) ∷ Do (i.Memory 15 true false false (QPlus 3)) ∷ LSL 1 ∷ LOAD false false (QPlus 1) ∷ CMPB 0 ∷ BCC 6 9 ∷ []
bytes_by_count = refl

-- a string of one character is a word: Y="A"
byte_with_a_character : test_of (binary 5 (name "Y") (tree.Tree.text (codes "A")))
    ≡ Do (i.Memory 13 false false false (QPlus 3)) ∷ LDI 65 ∷ operate 0o60 ∷ BCC 5 9 ∷ []
byte_with_a_character = refl
