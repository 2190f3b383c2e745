-- The code of references, worked by hand: values and addresses of elements, pointers and parameters by reference.
use Rattle.std.specs.Prelude.{◌≡◌, [], ◌∷◌, codes, false, true}
use Rattle.std.proofs.Common.{refl}
use Rattle.spl_branch.specs.hp_instr.declared.instruction.Instr.TheVariants as i
use Rattle.spl_branch.specs.hp_instr.declared.instruction.Mode.TheVariants.{QPlus, QMinus, SMinus}
use Rattle.spl_meaning.specs.spl_tree.Trees as tree
use Rattle.spl_meaning.specs.Kinds.{plus}
use Rattle.spl_branch.specs.declared.pieces.Piece.TheVariants.{Do}
use Rattle.spl_code.specs.Instructions.{operate, LDI, LOAD, LRA, LSL, STAX}
use Rattle.spl_code.proofs.KnownNames.{name, name_of, number, binary, nowhere, value_of, value_while, address_of}

-- ---- values

-- R, A and P without index: what their words lead to
by_reference : value_of (name "R") ≡ LOAD true false (QMinus 4) ∷ []
by_reference = refl

first_element : value_of (name "A") ≡ LOAD true false (QPlus 6) ∷ []
first_element = refl

pointed_to : value_of (name "P") ≡ LOAD true false (QPlus 9) ∷ []
pointed_to = refl

first_byte : value_of (name "B") ≡ Do (i.Memory 13 false false true (QPlus 8)) ∷ []
first_byte = refl

-- A(I), B(I) and E(I): the index goes to X, and LDD doubles it
element : value_of (name_of "A" (name "I")) ≡ LOAD false false (QPlus 1) ∷ STAX ∷ LOAD true true (QPlus 6) ∷ []
element = refl

byte_element : value_of (name_of "B" (name "I")) ≡ LOAD false false (QPlus 1) ∷ STAX ∷ Do (i.Memory 13 false true true (QPlus 8)) ∷ []
byte_element = refl

double_element : value_of (name_of "E" (name "I")) ≡ LOAD false false (QPlus 1) ∷ STAX ∷ Do (i.Memory 13 true true true (QPlus 7)) ∷ []
double_element = refl

-- A(A(3)) and P(I+1)
element_of_an_element : value_of (name_of "A" (name_of "A" (number 3)))
    ≡ LDI 3 ∷ STAX ∷ LOAD true true (QPlus 6) ∷ STAX ∷ LOAD true true (QPlus 6) ∷ []
element_of_an_element = refl

behind_a_pointer : value_of (name_of "P" (binary plus (name "I") (number 1)))
    ≡ LOAD false false (QPlus 1) ∷ LDI 1 ∷ operate 0o20 ∷ STAX ∷ LOAD true true (QPlus 9) ∷ []
behind_a_pointer = refl

-- U below the return word of a subroutine, while 3 words wait
by_reference_of_subroutine : value_while 3 (name "U") ≡ Do (i.Memory 13 true false true (SMinus 7)) ∷ []
by_reference_of_subroutine = refl

-- ---- addresses, as of arguments and comparisons, and by @

address_of_word : address_of (name "I") ≡ LRA false false (QPlus 1) ∷ []
address_of_word = refl

address_of_double : address_of (name "D") ≡ LRA false false (QPlus 4) ∷ []
address_of_double = refl

-- of a byte: twice that of its word
address_of_byte : address_of (name "Y") ≡ LRA false false (QPlus 3) ∷ LSL 1 ∷ []
address_of_byte = refl

address_of_array : address_of (name "A") ≡ LOAD false false (QPlus 6) ∷ []
address_of_array = refl

address_of_reference : address_of (name "R") ≡ LOAD false false (QMinus 4) ∷ []
address_of_reference = refl

address_of_element : address_of (name_of "A" (name "I")) ≡ LOAD false false (QPlus 1) ∷ STAX ∷ LRA true true (QPlus 6) ∷ []
address_of_element = refl

address_of_byte_element : address_of (name_of "B" (number 2)) ≡ LDI 2 ∷ STAX ∷ LRA true true (QPlus 8) ∷ []
address_of_byte_element = refl

-- an address counts words, so the index of a DOUBLE is doubled
address_of_double_element : address_of (name_of "E" (name "I")) ≡ LOAD false false (QPlus 1) ∷ LSL 1 ∷ STAX ∷ LRA true true (QPlus 7) ∷ []
address_of_double_element = refl

at_variable : value_of (tree.Tree.address (codes "I") tree.Trees.none nowhere) ≡ LRA false false (QPlus 1) ∷ []
at_variable = refl

at_element : value_of (tree.Tree.address (codes "A") (tree.Trees.and (number 1) tree.Trees.none) nowhere) ≡ LDI 1 ∷ STAX ∷ LRA true true (QPlus 6) ∷ []
at_element = refl
