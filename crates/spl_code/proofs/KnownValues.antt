-- The code of values, worked by hand: constants, variables, operators.
use Rattle.std.specs.Prelude.{◌≡◌, [], ◌∷◌, codes, false, true}
use Rattle.std.proofs.Common.{refl}
use Rattle.spl_meaning.specs.hp_word.Words.{word_of}
use Rattle.spl_meaning.specs.hp_word.Bytes.{high_word, low_word}
use Rattle.spl_branch.specs.hp_instr.declared.instruction.Instr.TheVariants as i
use Rattle.spl_branch.specs.hp_instr.declared.instruction.Mode.TheVariants.{DbPlus, QPlus, QMinus, SMinus}
use Rattle.spl_meaning.specs.spl_tree.declared.expressions.Kind.TheVariants as kind
use Rattle.spl_meaning.specs.spl_tree.Trees as tree
use Rattle.spl_meaning.specs.Kinds.{plus, minus, times, modulo}
use Rattle.spl_branch.specs.declared.pieces.Piece.TheVariants.{Do}
use Rattle.spl_code.specs.Instructions.{operate, LDI, LDNI, LSL, ORI, ANDI, ASR, EXF, LOAD, ZERO, XCH, CAB, DUP, DEL, DELB, shift}
use Rattle.spl_code.proofs.KnownNames.{name, number, binary, nowhere, value_of, value_while}

-- ---- constants

-- 255; 256 = 1 * 256; 1000 = 3 * 256 + 232; 65,280 = 255 * 256; 65,281 = -255; 65,535 = -1
byte_255 : value_of (number 255) ≡ LDI 255 ∷ []
byte_255 = refl

word_256 : value_of (number 256) ≡ LDI 1 ∷ LSL 8 ∷ ORI 0 ∷ []
word_256 = refl

word_1000 : value_of (number 1000) ≡ LDI 3 ∷ LSL 8 ∷ ORI 232 ∷ []
word_1000 = refl

word_65280 : value_of (number 65280) ≡ LDI 255 ∷ LSL 8 ∷ ORI 0 ∷ []
word_65280 = refl

word_65281 : value_of (number 65281) ≡ LDNI 255 ∷ []
word_65281 = refl

word_65535 : value_of (number 65535) ≡ LDNI 1 ∷ []
word_65535 = refl

-- 5D; 196,608 = 3 * 65,536
double_5 : value_of (tree.Tree.wide 5) ≡ LDI 0 ∷ LDI 5 ∷ []
unfolding high_word low_word
double_5 = refl

double_196608 : value_of (tree.Tree.wide 196608) ≡ LDI 3 ∷ LDI 0 ∷ []
unfolding high_word low_word
double_196608 = refl

-- "A" is 65; "AB" is 65 * 256 + 66
one_letter : value_of (tree.Tree.text (codes "A")) ≡ LDI 65 ∷ []
one_letter = refl

two_letters : value_of (tree.Tree.text (codes "AB")) ≡ LDI 65 ∷ LSL 8 ∷ ORI 66 ∷ []
two_letters = refl

true_is_ones : value_of (tree.Tree.truth true) ≡ LDNI 1 ∷ []
true_is_ones = refl

false_is_zero : value_of (tree.Tree.truth false) ≡ LDI 0 ∷ []
false_is_zero = refl

-- C, an EQUATE name of 1000
equated : value_of (name "C") ≡ LDI 3 ∷ LSL 8 ∷ ORI 232 ∷ []
unfolding word_of
equated = refl

-- ---- variables

local_word : value_of (name "I") ≡ LOAD false false (QPlus 1) ∷ []
local_word = refl

local_byte : value_of (name "Y") ≡ Do (i.Memory 13 false false false (QPlus 3)) ∷ []
local_byte = refl

local_double : value_of (name "D") ≡ Do (i.Memory 13 true false false (QPlus 4)) ∷ []
local_double = refl

global_word : value_of (name "G") ≡ LOAD false false (DbPlus 10) ∷ []
global_word = refl

-- below the marker; below a return word, with 2 words waiting
parameter : value_of (name "V") ≡ LOAD false false (QMinus 5) ∷ []
parameter = refl

parameter_of_subroutine : value_while 2 (name "W") ≡ LOAD false false (SMinus 3) ∷ []
parameter_of_subroutine = refl

double_of_subroutine : value_while 2 (name "Z") ≡ Do (i.Memory 13 true false false (SMinus 5)) ∷ []
double_of_subroutine = refl

-- ---- operators

-- I-5 and I*G: the left operand first
difference : value_of (binary minus (name "I") (number 5)) ≡ LOAD false false (QPlus 1) ∷ LDI 5 ∷ operate 0o21 ∷ []
difference = refl

product : value_of (binary times (name "I") (name "G")) ≡ LOAD false false (QPlus 1) ∷ LOAD false false (DbPlus 10) ∷ operate 0o22 ∷ []
product = refl

-- the left operand waits for the right one: one word, or two of a DOUBLE
right_behind_a_word : value_of (binary plus (name "I") (name "W")) ≡ LOAD false false (QPlus 1) ∷ LOAD false false (SMinus 2) ∷ operate 0o20 ∷ []
right_behind_a_word = refl

right_behind_a_double : value_of (binary plus (name "D") (name "Z")) ≡ Do (i.Memory 13 true false false (QPlus 4)) ∷ Do (i.Memory 13 true false false (SMinus 5)) ∷ operate 0o11 ∷ []
right_behind_a_double = refl

quotient : value_of (binary 14 (name "I") (number 3)) ≡ LOAD false false (QPlus 1) ∷ LDI 3 ∷ operate 0o23 ∷ DEL ∷ []
quotient = refl

rest : value_of (binary modulo (name "I") (number 3)) ≡ LOAD false false (QPlus 1) ∷ LDI 3 ∷ operate 0o23 ∷ DELB ∷ []
rest = refl

-- of LOGICALs; a BYTE counts as one
logical_sum : value_of (binary plus (name "L") (name "Y")) ≡ LOAD false false (QPlus 2) ∷ Do (i.Memory 13 false false false (QPlus 3)) ∷ operate 0o61 ∷ []
logical_sum = refl

logical_product : value_of (binary times (name "L") (number 3)) ≡ LOAD false false (QPlus 2) ∷ LDI 3 ∷ operate 0o63 ∷ DELB ∷ []
logical_product = refl

logical_quotient : value_of (binary 14 (name "L") (number 3)) ≡ LOAD false false (QPlus 2) ∷ LDI 3 ∷ ZERO ∷ CAB ∷ CAB ∷ operate 0o64 ∷ DEL ∷ []
logical_quotient = refl

logical_rest : value_of (binary modulo (name "L") (number 3)) ≡ LOAD false false (QPlus 2) ∷ LDI 3 ∷ ZERO ∷ CAB ∷ CAB ∷ operate 0o64 ∷ DELB ∷ []
logical_rest = refl

double_difference : value_of (binary minus (name "D") (tree.Tree.wide 1)) ≡ Do (i.Memory 13 true false false (QPlus 4)) ∷ LDI 0 ∷ LDI 1 ∷ operate 0o12 ∷ []
unfolding high_word low_word
double_difference = refl

-- LOR, XOR, LAND
bits : value_of (binary 4 (binary 2 (name "L") (number 1)) (binary 3 (name "L") (number 2)))
    ≡ LOAD false false (QPlus 2) ∷ LDI 1 ∷ operate 0o66 ∷ LOAD false false (QPlus 2) ∷ LDI 2 ∷ operate 0o67 ∷ operate 0o70 ∷ []
bits = refl

-- -I, -D, -L, +I, NOT L
minus_integer : value_of (tree.Tree.unary 1 (name "I") nowhere) ≡ LOAD false false (QPlus 1) ∷ operate 0o24 ∷ []
minus_integer = refl

minus_double : value_of (tree.Tree.unary 1 (name "D") nowhere) ≡ Do (i.Memory 13 true false false (QPlus 4)) ∷ operate 0o15 ∷ []
minus_double = refl

minus_logical : value_of (tree.Tree.unary 1 (name "L") nowhere) ≡ LOAD false false (QPlus 2) ∷ ZERO ∷ XCH ∷ operate 0o62 ∷ []
minus_logical = refl

plus_sign : value_of (tree.Tree.unary 0 (name "I") nowhere) ≡ LOAD false false (QPlus 1) ∷ []
plus_sign = refl

turned : value_of (tree.Tree.unary 2 (name "L") nowhere) ≡ LOAD false false (QPlus 2) ∷ operate 0o65 ∷ []
turned = refl

-- I&CSR(4), I.(2:3), I.(0:16)
rotated : value_of (tree.Tree.shift 5 (name "I") (tree.Constant.number false 4) nowhere) ≡ LOAD false false (QPlus 1) ∷ shift 5 4 ∷ []
rotated = refl

field : value_of (tree.Tree.field (name "I") (tree.Constant.number false 2) (tree.Constant.number false 3) nowhere) ≡ LOAD false false (QPlus 1) ∷ EXF 2 3 ∷ []
field = refl

whole_field : value_of (tree.Tree.field (name "I") (tree.Constant.number false 0) (tree.Constant.number false 16) nowhere)
    ≡ LOAD false false (QPlus 1) ∷ Do (i.Immediate 11 0) ∷ []
whole_field = refl

-- transfers: of a DOUBLE, and to one
low_word_alone : value_of (tree.Tree.transfer kind.Integer (name "D") nowhere) ≡ Do (i.Memory 13 true false false (QPlus 4)) ∷ DELB ∷ []
low_word_alone = refl

logical_of_integer : value_of (tree.Tree.transfer kind.Logical (name "I") nowhere) ≡ LOAD false false (QPlus 1) ∷ []
logical_of_integer = refl

byte_of_double : value_of (tree.Tree.transfer kind.Byte (name "D") nowhere) ≡ Do (i.Memory 13 true false false (QPlus 4)) ∷ DELB ∷ ANDI 255 ∷ []
byte_of_double = refl

byte_of_word : value_of (tree.Tree.transfer kind.Byte (name "I") nowhere) ≡ LOAD false false (QPlus 1) ∷ ANDI 255 ∷ []
byte_of_word = refl

double_of_integer : value_of (tree.Tree.transfer kind.Double (name "I") nowhere) ≡ LOAD false false (QPlus 1) ∷ DUP ∷ ASR 15 ∷ XCH ∷ []
double_of_integer = refl

double_of_logical : value_of (tree.Tree.transfer kind.Double (name "L") nowhere) ≡ LOAD false false (QPlus 2) ∷ ZERO ∷ XCH ∷ []
double_of_logical = refl
