-- Cells and initial values, worked by hand.
use Rattle.std.specs.Prelude.{◌≡◌, pos, negsuc, [], ◌∷◌, false, true}
use Rattle.std.proofs.Common.{refl}
use Rattle.spl_code.specs.hp_word.Words.{word_of, double_of}
use Rattle.spl_code.specs.hp_word.Bytes.{high_word, low_word}
use Rattle.spl_code.specs.hp_instr.declared.instruction.Instr.TheVariants as i
use Rattle.spl_code.specs.hp_instr.declared.instruction.Mode.TheVariants.{QPlus}
use Rattle.spl_code.specs.spl_tree.declared.expressions.Kind.TheVariants as kind
use Rattle.spl_code.specs.spl_meaning.Places.{data_word, above_base}
use Rattle.spl_code.specs.spl_branch.declared.pieces.Piece.TheVariants.{Do}
use Rattle.spl_code.specs.Instructions.{LDI, LDNI, LSL, ORI, LRA, STOR}
use Rattle.spl_body_code.specs.Cells.{LADD, cell_set, initial_set}

-- ---- cells, of which the first stands in the word above the base

-- INTEGER ARRAY A(0:9), its data in the word behind the cell
from_zero : cell_set (record { place = above_base 1; array = record { from = above_base 2; kind = kind.Integer; low = pos 0 }; as_bytes = false })
    ≡ LRA false false (QPlus 0) ∷ LDI 2 ∷ LADD ∷ STOR false false (QPlus 1) ∷ []
unfolding word_of
from_zero = refl

-- LOGICAL ARRAY A(100:109), its data 5 above the base: 5 - 100 = -95
from_a_hundred : cell_set (record { place = above_base 4; array = record { from = above_base 5; kind = kind.Logical; low = pos 100 }; as_bytes = false })
    ≡ LRA false false (QPlus 0) ∷ LDNI 95 ∷ LADD ∷ STOR false false (QPlus 4) ∷ []
unfolding word_of
from_a_hundred = refl

-- BYTE ARRAY B(-1:3), its data 2 above the base: byte 2 * 2 + 1 above that of the base
bytes_from_below_zero : cell_set (record { place = above_base 1; array = record { from = above_base 2; kind = kind.Byte; low = negsuc 0 }; as_bytes = false })
    ≡ LRA false false (QPlus 0) ∷ LSL 1 ∷ LDI 5 ∷ LADD ∷ STOR false false (QPlus 1) ∷ []
unfolding word_of
bytes_from_below_zero = refl

-- DOUBLE ARRAY E(1:3), its data 2 above the base: 2 - 2 * 1
doubles_from_one : cell_set (record { place = above_base 1; array = record { from = above_base 2; kind = kind.Double; low = pos 1 }; as_bytes = false })
    ≡ LRA false false (QPlus 0) ∷ LDI 0 ∷ LADD ∷ STOR false false (QPlus 1) ∷ []
unfolding word_of
doubles_from_one = refl

-- ---- cells of views

-- INTEGER ARRAY H(*)=A of OWN INTEGER ARRAY A(0:1), whose data have the address 300 = 1 * 256 + 44
of_an_own_array : cell_set (record { place = above_base 1; array = record { from = data_word 300; kind = kind.Integer; low = pos 0 }; as_bytes = false })
    ≡ LDI 1 ∷ LSL 8 ∷ ORI 44 ∷ STOR false false (QPlus 1) ∷ []
unfolding word_of
of_an_own_array = refl

-- BYTE ARRAY C(*)=A of it: a byte address
bytes_of_an_own_array : cell_set (record { place = above_base 2; array = record { from = data_word 300; kind = kind.Integer; low = pos 0 }; as_bytes = true })
    ≡ LDI 1 ∷ LSL 8 ∷ ORI 44 ∷ LSL 1 ∷ STOR false false (QPlus 2) ∷ []
unfolding word_of
bytes_of_an_own_array = refl

-- LOGICAL ARRAY H(*)=A of INTEGER ARRAY A(1:5), whose data stand 3 above the base: from its place, as A's own cell
of_a_local_array : cell_set (record { place = above_base 2; array = record { from = above_base 3; kind = kind.Integer; low = pos 1 }; as_bytes = false })
    ≡ LRA false false (QPlus 0) ∷ LDI 2 ∷ LADD ∷ STOR false false (QPlus 2) ∷ []
unfolding word_of
of_a_local_array = refl

-- BYTE ARRAY C(*)=A of it: twice that
bytes_of_a_local_array : cell_set (record { place = above_base 2; array = record { from = above_base 3; kind = kind.Integer; low = pos 1 }; as_bytes = true })
    ≡ LRA false false (QPlus 0) ∷ LDI 2 ∷ LADD ∷ LSL 1 ∷ STOR false false (QPlus 2) ∷ []
unfolding word_of
bytes_of_a_local_array = refl

-- ---- initial values

-- INTEGER I:=-1; INTEGER I:=1000, which is 3 * 256 + 232
integer_value : initial_set (record { from = above_base 1; kind = kind.Integer; values = negsuc 0 ∷ [] }) ≡ LDNI 1 ∷ STOR false false (QPlus 1) ∷ []
unfolding word_of
integer_value = refl

thousand : initial_set (record { from = above_base 1; kind = kind.Integer; values = pos 1000 ∷ [] })
    ≡ LDI 3 ∷ LSL 8 ∷ ORI 232 ∷ STOR false false (QPlus 1) ∷ []
unfolding word_of
thousand = refl

-- LOGICAL L:=TRUE
truth_value : initial_set (record { from = above_base 2; kind = kind.Logical; values = pos 65535 ∷ [] }) ≡ LDNI 1 ∷ STOR false false (QPlus 2) ∷ []
unfolding word_of
truth_value = refl

-- BYTE Y:="A", by STB
byte_value : initial_set (record { from = above_base 3; kind = kind.Byte; values = pos 65 ∷ [] })
    ≡ LDI 65 ∷ Do (i.Memory 14 false false false (QPlus 3)) ∷ []
unfolding word_of
byte_value = refl

-- DOUBLE D:=65541D, which is 1 * 65,536 + 5, by STD
double_value : initial_set (record { from = above_base 4; kind = kind.Double; values = pos 65541 ∷ [] })
    ≡ LDI 1 ∷ LDI 5 ∷ Do (i.Memory 14 true false false (QPlus 4)) ∷ []
unfolding double_of high_word low_word
double_value = refl

-- INTEGER I
no_value : initial_set (record { from = above_base 1; kind = kind.Integer; values = [] }) ≡ []
no_value = refl
