-- The code of stores, worked by hand, behind a value while no word waited below it, or an index alone.
use Rattle.std.specs.Prelude.{◌≡◌, [], ◌∷◌, false, true}
use Rattle.std.proofs.Common.{refl}
use Rattle.spl_branch.specs.hp_instr.declared.instruction.Instr.TheVariants as i
use Rattle.spl_branch.specs.hp_instr.declared.instruction.Mode.TheVariants.{DbPlus, QPlus, QMinus, SMinus}
use Rattle.spl_meaning.specs.spl_tree.declared.expressions.Kind.TheVariants as kind
use Rattle.spl_meaning.specs.Places.{data_word, above_base, below_base, below_return}
use Rattle.spl_meaning.specs.References.{its_own, by_address, by_cell}
use Rattle.spl_branch.specs.declared.pieces.Piece.TheVariants.{Do}
use Rattle.spl_code.specs.Instructions.{LOAD, STOR, LDX, LDXN, DPF, DEL, DDEL, XCH, CAB}
use Rattle.spl_code.specs.Stores.{stored, pointer_stored, field_stored}

-- a local INTEGER, BYTE and DOUBLE, and a global
into_a_word : stored (its_own kind.Integer) false 0 (above_base 1) ≡ STOR false false (QPlus 1) ∷ []
into_a_word = refl

into_a_byte : stored (its_own kind.Byte) false 0 (above_base 3) ≡ Do (i.Memory 14 false false false (QPlus 3)) ∷ []
into_a_byte = refl

into_a_double : stored (its_own kind.Double) false 0 (data_word 8) ≡ Do (i.Memory 14 true false false (DbPlus 8)) ∷ []
into_a_double = refl

-- a subroutine's parameter, 2 below its return word, while 3 words waited: X goes down by what the value has, in the store's unit
into_a_parameter : stored (its_own kind.Integer) false 3 (below_return 2) ≡ LDXN 1 ∷ STOR false true (SMinus 5) ∷ []
into_a_parameter = refl

into_a_byte_parameter : stored (its_own kind.Byte) false 3 (below_return 2) ≡ LDXN 2 ∷ Do (i.Memory 14 false true false (SMinus 5)) ∷ []
into_a_byte_parameter = refl

into_a_double_parameter : stored (its_own kind.Double) false 3 (below_return 2) ≡ LDXN 1 ∷ Do (i.Memory 14 true true false (SMinus 5)) ∷ []
into_a_double_parameter = refl

-- by the address that was passed; of a subroutine's, which is brought below the value first
by_its_address : stored (by_address kind.Integer) false 0 (below_base 4) ≡ STOR true false (QMinus 4) ∷ []
by_its_address = refl

by_a_moved_address : stored (by_address kind.Integer) false 0 (below_return 4)
    ≡ LDXN 1 ∷ LOAD false true (SMinus 4) ∷ XCH ∷ STOR true false (SMinus 1) ∷ DEL ∷ []
by_a_moved_address = refl

double_by_a_moved_address : stored (by_address kind.Double) false 0 (below_return 4)
    ≡ LDXN 2 ∷ LOAD false true (SMinus 4) ∷ CAB ∷ CAB ∷ Do (i.Memory 14 true false true (SMinus 2)) ∷ DEL ∷ []
double_by_a_moved_address = refl

-- an element, whose index waits below the value
into_an_element : stored (by_cell false kind.Integer) true 0 (above_base 6) ≡ LDX (SMinus 1) ∷ STOR true true (QPlus 6) ∷ DEL ∷ []
into_an_element = refl

into_a_double_element : stored (by_cell false kind.Double) true 0 (above_base 6)
    ≡ LDX (SMinus 2) ∷ Do (i.Memory 14 true true true (QPlus 6)) ∷ DEL ∷ []
into_a_double_element = refl

into_a_moved_element : stored (by_cell false kind.Integer) true 0 (below_return 4)
    ≡ LDXN 2 ∷ LOAD false true (SMinus 4) ∷ XCH ∷ LDX (SMinus 2) ∷ STOR true true (SMinus 1) ∷ DDEL ∷ []
into_a_moved_element = refl

into_a_moved_double_element : stored (by_cell false kind.Double) true 0 (below_return 4)
    ≡ LDXN 3 ∷ LOAD false true (SMinus 4) ∷ CAB ∷ CAB ∷ LDX (SMinus 3) ∷ Do (i.Memory 14 true true true (SMinus 2)) ∷ DDEL ∷ []
into_a_moved_double_element = refl

into_a_pointer : pointer_stored 0 (above_base 9) ≡ STOR false false (QPlus 9) ∷ []
into_a_pointer = refl

-- fields (2:3): 2 * 16 + 3 is 35
field_of_a_word : field_stored (its_own kind.Integer) 2 3 false 0 (above_base 1)
    ≡ LOAD false false (QPlus 1) ∷ XCH ∷ Do (i.Immediate 12 35) ∷ STOR false false (QPlus 1) ∷ []
field_of_a_word = refl

field_of_a_parameter : field_stored (its_own kind.Integer) 2 3 false 0 (below_return 1)
    ≡ LDXN 1 ∷ LOAD false true (SMinus 1) ∷ XCH ∷ DPF 2 3 ∷ STOR false true (SMinus 1) ∷ []
field_of_a_parameter = refl

field_by_its_address : field_stored (by_address kind.Integer) 2 3 false 0 (below_base 4)
    ≡ LOAD true false (QMinus 4) ∷ XCH ∷ DPF 2 3 ∷ STOR true false (QMinus 4) ∷ []
field_by_its_address = refl

field_by_a_moved_address : field_stored (by_address kind.Integer) 2 3 false 0 (below_return 4)
    ≡ LDXN 1 ∷ LOAD false true (SMinus 4) ∷ XCH ∷ LOAD true false (SMinus 1) ∷ XCH ∷ DPF 2 3 ∷ STOR true false (SMinus 1) ∷ DEL ∷ []
field_by_a_moved_address = refl

field_of_an_element : field_stored (by_cell false kind.Integer) 2 3 true 0 (above_base 6)
    ≡ LDX (SMinus 1) ∷ LOAD true true (QPlus 6) ∷ XCH ∷ DPF 2 3 ∷ STOR true true (QPlus 6) ∷ DEL ∷ []
field_of_an_element = refl

field_of_a_moved_element : field_stored (by_cell false kind.Integer) 2 3 true 0 (below_return 4)
    ≡ LDXN 2 ∷ LOAD false true (SMinus 4) ∷ XCH ∷ LDX (SMinus 2) ∷ LOAD true true (SMinus 1) ∷ XCH ∷ DPF 2 3 ∷ STOR true true (SMinus 1) ∷ DDEL ∷ []
field_of_a_moved_element = refl
