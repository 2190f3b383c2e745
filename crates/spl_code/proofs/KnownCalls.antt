-- The code of calls, worked by hand.
use Rattle.std.specs.Prelude.{◌≡◌, [], ◌∷◌, codes, false, true}
use Rattle.std.proofs.Common.{refl}
use Rattle.spl_branch.specs.hp_instr.declared.instruction.Instr.TheVariants as i
use Rattle.spl_branch.specs.hp_instr.declared.instruction.Mode.TheVariants.{QPlus, SMinus}
use Rattle.spl_meaning.specs.spl_tree.Trees as tree
use Rattle.spl_meaning.specs.spl_tree.Trees.{Tree}
use Rattle.spl_meaning.specs.Kinds.{plus}
use Rattle.spl_branch.specs.declared.pieces.Piece.TheVariants.{Do, Call}
use Rattle.spl_code.specs.Instructions.{operate, LDI, LOAD, LRA, ZERO, DZRO, LSL, LSR}
use Rattle.spl_code.specs.Code.{code, as_value}
use Rattle.spl_code.proofs.KnownNames.{name, name_of, number, binary, nowhere, scope, value_of}
use Prim.Native.String.{String}

-- two arguments
abbrev two : String → Tree → Tree → Tree
two x a b = tree.Tree.named (codes x) (tree.Trees.and a (tree.Trees.and b tree.Trees.none)) nowhere

-- F(W) of another module: room for the result, the argument behind it, the call of the first name wanted
of_another_module : value_of (name_of "F" (name "W")) ≡ ZERO ∷ LOAD false false (SMinus 2) ∷ Call (i.Control 0 0) true 0 ∷ []
of_another_module = refl

-- F(1)+F(2): one name is wanted once
wanted_once : value_of (binary plus (name_of "F" (number 1)) (name_of "F" (number 2)))
    ≡ ZERO ∷ LDI 1 ∷ Call (i.Control 0 0) true 0 ∷ ZERO ∷ LDI 2 ∷ Call (i.Control 0 0) true 0 ∷ operate 0o20 ∷ []
wanted_once = refl

wanted_of_f : (code scope (binary plus (name_of "F" (number 1)) (name_of "F" (number 2))) as_value 0 20 []).wants
    ≡ record { name = codes "F"; gate = false } ∷ []
wanted_of_f = refl

-- H(Y,I) of this module: a BYTE in the left half, an address, and a BYTE result out of the left half
of_this_module : value_of (two "H" (name "Y") (name "I"))
    ≡ ZERO ∷ Do (i.Memory 13 false false false (QPlus 3)) ∷ LSL 8 ∷ LRA false false (QPlus 1) ∷ Call (i.Control 0 0) false 2 ∷ LSR 8 ∷ []
of_this_module = refl

-- H(Y,A(W)): the second argument waits behind the result and the first
argument_behind : value_of (two "H" (number 7) (name_of "A" (name "W")))
    ≡ ZERO ∷ LDI 7 ∷ LSL 8 ∷ LOAD false false (SMinus 3) ∷ operate 0o43 ∷ LRA true true (QPlus 6) ∷ Call (i.Control 0 0) false 2 ∷ LSR 8 ∷ []
argument_behind = refl

-- the subroutine T, a DOUBLE
of_a_subroutine : value_of (name "T") ≡ DZRO ∷ Call (i.Control 3 0) false 3 ∷ []
of_a_subroutine = refl

-- READ(A,F(1)): the argument's call is wanted before the intrinsic that takes it
arguments_wanted_first : value_of (two "READ" (name "A") (name_of "F" (number 1)))
    ≡ ZERO ∷ LOAD false false (QPlus 6) ∷ ZERO ∷ LDI 1 ∷ Call (i.Control 0 0) true 0 ∷ Call (i.Control 0 0) true 1 ∷ []
arguments_wanted_first = refl

wanted_in_order : (code scope (two "READ" (name "A") (name_of "F" (number 1))) as_value 0 20 []).wants
    ≡ record { name = codes "F"; gate = false } ∷ record { name = codes "READ"; gate = true } ∷ []
wanted_in_order = refl
