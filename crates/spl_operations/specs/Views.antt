-- Small views of what the generator has.
use Rattle.std.specs.Prelude.{ℕ, ◌==◌, ◌&&◌, ◌||◌, not, Bool, List, map}
use Rattle.hp_instr.specs.declared.instruction.Instr.{Instr}
use Rattle.hp_instr.specs.declared.instruction.Op.{Op}
use Rattle.hp_instr.specs.Fields.{is_op}
use Rattle.hp_instr.specs.Given.{has_word}
use Rattle.spl_branch.specs.declared.pieces.Piece.{Piece}
use Rattle.spl_branch.specs.Pieces.{is_single}
use Rattle.spl_code.specs.spl_meaning.Kinds.{Class, integers, logicals, doubles, mixed}
use Rattle.spl_code.specs.spl_meaning.References as refs
use Rattle.spl_code.specs.Instructions.{operate}
use Rattle.spl_operations.specs.declared.operands.Access.{Access}
use Rattle.spl_operations.specs.declared.operands.Access.TheVariants as access
use Rattle.spl_operations.specs.declared.operators.Class as code
use Rattle.spl_operations.specs.declared.operators.Class.TheVariants as class

-- a stack operation that may stand by itself: listed, and not NOP
abbrev pub is_operation : Op → Bool
is_operation o = is_op o.code && not (o.code == 0)

-- an instruction that may be put
abbrev pub is_instruction : Instr → Bool
is_instruction by = has_word by && is_single by

-- operations as pieces
abbrev pub operations : List Op → List Piece
operations os = map (λ o. operate o.code) os

-- the codes of immediate instructions that take any number: LDI to LDXN, and ANDI to XORI
abbrev pub is_any_immediate : ℕ → Bool
is_any_immediate which = which == 1 || which == 8 || which == 9 || which == 13 || which == 14

-- a class of operands
abbrev pub class_view : code.Class → Class
class_view class.Integers = integers
class_view class.Logicals = logicals
class_view class.Doubles = doubles
class_view class.Mixed = mixed

-- how a name leads to a word
abbrev pub access_view : Access → refs.Access
access_view (access.Own kind) = refs.its_own kind
access_view (access.ByAddress kind) = refs.by_address kind
access_view (access.ByCell is_pointer kind) = refs.by_cell is_pointer kind
access_view access.Nowhere = refs.nowhere

-- the codes of PCAL and SCAL
abbrev pub is_call_code : ℕ → Bool
is_call_code which = which == 0 || which == 3
