-- Where the words of names are for the instructions, and how they are loaded.
use Rattle.std.specs.Prelude.{ℕ, ◌+◌, ◌%◌, Bool, true, false, List, [], ◌∷◌, Option, Some, None}
use Rattle.spl_branch.specs.hp_instr.declared.instruction.Instr.TheVariants as i
use Rattle.spl_branch.specs.hp_instr.declared.instruction.Mode.{Mode}
use Rattle.spl_branch.specs.hp_instr.declared.instruction.Mode.TheVariants.{DbPlus, QPlus, QMinus, SMinus}
use Rattle.spl_meaning.specs.spl_tree.declared.expressions.Kind.{Kind}
use Rattle.spl_meaning.specs.spl_tree.declared.expressions.Kind.TheVariants as kind
use Rattle.spl_meaning.specs.Places as p
use Rattle.spl_meaning.specs.References.{Access, its_own, by_address, by_cell, its_result, nowhere}
use Rattle.spl_branch.specs.declared.pieces.Piece.{Piece}
use Rattle.spl_branch.specs.declared.pieces.Piece.TheVariants.{Do}
use Rattle.spl_code.specs.Instructions.{LOAD, LRA, LSL, STAX}

-- A place while k words wait. What stands below a subroutine's return word is counted from the top. A displacement has as many bits as its
-- mode holds; within the limits of places it is the distance itself.
abbrev pub mode_of : ℕ → p.Place → Mode
mode_of k (p.data_word a) = DbPlus (a % 256)
mode_of k (p.above_base n) = QPlus (n % 128)
mode_of k (p.below_base n) = QMinus (n % 64)
mode_of k (p.below_return n) = SMinus ((k + n) % 64)

-- the load of a kind: LOAD, LDB, LDD
abbrev pub load : Kind → Bool → Bool → Mode → Piece
load kind.Integer indirect indexed mode = LOAD indirect indexed mode
load kind.Logical indirect indexed mode = LOAD indirect indexed mode
load kind.Byte indirect indexed mode = Do (i.Memory 13 false indexed indirect mode)
load kind.Double indirect indexed mode = Do (i.Memory 13 true indexed indirect mode)

-- The value at what a name leads to, its index in X where there is one: its own word, or the one that its word leads to.
abbrev pub loaded : Access → Bool → Mode → List Piece
loaded (its_own k) indexed mode = load k false indexed mode ∷ []
loaded (by_address k) indexed mode = load k true indexed mode ∷ []
loaded (by_cell is_pointer k) indexed mode = load k true indexed mode ∷ []
loaded its_result indexed mode = []
loaded nowhere indexed mode = []

-- a variable's own address; of a BYTE the address of its byte
abbrev pub own_address : Kind → Bool → Mode → List Piece
own_address kind.Byte indexed mode = LRA false indexed mode ∷ LSL 1 ∷ []
own_address _ indexed mode = LRA false indexed mode ∷ []

-- the address that a name's word is, with the index in X added where there is one
abbrev pub cell_address : Bool → Mode → List Piece
cell_address false mode = LOAD false false mode ∷ []
cell_address true mode = LRA true true mode ∷ []

-- the address of what a name leads to
abbrev pub address : Access → Bool → Mode → List Piece
address (its_own k) indexed mode = own_address k indexed mode
address (by_address k) indexed mode = cell_address indexed mode
address (by_cell is_pointer k) indexed mode = cell_address indexed mode
address its_result indexed mode = []
address nowhere indexed mode = []

-- the kind of what a name leads to is DOUBLE
abbrev pub leads_to_doubles : Access → Bool
leads_to_doubles (its_own kind.Double) = true
leads_to_doubles (by_address kind.Double) = true
leads_to_doubles (by_cell is_pointer kind.Double) = true
leads_to_doubles _ = false

-- An index goes to X. An address counts words, so the index of a DOUBLE is doubled there; loads and stores double it themselves.
abbrev pub index_to_x : Bool → List Piece
index_to_x true = LSL 1 ∷ STAX ∷ []
index_to_x false = STAX ∷ []

-- code for a place that there may be
abbrev pub at_place : Option p.Place → (p.Place → List Piece) → List Piece
at_place (Some place) code = code place
at_place None code = []
