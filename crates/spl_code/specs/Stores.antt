-- Stores: what stands behind a value on top, for what a name leads to. The index of an element waits below the value.
use Rattle.std.specs.Prelude.{ℕ, ◌+◌, Bool, true, false, if◌then◌else◌, List, [], ◌∷◌, ◌++◌}
use Rattle.spl_branch.specs.hp_instr.declared.instruction.Instr.TheVariants as i
use Rattle.spl_branch.specs.hp_instr.declared.instruction.Mode.{Mode}
use Rattle.spl_branch.specs.hp_instr.declared.instruction.Mode.TheVariants.{SMinus}
use Rattle.spl_meaning.specs.spl_tree.declared.expressions.Kind.{Kind}
use Rattle.spl_meaning.specs.spl_tree.declared.expressions.Kind.TheVariants as kind
use Rattle.spl_meaning.specs.Kinds.{width}
use Rattle.spl_meaning.specs.Places as p
use Rattle.spl_meaning.specs.References.{Access, its_own, by_address, by_cell, its_result, nowhere}
use Rattle.spl_branch.specs.declared.pieces.Piece.{Piece}
use Rattle.spl_branch.specs.declared.pieces.Piece.TheVariants.{Do}
use Rattle.spl_code.specs.Instructions.{LOAD, STOR, LDX, LDXN, DPF, DEL, DDEL, XCH, CAB}
use Rattle.spl_code.specs.Operands.{mode_of}

-- the store of a kind: STOR, STB, STD
abbrev pub store : Kind → Bool → Bool → Mode → Piece
store kind.Integer indirect indexed mode = STOR indirect indexed mode
store kind.Logical indirect indexed mode = STOR indirect indexed mode
store kind.Byte indirect indexed mode = Do (i.Memory 14 false indexed indirect mode)
store kind.Double indirect indexed mode = Do (i.Memory 14 true indexed indirect mode)

-- a place that is counted from the top, of which the value and an index have moved it away
abbrev pub from_top : p.Place → Bool
from_top (p.below_return n) = true
from_top _ = false

-- a word, a byte's word or a double above a variable, in the units by which X is counted there
abbrev pub units_above : Kind → ℕ
units_above kind.Byte = 2
units_above _ = 1

-- brings the top word below a value of a kind
abbrev pub turned_under : Kind → List Piece
turned_under kind.Double = CAB ∷ CAB ∷ []
turned_under _ = XCH ∷ []

-- the word at a mode that so many words above it have moved away is brought below the value
abbrev pub cell_under : Kind → ℕ → Mode → List Piece
cell_under k above mode = LDXN above ∷ LOAD false true mode ∷ turned_under k

-- into a variable
abbrev pub own_stored : Kind → Bool → Mode → List Piece
own_stored k false mode = store k false false mode ∷ []
own_stored k true mode = LDXN (units_above k) ∷ store k false true mode ∷ []

-- to where a word leads; where that word was moved away, it is brought below the value first
abbrev pub cell_stored : Kind → Bool → Mode → List Piece
cell_stored k false mode = store k true false mode ∷ []
cell_stored k true mode = cell_under k (width k) mode ++ store k true false (SMinus (width k)) ∷ DEL ∷ []

-- the same at an index that waits below the value
abbrev pub element_stored : Kind → Bool → Mode → List Piece
element_stored k false mode = LDX (SMinus (width k)) ∷ store k true true mode ∷ DEL ∷ []
element_stored k true mode =
    cell_under k (width k + 1) mode ++ LDX (SMinus (width k + 1)) ∷ store k true true (SMinus (width k)) ∷ DDEL ∷ []

-- through the word of a name, at an index or not
abbrev pub led_stored : Kind → Bool → Bool → Mode → List Piece
led_stored k indexed moved mode = if indexed then element_stored k moved mode else cell_stored k moved mode

-- a value is stored in what a name leads to, at a place where so many words waited before index and value
abbrev pub stored : Access → Bool → ℕ → p.Place → List Piece
stored (its_own k) indexed waiting place = own_stored k (from_top place) (mode_of waiting place)
stored (by_address k) indexed waiting place = led_stored k indexed (from_top place) (mode_of waiting place)
stored (by_cell is_pointer k) indexed waiting place = led_stored k indexed (from_top place) (mode_of waiting place)
stored its_result indexed waiting place = []
stored nowhere indexed waiting place = []

-- an address is stored in a pointer's own word
abbrev pub pointer_stored : ℕ → p.Place → List Piece
pointer_stored waiting place = STOR false false (mode_of waiting place) ∷ []

-- ---- bit fields of words

-- the word on top is put into a field of the word at an operand
abbrev pub deposited : ℕ → ℕ → Bool → Bool → Mode → List Piece
deposited start size indirect indexed mode = LOAD indirect indexed mode ∷ XCH ∷ DPF start size ∷ STOR indirect indexed mode ∷ []

-- into a field of a variable
abbrev pub own_field : ℕ → ℕ → Bool → Mode → List Piece
own_field start size false mode = deposited start size false false mode
own_field start size true mode = LDXN 1 ∷ deposited start size false true mode

-- of the word to which a word leads
abbrev pub cell_field : ℕ → ℕ → Bool → Mode → List Piece
cell_field start size false mode = deposited start size true false mode
cell_field start size true mode = cell_under kind.Integer 1 mode ++ deposited start size true false (SMinus 1) ++ DEL ∷ []

-- of an element, whose index waits below the value
abbrev pub element_field : ℕ → ℕ → Bool → Mode → List Piece
element_field start size false mode = LDX (SMinus 1) ∷ deposited start size true true mode ++ DEL ∷ []
element_field start size true mode =
    cell_under kind.Integer 2 mode ++ LDX (SMinus 2) ∷ deposited start size true true (SMinus 1) ++ DDEL ∷ []

-- through the word of a name, at an index or not
abbrev pub led_field : ℕ → ℕ → Bool → Bool → Mode → List Piece
led_field start size indexed moved mode = if indexed then element_field start size moved mode else cell_field start size moved mode

-- a word is put into a field of what a name leads to
abbrev pub field_stored : Access → ℕ → ℕ → Bool → ℕ → p.Place → List Piece
field_stored (its_own k) start size indexed waiting place = own_field start size (from_top place) (mode_of waiting place)
field_stored (by_address k) start size indexed waiting place = led_field start size indexed (from_top place) (mode_of waiting place)
field_stored (by_cell is_pointer k) start size indexed waiting place = led_field start size indexed (from_top place) (mode_of waiting place)
field_stored its_result start size indexed waiting place = []
field_stored nowhere start size indexed waiting place = []
