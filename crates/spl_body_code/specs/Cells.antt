-- Cells of local arrays and of views, and initial values of local items: what sets them at the entry of a body.
use Rattle.std.specs.Prelude.{◌%◌, ℤ, Bool, true, false, List, [], ◌∷◌, ◌++◌, flat_map}
use Rattle.spl_code.specs.hp_instr.declared.instruction.Mode.TheVariants.{QPlus}
use Rattle.spl_code.specs.hp_word.Words.{word_of, double_of}
use Rattle.spl_code.specs.spl_tree.declared.expressions.Kind.{Kind}
use Rattle.spl_code.specs.spl_tree.declared.expressions.Kind.TheVariants as kind
use Rattle.spl_code.specs.spl_meaning.Places as p
use Rattle.spl_code.specs.spl_meaning.Places.{Array, Cell, Initial, cell_word}
use Rattle.spl_code.specs.spl_branch.declared.pieces.Piece.{Piece}
use Rattle.spl_code.specs.Instructions.{operate, LSL, STOR}
use Rattle.spl_code.specs.Constants.{constant, double_constant}
use Rattle.spl_code.specs.Operands.{mode_of, own_address}
use Rattle.spl_code.specs.Stores.{store}

-- adds the two top words, modulo 65,536
abbrev pub LADD : Piece
LADD = operate 0o61

-- ---- cells

-- pushes the base of the frame as an address; for BYTEs as the address of its word's left byte
abbrev pub base_pushed : Kind → List Piece
base_pushed k = own_address k false (QPlus 0)

-- Pushes the word of an array's cell, which is made from the place of its data: where they have an address it is a constant; where they
-- stand above the base, it is the base and the cell that they would have if they began so many words above word 0.
abbrev pub cell_from : p.Place → Kind → ℤ → List Piece
cell_from (p.data_word address) k low = constant (cell_word k low address)
cell_from (p.above_base above) k low = base_pushed k ++ constant (cell_word k low above) ++ LADD ∷ []
cell_from (p.below_base below) k low = []
cell_from (p.below_return below) k low = []

-- as the cell of a view of bytes, twice that
abbrev pub viewed : Bool → List Piece
viewed true = LSL 1 ∷ []
viewed false = []

-- sets a cell
abbrev pub cell_set : Cell → List Piece
cell_set c =
    cell_from c.array.from c.array.kind c.array.low ++ viewed c.as_bytes ++ STOR false false (mode_of 0 c.place) ∷ []

-- sets cells in order
abbrev pub cells_set : List Cell → List Piece
cells_set cs = flat_map cell_set cs

-- ---- initial values

-- pushes a value of a kind: of a DOUBLE both words, of a BYTE its code
abbrev pub value_pushed : Kind → ℤ → List Piece
value_pushed kind.Double v = double_constant (double_of v)
value_pushed kind.Byte v = constant (word_of v % 256)
value_pushed _ v = constant (word_of v)

-- stores the first of some values, where there is one; a simple item has no other
abbrev pub first_set : p.Place → Kind → List ℤ → List Piece
first_set from k [] = []
first_set from k (v ∷ vs) = value_pushed k v ++ store k false false (mode_of 0 from) ∷ []

-- sets initial values: of the items in the frame simple ones alone have any, and one at most
abbrev pub initial_set : Initial → List Piece
initial_set i = first_set i.from i.kind i.values

-- sets initial values in order
abbrev pub initials_set : List Initial → List Piece
initials_set is = flat_map initial_set is
