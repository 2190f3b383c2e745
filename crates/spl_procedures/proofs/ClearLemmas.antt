-- No statement is due within the code around a procedure's statements.
use Rattle.std.proofs.Common.{◌≡◌, ℕ, zero, suc, ◌-◌, ◌/◌, ◌%◌, Bool, true, false, List, [], ◌∷◌, ◌++◌, refl, ap, ◌∙◌}
use Rattle.std.specs.Prelude.{ℤ, nat_lt, ◌&&◌, ◌==◌, min, replicate, if◌then◌else◌}
use Rattle.hp_call_yields.specs.hp_word.Words.{word_of, double_of}
use Rattle.hp_call_yields.specs.hp_word.Bytes.{high_word, low_word}
use Rattle.spl_grants.specs.spl_tree.declared.expressions.Kind.{Kind}
use Rattle.spl_grants.specs.spl_tree.declared.expressions.Kind.TheVariants as kind
use Rattle.spl_grants.specs.spl_meaning.Places as p
use Rattle.spl_grants.specs.spl_meaning.Places.{Cell, Initial, cell_word}
use Rattle.spl_grants.specs.spl_branch.declared.pieces.Piece.{Piece}
use Rattle.spl_grants.specs.spl_code.Constants.{constant}
use Rattle.spl_grants.specs.spl_code.Instructions.{LDI, LDNI, LSL, ORI, STOR}
use Rattle.spl_grants.specs.spl_code.Operands.{mode_of}
use Rattle.spl_grants.specs.spl_code.Stores.{store}
use Rattle.spl_grants.specs.spl_body_code.Frames.{ROOM, ADDS, granted, last_zeros, zeroed}
use Rattle.spl_grants.specs.spl_body_code.Bodies.{mode_left}
use Rattle.spl_grants.specs.spl_body_code.Cells.{LADD, base_pushed, cell_from, viewed, cell_set, cells_set, value_pushed, first_set, initials_set}
use Rattle.hp_call_yields.specs.spl_follow.Standing.{due_behind, due_after}

-- nothing is due behind pieces where nothing was before them
abbrev pub Clear : List Piece → Type 0
Clear ps = due_after false ps ≡ false

-- nor behind these and then others
clear_from : (due : Bool) (a b : List Piece) → due_after due a ≡ false → Clear b → due_after due (a ++ b) ≡ false
clear_from due [] b x y = ap (λ (t : Bool). due_after t b) x ∙ y
clear_from due (z ∷ a) b x y = clear_from (due_behind due z) a b x y

pub clear_both : (a b : List Piece) → Clear a → Clear b → Clear (a ++ b)
clear_both a b x y = clear_from false a b x y

pub clear_constant : (c : ℕ) → Clear (constant c)
clear_constant c = by (nat_lt c 256) (nat_lt 65280 c) where
  by : (x y : Bool) → Clear (if x then LDI c ∷ [] else if y then LDNI (65536 - c) ∷ [] else LDI (c / 256) ∷ LSL 8 ∷ ORI (c % 256) ∷ [])
  by true y = refl
  by false true = refl
  by false false = refl

pub clear_granted : (need : ℕ) → Clear (granted need)
clear_granted need = by (nat_lt 0 need && nat_lt need 256) where
  by : (b : Bool) → Clear (if b then ROOM need ∷ [] else constant (min need 65535) ++ ROOM 0 ∷ [])
  by true = refl
  by false = clear_both (constant (min need 65535)) (ROOM 0 ∷ []) (clear_constant (min need 65535)) refl

clear_last : (n : ℕ) → Clear (last_zeros n)
clear_last n = by (n == 0) where
  by : (b : Bool) → Clear (if b then [] else ADDS n ∷ [])
  by true = refl
  by false = refl

clear_many : (c j : ℕ) → Clear (replicate j (ADDS c))
clear_many c zero = refl
clear_many c (suc j) = clear_many c j

pub clear_zeroed : (n : ℕ) → Clear (zeroed n)
clear_zeroed n = clear_both (replicate (n / 255) (ADDS 255)) (last_zeros (n % 255)) (clear_many 255 (n / 255)) (clear_last (n % 255))

-- ---- cells and initial values

pub clear_base : (k : Kind) → Clear (base_pushed k)
clear_base kind.Integer = refl
clear_base kind.Logical = refl
clear_base kind.Byte = refl
clear_base kind.Double = refl

pub clear_cell_from : (place : p.Place) (k : Kind) (low : ℤ) → Clear (cell_from place k low)
clear_cell_from (p.data_word a) k low = clear_constant (cell_word k low a)
clear_cell_from (p.above_base n) k low =
    clear_both (base_pushed k ++ constant (cell_word k low n)) (LADD ∷ [])
    (clear_both (base_pushed k) (constant (cell_word k low n)) (clear_base k) (clear_constant (cell_word k low n))) refl
clear_cell_from (p.below_base n) k low = refl
clear_cell_from (p.below_return n) k low = refl

pub clear_viewed : (b : Bool) → Clear (viewed b)
clear_viewed true = refl
clear_viewed false = refl

pub clear_cell : (c : Cell) → Clear (cell_set c)
clear_cell c =
    clear_both (cell_from c.array.from c.array.kind c.array.low ++ viewed c.as_bytes) (STOR false false (mode_of 0 c.place) ∷ [])
    (clear_both (cell_from c.array.from c.array.kind c.array.low) (viewed c.as_bytes) (clear_cell_from c.array.from c.array.kind c.array.low)
    (clear_viewed c.as_bytes)) refl

pub clear_cells : (cs : List Cell) → Clear (cells_set cs)
clear_cells [] = refl
clear_cells (c ∷ cs) = clear_both (cell_set c) (cells_set cs) (clear_cell c) (clear_cells cs)

pub clear_value : (k : Kind) (v : ℤ) → Clear (value_pushed k v)
clear_value kind.Integer v = clear_constant (word_of v)
clear_value kind.Logical v = clear_constant (word_of v)
clear_value kind.Byte v = clear_constant (word_of v % 256)
clear_value kind.Double v =
    clear_both (constant (high_word (double_of v))) (constant (low_word (double_of v))) (clear_constant (high_word (double_of v)))
    (clear_constant (low_word (double_of v)))

clear_store : (from : p.Place) (k : Kind) → Clear (store k false false (mode_of 0 from) ∷ [])
clear_store from kind.Integer = refl
clear_store from kind.Logical = refl
clear_store from kind.Byte = refl
clear_store from kind.Double = refl

pub clear_initial : (from : p.Place) (k : Kind) (vs : List ℤ) → Clear (first_set from k vs)
clear_initial from k [] = refl
clear_initial from k (v ∷ vs) = clear_both (value_pushed k v) (store k false false (mode_of 0 from) ∷ []) (clear_value k v) (clear_store from k)

pub clear_initials : (is : List Initial) → Clear (initials_set is)
clear_initials [] = refl
clear_initials (i ∷ is) = clear_both (first_set i.from i.kind i.values) (initials_set is) (clear_initial i.from i.kind i.values) (clear_initials is)

-- ---- the mode

pub clear_left : (split : Bool) → Clear (mode_left split)
clear_left true = refl
clear_left false = refl
