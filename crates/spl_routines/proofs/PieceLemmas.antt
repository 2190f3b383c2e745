-- What is due behind pieces that begin well, and behind what enters and leaves bodies.
use Rattle.std.proofs.Common.{◌≡◌, ℕ, zero, suc, Bool, true, false, List, [], ◌∷◌, ◌++◌, replicate, refl, ap, ◌∙◌, ℤ}
use Rattle.std.specs.Prelude.{◌+◌, ◌/◌, ◌%◌, ◌==◌, ◌&&◌, not, nat_lt, min, if◌then◌else◌}
use Rattle.std.proofs.lemmas.Bool.{and_parts, false≢true}
use Rattle.spl_carries.specs.spl_tree.declared.expressions.Kind.{Kind}
use Rattle.spl_carries.specs.spl_tree.declared.expressions.Kind.TheVariants as kind
use Rattle.spl_carries.specs.spl_meaning.Places.{Place as Spot, Cell, Initial}
use Rattle.spl_ways.specs.spl_branch.declared.pieces.Piece.{Piece}
use Rattle.spl_ways.specs.spl_branch.declared.pieces.Piece.TheVariants.{Do, Literal, Place, Branch, Mark, Call, Begin}
use Rattle.spl_label_marks.specs.spl_code.Constants.{constant}
use Rattle.spl_label_marks.specs.spl_code.Operands.{mode_of}
use Rattle.spl_label_marks.specs.spl_code.Instructions.{STOR}
use Rattle.spl_label_marks.specs.spl_code.Stores.{store}
use Rattle.spl_label_marks.specs.spl_body_code.Frames.{ROOM, ADDS, granted, last_zeros, zeroed}
use Rattle.spl_label_marks.specs.spl_body_code.Cells.{cell_from, viewed, cell_set, cells_set, value_pushed, first_set, initial_set, initials_set}
use Rattle.spl_label_marks.specs.spl_body_code.Bodies.{Frame, mode_entered, procedure_entered, procedure_left}
use Rattle.spl_endings.specs.spl_follow.Standing.{due_after, due_behind}
use Rattle.spl_endings.proofs.spl_follow_proofs.StandLemmas.{due_add}
use Rattle.spl_ways.specs.spl_sites.Beginnings.{is_beginning, begins_well}

-- ---- pieces that begin well

-- what is due behind a piece, where pieces begin well from there on
well_first : (due : Bool) (x : Piece) (ps : List Piece) → begins_well due (x ∷ ps) ≡ true
    → (due_behind due x ≡ is_beginning x) × (begins_well (is_beginning x) ps ≡ true)
well_first due (Do by) ps e = (refl, (and_parts true (begins_well false ps) e).1)
well_first due (Branch by l) ps e = (refl, (and_parts true (begins_well false ps) e).1)
well_first due (Call by wanted index) ps e = (refl, (and_parts true (begins_well false ps) e).1)
well_first due (Begin at) ps e = (refl, (and_parts (not due) (begins_well true ps) e).1)
well_first due (Literal v) ps e = (refl, (and_parts (not due) (begins_well false ps) e).1)
well_first due (Place l) ps e = (refl, (and_parts (not due) (begins_well false ps) e).1)
well_first due (Mark l) ps e =
    let two = and_parts (not due) (begins_well false ps) e in (none due two.0, two.1) where
      none : (b : Bool) → not b ≡ true → b ≡ false
      none false e = refl
      none true e = absurd (false≢true e)

-- nothing is due at a mark, where pieces begin well
pub clear_before : (due : Bool) (a b : List Piece) (l : ℕ) → begins_well due (a ++ Mark l ∷ b) ≡ true → due_after due a ≡ false
clear_before due [] b l e = (well_first due (Mark l) b e).0
clear_before due (x ∷ a) b l e =
    let first = well_first due x (a ++ Mark l ∷ b) e in
    ap (λ (d : Bool). due_after d a) first.0 ∙ clear_before (is_beginning x) a b l first.1

-- and they begin well behind it
pub well_behind : (due : Bool) (a b : List Piece) (l : ℕ) → begins_well due (a ++ Mark l ∷ b) ≡ true → begins_well false b ≡ true
well_behind due [] b l e = (well_first due (Mark l) b e).1
well_behind due (x ∷ a) b l e = well_behind (is_beginning x) a b l (well_first due x (a ++ Mark l ∷ b) e).1

-- ---- no statement begins in what enters and leaves a body

-- nothing is due behind pieces before which nothing was
abbrev pub IsClear : List Piece → Type 0
IsClear ps = due_after false ps ≡ false

clear_both : (a b : List Piece) → IsClear a → IsClear b → IsClear (a ++ b)
clear_both a b first second = due_add false a b ∙ ap (λ (d : Bool). due_after d b) first ∙ second

-- the code that grants room
pub granted_clear : (need : ℕ) → IsClear (granted need)
granted_clear need = by (nat_lt 0 need && nat_lt need 256) where
  by : (b : Bool) → due_after false (if b then ROOM need ∷ [] else constant (min need 65535) ++ ROOM 0 ∷ []) ≡ false
  by true = refl
  by false = due_add false (constant (min need 65535)) (ROOM 0 ∷ [])

-- zeros
rows_clear : (n : ℕ) → IsClear (replicate n (ADDS 255))
rows_clear zero = refl
rows_clear (suc n) = rows_clear n

zeroed_clear : (words : ℕ) → IsClear (zeroed words)
zeroed_clear words = clear_both (replicate (words / 255) (ADDS 255)) (last_zeros (words % 255)) (rows_clear (words / 255)) (by (words % 255 == 0)) where
  by : (b : Bool) → due_after false (if b then [] else ADDS (words % 255) ∷ []) ≡ false
  by true = refl
  by false = refl

-- cells and initial values
cell_clear : (c : Cell) → IsClear (cell_set c)
cell_clear c = due_add false (cell_from c.array.from c.array.kind c.array.low ++ viewed c.as_bytes) (STOR false false (mode_of 0 c.place) ∷ [])

cells_clear : (cs : List Cell) → IsClear (cells_set cs)
cells_clear [] = refl
cells_clear (c ∷ cs) = clear_both (cell_set c) (cells_set cs) (cell_clear c) (cells_clear cs)

store_clear : (due : Bool) (k : Kind) (at : Spot) → due_after due (store k false false (mode_of 0 at) ∷ []) ≡ false
store_clear due kind.Integer at = refl
store_clear due kind.Logical at = refl
store_clear due kind.Byte at = refl
store_clear due kind.Double at = refl

first_clear : (from : Spot) (k : Kind) (vs : List ℤ) → IsClear (first_set from k vs)
first_clear from k [] = refl
first_clear from k (v ∷ vs) =
    due_add false (value_pushed k v) (store k false false (mode_of 0 from) ∷ []) ∙ store_clear (due_after false (value_pushed k v)) k from

initials_clear : (is : List Initial) → IsClear (initials_set is)
initials_clear [] = refl
initials_clear (i ∷ is) = clear_both (initial_set i) (initials_set is) (first_clear i.from i.kind i.values) (initials_clear is)

mode_clear : (split : Bool) → IsClear (mode_entered split)
mode_clear true = refl
mode_clear false = refl

-- the code that enters a procedure, and the code that leaves it
pub entered_clear : (f : Frame) → IsClear (procedure_entered f)
entered_clear f =
    let room = granted (f.words + f.room) in
    let zeros = zeroed f.words in
    let cells = cells_set f.cells in
    let initials = initials_set f.initials in
    clear_both (((room ++ zeros) ++ cells) ++ initials) (mode_entered f.split)
    (clear_both ((room ++ zeros) ++ cells) initials
    (clear_both (room ++ zeros) cells (clear_both room zeros (granted_clear (f.words + f.room)) (zeroed_clear f.words)) (cells_clear f.cells))
    (initials_clear f.initials))
    (mode_clear f.split)

pub left_clear : (split : Bool) (words : ℕ) → IsClear (procedure_left split words)
left_clear true words = refl
left_clear false words = refl
