-- What it means that the words of a program stand for pieces of code, from one place to another, by what the machine does there.
use Rattle.std.specs.Prelude.{◌≡◌, ℕ, Bool, true, false, List, [], ◌∷◌, None, Some}
use Rattle.hp_flat.specs.hp_program.Programs.{code_word}
use Rattle.spl_code.specs.spl_branch.declared.pieces.Piece.{Piece}
use Rattle.spl_code.specs.spl_branch.declared.pieces.Piece.TheVariants.{Do, Literal, Place, Branch, Mark, Call, Begin}
use Rattle.spl_follow.specs.Spots.{Spot, next_word, Point, on, Ground, Real}
use Rattle.spl_follow.specs.Leading.{Leads}
use Rattle.spl_follow.specs.Doing.{doing, turning, Way, calling}

-- what a module's code finds where it stands: the place of each mark, and where each call leads, of a want or of an entry by its index
pub record Sites : Type 0 where
  pub marks : ℕ → Spot
  pub ways : Bool → ℕ → Way

-- The words from p to q stand for pieces. An instruction, a branch and a call have words that lead on behind them, by what these do. A
-- literal, and a mark's offset as a word, lie there and are no start. A mark is where it is said to be, and no statement that is due stands
-- before it; so each jump to it arrives where the statements behind it are not yet begun.
abbrev pub Stands : Ground → Sites → Point → List Piece → Spot → Type 0
Stands g w p [] q = p ≡ on q
Stands g w p (Do by ∷ ps) q = (r : Spot) × Leads g p r (doing g.segments by r) × Stands g w (on r) ps q
Stands g w p (Literal v ∷ ps) q =
    (code_word g.segments p.at.seg p.at.offset ≡ Some v) × (p.due ≡ None) × Stands g w (on (next_word p.at)) ps q
Stands g w p (Place l ∷ ps) q =
    (code_word g.segments p.at.seg p.at.offset ≡ Some (w.marks l).offset) × (p.due ≡ None) × Stands g w (on (next_word p.at)) ps q
Stands g w p (Branch by l ∷ ps) q = (r : Spot) × Leads g p r (turning by (w.marks l) r) × Stands g w (on r) ps q
Stands g w p (Mark l ∷ ps) q = (w.marks l ≡ p.at) × (p.due ≡ None) × Stands g w p ps q
Stands g w p (Call by wanted index ∷ ps) q =
    (r : Spot) × Leads g p r (calling by (w.ways wanted index) r) × (r ≡ next_word p.at) × Real g p.at × Stands g w (on r) ps q
Stands g w p (Begin at ∷ ps) q = (p.due ≡ None) × Stands g w (record p { due = Some at }) ps q

-- whether a statement is due behind a piece, where one was or was not before it
abbrev pub due_behind : Bool → Piece → Bool
due_behind due (Begin at) = true
due_behind due (Mark l) = due
due_behind due x = false

-- whether one is due behind pieces
abbrev pub due_after : Bool → List Piece → Bool
due_after due [] = due
due_after due (x ∷ ps) = due_after (due_behind due x) ps

-- pieces are closed: nothing is due behind them, whatever was before
abbrev pub IsClosed : List Piece → Type 0
IsClosed ps = due_after true ps ≡ false
