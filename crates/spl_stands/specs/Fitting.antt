-- What is asked of a program beside the words of a segment, so that pieces that stand there by their words stand there by what they do: the
-- starts of statements, and where calls lead.
use Rattle.std.specs.Prelude.{◌≡◌, ◌⊎◌, ◌==◌, ◌&&◌, ◌+◌, ◌<◌, ℕ, Bool, true, false, not, List, [], ◌∷◌, Option, None, Some}
use Rattle.hp_leads.specs.hp_instr.declared.instruction.Instr.{Instr}
use Rattle.hp_leads.specs.hp_instr.declared.instruction.Instr.TheVariants as i
use Rattle.hp_leads.specs.spl_tree.declared.names_and_places.At.{At}
use Rattle.hp_leads.specs.spl_branch.declared.pieces.Piece.{Piece}
use Rattle.hp_leads.specs.spl_branch.declared.pieces.Piece.TheVariants.{Do, Literal, Place, Branch, Mark, Call, Begin}
use Rattle.hp_leads.specs.spl_branch.declared.spots.Spot as module_spot
use Rattle.hp_leads.specs.spl_branch.Branches.{branch_size}
use Rattle.hp_leads.specs.spl_branch.Pieces.{is_direct}
use Rattle.hp_leads.specs.spl_branch.Stands as decoded
use Rattle.hp_leads.specs.spl_follow.Spots.{Spot, Point, Ground, Real, start_at}
use Rattle.hp_leads.specs.spl_follow.Doing.{Way}
use Rattle.hp_leads.specs.spl_follow.Standing.{Sites}
use Rattle.hp_leads.specs.Words.{is_whole, entry_way, subroutine_way}

-- ---- places

-- a place in the words of a segment
abbrev pub placed : ℕ → module_spot.Spot → Spot
placed seg p = record { seg = seg; offset = p.offset; right = p.right }

-- with the statement that is due there
abbrev pub point : ℕ → module_spot.Spot → Option At → Point
point seg p due = record { at = placed seg p; due = due }

-- the marks of a module are where its offsets in a segment are
abbrev pub MarksAgree : ℕ → decoded.Sites → Sites → Type 0
MarksAgree seg s w = (l : ℕ) → w.marks l ≡ record { seg = seg; offset = s.marks l; right = false }

-- ---- pieces

-- an instruction that is a piece by itself: one stack operation, or a word that goes on behind itself or as its row says
abbrev pub is_plain : Instr → Bool
is_plain (i.Pair left right) = not (left.code == 0) && right.code == 0
is_plain by = is_whole by

-- an entry that a PCAL or an SCAL calls leads to a way
abbrev pub CallLeads : List (List ℕ) → ℕ → Instr → ℕ → Way → Type 0
CallLeads segments seg (i.Control which n) entry way =
    ((which ≡ 0) × (entry_way segments seg entry ≡ Some way)) ⊎ ((which ≡ 3) × (subroutine_way segments seg entry ≡ Some way))
CallLeads segments seg by entry way = ⊥

-- what is due starts at a piece with words; nothing is due at a mark, or where another statement begins, or at a word that is not run; no
-- start is among the words of a branch behind its first; and a call's entry leads where its piece does
abbrev pub Fits : Ground → ℕ → decoded.Sites → Sites → module_spot.Spot → Option At → Piece → Type 0
Fits g seg s w p due (Do by) = (start_at g (placed seg p) ≡ due) × (is_plain by ≡ true)
Fits g seg s w p due (Literal v) = due ≡ None
Fits g seg s w p due (Place l) = due ≡ None
Fits g seg s w p due (Branch by l) =
    (start_at g (placed seg p) ≡ due) × (is_direct by ≡ true) × (s.marks l < 65536)
    × ((k : ℕ) → p.offset < k → k < p.offset + branch_size by p.offset (s.marks l) → g.starts seg k ≡ None)
Fits g seg s w p due (Mark l) = due ≡ None
Fits g seg s w p due (Call by wanted index) =
    (start_at g (placed seg p) ≡ due) × Real g (placed seg p) × CallLeads g.segments seg by (s.entries wanted index) (w.ways wanted index)
Fits g seg s w p due (Begin at) = due ≡ None

-- what is due behind a piece
abbrev pub due_behind : Option At → Piece → Option At
due_behind due (Begin at) = Some at
due_behind due (Mark l) = due
due_behind due x = None

-- so it is of pieces from p on, and behind them nothing is due
abbrev pub AllFit : Ground → ℕ → decoded.Sites → Sites → module_spot.Spot → Option At → List Piece → Type 0
AllFit g seg s w p due [] = due ≡ None
AllFit g seg s w p due (x ∷ ps) =
    Fits g seg s w p due x × AllFit g seg s w (decoded.after s.marks p x (decoded.ahead ps)) (due_behind due x) ps
