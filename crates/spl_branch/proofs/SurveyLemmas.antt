-- The loop over pieces that notes branches and marks, step by step.
use Rattle.std.proofs.Common.{◌≡◌, ℕ, ◌+◌, ◌<◌, ◌≤◌, ◌==◌, Bool, true, false, if◌then◌else◌, List, [], ◌∷◌, ◌++◌, length, get_or, drop, refl, ap, ◌∙◌, arith, append_assoc}
use Rattle.std.proofs.lemmas.List.{drop_more, length-append}
use Rattle.hp_instr.specs.declared.instruction.Instr.{Instr}
use Rattle.hp_instr.specs.declared.instruction.Instr.TheVariants as i
use Rattle.hp_instr.specs.declared.instruction.Op.{Op}
use Rattle.hp_instr.specs.Instructions.{op}
use Rattle.spl_branch.specs.declared.pieces.Piece.{Piece}
use Rattle.spl_branch.specs.declared.pieces.Piece.TheVariants.{Do, Literal, Place, Branch, Mark, Call, Begin}
use Rattle.spl_branch.specs.declared.spots.Spot.{Spot}
use Rattle.spl_branch.specs.declared.survey.Turn.{Turn}
use Rattle.spl_branch.specs.declared.survey.Stand.{Stand}
use Rattle.spl_branch.specs.Stands.{at_left, at_right, ahead, past_instr, moved}
use Rattle.spl_branch.specs.Rounds.{short_end, piece_turns, turns_of, branches, with_stand, stands_from}

-- what a read past the end of the pieces would give
abbrev pub no_piece : Piece
no_piece = Do (i.Pair (op 0) (op 0))

-- a piece stands no further back than the one before it
past_instr_rises : (by : Instr) (p : Spot) (next : Op) → p.offset ≤ (past_instr p by next).offset
past_instr_rises (i.Pair left right) p next = go p.right (next.code == 0) where
  go : (r n : Bool) → p.offset ≤ (if r then at_left (p.offset + 1) else if n then at_left (p.offset + 1) else at_right p.offset).offset
  go true n = omega arith
  go false true = omega arith
  go false false = omega arith
past_instr_rises (i.Shifted kind count) p next = omega arith
past_instr_rises (i.Short test back d) p next = omega arith
past_instr_rises (i.Immediate which n) p next = omega arith
past_instr_rises (i.Control which n) p next = omega arith
past_instr_rises (i.Memory major second x ind mode) p next = omega arith
past_instr_rises (i.LoadCode back d) p next = omega arith
past_instr_rises (i.Branch ind back d) p next = omega arith
past_instr_rises (i.OnCode mask back d) p next = omega arith
past_instr_rises (i.Loop modify back d) p next = omega arith
past_instr_rises (i.Illegal w) p next = omega arith

pub moved_rises : (x : Piece) (n : ℕ) (p : Spot) (next : Op) → p.offset ≤ (moved n p x next).offset
moved_rises (Do by) n p next = past_instr_rises by p next
moved_rises (Literal w) n p next = omega arith
moved_rises (Place l) n p next = omega arith
moved_rises (Branch by l) n p next = omega arith
moved_rises (Mark l) n p next = omega arith
moved_rises (Call by wanted index) n p next = omega arith
moved_rises (Begin at) n p next = omega arith

pub short_end_rises : (ps : List Piece) (p : Spot) → p.offset ≤ (short_end p ps).offset
short_end_rises [] p = omega arith
short_end_rises (x ∷ ps) p = omega (arith, moved_rises x 1 p (ahead ps), short_end_rises ps (moved 1 p x (ahead ps)))

-- one piece more
pub end_more : (ps : List Piece) (i : ℕ) (d : Piece) (p p' : Spot) → i < length ps → p' ≡ moved 1 p (get_or ps i d) (ahead (drop (i + 1) ps)) → short_end p' (drop (i + 1) ps) ≡ short_end p (drop i ps)
end_more ps i d p p' lt e = rw (drop_more ps i d lt, e) refl

pub turns_more : (ps : List Piece) (i : ℕ) (d : Piece) (p p' : Spot) (made new : List Turn) → i < length ps → p' ≡ moved 1 p (get_or ps i d) (ahead (drop (i + 1) ps)) → new ≡ made ++ piece_turns p (get_or ps i d)
    → new ++ turns_of p' (drop (i + 1) ps) ≡ made ++ turns_of p (drop i ps)
turns_more ps i d p p' made new lt e h = rw (drop_more ps i d lt, e, h) (append_assoc made (piece_turns p (get_or ps i d)) (turns_of (moved 1 p (get_or ps i d) (ahead (drop (i + 1) ps))) (drop (i + 1) ps)))

-- a piece is at most one branch
pub length-piece_turns : (p : Spot) (x : Piece) → length (piece_turns p x) ≡ branches x
length-piece_turns p (Do by) = refl
length-piece_turns p (Literal w) = refl
length-piece_turns p (Place l) = refl
length-piece_turns p (Branch by l) = refl
length-piece_turns p (Mark l) = refl
length-piece_turns p (Call by wanted index) = refl
length-piece_turns p (Begin at) = refl

pub stands_more : (ps : List Piece) (i : ℕ) (d : Piece) (p p' : Spot) (made new : List Turn) (stands stands' : List Stand) → i < length ps → p' ≡ moved 1 p (get_or ps i d) (ahead (drop (i + 1) ps)) → new ≡ made ++ piece_turns p (get_or ps i d)
    → stands' ≡ with_stand stands p (length made) (get_or ps i d)
    → stands_from stands' p' (length new) (drop (i + 1) ps) ≡ stands_from stands p (length made) (drop i ps)
stands_more ps i d p p' made new stands stands' lt e h g =
    let counted : length new ≡ length made + branches (get_or ps i d) = ap length h ∙ length-append made (piece_turns p (get_or ps i d)) ∙ ap (λ n. length made + n) (length-piece_turns p (get_or ps i d)) in
    rw (drop_more ps i d lt, e, g, counted) refl
