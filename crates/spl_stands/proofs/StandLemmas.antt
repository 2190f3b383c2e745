-- Words that stand for pieces, by what they do.
-- 1. a word of the segment is a word of the program                          (has_instr)
-- 2. each piece with words leads on                                          (pair_leads, plain_leads, branch_leads, call_leads)
-- 3. so all pieces do, one behind the other                                  (words_stand)
use Rattle.std.proofs.Common.{◌≡◌, inl, inr, ◌==◌, ◌+◌, ◌<◌, ℕ, Bool, true, false, List, [], ◌∷◌, Option, None, Some, refl, sym, ap, subst, ◌∙◌, arith}
use Rattle.std.specs.Prelude.{if◌then◌else◌, slice_get, option_and_then}
use Rattle.std.specs.Bool.{MatchBool}
use Rattle.hp_leads.specs.hp_instr.declared.instruction.Instr.{Instr}
use Rattle.hp_leads.specs.hp_instr.declared.instruction.Instr.TheVariants as i
use Rattle.hp_leads.specs.hp_instr.declared.instruction.Op.{Op}
use Rattle.hp_leads.specs.hp_program.Programs.{code_word}
use Rattle.hp_leads.specs.spl_tree.declared.names_and_places.At.{At}
use Rattle.hp_leads.specs.spl_branch.declared.pieces.Piece.{Piece}
use Rattle.hp_leads.specs.spl_branch.declared.pieces.Piece.TheVariants.{Do, Literal, Place, Branch, Mark, Call, Begin}
use Rattle.hp_leads.specs.spl_branch.declared.spots.Spot as module_spot
use Rattle.hp_leads.specs.spl_branch.Branches.{aimed, toward, is_far, more, branch_size, through, past, calling as called_by}
use Rattle.hp_leads.specs.spl_branch.Pieces.{is_direct}
use Rattle.hp_leads.specs.spl_branch.Stands as decoded
use Rattle.hp_leads.specs.spl_branch.Stands.{at_left, past_instr, Has, LeadsTo, Does, TurnsFar, Turns}
use Rattle.hp_leads.specs.spl_follow.Spots.{Spot, Point, on, Ground, start_at}
use Rattle.hp_leads.specs.spl_follow.Leading.{Leads}
use Rattle.hp_leads.specs.spl_follow.Doing.{doing, turning, Way, calling}
use Rattle.hp_leads.specs.spl_follow.Standing.{Sites, Stands}
use Rattle.hp_leads.specs.Words.{word_at, HasInstr, is_whole, Points}
use Rattle.hp_leads.proofs.WordLemmas.{right_leads, left_leads, single_leads, whole_leads}
use Rattle.hp_leads.proofs.BranchLemmas.{toward_leads, far_jump_leads, far_leads}
use Rattle.hp_leads.proofs.CallLemmas.{procedure_leads, subroutine_leads}
use Rattle.spl_stands.specs.Fitting.{placed, point, MarksAgree, is_plain, CallLeads, AllFit}

module _ (g : Ground) (seg : ℕ) (words : List ℕ) (there : slice_get g.segments seg ≡ Some words) where
  -- ---- words

  word_of_code : (offset w : ℕ) → slice_get words offset ≡ Some w → code_word g.segments seg offset ≡ Some w
  unfolding code_word
  word_of_code offset w is = ap (λ (o : Option (List ℕ)). option_and_then (λ ws. slice_get ws offset) o) there ∙ is

  has_instr : (p : Point) (by : Instr) → p.at.seg ≡ seg → start_at g p.at ≡ p.due → Has words p.at.offset by → HasInstr g p by
  has_instr p by same start has = record {
    start = start;
    word = has.0;
    there = ap (λ (n : ℕ). code_word g.segments n p.at.offset) same ∙ word_of_code p.at.offset has.0 has.1;
    is = has.2;
  }

  points : (offset t : ℕ) → LeadsTo words offset t → Points g seg offset t
  points offset t to = record { word = to.0; there = word_of_code offset to.0 to.1; sum = to.2 }

  -- ---- instructions

  -- a stack operation in the left half
  left_half_leads : (p : module_spot.Spot) (due : Option At) (left right next : Op) (c : Bool) → start_at g (placed seg p) ≡ due
      → p.right ≡ false
      → (next.code == 0) ≡ c → Has words p.offset (i.Pair left next)
      → Leads g (point seg p due) (placed seg (if c then at_left (p.offset + 1) else decoded.at_right p.offset))
      (doing g.segments (i.Pair left right) (placed seg (if c then at_left (p.offset + 1) else decoded.at_right p.offset)))
  left_half_leads p due left right next true start half none has =
      single_leads g (point seg p due) left next right half none (has_instr (point seg p due) (i.Pair left next) refl start has)
  left_half_leads p due left right next false start half some has =
      left_leads g (point seg p due) left next right half some (has_instr (point seg p due) (i.Pair left next) refl start has)

  -- in either half
  in_half_leads : (p : module_spot.Spot) (due : Option At) (left right next : Op) (c : Bool) → start_at g (placed seg p) ≡ due → p.right ≡ c
      → MatchBool c ((first : Op) × Has words p.offset (i.Pair first left)) (Has words p.offset (i.Pair left next))
      → Leads g (point seg p due) (placed seg (if c then at_left (p.offset + 1) else if next.code == 0 then at_left (p.offset + 1) else decoded.at_right p.offset))
      (doing g.segments (i.Pair left right)
      (placed seg (if c then at_left (p.offset + 1) else if next.code == 0 then at_left (p.offset + 1) else decoded.at_right p.offset)))
  in_half_leads p due left right next true start half has =
      right_leads g (point seg p due) has.0 left right half (has_instr (point seg p due) (i.Pair has.0 left) refl start has.1)
  in_half_leads p due left right next false start half has = left_half_leads p due left right next (next.code == 0) start half refl has

  pair_leads : (p : module_spot.Spot) (due : Option At) (left right next : Op) → start_at g (placed seg p) ≡ due
      → Does words p (i.Pair left right) next
      → Leads g (point seg p due) (placed seg (past_instr p (i.Pair left right) next)) (doing g.segments (i.Pair left right) (placed seg (past_instr p (i.Pair left right) next)))
  pair_leads p due left right next start does = in_half_leads p due left right next p.right start refl does

  whole_word_leads : (p : module_spot.Spot) (due : Option At) (by : Instr) → start_at g (placed seg p) ≡ due → is_whole by ≡ true
      → p.right ≡ false → Has words p.offset by
      → Leads g (point seg p due) (placed seg (at_left (p.offset + 1))) (doing g.segments by (placed seg (at_left (p.offset + 1))))
  whole_word_leads p due by start whole left has = whole_leads g (point seg p due) by whole (λ m. left) (has_instr (point seg p due) by refl start has)

  plain_leads : (p : module_spot.Spot) (due : Option At) (by : Instr) (next : Op) → start_at g (placed seg p) ≡ due
      → is_plain by ≡ true → Does words p by next
      → Leads g (point seg p due) (placed seg (past_instr p by next)) (doing g.segments by (placed seg (past_instr p by next)))
  plain_leads p due (i.Pair left right) next start plain does = pair_leads p due left right next start does
  plain_leads p due (i.Shifted kind count) next start plain does = whole_word_leads p due (i.Shifted kind count) start plain does.0 does.1
  plain_leads p due (i.Short test back d) next start plain does = cc
  plain_leads p due (i.Immediate which n) next start plain does = whole_word_leads p due (i.Immediate which n) start plain does.0 does.1
  plain_leads p due (i.Control which n) next start plain does = whole_word_leads p due (i.Control which n) start plain does.0 does.1
  plain_leads p due (i.Memory major second x indirect mode) next start plain does = whole_word_leads p due (i.Memory major second x indirect mode) start plain does.0 does.1
  plain_leads p due (i.LoadCode back d) next start plain does = whole_word_leads p due (i.LoadCode back d) start plain does.0 does.1
  plain_leads p due (i.Branch indirect back d) next start plain does = cc
  plain_leads p due (i.OnCode mask back d) next start plain does = cc
  plain_leads p due (i.Loop modify back d) next start plain does = cc
  plain_leads p due (i.Illegal w) next start plain does = cc

  -- ---- branches

  -- the long form of a branch that is no BR
  long_leads : (p : module_spot.Spot) (due : Option At) (by : Instr) (t : ℕ) → start_at g (placed seg p) ≡ due → is_direct by ≡ true
      → t < 65536
      → ((k : ℕ) → p.offset < k → k < p.offset + 4 → g.starts seg k ≡ None)
      → Has words p.offset (aimed by false 2) × Has words (p.offset + 1) past × Has words (p.offset + 2) through × LeadsTo words (p.offset + 3) t
      → Leads g (point seg p due) (placed seg (at_left (p.offset + 4))) (turning by (word_at (placed seg p) t) (placed seg (at_left (p.offset + 4))))
  long_leads p due by t start direct small none has =
      far_leads g (point seg p due) by t direct small (has_instr (point seg p due) (aimed by false 2) refl start has.0)
      (has_instr (on (word_at (placed seg p) (p.offset + 1))) past refl (none (p.offset + 1) (omega arith) (omega arith)) has.1)
      (has_instr (on (word_at (placed seg p) (p.offset + 2))) through refl (none (p.offset + 2) (omega arith) (omega arith)) has.2)
      (points (p.offset + 3) t has.3)

  far_turns : (p : module_spot.Spot) (due : Option At) (by : Instr) (t : ℕ) → start_at g (placed seg p) ≡ due → is_direct by ≡ true
      → t < 65536
      → ((k : ℕ) → p.offset < k → k < p.offset + (1 + more by) → g.starts seg k ≡ None) → TurnsFar words p.offset by t
      → Leads g (point seg p due) (placed seg (at_left (p.offset + (1 + more by)))) (turning by (word_at (placed seg p) t) (placed seg (at_left (p.offset + (1 + more by)))))
  far_turns p due (i.Pair a b) t start direct small none has = cc
  far_turns p due (i.Shifted kind count) t start direct small none has = cc
  far_turns p due (i.Short test back d) t start direct small none has = long_leads p due (i.Short test back d) t start direct small none has
  far_turns p due (i.Immediate which n) t start direct small none has = cc
  far_turns p due (i.Control which n) t start direct small none has = cc
  far_turns p due (i.Memory major second x indirect mode) t start direct small none has = cc
  far_turns p due (i.LoadCode back d) t start direct small none has = cc
  far_turns p due (i.Branch true back d) t start direct small none has = cc
  far_turns p due (i.Branch false back d) t start direct small none has =
      far_jump_leads g (point seg p due) t back d (has_instr (point seg p due) through refl start has.0) (points (p.offset + 1) t has.1)
  far_turns p due (i.OnCode mask back d) t start direct small none has = long_leads p due (i.OnCode mask back d) t start direct small none has
  far_turns p due (i.Loop modify back d) t start direct small none has = long_leads p due (i.Loop modify back d) t start direct small none has
  far_turns p due (i.Illegal w) t start direct small none has = cc

  -- in either form
  turn_leads : (p : module_spot.Spot) (due : Option At) (by : Instr) (t : ℕ) (c : Bool) → start_at g (placed seg p) ≡ due
      → is_direct by ≡ true → t < 65536
      → ((k : ℕ) → p.offset < k → k < p.offset + (if c then 1 + more by else 1) → g.starts seg k ≡ None)
      → MatchBool c (TurnsFar words p.offset by t) (Has words p.offset (toward by p.offset t))
      → Leads g (point seg p due) (placed seg (at_left (p.offset + (if c then 1 + more by else 1))))
      (turning by (word_at (placed seg p) t) (placed seg (at_left (p.offset + (if c then 1 + more by else 1)))))
  turn_leads p due by t true start direct small none has = far_turns p due by t start direct small none has
  turn_leads p due by t false start direct small none has =
      toward_leads g (point seg p due) by t direct small (has_instr (point seg p due) (toward by p.offset t) refl start has)

  branch_leads : (p : module_spot.Spot) (due : Option At) (by : Instr) (t : ℕ) → start_at g (placed seg p) ≡ due
      → is_direct by ≡ true → t < 65536
      → ((k : ℕ) → p.offset < k → k < p.offset + branch_size by p.offset t → g.starts seg k ≡ None) → Turns words p.offset by t
      → Leads g (point seg p due) (placed seg (at_left (p.offset + branch_size by p.offset t)))
      (turning by (word_at (placed seg p) t) (placed seg (at_left (p.offset + branch_size by p.offset t))))
  branch_leads p due by t start direct small none turns = turn_leads p due by t (is_far by p.offset t) start direct small none turns

  -- ---- calls

  call_leads : (p : module_spot.Spot) (due : Option At) (by : Instr) (entry : ℕ) (way : Way) → start_at g (placed seg p) ≡ due
      → CallLeads g.segments seg by entry way → Has words p.offset (called_by by entry)
      → Leads g (point seg p due) (placed seg (at_left (p.offset + 1))) (calling by way (placed seg (at_left (p.offset + 1))))
  call_leads p due (i.Pair a b) entry way start leads has = absurd leads
  call_leads p due (i.Shifted kind count) entry way start leads has = absurd leads
  call_leads p due (i.Short test back d) entry way start leads has = absurd leads
  call_leads p due (i.Immediate which n) entry way start leads has = absurd leads
  call_leads p due (i.Control which n) entry way start (inl to) has =
      subst (λ (k : ℕ). Leads g (point seg p due) (placed seg (at_left (p.offset + 1))) (calling (i.Control k n) way (placed seg (at_left (p.offset + 1))))) (sym to.0)
      (procedure_leads g (point seg p due) entry n way
      (has_instr (point seg p due) (i.Control 0 entry) refl start (subst (λ (k : ℕ). Has words p.offset (i.Control k entry)) to.0 has)) to.1)
  call_leads p due (i.Control which n) entry way start (inr to) has =
      subst (λ (k : ℕ). Leads g (point seg p due) (placed seg (at_left (p.offset + 1))) (calling (i.Control k n) way (placed seg (at_left (p.offset + 1))))) (sym to.0)
      (subroutine_leads g (point seg p due) entry n way
      (has_instr (point seg p due) (i.Control 3 entry) refl start (subst (λ (k : ℕ). Has words p.offset (i.Control k entry)) to.0 has)) to.1)
  call_leads p due (i.Memory major second x indirect mode) entry way start leads has = absurd leads
  call_leads p due (i.LoadCode back d) entry way start leads has = absurd leads
  call_leads p due (i.Branch indirect back d) entry way start leads has = absurd leads
  call_leads p due (i.OnCode mask back d) entry way start leads has = absurd leads
  call_leads p due (i.Loop modify back d) entry way start leads has = absurd leads
  call_leads p due (i.Illegal w) entry way start leads has = absurd leads

  -- ---- pieces

  pub words_stand : (s : decoded.Sites) (w : Sites) → MarksAgree seg s w → (ps : List Piece) (p q : module_spot.Spot) (due : Option At)
      → AllFit g seg s w p due ps → decoded.Stands words s p ps q → Stands g w (point seg p due) ps (placed seg q)
  words_stand s w marks [] p q due fits stands =
      ap (λ (o : Option At). point seg p o) fits ∙ ap (λ (r : module_spot.Spot). on (placed seg r)) stands
  words_stand s w marks (Do by ∷ ps) p q due fits stands =
      let r = past_instr p by (decoded.ahead ps) in
      (placed seg r, plain_leads p due by (decoded.ahead ps) fits.0.0 fits.0.1 stands.0, words_stand s w marks ps r q None fits.1 stands.1)
  words_stand s w marks (Literal v ∷ ps) p q due fits stands =
      (word_of_code p.offset v stands.0.1, fits.0, words_stand s w marks ps (at_left (p.offset + 1)) q None fits.1 stands.1)
  words_stand s w marks (Place l ∷ ps) p q due fits stands =
      let same : s.marks l ≡ (w.marks l).offset = ap (λ (r : Spot). r.offset) (sym (marks l)) in
      (word_of_code p.offset (s.marks l) stands.0.1 ∙ ap (λ (n : ℕ). Some n) same, fits.0, words_stand s w marks ps (at_left (p.offset + 1)) q None fits.1 stands.1)
  words_stand s w marks (Branch by l ∷ ps) p q due fits stands =
      let r = at_left (p.offset + branch_size by p.offset (s.marks l)) in (
        placed seg r,
        subst (λ (to : Spot). Leads g (point seg p due) (placed seg r) (turning by to (placed seg r))) (sym (marks l))
            (branch_leads p due by (s.marks l) fits.0.0 fits.0.1 fits.0.2 fits.0.3 stands.0.1),
        words_stand s w marks ps r q None fits.1 stands.1,
      )
  words_stand s w marks (Mark l ∷ ps) p q due fits stands =
      (marks l ∙ ap (λ (r : module_spot.Spot). placed seg r) (sym stands.0), fits.0, words_stand s w marks ps p q due fits.1 stands.1)
  words_stand s w marks (Call by wanted index ∷ ps) p q due fits stands = (
    placed seg (at_left (p.offset + 1)),
    call_leads p due by (s.entries wanted index) (w.ways wanted index) fits.0.0 fits.0.2 stands.0.1,
    refl,
    fits.0.1,
    words_stand s w marks ps (at_left (p.offset + 1)) q None fits.1 stands.1,
  )
  words_stand s w marks (Begin at ∷ ps) p q due fits stands =
      (fits.0, words_stand s w marks ps p q (Some at) fits.1 stands.1)
