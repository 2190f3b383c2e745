-- What the survey and the rounds mean for the pieces: each mark stands at its offset, and where there are more than 16,383
-- words, no other choice of forms has fewer.
use Rattle.std.proofs.Common.{◌≡◌, ℕ, zero, suc, ◌+◌, ◌<◌, ◌≤◌, ◌==◌, ◌⊎◌, inl, inr, Bool, true, false, if◌then◌else◌, List, [], ◌∷◌, length, get_or, map, replicate, Option, None, Some, refl, sym, ap, subst, ◌∙◌, arith, slice_index, add-zero, add-one}
use Rattle.std.specs.List.{list_all}
use Rattle.std.proofs.lemmas.List.{get_or_past, length-append, length-replicate}
use Rattle.std.proofs.lemmas.Bool.{cases_lt, and_parts}
use Rattle.hp_instr.specs.declared.instruction.Instr.{Instr}
use Rattle.hp_instr.specs.declared.instruction.Instr.TheVariants as i
use Rattle.hp_instr.specs.declared.instruction.Op.{Op}
use Rattle.spl_branch.specs.declared.pieces.Piece.{Piece}
use Rattle.spl_branch.specs.declared.pieces.Piece.TheVariants.{Do, Literal, Place, Branch, Mark, Call, Begin}
use Rattle.spl_branch.specs.declared.spots.Spot.{Spot}
use Rattle.spl_branch.specs.declared.survey.Turn.{Turn}
use Rattle.spl_branch.specs.declared.survey.Stand.{Stand}
use Rattle.spl_branch.specs.Branches.{more, is_far}
use Rattle.spl_branch.specs.Pieces.{named, is_set, is_set_if, sets, once, InStep, most_words, count_of}
use Rattle.spl_branch.specs.Stands.{at_left, at_right, ahead, past_instr, moved, end_of, Settled}
use Rattle.spl_branch.specs.Modules.{Placed}
use Rattle.std.specs.Global.{Vec}
use Rattle.spl_branch.specs.Rounds.{nowhere, stand_at, branches, short_end, piece_turns, turns_of, stands_from, shifts_of, target, targets, misses, rounds, total, IsWithin, Chosen}
use Rattle.spl_branch.proofs.SurveyLemmas.{moved_rises, length-piece_turns, short_end_rises}
use Rattle.spl_branch.proofs.RoundLemmas.{no_turn, target_low}
use Rattle.spl_branch.proofs.ShiftLemmas.{shift, far, first_is, grown, settled_forms, least, shift_next}
use Rattle.spl_branch.proofs.StandLemmas.{Noted, noted, untouched, Here, here_next, set_here}
use Rattle.spl_branch.proofs.WalkLemmas.{on_by, turn_here, turn_low, all_behind, sides, Tied, misses_is_far, walked, settled, forms, Given, given}

-- a mark that is set is set once, and was made
set_once : (ps : List Piece) (ms : List Bool) → InStep ps ms → (l : ℕ) → sets l ps ≤ 1
set_once ps ms h l = go (is_set ms l) (h l) where
  go : (b : Bool) → sets l ps ≡ once b → sets l ps ≤ 1
  go true e = omega (arith, e)
  go false e = omega (arith, e)

set_low : (ps : List Piece) (ms : List Bool) → InStep ps ms → (l : ℕ) → 0 < sets l ps → l < length ms
set_low ps ms h l g = go (cases_lt l (length ms)) where
  go : (l < length ms) ⊎ (length ms ≤ l) → l < length ms
  go (inl f) = f
  go (inr f) = absurd (omega (arith, h l ∙ ap once (get_or_past ms l false f)))

set_is : (ps : List Piece) (ms : List Bool) → InStep ps ms → (l : ℕ) → is_set ms l ≡ true → 0 < sets l ps
set_is ps ms h l e = omega (arith, h l ∙ ap once e)

nowhere_at : (n l : ℕ) → stand_at (replicate n nowhere) l ≡ nowhere
nowhere_at zero l = refl
nowhere_at (suc n) zero = refl
nowhere_at (suc n) (suc l) = nowhere_at n l

-- a mark that is set stands no further on than the end
sooner : (ps : List Piece) (stands : List Stand) (p : Spot) (k l : ℕ) → Noted stands p k ps → 0 < sets l ps → ((stand_at stands l).place ≤ (short_end p ps).offset) × ((stand_at stands l).before ≤ k + length (turns_of p ps))
sooner [] stands p k l n h = absurd (omega arith)
sooner (x ∷ ps) stands p k l n h = go (cases_lt 0 (sets l ps)) (λ g. sooner ps stands (moved 1 p x (ahead ps)) (k + branches x) l n.1 g) where
  counted : length (turns_of p (x ∷ ps)) ≡ branches x + length (turns_of (moved 1 p x (ahead ps)) ps)
  counted = length-append (piece_turns p x) (turns_of (moved 1 p x (ahead ps)) ps) ∙ ap (λ n. n + length (turns_of (moved 1 p x (ahead ps)) ps)) (length-piece_turns p x)

  go : (0 < sets l ps) ⊎ (sets l ps ≤ 0) → (0 < sets l ps → ((stand_at stands l).place ≤ (short_end (moved 1 p x (ahead ps)) ps).offset) × ((stand_at stands l).before ≤ (k + branches x) + length (turns_of (moved 1 p x (ahead ps)) ps)))
      → ((stand_at stands l).place ≤ (short_end p (x ∷ ps)).offset) × ((stand_at stands l).before ≤ k + length (turns_of p (x ∷ ps)))
  go (inl g) rest = ((rest g).0, omega (arith, (rest g).1, counted))
  go (inr g) rest =
      let here = set_here x stands p k l n.0 (omega arith) in
      (omega (arith, here.0, moved_rises x 1 p (ahead ps), short_end_rises ps (moved 1 p x (ahead ps))), omega (arith, here.1))

-- a branch has a word
branch_moves : (x : Piece) (p : Spot) (next : Op) → p.offset + branches x ≤ (moved 1 p x next).offset
branch_moves (Do by) p next = omega (arith, moved_rises (Do by) 1 p next)
branch_moves (Literal w) p next = omega arith
branch_moves (Place l) p next = omega arith
branch_moves (Branch by l) p next = omega arith
branch_moves (Mark l) p next = omega arith
branch_moves (Call by wanted index) p next = omega arith
branch_moves (Begin at) p next = omega arith

pub turns_few : (ps : List Piece) (p : Spot) → p.offset + length (turns_of p ps) ≤ (short_end p ps).offset
turns_few [] p = omega arith
turns_few (x ∷ ps) p = omega (arith, turns_few ps (moved 1 p x (ahead ps)), branch_moves x p (ahead ps), length-append (piece_turns p x) (turns_of (moved 1 p x (ahead ps)) ps), length-piece_turns p x)

-- the marks that branches name are set
turn_marks : (ps : List Piece) (ms : List Bool) (p : Spot) (j : ℕ) → list_all (λ x. is_set_if ms (named x)) ps ≡ true → j < length (turns_of p ps) → is_set ms (get_or (turns_of p ps) j no_turn).mark ≡ true
turn_marks [] ms p j h lt = absurd (omega arith)
turn_marks (Do by ∷ ps) ms p j h lt = turn_marks ps ms (moved 1 p (Do by) (ahead ps)) j h lt
turn_marks (Literal w ∷ ps) ms p j h lt = turn_marks ps ms (moved 1 p (Literal w) (ahead ps)) j h lt
turn_marks (Place l ∷ ps) ms p j h lt = turn_marks ps ms (moved 1 p (Place l) (ahead ps)) j (and_parts (is_set ms l) (list_all (λ x. is_set_if ms (named x)) ps) h).1 lt
turn_marks (Branch by l ∷ ps) ms p zero h lt = (and_parts (is_set ms l) (list_all (λ x. is_set_if ms (named x)) ps) h).0
turn_marks (Branch by l ∷ ps) ms p (suc j) h lt = turn_marks ps ms (moved 1 p (Branch by l) (ahead ps)) j (and_parts (is_set ms l) (list_all (λ x. is_set_if ms (named x)) ps) h).1 (omega arith)
turn_marks (Mark l ∷ ps) ms p j h lt = turn_marks ps ms p j (and_parts (is_set ms l) (list_all (λ x. is_set_if ms (named x)) ps) h).1 lt
turn_marks (Call by wanted index ∷ ps) ms p j h lt = turn_marks ps ms (moved 1 p (Call by wanted index) (ahead ps)) j h lt
turn_marks (Begin at ∷ ps) ms p j h lt = turn_marks ps ms p j h lt

-- a piece has at most its count of words, whatever form its branch has
piece_counts : (x : Piece) (stands : List Stand) (ts : List Turn) (fs : List Bool) (p : Spot) (k : ℕ) (ps : List Piece) → Here stands ts p k (x ∷ ps) → (moved 1 p x (ahead ps)).offset + shift ts fs (k + branches x) ≤ p.offset + shift ts fs k + most_words x
piece_counts x stands ts fs p k ps h = go x h where
  same : shift ts fs (k + 0) ≡ shift ts fs k
  same = ap (shift ts fs) (add-zero k)

  few : (by : Instr) → more by ≤ 3
  few (i.Pair left right) = omega arith
  few (i.Shifted kind count) = omega arith
  few (i.Short test back d) = omega arith
  few (i.Immediate which n) = omega arith
  few (i.Control which n) = omega arith
  few (i.Memory major second x ind mode) = omega arith
  few (i.LoadCode back d) = omega arith
  few (i.Branch ind back d) = omega arith
  few (i.OnCode mask back d) = omega arith
  few (i.Loop modify back d) = omega arith
  few (i.Illegal w) = omega arith

  one_word : (by : Instr) (next : Op) → (past_instr p by next).offset ≤ p.offset + 1
  one_word (i.Pair left right) next = pair p.right (next.code == 0) where
    pair : (r n : Bool) → (if r then at_left (p.offset + 1) else if n then at_left (p.offset + 1) else at_right p.offset).offset ≤ p.offset + 1
    pair true n = omega arith
    pair false true = omega arith
    pair false false = omega arith
  one_word (i.Shifted kind count) next = omega arith
  one_word (i.Short test back d) next = omega arith
  one_word (i.Immediate which n) next = omega arith
  one_word (i.Control which n) next = omega arith
  one_word (i.Memory major second x ind mode) next = omega arith
  one_word (i.LoadCode back d) next = omega arith
  one_word (i.Branch ind back d) next = omega arith
  one_word (i.OnCode mask back d) next = omega arith
  one_word (i.Loop modify back d) next = omega arith
  one_word (i.Illegal w) next = omega arith

  added_few : (by : Instr) (b : Bool) → (if b then more by else 0) ≤ 3
  added_few by true = few by
  added_few by false = omega arith

  go : (x : Piece) → Here stands ts p k (x ∷ ps) → (moved 1 p x (ahead ps)).offset + shift ts fs (k + branches x) ≤ p.offset + shift ts fs k + most_words x
  go (Do by) h = omega (arith, same, one_word by (ahead ps))
  go (Literal w) h = omega (arith, same)
  go (Place l) h = omega (arith, same)
  go (Branch by l) h = omega (arith, ap (shift ts fs) (add-one k), shift_next ts 0 fs k (turn_low stands ts p k by l ps h), ap (λ (u : Turn). if far fs k then more u.by else 0) (turn_here stands ts p k by l ps h), added_few by (far fs k))
  go (Mark l) h = omega (arith, same)
  go (Call by wanted index) h = omega (arith, same)
  go (Begin at) h = omega (arith, same)

pub counted : (ps : List Piece) (stands : List Stand) (ts : List Turn) (fs : List Bool) (p : Spot) (k : ℕ) → Here stands ts p k ps → (short_end p ps).offset + shift ts fs (length ts) ≤ p.offset + shift ts fs k + count_of ps
counted [] stands ts fs p k h = omega (arith, ap (shift ts fs) (all_behind stands ts p k h))
counted (x ∷ ps) stands ts fs p k h = omega (arith, counted ps stands ts fs (moved 1 p x (ahead ps)) (k + branches x) (here_next x stands ts p k ps h), piece_counts x stands ts fs p k ps h)

-- the notes of the survey of pieces with so many marks
abbrev pub stands_in : List Piece → ℕ → List Stand
stands_in ps n = stands_from (replicate n nowhere) (at_left 0) 0 ps

-- a mark that no piece sets is noted at the start
unset_at : (ps : List Piece) (n l : ℕ) → sets l ps ≡ 0 → stand_at (stands_in ps n) l ≡ nowhere
unset_at ps n l h = untouched ps (replicate n nowhere) (at_left 0) 0 l h ∙ nowhere_at n l

all_noted : (ps : List Piece) (ms : List Bool) → InStep ps ms → Noted (stands_in ps (length ms)) (at_left 0) 0 ps
all_noted ps ms step = noted ps (replicate (length ms) nowhere) (at_left 0) 0 (set_once ps ms step) (λ l g. rw (length-replicate (length ms) nowhere) (set_low ps ms step l g))

-- what is known where a walk begins
start_here : (ps : List Piece) (ms : List Bool) → InStep ps ms → Here (stands_in ps (length ms)) (turns_of (at_left 0) ps) (at_left 0) 0 ps
start_here ps ms step = record {
  turns = refl;
  low = omega arith;
  noted = all_noted ps ms step;
  behind = λ l none. (omega (arith, ap (λ (st : Stand). st.place) (unset_at ps (length ms) l none)), omega (arith, ap (λ (st : Stand). st.before) (unset_at ps (length ms) l none)));
}

-- all marks stand within the words, and behind no more branches than there are
pub within : (ps : List Piece) (ms : List Bool) → InStep ps ms → IsWithin (stands_in ps (length ms)) (short_end (at_left 0) ps).offset (length (turns_of (at_left 0) ps))
within ps ms step l = go (cases_lt 0 (sets l ps)) where
  go : (0 < sets l ps) ⊎ (sets l ps ≤ 0) → ((stand_at (stands_in ps (length ms)) l).place ≤ (short_end (at_left 0) ps).offset) × ((stand_at (stands_in ps (length ms)) l).before ≤ length (turns_of (at_left 0) ps))
  go (inl g) =
      let found = sooner ps (stands_in ps (length ms)) (at_left 0) 0 l (all_noted ps ms step) g in
      (found.0, omega (arith, found.1))
  go (inr g) =
      let start = unset_at ps (length ms) l (omega arith) in
      (omega (arith, ap (λ (st : Stand). st.place) start), omega (arith, ap (λ (st : Stand). st.before) start))

-- the start, no words further on
from_start : (ts : List Turn) (fs : List Bool) → on_by (shift ts fs 0) (at_left 0) ≡ at_left 0
from_start ts fs = ap at_left (omega (arith, first_is ts 0 fs))

-- the offsets that are kept are those of the marks
pub target_at : (stands : List Stand) (ts : List Turn) (fs : List Bool) (l : ℕ) → slice_index (targets stands ts fs) l ≡ target stands (shifts_of 0 ts fs) l
target_at stands ts fs l = go stands l where
  go : (stands : List Stand) (l : ℕ) → get_or (map (λ (st : Stand). st.place + slice_index (shifts_of 0 ts fs) st.before) stands) l 0 ≡ (stand_at stands l).place + slice_index (shifts_of 0 ts fs) (stand_at stands l).before
  go [] l = omega (arith, first_is ts 0 fs)
  go (st ∷ stands) zero = refl
  go (st ∷ stands) (suc l) = go stands l

-- the last round's forms are those that the distances ask for
module _ (ps : List Piece) (ms : List Bool) (step : InStep ps ms) (m : ℕ)
    (same : rounds (stands_in ps (length ms)) (turns_of (at_left 0) ps) (suc m) ≡ rounds (stands_in ps (length ms)) (turns_of (at_left 0) ps) m)
    (marks : ℕ → ℕ) (are : (l : ℕ) → marks l ≡ slice_index (targets (stands_in ps (length ms)) (turns_of (at_left 0) ps) (rounds (stands_in ps (length ms)) (turns_of (at_left 0) ps) m)) l) where
  last_tied : (j : ℕ) → j < length (turns_of (at_left 0) ps) → Tied marks (turns_of (at_left 0) ps) (rounds (stands_in ps (length ms)) (turns_of (at_left 0) ps) m) j
  last_tied j lt =
      let stands : List Stand = stands_in ps (length ms) in
      let ts : List Turn = turns_of (at_left 0) ps in
      let fs : List Bool = rounds stands ts m in
      let t : Turn = get_or ts j no_turn in
      settled_forms stands ts (short_end (at_left 0) ps).offset (within ps ms step) m j same lt
      ∙ misses_is_far stands ts fs j t (omega arith) (within ps ms step t.mark).1 (sides ps stands ts (at_left 0) 0 (start_here ps ms step) j (omega arith) lt)
      ∙ ap (λ n. is_far t.by (t.place + shift ts fs j) n) (sym (are t.mark ∙ target_at stands ts fs t.mark))

  pub last_settled : Settled marks (at_left 0) ps
  last_settled =
      let stands : List Stand = stands_in ps (length ms) in
      let ts : List Turn = turns_of (at_left 0) ps in
      let fs : List Bool = rounds stands ts m in
      let Q : Spot → Type 0 = λ q. Settled marks q ps in
      subst Q (from_start ts fs) (settled ps marks stands ts fs (at_left 0) 0 (start_here ps ms step) last_tied (λ l. are l ∙ target_at stands ts fs l))

  pub last_end : (end_of marks (at_left 0) ps).offset ≡ (short_end (at_left 0) ps).offset + total (turns_of (at_left 0) ps) (rounds (stands_in ps (length ms)) (turns_of (at_left 0) ps) m)
  last_end =
      let stands : List Stand = stands_in ps (length ms) in
      let ts : List Turn = turns_of (at_left 0) ps in
      let fs : List Bool = rounds stands ts m in
      ap (λ q. (end_of marks q ps).offset) (sym (from_start ts fs)) ∙ ap (λ (q : Spot). q.offset) (walked ps marks stands ts fs (at_left 0) 0 (start_here ps ms step) last_tied)

-- what any choice of offsets is whose marks stand where they are said to
module _ (ps : List Piece) (ms : List Bool) (step : InStep ps ms) (set : list_all (λ x. is_set_if ms (named x)) ps ≡ true) (marks : ℕ → ℕ) (stood : Settled marks (at_left 0) ps) where
  other_given : Given marks (stands_in ps (length ms)) (turns_of (at_left 0) ps) (forms marks (at_left 0) ps) 0 ps
  other_given =
      let ts : List Turn = turns_of (at_left 0) ps in
      given ps marks (stands_in ps (length ms)) ts (forms marks (at_left 0) ps) (at_left 0) (at_left 0) 0 (start_here ps ms step) (sym (from_start ts (forms marks (at_left 0) ps))) refl stood

  other_end : (end_of marks (at_left 0) ps).offset ≡ (short_end (at_left 0) ps).offset + total (turns_of (at_left 0) ps) (forms marks (at_left 0) ps)
  other_end =
      let stands : List Stand = stands_in ps (length ms) in
      let ts : List Turn = turns_of (at_left 0) ps in
      let fs : List Bool = forms marks (at_left 0) ps in
      ap (λ q. (end_of marks q ps).offset) (sym (from_start ts fs)) ∙ ap (λ (q : Spot). q.offset) (walked ps marks stands ts fs (at_left 0) 0 (start_here ps ms step) (λ j lt. other_given.tied j (omega arith) lt))

  other_closed : (k : ℕ) → k < length (turns_of (at_left 0) ps) → misses (stands_in ps (length ms)) (shifts_of 0 (turns_of (at_left 0) ps) (forms marks (at_left 0) ps)) k (get_or (turns_of (at_left 0) ps) k no_turn) ≡ true → far (forms marks (at_left 0) ps) k ≡ true
  other_closed k lt e =
      let stands : List Stand = stands_in ps (length ms) in
      let ts : List Turn = turns_of (at_left 0) ps in
      let fs : List Bool = forms marks (at_left 0) ps in
      let t : Turn = get_or ts k no_turn in
      other_given.tied k (omega arith) lt
      ∙ ap (λ n. is_far t.by (t.place + shift ts fs k) n) (other_given.at t.mark (set_is ps ms step t.mark (turn_marks ps ms (at_left 0) k set lt)))
      ∙ sym (misses_is_far stands ts fs k t (omega arith) (within ps ms step t.mark).1 (sides ps stands ts (at_left 0) 0 (start_here ps ms step) k (omega arith) lt))
      ∙ e

  pub no_shorter : (m : ℕ) → (short_end (at_left 0) ps).offset + total (turns_of (at_left 0) ps) (rounds (stands_in ps (length ms)) (turns_of (at_left 0) ps) m) ≤ (end_of marks (at_left 0) ps).offset
  no_shorter m =
      let stands : List Stand = stands_in ps (length ms) in
      let ts : List Turn = turns_of (at_left 0) ps in
      let fs : List Bool = forms marks (at_left 0) ps in
      omega (arith, other_end, grown ts 0 0 (rounds stands ts m) fs (length ts) (least stands ts (short_end (at_left 0) ps).offset (within ps ms step) fs other_closed m) (omega arith))

  pub no_shorter_at_first : (short_end (at_left 0) ps).offset ≤ (end_of marks (at_left 0) ps).offset
  no_shorter_at_first = omega (arith, other_end)

-- the words of any round are at most the count of words of the pieces
pub round_counts : (ps : List Piece) (ms : List Bool) → InStep ps ms → (fs : List Bool) → (short_end (at_left 0) ps).offset + total (turns_of (at_left 0) ps) fs ≤ count_of ps
round_counts ps ms step fs = omega (arith, counted ps (stands_in ps (length ms)) (turns_of (at_left 0) ps) fs (at_left 0) 0 (start_here ps ms step), first_is (turns_of (at_left 0) ps) 0 fs)

-- what the survey and the rounds answer
pub placed_short : (ps : List Piece) (ms : List Bool) → InStep ps ms → list_all (λ x. is_set_if ms (named x)) ps ≡ true → 16383 < (short_end (at_left 0) ps).offset → Placed None ps
placed_short ps ms step set h =
    (λ marks stood. omega (arith, no_shorter_at_first ps ms step set marks stood), omega (arith, round_counts ps ms step []))

placed_in : (ps : List Piece) (ms : List Bool) → InStep ps ms → list_all (λ x. is_set_if ms (named x)) ps ≡ true → (o : Option (Vec ℕ)) → Chosen (stands_in ps (length ms)) (turns_of (at_left 0) ps) (short_end (at_left 0) ps).offset o → Placed o ps
placed_in ps ms step set None h =
    (λ marks stood. omega (arith, h.1, no_shorter ps ms step set marks stood h.0), omega (arith, h.1, round_counts ps ms step (rounds (stands_in ps (length ms)) (turns_of (at_left 0) ps) h.0)))
placed_in ps ms step set (Some at) h =
    let stands : List Stand = stands_in ps (length ms) in
    let ts : List Turn = turns_of (at_left 0) ps in
    let are : (l : ℕ) → slice_index at.items l ≡ slice_index (targets stands ts (rounds stands ts h.0)) l = λ l. ap (λ (xs : List ℕ). slice_index xs l) h.3 in
    let end : (end_of (λ l. slice_index at.items l) (at_left 0) ps).offset ≡ (short_end (at_left 0) ps).offset + total ts (rounds stands ts h.0) = last_end ps ms step h.0 h.2 (λ l. slice_index at.items l) are in (
      last_settled ps ms step h.0 h.2 (λ l. slice_index at.items l) are,
      omega (arith, end, h.1),
      omega (arith, end, round_counts ps ms step (rounds stands ts h.0)),
      λ l. omega (arith, are l ∙ target_at stands ts (rounds stands ts h.0) l, target_low stands ts (rounds stands ts h.0) (short_end (at_left 0) ps).offset (within ps ms step) h.1 l),
    )

pub placed : (ps : List Piece) (ms : List Bool) (stands : List Stand) (ts : List Turn) (size : ℕ) → InStep ps ms → list_all (λ x. is_set_if ms (named x)) ps ≡ true → stands ≡ stands_in ps (length ms) → ts ≡ turns_of (at_left 0) ps → size ≡ (short_end (at_left 0) ps).offset
    → (o : Option (Vec ℕ)) → Chosen stands ts size o → Placed o ps
placed ps ms stands ts size step set e f g o h =
    let P : List Stand → Type 0 = λ xs. Chosen xs ts size o in
    let Q : List Turn → Type 0 = λ xs. Chosen (stands_in ps (length ms)) xs size o in
    let R : ℕ → Type 0 = λ n. Chosen (stands_in ps (length ms)) (turns_of (at_left 0) ps) n o in
    placed_in ps ms step set o (subst R g (subst Q f (subst P e h)))

pub within_plan : (ps : List Piece) (ms : List Bool) (stands : List Stand) (ts : List Turn) (size : ℕ) → InStep ps ms → stands ≡ stands_in ps (length ms) → ts ≡ turns_of (at_left 0) ps → size ≡ (short_end (at_left 0) ps).offset → IsWithin stands size (length ts)
within_plan ps ms stands ts size step e f g = rw (e, f, g) (within ps ms step)
