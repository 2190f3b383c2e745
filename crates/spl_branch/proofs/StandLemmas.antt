-- Where the survey finds the marks: each set mark at its place, the others at the start; behind a place stand those marks
-- that are set behind it.
use Rattle.std.proofs.Common.{◌≡◌, ℕ, ◌+◌, ◌<◌, ◌≤◌, ◌⊎◌, inl, inr, List, [], ◌∷◌, ◌++◌, length, drop, refl, sym, ap, ◌∙◌, arith, get_or-set_same, get_or-set_other, add-zero}
use Rattle.std.proofs.lemmas.List.{length-set, length-drop, length-append}
use Rattle.std.proofs.lemmas.Bool.{cases_lt, cases_eq, eq-eqb, ne_eqb}
use Rattle.spl_branch.specs.declared.pieces.Piece.{Piece}
use Rattle.spl_branch.specs.declared.pieces.Piece.TheVariants.{Do, Literal, Place, Branch, Mark, Call, Begin}
use Rattle.spl_branch.specs.declared.spots.Spot.{Spot}
use Rattle.spl_branch.specs.declared.survey.Turn.{Turn}
use Rattle.spl_branch.specs.declared.survey.Stand.{Stand}
use Rattle.spl_branch.specs.Pieces.{sets_once, sets}
use Rattle.spl_branch.specs.Stands.{ahead, moved}
use Rattle.spl_branch.specs.Rounds.{nowhere, stand_at, branches, with_stand, stands_from, turns_of, piece_turns}
use Rattle.spl_branch.proofs.SurveyLemmas.{moved_rises, length-piece_turns}
use Rattle.spl_branch.proofs.RoundLemmas.{next_left}

-- the mark that a piece sets is noted here
abbrev pub StandIs : List Stand → Spot → ℕ → Piece → Type 0
StandIs stands p k (Mark l) = stand_at stands l ≡ record { place = p.offset; before = k }
StandIs stands p k x = Unit {0}

-- so is each mark that pieces set that begin at p, behind k branches
abbrev pub Noted : List Stand → Spot → ℕ → List Piece → Type 0
Noted stands p k [] = Unit {0}
Noted stands p k (x ∷ ps) = StandIs stands p k x × Noted stands (moved 1 p x (ahead ps)) (k + branches x) ps

-- a mark that pieces do not set keeps its note
kept_by : (x : Piece) (stands : List Stand) (p : Spot) (k l : ℕ) → sets_once l x ≡ 0 → stand_at (with_stand stands p k x) l ≡ stand_at stands l
kept_by (Do by) stands p k l h = refl
kept_by (Literal w) stands p k l h = refl
kept_by (Place m) stands p k l h = refl
kept_by (Branch by m) stands p k l h = refl
kept_by (Mark m) stands p k l h = get_or-set_other stands m l (record { place = p.offset; before = k }) nowhere (λ e. other (sym e)) where
  other : m ≡ l → ⊥
  other e = absurd (omega (arith, rw (eq-eqb m l e) at h))
kept_by (Call by wanted index) stands p k l h = refl
kept_by (Begin at) stands p k l h = refl

pub untouched : (ps : List Piece) (stands : List Stand) (p : Spot) (k l : ℕ) → sets l ps ≡ 0 → stand_at (stands_from stands p k ps) l ≡ stand_at stands l
untouched [] stands p k l h = refl
untouched (x ∷ ps) stands p k l h =
    untouched ps (with_stand stands p k x) (moved 1 p x (ahead ps)) (k + branches x) l (omega arith) ∙ kept_by x stands p k l (omega arith)

length-with_stand : (x : Piece) (stands : List Stand) (p : Spot) (k : ℕ) → length (with_stand stands p k x) ≡ length stands
length-with_stand (Do by) stands p k = refl
length-with_stand (Literal w) stands p k = refl
length-with_stand (Place m) stands p k = refl
length-with_stand (Branch by m) stands p k = refl
length-with_stand (Mark m) stands p k = length-set stands m (record { place = p.offset; before = k })
length-with_stand (Call by wanted index) stands p k = refl
length-with_stand (Begin at) stands p k = refl

-- as many notes as marks
pub length-stands_from : (ps : List Piece) (stands : List Stand) (p : Spot) (k : ℕ) → length (stands_from stands p k ps) ≡ length stands
length-stands_from [] stands p k = refl
length-stands_from (x ∷ ps) stands p k = length-stands_from ps (with_stand stands p k x) (moved 1 p x (ahead ps)) (k + branches x) ∙ length-with_stand x stands p k

one_set : (l : ℕ) (ps : List Piece) → sets l (Mark l ∷ ps) ≡ 1 + sets l ps
one_set l ps = rw (eq-eqb l l refl) refl

-- where each mark is set once at most, each that is set is noted at its place
pub noted : (ps : List Piece) (stands : List Stand) (p : Spot) (k : ℕ) → ((l : ℕ) → sets l ps ≤ 1) → ((l : ℕ) → 0 < sets l ps → l < length stands) → Noted (stands_from stands p k ps) p k ps
noted [] stands p k once low = tt
noted (x ∷ ps) stands p k once low = (
  here x stands p k ps once low,
  noted ps (with_stand stands p k x) (moved 1 p x (ahead ps)) (k + branches x) (λ l. omega (arith, once l)) (λ l h. rw (length-with_stand x stands p k) (low l (omega arith))),
) where
  here : (x : Piece) (stands : List Stand) (p : Spot) (k : ℕ) (ps : List Piece) → ((l : ℕ) → sets l (x ∷ ps) ≤ 1) → ((l : ℕ) → 0 < sets l (x ∷ ps) → l < length stands)
      → StandIs (stands_from (with_stand stands p k x) (moved 1 p x (ahead ps)) (k + branches x) ps) p k x
  here (Do by) stands p k ps once low = tt
  here (Literal w) stands p k ps once low = tt
  here (Place m) stands p k ps once low = tt
  here (Branch by m) stands p k ps once low = tt
  here (Mark m) stands p k ps once low =
      untouched ps (with_stand stands p k (Mark m)) p (k + 0) m (omega (arith, once m, one_set m ps))
      ∙ get_or-set_same stands m (record { place = p.offset; before = k }) nowhere (low m (omega (arith, one_set m ps)))
  here (Call by wanted index) stands p k ps once low = tt
  here (Begin at) stands p k ps once low = tt

-- a mark that a piece sets is noted at its place
pub set_here : (x : Piece) (stands : List Stand) (p : Spot) (k l : ℕ) → StandIs stands p k x → 0 < sets_once l x → ((stand_at stands l).place ≡ p.offset) × ((stand_at stands l).before ≡ k)
set_here (Do by) stands p k l s g = absurd (omega arith)
set_here (Literal w) stands p k l s g = absurd (omega arith)
set_here (Place m) stands p k l s g = absurd (omega arith)
set_here (Branch by m) stands p k l s g = absurd (omega arith)
set_here (Mark m) stands p k l s g = found (cases_eq m l) where
  found : (m ≡ l) ⊎ (m ≡ l → ⊥) → ((stand_at stands l).place ≡ p.offset) × ((stand_at stands l).before ≡ k)
  found (inl e) = rw (← e) (ap (λ st. st.place) s, ap (λ st. st.before) s)
  found (inr e) = absurd (omega (arith, rw (ne_eqb m l e) at g))
set_here (Call by wanted index) stands p k l s g = absurd (omega arith)
set_here (Begin at) stands p k l s g = absurd (omega arith)

-- a mark that is set further on stands no further back
pub later : (ps : List Piece) (stands : List Stand) (p : Spot) (k l : ℕ) → Noted stands p k ps → 0 < sets l ps → (p.offset ≤ (stand_at stands l).place) × (k ≤ (stand_at stands l).before)
later [] stands p k l n h = absurd (omega arith)
later (x ∷ ps) stands p k l n h = go (cases_lt 0 (sets l ps)) (λ g. later ps stands (moved 1 p x (ahead ps)) (k + branches x) l n.1 g) where
  go : (0 < sets l ps) ⊎ (sets l ps ≤ 0) → (0 < sets l ps → ((moved 1 p x (ahead ps)).offset ≤ (stand_at stands l).place) × (k + branches x ≤ (stand_at stands l).before)) → (p.offset ≤ (stand_at stands l).place) × (k ≤ (stand_at stands l).before)
  go (inl g) rest = (omega (arith, (rest g).0, moved_rises x 1 p (ahead ps)), omega (arith, (rest g).1))
  go (inr g) rest =
      let here = set_here x stands p k l n.0 (omega arith) in
      (omega (arith, here.0), omega (arith, here.1))

-- what is known at a place of a walk over pieces, k branches in
pub record Here (stands : List Stand) (ts : List Turn) (p : Spot) (k : ℕ) (ps : List Piece) : Type 0 where
  pub turns : drop k ts ≡ turns_of p ps
  pub low : k ≤ length ts
  pub noted : Noted stands p k ps
  pub behind : (l : ℕ) → sets l ps ≡ 0 → ((stand_at stands l).place ≤ p.offset) × ((stand_at stands l).before ≤ k)

left_over : (x : Piece) (ts rest : List Turn) (p : Spot) (k : ℕ) → drop k ts ≡ piece_turns p x ++ rest → drop (k + branches x) ts ≡ rest
left_over (Do by) ts rest p k h = rw (add-zero k) h
left_over (Literal w) ts rest p k h = rw (add-zero k) h
left_over (Place m) ts rest p k h = rw (add-zero k) h
left_over (Branch by m) ts rest p k h = sym (next_left ts k) ∙ ap (λ (xs : List Turn). drop 1 xs) h
left_over (Mark m) ts rest p k h = rw (add-zero k) h
left_over (Call by wanted index) ts rest p k h = rw (add-zero k) h
left_over (Begin at) ts rest p k h = rw (add-zero k) h

-- one piece further
pub here_next : (x : Piece) (stands : List Stand) (ts : List Turn) (p : Spot) (k : ℕ) (ps : List Piece) → Here stands ts p k (x ∷ ps) → Here stands ts (moved 1 p x (ahead ps)) (k + branches x) ps
here_next x stands ts p k ps h = record {
  turns = left_over x ts (turns_of (moved 1 p x (ahead ps)) ps) p k h.turns;
  low = omega (arith, h.low, length-drop k ts, ap length h.turns, length-append (piece_turns p x) (turns_of (moved 1 p x (ahead ps)) ps), length-piece_turns p x);
  noted = h.noted.1;
  behind = λ l none. go l none (cases_lt 0 (sets_once l x));
} where
  go : (l : ℕ) → sets l ps ≡ 0 → (0 < sets_once l x) ⊎ (sets_once l x ≤ 0) → ((stand_at stands l).place ≤ (moved 1 p x (ahead ps)).offset) × ((stand_at stands l).before ≤ k + branches x)
  go l none (inl g) = let at = set_here x stands p k l h.noted.0 g in (omega (arith, at.0, moved_rises x 1 p (ahead ps)), omega (arith, at.1))
  go l none (inr g) = let was = h.behind l (omega arith) in (omega (arith, was.0, moved_rises x 1 p (ahead ps)), omega (arith, was.1))
