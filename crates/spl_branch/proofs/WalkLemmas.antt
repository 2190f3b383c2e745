-- A walk over pieces in the forms of some round, beside the walk with all branches short: each place lies further on by the
-- words that the long forms before it add.
-- 1. a piece that stands further on leads to a place that does too          (after_on)
-- 2. a branch knows on which side its mark stands                           (sides)
-- 3. so its form is the one that its distance asks for                      (tied_last)
-- 4. and each mark stands where it is said to                               (walked, settled)
use Rattle.std.proofs.Common.{◌≡◌, ℕ, ◌+◌, ◌<◌, ◌≤◌, ◌==◌, ◌⊎◌, inl, inr, Bool, true, false, nat_lt, if◌then◌else◌, List, [], ◌∷◌, ◌++◌, length, get_or, drop, refl, sym, ap, subst, ◌∙◌, arith, add-zero, add-one}
use Rattle.std.proofs.lemmas.List.{length-drop, get_or-drop}
use Rattle.std.proofs.lemmas.Bool.{cases_lt, cases_eq, ne_eqb, false≢true, lt-leb, le-leb}
use Rattle.hp_instr.specs.declared.instruction.Instr.{Instr}
use Rattle.hp_instr.specs.declared.instruction.Instr.TheVariants as i
use Rattle.hp_instr.specs.declared.instruction.Op.{Op}
use Rattle.spl_branch.specs.declared.pieces.Piece.{Piece}
use Rattle.spl_branch.specs.declared.pieces.Piece.TheVariants.{Do, Literal, Place, Branch, Mark, Call, Begin}
use Rattle.spl_branch.specs.declared.spots.Spot.{Spot}
use Rattle.spl_branch.specs.declared.survey.Turn.{Turn}
use Rattle.spl_branch.specs.declared.survey.Stand.{Stand}
use Rattle.spl_branch.specs.Branches.{reach, more, is_far, branch_size}
use Rattle.spl_branch.specs.Pieces.{sets_once, sets}
use Rattle.spl_branch.specs.Stands.{at_left, at_right, ahead, past_instr, moved, after, end_of, MarkStands, Settled}
use Rattle.spl_branch.specs.Rounds.{stand_at, branches, short_end, added, shifts_of, target, misses}
use Rattle.spl_branch.proofs.RoundLemmas.{no_turn, shifts_rise, next_left}
use Rattle.spl_branch.proofs.ShiftLemmas.{shift, far, shift_next}
use Rattle.spl_branch.proofs.StandLemmas.{StandIs, Here, here_next, later}

-- a place so many words further on
abbrev pub on_by : ℕ → Spot → Spot
on_by s p = record { offset = p.offset + s; right = p.right }

past_on : (by : Instr) (s : ℕ) (p : Spot) (next : Op) → past_instr (on_by s p) by next ≡ on_by s (past_instr p by next)
past_on (i.Pair left right) s p next = go p.right (next.code == 0) where
  go : (r n : Bool) → (if r then at_left (p.offset + s + 1) else if n then at_left (p.offset + s + 1) else at_right (p.offset + s)) ≡ on_by s (if r then at_left (p.offset + 1) else if n then at_left (p.offset + 1) else at_right p.offset)
  go true n = ap at_left (omega arith)
  go false true = ap at_left (omega arith)
  go false false = refl
past_on (i.Shifted kind count) s p next = ap at_left (omega arith)
past_on (i.Short test back d) s p next = ap at_left (omega arith)
past_on (i.Immediate which n) s p next = ap at_left (omega arith)
past_on (i.Control which n) s p next = ap at_left (omega arith)
past_on (i.Memory major second x ind mode) s p next = ap at_left (omega arith)
past_on (i.LoadCode back d) s p next = ap at_left (omega arith)
past_on (i.Branch ind back d) s p next = ap at_left (omega arith)
past_on (i.OnCode mask back d) s p next = ap at_left (omega arith)
past_on (i.Loop modify back d) s p next = ap at_left (omega arith)
past_on (i.Illegal w) s p next = ap at_left (omega arith)

-- how many words further on the next piece stands
abbrev pub FurtherOn : (ℕ → ℕ) → ℕ → ℕ → Spot → Piece → Type 0
FurtherOn marks s s' p (Branch by l) = s + branch_size by (p.offset + s) (marks l) ≡ 1 + s'
FurtherOn marks s s' p x = s' ≡ s

pub after_on : (x : Piece) (marks : ℕ → ℕ) (s s' : ℕ) (p : Spot) (next : Op) → FurtherOn marks s s' p x → after marks (on_by s p) x next ≡ on_by s' (moved 1 p x next)
after_on (Do by) marks s s' p next e = rw e (past_on by s p next)
after_on (Literal w) marks s s' p next e = ap at_left (omega arith)
after_on (Place l) marks s s' p next e = ap at_left (omega arith)
after_on (Branch by l) marks s s' p next e = ap at_left (omega arith)
after_on (Mark l) marks s s' p next e = rw e refl
after_on (Call by wanted index) marks s s' p next e = ap at_left (omega arith)
after_on (Begin at) marks s s' p next e = rw e refl

-- the branch at the front of a walk
pub turn_here : (stands : List Stand) (ts : List Turn) (p : Spot) (k : ℕ) (by : Instr) (l : ℕ) (ps : List Piece) → Here stands ts p k (Branch by l ∷ ps) → get_or ts k no_turn ≡ record { place = p.offset; mark = l; by = by }
turn_here stands ts p k by l ps h = ap (λ j. get_or ts j no_turn) (sym (add-zero k)) ∙ sym (get_or-drop k ts 0 no_turn) ∙ ap (λ (xs : List Turn). get_or xs 0 no_turn) h.turns

pub turn_low : (stands : List Stand) (ts : List Turn) (p : Spot) (k : ℕ) (by : Instr) (l : ℕ) (ps : List Piece) → Here stands ts p k (Branch by l ∷ ps) → k < length ts
turn_low stands ts p k by l ps h = omega (arith, length-drop k ts, ap length h.turns)

-- at the end of a walk all branches are behind
pub all_behind : (stands : List Stand) (ts : List Turn) (p : Spot) (k : ℕ) → Here stands ts p k [] → k ≡ length ts
all_behind stands ts p k h = omega (arith, h.low, length-drop k ts, ap length h.turns)

-- a mark stands behind a branch and not after it, or ahead and not before it
abbrev pub Side : List Stand → ℕ → Turn → Type 0
Side stands k t = ((stand_at stands t.mark).place ≤ t.place) × ((stand_at stands t.mark).before ≤ k) ⊎ (t.place ≤ (stand_at stands t.mark).place) × (k < (stand_at stands t.mark).before)

-- where a branch stands, or further on
first_or_later : (k j : ℕ) → k ≤ j → (k ≡ j) ⊎ (k + 1 ≤ j)
first_or_later k j h = go (cases_lt k j) where
  go : (k < j) ⊎ (j ≤ k) → (k ≡ j) ⊎ (k + 1 ≤ j)
  go (inl g) = inr (omega arith)
  go (inr g) = inl (omega arith)

pub sides : (ps : List Piece) (stands : List Stand) (ts : List Turn) (p : Spot) (k : ℕ) → Here stands ts p k ps → (j : ℕ) → k ≤ j → j < length ts → Side stands j (get_or ts j no_turn)
sides [] stands ts p k h j low lt = absurd (omega (arith, all_behind stands ts p k h))
sides (x ∷ ps) stands ts p k h j low lt = go x h (λ g. sides ps stands ts (moved 1 p x (ahead ps)) (k + branches x) (here_next x stands ts p k ps h) j g lt) where
  at_branch : (by : Instr) (l : ℕ) → Here stands ts p k (Branch by l ∷ ps) → (0 < sets l ps) ⊎ (sets l ps ≤ 0) → Side stands k (record { place = p.offset; mark = l; by = by })
  at_branch by l h (inl g) = let ahead' = later ps stands (at_left (p.offset + 1)) (k + 1) l h.noted.1 g in inr (omega (arith, ahead'.0), omega (arith, ahead'.1))
  at_branch by l h (inr g) = let behind = h.behind l (omega arith) in inl (behind.0, behind.1)

  go : (x : Piece) → Here stands ts p k (x ∷ ps) → (k + branches x ≤ j → Side stands j (get_or ts j no_turn)) → Side stands j (get_or ts j no_turn)
  go (Do by) h rest = rest (omega arith)
  go (Literal w) h rest = rest (omega arith)
  go (Place l) h rest = rest (omega arith)
  go (Branch by l) h rest = here (first_or_later k j low) where
    here : (k ≡ j) ⊎ (k + 1 ≤ j) → Side stands j (get_or ts j no_turn)
    here (inl e) = rw (← e, turn_here stands ts p k by l ps h) (at_branch by l h (cases_lt 0 (sets l ps)))
    here (inr g) = rest g
  go (Mark l) h rest = rest (omega arith)
  go (Call by wanted index) h rest = rest (omega arith)
  go (Begin at) h rest = rest (omega arith)

-- each branch has the form that its distance asks for
abbrev pub Tied : (ℕ → ℕ) → List Turn → List Bool → ℕ → Type 0
Tied marks ts fs j = far fs j ≡ is_far (get_or ts j no_turn).by ((get_or ts j no_turn).place + shift ts fs j) (marks (get_or ts j no_turn).mark)

-- a branch that does not reach by the side of its mark does not reach by the distance, and the other way round
pub misses_is_far : (stands : List Stand) (ts : List Turn) (fs : List Bool) (k : ℕ) (t : Turn) → k ≤ length ts → (stand_at stands t.mark).before ≤ length ts → Side stands k t
    → misses stands (shifts_of 0 ts fs) k t ≡ is_far t.by (t.place + shift ts fs k) (target stands (shifts_of 0 ts fs) t.mark)
misses_is_far stands ts fs k t low w (inl s) =
    rw (le-leb (stand_at stands t.mark).before k s.1)
    (ap (λ n. nat_lt (reach t.by) n) (omega (arith, s.0, shifts_rise ts 0 fs (stand_at stands t.mark).before k s.1 low)))
misses_is_far stands ts fs k t low w (inr s) =
    rw (lt-leb (stand_at stands t.mark).before k s.1)
    (ap (λ n. nat_lt (reach t.by) n) (omega (arith, s.0, shifts_rise ts 0 fs k (stand_at stands t.mark).before (omega (arith, s.1)) w)))

-- behind a piece its branch's words come in
further : (x : Piece) (marks : ℕ → ℕ) (stands : List Stand) (ts : List Turn) (fs : List Bool) (p : Spot) (k : ℕ) (ps : List Piece) → Here stands ts p k (x ∷ ps) → (branches x ≡ 1 → Tied marks ts fs k) → FurtherOn marks (shift ts fs k) (shift ts fs (k + branches x)) p x
further (Do by) marks stands ts fs p k ps h tied = ap (shift ts fs) (add-zero k)
further (Literal w) marks stands ts fs p k ps h tied = ap (shift ts fs) (add-zero k)
further (Place l) marks stands ts fs p k ps h tied = ap (shift ts fs) (add-zero k)
further (Branch by l) marks stands ts fs p k ps h tied = go (is_far by (p.offset + shift ts fs k) (marks l)) (far fs k) here next where
  t : get_or ts k no_turn ≡ record { place = p.offset; mark = l; by = by }
  t = turn_here stands ts p k by l ps h

  here : far fs k ≡ is_far by (p.offset + shift ts fs k) (marks l)
  here = rw t at (tied refl)

  next : shift ts fs (k + 1) ≡ shift ts fs k + (if far fs k then more by else 0)
  next = ap (shift ts fs) (add-one k) ∙ shift_next ts 0 fs k (turn_low stands ts p k by l ps h) ∙ ap (λ (u : Turn). shift ts fs k + added u (far fs k)) t

  go : (b f : Bool) → f ≡ b → shift ts fs (k + 1) ≡ shift ts fs k + (if f then more by else 0) → shift ts fs k + (if b then 1 + more by else 1) ≡ 1 + shift ts fs (k + 1)
  go true true e n = omega arith
  go true false e n = absurd (false≢true e)
  go false true e n = absurd (false≢true (sym e))
  go false false e n = omega arith
further (Mark l) marks stands ts fs p k ps h tied = ap (shift ts fs) (add-zero k)
further (Call by wanted index) marks stands ts fs p k ps h tied = ap (shift ts fs) (add-zero k)
further (Begin at) marks stands ts fs p k ps h tied = ap (shift ts fs) (add-zero k)

-- where pieces end
pub walked : (ps : List Piece) (marks : ℕ → ℕ) (stands : List Stand) (ts : List Turn) (fs : List Bool) (p : Spot) (k : ℕ) → Here stands ts p k ps → ((j : ℕ) → j < length ts → Tied marks ts fs j)
    → end_of marks (on_by (shift ts fs k) p) ps ≡ on_by (shift ts fs (length ts)) (short_end p ps)
walked [] marks stands ts fs p k h tied = ap (λ j. on_by (shift ts fs j) p) (all_behind stands ts p k h)
walked (x ∷ ps) marks stands ts fs p k h tied =
    let next = here_next x stands ts p k ps h in
    ap (λ q. end_of marks q ps) (after_on x marks (shift ts fs k) (shift ts fs (k + branches x)) p (ahead ps) (further x marks stands ts fs p k ps h (λ one. tied k (omega (arith, next.low)))))
    ∙ walked ps marks stands ts fs (moved 1 p x (ahead ps)) (k + branches x) next tied

-- a mark that a piece sets stands where it is said to
mark_stands : (x : Piece) (marks : ℕ → ℕ) (stands : List Stand) (ts : List Turn) (fs : List Bool) (p : Spot) (k : ℕ) → StandIs stands p k x → ((l : ℕ) → marks l ≡ target stands (shifts_of 0 ts fs) l) → MarkStands marks (on_by (shift ts fs k) p) x
mark_stands (Do by) marks stands ts fs p k s m = tt
mark_stands (Literal w) marks stands ts fs p k s m = tt
mark_stands (Place l) marks stands ts fs p k s m = tt
mark_stands (Branch by l) marks stands ts fs p k s m = tt
mark_stands (Mark l) marks stands ts fs p k s m = m l ∙ ap (λ (st : Stand). st.place + shift ts fs st.before) s
mark_stands (Call by wanted index) marks stands ts fs p k s m = tt
mark_stands (Begin at) marks stands ts fs p k s m = tt

pub settled : (ps : List Piece) (marks : ℕ → ℕ) (stands : List Stand) (ts : List Turn) (fs : List Bool) (p : Spot) (k : ℕ) → Here stands ts p k ps → ((j : ℕ) → j < length ts → Tied marks ts fs j) → ((l : ℕ) → marks l ≡ target stands (shifts_of 0 ts fs) l)
    → Settled marks (on_by (shift ts fs k) p) ps
settled [] marks stands ts fs p k h tied m = tt
settled (x ∷ ps) marks stands ts fs p k h tied m =
    let next = here_next x stands ts p k ps h in
    let Q : Spot → Type 0 = λ q. Settled marks q ps in (
      mark_stands x marks stands ts fs p k h.noted.0 m,
      subst Q (sym (after_on x marks (shift ts fs k) (shift ts fs (k + branches x)) p (ahead ps) (further x marks stands ts fs p k ps h (λ one. tied k (omega (arith, next.low))))))
          (settled ps marks stands ts fs (moved 1 p x (ahead ps)) (k + branches x) next tied m),
    )

-- and where it is said to stand is its place
mark_is : (x : Piece) (marks : ℕ → ℕ) (stands : List Stand) (ts : List Turn) (fs : List Bool) (p : Spot) (k l : ℕ) → StandIs stands p k x → MarkStands marks (on_by (shift ts fs k) p) x → 0 < sets_once l x → marks l ≡ target stands (shifts_of 0 ts fs) l
mark_is (Do by) marks stands ts fs p k l s m g = absurd (omega arith)
mark_is (Literal w) marks stands ts fs p k l s m g = absurd (omega arith)
mark_is (Place n) marks stands ts fs p k l s m g = absurd (omega arith)
mark_is (Branch by n) marks stands ts fs p k l s m g = absurd (omega arith)
mark_is (Mark n) marks stands ts fs p k l s m g = found (cases_eq n l) where
  found : (n ≡ l) ⊎ (n ≡ l → ⊥) → marks l ≡ target stands (shifts_of 0 ts fs) l
  found (inl e) = rw (← e) (m ∙ sym (ap (λ (st : Stand). st.place + shift ts fs st.before) s))
  found (inr e) = absurd (omega (arith, rw (ne_eqb n l e) at g))
mark_is (Call by wanted index) marks stands ts fs p k l s m g = absurd (omega arith)
mark_is (Begin at) marks stands ts fs p k l s m g = absurd (omega arith)

-- the forms of pieces that begin at p, by the distances to their marks
abbrev pub piece_forms : (ℕ → ℕ) → Spot → Piece → List Bool
piece_forms marks p (Branch by l) = is_far by p.offset (marks l) ∷ []
piece_forms marks p x = []

abbrev pub forms : (ℕ → ℕ) → Spot → List Piece → List Bool
forms marks p [] = []
forms marks p (x ∷ ps) = piece_forms marks p x ++ forms marks (after marks p x (ahead ps)) ps

-- a walk with given marks, in the forms that they ask for
pub record Given (marks : ℕ → ℕ) (stands : List Stand) (ts : List Turn) (fs : List Bool) (k : ℕ) (ps : List Piece) : Type 0 where
  pub tied : (j : ℕ) → k ≤ j → j < length ts → Tied marks ts fs j
  pub at : (l : ℕ) → 0 < sets l ps → marks l ≡ target stands (shifts_of 0 ts fs) l

form_here : (marks : ℕ → ℕ) (fs rest : List Bool) (k : ℕ) (b : Bool) → drop k fs ≡ b ∷ rest → far fs k ≡ b
form_here marks fs rest k b h = ap (λ j. get_or fs j false) (sym (add-zero k)) ∙ sym (get_or-drop k fs 0 false) ∙ ap (λ (xs : List Bool). get_or xs 0 false) h

forms_left : (x : Piece) (marks : ℕ → ℕ) (fs rest : List Bool) (q : Spot) (k : ℕ) → drop k fs ≡ piece_forms marks q x ++ rest → drop (k + branches x) fs ≡ rest
forms_left (Do by) marks fs rest q k h = rw (add-zero k) h
forms_left (Literal w) marks fs rest q k h = rw (add-zero k) h
forms_left (Place m) marks fs rest q k h = rw (add-zero k) h
forms_left (Branch by m) marks fs rest q k h = sym (next_left fs k) ∙ ap (λ (xs : List Bool). drop 1 xs) h
forms_left (Mark m) marks fs rest q k h = rw (add-zero k) h
forms_left (Call by wanted index) marks fs rest q k h = rw (add-zero k) h
forms_left (Begin at) marks fs rest q k h = rw (add-zero k) h

-- a branch is tied where the walk comes to it
tied_here : (x : Piece) (marks : ℕ → ℕ) (stands : List Stand) (ts : List Turn) (fs rest : List Bool) (p : Spot) (k : ℕ) (ps : List Piece) → Here stands ts p k (x ∷ ps) → drop k fs ≡ piece_forms marks (on_by (shift ts fs k) p) x ++ rest → branches x ≡ 1 → Tied marks ts fs k
tied_here (Do by) marks stands ts fs rest p k ps h e one = absurd (omega arith)
tied_here (Literal w) marks stands ts fs rest p k ps h e one = absurd (omega arith)
tied_here (Place l) marks stands ts fs rest p k ps h e one = absurd (omega arith)
tied_here (Branch by l) marks stands ts fs rest p k ps h e one = rw (turn_here stands ts p k by l ps h) (form_here marks fs rest k (is_far by (p.offset + shift ts fs k) (marks l)) e)
tied_here (Mark l) marks stands ts fs rest p k ps h e one = absurd (omega arith)
tied_here (Call by wanted index) marks stands ts fs rest p k ps h e one = absurd (omega arith)
tied_here (Begin at) marks stands ts fs rest p k ps h e one = absurd (omega arith)

pub given : (ps : List Piece) (marks : ℕ → ℕ) (stands : List Stand) (ts : List Turn) (fs : List Bool) (p q : Spot) (k : ℕ) → Here stands ts p k ps → q ≡ on_by (shift ts fs k) p → drop k fs ≡ forms marks q ps → Settled marks q ps
    → Given marks stands ts fs k ps
given [] marks stands ts fs p q k h e d s = record {
  tied = λ j low lt. absurd (omega (arith, all_behind stands ts p k h));
  at = λ l g. absurd (omega arith);
}
given (x ∷ ps) marks stands ts fs p q k h e d s =
    along
    (given ps marks stands ts fs (moved 1 p x (ahead ps)) (after marks q x (ahead ps)) (k + branches x) (here_next x stands ts p k ps h)
    (ap (λ r. after marks r x (ahead ps)) e ∙ after_on x marks (shift ts fs k) (shift ts fs (k + branches x)) p (ahead ps) (further x marks stands ts fs p k ps h tied'))
    (forms_left x marks fs (forms marks (after marks q x (ahead ps)) ps) q k d) s.1) where
      here : drop k fs ≡ piece_forms marks (on_by (shift ts fs k) p) x ++ forms marks (after marks q x (ahead ps)) ps
      here = d ∙ ap (λ r. piece_forms marks r x ++ forms marks (after marks q x (ahead ps)) ps) e

      tied' : branches x ≡ 1 → Tied marks ts fs k
      tied' one = tied_here x marks stands ts fs (forms marks (after marks q x (ahead ps)) ps) p k ps h here one

      at_most_one : (x : Piece) → (branches x ≡ 0) ⊎ (branches x ≡ 1)
      at_most_one (Do by) = inl refl
      at_most_one (Literal w) = inl refl
      at_most_one (Place l) = inl refl
      at_most_one (Branch by l) = inr refl
      at_most_one (Mark l) = inl refl
      at_most_one (Call by wanted index) = inl refl
      at_most_one (Begin at) = inl refl

      stood : MarkStands marks (on_by (shift ts fs k) p) x
      stood = let Q : Spot → Type 0 = λ r. MarkStands marks r x in subst Q e s.0

      along : Given marks stands ts fs (k + branches x) ps → Given marks stands ts fs k (x ∷ ps)
      along rest = record {
        tied = λ j low lt. one_tied j low lt (at_most_one x) (first_or_later k j low);
        at = λ l g. one_at l g (cases_lt 0 (sets l ps));
      } where
        one_tied : (j : ℕ) → k ≤ j → j < length ts → (branches x ≡ 0) ⊎ (branches x ≡ 1) → (k ≡ j) ⊎ (k + 1 ≤ j) → Tied marks ts fs j
        one_tied j low lt (inl none) w = rest.tied j (omega arith) lt
        one_tied j low lt (inr one) (inl e) = let Q : ℕ → Type 0 = λ i. Tied marks ts fs i in subst Q e (tied' one)
        one_tied j low lt (inr one) (inr g) = rest.tied j (omega arith) lt

        one_at : (l : ℕ) → 0 < sets l (x ∷ ps) → (0 < sets l ps) ⊎ (sets l ps ≤ 0) → marks l ≡ target stands (shifts_of 0 ts fs) l
        one_at l g (inl f) = rest.at l f
        one_at l g (inr f) = mark_is x marks stands ts fs p k l h.noted.0 stood (omega arith)
