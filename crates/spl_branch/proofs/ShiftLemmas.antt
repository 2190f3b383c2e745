-- The words that long forms add before each branch: where more branches are long, no distance is smaller. So a branch that
-- became long in some round does not reach in the last one either, and the last round's forms are the fewest that do.
use Rattle.std.proofs.Common.{◌≡◌, ℕ, zero, suc, ◌+◌, ◌-◌, ◌<◌, ◌≤◌, ◌||◌, Bool, true, false, nat_le, nat_lt, ◌⊎◌, inl, inr, if◌then◌else◌, List, [], ◌∷◌, length, get_or, drop, replicate, refl, sym, ap, ◌∙◌, arith, add-zero, zero-add}
use Rattle.std.proofs.lemmas.List.{get_or_past}
use Rattle.std.proofs.lemmas.Bool.{cases_lt, ltb-true, leb-true, leb-false, lt-ltb, false≢true}
use Rattle.spl_branch.specs.declared.survey.Turn.{Turn}
use Rattle.spl_branch.specs.declared.survey.Stand.{Stand}
use Rattle.spl_branch.specs.Branches.{reach}
use Rattle.spl_branch.specs.Rounds.{added, shifts_of, stand_at, target, misses, longer_from, rounds, IsWithin}
use Rattle.spl_branch.proofs.RoundLemmas.{no_turn, length-rounds}

-- the words added before branch k
abbrev pub shift : List Turn → List Bool → ℕ → ℕ
shift ts fs k = get_or (shifts_of 0 ts fs) k 0

-- whether branch k is long
abbrev pub far : List Bool → ℕ → Bool
far fs k = get_or fs k false

-- each branch that is long in one choice is long in the other
abbrev pub Fewer : List Bool → List Bool → Type 0
Fewer fs gs = (k : ℕ) → far fs k ≡ true → far gs k ≡ true

far_next : (fs : List Bool) (k : ℕ) → far (drop 1 fs) k ≡ far fs (suc k)
far_next [] k = refl
far_next (f ∷ fs) k = refl

fewer_next : (fs gs : List Bool) → Fewer fs gs → Fewer (drop 1 fs) (drop 1 gs)
fewer_next fs gs h k e = far_next gs k ∙ h (suc k) (sym (far_next fs k) ∙ e)

added_fewer : (t : Turn) (f g : Bool) → (f ≡ true → g ≡ true) → added t f ≤ added t g
added_fewer t false g h = omega arith
added_fewer t true g h = rw (h refl) (omega arith)

-- from the start on
pub grown : (ts : List Turn) (s r : ℕ) (fs gs : List Bool) (b : ℕ) → Fewer fs gs → b ≤ length ts → get_or (shifts_of s ts fs) b 0 + r ≤ get_or (shifts_of r ts gs) b 0 + s
grown [] s r fs gs zero h l = omega arith
grown [] s r fs gs (suc b) h l = absurd (omega arith)
grown (t ∷ ts) s r fs gs zero h l = omega arith
grown (t ∷ ts) s r fs gs (suc b) h l =
    omega (arith, grown ts (s + added t (far fs 0)) (r + added t (far gs 0)) (drop 1 fs) (drop 1 gs) b (fewer_next fs gs h) (omega arith), added_fewer t (far fs 0) (far gs 0) (h 0))

pub first_is : (ts : List Turn) (s : ℕ) (fs : List Bool) → get_or (shifts_of s ts fs) 0 0 ≡ s
first_is [] s fs = refl
first_is (t ∷ ts) s fs = refl

-- between two branches
pub grows : (ts : List Turn) (s r : ℕ) (fs gs : List Bool) (a b : ℕ) → Fewer fs gs → a ≤ b → b ≤ length ts
    → get_or (shifts_of s ts fs) b 0 + get_or (shifts_of r ts gs) a 0 ≤ get_or (shifts_of r ts gs) b 0 + get_or (shifts_of s ts fs) a 0
grows ts s r fs gs zero b h l m = omega (arith, first_is ts s fs, first_is ts r gs, grown ts s r fs gs b h m)
grows ts s r fs gs (suc a) zero h l m = absurd (omega arith)
grows [] s r fs gs (suc a) (suc b) h l m = absurd (omega arith)
grows (t ∷ ts) s r fs gs (suc a) (suc b) h l m = grows ts (s + added t (far fs 0)) (r + added t (far gs 0)) (drop 1 fs) (drop 1 gs) a b (fewer_next fs gs h) (omega arith) (omega arith)

-- a branch that does not reach does not reach where more are long
pub misses_more : (stands : List Stand) (ts : List Turn) (fs gs : List Bool) (k : ℕ) (t : Turn) → Fewer fs gs → k ≤ length ts → (stand_at stands t.mark).before ≤ length ts
    → misses stands (shifts_of 0 ts fs) k t ≡ true → misses stands (shifts_of 0 ts gs) k t ≡ true
misses_more stands ts fs gs k t h l w = go (nat_le (stand_at stands t.mark).before k) refl where
  go : (b : Bool) → nat_le (stand_at stands t.mark).before k ≡ b
      → (if b then nat_lt (reach t.by) (t.place + shift ts fs k - target stands (shifts_of 0 ts fs) t.mark) else nat_lt (reach t.by) (target stands (shifts_of 0 ts fs) t.mark - (t.place + shift ts fs k))) ≡ true
      → (if b then nat_lt (reach t.by) (t.place + shift ts gs k - target stands (shifts_of 0 ts gs) t.mark) else nat_lt (reach t.by) (target stands (shifts_of 0 ts gs) t.mark - (t.place + shift ts gs k))) ≡ true
  go true e m = lt-ltb _ _ (omega (arith, ltb-true _ _ m, grows ts 0 0 fs gs (stand_at stands t.mark).before k h (leb-true _ _ e) l))
  go false e m = lt-ltb _ _ (omega (arith, ltb-true _ _ m, grows ts 0 0 fs gs k (stand_at stands t.mark).before h (omega (arith, leb-false _ _ e)) w))

-- behind a branch its words come in
pub shift_next : (ts : List Turn) (s : ℕ) (fs : List Bool) (k : ℕ) → k < length ts → get_or (shifts_of s ts fs) (suc k) 0 ≡ get_or (shifts_of s ts fs) k 0 + added (get_or ts k no_turn) (far fs k)
shift_next [] s fs k h = absurd (omega arith)
shift_next (t ∷ ts) s fs zero h = first_is ts (s + added t (far fs 0)) (drop 1 fs)
shift_next (t ∷ ts) s fs (suc k) h = rw (← far_next fs k) (shift_next ts (s + added t (far fs 0)) (drop 1 fs) k (omega arith))

-- a round makes a branch long that was, or that does not reach
longer_at : (ts : List Turn) (stands : List Stand) (ss : List ℕ) (j : ℕ) (fs : List Bool) (k : ℕ) → k < length ts → far (longer_from stands ss j ts fs) k ≡ (far fs k || misses stands ss (j + k) (get_or ts k no_turn))
longer_at [] stands ss j fs k h = absurd (omega arith)
longer_at (t ∷ ts) stands ss j fs zero h = rw (add-zero j) refl
longer_at (t ∷ ts) stands ss j fs (suc k) h = longer_at ts stands ss (j + 1) (drop 1 fs) k (omega arith) ∙ rw (far_next fs k, along j k) refl where
  along : (j k : ℕ) → (j + 1) + k ≡ j + suc k
  along j k = omega arith

round_at : (stands : List Stand) (ts : List Turn) (m k : ℕ) → k < length ts → far (rounds stands ts (suc m)) k ≡ (far (rounds stands ts m) k || misses stands (shifts_of 0 ts (rounds stands ts m)) k (get_or ts k no_turn))
unfolding rounds
round_at stands ts m k h = longer_at ts stands (shifts_of 0 ts (rounds stands ts m)) 0 (rounds stands ts m) k h ∙ rw (zero-add k) refl

-- a long branch is one of the branches
far_within : (stands : List Stand) (ts : List Turn) (m k : ℕ) → far (rounds stands ts m) k ≡ true → k < length ts
far_within stands ts m k e = go (cases_lt k (length ts)) where
  go : (k < length ts) ⊎ (length ts ≤ k) → k < length ts
  go (inl h) = h
  go (inr h) = absurd (false≢true (sym (get_or_past (rounds stands ts m) k false (omega (arith, length-rounds stands ts m))) ∙ e))

-- what was long stays long
pub rounds_grow : (stands : List Stand) (ts : List Turn) (m : ℕ) → Fewer (rounds stands ts m) (rounds stands ts (suc m))
rounds_grow stands ts m k e = round_at stands ts m k (far_within stands ts m k e) ∙ rw e refl

either : (a b : Bool) → (a || b) ≡ true → (a ≡ true) ⊎ (b ≡ true)
either true b h = inl refl
either false b h = inr h

none_long : (n k : ℕ) → far (replicate n false) k ≡ false
none_long zero k = refl
none_long (suc n) zero = refl
none_long (suc n) (suc k) = none_long n k

none_long_rounds : (stands : List Stand) (ts : List Turn) (k : ℕ) → far (rounds stands ts zero) k ≡ false
unfolding rounds
none_long_rounds stands ts k = none_long (length ts) k

-- a long branch does not reach, now as when it became long
pub justified : (stands : List Stand) (ts : List Turn) (size : ℕ) → IsWithin stands size (length ts) → (m k : ℕ) → far (rounds stands ts m) k ≡ true → misses stands (shifts_of 0 ts (rounds stands ts m)) k (get_or ts k no_turn) ≡ true
justified stands ts size w zero k e = absurd (false≢true (sym (none_long_rounds stands ts k) ∙ e))
justified stands ts size w (suc m) k e = go (either _ _ (sym (round_at stands ts m k (far_within stands ts (suc m) k e)) ∙ e)) (justified stands ts size w m k) where
  go : (far (rounds stands ts m) k ≡ true) ⊎ (misses stands (shifts_of 0 ts (rounds stands ts m)) k (get_or ts k no_turn) ≡ true)
      → (far (rounds stands ts m) k ≡ true → misses stands (shifts_of 0 ts (rounds stands ts m)) k (get_or ts k no_turn) ≡ true)
      → misses stands (shifts_of 0 ts (rounds stands ts (suc m))) k (get_or ts k no_turn) ≡ true
  go (inl h) before = misses_more stands ts (rounds stands ts m) (rounds stands ts (suc m)) k (get_or ts k no_turn) (rounds_grow stands ts m) (omega (arith, far_within stands ts (suc m) k e)) (w (get_or ts k no_turn).mark).1 (before h)
  go (inr h) before = misses_more stands ts (rounds stands ts m) (rounds stands ts (suc m)) k (get_or ts k no_turn) (rounds_grow stands ts m) (omega (arith, far_within stands ts (suc m) k e)) (w (get_or ts k no_turn).mark).1 h

-- where a round changes nothing, a branch that does not reach is long
pub fixed : (stands : List Stand) (ts : List Turn) (m k : ℕ) → rounds stands ts (suc m) ≡ rounds stands ts m → k < length ts → misses stands (shifts_of 0 ts (rounds stands ts m)) k (get_or ts k no_turn) ≡ true → far (rounds stands ts m) k ≡ true
fixed stands ts m k same h e = ap (λ fs. far fs k) (sym same) ∙ round_at stands ts m k h ∙ rw e (or_true (far (rounds stands ts m) k)) where
  or_true : (b : Bool) → (b || true) ≡ true
  or_true true = refl
  or_true false = refl

-- so the forms of the last round are these
pub settled_forms : (stands : List Stand) (ts : List Turn) (size : ℕ) → IsWithin stands size (length ts) → (m k : ℕ) → rounds stands ts (suc m) ≡ rounds stands ts m → k < length ts
    → far (rounds stands ts m) k ≡ misses stands (shifts_of 0 ts (rounds stands ts m)) k (get_or ts k no_turn)
settled_forms stands ts size w m k same h = both_ways _ _ (justified stands ts size w m k) (fixed stands ts m k same h) where
  both_ways : (a b : Bool) → (a ≡ true → b ≡ true) → (b ≡ true → a ≡ true) → a ≡ b
  both_ways true b f g = sym (f refl)
  both_ways false true f g = g refl
  both_ways false false f g = refl

-- no choice of forms in which each branch that does not reach is long has fewer long ones
pub least : (stands : List Stand) (ts : List Turn) (size : ℕ) → IsWithin stands size (length ts) → (gs : List Bool) → ((k : ℕ) → k < length ts → misses stands (shifts_of 0 ts gs) k (get_or ts k no_turn) ≡ true → far gs k ≡ true)
    → (m : ℕ) → Fewer (rounds stands ts m) gs
least stands ts size w gs closed zero k e = absurd (false≢true (sym (none_long_rounds stands ts k) ∙ e))
least stands ts size w gs closed (suc m) k e = go (either _ _ (sym (round_at stands ts m k (far_within stands ts (suc m) k e)) ∙ e)) (least stands ts size w gs closed m) where
  go : (far (rounds stands ts m) k ≡ true) ⊎ (misses stands (shifts_of 0 ts (rounds stands ts m)) k (get_or ts k no_turn) ≡ true) → Fewer (rounds stands ts m) gs → far gs k ≡ true
  go (inl h) before = before k h
  go (inr h) before = closed k (far_within stands ts (suc m) k e) (misses_more stands ts (rounds stands ts m) gs k (get_or ts k no_turn) before (omega (arith, far_within stands ts (suc m) k e)) (w (get_or ts k no_turn).mark).1 h)
