-- The loops over branches, step by step.
use Rattle.std.proofs.Common.{◌≡◌, ℕ, zero, suc, ◌+◌, ◌<◌, ◌≤◌, ◌||◌, Bool, true, false, ◌⊎◌, inl, inr, if◌then◌else◌, List, [], ◌∷◌, ◌++◌, length, get_or, drop, refl, sym, ap, ◌∙◌, arith, add-one, add-zero, append_assoc, slice_index}
use Rattle.std.proofs.Math.Seq.{drop-cons}
use Rattle.std.proofs.lemmas.List.{drop_more, drop-drop, get_or-drop, length-replicate}
use Rattle.std.proofs.lemmas.Bool.{cases_lt}
use Rattle.spl_branch.specs.declared.survey.Turn.{Turn}
use Rattle.spl_branch.specs.declared.survey.Stand.{Stand}
use Rattle.spl_branch.specs.Branches.{more}
use Rattle.spl_branch.specs.Rounds.{added, shifts_of, stand_at, target, misses, longer_from, rounds, total, near, IsWithin}
use Rattle.hp_instr.specs.declared.instruction.Instr.{Instr}
use Rattle.hp_instr.specs.declared.instruction.Instr.TheVariants.{Pair}
use Rattle.hp_instr.specs.Instructions.{op}

-- what a read past the end of the branches would give
abbrev pub no_turn : Turn
no_turn = record { place = 0; mark = 0; by = Pair (op 0) (op 0) }

-- what is left from an index on has the element there at its front
pub front : {X : Type 0} (xs : List X) (i : ℕ) (x : X) → i < length xs → x ≡ get_or xs i x → drop i xs ≡ x ∷ drop (i + 1) xs
front xs i x lt is = drop-cons xs i x lt ∙ ap (λ y. y ∷ drop (suc i) xs) (sym is) ∙ rw add-one refl

-- the form of branch k is the first of those left
pub first_left : (fs : List Bool) (k : ℕ) → get_or (drop k fs) 0 false ≡ get_or fs k false
first_left fs k = get_or-drop k fs 0 false ∙ ap (λ i. get_or fs i false) (omega arith)

pub next_left : {X : Type 0} (xs : List X) (k : ℕ) → drop 1 (drop k xs) ≡ drop (k + 1) xs
next_left xs k = drop-drop 1 k xs

-- one branch more: what is read at k, at any default
pub shifts_more : (made : List ℕ) (s k : ℕ) (ts : List Turn) (fs : List Bool) (d : Turn) (s' : ℕ) → k < length ts → s' ≡ s + added (get_or ts k d) (get_or fs k false)
    → (made ++ s ∷ []) ++ shifts_of s' (drop (k + 1) ts) (drop (k + 1) fs) ≡ made ++ shifts_of s (drop k ts) (drop k fs)
shifts_more made s k ts fs d s' lt e =
    rw (drop_more ts k d lt, first_left fs k, next_left fs k, e)
    (append_assoc made (s ∷ []) (shifts_of (s + added (get_or ts k d) (get_or fs k false)) (drop (k + 1) ts) (drop (k + 1) fs)))

pub longer_more : (made : List Bool) (stands : List Stand) (ss : List ℕ) (k : ℕ) (ts : List Turn) (fs : List Bool) (d : Turn) (f : Bool) → k < length ts → f ≡ (get_or fs k false || misses stands ss k (get_or ts k d))
    → (made ++ f ∷ []) ++ longer_from stands ss (k + 1) (drop (k + 1) ts) (drop (k + 1) fs) ≡ made ++ longer_from stands ss k (drop k ts) (drop k fs)
longer_more made stands ss k ts fs d f lt e =
    rw (drop_more ts k d lt, first_left fs k, next_left fs k, ← e)
    (append_assoc made (f ∷ []) (longer_from stands ss (k + 1) (drop (k + 1) ts) (drop (k + 1) fs)))

-- either side of a choice
pub or_left : (a b f r : Bool) → r ≡ a → r ≡ true → f ≡ true → f ≡ (a || b)
or_left a b f r e h g = rw (sym e ∙ h) g

pub or_right : (a b f r : Bool) → r ≡ a → r ≡ false → f ≡ b → f ≡ (a || b)
or_right a b f r e h g = rw (sym e ∙ h) g

-- what a long form adds, and a short one
pub adds_more : (by : Instr) (a r : Bool) (s s' n : ℕ) → r ≡ a → r ≡ true → n ≡ more by → s' ≡ s + n → s' ≡ s + (if a then more by else 0)
adds_more by a r s s' n e h g i = rw (sym e ∙ h, ← g) i

pub adds_none : (by : Instr) (a r : Bool) (s s' : ℕ) → r ≡ a → r ≡ false → s' ≡ s → s' ≡ s + (if a then more by else 0)
adds_none by a r s s' e h i = rw (sym e ∙ h) (i ∙ sym (add-zero s))

-- the words added before a later branch are no fewer
pub shifts_low : (ts : List Turn) (s : ℕ) (fs : List Bool) (j : ℕ) → j ≤ length ts → s ≤ slice_index (shifts_of s ts fs) j
shifts_low [] s fs zero h = omega arith
shifts_low [] s fs (suc j) h = absurd (omega arith)
shifts_low (t ∷ ts) s fs zero h = omega arith
shifts_low (t ∷ ts) s fs (suc j) h = omega (arith, shifts_low ts (s + added t (get_or fs 0 false)) (drop 1 fs) j (omega arith))

pub shifts_rise : (ts : List Turn) (s : ℕ) (fs : List Bool) (i j : ℕ) → i ≤ j → j ≤ length ts → slice_index (shifts_of s ts fs) i ≤ slice_index (shifts_of s ts fs) j
shifts_rise ts s fs zero j l h = omega (arith, first_shift ts s fs, shifts_low ts s fs j h) where
  first_shift : (ts : List Turn) (s : ℕ) (fs : List Bool) → slice_index (shifts_of s ts fs) 0 ≡ s
  first_shift [] s fs = refl
  first_shift (t ∷ ts) s fs = refl
shifts_rise ts s fs (suc i) zero l h = absurd (omega arith)
shifts_rise [] s fs (suc i) (suc j) l h = absurd (omega arith)
shifts_rise (t ∷ ts) s fs (suc i) (suc j) l h = shifts_rise ts (s + added t (get_or fs 0 false)) (drop 1 fs) i j (omega arith) (omega arith)

-- a mark stands within all words
pub target_low : (stands : List Stand) (ts : List Turn) (fs : List Bool) (size : ℕ) → IsWithin stands size (length ts) → size + total ts fs ≤ 16383 → (l : ℕ) → target stands (shifts_of 0 ts fs) l ≤ 16383
target_low stands ts fs size w h l = omega (arith, (w l).0, shifts_rise ts 0 fs (stand_at stands l).before (length ts) (w l).1 (omega arith))

-- as many forms as branches
pub length-longer_from : (ts : List Turn) (stands : List Stand) (ss : List ℕ) (k : ℕ) (fs : List Bool) → length (longer_from stands ss k ts fs) ≡ length ts
length-longer_from [] stands ss k fs = refl
length-longer_from (t ∷ ts) stands ss k fs = ap suc (length-longer_from ts stands ss (k + 1) (drop 1 fs))

pub length-rounds : (stands : List Stand) (ts : List Turn) (m : ℕ) → length (rounds stands ts m) ≡ length ts
unfolding rounds
length-rounds stands ts zero = length-replicate (length ts) false
length-rounds stands ts (suc m) = length-longer_from ts stands (shifts_of 0 ts (rounds stands ts m)) 0 (rounds stands ts m)

-- a round leaves no more short forms, and fewer unless it changes nothing
pub near_longer : (ts : List Turn) (stands : List Stand) (ss : List ℕ) (k : ℕ) (fs : List Bool) → length fs ≡ length ts
    → (near (longer_from stands ss k ts fs) ≤ near fs) × (near fs ≤ near (longer_from stands ss k ts fs) → longer_from stands ss k ts fs ≡ fs)
near_longer [] stands ss k [] e = (omega arith, λ h. refl)
near_longer [] stands ss k (f ∷ fs) e = absurd (omega arith)
near_longer (t ∷ ts) stands ss k [] e = absurd (omega arith)
near_longer (t ∷ ts) stands ss k (true ∷ fs) e =
    let rest = near_longer ts stands ss (k + 1) fs (omega arith) in
    (omega (arith, rest.0), λ h. ap (λ gs. true ∷ gs) (rest.1 (omega arith)))
near_longer (t ∷ ts) stands ss k (false ∷ fs) e = near_one (misses stands ss k t) fs (longer_from stands ss (k + 1) ts fs) (near_longer ts stands ss (k + 1) fs (omega arith)) where
  near_one : (b : Bool) (fs gs : List Bool) → (near gs ≤ near fs) × (near fs ≤ near gs → gs ≡ fs) → (near (b ∷ gs) ≤ near (false ∷ fs)) × (near (false ∷ fs) ≤ near (b ∷ gs) → (b ∷ gs) ≡ (false ∷ fs))
  near_one true fs gs rest = (omega (arith, rest.0), λ h. absurd (omega (arith, rest.0)))
  near_one false fs gs rest = (omega (arith, rest.0), λ h. ap (λ xs. false ∷ xs) (rest.1 (omega arith)))

-- one round more
pub rounds_more : (stands : List Stand) (ts : List Turn) (m : ℕ) (fs gs : List Bool) (ss : List ℕ) → fs ≡ rounds stands ts m → ss ≡ shifts_of 0 ts fs → gs ≡ longer_from stands ss 0 ts fs → gs ≡ rounds stands ts (suc m)
unfolding rounds
rounds_more stands ts m fs gs ss e h g = g ∙ rw (h, e) refl

-- a round that changes something leaves fewer short forms
pub fewer_near : (stands : List Stand) (ts : List Turn) (m : ℕ) (fs gs : List Bool) (ss : List ℕ) → fs ≡ rounds stands ts m → gs ≡ longer_from stands ss 0 ts fs → (gs ≡ fs → ⊥) → near gs < near fs
fewer_near stands ts m fs gs ss e g other = go (cases_lt (near (longer_from stands ss 0 ts fs)) (near fs)) where
  go : (near (longer_from stands ss 0 ts fs) < near fs) ⊎ (near fs ≤ near (longer_from stands ss 0 ts fs)) → near gs < near fs
  go (inl h) = rw g h
  go (inr h) = absurd (other (g ∙ (near_longer ts stands ss 0 fs (ap length e ∙ length-rounds stands ts m)).1 h))
