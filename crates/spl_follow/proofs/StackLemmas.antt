-- Words on stacks: what stands beneath others, and behind them.
use Rattle.std.proofs.Common.{◌≡◌, ◌≢◌, ℕ, zero, suc, ◌+◌, ◌-◌, ◌≤◌, ◌<◌, List, [], ◌∷◌, ◌++◌, length, sym, ap, subst, ◌∙◌, arith}
use Rattle.std.specs.Prelude.{take, slice_index, slice_set}
use Rattle.std.proofs.lemmas.List.{append_assoc, length-append, length-take-le, length-set, get_or_append_left, get_or-take, get_or-set_same, get_or-set_other}
use Rattle.std.proofs.Math.Seq.{get_or-append_seam}
use Rattle.spl_follow.specs.Matching.{Stand}

-- ---- words in place of the top ones

-- how many words there are then
pub replaced_length : (xs ws : List ℕ) (n b : ℕ) → length xs ≡ b + n → length (take (length xs - n) xs ++ ws) ≡ b + length ws
replaced_length xs ws n b e =
    let i : length xs - n ≡ b = omega (arith, e) in
    let few : b ≤ length xs = omega (arith, e) in
    length-append (take (length xs - n) xs) ws
    ∙ ap (λ (k : ℕ). length (take k xs) + length ws) i ∙ ap (λ (k : ℕ). k + length ws) (length-take-le b xs few)

-- what stands beneath stays
pub beneath : (xs ws : List ℕ) (n b a : ℕ) → length xs ≡ b + n → a < b → slice_index (take (length xs - n) xs ++ ws) a ≡ slice_index xs a
beneath xs ws n b a e l =
    let i : length xs - n ≡ b = omega (arith, e) in
    let few : b ≤ length xs = omega (arith, e) in
    let long : a < length (take b xs) = subst (λ (k : ℕ). a < k) (sym (length-take-le b xs few)) l in
    ap (λ (k : ℕ). slice_index (take k xs ++ ws) a) i ∙ get_or_append_left (take b xs) ws 0 a long ∙ get_or-take b xs a 0 l

-- words stand behind those before them
stand_from : (ys ws : List ℕ) → Stand (ys ++ ws) (length ys) ws
stand_from ys [] = tt
stand_from ys (w ∷ ws) =
    let one : length ys + 1 ≡ suc (length ys) = omega arith in
    let long : length (ys ++ w ∷ []) ≡ suc (length ys) = length-append ys (w ∷ []) ∙ one in
    let later : Stand ((ys ++ w ∷ []) ++ ws) (suc (length ys)) ws =
    subst (λ (k : ℕ). Stand ((ys ++ w ∷ []) ++ ws) k ws) long (stand_from (ys ++ w ∷ []) ws) in
    (get_or-append_seam ys w ws 0, subst (λ (xs : List ℕ). Stand xs (suc (length ys)) ws) (append_assoc ys (w ∷ []) ws) later)

-- the new ones stand behind
pub stand_behind : (xs ws : List ℕ) (n b : ℕ) → length xs ≡ b + n → Stand (take (length xs - n) xs ++ ws) b ws
stand_behind xs ws n b e =
    let i : length xs - n ≡ b = omega (arith, e) in
    let few : b ≤ length xs = omega (arith, e) in
    subst (λ (k : ℕ). Stand (take k xs ++ ws) b ws) (sym i)
    (subst (λ (k : ℕ). Stand (take b xs ++ ws) k ws) (length-take-le b xs few) (stand_from (take b xs) ws))

-- ---- words that stand

-- words stand on where the stack has the same
pub stand_kept : (xs ys ws : List ℕ) (a b : ℕ) → a + length ws ≤ b
    → ((i : ℕ) → a ≤ i → i < b → slice_index ys i ≡ slice_index xs i) → Stand xs a ws → Stand ys a ws
stand_kept xs ys [] a b l same s = tt
stand_kept xs ys (w ∷ ws) a b l same s =
    let low : suc a + length ws ≤ b = omega (arith, l) in
    (same a (omega arith) (omega (arith, low)) ∙ s.0, stand_kept xs ys ws (suc a) b low (λ i c d. same i (omega (arith, c)) d) s.1)

-- words, and others behind them
pub stand_join : (xs vs ws : List ℕ) (a : ℕ) → Stand xs a vs → Stand xs (a + length vs) ws → Stand xs a (vs ++ ws)
stand_join xs [] ws a s t = let e : a + 0 ≡ a = omega arith in subst (λ (k : ℕ). Stand xs k ws) e t
stand_join xs (v ∷ vs) ws a s t =
    let e : a + suc (length vs) ≡ suc a + length vs = omega arith in
    (s.0, stand_join xs vs ws (suc a) s.1 (subst (λ (k : ℕ). Stand xs k ws) e t))

-- the first of them
pub stand_first : (xs vs ws : List ℕ) (a : ℕ) → Stand xs a (vs ++ ws) → Stand xs a vs
stand_first xs [] ws a s = tt
stand_first xs (v ∷ vs) ws a s = (s.0, stand_first xs vs ws (suc a) s.1)

-- and the others
pub stand_last : (xs vs ws : List ℕ) (a : ℕ) → Stand xs a (vs ++ ws) → Stand xs (a + length vs) ws
stand_last xs [] ws a s = let e : a ≡ a + 0 = omega arith in subst (λ (k : ℕ). Stand xs k ws) e s
stand_last xs (v ∷ vs) ws a s =
    let e : suc a + length vs ≡ a + suc (length vs) = omega arith in
    subst (λ (k : ℕ). Stand xs k ws) e (stand_last xs vs ws (suc a) s.1)

-- a word by its number
pub stand_at : (xs vs : List ℕ) (a i : ℕ) → i < length vs → Stand xs a vs → slice_index xs (a + i) ≡ slice_index vs i
stand_at xs [] a i l s = absurd (omega (arith, l))
stand_at xs (v ∷ vs) a zero l s = let e : a + 0 ≡ a = omega arith in ap (λ (k : ℕ). slice_index xs k) e ∙ s.0
stand_at xs (v ∷ vs) a (suc i) l s =
    let e : a + suc i ≡ suc a + i = omega arith in
    ap (λ (k : ℕ). slice_index xs k) e ∙ stand_at xs vs (suc a) i (omega (arith, l)) s.1

-- ---- stores

-- a word that is stored stands there, beneath the words that are deleted
pub stored_word : (xs : List ℕ) (n b a v : ℕ) → length xs ≡ b + n → a < b → slice_index (take (length xs - n) (slice_set xs a v)) a ≡ v
stored_word xs n b a v e l =
    let i : length xs - n ≡ b = omega (arith, e) in
    let low : a < length xs = omega (arith, e, l) in
    ap (λ (k : ℕ). slice_index (take k (slice_set xs a v)) a) i ∙ get_or-take b (slice_set xs a v) a 0 l ∙ get_or-set_same xs a v 0 low

-- and each other one is as it was
pub stored_other : (xs : List ℕ) (n b a v c : ℕ) → length xs ≡ b + n → c < b → c ≢ a
    → slice_index (take (length xs - n) (slice_set xs a v)) c ≡ slice_index xs c
stored_other xs n b a v c e l differs =
    let i : length xs - n ≡ b = omega (arith, e) in
    ap (λ (k : ℕ). slice_index (take k (slice_set xs a v)) c) i ∙ get_or-take b (slice_set xs a v) c 0 l
    ∙ get_or-set_other xs a c v 0 differs

-- so many words stay
pub stored_length : (xs : List ℕ) (n b a v : ℕ) → length xs ≡ b + n → length (take (length xs - n) (slice_set xs a v)) ≡ b
stored_length xs n b a v e =
    let i : length xs - n ≡ b = omega (arith, e) in
    let few : b ≤ length (slice_set xs a v) = subst (λ (k : ℕ). b ≤ k) (sym (length-set xs a v)) (omega (arith, e)) in
    ap (λ (k : ℕ). length (take k (slice_set xs a v))) i ∙ length-take-le b (slice_set xs a v) few
