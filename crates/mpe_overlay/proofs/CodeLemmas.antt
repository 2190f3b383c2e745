-- The words of regions: what is read in one, what a copy leaves of others, and that each region keeps the words of its
-- segment.
use Rattle.std.proofs.Common.{◌≡◌, ℕ, ◌+◌, ◌-◌, ◌≤◌, List, ◌++◌, length, take, drop, refl, sym, ap, ◌∙◌, arith, inl, inr, length-append, length-drop, length-take}
use Rattle.std.specs.Prelude.{◌⊎◌, slice_range}
use Rattle.std.proofs.Math.Seq.{drop-append-add}
use Rattle.std.proofs.lemmas.List.{append_assoc, take-append-le, take-take, drop-drop, drop_at, take_at}
use Rattle.std.proofs.lemmas.Slice.{between_is}
use Rattle.mpe_regions.specs.declared.region.Region.{Region}
use Rattle.mpe_regions.proofs.KeyLemmas.{loaded_at}
use Rattle.mpe_overlay.specs.Holds.{words_in}

-- What a copy leaves.

-- a copy of words to a place: what ends no higher than it is as before
below : (at i j : ℕ) (xs ws ys : List ℕ) → j ≤ at → at ≤ length xs
    → slice_range (take at xs ++ (ws ++ ys)) i j ≡ slice_range xs i j
below at i j xs ws ys le within =
    let long : length (take at xs) ≡ at = omega (arith, length-take at xs) in
    let same : take j (take at xs ++ (ws ++ ys)) ≡ take j xs = take-append-le j (take at xs) (ws ++ ys) (omega arith)
    ∙ take-take j at xs le in
    between_is (take at xs ++ (ws ++ ys)) i j ∙ ap (drop i) same ∙ sym (between_is xs i j)

-- what begins behind the words is as before
above : (at i j : ℕ) (xs ws : List ℕ) → at + length ws ≤ i → at + length ws ≤ length xs
    → slice_range (take at xs ++ (ws ++ drop (at + length ws) xs)) i j ≡ slice_range xs i j
above at i j xs ws le within =
    let front = take at xs ++ ws in
    let behind = drop (at + length ws) xs in
    let k = i - (at + length ws) in
    let whole : length (take at xs ++ ws) ≡ at + length ws = omega (arith, length-append (take at xs) ws, length-take at xs) in
    let here : i ≡ length (take at xs ++ ws) + k = omega (arith, whole) in
    let there : at + length ws + k ≡ i = omega arith in
    let rest : drop i (take at xs ++ (ws ++ behind)) ≡ drop i xs =
    ap (drop i) (sym (append_assoc (take at xs) ws behind)) ∙ ap (λ m. drop m (front ++ behind)) here
    ∙ drop-append-add front behind k
    ∙ drop-drop k (at + length ws) xs ∙ ap (λ m. drop m xs) there in
    ap (take (j - i)) rest

-- the words stand at the place
here : (at : ℕ) (xs ws ys : List ℕ) → at ≤ length xs → slice_range (take at xs ++ (ws ++ ys)) at (at + length ws) ≡ ws
here at xs ws ys within =
    let long : length (take at xs) ≡ at = omega (arith, length-take at xs) in
    let rest : drop at (take at xs ++ (ws ++ ys)) ≡ ws ++ ys = drop_at (take at xs) (ws ++ ys) at long in
    let count : at + length ws - at ≡ length ws = omega arith in
    ap (λ zs. take (at + length ws - at) zs) rest ∙ (rw count (take_at ws ys (length ws) refl))

-- the words of a region that the copy doesn't meet are as before
pub words-apart : (at : ℕ) (r : Region) (xs ws : List ℕ) → at + length ws ≤ length xs
    → (r.place + r.size ≤ at) ⊎ (at + length ws ≤ r.place)
    → words_in (take at xs ++ (ws ++ drop (at + length ws) xs)) r ≡ words_in xs r
words-apart at r xs ws within (inl low) = below at r.place (r.place + r.size) xs ws (drop (at + length ws) xs) low (omega arith)
words-apart at r xs ws within (inr high) = above at r.place (r.place + r.size) xs ws high within

-- and the region that it goes to has its words
pub words-here : (at key : ℕ) (xs ws : List ℕ) → at + length ws ≤ length xs
    → words_in (take at xs ++ (ws ++ drop (at + length ws) xs)) (loaded_at key at (length ws)) ≡ ws
words-here at key xs ws within = here at xs ws (drop (at + length ws) xs) (omega arith)

-- the area is as long as before
pub length-copied : (at : ℕ) (xs ws : List ℕ) → at + length ws ≤ length xs
    → length (take at xs ++ (ws ++ drop (at + length ws) xs)) ≡ length xs
length-copied at xs ws within =
    omega (arith, length-append (take at xs) (ws ++ drop (at + length ws) xs), length-append ws (drop (at + length ws) xs), length-take at xs, length-drop (at + length ws) xs)
