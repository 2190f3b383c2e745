-- Keys in a list: how often each occurs, and which element a key finds, after each change of the list.
use Rattle.std.proofs.Common.{◌≡◌, ◌≢◌, ℕ, zero, suc, ◌+◌, ◌<◌, ◌≤◌, Bool, true, false, List, [], ◌∷◌, ◌++◌, length, None, Some, refl, sym, ap, ◌∙◌, arith, zero-add, inl, inr}
use Rattle.std.specs.Prelude.{◌==◌, ◌⊎◌, nat_lt, not, filter, if◌then◌else◌}
use Rattle.std.proofs.lemmas.Bool.{eqb-true, eq-eqb, cases_eq}
use Rattle.std.proofs.lemmas.Bool.Decides.{nat_tests}
use Rattle.mpe_regions.specs.declared.region.Region.{Region}
use Rattle.mpe_regions.specs.Area.{times, times_placed, region_of}
use Rattle.mpe_regions.specs.Loads.{placed, without}

-- the region of a key at a place, of a size in words
abbrev pub loaded_at : ℕ → ℕ → ℕ → Region
loaded_at key at size = record { key = key; place = at; size = size }

-- Counts.

-- the elements of other keys
abbrev pub others : {X : Type 0} → (X → ℕ) → ℕ → List X → List X
others f key xs = filter (λ x. not (f x == key)) xs

append_step : (b : Bool) (m n k : ℕ) → m ≡ n + k → (if b then 1 + m else m) ≡ (if b then 1 + n else n) + k
append_step true m n k h = omega arith
append_step false m n k h = h

-- a key occurs in a joined list as often as in both parts
pub times-append : {X : Type 0} (f : X → ℕ) (key : ℕ) (xs ys : List X)
    → times f key (xs ++ ys) ≡ times f key xs + times f key ys
times-append f key [] ys = sym (zero-add (times f key ys))
times-append f key (x ∷ xs) ys = append_step (f x == key) _ _ _ (times-append f key xs ys)

same_step : {X : Type 0} (f : X → ℕ) (key : ℕ) (x : X) (xs : List X) → times f key xs ≡ 0
    → times f key (if not (f x == key) then x ∷ xs else xs) ≡ 0
same_step f key x xs h = by (f x == key) refl where
  by : (b : Bool) → (f x == key) ≡ b → times f key (if not b then x ∷ xs else xs) ≡ 0
  by true e = h
  by false e = rw e h

-- a key is not among the elements of other keys
pub times-others_same : {X : Type 0} (f : X → ℕ) (key : ℕ) (xs : List X) → times f key (others f key xs) ≡ 0
times-others_same f key [] = refl
times-others_same f key (x ∷ xs) = same_step f key x (others f key xs) (times-others_same f key xs)

other_step : {X : Type 0} (f : X → ℕ) (k key : ℕ) (x : X) (xs ys : List X) → k ≢ key → times f k xs ≡ times f k ys
    → times f k (if not (f x == key) then x ∷ xs else xs) ≡ times f k (x ∷ ys)
other_step f k key x xs ys ne h = by (f x == key) refl where
  by : (b : Bool) → (f x == key) ≡ b → times f k (if not b then x ∷ xs else xs) ≡ times f k (x ∷ ys)
  by true e = let apart : (f x == k) ≡ false = grind (arith, nat_tests) in rw apart h
  by false e = ap (λ n. if f x == k then 1 + n else n) h

-- and another key is among them as often as before
pub times-others_other : {X : Type 0} (f : X → ℕ) (k key : ℕ) (xs : List X) → k ≢ key
    → times f k (others f key xs) ≡ times f k xs
times-others_other f k key [] ne = refl
times-others_other f k key (x ∷ xs) ne = other_step f k key x (others f key xs) xs ne (times-others_other f k key xs ne)

length_step : {X : Type 0} (b : Bool) (x : X) (xs ys : List X) (n : ℕ) → length xs + n ≡ length ys
    → length (if not b then x ∷ xs else xs) + (if b then 1 + n else n) ≡ length (x ∷ ys)
length_step true x xs ys n h = omega arith
length_step false x xs ys n h = omega arith

-- as many elements are left out as have the key
pub length-others : {X : Type 0} (f : X → ℕ) (key : ℕ) (xs : List X)
    → length (others f key xs) + times f key xs ≡ length xs
length-others f key [] = refl
length-others f key (x ∷ xs) = length_step (f x == key) x (others f key xs) xs (times f key xs) (length-others f key xs)

absent_step : {X : Type 0} (f : X → ℕ) (key : ℕ) (x : X) (xs ys : List X) → times f key (x ∷ xs) ≡ 0
    → (times f key xs ≡ 0 → ys ≡ xs)
    → (if not (f x == key) then x ∷ ys else ys) ≡ x ∷ xs
absent_step f key x xs ys h same = by (f x == key) h where
  by : (b : Bool) → (if b then 1 + times f key xs else times f key xs) ≡ 0 → (if not b then x ∷ ys else ys) ≡ x ∷ xs
  by true none = absurd (omega arith)
  by false none = ap (λ zs. x ∷ zs) (same none)

-- where no element has the key all are left
pub others-absent : {X : Type 0} (f : X → ℕ) (key : ℕ) (xs : List X) → times f key xs ≡ 0 → others f key xs ≡ xs
others-absent f key [] none = refl
others-absent f key (x ∷ xs) none = absent_step f key x xs (others f key xs) none (others-absent f key xs)

-- The list of regions.

times_step : (b : Bool) (k : ℕ) (x r : Region) (xs ys : List Region) → times_placed k ys ≡ times_placed k (x ∷ xs)
    → times_placed k (if b then x ∷ r ∷ xs else r ∷ ys) ≡ times_placed k (x ∷ r ∷ xs)
times_step true k x r xs ys h = refl
times_step false k x r xs ys h = ap (λ n. if r.key == k then 1 + n else n) h ∙ turn (r.key == k) (x.key == k) where
  turn : (a b : Bool) → (if a then 1 + (if b then 1 + times_placed k xs else times_placed k xs) else (if b then 1 + times_placed k xs else times_placed k xs))
      ≡ (if b then 1 + (if a then 1 + times_placed k xs else times_placed k xs) else (if a then 1 + times_placed k xs else times_placed k xs))
  turn true true = refl
  turn true false = refl
  turn false true = refl
  turn false false = refl

-- a region that is put in is there once more
pub times-placed : (k : ℕ) (x : Region) (list : List Region)
    → times_placed k (placed x list) ≡ times_placed k (x ∷ list)
times-placed k x [] = refl
times-placed k x (r ∷ rs) = times_step (nat_lt x.place r.place) k x r rs (placed x rs) (times-placed k x rs)

longer_step : (b : Bool) (x r : Region) (xs ys : List Region) → length ys ≡ length xs + 1
    → length (if b then x ∷ r ∷ xs else r ∷ ys) ≡ length (r ∷ xs) + 1
longer_step true x r xs ys h = omega arith
longer_step false x r xs ys h = omega arith

-- and the list is longer by one
pub length-placed : (x : Region) (list : List Region) → length (placed x list) ≡ length list + 1
length-placed x [] = refl
length-placed x (r ∷ rs) = longer_step (nat_lt x.place r.place) x r rs (placed x rs) (length-placed x rs)

-- a key that no region has counts none, and the other way round
pub times-absent : (key : ℕ) (list : List Region) → region_of key list ≡ None → times_placed key list ≡ 0
times-absent key [] none = refl
times-absent key (r ∷ rs) none = by (r.key == key) none (times-absent key rs) where
  by : (b : Bool) → (if b then Some r else region_of key rs) ≡ None
      → (region_of key rs ≡ None → times_placed key rs ≡ 0)
      → (if b then 1 + times_placed key rs else times_placed key rs) ≡ 0
  by true h rest = cc
  by false h rest = rest h

pub absent-times : (key : ℕ) (list : List Region) → times_placed key list ≡ 0 → region_of key list ≡ None
absent-times key [] none = refl
absent-times key (r ∷ rs) none = by (r.key == key) none (absent-times key rs) where
  by : (b : Bool) → (if b then 1 + times_placed key rs else times_placed key rs) ≡ 0
      → (times_placed key rs ≡ 0 → region_of key rs ≡ None)
      → (if b then Some r else region_of key rs) ≡ None
  by true h rest = absurd (omega arith)
  by false h rest = rest h

-- a key that is found counts
pub times-live : (key : ℕ) (list : List Region) (r : Region) → region_of key list ≡ Some r → 0 < times_placed key list
times-live key [] x found = cc
times-live key (r ∷ rs) x found = by (r.key == key) found (times-live key rs x) where
  by : (b : Bool) → (if b then Some r else region_of key rs) ≡ Some x
      → (region_of key rs ≡ Some x → 0 < times_placed key rs)
      → 0 < (if b then 1 + times_placed key rs else times_placed key rs)
  by true h rest = omega arith
  by false h rest = rest h

-- what is found has the key
pub find-key : (key : ℕ) (list : List Region) (r : Region) → region_of key list ≡ Some r → r.key ≡ key
find-key key [] x found = cc
find-key key (r ∷ rs) x found = by (r.key == key) refl found (find-key key rs x) where
  by : (b : Bool) → (r.key == key) ≡ b → (if b then Some r else region_of key rs) ≡ Some x
      → (region_of key rs ≡ Some x → x.key ≡ key) → x.key ≡ key
  by true e h rest = let same : r ≡ x = cc in let is : r.key ≡ key = eqb-true r.key key e in rw (← same) is
  by false e h rest = rest h

-- a key that was dropped finds nothing
pub find-without_same : (key : ℕ) (list : List Region) → region_of key (without key list) ≡ None
find-without_same key list = absent-times key (without key list) (times-others_same (λ r. r.key) key list)

find_step : (k key : ℕ) (r : Region) (xs ys : List Region) → k ≢ key → region_of k xs ≡ region_of k ys
    → region_of k (if not (r.key == key) then r ∷ xs else xs) ≡ region_of k (r ∷ ys)
find_step k key r xs ys ne h = by (r.key == key) refl where
  by : (b : Bool) → (r.key == key) ≡ b → region_of k (if not b then r ∷ xs else xs) ≡ region_of k (r ∷ ys)
  by true e = let apart : (r.key == k) ≡ false = grind (arith, nat_tests) in rw apart h
  by false e = ap (λ o. if r.key == k then Some r else o) h

-- and each other key finds what it found
pub find-without_other : (k key : ℕ) (list : List Region) → k ≢ key → region_of k (without key list) ≡ region_of k list
find-without_other k key [] ne = refl
find-without_other k key (r ∷ rs) ne = find_step k key r (without key rs) rs ne (find-without_other k key rs ne)

other_place : (k : ℕ) (b : Bool) (x r : Region) (xs ys : List Region) → (x.key == k) ≡ false
    → region_of k ys ≡ region_of k xs
    → region_of k (if b then x ∷ r ∷ xs else r ∷ ys) ≡ region_of k (r ∷ xs)
other_place k true x r xs ys ne h = rw ne refl
other_place k false x r xs ys ne h = ap (λ o. if r.key == k then Some r else o) h

-- where a region is put in, each other key finds what it found
pub find-placed_other : (k : ℕ) (x : Region) (list : List Region) → x.key ≢ k
    → region_of k (placed x list) ≡ region_of k list
find-placed_other k x [] ne = let no : (x.key == k) ≡ false = grind (arith, nat_tests) in rw no refl
find-placed_other k x (r ∷ rs) ne =
    let no : (x.key == k) ≡ false = grind (arith, nat_tests) in
    other_place k (nat_lt x.place r.place) x r rs (placed x rs) no (find-placed_other k x rs ne)

same_place : (b : Bool) (x r : Region) (xs ys : List Region) → region_of x.key (r ∷ xs) ≡ None
    → (region_of x.key xs ≡ None → region_of x.key ys ≡ Some x)
    → region_of x.key (if b then x ∷ r ∷ xs else r ∷ ys) ≡ Some x
same_place true x r xs ys none h = let is : (x.key == x.key) ≡ true = grind (arith, nat_tests) in rw is refl
same_place false x r xs ys none h = by (r.key == x.key) none where
  by : (c : Bool) → (if c then Some r else region_of x.key xs) ≡ None
      → (if c then Some r else region_of x.key ys) ≡ Some x
  by true e = cc
  by false e = h e

-- and its own key finds it, if it is new
pub find-placed_same : (x : Region) (list : List Region) → region_of x.key list ≡ None
    → region_of x.key (placed x list) ≡ Some x
find-placed_same x [] none = let is : (x.key == x.key) ≡ true = grind (arith, nat_tests) in rw is refl
find-placed_same x (r ∷ rs) none = same_place (nat_lt x.place r.place) x r rs (placed x rs) none (find-placed_same x rs)

-- How many keys there can be.

none_left : {X : Type 0} (f : X → ℕ) (xs : List X) → ((k : ℕ) → times f k xs ≡ 0) → length xs ≤ 0
none_left f [] none = omega arith
none_left f (x ∷ xs) none =
    let is : (f x == f x) ≡ true = eq-eqb (f x) (f x) refl in
    let some : 1 + times f (f x) xs ≡ 0 = rw is at (none (f x)) in
    absurd (omega arith)

-- where each key is below n and occurs at most once there are at most n elements: without the greatest key there are at
-- most n - 1
pub length-below : {X : Type 0} (f : X → ℕ) (n : ℕ) (xs : List X) → ((k : ℕ) → times f k xs ≤ 1)
    → ((k : ℕ) → n ≤ k → times f k xs ≡ 0) → length xs ≤ n
length-below f zero xs once below = none_left f xs (λ k. below k (omega arith))
length-below f (suc n) xs once below =
    let rest = length-below f n (others f n xs) (λ k. still_once k (cases_eq k n)) (λ k le. still_below k le (cases_eq k n)) in
    omega (arith, length-others f n xs, once n)
  where
    still_once : (k : ℕ) → (k ≡ n) ⊎ (k ≢ n) → times f k (others f n xs) ≤ 1
    still_once k (inl e) = rw (e, times-others_same f n xs) (omega arith)
    still_once k (inr ne) = rw (times-others_other f k n xs ne) (once k)

    still_below : (k : ℕ) → n ≤ k → (k ≡ n) ⊎ (k ≢ n) → times f k (others f n xs) ≡ 0
    still_below k le (inl e) = rw e (times-others_same f n xs)
    still_below k le (inr ne) = times-others_other f k n xs ne ∙ below k (omega arith)
