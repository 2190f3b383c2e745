-- The code area: how large it is, which regions lie in it, and in which order their keys were used.
use Rattle.std.specs.Prelude.{◌≡◌, ℕ, ◌+◌, Bool, ◌==◌, List, [], ◌∷◌, Option, None, Some, is_some, slice_get, if◌then◌else◌}
use Rattle.mpe_regions.specs.declared.region.Region.{Region}

-- an area has its size in words, its regions in order of place, and their keys in order of use, the one used longest
-- ago first
pub record Area : Type 0 where
  pub size : ℕ
  pub list : List Region
  pub order : List ℕ

-- how often a key occurs in a list, f telling the key of an element
abbrev pub times : {X : Type 0} → (X → ℕ) → ℕ → List X → ℕ
times f key [] = 0
times f key (x ∷ xs) = if f x == key then 1 + times f key xs else times f key xs

-- how many regions have a key
abbrev pub times_placed : ℕ → List Region → ℕ
times_placed key list = times (λ r. r.key) key list

-- how often a key stands in an order of use
abbrev pub times_used : ℕ → List ℕ → ℕ
times_used key order = times (λ k. k) key order

-- the region of a key, if it is live
abbrev pub region_of : ℕ → List Region → Option Region
region_of key [] = None
region_of key (r ∷ rs) = if r.key == key then Some r else region_of key rs

-- a key is live where a region has it
abbrev pub is_live : ℕ → Area → Bool
is_live key a = is_some (region_of key a.list)

-- a key that no region has
abbrev pub IsAbsent : ℕ → Area → Type 0
IsAbsent key a = region_of key a.list ≡ None

-- the key that was used longest ago; none where nothing is live
abbrev pub oldest_of : Area → Option ℕ
oldest_of a = slice_get a.order 0
