-- Places: regions stay inside and apart after each change, a hole that is found meets no region, and none is lower.
use Rattle.std.proofs.Common.{◌≡◌, ◌≢◌, ℕ, ◌+◌, ◌<◌, ◌≤◌, Bool, true, false, List, [], ◌∷◌, Option, None, Some, refl, sym, subst, arith, inl, inr, length, drop, get_or}
use Rattle.std.specs.Prelude.{◌⊎◌, ◌==◌, ◌&&◌, ◌||◌, nat_lt, nat_le, not, if◌then◌else◌}
use Rattle.std.proofs.lemmas.List.{drop_more}
use Rattle.std.proofs.lemmas.Bool.Decides.{nat_tests}
use Rattle.std.proofs.lemmas.Bool.{leb-true, leb-false, cases_lt, le-leb, lt-leb, le-ltb, lt-ltb}
use Rattle.mpe_regions.specs.declared.region.Region.{Region}
use Rattle.mpe_regions.specs.Area.{region_of}
use Rattle.mpe_regions.specs.Loads.{hole_from, placed, without}
use Rattle.mpe_regions.specs.Sound.{IsLaidOut, is_free}
use Rattle.mpe_regions.proofs.KeyLemmas.{loaded_at}

-- What lies from a place to an end.

-- the end is no lower than the place
pub laid-ends : (from end : ℕ) (list : List Region) → IsLaidOut from end list → from ≤ end
laid-ends from end [] laid = laid
laid-ends from end (r ∷ rs) laid = let rest = laid-ends (r.place + r.size) end rs laid.2 in omega arith

-- what lies above a place lies above each lower one
pub laid-lower : (low from end : ℕ) (list : List Region) → low ≤ from → IsLaidOut from end list → IsLaidOut low end list
laid-lower low from end [] le laid = omega arith
laid-lower low from end (r ∷ rs) le laid = (omega arith, laid.1, laid.2)

-- a region is left out
pub laid-without : (key from end : ℕ) (list : List Region) → IsLaidOut from end list
    → IsLaidOut from end (without key list)
laid-without key from end [] laid = laid
laid-without key from end (r ∷ rs) laid = by (r.key == key) (laid-without key (r.place + r.size) end rs laid.2) where
  by : (b : Bool) → IsLaidOut (r.place + r.size) end (without key rs)
      → IsLaidOut from end (if not b then r ∷ without key rs else without key rs)
  by true rest = laid-lower from (r.place + r.size) end (without key rs) (omega arith) rest
  by false rest = (laid.0, laid.1, rest)

-- Holes.

-- a hole lies in what it was looked for in
pub hole-within : (end want from at : ℕ) (list : List Region) → IsLaidOut from end list
    → hole_from end want from list ≡ Some at
    → (from ≤ at) × (at + want ≤ end)
hole-within end want from at [] laid found = by (nat_le (from + want) end) refl found where
  by : (b : Bool) → nat_le (from + want) end ≡ b → (if b then Some from else None) ≡ Some at
      → (from ≤ at) × (at + want ≤ end)
  by true e h = let fits = leb-true (from + want) end e in let same : from ≡ at = cc in (omega arith, omega arith)
  by false e h = cc
hole-within end want from at (r ∷ rs) laid found =
    by (nat_le (from + want) r.place) refl found (hole-within end want (r.place + r.size) at rs laid.2) (laid-ends (r.place + r.size) end rs laid.2) where
      by : (b : Bool) → nat_le (from + want) r.place ≡ b
          → (if b then Some from else hole_from end want (r.place + r.size) rs) ≡ Some at
          → (hole_from end want (r.place + r.size) rs ≡ Some at → (r.place + r.size ≤ at) × (at + want ≤ end))
          → r.place + r.size ≤ end
          → (from ≤ at) × (at + want ≤ end)
      by true e h rest ends = let fits = leb-true (from + want) r.place e in let same : from ≡ at = cc in (omega arith, omega arith)
      by false e h rest ends = let later = rest h in (omega arith, later.1)

-- what is put into a hole lies inside and apart
pub laid-placed : (key end want from at : ℕ) (list : List Region) → 0 < want → IsLaidOut from end list
    → hole_from end want from list ≡ Some at
    → IsLaidOut from end (placed (loaded_at key at want) list)
laid-placed key end want from at [] some laid found = let inside = hole-within end want from at [] laid found in (inside.0, some, inside.1)
laid-placed key end want from at (r ∷ rs) some laid found =
    by (nat_le (from + want) r.place) refl found (laid-placed key end want (r.place + r.size) at rs some laid.2) (hole-within end want (r.place + r.size) at rs laid.2) where
      by : (b : Bool) → nat_le (from + want) r.place ≡ b
          → (if b then Some from else hole_from end want (r.place + r.size) rs) ≡ Some at
          → (hole_from end want (r.place + r.size) rs ≡ Some at
          → IsLaidOut (r.place + r.size) end (placed (loaded_at key at want) rs))
          → (hole_from end want (r.place + r.size) rs ≡ Some at → (r.place + r.size ≤ at) × (at + want ≤ end))
          → IsLaidOut from end (placed (loaded_at key at want) (r ∷ rs))
      by true e h rest inside =
          let fits = leb-true (from + want) r.place e in
          let same : from ≡ at = cc in
          let first : nat_lt at r.place ≡ true = lt-ltb at r.place (omega arith) in
          rw first (omega arith, some, (omega arith, laid.1, laid.2))
      by false e h rest inside =
          let later = inside h in
          let behind : nat_lt at r.place ≡ false = le-ltb at r.place (omega arith) in
          rw behind (laid.0, laid.1, rest h)

-- What a key finds.

-- a region that is found lies in what the list lies in, and is not empty
pub find-within : (key from end : ℕ) (list : List Region) (r : Region) → IsLaidOut from end list
    → region_of key list ≡ Some r
    → (from ≤ r.place) × (0 < r.size) × (r.place + r.size ≤ end)
find-within key from end [] x laid found = cc
find-within key from end (r ∷ rs) x laid found =
    by (r.key == key) found (find-within key (r.place + r.size) end rs x laid.2) (laid-ends (r.place + r.size) end rs laid.2) where
      by : (b : Bool) → (if b then Some r else region_of key rs) ≡ Some x
          → (region_of key rs ≡ Some x → (r.place + r.size ≤ x.place) × (0 < x.size) × (x.place + x.size ≤ end))
          → r.place + r.size ≤ end
          → (from ≤ x.place) × (0 < x.size) × (x.place + x.size ≤ end)
      by true h rest ends = let same : r ≡ x = cc in rw (← same) (laid.0, laid.1, ends)
      by false h rest ends = let later = rest h in (omega arith, later.1, later.2)

-- a hole that is found meets no region that is found
pub hole-apart : (key end want from at : ℕ) (list : List Region) (r : Region) → IsLaidOut from end list
    → hole_from end want from list ≡ Some at
    → region_of key list ≡ Some r → (r.place + r.size ≤ at) ⊎ (at + want ≤ r.place)
hole-apart key end want from at [] x laid hole found = cc
hole-apart key end want from at (r ∷ rs) x laid hole found =
    by (nat_le (from + want) r.place) (r.key == key) refl hole found (hole-apart key end want (r.place + r.size) at rs x laid.2)
    (hole-within end want (r.place + r.size) at rs laid.2) (find-within key (r.place + r.size) end rs x laid.2) where
      by : (b c : Bool) → nat_le (from + want) r.place ≡ b
          → (if b then Some from else hole_from end want (r.place + r.size) rs) ≡ Some at
          → (if c then Some r else region_of key rs) ≡ Some x
          → (hole_from end want (r.place + r.size) rs ≡ Some at → region_of key rs ≡ Some x
          → (x.place + x.size ≤ at) ⊎ (at + want ≤ x.place))
          → (hole_from end want (r.place + r.size) rs ≡ Some at → (r.place + r.size ≤ at) × (at + want ≤ end))
          → (region_of key rs ≡ Some x → (r.place + r.size ≤ x.place) × (0 < x.size) × (x.place + x.size ≤ end))
          → (x.place + x.size ≤ at) ⊎ (at + want ≤ x.place)
      by true true e h f rest inside within = let fits = leb-true (from + want) r.place e in let same : from ≡ at = cc in let one : r ≡ x = cc in rw (← one) (inr (omega arith))
      by true false e h f rest inside within = let fits = leb-true (from + want) r.place e in let same : from ≡ at = cc in let later = within f in inr (omega arith)
      by false true e h f rest inside within = let later = inside h in let one : r ≡ x = cc in rw (← one) (inl later.0)
      by false false e h f rest inside within = rest h f

-- two keys find regions apart
pub find-apart : (j k from end : ℕ) (list : List Region) (r s : Region) → j ≢ k → IsLaidOut from end list
    → region_of j list ≡ Some r → region_of k list ≡ Some s
    → (r.place + r.size ≤ s.place) ⊎ (s.place + s.size ≤ r.place)
find-apart j k from end [] r s ne laid one other = cc
find-apart j k from end (x ∷ xs) r s ne laid one other =
    by (x.key == j) (x.key == k) refl refl one other (find-apart j k (x.place + x.size) end xs r s ne laid.2)
    (find-within j (x.place + x.size) end xs r laid.2) (find-within k (x.place + x.size) end xs s laid.2) where
      by : (b c : Bool) → (x.key == j) ≡ b → (x.key == k) ≡ c → (if b then Some x else region_of j xs) ≡ Some r
          → (if c then Some x else region_of k xs) ≡ Some s
          → (region_of j xs ≡ Some r → region_of k xs ≡ Some s
          → (r.place + r.size ≤ s.place) ⊎ (s.place + s.size ≤ r.place))
          → (region_of j xs ≡ Some r → (x.place + x.size ≤ r.place) × (0 < r.size) × (r.place + r.size ≤ end))
          → (region_of k xs ≡ Some s → (x.place + x.size ≤ s.place) × (0 < s.size) × (s.place + s.size ≤ end))
          → (r.place + r.size ≤ s.place) ⊎ (s.place + s.size ≤ r.place)
      by true true e f g h rest left right = absurd (ne (grind (arith, nat_tests)))
      by true false e f g h rest left right = let same : x ≡ r = cc in rw (← same) (inl (right h).0)
      by false true e f g h rest left right = let same : x ≡ s = cc in rw (← same) (inr (left g).0)
      by false false e f g h rest left right = rest g h

-- The lowest hole.

-- words below a place meet no region above it
free-below : (want at from end : ℕ) (list : List Region) → IsLaidOut from end list → at + want ≤ from
    → is_free want at list ≡ true
free-below want at from end [] laid le = refl
free-below want at from end (r ∷ rs) laid le =
    let clear : nat_le (at + want) r.place ≡ true = le-leb (at + want) r.place (omega arith) in
    let rest : is_free want at rs ≡ true = free-below want at (r.place + r.size) end rs laid.2 (omega arith) in
    rw (clear, rest) (by (nat_le (r.place + r.size) at)) where
      by : (b : Bool) → ((b || true) && true) ≡ true
      by true = refl
      by false = refl

-- a hole that is found meets no region at all
pub hole-free : (end want from at : ℕ) (list : List Region) → IsLaidOut from end list
    → hole_from end want from list ≡ Some at → is_free want at list ≡ true
hole-free end want from at [] laid found = refl
hole-free end want from at (r ∷ rs) laid found =
    by (nat_le (from + want) r.place) refl found (hole-free end want (r.place + r.size) at rs laid.2) (hole-within end want (r.place + r.size) at rs laid.2)
    (free-below want at (r.place + r.size) end rs laid.2) where
      by : (b : Bool) → nat_le (from + want) r.place ≡ b
          → (if b then Some from else hole_from end want (r.place + r.size) rs) ≡ Some at
          → (hole_from end want (r.place + r.size) rs ≡ Some at → is_free want at rs ≡ true)
          → (hole_from end want (r.place + r.size) rs ≡ Some at → (r.place + r.size ≤ at) × (at + want ≤ end))
          → (at + want ≤ r.place + r.size → is_free want at rs ≡ true)
          → ((nat_le (r.place + r.size) at || nat_le (at + want) r.place) && is_free want at rs) ≡ true
      by true e h rest inside below =
          let fits = leb-true (from + want) r.place e in
          let same : from ≡ at = cc in
          let free : is_free want at rs ≡ true = below (omega arith) in
          let clear : nat_le (at + want) r.place ≡ true = le-leb (at + want) r.place (omega arith) in
          grind (arith, nat_tests)
      by false e h rest inside below =
          let free : is_free want at rs ≡ true = rest h in
          let clear : nat_le (r.place + r.size) at ≡ true = le-leb (r.place + r.size) at (inside h).0 in
          rw (clear, free) refl

-- no place below a hole that is found is one, and none at all where no hole is found
pub hole-lowest : (end want from p : ℕ) (list : List Region) (o : Option ℕ) → IsLaidOut from end list
    → hole_from end want from list ≡ o
    → ((at : ℕ) → o ≡ Some at → p < at) → from ≤ p → (nat_le (p + want) end && is_free want p list) ≡ false
hole-lowest end want from p [] o laid found below le = by (nat_le (from + want) end) refl found where
  by : (b : Bool) → nat_le (from + want) end ≡ b → (if b then Some from else None) ≡ o
      → (nat_le (p + want) end && true) ≡ false
  by true e h = let lower = below from (sym h) in absurd (omega arith)
  by false e h = let far = leb-false (from + want) end e in let no : nat_le (p + want) end ≡ false = lt-leb (p + want) end (omega arith) in rw no refl
hole-lowest end want from p (r ∷ rs) o laid found below le =
    by (nat_le (from + want) r.place) refl found (hole-lowest end want (r.place + r.size) p rs o laid.2) (cases_lt p (r.place + r.size)) where
      by : (b : Bool) → nat_le (from + want) r.place ≡ b
          → (if b then Some from else hole_from end want (r.place + r.size) rs) ≡ o
          → (hole_from end want (r.place + r.size) rs ≡ o → ((at : ℕ) → o ≡ Some at → p < at) → r.place + r.size ≤ p
          → (nat_le (p + want) end && is_free want p rs) ≡ false)
          → (p < r.place + r.size) ⊎ (r.place + r.size ≤ p)
          → (nat_le (p + want) end && ((nat_le (r.place + r.size) p || nat_le (p + want) r.place) && is_free want p rs)) ≡ false
      by true e h rest c = let lower = below from (sym h) in absurd (omega arith)
      by false e h rest (inl low) =
          let far = leb-false (from + want) r.place e in
          let over : nat_le (p + want) r.place ≡ false = lt-leb (p + want) r.place (omega arith) in
          let inside : nat_le (r.place + r.size) p ≡ false = lt-leb (r.place + r.size) p low in
          rw (over, inside) (nothing (nat_le (p + want) end))
        where
          nothing : (b : Bool) → (b && false) ≡ false
          nothing true = refl
          nothing false = refl
      by false e h rest (inr high) =
          let clear : nat_le (r.place + r.size) p ≡ true = le-leb (r.place + r.size) p high in
          rw clear (rest h below high)

-- A walk along the list.

-- the region at an index ends no higher than the end
pub laid-reads : (from end i : ℕ) (list : List Region) (d : Region) → i < length list → IsLaidOut from end (drop i list)
    → (get_or list i d).place + (get_or list i d).size ≤ end
laid-reads from end i list d lt laid =
    let P : List Region → Type 0 = λ xs. IsLaidOut from end xs in
    let here : IsLaidOut from end (get_or list i d ∷ drop (i + 1) list) = subst P (drop_more list i d lt) laid in
    laid-ends ((get_or list i d).place + (get_or list i d).size) end (drop (i + 1) list) here.2
