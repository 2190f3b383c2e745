-- What the searches find, by the list of nodes in order of place.
use Rattle.std.proofs.Common.{◌≡◌, ℕ, zero, suc, ◌+◌, ◌-◌, ◌<◌, ◌≤◌, Bool, true, false, cond, List, [], ◌∷◌, ◌++◌, length, map, Option, None, Some, refl, sym, ap, subst, ◌∙◌, arith}
use Rattle.std.specs.Prelude.{◌==◌, nat_lt, nat_le}
use Rattle.std.proofs.lemmas.Bool.{lt-ltb}
use Rattle.std.proofs.lemmas.Bool.Decides.{nat_tests}
use Rattle.mpe_links.specs.declared.node.Node.{Node}
use Rattle.mpe_links.specs.Lists.{times, last_or}
use Rattle.mpe_links.specs.Ways.{Goes}
use Rattle.mpe_links.specs.Nodes.{node_at, right_of}
use Rattle.mpe_links.proofs.WayLaws.{not_first}
use Rattle.mpe_links.proofs.RingLemmas.{no_head}
use Rattle.mpe_regions.specs.declared.region.Region.{Region}
use Rattle.mpe_regions.specs.declared.searches.Hole.{Hole}
use Rattle.mpe_regions.specs.Loads.{hole_from, placed}
use Rattle.mpe_regions.specs.Sound.{IsLaidOut}
use Rattle.mpe_regions.specs.Searches.{sought, last_hole, hole_sought}
use Rattle.mpe_regions.specs.LinkedForm.{region_at, IsListed, found_in}
use Rattle.mpe_regions.proofs.SearchSteps.{sought_past, hole_past}

sought_along : (nodes : List Node) (first key p n : ℕ) (xs : List ℕ) → length nodes ≤ 65535 → ((k : ℕ) → 0 < times k xs → k < length nodes)
    → Goes (right_of nodes first) p xs 65535 → times 65535 xs ≡ 0 → length xs ≤ n → sought nodes key n (right_of nodes first p) ≡ found_in nodes key xs
sought_along nodes first key p n [] few w h t l = sought_past nodes key n (right_of nodes first p) (omega (arith, h))
sought_along nodes first key p zero (x ∷ xs) few w h t l = absurd (omega (arith, l))
sought_along nodes first key p (suc n) (x ∷ xs) few w h t l =
    let u = not_first 65535 x xs t in
    let here : x < length nodes = w x (grind (arith, nat_tests)) in
    let next = sought_along nodes first key x n xs few (λ k g. w k (grind (arith, nat_tests))) h.1 u.1 (omega (arith, l)) in
    let same : sought nodes key n (node_at nodes x).right ≡ found_in nodes key xs = ap (sought nodes key n) (sym (no_head x first (node_at nodes x).right u.0)) ∙ next in
    ap (sought nodes key (suc n)) h.0
    ∙ ap (λ b. cond b (cond ((node_at nodes x).key == key) (Some x) (sought nodes key n (node_at nodes x).right)) None) (lt-ltb x (length nodes) here)
    ∙ ap (λ r. cond ((node_at nodes x).key == key) (Some x) r) same

pub sought_is : (nodes : List Node) (first key : ℕ) (xs : List ℕ) → IsListed nodes first xs → sought nodes key (length nodes) first ≡ found_in nodes key xs
sought_is nodes first key xs l = sought_along nodes first key 65535 (length nodes) xs l.few l.within l.placed.forward l.placed.apart.0 l.short

-- ---- holes

-- a hole that is found lies behind a front part of the list, and a region that is put there goes behind that part
pub data HoleIs (nodes : List Node) (end want from before : ℕ) (xs : List ℕ) : Option Hole → Type 0 where
  no_hole : hole_from end want from (map (region_at nodes) xs) ≡ None → HoleIs nodes end want from before xs None
  hole_at : (h : Hole) (front rest : List ℕ) → hole_from end want from (map (region_at nodes) xs) ≡ Some h.place → from ≤ h.place → xs ≡ front ++ rest
      → last_or before front ≡ h.before
      → ((key size : ℕ) → placed (record { key = key; place = h.place; size = size }) (map (region_at nodes) xs)
      ≡ map (region_at nodes) front ++ record { key = key; place = h.place; size = size } ∷ map (region_at nodes) rest)
      → HoleIs nodes end want from before xs (Some h)

hole_last : (nodes : List Node) (end want from before : ℕ) → HoleIs nodes end want from before [] (last_hole end want from before)
hole_last nodes end want from before = by (nat_le (from + want) end) refl where
  by : (t : Bool) → nat_le (from + want) end ≡ t → HoleIs nodes end want from before [] (cond t (Some (record { place = from; before = before })) None)
  by true e = hole_at (record { place = from; before = before }) [] [] (ap (λ b. cond b (Some from) None) e) (omega arith) refl refl (λ key size. refl)
  by false e = no_hole (ap (λ b. cond b (Some from) None) e)

-- the words fit before the first region
hole_first : (nodes : List Node) (end want from before x : ℕ) (xs : List ℕ) → 0 < want → nat_le (from + want) (node_at nodes x).place ≡ true
    → HoleIs nodes end want from before (x ∷ xs) (Some (record { place = from; before = before }))
hole_first nodes end want from before x xs some e =
    let lower : nat_lt from (node_at nodes x).place ≡ true = grind (arith, nat_tests) in
    hole_at (record { place = from; before = before }) [] (x ∷ xs)
    (ap (λ b. cond b (Some from) (hole_from end want ((node_at nodes x).place + (node_at nodes x).size) (map (region_at nodes) xs))) e) (omega arith) refl refl
    (λ key size.
    let r : Region = record { key = key; place = from; size = size } in
    ap (λ b. cond b (r ∷ region_at nodes x ∷ map (region_at nodes) xs) (region_at nodes x ∷ placed r (map (region_at nodes) xs))) lower)

-- or they don't, and it is sought behind it
hole_behind : (nodes : List Node) (end want from before x : ℕ) (xs : List ℕ) (o : Option Hole) → from ≤ (node_at nodes x).place
    → nat_le (from + want) (node_at nodes x).place ≡ false
    → HoleIs nodes end want ((node_at nodes x).place + (node_at nodes x).size) x xs o → HoleIs nodes end want from before (x ∷ xs) o
hole_behind nodes end want from before x xs o low e (no_hole h) =
    no_hole (ap (λ b. cond b (Some from) (hole_from end want ((node_at nodes x).place + (node_at nodes x).size) (map (region_at nodes) xs))) e ∙ h)
hole_behind nodes end want from before x xs o low e (hole_at h front rest at up parts last put) =
    let behind : nat_lt h.place (node_at nodes x).place ≡ false = grind (arith, nat_tests) in
    hole_at h (x ∷ front) rest
    (ap (λ b. cond b (Some from) (hole_from end want ((node_at nodes x).place + (node_at nodes x).size) (map (region_at nodes) xs))) e ∙ at)
    (omega (arith, up)) (ap (λ l. x ∷ l) parts) last
    (λ key size.
    let r : Region = record { key = key; place = h.place; size = size } in
    ap (λ b. cond b (r ∷ region_at nodes x ∷ map (region_at nodes) xs) (region_at nodes x ∷ placed r (map (region_at nodes) xs))) behind
    ∙ ap (λ l. region_at nodes x ∷ l) (put key size))

hole_along : (nodes : List Node) (first end want p n from before : ℕ) (xs : List ℕ) → length nodes ≤ 65535 → ((k : ℕ) → 0 < times k xs → k < length nodes) → 0 < want
    → Goes (right_of nodes first) p xs 65535 → times 65535 xs ≡ 0 → length xs ≤ n → IsLaidOut from end (map (region_at nodes) xs)
    → HoleIs nodes end want from before xs (hole_sought nodes end want n from before (right_of nodes first p))
hole_along nodes first end want p n from before [] few w some h t l laid =
    subst (HoleIs nodes end want from before []) (sym (hole_past nodes end want n from before (right_of nodes first p) (omega (arith, h))))
    (hole_last nodes end want from before)
hole_along nodes first end want p zero from before (x ∷ xs) few w some h t l laid = absurd (omega (arith, l))
hole_along nodes first end want p (suc n) from before (x ∷ xs) few w some h t l laid =
    let u = not_first 65535 x xs t in
    let here : x < length nodes = w x (grind (arith, nat_tests)) in
    let next = hole_along nodes first end want x n ((node_at nodes x).place + (node_at nodes x).size) x xs few (λ k g. w k (grind (arith, nat_tests))) some h.1 u.1
    (omega (arith, l)) laid.2 in
    let found : HoleIs nodes end want ((node_at nodes x).place + (node_at nodes x).size) x xs
    (hole_sought nodes end want n ((node_at nodes x).place + (node_at nodes x).size) x (node_at nodes x).right) =
    subst (λ (i : ℕ). HoleIs nodes end want ((node_at nodes x).place + (node_at nodes x).size) x xs
    (hole_sought nodes end want n ((node_at nodes x).place + (node_at nodes x).size) x i)) (no_head x first (node_at nodes x).right u.0) next in
    let seen : hole_sought nodes end want (suc n) from before (right_of nodes first p)
    ≡ cond (nat_le (from + want) (node_at nodes x).place) (Some (record { place = from; before = before }))
    (hole_sought nodes end want n ((node_at nodes x).place + (node_at nodes x).size) x (node_at nodes x).right) =
    ap (hole_sought nodes end want (suc n) from before) h.0
    ∙ ap (λ b. cond b (cond (nat_le (from + want) (node_at nodes x).place) (Some (record { place = from; before = before }))
    (hole_sought nodes end want n ((node_at nodes x).place + (node_at nodes x).size) x (node_at nodes x).right)) (last_hole end want from before))
    (lt-ltb x (length nodes) here) in
    subst (HoleIs nodes end want from before (x ∷ xs)) (sym seen)
    (choose nodes end want from before x xs _ some laid.0 found (nat_le (from + want) (node_at nodes x).place) refl)
  where
    choose : (nodes : List Node) (end want from before x : ℕ) (xs : List ℕ) (o : Option Hole) → 0 < want → from ≤ (node_at nodes x).place
        → HoleIs nodes end want ((node_at nodes x).place + (node_at nodes x).size) x xs o
        → (t : Bool) → nat_le (from + want) (node_at nodes x).place ≡ t
        → HoleIs nodes end want from before (x ∷ xs) (cond t (Some (record { place = from; before = before })) o)
    choose nodes end want from before x xs o some low f true e = hole_first nodes end want from before x xs some e
    choose nodes end want from before x xs o some low f false e = hole_behind nodes end want from before x xs o low e f

pub hole_is : (nodes : List Node) (first end want : ℕ) (xs : List ℕ) → IsListed nodes first xs → 0 < want → IsLaidOut 0 end (map (region_at nodes) xs)
    → HoleIs nodes end want 0 65535 xs (hole_sought nodes end want (length nodes) 0 65535 first)
hole_is nodes first end want xs l some laid =
    hole_along nodes first end want 65535 (length nodes) 0 65535 xs l.few l.within some l.placed.forward l.placed.apart.0 l.short laid
