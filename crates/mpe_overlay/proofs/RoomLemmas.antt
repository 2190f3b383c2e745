-- The loop that makes room: where a hole is, it ends as the load does; where none is, one key less is live.
use Rattle.std.proofs.Common.{◌≡◌, ◌≢◌, ℕ, ◌+◌, ◌<◌, ◌≤◌, List, [], ◌∷◌, length, None, Some, refl, sym, ap, subst, ◌∙◌, arith, inl, inr, add-zero}
use Rattle.std.specs.Prelude.{◌⊎◌, slice_get}
use Rattle.std.proofs.lemmas.Bool.{cases_eq, eq-eqb}
use Rattle.mpe_regions.specs.declared.region.Region.{Region}
use Rattle.mpe_regions.specs.Area.{Area, times_used, region_of, IsAbsent, oldest_of}
use Rattle.mpe_regions.specs.Loads.{Load, hole, put_if, load, after_more, dropped, without}
use Rattle.mpe_regions.specs.Sound.{IsSound}
use Rattle.mpe_regions.proofs.KeyLemmas.{length-others, find-without_same, find-without_other}
use Rattle.mpe_regions.proofs.LoadLemmas.{load-here, load-next, hole-empty}

-- The end.

-- what the load of the first area leaves, where it goes on from an area with a hole
pub record Ends (key size at given_up : ℕ) (first new : Area) : Type 0 where
  pub area : new ≡ (load key size first).area
  pub place : (load key size first).place ≡ Some at
  pub given : (load key size first).given_up ≡ given_up

pub room_ends : (key size at given_up : ℕ) (first a new : Area) → Some at ≡ hole a size
    → new ≡ put_if key size (hole a size) a
    → load key size first ≡ after_more given_up (load key size a) → Ends key size at given_up first new
room_ends key size at given_up first a new found taken rest =
    let all = rest ∙ ap (after_more given_up) (load-here key size at a (sym found)) in
    record {
      area = taken ∙ ap (λ o. put_if key size o a) (sym found) ∙ sym (ap (λ (l : Load). l.area) all);
      place = ap (λ (l : Load). l.place) all;
      given = ap (λ (l : Load). l.given_up) all ∙ add-zero given_up;
    }

-- One step.

-- the oldest key is the first of the order of use
order_first : (order : List ℕ) (k : ℕ) → slice_get order 0 ≡ Some k → (ks : List ℕ) × (order ≡ k ∷ ks)
order_first [] k is = cc
order_first (x ∷ xs) k is = (xs, cc)

-- an area without an oldest key has no order of use
order_none : (order : List ℕ) → slice_get order 0 ≡ None → order ≡ []
order_none [] is = refl
order_none (x ∷ xs) is = cc

-- a take that is refused leaves the area
room_same : (key size : ℕ) (a new : Area) → None ≡ hole a size → new ≡ put_if key size (hole a size) a → new ≡ a
room_same key size a new none taken = taken ∙ ap (λ o. put_if key size o a) (sym none)

-- so an area without a hole has an oldest key
pub room_some : (key size : ℕ) (a new : Area) → None ≡ hole a size → new ≡ put_if key size (hole a size) a → IsSound new
    → size ≤ a.size → None ≡ oldest_of new → ⊥
room_some key size a new none taken sound le empty =
    let same = room_same key size a new none taken in
    let Sound : Area → Type 0 = λ x. IsSound x in
    let Empty : Area → Type 0 = λ x. None ≡ oldest_of x in
    let found = hole-empty size a (subst Sound same sound) (order_none a.order (sym (subst Empty same empty))) le in
    cc

-- the oldest key is live
oldest_live : (k : ℕ) (ks order : List ℕ) → order ≡ k ∷ ks → 0 < times_used k order
oldest_live k ks order is =
    let P : List ℕ → Type 0 = λ o. 0 < times_used k o in
    let here : 0 < times_used k (k ∷ ks) = rw (eq-eqb k k refl) (omega arith) in
    subst P (sym is) here

-- what a step of the loop leaves, from an area without a hole
pub record Goes (key size given_up : ℕ) (first a next : Area) : Type 0 where
  pub same_size : next.size ≡ a.size
  pub absent : IsAbsent key next
  pub shorter : length next.list + 1 ≤ length a.list
  pub rest : load key size first ≡ after_more (given_up + 1) (load key size next)

absent_next : (key k : ℕ) (list : List Region) → region_of key list ≡ None → region_of key (without k list) ≡ None
absent_next key k list absent = by (cases_eq key k) where
  by : (key ≡ k) ⊎ (key ≢ k) → region_of key (without k list) ≡ None
  by (inl e) = rw e (find-without_same k list)
  by (inr ne) = find-without_other key k list ne ∙ absent

-- given up one by one
after_both : (n : ℕ) (l : Load) → after_more n (after_more 1 l) ≡ after_more (n + 1) l
after_both n l = ap (λ (m : ℕ). record l { given_up = m }) (omega arith)

goes : (key size given_up k : ℕ) (first a : Area) → IsSound a → IsAbsent key a → None ≡ hole a size
    → Some k ≡ oldest_of a
    → load key size first ≡ after_more given_up (load key size a) → Goes key size given_up first a (dropped k a)
goes key size given_up k first a sound absent none oldest rest =
    let ordered = order_first a.order k (sym oldest) in
    let more = ap (after_more given_up) (load-next key size k ordered.0 a sound ordered.1 (sym none)) in
    record {
      same_size = refl;
      absent = absent_next key k a.list absent;
      shorter = omega (arith, length-others (λ (r : Region). r.key) k a.list, sound.both k, oldest_live k ordered.0 a.order ordered.1);
      rest = rest ∙ more ∙ after_both given_up (load key size (dropped k a));
    }

-- the same, from the area that a refused take has left as it was
pub room_goes : (key size given_up k : ℕ) (first a new next : Area) → None ≡ hole a size
    → new ≡ put_if key size (hole a size) a → IsSound new → IsAbsent key a
    → Some k ≡ oldest_of new → next ≡ dropped k new → load key size first ≡ after_more given_up (load key size a)
    → Goes key size given_up first a next
room_goes key size given_up k first a new next none taken sound absent oldest gone rest =
    let same = room_same key size a new none taken in
    let Sound : Area → Type 0 = λ x. IsSound x in
    let Oldest : Area → Type 0 = λ x. Some k ≡ oldest_of x in
    let Next : Area → Type 0 = λ x. Goes key size given_up first a x in
    let went = goes key size given_up k first a (subst Sound same sound) absent none (subst Oldest same oldest) rest in
    subst Next (sym (gone ∙ ap (dropped k) same)) went
