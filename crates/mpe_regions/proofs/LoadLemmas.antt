-- Loads: where a hole is, the load ends; where none is, the oldest key is dropped and it begins again; an empty area
-- has room.
use Rattle.std.proofs.Common.{◌≡◌, ◌≢◌, ℕ, ◌<◌, ◌≤◌, true, List, [], ◌∷◌, length, Option, None, Some, refl, sym, ap, subst, ◌∙◌, arith, zero-add, inl, inr}
use Rattle.std.specs.Prelude.{◌==◌, ◌⊎◌, nat_le}
use Rattle.std.proofs.lemmas.Bool.{le-leb, eq-eqb, cases_eq}
use Rattle.std.proofs.lemmas.List.{nil_from_length}
use Rattle.mpe_regions.specs.declared.region.Region.{Region}
use Rattle.mpe_regions.specs.Area.{Area, times_used, region_of, IsAbsent}
use Rattle.mpe_regions.specs.Loads.{Load, hole, hole_from, put, fill, after_more, load, load_by, without, forgotten, dropped}
use Rattle.mpe_regions.specs.Sound.{IsSound}
use Rattle.mpe_regions.specs.AreaLaws.{IsLoaded}
use Rattle.mpe_regions.proofs.KeyLemmas.{loaded_at, others-absent, find-placed_same, find-without_same, find-without_other}
use Rattle.mpe_regions.proofs.SoundLemmas.{sound-put, sound-dropped}

-- One step of a load.

fill_some : (key size at : ℕ) (a : Area) (other : Load) → hole a size ≡ Some at → fill key size a (hole a size) other ≡ record { area = put key size at a; place = Some at; given_up = 0 }
fill_some key size at a other found = rw found refl

-- where a hole is, the load takes it
pub load_by-here : (key size at : ℕ) (ks : List ℕ) (a : Area) → hole a size ≡ Some at → load_by key size ks a ≡ record { area = put key size at a; place = Some at; given_up = 0 }
load_by-here key size at [] a found = fill_some key size at a _ found
load_by-here key size at (k ∷ ks) a found = fill_some key size at a _ found

pub load-here : (key size at : ℕ) (a : Area) → hole a size ≡ Some at → load key size a ≡ record { area = put key size at a; place = Some at; given_up = 0 }
load-here key size at a found = load_by-here key size at a.order a found

-- where none is, it gives up the first key
load_by-next : (key size k : ℕ) (ks : List ℕ) (a : Area) → hole a size ≡ None
    → load_by key size (k ∷ ks) a ≡ after_more 1 (load_by key size ks (dropped k a))
load_by-next key size k ks a none = rw none refl

-- the order of use without its first key is the rest
drop_first : (k : ℕ) (ks : List ℕ) → times_used k (k ∷ ks) ≤ 1 → forgotten k (k ∷ ks) ≡ ks
drop_first k ks once =
    let here : (k == k) ≡ true = eq-eqb k k refl in
    let none : times_used k ks ≡ 0 = let counted = rw here at once in omega arith in
    rw here (others-absent (λ x. x) k ks none)

pub order-dropped : (k : ℕ) (ks : List ℕ) (a : Area) → IsSound a → a.order ≡ k ∷ ks → forgotten k a.order ≡ ks
order-dropped k ks a sound is =
    let P : List ℕ → Type 0 = λ o. times_used k o ≤ 1 in
    let once : times_used k (k ∷ ks) ≤ 1 = subst P is (rw (sound.both k) (sound.once k)) in
    ap (forgotten k) is ∙ drop_first k ks once

-- so the load goes on from the area without it
pub load-next : (key size k : ℕ) (ks : List ℕ) (a : Area) → IsSound a → a.order ≡ k ∷ ks → hole a size ≡ None
    → load key size a ≡ after_more 1 (load key size (dropped k a))
load-next key size k ks a sound is none =
    let rest = order-dropped k ks a sound is in
    ap (λ o. load_by key size o a) is ∙ load_by-next key size k ks a none
    ∙ ap (λ o. after_more 1 (load_by key size o (dropped k a))) (sym rest)

-- An area in which nothing is live.

-- it has a hole for each segment that is no larger
pub hole-empty : (size : ℕ) (a : Area) → IsSound a → a.order ≡ [] → size ≤ a.size → hole a size ≡ Some 0
hole-empty size a sound empty le =
    let none : a.list ≡ [] = nil_from_length a.list (sym sound.long ∙ ap length empty) in
    let fits : nat_le size a.size ≡ true = le-leb size a.size le in
    ap (hole_from a.size size 0) none ∙ (rw (zero-add size, fits) refl)

-- What a load does.

-- a key that another drop leaves absent
absent-dropped : (key k : ℕ) (a : Area) → IsAbsent key a → IsAbsent key (dropped k a)
absent-dropped key k a absent = by (cases_eq key k) where
  by : (key ≡ k) ⊎ (key ≢ k) → region_of key (without k a.list) ≡ None
  by (inl e) = rw e (find-without_same k a.list)
  by (inr ne) = find-without_other key k a.list ne ∙ absent

-- what is found after a drop was there before
pub less-dropped : (k key : ℕ) (a : Area) (r : Region) → region_of k (without key a.list) ≡ Some r
    → region_of k a.list ≡ Some r
less-dropped k key a r found = by (cases_eq k key) where
  by : (k ≡ key) ⊎ (k ≢ key) → region_of k a.list ≡ Some r
  by (inl e) = let none : region_of k (without key a.list) ≡ None = rw e (find-without_same key a.list) in cc
  by (inr ne) = sym (find-without_other k key a.list ne) ∙ found

-- where a hole is, the key is put there
loaded-here : (key size at : ℕ) (a : Area) → IsSound a → IsAbsent key a → 0 < size → hole a size ≡ Some at
    → IsLoaded key size a (load key size a)
loaded-here key size at a sound absent some found =
    let is = load-here key size at a found in
    let P : Load → Type 0 = λ l. IsLoaded key size a l in
    subst P (sym is) (record {
      left = a;
      at = at;
      same_size = refl;
      less = λ k r h. h;
      left_sound = sound;
      absent = absent;
      hole_is = found;
      area_is = refl;
      place_is = refl;
      sound = sound-put key size at a sound absent some found;
      live = find-placed_same (loaded_at key at size) a.list absent;
    })

-- what is loaded after a drop is loaded
loaded-next : (key size k : ℕ) (a : Area) (l : Load) → IsLoaded key size (dropped k a) l
    → IsLoaded key size a (after_more 1 l)
loaded-next key size k a l done = record {
  left = done.left;
  at = done.at;
  same_size = done.same_size;
  less = λ j r h. less-dropped j k a r (done.less j r h);
  left_sound = done.left_sound;
  absent = done.absent;
  hole_is = done.hole_is;
  area_is = done.area_is;
  place_is = done.place_is;
  sound = done.sound;
  live = done.live;
}

-- an induction over the order of use: with no key left the area is empty, and then the segment fits
loaded_by : (key size : ℕ) (ks : List ℕ) (a : Area) → a.order ≡ ks → IsSound a → IsAbsent key a → 0 < size
    → size ≤ a.size → IsLoaded key size a (load key size a)
loaded_by key size [] a is sound absent some le = loaded-here key size 0 a sound absent some (hole-empty size a sound is le)
loaded_by key size (k ∷ ks) a is sound absent some le =
    by (hole a size) refl (loaded_by key size ks (dropped k a) (order-dropped k ks a sound is) (sound-dropped k a sound) (absent-dropped key k a absent) some le) where
      by : (o : Option ℕ) → hole a size ≡ o → IsLoaded key size (dropped k a) (load key size (dropped k a))
          → IsLoaded key size a (load key size a)
      by None none rest =
          let P : Load → Type 0 = λ l. IsLoaded key size a l in
          subst P (sym (load-next key size k ks a sound is none)) (loaded-next key size k a (load key size (dropped k a)) rest)
      by (Some at) found rest = loaded-here key size at a sound absent some found

-- a segment that is no larger than the area is always loaded
pub loaded : (a : Area) (key size : ℕ) → IsSound a → IsAbsent key a → 0 < size → size ≤ a.size
    → IsLoaded key size a (load key size a)
loaded a key size sound absent some le = loaded_by key size a.order a refl sound absent some le
