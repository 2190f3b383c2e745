-- A sound area stays sound: after a put into a hole, after a drop, and after a use.
use Rattle.std.proofs.Common.{◌≡◌, ◌≢◌, ℕ, ◌+◌, ◌<◌, ◌≤◌, Bool, true, false, List, [], ◌∷◌, ◌++◌, Option, None, Some, refl, sym, ◌∙◌, arith, length-append, inl, inr}
use Rattle.std.specs.Prelude.{◌==◌, ◌⊎◌, is_some, if◌then◌else◌}
use Rattle.std.proofs.lemmas.Bool.{cases_eq, eq-eqb, ne_eqb, eqb-true}
use Rattle.mpe_regions.specs.declared.region.Region.{Region}
use Rattle.mpe_regions.specs.Area.{Area, times_placed, times_used, region_of, IsAbsent}
use Rattle.mpe_regions.specs.Loads.{hole, put, put_if, without, forgotten, dropped, used, touched}
use Rattle.mpe_regions.specs.Sound.{IsSound}
use Rattle.mpe_regions.proofs.KeyLemmas.{loaded_at, others-absent, times-append, times-others_same, times-others_other, length-others, times-placed, length-placed, times-absent, times-live}
use Rattle.mpe_regions.proofs.PlaceLemmas.{laid-placed, laid-without}

-- one more at the end of an order of use
times-push : (k key : ℕ) (order : List ℕ)
    → times_used k (order ++ key ∷ []) ≡ times_used k order + (if key == k then 1 else 0)
times-push k key order = times-append (λ x. x) k order (key ∷ [])

-- a key is put
pub sound-put : (key size at : ℕ) (a : Area) → IsSound a → IsAbsent key a → 0 < size → hole a size ≡ Some at
    → IsSound (put key size at a)
sound-put key size at a sound absent some found = record {
  laid_out = laid-placed key a.size size 0 at a.list some sound.laid_out found;
  once = λ k. rw (times-placed k (loaded_at key at size) a.list) (once k (key == k) refl);
  both = λ k. times-push k key a.order ∙ sym (times-placed k (loaded_at key at size) a.list ∙ both k (key == k));
  long = omega (arith, length-append a.order (key ∷ []), length-placed (loaded_at key at size) a.list, sound.long);
} where
  once : (k : ℕ) (b : Bool) → (key == k) ≡ b → (if b then 1 + times_placed k a.list else times_placed k a.list) ≤ 1
  once k true e = let same = eqb-true key k e in let none = times-absent key a.list absent in rw (← same, none) (omega arith)
  once k false e = sound.once k

  both : (k : ℕ) (b : Bool) → (if b then 1 + times_placed k a.list else times_placed k a.list) ≡ times_used k a.order + (if b then 1 else 0)
  both k true = omega (arith, sound.both k)
  both k false = omega (arith, sound.both k)

-- a key is put where there is a hole
pub sound-put_if : (key size : ℕ) (a : Area) (o : Option ℕ) → IsSound a → IsAbsent key a → 0 < size → hole a size ≡ o
    → IsSound (put_if key size o a)
sound-put_if key size a None sound absent some found = sound
sound-put_if key size a (Some at) sound absent some found = sound-put key size at a sound absent some found

-- a key is dropped
pub sound-dropped : (key : ℕ) (a : Area) → IsSound a → IsSound (dropped key a)
sound-dropped key a sound = record {
  laid_out = laid-without key 0 a.size a.list sound.laid_out;
  once = λ k. once k (cases_eq k key);
  both = λ k. both k (cases_eq k key);
  long = omega (arith, length-others (λ x. x) key a.order, length-others (λ (r : Region). r.key) key a.list, sound.long, sound.both key);
} where
  once : (k : ℕ) → (k ≡ key) ⊎ (k ≢ key) → times_placed k (without key a.list) ≤ 1
  once k (inl e) = rw (e, times-others_same (λ (r : Region). r.key) key a.list) (omega arith)
  once k (inr ne) = rw (times-others_other (λ (r : Region). r.key) k key a.list ne) (sound.once k)

  both : (k : ℕ) → (k ≡ key) ⊎ (k ≢ key) → times_used k (forgotten key a.order) ≡ times_placed k (without key a.list)
  both k (inl e) = rw e (times-others_same (λ x. x) key a.order
      ∙ sym (times-others_same (λ (r : Region). r.key) key a.list))
  both k (inr ne) = times-others_other (λ x. x) k key a.order ne ∙ sound.both k
      ∙ sym (times-others_other (λ (r : Region). r.key) k key a.list ne)

-- the drop of a key that is not live changes nothing
pub dropped-absent : (key : ℕ) (a : Area) → IsSound a → IsAbsent key a → dropped key a ≡ a
dropped-absent key a sound absent =
    let none = times-absent key a.list absent in
    let list : without key a.list ≡ a.list = others-absent (λ (r : Region). r.key) key a.list none in
    let order : forgotten key a.order ≡ a.order = others-absent (λ x. x) key a.order (sound.both key ∙ none) in
    rw (list, order) refl

-- a live key counts one
pub times-one : (key : ℕ) (a : Area) (r : Region) → IsSound a → region_of key a.list ≡ Some r
    → times_placed key a.list ≡ 1
times-one key a r sound found = omega (arith, sound.once key, times-live key a.list r found)

-- a live key is used
pub sound-used : (key : ℕ) (a : Area) (r : Region) → IsSound a → region_of key a.list ≡ Some r → IsSound (used key a)
sound-used key a r sound found = record {
  laid_out = sound.laid_out;
  once = sound.once;
  both = λ k. times-push k key (forgotten key a.order) ∙ both k (cases_eq k key);
  long = omega (arith, length-append (forgotten key a.order) (key ∷ []), length-others (λ x. x) key a.order, sound.long, sound.both key, times-one key a r sound found);
} where
  both : (k : ℕ) → (k ≡ key) ⊎ (k ≢ key)
      → times_used k (forgotten key a.order) + (if key == k then 1 else 0) ≡ times_placed k a.list
  both k (inl e) = rw (e, eq-eqb key key refl, times-others_same (λ x. x) key a.order) (sym (times-one key a r sound found))
  both k (inr ne) = let other : (key == k) ≡ false = ne_eqb key k (λ s. ne (sym s)) in
      rw (other, times-others_other (λ x. x) k key a.order ne) (omega (arith, sound.both k))

-- a key is used where it is live
pub sound-touched : (key : ℕ) (a : Area) → IsSound a → IsSound (touched key a)
sound-touched key a sound = by (region_of key a.list) refl where
  by : (o : Option Region) → region_of key a.list ≡ o → IsSound (if is_some o then used key a else a)
  by None e = sound
  by (Some r) e = sound-used key a r sound e

-- a search that found something found the region of the key
pub live-found : (key : ℕ) (list : List Region) (o : Option Region) → o ≡ region_of key list → is_some o ≡ true
    → (r : Region) × (region_of key list ≡ Some r)
live-found key list None is some = cc
live-found key list (Some r) is some = (r, sym is)

-- and one that found nothing shows the key absent
pub not-found : (key : ℕ) (list : List Region) (o : Option Region) → o ≡ region_of key list → is_some o ≡ false
    → region_of key list ≡ None
not-found key list None is none = sym is
not-found key list (Some r) is none = cc
