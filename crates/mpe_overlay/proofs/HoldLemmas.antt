-- Each region keeps the words of its segment: where regions go, and where a segment is brought in.
use Rattle.std.proofs.Common.{◌≡◌, ◌≢◌, ℕ, ◌+◌, ◌<◌, ◌≤◌, Bool, true, false, List, ◌∷◌, ◌++◌, length, take, drop, Option, None, Some, refl, sym, ap, subst, ◌∙◌, arith, inl, inr}
use Rattle.std.specs.Prelude.{◌==◌, ◌⊎◌, is_some, IsSomeAnd, nat_lt, slice_get, option_map, if◌then◌else◌}
use Rattle.std.proofs.lemmas.Bool.{cases_eq, ltb-true, eqb-true}
use Rattle.std.proofs.lemmas.Option.{same_Some}
use Rattle.mpe_regions.specs.declared.region.Region.{Region}
use Rattle.mpe_regions.specs.Area.{Area, times_placed, region_of, is_live, IsAbsent}
use Rattle.mpe_regions.specs.Loads.{hole, put, placed, load, dropped}
use Rattle.mpe_regions.specs.Sound.{IsSound}
use Rattle.mpe_regions.specs.Kept.{Kept}
use Rattle.mpe_regions.proofs.KeyLemmas.{loaded_at, length-below, times-absent, find-placed_same, find-placed_other}
use Rattle.mpe_regions.proofs.PlaceLemmas.{hole-within, hole-apart}
use Rattle.mpe_regions.proofs.LoadLemmas.{loaded, less-dropped}
use Rattle.mpe_overlay.specs.Codes.{key_of, segment_at}
use Rattle.mpe_overlay.specs.Holds.{words_in, HoldsCode}
use Rattle.mpe_overlay.specs.Held.{held_in}
use Rattle.mpe_overlay.proofs.CodeLemmas.{words-apart, words-here, length-copied}
use Rattle.mpe_overlay.proofs.SegmentLemmas.{key_below, segment_at-program}

-- Regions go.

-- fewer regions keep their words
pub holds-less : (base : ℕ) (words : List ℕ) (kept new : Kept) (codes : List (List (List ℕ)))
    → HoldsCode base words kept codes
    → new.area.size ≡ kept.area.size → new.room ≡ kept.room
    → ((k : ℕ) (r : Region) → region_of k new.area.list ≡ Some r → region_of k kept.area.list ≡ Some r)
    → HoldsCode base words new codes
holds-less base words kept new codes holds size room less = record {
  long = holds.long ∙ sym size;
  small = rw size holds.small;
  few = holds.few;
  room = room ∙ holds.room;
  within = λ k r found. holds.within k r (less k r found);
  each = λ k r found. holds.each k r (less k r found);
}

-- a key is dropped
pub holds-dropped : (base key : ℕ) (words : List ℕ) (kept new : Kept) (codes : List (List (List ℕ)))
    → HoldsCode base words kept codes
    → new.area ≡ dropped key kept.area → new.room ≡ kept.room → HoldsCode base words new codes
holds-dropped base key words kept new codes holds area room =
    holds-less base words kept new codes holds (ap (λ (a : Area). a.size) area) room
    (λ k r found. less-dropped k key kept.area r (ap (λ (a : Area). region_of k a.list) (sym area) ∙ found))

-- There is room for one more.

-- every live key is below 4,096, so where another such key is absent there are fewer regions
pub few_regions : (base key : ℕ) (words ws : List ℕ) (kept : Kept) (codes : List (List (List ℕ)))
    → HoldsCode base words kept codes → IsSound kept.area
    → IsAbsent key kept.area → segment_at codes key ≡ Some ws → length kept.area.list < 4096
few_regions base key words ws kept codes holds sound absent is =
    let more = length-below (λ (r : Region). r.key) 4096 (loaded_at key 0 0 ∷ kept.area.list) (λ k. once k (key == k) refl)
    (λ k le. below k le (key == k) refl (region_of k kept.area.list) refl) in
    omega arith
  where
    once : (k : ℕ) (b : Bool) → (key == k) ≡ b
        → (if b then 1 + times_placed k kept.area.list else times_placed k kept.area.list) ≤ 1
    once k true e = let same = eqb-true key k e in let none = times-absent key kept.area.list absent in rw (← same, none) (omega arith)
    once k false e = sound.once k

    below : (k : ℕ) → 4096 ≤ k → (b : Bool) → (key == k) ≡ b → (o : Option Region) → region_of k kept.area.list ≡ o
        → (if b then 1 + times_placed k kept.area.list else times_placed k kept.area.list) ≡ 0
    below k le true e o found = let same = eqb-true key k e in let lt = key_below codes key ws is in absurd (omega (arith, holds.few))
    below k le false e None found = times-absent k kept.area.list found
    below k le false e (Some r) found = let lt = key_below codes k (words_in words r) (holds.each k r found) in absurd (omega (arith, holds.few))

-- A segment is brought in.

-- the area, without some regions, gets a region for the segment, and its words are copied there
holds-put : (base key place : ℕ) (words ws : List ℕ) (kept new : Kept) (left : Area) (codes : List (List (List ℕ)))
    → HoldsCode base words kept codes
    → left.size ≡ kept.area.size → ((k : ℕ) (r : Region) → region_of k left.list ≡ Some r
    → region_of k kept.area.list ≡ Some r)
    → IsSound left → IsAbsent key left → hole left (length ws) ≡ Some place → segment_at codes key ≡ Some ws
    → new.area ≡ put key (length ws) place left → new.room ≡ 4096
    → HoldsCode base (take place words ++ (ws ++ drop (place + length ws) words)) new codes
holds-put base key place words ws kept new left codes holds size less sound absent found is area room = record {
  long = length-copied place words ws inside ∙ holds.long ∙ sym size ∙ sym (ap (λ (a : Area). a.size) area);
  small = rw (ap (λ (a : Area). a.size) area ∙ size) holds.small;
  few = holds.few;
  room = room;
  within = λ k r f. rw (length-copied place words ws inside) (within k r (old k r f) (cases_eq key k));
  each = λ k r f. each k r (old k r f) (cases_eq key k);
} where
  inside : place + length ws ≤ length words
  inside = let in_left = hole-within left.size (length ws) 0 place left.list sound.laid_out found in rw holds.long (rw (← size) in_left.1)

  old : (k : ℕ) (r : Region) → region_of k new.area.list ≡ Some r
      → region_of k (placed (loaded_at key place (length ws)) left.list) ≡ Some r
  old k r f = ap (λ (a : Area). region_of k a.list) (sym area) ∙ f

  -- its own key finds the new region, and each other key one that was there
  is_new : (k : ℕ) (r : Region) → region_of k (placed (loaded_at key place (length ws)) left.list) ≡ Some r → key ≡ k
      → loaded_at key place (length ws) ≡ r
  is_new k r f e =
      let P : ℕ → Type 0 = λ j. region_of j (placed (loaded_at key place (length ws)) left.list) ≡ Some r in
      same_Some _ _ (sym (find-placed_same (loaded_at key place (length ws)) left.list absent) ∙ subst P (sym e) f)

  was : (k : ℕ) (r : Region) → region_of k (placed (loaded_at key place (length ws)) left.list) ≡ Some r → key ≢ k
      → region_of k left.list ≡ Some r
  was k r f ne = sym (find-placed_other k (loaded_at key place (length ws)) left.list ne) ∙ f

  within : (k : ℕ) (r : Region) → region_of k (placed (loaded_at key place (length ws)) left.list) ≡ Some r
      → (key ≡ k) ⊎ (key ≢ k) → r.place + r.size ≤ length words
  within k r f (inl e) = let P : Region
      → Type 0 = λ s. s.place + s.size ≤ length words in subst P (is_new k r f e) inside
  within k r f (inr ne) = holds.within k r (less k r (was k r f ne))

  each : (k : ℕ) (r : Region) → region_of k (placed (loaded_at key place (length ws)) left.list) ≡ Some r
      → (key ≡ k) ⊎ (key ≢ k)
      → segment_at codes k ≡ Some (words_in (take place words ++ (ws ++ drop (place + length ws) words)) r)
  each k r f (inl e) =
      let copied = take place words ++ (ws ++ drop (place + length ws) words) in
      ap (segment_at codes) (sym e) ∙ is ∙ ap (λ (zs : List ℕ). Some zs) (sym (words-here place key words ws inside))
      ∙ ap (λ (s : Region). Some (words_in copied s)) (is_new k r f e)
  each k r f (inr ne) =
      let there = was k r f ne in
      holds.each k r (less k r there)
      ∙ ap (λ (zs : List ℕ). Some zs) (sym (words-apart place r words ws inside (hole-apart k left.size (length ws) 0 place left.list r sound.laid_out found there)))

-- a segment that is not live is loaded, and its words are copied to the place of the load
pub holds-brought : (base key place : ℕ) (words ws : List ℕ) (kept new : Kept) (codes : List (List (List ℕ)))
    → HoldsCode base words kept codes
    → IsSound kept.area → IsAbsent key kept.area → segment_at codes key ≡ Some ws → 0 < length ws
    → length ws ≤ kept.area.size
    → new.area ≡ (load key (length ws) kept.area).area → (load key (length ws) kept.area).place ≡ Some place
    → new.room ≡ 4096
    → HoldsCode base (take place words ++ (ws ++ drop (place + length ws) words)) new codes
holds-brought base key place words ws kept new codes holds sound absent is some fits area place_is room =
    let l = loaded kept.area key (length ws) sound absent some fits in
    let same : l.at ≡ place = same_Some _ _ (sym l.place_is ∙ place_is) in
    holds-put base key place words ws kept new l.left codes holds l.same_size l.less l.left_sound l.absent (l.hole_is
    ∙ ap (λ (n : ℕ). Some n) same) is
    (area ∙ l.area_is ∙ ap (λ n. put key (length ws) n l.left) same) room

-- the words fit there
pub brought_fits : (base key place : ℕ) (words ws : List ℕ) (kept : Kept) (codes : List (List (List ℕ)))
    → HoldsCode base words kept codes
    → IsSound kept.area → IsAbsent key kept.area → 0 < length ws → length ws ≤ kept.area.size
    → (load key (length ws) kept.area).place ≡ Some place → place + length ws ≤ length words
brought_fits base key place words ws kept codes holds sound absent some fits place_is =
    let l = loaded kept.area key (length ws) sound absent some fits in
    let same : l.at ≡ place = same_Some _ _ (sym l.place_is ∙ place_is) in
    let in_left = hole-within l.left.size (length ws) 0 l.at l.left.list l.left_sound.laid_out l.hole_is in
    rw holds.long (rw (← l.same_size, ← same) in_left.1)

-- and it is live
pub brought_live : (key : ℕ) (ws : List ℕ) (a new : Area) → IsSound a → IsAbsent key a → 0 < length ws
    → length ws ≤ a.size
    → new ≡ (load key (length ws) a).area → is_live key new ≡ true
brought_live key ws a new sound absent some fits is =
    let l = loaded a key (length ws) sound absent some fits in
    ap (λ (x : Area). is_some (region_of key x.list)) is ∙ ap (λ (o : Option Region). is_some o) l.live

-- Views.

-- what a view of a program holds are segments of the program
pub held-part : (base : ℕ) (words : List ℕ) (kept : Kept) (codes : List (List (List ℕ))) (program : ℕ)
    → HoldsCode base words kept codes
    → (segments : List (List ℕ)) (seg : ℕ) (ws : List ℕ) → slice_get codes program ≡ Some segments
    → held_in words kept.area program seg ≡ Some ws
    → slice_get segments seg ≡ Some ws
held-part base words kept codes program holds segments seg ws at held = by (nat_lt seg 256) refl held where
  found : seg < 256 → (o : Option Region) → region_of (key_of program seg) kept.area.list ≡ o
      → option_map (words_in words) o ≡ Some ws → slice_get segments seg ≡ Some ws
  found lt None e h = cc
  found lt (Some r) e h = sym (segment_at-program codes program seg segments lt at)
      ∙ holds.each (key_of program seg) r e ∙ h

  by : (b : Bool) → nat_lt seg 256 ≡ b
      → (if b then option_map (words_in words) (region_of (key_of program seg) kept.area.list) else None) ≡ Some ws
      → slice_get segments seg ≡ Some ws
  by true e h = found (ltb-true seg 256 e) (region_of (key_of program seg) kept.area.list) refl h
  by false e h = cc

-- What a need knows where the segment is not live.

-- a key that is not live is absent
pub absent-dead : (key : ℕ) (a : Area) → false ≡ is_live key a → IsAbsent key a
absent-dead key a dead = by (region_of key a.list) refl dead where
  by : (o : Option Region) → region_of key a.list ≡ o → false ≡ is_some o → region_of key a.list ≡ None
  by None e h = e
  by (Some r) e h = cc

-- the area holds code, the key is absent and names words that fit
pub record CanBring (base key : ℕ) (words ws : List ℕ) (kept : Kept) (codes : List (List (List ℕ))) : Type 0 where
  pub holds : HoldsCode base words kept codes
  pub sound : IsSound kept.area
  pub absent : IsAbsent key kept.area
  pub is : segment_at codes key ≡ Some ws
  pub some : 0 < length ws
  pub fits : length ws ≤ kept.area.size

-- it does where a touch was refused
pub can_bring : (base key : ℕ) (words ws : List ℕ) (old kept : Kept) (codes : List (List (List ℕ)))
    → HoldsCode base words old codes → kept ≡ old
    → IsSound kept.area → false ≡ is_live key old.area → segment_at codes key ≡ Some ws → 0 < length ws
    → IsSomeAnd (segment_at codes key) (λ zs. length zs ≤ old.area.size) → CanBring base key words ws kept codes
can_bring base key words ws old kept codes holds same sound dead is some fits =
    let Holds : Kept → Type 0 = λ k. HoldsCode base words k codes in
    let Absent : Kept → Type 0 = λ k. IsAbsent key k.area in
    let Fits : Kept → Type 0 = λ k. length ws ≤ k.area.size in
    let Size : Option (List ℕ) → Type 0 = λ o. IsSomeAnd o (λ zs. length zs ≤ old.area.size) in
    record {
      holds = subst Holds (sym same) holds;
      sound = sound;
      absent = subst Absent (sym same) (absent-dead key old.area dead);
      is = is;
      some = some;
      fits = subst Fits (sym same) (subst Size is fits);
    }
