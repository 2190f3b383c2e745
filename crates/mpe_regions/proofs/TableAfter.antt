-- A table after a region was given up or entered is a table, with the area that the definition says.
use Rattle.std.proofs.Common.{◌≡◌, ◌≢◌, ℕ, suc, ◌+◌, ◌-◌, ◌<◌, ◌≤◌, Bool, true, false, cond, List, [], ◌∷◌, ◌++◌, length, map, Option, None, Some, refl, sym, ap, subst, ◌∙◌, arith}
use Rattle.std.specs.Prelude.{◌==◌, nat_lt, option_map}
use Rattle.std.proofs.lemmas.List.{length-map}
use Rattle.std.proofs.lemmas.Bool.Decides.{nat_tests}
use Rattle.mpe_links.specs.declared.node.Node.{Node}
use Rattle.mpe_links.specs.Lists.{times, last_or}
use Rattle.mpe_links.specs.Nodes.{node_at, right_of, IsLink}
use Rattle.mpe_links.specs.Writes.{less_links}
use Rattle.mpe_links.specs.Rings.{InUse, InPlace, AreFree}
use Rattle.mpe_links.proofs.WayLaws.{not_first, goes_from}
use Rattle.mpe_links.proofs.TableLemmas.{Parted, parted, part, left_is, left_within, right_within, older_within, newer_within, newest_within, last_within, first_within}
use Rattle.mpe_regions.specs.declared.searches.Hole.{Hole}
use Rattle.mpe_regions.specs.declared.regions.Regions.TheInside.{Inside}
use Rattle.mpe_regions.specs.Area.{Area, IsAbsent}
use Rattle.mpe_regions.specs.Loads.{hole, placed, put, dropped}
use Rattle.mpe_regions.specs.Sound.{IsSound}
use Rattle.mpe_regions.specs.LinkedForm.{region_at, key_at, area_by, area_of, IsLinked, IsTable, found_in}
use Rattle.mpe_regions.proofs.SoundLemmas.{sound-dropped, sound-put}
use Rattle.mpe_regions.proofs.LinkLemmas.{table_is, listed, sound_of, all_within, at_most_one, found_there}
use Rattle.mpe_regions.proofs.FoundLemmas.{HoleIs, no_hole, hole_at, hole_is}
use Rattle.mpe_regions.specs.Searches.{hole_sought}
use Rattle.mpe_regions.specs.Fresh.{below, IsFresh}
use Rattle.mpe_regions.proofs.FreshLemmas.{times_below, length_below}
use Rattle.mpe_regions.proofs.TableMoves.{Moved}
use Rattle.mpe_regions.proofs.TableChanges.{released, entered}

-- no node 65535 is free
pub no_head_free : (i : Inside) (t : IsTable i) → times 65535 t.fs ≡ 0
no_head_free i t = by (nat_lt 65535 (length i.nodes.items)) refl (t.linked.parts 65535) where
  by : (b : Bool) → nat_lt 65535 (length i.nodes.items) ≡ b → times 65535 t.xs + times 65535 t.fs ≡ cond b 1 0 → times 65535 t.fs ≡ 0
  by true e p = let f = t.few in absurd (grind (arith, nat_tests))
  by false e p = omega (arith, p)

-- a node of a region is not free, and none is 65535
pub not_free : (i : Inside) (t : IsTable i) (z : ℕ) → (z ≢ 65535 → 0 < times z t.xs) → times z t.fs ≡ 0
not_free i t z h = by (z == 65535) refl where
  by : (b : Bool) → (z == 65535) ≡ b → times z t.fs ≡ 0
  by true e = let s : z ≡ 65535 = grind (arith, nat_tests) in ap (λ k. times k t.fs) s ∙ no_head_free i t
  by false e =
      let c = h (λ s. grind (arith, nat_tests)) in
      let m = at_most_one i.nodes.items i.first i.oldest i.newest i.free t.xs t.us t.fs t.linked z in
      omega arith

last_counts : (p : ℕ) (xs ys : List ℕ) → 0 < times (last_or p xs) (p ∷ xs ++ ys)
last_counts p [] ys = grind (arith, nat_tests)
last_counts p (x ∷ xs) ys = let rest = last_counts x xs ys in grind (arith, nat_tests)

last_stands : (xs ys : List ℕ) → last_or 65535 xs ≢ 65535 → 0 < times (last_or 65535 xs) (xs ++ ys)
last_stands [] ys d = absurd (d refl)
last_stands (x ∷ xs) ys d = last_counts x xs ys

-- the links of a node that is found are links
pub record Needs (i : Inside) (x : ℕ) : Type 0 where
  pub within : x < length i.nodes.items
  pub left : IsLink (length i.nodes.items) (node_at i.nodes.items x).left
  pub right : IsLink (length i.nodes.items) (node_at i.nodes.items x).right
  pub older : IsLink (length i.nodes.items) (node_at i.nodes.items x).older
  pub newer : IsLink (length i.nodes.items) (node_at i.nodes.items x).newer

in_place : (i : Inside) (t : IsTable i) (k : ℕ) → 0 < times k t.xs → k < length i.nodes.items
in_place i t k h = all_within i.nodes.items i.first i.oldest i.newest i.free t.xs t.us t.fs t.linked k (omega (arith, h))

in_use : (i : Inside) (t : IsTable i) (k : ℕ) → 0 < times k t.us → k < length i.nodes.items
in_use i t k h = let s = t.linked.same k in in_place i t k (omega (arith, s, h))

needs_by : (i : Inside) (t : IsTable i) (x : ℕ) → 0 < times x t.xs → Parted x t.xs → Parted x t.us → Needs i x
needs_by i t x h (parted front rest ex) (parted before behind eu) =
    let w = in_place i t x h in
    let few = t.few in
    let d : x ≢ 65535 = (λ s. absurd (omega (arith, s, w, few))) in
    let p = subst (InPlace i.nodes.items i.first) ex t.linked.placed in
    let u = subst (InUse i.nodes.items i.oldest i.newest) eu t.linked.used in
    let inside : (k : ℕ) → 0 < times k (front ++ x ∷ rest) → k < length i.nodes.items =
    λ k c. in_place i t k (subst (λ (l : List ℕ). 0 < times k l) (sym ex) c) in
    let inside_use : (k : ℕ) → 0 < times k (before ++ x ∷ behind) → k < length i.nodes.items =
    λ k c. in_use i t k (subst (λ (l : List ℕ). 0 < times k l) (sym eu) c) in
    record {
      within = w;
      left = left_within (length i.nodes.items) i.nodes.items i.first x front rest d p inside;
      right = right_within (length i.nodes.items) i.nodes.items i.first x front rest d p inside;
      older = older_within (length i.nodes.items) i.nodes.items i.oldest i.newest x before behind d u inside_use;
      newer = newer_within (length i.nodes.items) i.nodes.items i.oldest i.newest x before behind d u inside_use;
    }

pub needs : (i : Inside) (t : IsTable i) (key x : ℕ) → found_in i.nodes.items key t.xs ≡ Some x → Needs i x
needs i t key x found =
    let there = found_there i.nodes.items key t.xs x found in
    let counts : 0 < times x t.us = let c = t.linked.same x in let h = there.0 in omega arith in
    needs_by i t x there.0 (part x t.xs there.0) (part x t.us counts)

released_by : (i j : Inside) (t : IsTable i) (key x : ℕ) → j.size ≡ i.size → length j.guesses.items ≡ length i.guesses.items → 0 < times x t.xs → key_at i.nodes.items x ≡ key
    → ((front rest : List ℕ) → InPlace i.nodes.items i.first (front ++ x ∷ rest) → InPlace j.nodes.items j.first (front ++ rest))
    → ((us vs : List ℕ) → InUse i.nodes.items i.oldest i.newest (us ++ x ∷ vs) → InUse j.nodes.items j.oldest j.newest (us ++ vs))
    → ((fs : List ℕ) → times 65535 fs ≡ 0 → times x fs ≡ 0 → times (node_at i.nodes.items x).left fs ≡ 0 → AreFree i.nodes.items i.free fs → AreFree j.nodes.items j.free (x ∷ fs))
    → ((k : ℕ) → k ≢ x → less_links (node_at j.nodes.items k) ≡ less_links (node_at i.nodes.items k)) → (node_at j.nodes.items x).live ≡ false
    → length j.nodes.items ≡ length i.nodes.items → Parted x t.xs → Parted x t.us → Moved j (dropped key (area_of i))
released_by i j t key x es eg counts k place ring chain others dead n (parted front rest ex) (parted before behind eu) =
    let w = in_place i t x counts in
    let few = t.few in
    let d : x ≢ 65535 = (λ s. absurd (omega (arith, s, w, few))) in
    let p = subst (InPlace i.nodes.items i.first) ex t.linked.placed in
    let u = subst (InUse i.nodes.items i.oldest i.newest) eu t.linked.used in
    let left : times (node_at i.nodes.items x).left t.fs ≡ 0 =
    ap (λ z. times z t.fs) (left_is i.nodes.items i.first x front rest d p)
    ∙ not_free i t (last_or 65535 front) (λ e. subst (λ (l : List ℕ). 0 < times (last_or 65535 front) l) (sym ex) (last_stands front (x ∷ rest) e)) in
    let free = chain t.fs (no_head_free i t) (not_free i t x (λ e. counts)) left t.linked.spare in
    let r = released i.nodes.items j.nodes.items i.size i.first i.oldest i.newest i.free j.first j.oldest j.newest j.free key x t.xs t.us t.fs front rest before behind
    ex eu t.linked t.sound k (place front rest p) (ring before behind u) free others dead n in
    let area : area_by j.nodes.items j.size (front ++ rest) (before ++ behind) ≡ dropped key (area_of i) =
    ap (λ z. area_by j.nodes.items z (front ++ rest) (before ++ behind)) es ∙ r.area ∙ ap (dropped key) (sym (table_is i t)) in
    let table : IsTable j = record {
      xs = front ++ rest;
      us = before ++ behind;
      fs = x ∷ t.fs;
      few = omega (arith, n, few);
      linked = r.linked;
      sound = subst IsSound (sym area) (sound-dropped key (area_of i) (sound_of i t));
      guesses = eg ∙ t.guesses ∙ sym n;
    } in
    record { table = table; is = table_is j table ∙ area }

pub released_inside : (i j : Inside) (t : IsTable i) (key x : ℕ) → j.size ≡ i.size → length j.guesses.items ≡ length i.guesses.items
    → found_in i.nodes.items key t.xs ≡ Some x
    → ((front rest : List ℕ) → InPlace i.nodes.items i.first (front ++ x ∷ rest) → InPlace j.nodes.items j.first (front ++ rest))
    → ((us vs : List ℕ) → InUse i.nodes.items i.oldest i.newest (us ++ x ∷ vs) → InUse j.nodes.items j.oldest j.newest (us ++ vs))
    → ((fs : List ℕ) → times 65535 fs ≡ 0 → times x fs ≡ 0 → times (node_at i.nodes.items x).left fs ≡ 0 → AreFree i.nodes.items i.free fs → AreFree j.nodes.items j.free (x ∷ fs))
    → ((k : ℕ) → k ≢ x → less_links (node_at j.nodes.items k) ≡ less_links (node_at i.nodes.items k)) → (node_at j.nodes.items x).live ≡ false
    → length j.nodes.items ≡ length i.nodes.items → Moved j (dropped key (area_of i))
released_inside i j t key x es eg found place ring chain others dead n =
    let there = found_there i.nodes.items key t.xs x found in
    let counts : 0 < times x t.us = let c = t.linked.same x in let h = there.0 in omega arith in
    released_by i j t key x es eg there.0 there.1 place ring chain others dead n (part x t.xs there.0) (part x t.us counts)

-- ---- entered

-- what is asked of a table before a region is entered in a hole
pub record Ready (i : Inside) (before : ℕ) : Type 0 where
  pub within : i.free < length i.nodes.items
  pub link : IsLink (length i.nodes.items) before
  pub behind : IsLink (length i.nodes.items) (right_of i.nodes.items i.first before)
  pub newest : IsLink (length i.nodes.items) i.newest

-- the first free node, and the others
pub data Spares (i : Inside) (t : IsTable i) : Type 0 where
  spares : (fs : List ℕ) → t.fs ≡ i.free ∷ fs → Spares i t

spares_by : (i : Inside) (t : IsTable i) (fs : List ℕ) → t.fs ≡ fs → 0 < length fs → Spares i t
spares_by i t [] e h = absurd (omega (arith, h))
spares_by i t (x ∷ fs) e h =
    let way = subst (AreFree i.nodes.items i.free) e t.linked.spare in
    spares fs (e ∙ ap (λ z. z ∷ fs) (sym way.0))

pub spare : (i : Inside) (t : IsTable i) → length (area_of i).list < length i.nodes.items → Spares i t
spare i t h =
    let e = ap (λ (a : Area). length a.list) (table_is i t) in
    let m = length-map t.xs (region_at i.nodes.items) in
    let c = t.linked.count in
    spares_by i t t.fs refl (omega arith)

ready_by : (i : Inside) (t : IsTable i) (before : ℕ) (front rest : List ℕ) → t.xs ≡ front ++ rest → last_or 65535 front ≡ before → Spares i t → Ready i before
ready_by i t before front rest ex last (spares fs ef) =
    let inside : (k : ℕ) → 0 < times k (front ++ rest) → k < length i.nodes.items = λ k c. in_place i t k (subst (λ (l : List ℕ). 0 < times k l) (sym ex) c) in
    let way = subst (InPlace i.nodes.items i.first) ex t.linked.placed in
    let here : 0 < times i.free t.fs = subst (λ (l : List ℕ). 0 < times i.free l) (sym ef) (first_counts i.free fs) in
    record {
      within = all_within i.nodes.items i.first i.oldest i.newest i.free t.xs t.us t.fs t.linked i.free (omega (arith, here));
      link = subst (IsLink (length i.nodes.items)) last (last_within (length i.nodes.items) front rest inside);
      behind = subst (IsLink (length i.nodes.items))
          (sym (goes_from (right_of i.nodes.items i.first) 65535 65535 front rest way.forward) ∙ ap (right_of i.nodes.items i.first) last)
          (first_within (length i.nodes.items) front rest inside);
      newest = newest_within (length i.nodes.items) i.nodes.items i.oldest i.newest t.us t.linked.used (in_use i t);
    }
  where
    first_counts : (x : ℕ) (fs : List ℕ) → 0 < times x (x ∷ fs)
    first_counts x fs = grind (arith, nat_tests)

pub ready : (i : Inside) (t : IsTable i) (words : ℕ) (h : Hole) → HoleIs i.nodes.items i.size words 0 65535 t.xs (Some h) → length (area_of i).list < length i.nodes.items → Ready i h.before
ready i t words h (hole_at g front rest at up parts last puts) room = ready_by i t h.before front rest parts last (spare i t room)

entered_by : (i j : Inside) (t : IsTable i) (key words at before : ℕ) (front rest fs : List ℕ) → j.size ≡ i.size → length j.guesses.items ≡ length i.guesses.items
    → t.xs ≡ front ++ rest → last_or 65535 front ≡ before → t.fs ≡ i.free ∷ fs
    → placed (record { key = key; place = at; size = words }) (map (region_at i.nodes.items) t.xs)
    ≡ map (region_at i.nodes.items) front ++ record { key = key; place = at; size = words } ∷ map (region_at i.nodes.items) rest
    → ((xs ys : List ℕ) → last_or 65535 xs ≡ before → times i.free (xs ++ ys) ≡ 0 → InPlace i.nodes.items i.first (xs ++ ys) → InPlace j.nodes.items j.first (xs ++ i.free ∷ ys))
    → ((us : List ℕ) → times i.free us ≡ 0 → InUse i.nodes.items i.oldest i.newest us → InUse j.nodes.items j.oldest j.newest (us ++ i.free ∷ []))
    → ((fs : List ℕ) → times 65535 fs ≡ 0 → times before fs ≡ 0 → times i.free fs ≡ 0 → AreFree i.nodes.items i.free (i.free ∷ fs) → AreFree j.nodes.items j.free fs)
    → ((k : ℕ) → k ≢ i.free → less_links (node_at j.nodes.items k) ≡ less_links (node_at i.nodes.items k))
    → less_links (node_at j.nodes.items i.free) ≡ record { key = key; place = at; size = words; left = 0; right = 0; older = 0; newer = 0; live = true }
    → length j.nodes.items ≡ length i.nodes.items → IsSound (put key words at (area_of i)) → Moved j (put key words at (area_of i))
entered_by i j t key words at before front rest fs es eg ex last ef puts place ring chain others here n sound =
    let linked : IsLinked i.nodes.items i.first i.oldest i.newest i.free t.xs t.us (i.free ∷ fs) =
    subst (IsLinked i.nodes.items i.first i.oldest i.newest i.free t.xs t.us) ef t.linked in
    let one = at_most_one i.nodes.items i.first i.oldest i.newest i.free t.xs t.us (i.free ∷ fs) linked i.free in
    let front_counts = first_counts i.free fs in
    let split = times_first i.free fs in
    let absent : times i.free t.xs ≡ 0 = omega arith in
    let once : times i.free fs ≡ 0 = omega arith in
    let absent_use : times i.free t.us ≡ 0 = t.linked.same i.free ∙ absent in
    let none : (z : ℕ) → times z t.fs ≡ 0 → times z fs ≡ 0 = λ z h. less z i.free fs (ap (times z) (sym ef) ∙ h) in
    let before_free : times before fs ≡ 0 =
    none before (ap (λ z. times z t.fs) (sym last) ∙ not_free i t (last_or 65535 front) (λ e. subst (λ (l : List ℕ). 0 < times (last_or 65535 front) l) (sym ex) (last_stands front rest e))) in
    let way = subst (InPlace i.nodes.items i.first) ex t.linked.placed in
    let within = all_within i.nodes.items i.first i.oldest i.newest i.free t.xs t.us (i.free ∷ fs) linked i.free (omega arith) in
    let r = entered i.nodes.items j.nodes.items i.size i.first i.oldest i.newest j.first j.oldest j.newest j.free key at words i.free t.xs t.us fs front rest
    ex linked within puts (place front rest last (ap (times i.free) (sym ex) ∙ absent) way) (ring t.us absent_use t.linked.used)
    (chain fs (none 65535 (no_head_free i t)) before_free once (subst (AreFree i.nodes.items i.free) ef t.linked.spare)) others here n in
    let area : area_by j.nodes.items j.size (front ++ i.free ∷ rest) (t.us ++ i.free ∷ []) ≡ put key words at (area_of i) =
    ap (λ z. area_by j.nodes.items z (front ++ i.free ∷ rest) (t.us ++ i.free ∷ [])) es ∙ r.area ∙ ap (put key words at) (sym (table_is i t)) in
    let table : IsTable j = record {
      xs = front ++ i.free ∷ rest;
      us = t.us ++ i.free ∷ [];
      fs = fs;
      few = let f = t.few in omega (arith, n);
      linked = r.linked;
      sound = subst IsSound (sym area) sound;
      guesses = eg ∙ t.guesses ∙ sym n;
    } in
    record { table = table; is = table_is j table ∙ area }
  where
    first_counts : (x : ℕ) (fs : List ℕ) → 0 < times x (x ∷ fs)
    first_counts x fs = grind (arith, nat_tests)

    times_first : (x : ℕ) (fs : List ℕ) → times x (x ∷ fs) ≡ suc (times x fs)
    times_first x fs = grind (arith, nat_tests)

    less : (z x : ℕ) (fs : List ℕ) → times z (x ∷ fs) ≡ 0 → times z fs ≡ 0
    less z x fs h = (not_first z x fs h).1

pub entered_inside : (i j : Inside) (t : IsTable i) (key words : ℕ) (h : Hole) → HoleIs i.nodes.items i.size words 0 65535 t.xs (Some h) → 0 < words
    → IsAbsent key (area_of i) → length (area_of i).list < length i.nodes.items → j.size ≡ i.size → length j.guesses.items ≡ length i.guesses.items
    → ((xs ys : List ℕ) → last_or 65535 xs ≡ h.before → times i.free (xs ++ ys) ≡ 0 → InPlace i.nodes.items i.first (xs ++ ys) → InPlace j.nodes.items j.first (xs ++ i.free ∷ ys))
    → ((us : List ℕ) → times i.free us ≡ 0 → InUse i.nodes.items i.oldest i.newest us → InUse j.nodes.items j.oldest j.newest (us ++ i.free ∷ []))
    → ((fs : List ℕ) → times 65535 fs ≡ 0 → times h.before fs ≡ 0 → times i.free fs ≡ 0 → AreFree i.nodes.items i.free (i.free ∷ fs) → AreFree j.nodes.items j.free fs)
    → ((k : ℕ) → k ≢ i.free → less_links (node_at j.nodes.items k) ≡ less_links (node_at i.nodes.items k))
    → less_links (node_at j.nodes.items i.free) ≡ record { key = key; place = h.place; size = words; left = 0; right = 0; older = 0; newer = 0; live = true }
    → length j.nodes.items ≡ length i.nodes.items → Moved j (put key words h.place (area_of i))
entered_inside i j t key words h (hole_at g front rest at up parts last puts) some absent room es eg place ring chain others here n =
    by (spare i t room)
  where
    found : hole (area_of i) words ≡ Some h.place
    found = ap (λ (a : Area). hole a words) (table_is i t) ∙ at

    by : Spares i t → Moved j (put key words h.place (area_of i))
    by (spares fs ef) =
        entered_by i j t key words h.place h.before front rest fs es eg parts last ef (puts key words) place ring chain others here n
        (sound-put key words h.place (area_of i) (sound_of i t) absent some found)

-- a hole that is found is the area's, and none is where none is found
pub hole_tells : (i : Inside) (t : IsTable i) (words : ℕ) (o : Option Hole) → HoleIs i.nodes.items i.size words 0 65535 t.xs o
    → option_map (λ (h : Hole). h.place) o ≡ hole (area_of i) words
hole_tells i t words None (no_hole h) = sym h ∙ sym (ap (λ (a : Area). hole a words) (table_is i t))
hole_tells i t words (Some h) (hole_at g front rest at up parts last puts) = sym at ∙ sym (ap (λ (a : Area). hole a words) (table_is i t))

-- what the search for a hole finds
pub hole_gives : (i : Inside) (t : IsTable i) (words : ℕ) (ns : List Node) (o : Option Hole) → ns ≡ i.nodes.items
    → o ≡ hole_sought ns i.size words (length ns) 0 65535 i.first → 0 < words → HoleIs i.nodes.items i.size words 0 65535 t.xs o
hole_gives i t words ns o e f some =
    subst (HoleIs i.nodes.items i.size words 0 65535 t.xs)
    (sym (f ∙ ap (λ (l : List Node). hole_sought l i.size words (length l) 0 65535 i.first) e))
    (hole_is i.nodes.items i.first i.size words t.xs (listed i t) some t.sound.laid_out)

-- a table of free nodes
pub fresh_is : (j : Inside) (n : ℕ) → IsFresh j.nodes.items j.free n → n ≤ 65535 → j.first ≡ 65535 → j.oldest ≡ 65535 → j.newest ≡ 65535
    → length j.guesses.items ≡ n → IsTable j
fresh_is j n f few first oldest newest guesses = record {
  xs = [];
  us = [];
  fs = below n;
  few = let l = f.long in omega arith;
  linked = record {
    placed = record { last = 65535; forward = first; backward = refl; apart = (refl, tt) };
    used = record { forward = oldest; backward = newest; apart = (refl, tt) };
    spare = f.chain;
    same = λ k. refl;
    parts = λ k. (let e = times_below k n in let g : 0 + times k (below n) ≡ cond (nat_lt k n) 1 0 = omega arith in g) ∙ ap (λ c. cond (nat_lt k c) 1 0) (sym f.long);
    live = λ k. ap (λ b. cond b 1 0) (f.dead k);
    count = let l = f.long in let b = length_below n in omega arith;
    long = refl;
  };
  sound = record { laid_out = omega arith; once = λ k. omega arith; both = λ k. refl; long = refl };
  guesses = guesses ∙ sym f.long;
}
