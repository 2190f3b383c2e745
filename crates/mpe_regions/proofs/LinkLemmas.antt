-- Walks along links, and what the nodes of a table stand for.
use Rattle.std.proofs.Common.{◌≡◌, ℕ, zero, suc, ◌+◌, ◌<◌, ◌≤◌, Bool, true, false, cond, List, [], ◌∷◌, ◌++◌, length, map, Some, refl, sym, ap, subst, ◌∙◌, arith}
use Rattle.std.specs.Prelude.{◌==◌, nat_lt, option_map}
use Rattle.std.proofs.lemmas.Bool.Decides.{nat_tests}
use Rattle.mpe_links.specs.declared.node.Node.{Node}
use Rattle.mpe_links.specs.Lists.{times}
use Rattle.mpe_links.specs.Ways.{Goes}
use Rattle.mpe_links.specs.Nodes.{node_at, right_of, newer_of}
use Rattle.mpe_links.proofs.WayLaws.{not_first, times_append}
use Rattle.mpe_regions.specs.declared.regions.Regions.TheInside.{Inside}
use Rattle.mpe_regions.specs.Area as a
use Rattle.mpe_regions.specs.Area.{region_of, times_placed}
use Rattle.mpe_regions.specs.Sound.{IsSound}
use Rattle.mpe_regions.specs.LinkedForm.{region_at, key_at, walk, area_by, area_of, IsLinked, IsTable, IsListed, found_in}

-- ---- walks

stopped : (next : ℕ → ℕ) (n at : ℕ) → at ≡ 65535 → walk next n at ≡ []
stopped next zero at e = refl
stopped next (suc n) at e = let t : (at == 65535) ≡ true = grind (arith, nat_tests) in ap (λ b. cond b [] (at ∷ walk next n (next at))) t

pub walk_is : (next : ℕ → ℕ) (p : ℕ) (xs : List ℕ) (n : ℕ) → Goes next p xs 65535 → times 65535 xs ≡ 0 → length xs ≤ n → walk next n (next p) ≡ xs
walk_is next p [] n h t l = stopped next n (next p) h
walk_is next p (x ∷ xs) zero h t l = absurd (omega (arith, l))
walk_is next p (x ∷ xs) (suc n) h t l =
    let u = not_first 65535 x xs t in
    let no : (x == 65535) ≡ false = let d = u.0 in grind (arith, nat_tests) in
    ap (walk next (suc n)) h.0 ∙ ap (λ b. cond b [] (x ∷ walk next n (next x))) no ∙ ap (λ r. x ∷ r) (walk_is next x xs n h.1 u.1 (omega (arith, l)))

pub area_is : (nodes : List Node) (size first oldest newest free : ℕ) (xs us fs : List ℕ) → IsLinked nodes first oldest newest free xs us fs
    → area_by nodes size (walk (right_of nodes first) (length nodes) first) (walk (newer_of nodes oldest) (length nodes) oldest) ≡ area_by nodes size xs us
area_is nodes size first oldest newest free xs us fs l =
    let c = l.count in
    let g = l.long in
    let one = walk_is (right_of nodes first) 65535 xs (length nodes) l.placed.forward l.placed.apart.0 (omega arith) in
    let two = walk_is (newer_of nodes oldest) 65535 us (length nodes) l.used.forward l.used.apart.0 (omega arith) in
    ap (λ ys. area_by nodes size ys (walk (newer_of nodes oldest) (length nodes) oldest)) one ∙ ap (λ vs. area_by nodes size xs vs) two

pub table_is : (i : Inside) (t : IsTable i) → area_of i ≡ area_by i.nodes.items i.size t.xs t.us
table_is i t = area_is i.nodes.items i.size i.first i.oldest i.newest i.free t.xs t.us t.fs t.linked

pub sound_of : (i : Inside) (t : IsTable i) → IsSound (area_of i)
sound_of i t = subst IsSound (sym (table_is i t)) t.sound

-- ---- what a table keeps

pub all_within : (nodes : List Node) (first oldest newest free : ℕ) (xs us fs : List ℕ) → IsLinked nodes first oldest newest free xs us fs
    → (k : ℕ) → 0 < times k xs + times k fs → k < length nodes
all_within nodes first oldest newest free xs us fs l k h = by (nat_lt k (length nodes)) refl (l.parts k) where
  by : (t : Bool) → nat_lt k (length nodes) ≡ t → times k xs + times k fs ≡ cond t 1 0 → k < length nodes
  by true e p = grind (arith, nat_tests)
  by false e p = absurd (omega (arith, p))

pub at_most_one : (nodes : List Node) (first oldest newest free : ℕ) (xs us fs : List ℕ) → IsLinked nodes first oldest newest free xs us fs
    → (k : ℕ) → times k xs + times k fs ≤ 1
at_most_one nodes first oldest newest free xs us fs l k = by (nat_lt k (length nodes)) (l.parts k) where
  by : (t : Bool) → times k xs + times k fs ≡ cond t 1 0 → times k xs + times k fs ≤ 1
  by true p = omega (arith, p)
  by false p = omega (arith, p)

pub listed : (i : Inside) (t : IsTable i) → IsListed i.nodes.items i.first t.xs
listed i t = record {
  few = t.few;
  placed = t.linked.placed;
  within = λ k h. all_within i.nodes.items i.first i.oldest i.newest i.free t.xs t.us t.fs t.linked k (omega (arith, h));
  short = let c = t.linked.count in omega arith;
  live = λ k e. alive k e (t.linked.live k);
  once = t.sound.once;
} where
  alive : (k : ℕ) → (node_at i.nodes.items k).live ≡ true → cond ((node_at i.nodes.items k).live) 1 0 ≡ times k t.xs → 0 < times k t.xs
  alive k e h = let g : cond true 1 0 ≡ times k t.xs = subst (λ (b : Bool). cond b 1 0 ≡ times k t.xs) e h in omega arith

-- ---- keys

-- the node that is found has the key, and stands in the list
pub found_there : (nodes : List Node) (key : ℕ) (xs : List ℕ) (x : ℕ) → found_in nodes key xs ≡ Some x → (0 < times x xs) × (key_at nodes x ≡ key)
found_there nodes key [] x h = cc
found_there nodes key (y ∷ xs) x h = by (key_at nodes y == key) refl (λ g. found_there nodes key xs x g) h where
  by : (t : Bool) → (key_at nodes y == key) ≡ t → (found_in nodes key xs ≡ Some x → (0 < times x xs) × (key_at nodes x ≡ key))
      → cond t (Some y) (found_in nodes key xs) ≡ Some x → (0 < times x (y ∷ xs)) × (key_at nodes x ≡ key)
  by true e more h =
      let s : y ≡ x = cc in
      let k : key_at nodes y ≡ key = grind (arith, nat_tests) in
      (grind (arith, nat_tests), subst (λ (i : ℕ). key_at nodes i ≡ key) s k)
  by false e more h = let m = more h in let c = m.0 in (grind (arith, nat_tests), m.1)

pub region_is : (nodes : List Node) (key : ℕ) (xs : List ℕ) → region_of key (map (region_at nodes) xs) ≡ option_map (region_at nodes) (found_in nodes key xs)
region_is nodes key [] = refl
region_is nodes key (x ∷ xs) = by (key_at nodes x == key) (region_is nodes key xs) where
  by : (t : Bool) → region_of key (map (region_at nodes) xs) ≡ option_map (region_at nodes) (found_in nodes key xs)
      → cond t (Some (region_at nodes x)) (region_of key (map (region_at nodes) xs)) ≡ option_map (region_at nodes) (cond t (Some x) (found_in nodes key xs))
  by true h = refl
  by false h = h

-- a node of the list counts for its key
counted : (nodes : List Node) (key x : ℕ) (xs : List ℕ) → key_at nodes x ≡ key → times x xs ≤ times_placed key (map (region_at nodes) xs)
counted nodes key x [] e = omega arith
counted nodes key x (y ∷ xs) e = by (y == x) refl (key_at nodes y == key) refl (counted nodes key x xs e) where
  by : (t : Bool) → (y == x) ≡ t → (u : Bool) → (key_at nodes y == key) ≡ u → times x xs ≤ times_placed key (map (region_at nodes) xs)
      → cond t (1 + times x xs) (times x xs) ≤ cond u (1 + times_placed key (map (region_at nodes) xs)) (times_placed key (map (region_at nodes) xs))
  by true s true f h = omega (arith, h)
  by true s false f h =
      let q : y ≡ x = grind (arith, nat_tests) in
      let k : key_at nodes y ≡ key = ap (key_at nodes) q ∙ e in
      absurd (grind (arith, nat_tests))
  by false s true f h = omega (arith, h)
  by false s false f h = h

-- so a node with a key is the one that is found
pub found_is : (nodes : List Node) (key x : ℕ) (xs : List ℕ) → 0 < times x xs → key_at nodes x ≡ key → times_placed key (map (region_at nodes) xs) ≤ 1
    → found_in nodes key xs ≡ Some x
found_is nodes key x [] h e o = absurd (omega (arith, h))
found_is nodes key x (y ∷ xs) h e o =
    by (y == x) refl (key_at nodes y == key) refl (λ g p. found_is nodes key x xs g e p) (counted nodes key x xs e) h o where
      by : (t : Bool) → (y == x) ≡ t → (u : Bool) → (key_at nodes y == key) ≡ u
          → (0 < times x xs → times_placed key (map (region_at nodes) xs) ≤ 1 → found_in nodes key xs ≡ Some x)
          → times x xs ≤ times_placed key (map (region_at nodes) xs)
          → 0 < cond t (1 + times x xs) (times x xs) → cond u (1 + times_placed key (map (region_at nodes) xs)) (times_placed key (map (region_at nodes) xs)) ≤ 1
          → cond u (Some y) (found_in nodes key xs) ≡ Some x
      by true s true f more c h o = let q : y ≡ x = grind (arith, nat_tests) in ap Some q
      by true s false f more c h o =
          let q : y ≡ x = grind (arith, nat_tests) in
          let k : key_at nodes y ≡ key = ap (key_at nodes) q ∙ e in
          absurd (grind (arith, nat_tests))
      by false s true f more c h o = absurd (omega (arith, h, o, c))
      by false s false f more c h o = more h o

-- ---- lists

pub map_same : {B : Type 0} (f g : ℕ → B) (xs : List ℕ) → ((k : ℕ) → 0 < times k xs → f k ≡ g k) → map f xs ≡ map g xs
map_same f g [] s = refl
map_same f g (x ∷ xs) s =
    ap (λ y. y ∷ map f xs) (s x (grind (arith, nat_tests))) ∙ ap (λ ys. g x ∷ ys) (map_same f g xs (λ k h. s k (grind (arith, nat_tests))))

map_parts : {B : Type 0} (f : ℕ → B) (xs ys : List ℕ) → map f (xs ++ ys) ≡ map f xs ++ map f ys
map_parts f [] ys = refl
map_parts f (x ∷ xs) ys = ap (λ zs. f x ∷ zs) (map_parts f xs ys)

pub map_append : {B : Type 0} (f : ℕ → B) (xs ys : List ℕ) → map f (xs ++ ys) ≡ map f xs ++ map f ys
map_append f xs ys = map_parts f xs ys

pub times_moved : (k x : ℕ) (xs ys : List ℕ) → times k ((xs ++ ys) ++ x ∷ []) ≡ times k (xs ++ x ∷ ys)
times_moved k x xs ys =
    let e = times_append k (xs ++ ys) (x ∷ []) in
    let f = times_append k xs ys in
    let g = times_append k xs (x ∷ ys) in
    by (x == k) (times_append k xs ys) e f g
  where
    by : (t : Bool) → times k (xs ++ ys) ≡ times k xs + times k ys → times k ((xs ++ ys) ++ x ∷ []) ≡ times k (xs ++ ys) + times k (x ∷ [])
        → times k (xs ++ ys) ≡ times k xs + times k ys → times k (xs ++ x ∷ ys) ≡ times k xs + times k (x ∷ ys)
        → times k ((xs ++ ys) ++ x ∷ []) ≡ times k (xs ++ x ∷ ys)
    by t a b c d = grind (arith, nat_tests)
