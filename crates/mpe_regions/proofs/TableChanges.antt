-- What it makes of a table's lists and area that a region is given up, or entered.
use Rattle.std.proofs.Common.{◌≡◌, ◌≢◌, ℕ, suc, ◌+◌, ◌-◌, ◌<◌, ◌≤◌, Bool, true, false, cond, List, [], ◌∷◌, ◌++◌, length, map, refl, sym, ap, subst, ◌∙◌, arith, length-append}
use Rattle.std.specs.Prelude.{◌==◌, nat_lt}
use Rattle.std.proofs.lemmas.Bool.Decides.{nat_tests}
use Rattle.mpe_links.specs.declared.node.Node.{Node}
use Rattle.mpe_links.specs.Lists.{times, Apart}
use Rattle.mpe_links.specs.Nodes.{node_at}
use Rattle.mpe_links.specs.Writes.{less_links}
use Rattle.mpe_links.specs.Rings.{InUse, InPlace, AreFree}
use Rattle.mpe_links.proofs.WayLaws.{times_append}
use Rattle.mpe_links.proofs.TableLemmas.{apart_absent}
use Rattle.mpe_regions.specs.declared.region.Region.{Region}
use Rattle.mpe_regions.specs.Area.{times_placed, times_used}
use Rattle.mpe_regions.specs.Loads.{placed, put, without, forgotten, dropped}
use Rattle.mpe_regions.specs.Sound.{IsSound}
use Rattle.mpe_regions.specs.LinkedForm.{region_at, key_at, area_by, IsLinked}
use Rattle.mpe_regions.proofs.LinkLemmas.{map_same, map_append}
use Rattle.mpe_regions.proofs.TableMoves.{others_mid}

-- how often a number stands in a list with x put in
times_front : (k x : ℕ) (xs : List ℕ) → times k (x ∷ xs) ≡ times k (x ∷ []) + times k xs
times_front k x xs = by (x == k) where
  by : (t : Bool) → cond t (1 + times k xs) (times k xs) ≡ cond t (1 + 0) 0 + times k xs
  by true = omega arith
  by false = omega arith

times_cut : (k x : ℕ) (xs ys : List ℕ) → times k (xs ++ x ∷ ys) ≡ times k (x ∷ []) + times k (xs ++ ys)
times_cut k x xs ys =
    let e = times_append k xs (x ∷ ys) in
    let f = times_append k xs ys in
    let g = times_front k x ys in
    omega arith

times_end : (k x : ℕ) (xs : List ℕ) → times k (xs ++ x ∷ []) ≡ times k (x ∷ []) + times k xs
times_end k x xs = let e = times_append k xs (x ∷ []) in omega arith

times_self : (x : ℕ) → times x (x ∷ []) ≡ 1
times_self x = grind (arith, nat_tests)

times_none : (k x : ℕ) → k ≢ x → times k (x ∷ []) ≡ 0
times_none k x d = grind (arith, nat_tests)

length_cut : (x : ℕ) (xs ys : List ℕ) → length (xs ++ x ∷ ys) ≡ suc (length (xs ++ ys))
length_cut x xs ys = let e = length-append xs (x ∷ ys) in let f = length-append xs ys in omega arith

-- two numbers are equal or not
either : {P : Type 0} (k x : ℕ) → (k ≡ x → P) → (k ≢ x → P) → P
either {P = P} k x f g = by (k == x) refl where
  by : (t : Bool) → (k == x) ≡ t → P
  by true e = f (grind (arith, nat_tests))
  by false e = g (λ s. grind (arith, nat_tests))

region_by : (n m : List Node) (k : ℕ) → less_links (node_at n k) ≡ less_links (node_at m k) → region_at n k ≡ region_at m k
region_by n m k e = ap (λ (o : Node). record { key = o.key; place = o.place; size = o.size }) e

-- ---- given up

pub record Released (nodes n3 : List Node) (size f3 o3 w3 r3 key x : ℕ) (front rest before behind : List ℕ) (xs us fs : List ℕ) : Type 0 where
  pub linked : IsLinked n3 f3 o3 w3 r3 (front ++ rest) (before ++ behind) (x ∷ fs)
  pub area : area_by n3 size (front ++ rest) (before ++ behind) ≡ dropped key (area_by nodes size xs us)

pub released : (nodes n3 : List Node) (size first o w free f3 o3 w3 r3 key x : ℕ) (xs us fs front rest before behind : List ℕ)
    → xs ≡ front ++ x ∷ rest → us ≡ before ++ x ∷ behind → IsLinked nodes first o w free xs us fs → IsSound (area_by nodes size xs us) → key_at nodes x ≡ key
    → InPlace n3 f3 (front ++ rest) → InUse n3 o3 w3 (before ++ behind) → AreFree n3 r3 (x ∷ fs)
    → ((k : ℕ) → k ≢ x → less_links (node_at n3 k) ≡ less_links (node_at nodes k)) → (node_at n3 x).live ≡ false → length n3 ≡ length nodes
    → Released nodes n3 size f3 o3 w3 r3 key x front rest before behind xs us fs
released nodes n3 size first o w free f3 o3 w3 r3 key x xs us fs front rest before behind ex eu l sound k place ring chain others dead n =
    let cut : (i : ℕ) → times i xs ≡ times i (x ∷ []) + times i (front ++ rest) = λ i. ap (times i) ex ∙ times_cut i x front rest in
    let cut_use : (i : ℕ) → times i us ≡ times i (x ∷ []) + times i (before ++ behind) = λ i. ap (times i) eu ∙ times_cut i x before behind in
    let gone : times x (front ++ rest) ≡ 0 = apart_absent x front rest (subst (λ (z : List ℕ). Apart (65535 ∷ z)) ex l.placed.apart).1 in
    let gone_use : times x (before ++ behind) ≡ 0 = apart_absent x before behind (subst (λ (z : List ℕ). Apart (65535 ∷ z)) eu l.used.apart).1 in
    let once = sound.once key in
    let once_use : times_used key (map (key_at nodes) us) ≤ 1 = let b = sound.both key in omega arith in
    let regions : map (region_at nodes) xs ≡ map (region_at nodes) front ++ region_at nodes x ∷ map (region_at nodes) rest =
    ap (map (region_at nodes)) ex ∙ map_append (region_at nodes) front (x ∷ rest) in
    let keys : map (key_at nodes) us ≡ map (key_at nodes) before ++ key_at nodes x ∷ map (key_at nodes) behind =
    ap (map (key_at nodes)) eu ∙ map_append (key_at nodes) before (x ∷ behind) in
    let list : map (region_at n3) (front ++ rest) ≡ without key (map (region_at nodes) xs) =
    map_same (region_at n3) (region_at nodes) (front ++ rest) (λ i h. region_by n3 nodes i (others i (λ s. absent_not i (front ++ rest) s gone h)))
    ∙ map_append (region_at nodes) front rest
    ∙ sym (ap (without key) regions ∙ others_mid (λ (r : Region). r.key) key (map (region_at nodes) front) (map (region_at nodes) rest) (region_at nodes x) k
    (subst (λ (z : List Region). times_placed key z ≤ 1) regions once)) in
    let order : map (key_at n3) (before ++ behind) ≡ forgotten key (map (key_at nodes) us) =
    map_same (key_at n3) (key_at nodes) (before ++ behind) (λ i h. ap (λ (m : Node). m.key) (others i (λ s. absent_not i (before ++ behind) s gone_use h)))
    ∙ map_append (key_at nodes) before behind
    ∙ sym (ap (forgotten key) keys ∙ others_mid (λ i. i) key (map (key_at nodes) before) (map (key_at nodes) behind) (key_at nodes x) k
    (subst (λ (z : List ℕ). times_used key z ≤ 1) keys once_use)) in
    record {
      linked = record {
        placed = place;
        used = ring;
        spare = chain;
        same = λ i. let p = cut i in let q = cut_use i in let s = l.same i in omega arith;
        parts = λ i. (let p = cut i in let q = times_front i x fs in let e : times i (front ++ rest) + times i (x ∷ fs) ≡ times i xs + times i fs = omega arith in e)
            ∙ l.parts i ∙ ap (λ c. cond (nat_lt i c) 1 0) (sym n);
        live = λ i. either i x
            (λ s. subst (λ (z : ℕ). cond ((node_at n3 z).live) 1 0 ≡ times z (front ++ rest)) (sym s) (ap (λ b. cond b 1 0) dead ∙ sym gone))
            (λ d. ap (λ (m : Node). cond m.live 1 0) (others i d) ∙ l.live i ∙ (let p = cut i in let z = times_none i x d in let e : times i xs ≡ times i (front ++ rest) = omega arith in e));
        count = let c = l.count in let p = ap length ex in let q = length_cut x front rest in omega arith;
        long = let c = l.long in let p = ap length ex in let q = length_cut x front rest in let s = ap length eu in let t = length_cut x before behind in omega arith;
      };
      area = ap (λ z. record { size = size; list = z; order = map (key_at n3) (before ++ behind) }) list
          ∙ ap (λ z. record { size = size; list = without key (map (region_at nodes) xs); order = z }) order;
    }
  where
    absent_not : (i : ℕ) (zs : List ℕ) → i ≡ x → times x zs ≡ 0 → 0 < times i zs → ⊥
    absent_not i zs s z h = let e : times i zs ≡ 0 = ap (λ j. times j zs) s ∙ z in absurd (omega arith)

-- ---- entered

pub record Entered (nodes n3 : List Node) (size f3 o3 w3 r3 key at words x : ℕ) (front rest : List ℕ) (xs us fs : List ℕ) : Type 0 where
  pub linked : IsLinked n3 f3 o3 w3 r3 (front ++ x ∷ rest) (us ++ x ∷ []) fs
  pub area : area_by n3 size (front ++ x ∷ rest) (us ++ x ∷ []) ≡ put key words at (area_by nodes size xs us)

pub entered : (nodes n3 : List Node) (size first o w f3 o3 w3 r3 key at words x : ℕ) (xs us fs front rest : List ℕ)
    → xs ≡ front ++ rest → IsLinked nodes first o w x xs us (x ∷ fs) → x < length nodes
    → placed (record { key = key; place = at; size = words }) (map (region_at nodes) xs)
    ≡ map (region_at nodes) front ++ record { key = key; place = at; size = words } ∷ map (region_at nodes) rest
    → InPlace n3 f3 (front ++ x ∷ rest) → InUse n3 o3 w3 (us ++ x ∷ []) → AreFree n3 r3 fs
    → ((k : ℕ) → k ≢ x → less_links (node_at n3 k) ≡ less_links (node_at nodes k))
    → less_links (node_at n3 x) ≡ record { key = key; place = at; size = words; left = 0; right = 0; older = 0; newer = 0; live = true } → length n3 ≡ length nodes
    → Entered nodes n3 size f3 o3 w3 r3 key at words x front rest xs us fs
entered nodes n3 size first o w f3 o3 w3 r3 key at words x xs us fs front rest ex l within puts place ring chain others here n =
    let r : Region = record { key = key; place = at; size = words } in
    let new : region_at n3 x ≡ r = ap (λ (m : Node). record { key = m.key; place = m.place; size = m.size }) here in
    let name : key_at n3 x ≡ key = ap (λ (m : Node). m.key) here in
    let free : times x xs ≡ 0 = absent_here in
    let free_use : times x us ≡ 0 = l.same x ∙ free in
    let parts : times x (front ++ rest) ≡ 0 = ap (times x) (sym ex) ∙ free in
    let sides = times_append x front rest in
    let still : (zs : List ℕ) → times x zs ≡ 0 → map (region_at n3) zs ≡ map (region_at nodes) zs =
    λ zs z. map_same (region_at n3) (region_at nodes) zs (λ i h. region_by n3 nodes i (others i (λ s. absent_not i zs s z h))) in
    let list : map (region_at n3) (front ++ x ∷ rest) ≡ placed r (map (region_at nodes) xs) =
    map_append (region_at n3) front (x ∷ rest)
    ∙ ap (λ z. z ++ region_at n3 x ∷ map (region_at n3) rest) (still front (omega arith))
    ∙ ap (λ z. map (region_at nodes) front ++ z ∷ map (region_at n3) rest) new
    ∙ ap (λ z. map (region_at nodes) front ++ r ∷ z) (still rest (omega arith)) ∙ sym puts in
    let order : map (key_at n3) (us ++ x ∷ []) ≡ map (key_at nodes) us ++ key ∷ [] =
    map_append (key_at n3) us (x ∷ [])
    ∙ ap (λ z. z ++ key_at n3 x ∷ []) (map_same (key_at n3) (key_at nodes) us (λ i h. ap (λ (m : Node). m.key) (others i (λ s. absent_not i us s free_use h))))
    ∙ ap (λ z. map (key_at nodes) us ++ z ∷ []) name in
    let cut : (i : ℕ) → times i (front ++ x ∷ rest) ≡ times i (x ∷ []) + times i xs = λ i. times_cut i x front rest ∙ ap (λ z. times i (x ∷ []) + times i z) (sym ex) in
    record {
      linked = record {
        placed = place;
        used = ring;
        spare = chain;
        same = λ i. let p = cut i in let q = times_end i x us in let s = l.same i in omega arith;
        parts = λ i. (let p = cut i in let q = times_front i x fs in let e : times i (front ++ x ∷ rest) + times i fs ≡ times i xs + times i (x ∷ fs) = omega arith in e)
            ∙ l.parts i ∙ ap (λ c. cond (nat_lt i c) 1 0) (sym n);
        live = λ i. either i x
            (λ s. subst (λ (z : ℕ). cond ((node_at n3 z).live) 1 0 ≡ times z (front ++ x ∷ rest)) (sym s)
            (ap (λ (m : Node). cond m.live 1 0) here ∙ (let p = cut x in let q = times_self x in let e : 1 ≡ times x (front ++ x ∷ rest) = omega arith in e)))
            (λ d. ap (λ (m : Node). cond m.live 1 0) (others i d) ∙ l.live i ∙ (let p = cut i in let z = times_none i x d in let e : times i xs ≡ times i (front ++ x ∷ rest) = omega arith in e));
        count = let c = l.count in let p = ap length ex in let q = length_cut x front rest in omega arith;
        long = let c = l.long in let p = ap length ex in let q = length_cut x front rest in let s = length-append us (x ∷ []) in omega arith;
      };
      area = ap (λ z. record { size = size; list = z; order = map (key_at n3) (us ++ x ∷ []) }) list
          ∙ ap (λ z. record { size = size; list = placed r (map (region_at nodes) xs); order = z }) order;
    }
  where
    absent_here : times x xs ≡ 0
    absent_here = by (nat_lt x (length nodes)) (l.parts x) (times_front x x fs) (times_self x) where
      by : (t : Bool) → times x xs + times x (x ∷ fs) ≡ cond t 1 0 → times x (x ∷ fs) ≡ times x (x ∷ []) + times x fs → times x (x ∷ []) ≡ 1 → times x xs ≡ 0
      by true p q s = omega (arith, p, q, s)
      by false p q s = omega (arith, p, q, s)

    absent_not : (i : ℕ) (zs : List ℕ) → i ≡ x → times x zs ≡ 0 → 0 < times i zs → ⊥
    absent_not i zs s z h = let e : times i zs ≡ 0 = ap (λ j. times j zs) s ∙ z in absurd (omega arith)
