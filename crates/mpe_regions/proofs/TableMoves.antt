-- What a move of the table makes of its lists and of its area.
use Rattle.std.proofs.Common.{◌≡◌, ◌≢◌, ℕ, ◌+◌, ◌-◌, ◌<◌, ◌≤◌, Bool, true, false, cond, List, [], ◌∷◌, ◌++◌, length, map, Some, refl, sym, ap, subst, ◌∙◌, arith, length-append}
use Rattle.std.specs.Prelude.{◌==◌, nat_lt, not}
use Rattle.std.proofs.lemmas.Bool.Decides.{nat_tests}
use Rattle.mpe_links.specs.declared.node.Node.{Node}
use Rattle.mpe_links.specs.Lists.{times}
use Rattle.mpe_links.specs.Writes.{Same, less_use}
use Rattle.mpe_links.specs.Rings.{InUse}
use Rattle.mpe_links.proofs.TableLemmas.{Parted, parted, part, placed_still, free_still}
use Rattle.mpe_regions.specs.Area as a
use Rattle.mpe_regions.specs.Area.{Area, times_used}
use Rattle.mpe_regions.specs.Loads.{forgotten, used}
use Rattle.mpe_regions.specs.Sound.{IsSound}
use Rattle.mpe_regions.specs.declared.regions.Regions.TheInside.{Inside}
use Rattle.mpe_regions.specs.LinkedForm.{region_at, key_at, area_by, area_of, IsLinked, IsTable, found_in}
use Rattle.mpe_regions.proofs.KeyLemmas.{others, others-absent, times-append}
use Rattle.mpe_regions.proofs.LinkLemmas.{table_is, found_there, map_same, map_append, times_moved}

-- an element in the middle, the only one with its key, is left out
mid_step : {X : Type 0} (f : X → ℕ) (key : ℕ) (y : X) (rest part : List X) → f y ≢ key → others f key rest ≡ part → others f key (y ∷ rest) ≡ y ∷ part
mid_step f key y rest part d h = by (f y == key) refl where
  by : (t : Bool) → (f y == key) ≡ t → cond (not t) (y ∷ others f key rest) (others f key rest) ≡ y ∷ part
  by true e = let s : f y ≡ key = grind (arith, nat_tests) in absurd (d s)
  by false e = ap (λ z. y ∷ z) h

mid_first : {X : Type 0} (f : X → ℕ) (key : ℕ) (x : X) (rest : List X) → f x ≡ key → a.times f key (x ∷ rest) ≤ 1 → others f key (x ∷ rest) ≡ rest
mid_first f key x rest e o = by (f x == key) refl o where
  by : (t : Bool) → (f x == key) ≡ t → cond t (1 + a.times f key rest) (a.times f key rest) ≤ 1 → cond (not t) (x ∷ others f key rest) (others f key rest) ≡ rest
  by true s o = others-absent f key rest (omega (arith, o))
  by false s o = absurd (grind (arith, nat_tests))

key_counts : {X : Type 0} (f : X → ℕ) (key : ℕ) (x : X) (rest : List X) → f x ≡ key → 1 ≤ a.times f key (x ∷ rest)
key_counts f key x rest e = grind (arith, nat_tests)

mid_by : {X : Type 0} (f : X → ℕ) (key : ℕ) (xs ys : List X) (x y : X) (t : Bool) → (f y == key) ≡ t → f x ≡ key
    → (a.times f key (xs ++ x ∷ ys) ≤ 1 → others f key (xs ++ x ∷ ys) ≡ xs ++ ys)
    → cond t (1 + a.times f key (xs ++ x ∷ ys)) (a.times f key (xs ++ x ∷ ys)) ≤ 1 → others f key (y ∷ xs ++ x ∷ ys) ≡ y ∷ xs ++ ys
mid_by f key xs ys x y true s e more o =
    let c = key_counts f key x ys e in
    let m = times-append f key xs (x ∷ ys) in
    absurd (omega (arith, o, c, m))
mid_by f key xs ys x y false s e more o = mid_step f key y (xs ++ x ∷ ys) (xs ++ ys) (λ q. grind (arith, nat_tests)) (more o)

pub others_mid : {X : Type 0} (f : X → ℕ) (key : ℕ) (xs ys : List X) (x : X) → f x ≡ key → a.times f key (xs ++ x ∷ ys) ≤ 1
    → others f key (xs ++ x ∷ ys) ≡ xs ++ ys
others_mid f key [] ys x e o = mid_first f key x ys e o
others_mid f key (y ∷ xs) ys x e o = mid_by f key xs ys x y (f y == key) refl e (others_mid f key xs ys x e) o

-- ---- a region is used again

pub record Touched (nodes n2 : List Node) (size first o2 w2 free key : ℕ) (xs us fs : List ℕ) : Type 0 where
  pub left : List ℕ
  pub linked : IsLinked n2 first o2 w2 free xs left fs
  pub area : area_by n2 size xs left ≡ used key (area_by nodes size xs us)

touched_at : (nodes n2 : List Node) (size first o w free o2 w2 key x : ℕ) (xs us fs front rest : List ℕ) → us ≡ front ++ x ∷ rest
    → IsLinked nodes first o w free xs us fs → IsSound (area_by nodes size xs us) → key_at nodes x ≡ key
    → InUse n2 o2 w2 ((front ++ rest) ++ x ∷ []) → Same less_use nodes n2 → length n2 ≡ length nodes → Touched nodes n2 size first o2 w2 free key xs us fs
touched_at nodes n2 size first o w free o2 w2 key x xs us fs front rest e l sound k ring s n =
    let still : (i : ℕ) → region_at n2 i ≡ region_at nodes i = λ i. ap (λ (m : Node). record { key = m.key; place = m.place; size = m.size }) (s i) in
    let keys : (i : ℕ) → key_at n2 i ≡ key_at nodes i = λ i. ap (λ (m : Node). m.key) (s i) in
    let turned : (i : ℕ) → times i ((front ++ rest) ++ x ∷ []) ≡ times i us = λ i. times_moved i x front rest ∙ ap (times i) (sym e) in
    let list : map (region_at n2) xs ≡ map (region_at nodes) xs = map_same (region_at n2) (region_at nodes) xs (λ i h. still i) in
    let once : times_used key (map (key_at nodes) us) ≤ 1 = let b = sound.both key in let c = sound.once key in omega arith in
    let spread : map (key_at nodes) us ≡ map (key_at nodes) front ++ key ∷ map (key_at nodes) rest =
    ap (map (key_at nodes)) e ∙ map_append (key_at nodes) front (x ∷ rest) ∙ ap (λ i. map (key_at nodes) front ++ i ∷ map (key_at nodes) rest) k in
    let left : forgotten key (map (key_at nodes) us) ≡ map (key_at nodes) front ++ map (key_at nodes) rest =
    ap (forgotten key) spread ∙ others_mid (λ i. i) key (map (key_at nodes) front) (map (key_at nodes) rest) key refl
    (subst (λ (z : List ℕ). times_used key z ≤ 1) spread once) in
    let order : map (key_at n2) ((front ++ rest) ++ x ∷ []) ≡ forgotten key (map (key_at nodes) us) ++ key ∷ [] =
    map_same (key_at n2) (key_at nodes) ((front ++ rest) ++ x ∷ []) (λ i h. keys i) ∙ map_append (key_at nodes) (front ++ rest) (x ∷ [])
    ∙ ap (λ z. map (key_at nodes) (front ++ rest) ++ z ∷ []) k ∙ ap (λ z. z ++ key ∷ []) (map_append (key_at nodes) front rest ∙ sym left) in
    record {
      left = (front ++ rest) ++ x ∷ [];
      linked = record {
        placed = placed_still nodes n2 first xs (λ i. ap (λ (m : Node). m.right) (s i)) (λ i. ap (λ (m : Node). m.left) (s i)) l.placed;
        used = ring;
        spare = free_still nodes n2 free fs (λ i. ap (λ (m : Node). m.right) (s i)) l.spare;
        same = λ i. turned i ∙ l.same i;
        parts = λ i. l.parts i ∙ ap (λ c. cond (nat_lt i c) 1 0) (sym n);
        live = λ i. ap (λ (m : Node). cond m.live 1 0) (s i) ∙ l.live i;
        count = l.count ∙ sym n;
        long = length_turned front rest x us e ∙ l.long;
      };
      area = ap (λ z. record { size = size; list = z; order = map (key_at n2) ((front ++ rest) ++ x ∷ []) }) list
          ∙ ap (λ z. record { size = size; list = map (region_at nodes) xs; order = z }) order;
    }
  where
    length_turned : (front rest : List ℕ) (x : ℕ) (us : List ℕ) → us ≡ front ++ x ∷ rest → length ((front ++ rest) ++ x ∷ []) ≡ length us
    length_turned front rest x us e =
        let f = length-append (front ++ rest) (x ∷ []) in
        let g = length-append front rest in
        let h = length-append front (x ∷ rest) in
        let i = ap length e in
        omega arith

pub touched_by : (nodes n2 : List Node) (size first o w free o2 w2 key x : ℕ) (xs us fs : List ℕ) → IsLinked nodes first o w free xs us fs
    → IsSound (area_by nodes size xs us) → found_in nodes key xs ≡ Some x
    → ((front rest : List ℕ) → InUse nodes o w (front ++ x ∷ rest) → InUse n2 o2 w2 ((front ++ rest) ++ x ∷ []))
    → Same less_use nodes n2 → length n2 ≡ length nodes → Touched nodes n2 size first o2 w2 free key xs us fs
touched_by nodes n2 size first o w free o2 w2 key x xs us fs l sound found moved s n =
    let there = found_there nodes key xs x found in
    let counts : 0 < times x us = let c = l.same x in let t = there.0 in omega arith in
    by (part x us counts) there.1
  where
    by : Parted x us → key_at nodes x ≡ key → Touched nodes n2 size first o2 w2 free key xs us fs
    by (parted front rest e) k =
        touched_at nodes n2 size first o w free o2 w2 key x xs us fs front rest e l sound k
        (moved front rest (subst (InUse nodes o w) e l.used)) s n

-- ---- tables

-- a table with an area
pub record Moved (j : Inside) (area : Area) : Type 0 where
  pub table : IsTable j
  pub is : area_of j ≡ area

pub touched_inside : (i j : Inside) (t : IsTable i) (key x : ℕ) → j.size ≡ i.size → j.first ≡ i.first → j.free ≡ i.free → length j.guesses.items ≡ length i.guesses.items
    → found_in i.nodes.items key t.xs ≡ Some x
    → ((front rest : List ℕ) → InUse i.nodes.items i.oldest i.newest (front ++ x ∷ rest) → InUse j.nodes.items j.oldest j.newest ((front ++ rest) ++ x ∷ []))
    → Same less_use i.nodes.items j.nodes.items → length j.nodes.items ≡ length i.nodes.items
    → IsSound (used key (area_of i)) → Moved j (used key (area_of i))
touched_inside i j t key x es ef er eg found moved s n sound =
    let m = touched_by i.nodes.items j.nodes.items i.size i.first i.oldest i.newest i.free j.oldest j.newest key x t.xs t.us t.fs t.linked t.sound found moved s n in
    let area : area_by j.nodes.items j.size t.xs m.left ≡ used key (area_of i) =
    ap (λ z. area_by j.nodes.items z t.xs m.left) es ∙ m.area ∙ ap (used key) (sym (table_is i t)) in
    let linked : IsLinked j.nodes.items j.first j.oldest j.newest j.free t.xs m.left t.fs =
    subst (λ (f : ℕ). IsLinked j.nodes.items f j.oldest j.newest j.free t.xs m.left t.fs) (sym ef)
    (subst (λ (f : ℕ). IsLinked j.nodes.items i.first j.oldest j.newest f t.xs m.left t.fs) (sym er) m.linked) in
    let table : IsTable j = record {
      xs = t.xs;
      us = m.left;
      fs = t.fs;
      few = let f = t.few in omega (arith, n);
      linked = linked;
      sound = subst IsSound (sym area) sound;
      guesses = eg ∙ t.guesses ∙ sym n;
    } in
    record { table = table; is = table_is j table ∙ area }
