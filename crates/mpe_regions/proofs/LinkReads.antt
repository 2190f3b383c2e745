-- What is read of a table: whether it is full, its oldest key, the region of a key.
use Rattle.std.proofs.Common.{◌≡◌, ℕ, suc, ◌-◌, ◌<◌, true, false, cond, List, [], ◌∷◌, ◌++◌, length, map, Option, None, Some, refl, sym, ap, subst, ◌∙◌, arith}
use Rattle.std.specs.Prelude.{◌==◌, nat_lt, nat_le, option_map, slice_get, is_some, IfSome}
use Rattle.std.proofs.lemmas.Bool.{lt-ltb, le-ltb, eq-eqb, ne_eqb, le-leb, lt-leb}
use Rattle.std.proofs.lemmas.Bool.Decides.{nat_tests}
use Rattle.std.proofs.lemmas.List.{length-map}
use Rattle.mpe_links.specs.declared.node.Node.{Node}
use Rattle.mpe_links.specs.Lists.{times}
use Rattle.mpe_links.specs.Nodes.{right_of, newer_of}
use Rattle.mpe_links.specs.Ways.{Goes}
use Rattle.mpe_regions.specs.declared.regions.Regions.TheInside.{Inside}
use Rattle.mpe_regions.specs.Area.{Area, region_of, is_live, oldest_of}
use Rattle.mpe_regions.specs.Loads.{used, touched, dropped}
use Rattle.mpe_regions.specs.LinkedForm.{region_at, key_at, area_of, kept_by, IsTable, IsListed, found_in}
use Rattle.mpe_links.specs.Rings.{InUse}
use Rattle.mpe_links.proofs.TableLemmas.{Parted, parted, part}
use Rattle.mpe_regions.proofs.SoundLemmas.{dropped-absent}
use Rattle.mpe_regions.proofs.LinkLemmas.{table_is, sound_of, all_within, listed, region_is, found_there}

full_by : (i : Inside) (t : IsTable i) (fs : List ℕ) → t.fs ≡ fs → (i.free == 65535) ≡ nat_le (length i.nodes.items) (length t.xs)
full_by i t [] e =
    let way : Goes (right_of i.nodes.items i.free) 65535 [] 65535 = subst (λ (f : List ℕ). Goes (right_of i.nodes.items i.free) 65535 f 65535) e t.linked.spare in
    let c = t.linked.count in
    let z : length t.fs ≡ 0 = ap length e in
    eq-eqb i.free 65535 way ∙ sym (le-leb (length i.nodes.items) (length t.xs) (omega arith))
full_by i t (x ∷ fs) e =
    let way : Goes (right_of i.nodes.items i.free) 65535 (x ∷ fs) 65535 =
    subst (λ (f : List ℕ). Goes (right_of i.nodes.items i.free) 65535 f 65535) e t.linked.spare in
    let c = t.linked.count in
    let z : length t.fs ≡ suc (length fs) = ap length e in
    let in_list : 0 < times x t.fs = subst (λ (f : List ℕ). 0 < times x f) (sym e) (here x fs) in
    let within = all_within i.nodes.items i.first i.oldest i.newest i.free t.xs t.us t.fs t.linked x (omega (arith, in_list)) in
    let few = t.few in
    let first = way.0 in
    ne_eqb i.free 65535 (λ s. absurd (omega (arith, s, first, within, few))) ∙ sym (lt-leb (length i.nodes.items) (length t.xs) (omega arith))
  where
    here : (x : ℕ) (fs : List ℕ) → 0 < times x (x ∷ fs)
    here x fs = grind (arith, nat_tests)

pub full_is : (i : Inside) (t : IsTable i) → (i.free == 65535) ≡ nat_le (kept_by i).room (length (kept_by i).area.list)
full_is i t =
    full_by i t t.fs refl ∙ ap (nat_le (length i.nodes.items)) (sym (length-map t.xs (region_at i.nodes.items)) ∙ sym (ap (λ (a : Area). length a.list) (table_is i t)))

oldest_by : (i : Inside) (t : IsTable i) (us : List ℕ) → t.us ≡ us
    → cond (nat_lt i.oldest (length i.nodes.items)) (Some (key_at i.nodes.items i.oldest)) None ≡ slice_get (map (key_at i.nodes.items) us) 0
oldest_by i t [] e =
    let way : Goes (newer_of i.nodes.items i.oldest) 65535 [] 65535 = subst (λ (f : List ℕ). Goes (newer_of i.nodes.items i.oldest) 65535 f 65535) e t.linked.used.forward in
    let few = t.few in
    ap (λ b. cond b (Some (key_at i.nodes.items i.oldest)) None) (le-ltb i.oldest (length i.nodes.items) (omega (arith, way)))
oldest_by i t (x ∷ us) e =
    let way : Goes (newer_of i.nodes.items i.oldest) 65535 (x ∷ us) 65535 =
    subst (λ (f : List ℕ). Goes (newer_of i.nodes.items i.oldest) 65535 f 65535) e t.linked.used.forward in
    let first : i.oldest ≡ x = way.0 in
    let in_list : 0 < times x t.us = subst (λ (f : List ℕ). 0 < times x f) (sym e) (here x us) in
    let same = t.linked.same x in
    let within = all_within i.nodes.items i.first i.oldest i.newest i.free t.xs t.us t.fs t.linked x (omega (arith, in_list, same)) in
    ap (λ b. cond b (Some (key_at i.nodes.items i.oldest)) None) (lt-ltb i.oldest (length i.nodes.items) (omega (arith, first, within)))
    ∙ ap (λ o. Some (key_at i.nodes.items o)) first
  where
    here : (x : ℕ) (us : List ℕ) → 0 < times x (x ∷ us)
    here x us = grind (arith, nat_tests)

pub oldest_is : (i : Inside) (t : IsTable i)
    → cond (nat_lt i.oldest (length i.nodes.items)) (Some (key_at i.nodes.items i.oldest)) None ≡ oldest_of (kept_by i).area
oldest_is i t = oldest_by i t t.us refl ∙ ap (λ (a : Area). slice_get a.order 0) (sym (table_is i t))

-- a key that is found is in a node of the table
pub found_within : (i : Inside) (t : IsTable i) (key : ℕ) (o : Option ℕ) → o ≡ found_in i.nodes.items key t.xs → IfSome o (λ x. x < length i.nodes.items)
found_within i t key None e = tt
found_within i t key (Some x) e =
    let there = found_there i.nodes.items key t.xs x (sym e) in
    let c = there.0 in
    all_within i.nodes.items i.first i.oldest i.newest i.free t.xs t.us t.fs t.linked x (omega (arith, c))

pub region_found : (i : Inside) (t : IsTable i) (key : ℕ) (o : Option ℕ) → o ≡ found_in i.nodes.items key t.xs
    → option_map (region_at i.nodes.items) o ≡ region_of key (kept_by i).area.list
region_found i t key o e =
    ap (option_map (region_at i.nodes.items)) e ∙ sym (region_is i.nodes.items key t.xs) ∙ ap (λ (a : Area). region_of key a.list) (sym (table_is i t))

-- what a search answers, by the table's own list
pub find_gives : (i : Inside) (t : IsTable i) (key : ℕ) (ns : List Node) (o : Option ℕ) → ns ≡ i.nodes.items
    → ((xs : List ℕ) → IsListed ns i.first xs → o ≡ found_in ns key xs) → o ≡ found_in i.nodes.items key t.xs
find_gives i t key ns o e f =
    subst (λ (l : List Node). o ≡ found_in l key t.xs) e (f t.xs (subst (λ (l : List Node). IsListed l i.first t.xs) (sym e) (listed i t)))

-- what is needed of a node that is used again
pub renew_needs : (i : Inside) (t : IsTable i) (key x : ℕ) → found_in i.nodes.items key t.xs ≡ Some x
    → (us vs : List ℕ) × InUse i.nodes.items i.oldest i.newest (us ++ x ∷ vs) × ((k : ℕ) → 0 < times k (us ++ x ∷ vs) → k < length i.nodes.items)
renew_needs i t key x found =
    let there = found_there i.nodes.items key t.xs x found in
    let counts : 0 < times x t.us = let c = t.linked.same x in let h = there.0 in omega arith in
    by (part x t.us counts)
  where
    inside : (k : ℕ) → 0 < times k t.us → k < length i.nodes.items
    inside k h = let s = t.linked.same k in all_within i.nodes.items i.first i.oldest i.newest i.free t.xs t.us t.fs t.linked k (omega (arith, s, h))

    by : Parted x t.us → (us vs : List ℕ) × InUse i.nodes.items i.oldest i.newest (us ++ x ∷ vs) × ((k : ℕ) → 0 < times k (us ++ x ∷ vs) → k < length i.nodes.items)
    by (parted front rest e) =
        (front, rest, subst (InUse i.nodes.items i.oldest i.newest) e t.linked.used, λ k h. inside k (subst (λ (l : List ℕ). 0 < times k l) (sym e) h))

-- a key that is not found is not live, and one that is found is
pub live_is : (i : Inside) (t : IsTable i) (key : ℕ) (o : Option ℕ) → o ≡ found_in i.nodes.items key t.xs → is_some o ≡ is_live key (kept_by i).area
live_is i t key None e = ap is_some (region_found i t key None e)
live_is i t key (Some x) e = ap is_some (region_found i t key (Some x) e)

pub touched_absent : (key : ℕ) (a : Area) → false ≡ is_live key a → a ≡ touched key a
touched_absent key a h = ap (λ b. cond b (used key a) a) h

pub touched_live : (key : ℕ) (a : Area) → true ≡ is_live key a → used key a ≡ touched key a
touched_live key a h = ap (λ b. cond b (used key a) a) h

-- the drop of a key that is not found changes nothing
pub dropped_none : (i : Inside) (t : IsTable i) (key : ℕ) → None ≡ found_in i.nodes.items key t.xs → area_of i ≡ dropped key (area_of i)
dropped_none i t key e = sym (dropped-absent key (area_of i) (sound_of i t) (sym (region_found i t key None e)))
