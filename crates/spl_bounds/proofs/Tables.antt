-- A list in which each name stands once has no more names than a list that has them all. The names that a segment wants are taken one by one
-- from that list, of which there is always enough left.
use Rattle.std.proofs.Common.{◌≡◌, ◌≤◌, ◌⊎◌, inl, inr, ℕ, suc, ◌+◌, ◌&&◌, ◌||◌, Bool, true, false, if◌then◌else◌, List, [], ◌∷◌, ◌++◌, length, refl, sym, ap, ◌∙◌, arith}
use Rattle.std.specs.Bool.{beq}
use Rattle.std.specs.Str.{bytes_eq}
use Rattle.std.specs.List.{list_all}
use Rattle.std.proofs.lemmas.Bool.{and_parts, and_from}
use Rattle.std.proofs.lemmas.List.{length-append}
use Rattle.spl_carries.specs.spl_meaning.Names.{same_flag, same_name}
use Rattle.spl_carries.specs.spl_meaning.Bound.{Want}
use Rattle.spl_carries.specs.spl_meaning.Bound as bound
use Rattle.spl_module_words.specs.mpe_segmenter.Entries.{Own, Wanted, is_same, is_wanted, is_met, with_want, wants_from}
use Rattle.spl_module_words.proofs.mpe_segmenter_proofs.PartLemmas.{equal_is}
use Rattle.spl_module_words.proofs.mpe_segmenter_proofs.NameLemmas.{same_self}

-- ---- wants that are the same are equal

abbrev pub as_bound : Wanted → Want
as_bound w = record { gate = w.gate; name = w.name }

same_bound : (v w : Want) → (same_flag v.gate w.gate && same_name v.name w.name) ≡ true → v ≡ w
same_bound v w h = let both = and_parts (same_flag v.gate w.gate) (same_name v.name w.name) h in rw (equal_is v.name w.name both.1, flags v.gate w.gate both.0) refl
  where
    flags : (a b : Bool) → same_flag a b ≡ true → a ≡ b
    flags true true h = refl
    flags true false h = cc
    flags false true h = cc
    flags false false h = refl

pub bound_self : (w : Want) → (same_flag w.gate w.gate && same_name w.name w.name) ≡ true
bound_self w = and_from (same_flag w.gate w.gate) (same_name w.name w.name) (flags w.gate) (same_self w.name)
  where
    flags : (a : Bool) → same_flag a a ≡ true
    flags true = refl
    flags false = refl

same_wanted : (v w : Wanted) → is_same v w ≡ true → v ≡ w
same_wanted v w h = let both = and_parts (bytes_eq v.name w.name) (beq v.gate w.gate) h in rw (equal_is v.name w.name both.0, flags v.gate w.gate both.1) refl
  where
    flags : (a b : Bool) → beq a b ≡ true → a ≡ b
    flags true true h = refl
    flags true false h = cc
    flags false true h = cc
    flags false false h = refl

wanted_self : (w : Wanted) → is_same w w ≡ true
wanted_self w = and_from (bytes_eq w.name w.name) (beq w.gate w.gate) (same_self w.name) (flags w.gate)
  where
    flags : (a : Bool) → beq a a ≡ true
    flags true = refl
    flags false = refl

-- ---- a want is taken from a list

without : List Want → Want → List Want
without [] w = []
without (v ∷ vs) w = if same_flag v.gate w.gate && same_name v.name w.name then vs else v ∷ without vs w

less_one : (vs : List Want) (w : Want) → bound.is_wanted vs w ≡ true → suc (length (without vs w)) ≡ length vs
unfolding without
less_one [] w h = cc
less_one (v ∷ vs) w h = by (same_flag v.gate w.gate && same_name v.name w.name) h (λ g. less_one vs w g)
  where
    by : (b : Bool) → (if b then true else bound.is_wanted vs w) ≡ true → (bound.is_wanted vs w ≡ true → suc (length (without vs w)) ≡ length vs)
        → suc (length (if b then vs else v ∷ without vs w)) ≡ suc (length vs)
    by true h rest = refl
    by false h rest = ap suc (rest h)

-- another stays
others_stay : (vs : List Want) (w u : Want) → (u ≡ w → ⊥) → bound.is_wanted vs u ≡ true → bound.is_wanted (without vs w) u ≡ true
unfolding without
others_stay [] w u other h = cc
others_stay (v ∷ vs) w u other h =
    by (same_flag v.gate w.gate && same_name v.name w.name) (same_flag v.gate u.gate && same_name v.name u.name) refl refl h (λ g. others_stay vs w u other g)
  where
    by : (b c : Bool) → (same_flag v.gate w.gate && same_name v.name w.name) ≡ b → (same_flag v.gate u.gate && same_name v.name u.name) ≡ c
        → (if c then true else bound.is_wanted vs u) ≡ true → (bound.is_wanted vs u ≡ true → bound.is_wanted (without vs w) u ≡ true)
        → bound.is_wanted (if b then vs else v ∷ without vs w) u ≡ true
    by true true is there h rest = absurd (other (sym (same_bound v u there) ∙ same_bound v w is))
    by true false is there h rest = h
    by false true is there h rest = ap (λ (b : Bool). if b then true else bound.is_wanted (without vs w) u) there
    by false false is there h rest = ap (λ (b : Bool). if b then true else bound.is_wanted (without vs w) u) there ∙ rest h

-- ---- what was taken, and what is left

record Room (all : List Want) (taken : List Wanted) : Type 0 where
  left : List Want
  count : length taken + length left ≤ length all
  there : (w : Wanted) → bound.is_wanted all (as_bound w) ≡ true → (is_wanted w taken ≡ true) ⊎ (bound.is_wanted left (as_bound w) ≡ true)

pushed : (vs : List Wanted) (v w : Wanted) → is_wanted w vs ≡ true → is_wanted w (vs ++ v ∷ []) ≡ true
pushed [] v w h = cc
pushed (x ∷ vs) v w h = by (is_same w x) h (λ g. pushed vs v w g)
  where
    by : (b : Bool) → (b || is_wanted w vs) ≡ true → (is_wanted w vs ≡ true → is_wanted w (vs ++ v ∷ []) ≡ true) → (b || is_wanted w (vs ++ v ∷ [])) ≡ true
    by true h rest = refl
    by false h rest = rest h

pushed_self : (vs : List Wanted) (w v : Wanted) → is_same w v ≡ true → is_wanted w (vs ++ v ∷ []) ≡ true
pushed_self [] w v same = ap (λ (b : Bool). b || false) same
pushed_self (x ∷ vs) w v same = by (is_same w x) (pushed_self vs w v same)
  where
    by : (b : Bool) → is_wanted w (vs ++ v ∷ []) ≡ true → (b || is_wanted w (vs ++ v ∷ [])) ≡ true
    by true h = refl
    by false h = h

one_of : {A : Type 0} {b : Bool} → b ≡ false → (b ≡ true) ⊎ A → A
one_of {b = true} is (inl h) = cc
one_of {b = false} is (inl h) = cc
one_of is (inr a) = a

room_more : (all : List Want) (taken : List Wanted) (w : Wanted) → bound.is_wanted all (as_bound w) ≡ true → Room all taken → Room all (with_want taken w)
room_more all taken w wanted r = by (is_wanted w taken) refl
  where
    taken_off : is_wanted w taken ≡ false → Room all (taken ++ w ∷ [])
    taken_off new =
        let here : bound.is_wanted r.left (as_bound w) ≡ true = one_of new (r.there w wanted) in
        record {
          left = without r.left (as_bound w);
          count = fewer (length (taken ++ w ∷ [])) (length taken) (length r.left) (length (without r.left (as_bound w))) (length all)
              (length-append taken (w ∷ [])) (less_one r.left (as_bound w) here) r.count;
          there = λ u h. other u (r.there u h) (is_same u w) refl;
        }
      where
        fewer : (m t l k a : ℕ) → m ≡ t + 1 → suc k ≡ l → t + l ≤ a → m + k ≤ a
        fewer m t l k a h1 h2 h3 = omega (arith, h1, h2, h3)

        apart : (u : Wanted) → is_same u w ≡ false → as_bound u ≡ as_bound w → ⊥
        apart u is same = clash (sym (wanted_self w) ∙ ap (λ (v : Want). is_same (record { name = v.name; gate = v.gate }) w) (sym same) ∙ is)
          where
            clash : true ≡ false → ⊥
            clash e = cc

        other : (u : Wanted) → (is_wanted u taken ≡ true) ⊎ (bound.is_wanted r.left (as_bound u) ≡ true) → (b : Bool) → is_same u w ≡ b
            → (is_wanted u (taken ++ w ∷ []) ≡ true) ⊎ (bound.is_wanted (without r.left (as_bound w)) (as_bound u) ≡ true)
        other u (inl h) b is = inl (pushed taken w u h)
        other u (inr h) true is = inl (pushed_self taken u w is)
        other u (inr h) false is = inr (others_stay r.left (as_bound w) (as_bound u) (apart u is) h)

    by : (b : Bool) → is_wanted w taken ≡ b → Room all (if b then taken else taken ++ w ∷ [])
    by true is = r
    by false is = taken_off is

-- ---- the wants of a segment

room_from : (all : List Want) (os : List Own) (taken ws : List Wanted) → list_all (λ (w : Wanted). is_met os w || bound.is_wanted all (as_bound w)) ws ≡ true
    → Room all taken → Room all (wants_from os taken ws)
room_from all os taken [] h r = r
room_from all os taken (w ∷ ws) h r =
    let both = and_parts (is_met os w || bound.is_wanted all (as_bound w)) (list_all (λ (w : Wanted). is_met os w || bound.is_wanted all (as_bound w)) ws) h in
    room_from all os (if is_met os w then taken else with_want taken w) ws both.1 (by (is_met os w) both.0)
  where
    by : (b : Bool) → (b || bound.is_wanted all (as_bound w)) ≡ true → Room all (if b then taken else with_want taken w)
    by true h = r
    by false h = room_more all taken w h r

pub few_wants : (all : List Want) (os : List Own) (ws : List Wanted) → list_all (λ (w : Wanted). is_met os w || bound.is_wanted all (as_bound w)) ws ≡ true
    → length (wants_from os [] ws) ≤ length all
few_wants all os ws h = within (length (wants_from os [] ws)) (length last.left) (length all) last.count
  where
    first : Room all []
    first = record { left = all; count = none (length all); there = λ w is. inr is }
      where
        none : (n : ℕ) → 0 + n ≤ n
        none n = omega arith

    last : Room all (wants_from os [] ws)
    last = room_from all os [] ws h first

    within : (a b c : ℕ) → a + b ≤ c → a ≤ c
    within a b c le = omega (arith, le)
