-- Parameters and results are near, and what stands in two tables one before the other.
use Rattle.std.proofs.Common.{ℕ, ◌≡◌, ◌+◌, ◌≤◌, ◌⊎◌, inl, inr, Bool, true, false, if◌then◌else◌, List, [], ◌∷◌, ◌++◌, Option, Some, None, refl, sym, ap, subst, ◌∙◌, arith}
use Rattle.spl_sound_names.specs.spl_tree.declared.expressions.Kind.{Kind}
use Rattle.spl_sound_names.specs.spl_meaning.Names.{Table, Formal, Profile, find, or_else, same_name, profile_of}
use Rattle.spl_sound_names.specs.spl_meaning.Places.{Place, data_word, above_base, below_base, below_return}
use Rattle.spl_sound_names.specs.spl_meaning.Pending.{formal_words, formals_words, result_words}
use Rattle.spl_sound_names.specs.spl_meaning.References.{Setting}
use Rattle.spl_sound_names.specs.spl_meaning.Bodies.{parameter_places, result_place, result_by, words_held}
use Rattle.spl_near_places.specs.Near.{IsNear}
use Rattle.spl_near_places.specs.Laws.{SubroutinesAreNear}

-- ---- one table before another

-- what is found in the first, or else in the second
pub either : {A : Type 0} (o u : Option A) (a : A) → or_else o u ≡ Some a → (o ≡ Some a) ⊎ (u ≡ Some a)
either (Some b) u a is = inl is
either None u a is = inr is

pub found_in : {A : Type 0} (t u : Table A) (x : List ℕ) (a : A) → find (t ++ u) x ≡ Some a → (find t x ≡ Some a) ⊎ (find u x ≡ Some a)
found_in [] u x a is = inr is
found_in (e ∷ t) u x a is = by (same_name x e.0) (find t x) is (found_in t u x a)
  where
    by : (b : Bool) (o : Option _) → (if b then Some e.1 else find (t ++ u) x) ≡ Some a → (find (t ++ u) x ≡ Some a → (o ≡ Some a) ⊎ (find u x ≡ Some a))
        → ((if b then Some e.1 else o) ≡ Some a) ⊎ (find u x ≡ Some a)
    by true o here later = inl here
    by false o here later = later here

-- ---- parameters

-- a place that is no further below than this
pub record Below (below : ℕ → Place) (most : ℕ) (p : Place) : Type 0 where
  pub n : ℕ
  pub is : p ≡ below n
  pub few : n ≤ most

some_same : {A : Type 0} (a b : A) → Some a ≡ Some b → a ≡ b
some_same a b same = cc

rest_fits : (n gap w rest : ℕ) → n ≤ gap + rest → n ≤ gap + (w + rest)
rest_fits n gap w rest h = omega arith

first_fits : (gap w rest : ℕ) → gap + w + rest ≤ gap + (w + rest)
first_fits gap w rest = omega arith

-- a parameter stands no further below than all of them have words
pub parameter_below : (below : ℕ → Place) (gap : ℕ) (fs : List Formal) (x : List ℕ) (p : Place) → find (parameter_places below gap fs) x ≡ Some p
    → Below below (gap + formals_words fs) p
parameter_below below gap [] x p is = cc
parameter_below below gap (f ∷ fs) x p is = by (same_name x f.name) (parameter_below below gap fs x p) is
  where
    by : (b : Bool) → (find (parameter_places below gap fs) x ≡ Some p → Below below (gap + formals_words fs) p)
        → (if b then Some (below (gap + formal_words f + formals_words fs)) else find (parameter_places below gap fs) x) ≡ Some p
        → Below below (gap + (formal_words f + formals_words fs)) p
    by true later here = record {
      n = gap + formal_words f + formals_words fs;
      is = sym (some_same _ p here);
      few = first_fits gap (formal_words f) (formals_words fs);
    }
    by false later here =
        let k = later here in record { n = k.n; is = k.is; few = rest_fits k.n gap (formal_words f) (formals_words fs) k.few }

-- ---- results

-- a result with its kind
abbrev pub of_kind : Kind → Place → Option (Kind × Place)
of_kind k p = Some (k, p)

place_same : (k t : Kind) (p q : Place) → of_kind k p ≡ of_kind t q → p ≡ q
place_same k t p q same = by (some_same _ _ same)
  where
    by : {a b : Kind × Place} → a ≡ b → a.1 ≡ b.1
    by is = ap (λ (e : Kind × Place). e.1) is

-- a result has the place that it is said to have
pub result_there : (name : List ℕ) (o : Option Kind) (place : Place) (x : List ℕ) (k : Kind) (p : Place) → result_by name o place x ≡ of_kind k p → p ≡ place
result_there name None place x k p is = cc
result_there name (Some t) place x k p is = by (same_name x name) is
  where
    by : (b : Bool) → (if b then of_kind t place else None) ≡ of_kind k p → p ≡ place
    by true here = sym (place_same t k place p here)
    by false here = cc

-- ---- subroutines

-- what is near in a body is near in a subroutine of it
near_inside : (st : Setting) (held : ℕ) (p : Place) → st.inside ≡ false → IsNear st p → IsNear (record st { inside = true; held = held }) p
near_inside st held (data_word a) outer near = near
near_inside st held (above_base n) outer near = near
near_inside st held (below_base n) outer near = near
near_inside st held (below_return n) outer near = let e = sym outer ∙ near.1 in cc

-- a place below the return word, no further than the words there
held_near : (st : Setting) (held : ℕ) (p : Place) → Below below_return held p → IsNear (record st { inside = true; held = held }) p
held_near st held p k = subst (IsNear (record st { inside = true; held = held })) (sym k.is) (k.few, refl)

less_held : (n f r : ℕ) → n ≤ 0 + f → n ≤ f + r
less_held n f r h = omega arith

all_held : (f r : ℕ) → 0 + f + r ≤ f + r
all_held f r = omega arith

pub subroutines_near : SubroutinesAreNear
subroutines_near b s outer near = record {
  places = λ x p is. by_place x p (either (find (parameter_places below_return 0 profile.formals) x) (b.here.places x) p is);
  results = λ x k p is. by_result x k p
      (either (result_by s.heading.name profile.result (result_place below_return 0 profile) x) (b.here.results x) _ is);
}
  where
    profile : Profile
    profile = profile_of s.heading

    by_place : (x : List ℕ) (p : Place) → (find (parameter_places below_return 0 profile.formals) x ≡ Some p) ⊎ (b.here.places x ≡ Some p)
        → IsNear (record b.here.setting { inside = true; held = words_held profile }) p
    by_place x p (inl here) =
        let k = parameter_below below_return 0 profile.formals x p here in
        held_near b.here.setting (words_held profile) p
        (record { n = k.n; is = k.is; few = less_held k.n (formals_words profile.formals) (result_words profile) k.few })
    by_place x p (inr there) = near_inside b.here.setting (words_held profile) p outer (near.places x p there)

    by_result : (x : List ℕ) (k : Kind) (p : Place)
        → (result_by s.heading.name profile.result (result_place below_return 0 profile) x ≡ of_kind k p) ⊎ (b.here.results x ≡ of_kind k p)
        → IsNear (record b.here.setting { inside = true; held = words_held profile }) p
    by_result x k p (inl here) = held_near b.here.setting (words_held profile) p (record {
      n = 0 + formals_words profile.formals + result_words profile;
      is = result_there s.heading.name profile.result (result_place below_return 0 profile) x k p here;
      few = all_held (formals_words profile.formals) (result_words profile);
    })
    by_result x k p (inr there) = near_inside b.here.setting (words_held profile) p outer (near.results x k p there)
