-- Which uses of names are allowed.
use Rattle.std.proofs.Common.{◌≡◌, ◌⊎◌, inl, inr, ℕ, ◌+◌, ◌≤◌, ◌||◌, nat_lt, Bool, true, false, if◌then◌else◌, List, [], ◌∷◌, Option, Some, None, option_map, is_some, refl, sym, ap, ◌∙◌}
use Rattle.std.proofs.lemmas.Bool.{ltb-false}
use Rattle.spl_ruled_bodies.specs.spl_tree.declared.expressions.Kind.{Kind}
use Rattle.spl_ruled_bodies.specs.spl_meaning.Names as n
use Rattle.spl_ruled_bodies.specs.spl_meaning.Names.{Sort, Profile, Formal, find, or_else, same_name, parameters, profile_of, sort_by}
use Rattle.spl_ruled_bodies.specs.spl_meaning.Kinds.{variable_kind}
use Rattle.spl_ruled_bodies.specs.spl_meaning.Limits.{Use, Full, most_reach, words_below, place_used, reach_by}
use Rattle.spl_ruled_bodies.specs.spl_meaning.Places.{Place, below_return}
use Rattle.spl_ruled_bodies.specs.spl_meaning.References.{Setting}
use Rattle.spl_ruled_bodies.specs.spl_meaning.Bodies.{Body, subroutine_body, parameter_places, result_place, result_by}
use Rattle.spl_ruled_bodies.specs.spl_module_code.Bodies.{is_called, assigned_place}
use Rattle.spl_sound_values.specs.spl_near_places.Near.{IsNear, PlacesAreNear}
use Rattle.spl_sound_values.proofs.spl_near_places_proofs.Frames.{either}
use Rattle.spl_ruled_bodies.proofs.spl_sound_names_proofs.Tables.{never}
use Rattle.spl_seen.specs.Laws.{OuterUsesAreAllowed, InnerUsesAreAllowed}
use Rattle.spl_seen.proofs.Grounded.{assigned_either, of_result}

-- ---- a main body or a procedure

-- nothing stands below a return word outside subroutines
none_below : {A : Type 0} (st : Setting) (k : ℕ) → st.inside ≡ false → IsNear st (below_return k) → A
none_below st k outer near = never (sym outer ∙ near.1)

-- nor does a result
none_assigned : {A : Type 0} (b : Body) → PlacesAreNear b.here → b.here.setting.inside ≡ false → (x : List ℕ) (k : ℕ) → assigned_place b x ≡ Some (below_return k) → A
none_assigned b near outer x k is = by (assigned_either b x (below_return k) is)
  where
    by : {A : Type 0} → ((is_called (b.here.names x) ≡ true) × (option_map (λ r. r.1) (b.here.results x) ≡ Some (below_return k))) ⊎ (b.here.places x ≡ Some (below_return k)) → A
    by (inl both) = let r = of_result (b.here.results x) (below_return k) both.1 in none_below b.here.setting k outer (near.results x r.kind (below_return k) r.is)
    by (inr there) = none_below b.here.setting k outer (near.places x (below_return k) there)

-- so each use is within reach, and what is called may be called
pub outer_allowed : OuterUsesAreAllowed
outer_allowed may es o b sc g outer procedures u = record {
  reach = λ is k at. none_assigned b g.near outer u.name k at;
  called = λ p is target. procedures u.name p is;
}

-- ---- a subroutine

-- a use that passes no limit is within reach
within_reach : (u : Use) (k : ℕ) → reach_by u (Some k) ≡ [] → u.waiting + k ≤ most_reach
within_reach u k none = by (nat_lt most_reach (u.waiting + k)) refl none
  where
    passed : Full
    passed = record { limit = 5; at = u.at; count = u.waiting + k }

    by : (b : Bool) → nat_lt most_reach (u.waiting + k) ≡ b → (if b then passed ∷ [] else []) ≡ [] → u.waiting + k ≤ most_reach
    by true same is = cc
    by false same is = ltb-false most_reach (u.waiting + k) same

-- a parameter is not called
sorted_not_called : (k : Option Kind) (array value : Bool) → is_called (Some (sort_by k array value)) ≡ false
sorted_not_called None array value = refl
sorted_not_called (Some k) true value = refl
sorted_not_called (Some k) false true = refl
sorted_not_called (Some k) false false = refl

-- where a name is called it is no parameter
no_parameter : (fs : List Formal) (x : List ℕ) (outer : Option Sort) → is_called (or_else (find (parameters fs) x) outer) ≡ true
    → find (parameter_places below_return 0 fs) x ≡ None
no_parameter [] x outer is = refl
no_parameter (f ∷ fs) x outer is = by _ (same_name x f.name) (λ rest. no_parameter fs x outer rest) is
  where
    by : (p : Place) (b : Bool) → (is_called (or_else (find (parameters fs) x) outer) ≡ true → find (parameter_places below_return 0 fs) x ≡ None)
        → is_called (or_else (if b then Some (sort_by f.kind f.array f.value) else find (parameters fs) x) outer) ≡ true
        → (if b then Some p else find (parameter_places below_return 0 fs) x) ≡ None
    by p true others there = never (sym (sorted_not_called f.kind f.array f.value) ∙ there)
    by p false others there = others there

-- what is called has no kind as a variable
called_no_variable : (o : Option Sort) → is_called o ≡ true → is_some (variable_kind o) ≡ false
called_no_variable (Some (n.procedure p)) is = refl
called_no_variable (Some (n.subroutine p)) is = refl
called_no_variable (Some (n.intrinsic i)) is = refl
called_no_variable (Some (n.simple k own)) is = never is
called_no_variable (Some (n.array k own low high)) is = never is
called_no_variable (Some (n.view k own base)) is = never is
called_no_variable (Some (n.pointer k own)) is = never is
called_no_variable (Some (n.value k)) is = never is
called_no_variable (Some (n.by_reference k)) is = never is
called_no_variable (Some (n.array_parameter k)) is = never is
called_no_variable (Some (n.equate v)) is = never is
called_no_variable (Some n.label) is = never is
called_no_variable (Some n.unknown) is = never is
called_no_variable None is = never is

either_false : (a b : Bool) → b ≡ false → (a || b) ≡ true → a ≡ true
either_false true b none is = refl
either_false false b none is = never (sym none ∙ is)

-- a result with its kind
abbrev of_kind : Kind → Place → Option (Kind × Place)
of_kind k p = Some (k, p)

pair_same : (a c : Kind × Place) → Some a ≡ Some c → a ≡ c
pair_same a c e = cc

-- a result is that of the heading's name, and stands where it is said to
named : (name : List ℕ) (t : Option Kind) (place : Place) (x : List ℕ) (k : Kind) (p : Place) → result_by name t place x ≡ of_kind k p
    → (same_name x name ≡ true) × (place ≡ p)
named name None place x k p is = cc
named name (Some w) place x k p is = by (same_name x name) refl is
  where
    by : (c : Bool) → same_name x name ≡ c → (if c then of_kind w place else None) ≡ of_kind k p → (same_name x name ≡ true) × (place ≡ p)
    by true same e = (same, ap (λ (d : Kind × Place). d.1) (pair_same (w, place) (k, p) e))
    by false same e = cc

-- a word below the return word is that of a parameter or of the result, and each is counted among the limits of uses
pub inner_allowed : InnerUsesAreAllowed
inner_allowed may es o b sc s g outer procedures u none = record {
  reach = λ is k at. reach is k (assigned_either (subroutine_body b s) u.name (below_return k) at);
  called = λ p is target. procedures u.name p is;
}
  where
    profile : Profile
    profile = profile_of s.heading

    -- the place of a parameter, or of the result
    used : (k : ℕ) → place_used s.heading u (find (parameter_places below_return 0 profile.formals) u.name) ≡ Some (below_return k) → u.waiting + k ≤ most_reach
    used k is = within_reach u k (ap (λ (o' : Option Place). reach_by u (words_below o')) (sym is) ∙ none)

    of_name : (k : ℕ) → (find (parameter_places below_return 0 profile.formals) u.name ≡ Some (below_return k)) ⊎ (b.here.places u.name ≡ Some (below_return k))
        → u.waiting + k ≤ most_reach
    of_name k (inl here) = used k (ap (λ (o' : Option Place). place_used s.heading u o') here)
    of_name k (inr there) = none_below b.here.setting k outer (g.near.places u.name (below_return k) there)

    reach : (u.is_target || is_some (variable_kind ((subroutine_body b s).here.names u.name))) ≡ true → (k : ℕ)
        → ((is_called ((subroutine_body b s).here.names u.name) ≡ true) × (option_map (λ r. r.1) ((subroutine_body b s).here.results u.name) ≡ Some (below_return k)))
        ⊎ ((subroutine_body b s).here.places u.name ≡ Some (below_return k)) → u.waiting + k ≤ most_reach
    reach is k (inr there) = of_name k (either (find (parameter_places below_return 0 profile.formals) u.name) (b.here.places u.name) (below_return k) there)
    reach is k (inl both) =
        let r = of_result ((subroutine_body b s).here.results u.name) (below_return k) both.1 in
        let free = no_parameter profile.formals u.name (b.here.names u.name) both.0 in
        let target = either_false u.is_target (is_some (variable_kind ((subroutine_body b s).here.names u.name)))
        (called_no_variable ((subroutine_body b s).here.names u.name) both.0) is in
        of_results r.kind k free target
        (either (result_by s.heading.name profile.result (result_place below_return 0 profile) u.name) (b.here.results u.name) (r.kind, below_return k) r.is)
      where
        of_results : (kind : Kind) (j : ℕ) → find (parameter_places below_return 0 profile.formals) u.name ≡ None → u.is_target ≡ true
            → (result_by s.heading.name profile.result (result_place below_return 0 profile) u.name ≡ Some (kind, below_return j)) ⊎ (b.here.results u.name ≡ Some (kind, below_return j))
            → u.waiting + j ≤ most_reach
        of_results kind j free target (inr there) = none_below b.here.setting j outer (g.near.results u.name kind (below_return j) there)
        of_results kind j free target (inl here) =
            let r = named s.heading.name profile.result (result_place below_return 0 profile) u.name kind (below_return j) here in
            used j (ap (λ (o' : Option Place). place_used s.heading u o') free
            ∙ ap (λ (t : Bool). if t then (if same_name u.name s.heading.name then Some (result_place below_return 0 profile) else None) else None) target
            ∙ ap (λ (c : Bool). if c then Some (result_place below_return 0 profile) else None) r.0 ∙ ap Some r.1)
