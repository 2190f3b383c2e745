-- What is known of the names of bodies.
-- 1. of two tables one before the other         (in_either)
-- 2. a main body, a procedure, a subroutine      (main_grounded, routine_grounded, inner_grounded)
-- 3. where code is made of them                  (seen)
use Rattle.std.proofs.Common.{◌≡◌, ◌⊎◌, inl, inr, ℕ, ◌||◌, Bool, true, false, if◌then◌else◌, List, [], Option, Some, None, option_map, is_some, refl, sym, ap, subst, ◌∙◌}
use Rattle.std.proofs.lemmas.Bool.{or_left}
use Rattle.spl_ruled_bodies.specs.spl_tree.declared.expressions.Kind.{Kind}
use Rattle.spl_ruled_bodies.specs.hp_word.declared.intrinsics.Intrinsic.{Intrinsic}
use Rattle.spl_ruled_bodies.specs.hp_word.declared.intrinsics.Intrinsic.TheVariants as gate
use Rattle.spl_ruled_bodies.specs.spl_meaning.Names as n
use Rattle.spl_ruled_bodies.specs.spl_meaning.Names.{Names, Sort, Table, Profile, find, or_else, within, parameters, formals_of, intrinsic_profile}
use Rattle.spl_ruled_bodies.specs.spl_meaning.Kinds.{callable}
use Rattle.spl_ruled_bodies.specs.spl_meaning.Places.{Place, below_return}
use Rattle.spl_ruled_bodies.specs.spl_meaning.Tables.{Routine, routine_table}
use Rattle.spl_ruled_bodies.specs.spl_meaning.Bodies.{Body, main_body, procedure_body, parameter_places}
use Rattle.spl_ruled_bodies.specs.spl_meaning.DeclarationRules.{without_kind}
use Rattle.spl_sound_values.specs.spl_scopes.Entries.{routine, module_entries, subroutine_index}
use Rattle.spl_sound_values.specs.spl_scopes.Scopes.{global_places, body_segment}
use Rattle.spl_ruled_bodies.specs.spl_module_code.Bodies.{is_called, seen_results, assigned_place}
use Rattle.spl_ruled_bodies.specs.spl_sound_names.Known.{is_item, is_passed, NamesAreFound}
use Rattle.spl_ruled_bodies.proofs.spl_sound_names_proofs.Tables.{never}
use Rattle.spl_ruled_bodies.proofs.spl_sound_names_proofs.Levels.{parameters_found, passed_found, over_found, more_found}
use Rattle.spl_ruled_bodies.proofs.spl_sound_names_proofs.Units.{kinds_none}
use Rattle.spl_sound_values.specs.spl_near_places.Near.{IsNear, PlacesAreNear, is_framed}
use Rattle.spl_sound_values.specs.spl_tops.Seen.{is_fixed}
use Rattle.spl_sound_values.proofs.spl_near_places_proofs.Frames.{either, parameter_below, subroutines_near}
use Rattle.spl_sound_values.proofs.spl_near_places_proofs.Units.{bodies_near}
use Rattle.spl_sound_values.proofs.spl_near_places_proofs.Split.{split_framed}
use Rattle.spl_ruled_bodies.specs.Ruled.{have_kinds, IsFit, AreFit, IsRuled, around_routine, scope_of}
use Rattle.spl_ruled_bodies.proofs.Fit.{fit_parameters}
use Rattle.spl_ruled_bodies.proofs.Units.{mains_are_ruled}
use Rattle.spl_sound_values.specs.Seen.{is_plain_sort}
use Rattle.spl_seen.specs.Grounds.{Grounds}
use Rattle.spl_seen.specs.Laws.{MainBodiesAreGrounded, RoutinesAreGrounded, SubroutinesAreGrounded, GroundsAreSeen}
use Rattle.spl_seen.proofs.Fixed.{near_fixed, parameters_no_item, no_spot}
use Rattle.spl_seen.proofs.Plain.{plain_locals, parameters_plain}

-- ---- 1. one table before another

-- what is found in the first, or in the second where it is in none of the first
in_either : (o u : Option Sort) (s : Sort) → or_else o u ≡ Some s → (o ≡ Some s) ⊎ ((o ≡ None) × (u ≡ Some s))
in_either (Some v) u s is = inl is
in_either None u s is = inr (refl, is)

-- where both tables are as their uses ask
fit_within : (t : Table Sort) (outer : Names) → AreFit (find t) → AreFit outer → AreFit (within t outer)
fit_within t outer here around x s is = by (in_either (find t x) (outer x) s is)
  where
    by : (find t x ≡ Some s) ⊎ ((find t x ≡ None) × (outer x ≡ Some s)) → IsFit x s
    by (inl there) = here x s there
    by (inr both) = around x s both.1

-- what is found is there
some_there : {A : Type 0} (o : Option A) (a : A) → o ≡ Some a → is_some o ≡ true
some_there o a is = ap is_some is

-- ---- 2. bodies

-- all names of a main body are declared in its unit, which is never split
pub main_grounded : MainBodiesAreGrounded
main_grounded us are shaped sound limits i p is =
    let m = mains_are_ruled us are shaped sound i p is in
    let near = bodies_near us sound limits i p is in
    record {
      names = refl;
      split = refl;
      found = m.found;
      near = near.main;
      fit = m.fit;
      fixed = λ x s q there item at. near_fixed (main_body (global_places p) p.unit).here.setting q refl (near.main.places x q at);
      local = λ x s there passed. refl;
      framed = λ split. never split;
      plain = λ split. never split;
    }

-- the body of a procedure
routine_of : (globals : Table Place) (own own_arrays : ℕ) (entries : List ℕ → Option ℕ) (r : Routine)
    → NamesAreFound (procedure_body globals own own_arrays r).here.names (procedure_body globals own own_arrays r).here.places entries
    → PlacesAreNear (procedure_body globals own own_arrays r).here → IsRuled r → Grounds entries (procedure_body globals own own_arrays r) (scope_of r)
routine_of globals own own_arrays entries r found near ruled = record {
  names = refl;
  split = refl;
  found = found;
  near = near;
  fit = fit_within (routine_table r) (find r.globals) ruled.fit_list ruled.fit;
  fixed = λ x s p there item at. near_fixed (procedure_body globals own own_arrays r).here.setting p refl (near.places x p at);
  local = λ x s there passed. local x s passed (in_either (find (routine_table r) x) (find r.globals x) s there);
  framed = λ split x s p there sort here at.
      split_framed globals own own_arrays r split ruled.known.known ruled.heading ruled.list x s p
      (own_sort x s here (in_either (find (routine_table r) x) (find r.globals x) s there)) sort at;
  plain = λ split x s there here.
      plain_locals (around_routine r) (scope_of r) (parameters (formals_of r.heading)) r.items split (parameters_plain r.heading r.heading.split split ruled.heading) ruled.list x s
      (own_sort x s here (in_either (find (routine_table r) x) (find r.globals x) s there));
}
  where
    -- a parameter is in the list
    local : (x : List ℕ) (s : Sort) → is_passed s ≡ true → (find (routine_table r) x ≡ Some s) ⊎ ((find (routine_table r) x ≡ None) × (find r.globals x ≡ Some s))
        → is_some (find (routine_table r) x) ≡ true
    local x s passed (inl here) = some_there (find (routine_table r) x) s here
    local x s passed (inr both) = never (ruled.known.passed x s both.1 passed)

    -- what is declared in the list is found in it
    own_sort : (x : List ℕ) (s : Sort) → is_some (find (routine_table r) x) ≡ true
        → (find (routine_table r) x ≡ Some s) ⊎ ((find (routine_table r) x ≡ None) × (find r.globals x ≡ Some s)) → find (routine_table r) x ≡ Some s
    own_sort x s here (inl there) = there
    own_sort x s here (inr both) = never (sym (ap is_some both.0) ∙ here)

-- a procedure, by its number
pub routine_grounded : RoutinesAreGrounded
routine_grounded us are shaped sound limits i p is j b there r =
    let entries = subroutine_index (routine j) (module_entries p.unit (body_segment p.unit (routine j))) in
    subst (λ (c : Body). Grounds entries c (scope_of r.its)) (sym r.is)
    (routine_of (global_places p) r.own r.own_arrays entries r.its r.found
    (subst (λ (c : Body). PlacesAreNear c.here) r.is ((bodies_near us sound limits i p is).routines j b there)) r.ruled)

-- a subroutine: its parameters stand before the names around it
pub inner_grounded : SubroutinesAreGrounded
inner_grounded entries b sc s g outer heading = record {
  names = ap (λ (names : Names). within params names) g.names;
  split = g.split;
  found = over_found (find params) b.here.names (find spots) b.here.places entries (parameters_found s.heading below_return 0 entries kinds) g.found;
  near = subroutines_near b s outer g.near;
  fit = fit_within params b.here.names (fit_parameters (formals_of s.heading)) g.fit;
  fixed = λ x t p there item at. fixed x t p item (in_either (find params x) (b.here.names x) t there) at;
  local = λ x t there passed. is_local x t passed (in_either (find params x) (b.here.names x) t there);
  framed = λ split x t p there sort here at. framed split x t p sort here (in_either (find params x) (b.here.names x) t there) at;
  plain = λ split x t there here. plain split x t here (in_either (find params x) (b.here.names x) t there);
}
  where
    params : Table Sort
    params = parameters (formals_of s.heading)

    spots : Table Place
    spots = parameter_places below_return 0 (formals_of s.heading)

    kinds : without_kind s.heading.specs s.heading.names ≡ []
    kinds = kinds_none sc.split s.heading heading

    -- a parameter of the subroutine, or of what is around it
    choose : (c d : Bool) → d ≡ true → (if c then true else d) ≡ true
    choose true d is = refl
    choose false d is = is

    is_local : (x : List ℕ) (t : Sort) → is_passed t ≡ true → (find params x ≡ Some t) ⊎ ((find params x ≡ None) × (b.here.names x ≡ Some t))
        → (if is_some (find params x) then true else sc.is_local x) ≡ true
    is_local x t passed (inl here) = ap (λ (c : Bool). if c then true else sc.is_local x) (some_there (find params x) t here)
    is_local x t passed (inr both) = choose (is_some (find params x)) (sc.is_local x) (g.local x t both.1 passed)

    -- what is declared around it is declared there
    around : (x : List ℕ) → find params x ≡ None → (if is_some (find params x) then true else sc.is_local x) ≡ true → sc.is_local x ≡ true
    around x none here = sym (ap (λ (o : Option Sort). if is_some o then true else sc.is_local x) none) ∙ here

    plain : b.here.setting.split ≡ true → (x : List ℕ) (t : Sort) → (if is_some (find params x) then true else sc.is_local x) ≡ true
        → (find params x ≡ Some t) ⊎ ((find params x ≡ None) × (b.here.names x ≡ Some t)) → is_plain_sort t ≡ true
    plain split x t here (inl there) = parameters_plain s.heading sc.split (g.split ∙ split) heading x t there
    plain split x t here (inr both) = g.plain split x t both.1 (around x both.0 here)

    -- an item is declared around it, and stands where it stands there
    fixed : (x : List ℕ) (t : Sort) (p : Place) → is_item t ≡ true → (find params x ≡ Some t) ⊎ ((find params x ≡ None) × (b.here.names x ≡ Some t))
        → or_else (find spots x) (b.here.places x) ≡ Some p → is_fixed p ≡ true
    fixed x t p item (inl there) at = never (sym (parameters_no_item (formals_of s.heading) x t there) ∙ item)
    fixed x t p item (inr both) at =
        g.fixed x t p both.1 item (sym (ap (λ (o : Option Place). or_else o (b.here.places x)) (no_spot (formals_of s.heading) x both.0)) ∙ at)

    -- where a word stands
    placed : (x : List ℕ) (p : Place) → (find spots x ≡ Some p) ⊎ (b.here.places x ≡ Some p) → (b.here.places x ≡ Some p → is_framed p ≡ true) → is_framed p ≡ true
    placed x p (inl here) outside = ap is_framed (parameter_below below_return 0 (formals_of s.heading) x p here).is
    placed x p (inr there) outside = outside there

    only_first : (o u : Option Place) (p : Place) → is_some o ≡ true → or_else o u ≡ Some p → o ≡ Some p
    only_first (Some q) u p some is = is
    only_first None u p some is = never some

    framed : b.here.setting.split ≡ true → (x : List ℕ) (t : Sort) (p : Place) → (is_item t || is_passed t) ≡ true
        → (if is_some (find params x) then true else sc.is_local x) ≡ true → (find params x ≡ Some t) ⊎ ((find params x ≡ None) × (b.here.names x ≡ Some t))
        → or_else (find spots x) (b.here.places x) ≡ Some p → is_framed p ≡ true
    framed split x t p sort here (inl there) at =
        let found = (passed_found s.heading s.heading.names below_return 0 kinds x t there).1 in
        ap is_framed (parameter_below below_return 0 (formals_of s.heading) x p (only_first (find spots x) (b.here.places x) p found at)).is
    framed split x t p sort here (inr both) at =
        placed x p (either (find spots x) (b.here.places x) p at) (λ there. g.framed split x t p both.1 sort (around x both.0 here) there)

-- ---- 3. code

-- what is called by a name has kinds of parameters
intrinsic_kinds : (i : Intrinsic) → have_kinds (intrinsic_profile i) ≡ true
intrinsic_kinds gate.Print = refl
intrinsic_kinds gate.Read = refl
intrinsic_kinds gate.Ascii = refl
intrinsic_kinds gate.Dascii = refl
intrinsic_kinds gate.Binary = refl
intrinsic_kinds gate.Dbinary = refl
intrinsic_kinds gate.Terminate = refl
intrinsic_kinds gate.Quit = refl

profile_same : (p q : Profile) → Some p ≡ Some q → p ≡ q
profile_same p q is = cc

-- so have procedures and subroutines
kinds_there : (x : List ℕ) (o : Option Sort) (p : Profile) → ((s : Sort) → o ≡ Some s → IsFit x s) → callable o ≡ Some p → have_kinds p ≡ true
kinds_there x (Some (n.intrinsic i)) p fit is = ap have_kinds (sym (profile_same (intrinsic_profile i) p is)) ∙ intrinsic_kinds i
kinds_there x (Some (n.procedure q)) p fit is = ap have_kinds (sym (profile_same q p is)) ∙ fit (n.procedure q) refl
kinds_there x (Some (n.subroutine q)) p fit is = ap have_kinds (sym (profile_same q p is)) ∙ fit (n.subroutine q) refl
kinds_there x (Some (n.simple k own)) p fit is = cc
kinds_there x (Some (n.array k own low high)) p fit is = cc
kinds_there x (Some (n.view k own base)) p fit is = cc
kinds_there x (Some (n.pointer k own)) p fit is = cc
kinds_there x (Some (n.value k)) p fit is = cc
kinds_there x (Some (n.by_reference k)) p fit is = cc
kinds_there x (Some (n.array_parameter k)) p fit is = cc
kinds_there x (Some (n.equate v)) p fit is = cc
kinds_there x (Some n.label) p fit is = cc
kinds_there x (Some n.unknown) p fit is = cc
kinds_there x None p fit is = cc

-- a variable is not called
not_called : (s : Sort) → (is_item s || is_passed s) ≡ true → is_called (Some s) ≡ false
not_called (n.intrinsic i) is = refl
not_called (n.procedure q) is = never is
not_called (n.subroutine q) is = never is
not_called (n.simple k own) is = refl
not_called (n.array k own low high) is = refl
not_called (n.view k own base) is = refl
not_called (n.pointer k own) is = refl
not_called (n.value k) is = refl
not_called (n.by_reference k) is = refl
not_called (n.array_parameter k) is = refl
not_called (n.equate v) is = refl
not_called n.label is = refl
not_called n.unknown is = refl

-- so its words stand where they do
pub own_place : (b : Body) (x : List ℕ) → is_called (b.here.names x) ≡ false → assigned_place b x ≡ b.here.places x
own_place b x is = ap (λ (c : Bool). or_else (option_map (λ r. r.1) (if c then b.here.results x else None)) (b.here.places x)) is

-- the place of a result, or that of a name
pub assigned_either : (b : Body) (x : List ℕ) (p : Place) → assigned_place b x ≡ Some p
    → ((is_called (b.here.names x) ≡ true) × (option_map (λ r. r.1) (b.here.results x) ≡ Some p)) ⊎ (b.here.places x ≡ Some p)
assigned_either b x p is = by (is_called (b.here.names x)) refl is
  where
    of_result : (c : Bool) → is_called (b.here.names x) ≡ c → option_map (λ r. r.1) (if c then b.here.results x else None) ≡ Some p
        → ((is_called (b.here.names x) ≡ true) × (option_map (λ r. r.1) (b.here.results x) ≡ Some p)) ⊎ (b.here.places x ≡ Some p)
    of_result true same here = inl (same, here)
    of_result false same here = cc

    by : (c : Bool) → is_called (b.here.names x) ≡ c → or_else (option_map (λ r. r.1) (if c then b.here.results x else None)) (b.here.places x) ≡ Some p
        → ((is_called (b.here.names x) ≡ true) × (option_map (λ r. r.1) (b.here.results x) ≡ Some p)) ⊎ (b.here.places x ≡ Some p)
    by c same here = each (either (option_map (λ r. r.1) (if c then b.here.results x else None)) (b.here.places x) p here)
      where
        each : (option_map (λ r. r.1) (if c then b.here.results x else None) ≡ Some p) ⊎ (b.here.places x ≡ Some p)
            → ((is_called (b.here.names x) ≡ true) × (option_map (λ r. r.1) (b.here.results x) ≡ Some p)) ⊎ (b.here.places x ≡ Some p)
        each (inl one) = of_result c same one
        each (inr other) = inr other

-- a result with its kind
pub record OfResult (o : Option (Kind × Place)) (p : Place) : Type 0 where
  pub kind : Kind
  pub is : o ≡ Some (kind, p)

pub of_result : (o : Option (Kind × Place)) (p : Place) → option_map (λ r. r.1) o ≡ Some p → OfResult o p
of_result (Some r) p is = record { kind = r.0; is = ap (λ (q : Place). Some (r.0, q)) (place_same r.1 p is) }
  where
    place_same : (a c : Place) → Some a ≡ Some c → a ≡ c
    place_same a c e = cc
of_result None p is = cc

-- each word, also that of a result, is near
near_assigned : (b : Body) → PlacesAreNear b.here → (x : List ℕ) (p : Place) → assigned_place b x ≡ Some p → IsNear b.here.setting p
near_assigned b near x p is = by (assigned_either b x p is)
  where
    by : ((is_called (b.here.names x) ≡ true) × (option_map (λ r. r.1) (b.here.results x) ≡ Some p)) ⊎ (b.here.places x ≡ Some p) → IsNear b.here.setting p
    by (inl both) = let r = of_result (b.here.results x) p both.1 in near.results x r.kind p r.is
    by (inr there) = near.places x p there

-- what is called stands at its result, all else where it did
pub seen : GroundsAreSeen
seen may es o b sc g inners =
    let found = more_found b.here.names (λ x. option_map (λ r. r.1) (seen_results b.here.names b.here.results x)) b.here.places (subroutine_index o es) g.found in
    record {
      names = g.names;
      split = g.split;
      known = found.known;
      placed = λ x s is sort. either_sort s _ (is_item s) refl (found.items x s is) (found.passed x s is) sort;
      near = λ x p is. near_assigned b g.near x p is;
      fixed = λ x s p is item at.
          g.fixed x s p is item (sym (own_place b x (ap is_called is ∙ not_called s (or_left (is_item s) (is_passed s) item))) ∙ at);
      local = g.local;
      framed = λ split x s p is sort here at. g.framed split x s p is sort here (sym (own_place b x (ap is_called is ∙ not_called s sort)) ∙ at);
      plain = g.plain;
      kinds = λ x p is. kinds_there x (b.here.names x) p (λ s there. g.fit x s there) is;
      intrinsics = λ x i is. g.fit x (n.intrinsic i) is;
      entries = λ x p is. g.found.inner x (n.subroutine p) is refl;
      subroutines = λ x p is. inners x p is;
    }
  where
    either_sort : (s : Sort) (a c : Bool) → is_item s ≡ c → (is_item s ≡ true → a ≡ true) → (is_passed s ≡ true → a ≡ true) → (is_item s || is_passed s) ≡ true → a ≡ true
    either_sort s a true same one other h = one same
    either_sort s a false same one other h = other (ap (λ (c : Bool). c || is_passed s) (sym same) ∙ h)
