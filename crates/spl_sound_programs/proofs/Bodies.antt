-- A body of units that break no rule is covered.
-- 1. its headings are alike                       (heads_alike, inner_heads)
-- 2. a subroutine of a body of which so much is known  (inner_covered, all_inners)
-- 3. a main body                                        (main_covered)
-- 4. a procedure: the results that it may assign, and all of it  (routine_covered)
use Rattle.std.proofs.Common.{◌≡◌, ◌⊎◌, inl, inr, ℕ, ◌+◌, ◌≤◌, ◌&&◌, ◌||◌, not, nat_lt, Bool, true, false, if◌then◌else◌, List, [], ◌∷◌, ◌++◌, Option, Some, None, option_map, is_some, refl, sym, ap, subst, ◌∙◌, arith}
use Rattle.std.specs.List.{slice_get}
use Rattle.std.specs.Cmp.Lexicographic.{same_text}
use Rattle.std.proofs.lemmas.Bool.{and_from, or_right, lt-ltb}
use Rattle.spl_sound_bodies.specs.spl_tree.declared.expressions.Kind.{Kind}
use Rattle.spl_sound_bodies.specs.spl_tree.declared.expressions.Kind.TheVariants as kind
use Rattle.spl_linked_names.specs.spl_meaning.Names as n
use Rattle.spl_linked_names.specs.spl_meaning.Names.{Names, Sort, Table, Formal, Profile, find, or_else, same_name, parameters, formals_of, profile_of, sort_by}
use Rattle.spl_linked_names.specs.spl_meaning.Limits.{Use, first_full, joined, statement_uses, statements_uses, use_limits, heading_limits, subroutine_limits}
use Rattle.spl_linked_names.specs.spl_meaning.Pending.{formals_words, result_words}
use Rattle.spl_linked_names.specs.spl_meaning.Places.{Place, below_base, below_return}
use Rattle.spl_linked_names.specs.spl_meaning.Tables.{Source, Routine, Subroutine, routine_table, routine_subroutines, routines_of, unit_table, unit_subroutines, subroutine_named}
use Rattle.spl_linked_names.specs.spl_meaning.Bodies.{Body, Named, main_body, procedure_body, subroutine_body, program_of, body_named, marker_gap, result_by, result_place}
use Rattle.spl_linked_names.specs.spl_meaning.Sound.{IsSound}
use Rattle.spl_linked_names.specs.spl_meaning.StatementRules.{has_name, repeated, all_labels, list_labels, label_faults, statement_faults, statements_faults}
use Rattle.spl_linked_names.specs.spl_meaning.Faults.{Fault}
use Rattle.spl_linked_names.specs.spl_meaning.ExpressionRules.{Scope}
use Rattle.spl_linked_names.specs.spl_meaning.DeclarationRules.{same_profile, heading_faults, main_scope, own_results, subroutine_scope}
use Rattle.spl_linked_names.specs.spl_meaning.Values.{Who}
use Rattle.spl_sound_bodies.specs.spl_scopes.Entries.{Owner, main, routine, Entry, module_entries, subroutine_index}
use Rattle.spl_sound_bodies.specs.spl_scopes.Scopes.{Placed, first_reached, placed_units, unit_at, routine_bodies, global_places, body_segment}
use Rattle.spl_sound_bodies.specs.spl_module_code.Bodies.{is_called, assigned_place, statements_scope}
use Rattle.spl_sound_bodies.specs.spl_sound.Spelled.{AreSpelled}
use Rattle.spl_sound_bodies.specs.spl_fits.Fits.{RoutineFits}
use Rattle.spl_sound_bodies.proofs.spl_depths_proofs.HeadingLaws.{few_in_heading}
use Rattle.spl_linked_names.specs.spl_places.Programs.{Each}
use Rattle.spl_linked_names.specs.spl_callable.Callable.{is_among, may_call, is_alike, are_alike, is_inner_alike, are_inner_alike, is_covered_body, is_covered_inner, are_covered_inners, is_covered_frame, is_covered_procedure}
use Rattle.spl_linked_names.proofs.spl_callable_proofs.ProfileLemmas.{sort_alike}
use Rattle.spl_sound_bodies.specs.spl_cells.Settable.{are_settable}
use Rattle.spl_sound_bodies.specs.spl_readings.Readings.{are_plain}
use Rattle.spl_sound_statements.specs.spl_stores.Covered.{is_covered_statement, are_covered}
use Rattle.spl_sound_statements.specs.spl_targets.Results.{result_kind, same_kind}
use Rattle.spl_sound_bodies.specs.spl_near_places.Near.{is_framed}
use Rattle.spl_linked_names.specs.spl_routes.Unique.{are_unique}
use Rattle.spl_linked_names.proofs.spl_routes_proofs.NameLemmas.{name_means}
use Rattle.spl_linked_names.proofs.spl_routines_proofs.ListLemmas.{in_place}
use Rattle.spl_sound_bodies.proofs.spl_sound_names_proofs.Tables.{left_none, right_none, never, kept_declarations}
use Rattle.spl_sound_bodies.proofs.spl_sound_names_proofs.Levels.{some_same}
use Rattle.spl_sound_bodies.proofs.spl_sound_names_proofs.Walks.{same_self}
use Rattle.spl_sound_bodies.specs.spl_ruled_bodies.Ruled.{IsRuledInner, RoutineAt, MainAt, around_routine, scope_of}
use Rattle.spl_sound_bodies.specs.spl_ruled_bodies.Laws.{AreShaped}
use Rattle.spl_sound_bodies.proofs.spl_ruled_bodies_proofs.Units.{mains_are_ruled}
use Rattle.spl_seen.specs.Grounds.{Grounds}
use Rattle.spl_seen.proofs.Grounded.{main_grounded, routine_grounded, inner_grounded, seen}
use Rattle.spl_seen.proofs.Allowed.{outer_allowed, inner_allowed}
use Rattle.spl_seen.proofs.Limits.{each_none, none_passed}
use Rattle.spl_sound_bodies.proofs.Plain.{list_plain}
use Rattle.spl_sound_bodies.proofs.Settable.{settable}
use Rattle.spl_linked_names.proofs.spl_sound_headings_proofs.Declared.{profile_self}
use Rattle.spl_linked_names.proofs.spl_sound_headings_proofs.Inner.{locals_theirs, locals_declared}
use Rattle.spl_linked_names.proofs.spl_sound_headings_proofs.Units.{headings_alike, inner_theirs, inner_declared}
use Rattle.spl_sound_statements.specs.Results.{is_of_kind, ResultsSeen}
use Rattle.spl_sound_statements.proofs.Statements.{sound_statements, sound_lists}
use Rattle.spl_seen.specs.spl_sound_values.Seen.{UseAllowed}
use Rattle.spl_sound_programs.specs.Called.{procedures_in, subroutines_in, procedure_names, subroutine_names}
use Rattle.spl_sound_programs.proofs.Names.{among_left, among_right, among_joined, procedure_among, subroutine_among, list_other, all_whatever}

-- ---- lists

all_uses : (P : Use → Type 0) (us : List Use) → ((u : Use) → P u) → Each P us
all_uses P [] each = tt
all_uses P (u ∷ us) each = (each u, all_uses P us each)

-- ---- sorts

-- a name of one list before others: its own, or one around it
in_either : (o u : Option Sort) (s : Sort) → or_else o u ≡ Some s → (o ≡ Some s) ⊎ ((o ≡ None) × (u ≡ Some s))
in_either (Some v) u s is = inl is
in_either None u s is = inr (refl, is)

-- no parameter is a subroutine
abbrev is_subroutine : Sort → Bool
is_subroutine (n.subroutine p) = true
is_subroutine s = false

sorted_no_inner : (k : Option Kind) (array value : Bool) → is_subroutine (sort_by k array value) ≡ false
sorted_no_inner None array value = refl
sorted_no_inner (Some k) true value = refl
sorted_no_inner (Some k) false true = refl
sorted_no_inner (Some k) false false = refl

parameters_no_inner : (fs : List Formal) (x : List ℕ) (u : Sort) → find (parameters fs) x ≡ Some u → is_subroutine u ≡ false
parameters_no_inner [] x u is = cc
parameters_no_inner (f ∷ fs) x u is = by (same_name x f.name) (λ e. parameters_no_inner fs x u e) is
  where
    by : (b : Bool) → (find (parameters fs) x ≡ Some u → is_subroutine u ≡ false) → (if b then Some (sort_by f.kind f.array f.value) else find (parameters fs) x) ≡ Some u
        → is_subroutine u ≡ false
    by true rest e = ap is_subroutine (sym (some_same (sort_by f.kind f.array f.value) u e)) ∙ sorted_no_inner f.kind f.array f.value
    by false rest e = rest e

-- and none is called
sorted_no_call : (k : Option Kind) (array value : Bool) → is_called (Some (sort_by k array value)) ≡ false
sorted_no_call None array value = refl
sorted_no_call (Some k) true value = refl
sorted_no_call (Some k) false true = refl
sorted_no_call (Some k) false false = refl

parameters_no_call : (fs : List Formal) (x : List ℕ) (u : Sort) → find (parameters fs) x ≡ Some u → is_called (Some u) ≡ false
parameters_no_call [] x u is = cc
parameters_no_call (f ∷ fs) x u is = by (same_name x f.name) (λ e. parameters_no_call fs x u e) is
  where
    by : (b : Bool) → (find (parameters fs) x ≡ Some u → is_called (Some u) ≡ false) → (if b then Some (sort_by f.kind f.array f.value) else find (parameters fs) x) ≡ Some u
        → is_called (Some u) ≡ false
    by true rest e = sym (ap is_called e) ∙ sorted_no_call f.kind f.array f.value
    by false rest e = rest e

-- ---- results

-- what has a result is called
result_called : (o : Option Sort) (t : Kind) → result_kind o ≡ Some t → is_called o ≡ true
result_called (Some (n.procedure q)) t e = refl
result_called (Some (n.subroutine q)) t e = refl
result_called (Some (n.simple k own)) t e = cc
result_called (Some (n.array k own low high)) t e = cc
result_called (Some (n.view k own base)) t e = cc
result_called (Some (n.pointer k own)) t e = cc
result_called (Some (n.value k)) t e = cc
result_called (Some (n.by_reference k)) t e = cc
result_called (Some (n.array_parameter k)) t e = cc
result_called (Some (n.equate v)) t e = cc
result_called (Some n.label) t e = cc
result_called (Some (n.intrinsic v)) t e = cc
result_called (Some n.unknown) t e = cc
result_called None t e = cc

-- a name that means a result of a body is assigned where that stands
assigned_there : (b : Body) (x : List ℕ) (t : Kind) (r : Kind × Place) → b.here.results x ≡ Some r → result_kind (b.here.names x) ≡ Some t → assigned_place b x ≡ Some r.1
assigned_there b x t r there is =
    ap (λ (c : Bool). or_else (option_map (λ (d : Kind × Place). d.1) (if c then b.here.results x else None)) (b.here.places x)) (result_called (b.here.names x) t is)
    ∙ ap (λ (o : Option (Kind × Place)). or_else (option_map (λ (d : Kind × Place). d.1) o) (b.here.places x)) there

kind_self : (t : Kind) → same_kind t t ≡ true
kind_self kind.Integer = refl
kind_self kind.Logical = refl
kind_self kind.Byte = refl
kind_self kind.Double = refl

-- a heading within its limits has few words
few_words : (f w : ℕ) → w + f ≤ 59 → nat_lt f 256 ≡ true
few_words f w fit = lt-ltb f 256 (omega (arith, fit))

-- ---- units, in which no two procedures have one name

module _ (us : List Source) (are : AreSpelled us) (shaped : AreShaped us) (sound : IsSound us) (limits : first_full us ≡ None) (unique : are_unique us ≡ true)
    (i : ℕ) (p : Placed) (there : unit_at us i ≡ Some p) (its : slice_get us i ≡ Some p.unit) where
  abbrev procedures : List Named
  procedures = (program_of us).procedures

  abbrev xs : List (List ℕ)
  xs = procedure_names us

  abbrev ys : List (List ℕ)
  ys = subroutine_names us

  -- what a name of the unit's list calls
  procedure_there : (x : List ℕ) (q : Profile) → find (unit_table p.unit) x ≡ Some (n.procedure q) → is_among xs x ≡ true
  procedure_there x q is = among_joined (λ u. procedures_in (unit_table u)) us i p.unit x its (procedure_among (unit_table p.unit) x q is)

  of_unit : (x : List ℕ) → is_among (subroutines_in (unit_table p.unit) ++ joined (λ r. subroutines_in (routine_table r)) (routines_of p.unit)) x ≡ true → is_among ys x ≡ true
  of_unit x is = among_joined (λ u. subroutines_in (unit_table u) ++ joined (λ r. subroutines_in (routine_table r)) (routines_of u)) us i p.unit x its is

  main_inner_there : (x : List ℕ) (q : Profile) → find (unit_table p.unit) x ≡ Some (n.subroutine q) → is_among ys x ≡ true
  main_inner_there x q is =
      of_unit x (among_left x (subroutines_in (unit_table p.unit)) (joined (λ r. subroutines_in (routine_table r)) (routines_of p.unit)) (subroutine_among (unit_table p.unit) x q is))

  routine_inner_there : (j : ℕ) (r : Routine) → slice_get (routines_of p.unit) j ≡ Some r → (x : List ℕ) (q : Profile) → find (routine_table r) x ≡ Some (n.subroutine q) → is_among ys x ≡ true
  routine_inner_there j r at x q is =
      of_unit x (among_right x (subroutines_in (unit_table p.unit)) (joined (λ r'. subroutines_in (routine_table r')) (routines_of p.unit))
      (among_joined (λ r'. subroutines_in (routine_table r')) (routines_of p.unit) j r x at (subroutine_among (routine_table r) x q is)))

  -- ---- 1. headings

  -- where names of procedures are those of the unit's list, each is like the heading with the body
  one_alike : (names : Names) → ((x : List ℕ) (q : Profile) → names x ≡ Some (n.procedure q) → find (unit_table p.unit) x ≡ Some (n.procedure q)) → (x : List ℕ)
      → is_alike (names x) (body_named procedures x) ≡ true
  one_alike names theirs x = by (names x) refl (body_named procedures x) refl
    where
      by : (o : Option Sort) → names x ≡ o → (b : Option Body) → body_named procedures x ≡ b → is_alike o b ≡ true
      by (Some (n.procedure q)) is (Some b) named = headings_alike us sound unique i p there x q (theirs x q is) b named
      by (Some (n.procedure q)) is None named = refl
      by None is b named = refl
      by (Some (n.subroutine q)) is b named = refl
      by (Some (n.simple k own)) is b named = refl
      by (Some (n.array k own low high)) is b named = refl
      by (Some (n.view k own base)) is b named = refl
      by (Some (n.pointer k own)) is b named = refl
      by (Some (n.value k)) is b named = refl
      by (Some (n.by_reference k)) is b named = refl
      by (Some (n.array_parameter k)) is b named = refl
      by (Some (n.equate v)) is b named = refl
      by (Some n.label) is b named = refl
      by (Some (n.intrinsic e)) is b named = refl
      by (Some n.unknown) is b named = refl

  heads_alike : (names : Names) → ((x : List ℕ) (q : Profile) → names x ≡ Some (n.procedure q) → find (unit_table p.unit) x ≡ Some (n.procedure q)) → are_alike xs procedures names ≡ true
  heads_alike names theirs = all_whatever (λ x. is_alike (names x) (body_named procedures x)) xs (one_alike names theirs)

  -- and each name of a subroutine has the heading of the subroutine
  inner_heads : (ss : List Subroutine) (names : Names) → ((x : List ℕ) (q : Profile) → names x ≡ Some (n.subroutine q) → (s : Subroutine) → subroutine_named ss x ≡ Some s → q ≡ profile_of s.heading)
      → are_inner_alike ys ss names ≡ true
  inner_heads ss names theirs = all_whatever (λ y. is_inner_alike (names y) (subroutine_named ss y)) ys one
    where
      one : (x : List ℕ) → is_inner_alike (names x) (subroutine_named ss x) ≡ true
      one x = by (names x) refl (subroutine_named ss x) refl
        where
          by : (o : Option Sort) → names x ≡ o → (b : Option Subroutine) → subroutine_named ss x ≡ b → is_inner_alike o b ≡ true
          by (Some (n.subroutine q)) is (Some s) named = ap (λ (r : Profile). same_profile r (profile_of s.heading)) (theirs x q is s named) ∙ profile_self (profile_of s.heading)
          by (Some (n.subroutine q)) is None named = refl
          by None is b named = refl
          by (Some (n.procedure q)) is b named = refl
          by (Some (n.simple k own)) is b named = refl
          by (Some (n.array k own low high)) is b named = refl
          by (Some (n.view k own base)) is b named = refl
          by (Some (n.pointer k own)) is b named = refl
          by (Some (n.value k)) is b named = refl
          by (Some (n.by_reference k)) is b named = refl
          by (Some (n.array_parameter k)) is b named = refl
          by (Some (n.equate v)) is b named = refl
          by (Some n.label) is b named = refl
          by (Some (n.intrinsic e)) is b named = refl
          by (Some n.unknown) is b named = refl

  -- ---- 2. subroutines

  -- One of a body of which so much is known: its own rules and limits are kept, and its name stands for it.
  module _ (es : List Entry) (o : Owner) (b : Body) (sc : Scope) (g : Grounds (subroutine_index o es) b sc) (outer : b.here.setting.inside ≡ false)
      (theirs : (x : List ℕ) (q : Profile) → b.here.names x ≡ Some (n.procedure q) → find (unit_table p.unit) x ≡ Some (n.procedure q))
      (headed : (x : List ℕ) (q : Profile) → b.here.names x ≡ Some (n.subroutine q) → (s : Subroutine) → subroutine_named b.subroutines x ≡ Some s → q ≡ profile_of s.heading)
      (entered : (x : List ℕ) (q : Profile) → b.here.names x ≡ Some (n.subroutine q) → (is_among ys x && is_some (subroutine_index o es x)) ≡ true)
      (given : ResultsSeen (statements_scope es o b) b.here.setting sc b.here.results) where
    module _ (s : Subroutine) (ruled : IsRuledInner sc s) (within_limits : subroutine_limits b.here.names s ≡ [])
        (own : b.here.names s.heading.name ≡ Some (n.subroutine (profile_of s.heading))) where
      abbrev inner : Body
      inner = subroutine_body b s

      abbrev inner_scope : Scope
      inner_scope = subroutine_scope sc s.heading

      abbrev fs : List Formal
      fs = formals_of s.heading

      abbrev inner_may : Who → Bool
      inner_may = may_call xs ys (subroutine_index o es)

      -- ---- its rules

      rules : heading_faults sc.split s.heading ++ statement_faults inner_scope [] false s.statement ≡ []
      rules = left_none (heading_faults sc.split s.heading ++ statement_faults inner_scope [] false s.statement) (repeated 20 [] (all_labels s.statement)) ruled.none

      heading_none : heading_faults sc.split s.heading ≡ []
      heading_none = left_none (heading_faults sc.split s.heading) (statement_faults inner_scope [] false s.statement) rules

      statement_none : statement_faults inner_scope [] false s.statement ≡ []
      statement_none = right_none (heading_faults sc.split s.heading) (statement_faults inner_scope [] false s.statement) rules

      inner_grounds : Grounds (subroutine_index o es) inner inner_scope
      inner_grounds = inner_grounded (subroutine_index o es) b sc s g outer heading_none

      -- ---- names that are called

      -- parameters are no procedures and no subroutines
      inner_theirs_too : (x : List ℕ) (q : Profile) → inner.here.names x ≡ Some (n.procedure q) → find (unit_table p.unit) x ≡ Some (n.procedure q)
      inner_theirs_too x q is = by (in_either (find (parameters fs) x) (b.here.names x) (n.procedure q) is)
        where
          by : (find (parameters fs) x ≡ Some (n.procedure q)) ⊎ ((find (parameters fs) x ≡ None) × (b.here.names x ≡ Some (n.procedure q)))
              → find (unit_table p.unit) x ≡ Some (n.procedure q)
          by (inl here) = never (sym (parameters_no_call fs x (n.procedure q) here))
          by (inr both) = theirs x q both.1

      inner_around : (x : List ℕ) (q : Profile) → inner.here.names x ≡ Some (n.subroutine q) → b.here.names x ≡ Some (n.subroutine q)
      inner_around x q is = by (in_either (find (parameters fs) x) (b.here.names x) (n.subroutine q) is)
        where
          by : (find (parameters fs) x ≡ Some (n.subroutine q)) ⊎ ((find (parameters fs) x ≡ None) × (b.here.names x ≡ Some (n.subroutine q)))
              → b.here.names x ≡ Some (n.subroutine q)
          by (inl here) = never (sym (parameters_no_call fs x (n.subroutine q) here))
          by (inr both) = both.1

      -- ---- results

      -- the place of its own
      abbrev result_there' : Place
      result_there' = result_place below_return 0 (profile_of s.heading)

      -- A result that a name means: of that kind, and where it stands.
      record Means (x : List ℕ) (t : Kind) : Type 0 where
        result : Kind × Place
        is : inner.here.results x ≡ Some result
        kind_is : is_of_kind t (Some result) ≡ true
        framed : b.here.setting.split ≡ true → is_framed result.1 ≡ true

      -- what is called so is no parameter
      around : (x : List ℕ) (t : Kind) → result_kind (inner.here.names x) ≡ Some t → result_kind (b.here.names x) ≡ Some t
      around x t is = by (find (parameters fs) x) refl is
        where
          by : (u : Option Sort) → find (parameters fs) x ≡ u → result_kind (or_else u (b.here.names x)) ≡ Some t → result_kind (b.here.names x) ≡ Some t
          by None there e = e
          by (Some u) there e = never (sym (parameters_no_call fs x u there) ∙ result_called (Some u) t e)

      -- its own, by the heading that its name stands for
      of_own : (x : List ℕ) (t : Kind) → same_name x s.heading.name ≡ true → result_kind (b.here.names x) ≡ Some t → Means x t
      of_own x t same is = record {
        result = (t, result_there');
        is = ap (λ (k : Option Kind). or_else (result_by s.heading.name k result_there' x) (b.here.results x)) kind_there
            ∙ ap (λ (c : Bool). or_else (if c then Some (t, result_there') else None) (b.here.results x)) same;
        kind_is = kind_self t;
        framed = λ split. refl;
      }
        where
          kind_there : (profile_of s.heading).result ≡ Some t
          kind_there = sym (ap (λ (u : Option Sort). result_kind u) (ap (λ (y : List ℕ). b.here.names y) (same_text x s.heading.name (sym same)) ∙ own)) ∙ is

      -- that of what is around it
      of_outer : (x : List ℕ) (t : Kind) → same_name x s.heading.name ≡ false → has_name sc.results x ≡ true → result_kind (b.here.names x) ≡ Some t → Means x t
      of_outer x t other has is = by (b.here.results x) refl (given.means x t has is)
        where
          hidden : (k : Option Kind) → result_by s.heading.name k result_there' x ≡ None
          hidden None = refl
          hidden (Some k) = ap (λ (c : Bool). if c then Some (k, result_there') else None) other

          by : (r : Option (Kind × Place)) → b.here.results x ≡ r → is_of_kind t r ≡ true → Means x t
          by None there e = never e
          by (Some r) there e = record {
            result = r;
            is = ap (λ (u : Option (Kind × Place)). or_else u (b.here.results x)) (hidden (profile_of s.heading).result) ∙ there;
            kind_is = e;
            framed = λ split. given.framed split x t r.1 has is (assigned_there b x t r there is);
          }

      means_there : (x : List ℕ) (t : Kind) → has_name (s.heading.name ∷ sc.results) x ≡ true → result_kind (inner.here.names x) ≡ Some t → Means x t
      means_there x t has is = by (same_name x s.heading.name) refl has
        where
          by : (c : Bool) → same_name x s.heading.name ≡ c → (if c then true else has_name sc.results x) ≡ true → Means x t
          by true same e = of_own x t same (around x t is)
          by false other e = of_outer x t other e (around x t is)

      place_same' : (a c : Place) → Some a ≡ Some c → a ≡ c
      place_same' a c e = cc

      inner_results : ResultsSeen (statements_scope es o inner) inner.here.setting inner_scope inner.here.results
      inner_results = record {
        means = λ x t has is. let r = means_there x t has is in ap (is_of_kind t) r.is ∙ r.kind_is;
        placed = λ x t has is. let r = means_there x t has is in ap is_some (assigned_there inner x t r.result r.is is);
        framed = λ split x t q has is at.
            let r = means_there x t has is in
            ap is_framed (sym (place_same' r.result.1 q (sym (assigned_there inner x t r.result r.is is) ∙ at))) ∙ r.framed split;
      }

      -- ---- its statement

      uses_none : Each (λ u. use_limits s.heading u ≡ []) (statement_uses inner.here.names s.statement 0)
      uses_none =
          each_none (use_limits s.heading) (statement_uses inner.here.names s.statement 0)
          (right_none (heading_limits s.heading) (joined (use_limits s.heading) (statement_uses inner.here.names s.statement 0)) within_limits)

      uses_allowed : (us' : List Use) → Each (λ u. use_limits s.heading u ≡ []) us' → Each (UseAllowed inner_may (statements_scope es o inner)) us'
      uses_allowed [] none = tt
      uses_allowed (u ∷ us') none = (
        inner_allowed inner_may es o b sc s g outer (λ x q is. procedure_there x q (inner_theirs_too x q is)) u none.0,
        uses_allowed us' none.1,
      )

      statement_done : is_covered_statement inner_may true (statements_scope es o inner) inner.here.results inner.here.setting s.statement 0 ≡ true
      statement_done =
          sound_statements inner_may true (statements_scope es o inner) inner.here.results inner.here.setting inner_scope
          (seen inner_may es o inner inner_scope inner_grounds (λ x q is. entered x q (inner_around x q is))) inner_results (λ no_main. refl) [] false s.statement 0
          statement_none ruled.shaped (uses_allowed (statement_uses inner.here.names s.statement 0) uses_none)

      plain_there : are_plain inner.here.names inner.statements ≡ true
      plain_there =
          subst (λ (names : Names). are_plain names inner.statements ≡ true) inner_grounds.names
          (list_plain inner_scope [] false inner.statements (ap (λ (l : List Fault). l ++ []) statement_none))

      pub inner_covered : is_covered_inner xs ys procedures es o b s ≡ true
      inner_covered =
          and_from (nat_lt (formals_words fs) 256) (are_plain inner.here.names inner.statements && is_covered_body xs ys procedures es o true inner)
          (few_words (formals_words fs) (result_words (profile_of s.heading))
          (few_in_heading s.heading (left_none (heading_limits s.heading) (joined (use_limits s.heading) (statement_uses inner.here.names s.statement 0)) within_limits)))
          (and_from (are_plain inner.here.names inner.statements) (is_covered_body xs ys procedures es o true inner) plain_there
          (and_from (are_alike xs procedures inner.here.names && are_inner_alike ys b.subroutines inner.here.names)
          (are_covered inner_may true (statements_scope es o inner) inner.here.results inner.here.setting inner.statements 0)
          (and_from (are_alike xs procedures inner.here.names) (are_inner_alike ys b.subroutines inner.here.names) (heads_alike inner.here.names inner_theirs_too)
          (inner_heads b.subroutines inner.here.names (λ x q is. headed x q (inner_around x q is))))
          (and_from (is_covered_statement inner_may true (statements_scope es o inner) inner.here.results inner.here.setting s.statement 0) true statement_done refl)))

    -- all of them
    all_inners : (ss : List Subroutine) → Each (IsRuledInner sc) ss → Each (λ s. subroutine_limits b.here.names s ≡ []) ss
        → Each (λ s. b.here.names s.heading.name ≡ Some (n.subroutine (profile_of s.heading))) ss → are_covered_inners xs ys procedures es o b ss ≡ true
    all_inners [] ruled none own = refl
    all_inners (s ∷ ss) ruled none own =
        and_from (not (is_among ys s.heading.name) || is_covered_inner xs ys procedures es o b s) (are_covered_inners xs ys procedures es o b ss)
        (or_right (not (is_among ys s.heading.name)) (is_covered_inner xs ys procedures es o b s) (inner_covered s ruled.0 none.0 own.0))
        (all_inners ss ruled.1 none.1 own.1)

  -- ---- 3. a main body

  pub main_covered : (whole : p.unit.subprogram ≡ false)
      → is_covered_frame xs ys procedures (module_entries p.unit p.unit.tree.segment) main false (main_body (global_places p) p.unit) ≡ true
  main_covered whole =
      and_from (is_covered_body xs ys procedures es main false b) (are_covered_inners xs ys procedures es main b (unit_subroutines p.unit))
      (and_from (are_alike xs procedures names && are_inner_alike ys (unit_subroutines p.unit) names)
      (are_covered may false (statements_scope es main b) b.here.results b.here.setting b.statements 0)
      (and_from (are_alike xs procedures names) (are_inner_alike ys (unit_subroutines p.unit) names) (heads_alike names (λ x q is. is))
      (inner_heads (unit_subroutines p.unit) names headed))
      (sound_lists may false (statements_scope es main b) b.here.results b.here.setting (main_scope p.unit) (seen may es main b (main_scope p.unit) g calls_inner) results
      (λ no_main. never (sym no_main)) (list_labels b.statements) false b.statements 0
      (left_none (statements_faults (main_scope p.unit) (list_labels b.statements) false b.statements) (label_faults b.statements) m.body) m.shaped
      (all_uses (UseAllowed may (statements_scope es main b)) (statements_uses names b.statements 0) (λ u. outer_allowed may es main b (main_scope p.unit) g refl calls u))))
      (all_inners es main b (main_scope p.unit) g refl (λ x q is. is) headed calls_inner results (unit_subroutines p.unit) m.inners
      (none_passed us limits i p.unit its).0 (inner_declared us sound i p there))
    where
      es : List Entry
      es = module_entries p.unit p.unit.tree.segment

      b : Body
      b = main_body (global_places p) p.unit

      names : Names
      names = find (unit_table p.unit)

      may : Who → Bool
      may = may_call xs ys (subroutine_index main es)

      m : MainAt p
      m = mains_are_ruled us are shaped sound i p there

      g : Grounds (subroutine_index main es) b (main_scope p.unit)
      g = main_grounded us are shaped sound limits i p there

      headed : (x : List ℕ) (q : Profile) → names x ≡ Some (n.subroutine q) → (s : Subroutine) → subroutine_named (unit_subroutines p.unit) x ≡ Some s → q ≡ profile_of s.heading
      headed x q is s named = inner_theirs us sound i p there x q is s named

      calls : (x : List ℕ) (q : Profile) → names x ≡ Some (n.procedure q) → is_among xs x ≡ true
      calls x q is = procedure_there x q is

      calls_inner : (x : List ℕ) (q : Profile) → names x ≡ Some (n.subroutine q) → (is_among ys x && is_some (subroutine_index main es x)) ≡ true
      calls_inner x q is = and_from (is_among ys x) (is_some (subroutine_index main es x)) (main_inner_there x q is) (g.found.inner x (n.subroutine q) is refl)

      results : ResultsSeen (statements_scope es main b) b.here.setting (main_scope p.unit) b.here.results
      results = record { means = λ x t has is. never has; placed = λ x t has is. never has; framed = λ split. never split }

  -- ---- 4. a procedure

  module _ (j : ℕ) (b : Named) (at : slice_get (routine_bodies p) j ≡ Some b) (r : RoutineAt p j b) where
    abbrev es : List Entry
    es = module_entries p.unit (body_segment p.unit (routine j))

    abbrev here : Body
    here = procedure_body (global_places p) r.own r.own_arrays r.its

    abbrev table : Table Sort
    table = routine_table r.its

    abbrev may : Who → Bool
    may = may_call xs ys (subroutine_index (routine j) es)

    grounds : Grounds (subroutine_index (routine j) es) here (scope_of r.its)
    grounds = subst (λ (c : Body). Grounds (subroutine_index (routine j) es) c (scope_of r.its)) r.is (routine_grounded us are shaped sound limits i p there j b at r)

    -- a name of a procedure is one of the unit's
    theirs : (x : List ℕ) (q : Profile) → here.here.names x ≡ Some (n.procedure q) → find (unit_table p.unit) x ≡ Some (n.procedure q)
    theirs x q is = by (in_either (find table x) (find r.its.globals x) (n.procedure q) is)
      where
        by : (find table x ≡ Some (n.procedure q)) ⊎ ((find table x ≡ None) × (find r.its.globals x ≡ Some (n.procedure q))) → find (unit_table p.unit) x ≡ Some (n.procedure q)
        by (inl own) = never (sym (list_other (find r.its.globals) (formals_of r.its.heading) r.its.items r.ruled.local_list x (n.procedure q) own))
        by (inr both) = r.kept x (n.procedure q) both.1

    -- and that of a subroutine one of its own list
    inner_own : (x : List ℕ) (q : Profile) → here.here.names x ≡ Some (n.subroutine q) → find table x ≡ Some (n.subroutine q)
    inner_own x q is = by (in_either (find table x) (find r.its.globals x) (n.subroutine q) is)
      where
        by : (find table x ≡ Some (n.subroutine q)) ⊎ ((find table x ≡ None) × (find r.its.globals x ≡ Some (n.subroutine q))) → find table x ≡ Some (n.subroutine q)
        by (inl own) = own
        by (inr both) = never (r.ruled.known.inner x (n.subroutine q) both.1 refl)

    inner_heading : (x : List ℕ) (q : Profile) → here.here.names x ≡ Some (n.subroutine q) → (s : Subroutine) → subroutine_named (routine_subroutines r.its) x ≡ Some s → q ≡ profile_of s.heading
    inner_heading x q is s named =
        locals_theirs (around_routine r.its) (scope_of r.its) (parameters (formals_of r.its.heading)) r.its.before r.its.items r.ruled.list x
        (no_parameter (find (parameters (formals_of r.its.heading)) x) refl) q (inner_own x q is) s named
      where
        passed : (u : Sort) → find (parameters (formals_of r.its.heading)) x ≡ Some u → u ≡ n.subroutine q
        passed u here' = some_same u (n.subroutine q) (sym (kept_declarations (find r.its.globals) (parameters (formals_of r.its.heading)) r.its.items x u here') ∙ inner_own x q is)

        no_parameter : (o : Option Sort) → find (parameters (formals_of r.its.heading)) x ≡ o → find (parameters (formals_of r.its.heading)) x ≡ None
        no_parameter None is' = is'
        no_parameter (Some u) is' = never (sym (parameters_no_inner (formals_of r.its.heading) x u is') ∙ ap is_subroutine (passed u is'))

    -- its statements break no rule
    none : statements_faults (scope_of r.its) (list_labels here.statements) false here.statements ≡ []
    none = left_none (statements_faults (scope_of r.its) (list_labels here.statements) false here.statements) (label_faults here.statements) r.ruled.body

    calls : (x : List ℕ) (q : Profile) → here.here.names x ≡ Some (n.procedure q) → is_among xs x ≡ true
    calls x q is = procedure_there x q (theirs x q is)

    calls_inner : (x : List ℕ) (q : Profile) → here.here.names x ≡ Some (n.subroutine q) → (is_among ys x && is_some (subroutine_index (routine j) es x)) ≡ true
    calls_inner x q is =
        and_from (is_among ys x) (is_some (subroutine_index (routine j) es x)) (routine_inner_there j r.its r.there x q (inner_own x q is))
        (grounds.found.inner x (n.subroutine q) is refl)

    -- the body of its name is its own
    meant : body_named procedures r.its.heading.name ≡ Some here
    meant =
        ap (body_named procedures) (sym r.name) ∙ name_means us unique p (in_place p (placed_units (first_reached us) us) i there) j b at ∙ ap Some r.is

    -- the place of its result, where its own list does not hide its name
    abbrev result_at : Place
    result_at = result_place below_base marker_gap (profile_of r.its.heading)

    -- a name that it may assign as a result is its own, which its list does not hide
    record Assigned (x : List ℕ) : Type 0 where
      name : x ≡ r.its.heading.name
      free : find table r.its.heading.name ≡ None

    assigned : (x : List ℕ) → has_name (own_results table r.its.heading.name) x ≡ true → Assigned x
    assigned x has = by (find table r.its.heading.name) refl has
      where
        own : (c : Bool) → same_name x r.its.heading.name ≡ c → find table r.its.heading.name ≡ None → (if c then true else false) ≡ true → Assigned x
        own true same free e = record { name = same_text x r.its.heading.name (sym same); free = free }
        own false same free e = never e

        by : (o : Option Sort) → find table r.its.heading.name ≡ o → has_name (if is_some o then [] else r.its.heading.name ∷ []) x ≡ true → Assigned x
        by None free e = own (same_name x r.its.heading.name) refl free e
        by (Some u) free e = never e

    -- what it means has the kind of its name
    kind_same : (t k : Kind) → Some t ≡ Some k → same_kind t k ≡ true
    kind_same t k is = ap (same_kind t) (sym (kind_of t k is)) ∙ kind_self t
      where
        kind_of : (a c : Kind) → Some a ≡ Some c → a ≡ c
        kind_of a c e = cc

    -- its heading is like that by which it is called
    result_kinds : (x : List ℕ) (t : Kind) → Assigned x → result_kind (here.here.names x) ≡ Some t → r.its.heading.result ≡ Some t
    result_kinds x t k is = by (here.here.names x) refl is
      where
        of_own : (q : Profile) → here.here.names x ≡ Some (n.procedure q) → q.result ≡ r.its.heading.result
        of_own q named =
            (sort_alike (here.here.names x) here q named
            (sym (ap (λ (c : Option Body). is_alike (here.here.names x) c) (ap (body_named procedures) k.name ∙ meant)) ∙ one_alike here.here.names theirs x)).result

        no_inner : (q : Profile) → here.here.names x ≡ Some (n.subroutine q) → None ≡ Some (n.subroutine q)
        no_inner q named = sym (ap (find table) k.name ∙ k.free) ∙ inner_own x q named

        none_some : {A : Type 0} (u : Sort) → None ≡ Some u → A
        none_some u e = cc

        by : (o : Option Sort) → here.here.names x ≡ o → result_kind o ≡ Some t → r.its.heading.result ≡ Some t
        by (Some (n.procedure q)) named e = sym (of_own q named) ∙ e
        by (Some (n.subroutine q)) named e = none_some (n.subroutine q) (no_inner q named)
        by (Some (n.simple k' own)) named e = cc
        by (Some (n.array k' own low high)) named e = cc
        by (Some (n.view k' own base)) named e = cc
        by (Some (n.pointer k' own)) named e = cc
        by (Some (n.value k')) named e = cc
        by (Some (n.by_reference k')) named e = cc
        by (Some (n.array_parameter k')) named e = cc
        by (Some (n.equate v)) named e = cc
        by (Some n.label) named e = cc
        by (Some (n.intrinsic v)) named e = cc
        by (Some n.unknown) named e = cc
        by None named e = cc

    -- what it means, at its place
    result_there : (x : List ℕ) (t : Kind) → Assigned x → result_kind (here.here.names x) ≡ Some t → here.here.results x ≡ Some (t, result_at)
    result_there x t k is =
        ap (here.here.results) k.name
        ∙ ap (λ (o : Option Sort). if is_some o then None else result_by r.its.heading.name r.its.heading.result result_at r.its.heading.name) k.free
        ∙ ap (λ (o : Option Kind). result_by r.its.heading.name o result_at r.its.heading.name) (result_kinds x t k is)
        ∙ ap (λ (c : Bool). if c then Some (t, result_at) else None) (same_self r.its.heading.name)

    place_there : (x : List ℕ) (t : Kind) → Assigned x → result_kind (here.here.names x) ≡ Some t → assigned_place here x ≡ Some result_at
    place_there x t k is = assigned_there here x t (t, result_at) (result_there x t k is) is

    place_same : (a c : Place) → Some a ≡ Some c → a ≡ c
    place_same a c e = cc

    results : ResultsSeen (statements_scope es (routine j) here) here.here.setting (scope_of r.its) here.here.results
    results = record {
      means = λ x t has is. ap (is_of_kind t) (result_there x t (assigned x has) is) ∙ kind_same t t refl;
      placed = λ x t has is. ap is_some (place_there x t (assigned x has) is);
      framed = λ split x t q has is at'. ap is_framed (sym (place_same result_at q (sym (place_there x t (assigned x has) is) ∙ at')));
    }

    -- its subroutines
    inners : are_covered_inners xs ys procedures es (routine j) here (routine_subroutines r.its) ≡ true
    inners =
        all_inners es (routine j) here (scope_of r.its) grounds refl theirs inner_heading calls_inner results (routine_subroutines r.its) r.ruled.inners
        ((none_passed us limits i p.unit its).1 j r.its r.there)
        (declared (routine_subroutines r.its)
        (locals_declared (around_routine r.its) (scope_of r.its) (parameters (formals_of r.its.heading)) r.its.before r.its.items r.ruled.list))
      where
        declared : (ss : List Subroutine) → Each (λ s. find table s.heading.name ≡ Some (n.subroutine (profile_of s.heading))) ss
            → Each (λ s. here.here.names s.heading.name ≡ Some (n.subroutine (profile_of s.heading))) ss
        declared [] own = tt
        declared (s ∷ ss) own = (ap (λ (o : Option Sort). or_else o (find r.its.globals s.heading.name)) own.0, declared ss own.1)

    -- with these
    frame_covered : is_covered_frame xs ys procedures es (routine j) true here ≡ true
    frame_covered =
        and_from (is_covered_body xs ys procedures es (routine j) true here) (are_covered_inners xs ys procedures es (routine j) here (routine_subroutines r.its))
        (and_from (are_alike xs procedures here.here.names && are_inner_alike ys (routine_subroutines r.its) here.here.names)
        (are_covered may true (statements_scope es (routine j) here) here.here.results here.here.setting here.statements 0)
        (and_from (are_alike xs procedures here.here.names) (are_inner_alike ys (routine_subroutines r.its) here.here.names) (heads_alike here.here.names theirs)
        (inner_heads (routine_subroutines r.its) here.here.names inner_heading))
        (sound_lists may true (statements_scope es (routine j) here) here.here.results here.here.setting (scope_of r.its)
        (seen may es (routine j) here (scope_of r.its) grounds calls_inner) results (λ no_main. refl) (list_labels here.statements) false here.statements 0 none r.ruled.shaped
        (all_uses (UseAllowed may (statements_scope es (routine j) here)) (statements_uses here.here.names here.statements 0)
        (λ u. outer_allowed may es (routine j) here (scope_of r.its) grounds refl calls u)))) inners

    -- and its entry and its parameters
    here_covered : RoutineFits r.its → is_covered_procedure xs ys procedures es j here ≡ true
    here_covered fits =
        and_from (are_settable here && nat_lt (formals_words (formals_of r.its.heading)) 256)
        (are_plain here.here.names here.statements && is_covered_frame xs ys procedures es (routine j) true here)
        (and_from (are_settable here) (nat_lt (formals_words (formals_of r.its.heading)) 256) (settable (global_places p) r.own r.own_arrays r.its r.ruled fits)
        (few_words (formals_words (formals_of r.its.heading)) (result_words (profile_of r.its.heading)) fits.heading))
        (and_from (are_plain here.here.names here.statements) (is_covered_frame xs ys procedures es (routine j) true here)
        (list_plain (scope_of r.its) (list_labels here.statements) false here.statements none) frame_covered)

    pub routine_covered : RoutineFits r.its → is_covered_procedure xs ys procedures es j b.body ≡ true
    routine_covered fits = ap (is_covered_procedure xs ys procedures es j) r.is ∙ here_covered fits
