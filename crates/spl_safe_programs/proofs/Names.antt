-- What names of procedures and subroutines stand for: in a procedure, and in a subroutine of a body.
use Rattle.std.proofs.Common.{◌≡◌, ◌⊎◌, inl, inr, ℕ, Bool, true, false, if◌then◌else◌, List, [], ◌∷◌, Option, Some, None, refl, sym, ap, subst, ◌∙◌}
use Rattle.spl_sound_programs.specs.spl_sound_bodies.spl_tree.declared.expressions.Kind.{Kind}
use Rattle.spl_sound_programs.specs.spl_linked_names.spl_meaning.Names as n
use Rattle.spl_sound_programs.specs.spl_linked_names.spl_meaning.Names.{Names, Sort, Formal, Profile, find, or_else, same_name, parameters, formals_of, profile_of, sort_by}
use Rattle.spl_sound_programs.specs.spl_linked_names.spl_meaning.Tables.{Subroutine, routine_table, routine_names, routine_subroutines, unit_table, subroutine_names, subroutine_named}
use Rattle.spl_sound_programs.specs.spl_linked_names.spl_meaning.Bodies.{Named}
use Rattle.spl_sound_programs.specs.spl_sound_bodies.spl_scopes.Scopes.{Placed}
use Rattle.spl_sound_programs.specs.spl_linked_names.spl_places.Programs.{Each}
use Rattle.spl_sound_programs.specs.spl_sound_bodies.spl_ruled_bodies.Ruled.{RoutineAt, around_routine, scope_of}
use Rattle.spl_sound_programs.proofs.spl_linked_names_proofs.spl_sound_headings_proofs.Inner.{locals_theirs}
use Rattle.spl_sound_programs.proofs.spl_sound_bodies_proofs.spl_sound_names_proofs.Tables.{kept_declarations}
use Rattle.spl_sound_programs.proofs.Names.{list_other}
use Rattle.spl_safe_programs.proofs.Wants.{never, some_same}

-- a name of one list before others: its own, or one around it
in_either : (o u : Option Sort) (s : Sort) → or_else o u ≡ Some s → (o ≡ Some s) ⊎ ((o ≡ None) × (u ≡ Some s))
in_either (Some v) u s is = inl is
in_either None u s is = inr (refl, is)

-- ---- parameters

-- what calls
abbrev is_call : Sort → Bool
is_call (n.procedure p) = true
is_call (n.subroutine p) = true
is_call s = false

sorted_no_call : (k : Option Kind) (array value : Bool) → is_call (sort_by k array value) ≡ false
sorted_no_call None array value = refl
sorted_no_call (Some k) true value = refl
sorted_no_call (Some k) false true = refl
sorted_no_call (Some k) false false = refl

-- no parameter does
parameters_no_call : (fs : List Formal) (x : List ℕ) (u : Sort) → find (parameters fs) x ≡ Some u → is_call u ≡ false
parameters_no_call [] x u is = cc
parameters_no_call (f ∷ fs) x u is = by (same_name x f.name) (λ e. parameters_no_call fs x u e) is
  where
    by : (b : Bool) → (find (parameters fs) x ≡ Some u → is_call u ≡ false) → (if b then Some (sort_by f.kind f.array f.value) else find (parameters fs) x) ≡ Some u
        → is_call u ≡ false
    by true rest e = ap is_call (sym (some_same (sort_by f.kind f.array f.value) u e)) ∙ sorted_no_call f.kind f.array f.value
    by false rest e = rest e

-- so what calls in a subroutine stands for the same around it
pub called_around : (names : Names) (s : Subroutine) (x : List ℕ) (u : Sort) → is_call u ≡ true → subroutine_names names s x ≡ Some u → names x ≡ Some u
called_around names s x u call is = by (in_either (find (parameters (formals_of s.heading)) x) (names x) u is)
  where
    by : (find (parameters (formals_of s.heading)) x ≡ Some u) ⊎ ((find (parameters (formals_of s.heading)) x ≡ None) × (names x ≡ Some u)) → names x ≡ Some u
    by (inl here) = never (sym (parameters_no_call (formals_of s.heading) x u here) ∙ call)
    by (inr both) = both.1

-- ---- a procedure

module _ (p : Placed) (j : ℕ) (b : Named) (r : RoutineAt p j b) where
  -- a name of a procedure is one of the unit's
  pub procedure_around : (x : List ℕ) (q : Profile) → routine_names r.its x ≡ Some (n.procedure q) → find (unit_table p.unit) x ≡ Some (n.procedure q)
  procedure_around x q is = by (in_either (find (routine_table r.its) x) (find r.its.globals x) (n.procedure q) is)
    where
      by : (find (routine_table r.its) x ≡ Some (n.procedure q)) ⊎ ((find (routine_table r.its) x ≡ None) × (find r.its.globals x ≡ Some (n.procedure q)))
          → find (unit_table p.unit) x ≡ Some (n.procedure q)
      by (inl own) = never (sym (list_other (find r.its.globals) (formals_of r.its.heading) r.its.items r.ruled.local_list x (n.procedure q) own))
      by (inr both) = r.kept x (n.procedure q) both.1

  -- that of a subroutine one of its own list, and no parameter
  inner_own : (x : List ℕ) (q : Profile) → routine_names r.its x ≡ Some (n.subroutine q) → find (routine_table r.its) x ≡ Some (n.subroutine q)
  inner_own x q is = by (in_either (find (routine_table r.its) x) (find r.its.globals x) (n.subroutine q) is)
    where
      by : (find (routine_table r.its) x ≡ Some (n.subroutine q)) ⊎ ((find (routine_table r.its) x ≡ None) × (find r.its.globals x ≡ Some (n.subroutine q)))
          → find (routine_table r.its) x ≡ Some (n.subroutine q)
      by (inl own) = own
      by (inr both) = never (r.ruled.known.inner x (n.subroutine q) both.1 refl)

  -- with the heading of the subroutine
  pub inner_heading : (x : List ℕ) (q : Profile) → routine_names r.its x ≡ Some (n.subroutine q) → (s : Subroutine) → subroutine_named (routine_subroutines r.its) x ≡ Some s
      → q ≡ profile_of s.heading
  inner_heading x q is s named =
      locals_theirs (around_routine r.its) (scope_of r.its) (parameters (formals_of r.its.heading)) r.its.before r.its.items r.ruled.list x
      (no_parameter (find (parameters (formals_of r.its.heading)) x) refl) q (inner_own x q is) s named
    where
      passed : (u : Sort) → find (parameters (formals_of r.its.heading)) x ≡ Some u → u ≡ n.subroutine q
      passed u here' = some_same u (n.subroutine q) (sym (kept_declarations (find r.its.globals) (parameters (formals_of r.its.heading)) r.its.items x u here') ∙ inner_own x q is)

      no_parameter : (o : Option Sort) → find (parameters (formals_of r.its.heading)) x ≡ o → find (parameters (formals_of r.its.heading)) x ≡ None
      no_parameter None is' = is'
      no_parameter (Some u) is' = never (sym (parameters_no_call (formals_of r.its.heading) x u is') ∙ ap is_call (passed u is'))

-- ---- subroutines by their names

-- what holds of each of some holds of one of them
pub each_named : (P : Subroutine → Type 0) (ss : List Subroutine) → Each P ss → (x : List ℕ) (z : Subroutine) → subroutine_named ss x ≡ Some z → P z
each_named P [] all x z is = cc
each_named P (s ∷ ss) all x z is = by (same_name x s.heading.name) (each_named P ss all.1 x z) is
  where
    by : (b : Bool) → (subroutine_named ss x ≡ Some z → P z) → (if b then Some s else subroutine_named ss x) ≡ Some z → P z
    by true rest e = subst P (some_same s z e) all.0
    by false rest e = rest e
