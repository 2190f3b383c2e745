-- Programs of sound units are covered, and so carry them.
use Rattle.std.proofs.Common.{◌≡◌, ℕ, zero, suc, ◌+◌, ◌==◌, ◌&&◌, ◌||◌, not, Bool, true, false, List, [], ◌∷◌, ◌++◌, Some, refl, sym, ap, subst, arith, zero-add}
use Rattle.std.specs.List.{list_all, slice_get}
use Rattle.std.proofs.lemmas.Bool.{and_from, eq-eqb}
use Rattle.spl_linked_names.specs.spl_meaning.Tables.{Source, Routine, routines_of}
use Rattle.spl_linked_names.specs.spl_meaning.Bodies.{Named, Reached, reached_behind, all_routines, main_body, program_of}
use Rattle.spl_sound_bodies.specs.spl_scopes.Entries.{main, routine, module_entries}
use Rattle.spl_sound_bodies.specs.spl_scopes.Scopes.{Placed, first_reached, placed_units, routine_bodies, global_places, body_segment}
use Rattle.spl_linked_names.specs.spl_callable.Callable.{is_among, is_covered_frame, is_covered_procedure, are_covered_procedures, are_callable}
use Rattle.spl_linked_names.specs.spl_carried.Covered.{main_count, is_covered_unit}
use Rattle.spl_linked_names.specs.spl_carried.Laws.{CoveredProgramsCarry}
use Rattle.spl_sound_bodies.specs.spl_fits.Fits.{RoutineFits}
use Rattle.spl_sound_bodies.proofs.spl_fits_proofs.FitLaws.{programs_fit}
use Rattle.spl_linked_names.specs.spl_places.Programs.{Each}
use Rattle.spl_linked_names.proofs.spl_places_proofs.SoundLaws.{sound_new}
use Rattle.spl_linked_names.specs.spl_routes.Unique.{are_unique}
use Rattle.spl_sound_bodies.proofs.spl_ruled_bodies_proofs.Units.{routines_ruled}
use Rattle.spl_linked_names.proofs.Apart.{names_unique}
use Rattle.spl_linked_names.proofs.Mains.{one_counted}
use Rattle.spl_sound_programs.specs.Called.{procedure_names, subroutine_names}
use Rattle.spl_sound_programs.specs.Laws.{SoundProgramsAreCovered, SoundProgramsCarry}
use Rattle.spl_sound_programs.proofs.Names.{all_each}
use Rattle.spl_sound_programs.proofs.Bodies.{main_covered, routine_covered}

-- ---- procedures one by one

-- all procedures of a unit
procedures_each : (xs ys : List (List ℕ)) (procedures : List Named) (p : Placed) (k : ℕ) (bs : List Named)
    → ((j : ℕ) (b : Named) → slice_get bs j ≡ Some b
    → is_covered_procedure xs ys procedures (module_entries p.unit (body_segment p.unit (routine (k + j)))) (k + j) b.body ≡ true)
    → are_covered_procedures xs ys procedures p k bs ≡ true
procedures_each xs ys procedures p k [] each = refl
procedures_each xs ys procedures p k (b ∷ bs) each =
    let none : k + 0 ≡ k = omega arith in
    let its = is_covered_procedure xs ys procedures (module_entries p.unit (body_segment p.unit (routine k))) k b.body in
    and_from (not (is_among xs b.name) || its) (are_covered_procedures xs ys procedures p (suc k) bs)
    (whatever (not (is_among xs b.name)) its
    (subst (λ (n : ℕ). is_covered_procedure xs ys procedures (module_entries p.unit (body_segment p.unit (routine n))) n b.body ≡ true) none (each 0 b refl)))
    (procedures_each xs ys procedures p (suc k) bs (λ j c is. later j c (each (suc j) c is)))
  where
    whatever : (a c : Bool) → c ≡ true → (a || c) ≡ true
    whatever true c e = refl
    whatever false c e = e

    later : (j : ℕ) (c : Named) → is_covered_procedure xs ys procedures (module_entries p.unit (body_segment p.unit (routine (k + suc j)))) (k + suc j) c.body ≡ true
        → is_covered_procedure xs ys procedures (module_entries p.unit (body_segment p.unit (routine (suc k + j)))) (suc k + j) c.body ≡ true
    later j c is =
        let next : k + suc j ≡ suc k + j = omega arith in
        subst (λ (n : ℕ). is_covered_procedure xs ys procedures (module_entries p.unit (body_segment p.unit (routine n))) n c.body ≡ true) next is

-- ---- units

placed_same : (p q : Placed) → Some p ≡ Some q → p ≡ q
placed_same p q is = cc

-- a unit by its number
unit_there : (at : Reached) (us : List Source) (i : ℕ) (p : Placed) → slice_get (placed_units at us) i ≡ Some p → slice_get us i ≡ Some p.unit
unit_there at [] i p is = cc
unit_there at (u ∷ us) zero p is = ap (λ (q : Placed). Some q.unit) (placed_same (record { at = at; unit = u }) p is)
unit_there at (u ∷ us) (suc i) p is = unit_there (reached_behind u at) us i p is

-- its procedures are within their limits
fits_in : (P : Routine → Type 0) (xs ys : List Routine) → Each P (xs ++ ys) → Each P xs × Each P ys
fits_in P [] ys all = (tt, all)
fits_in P (x ∷ xs) ys all = let rest = fits_in P xs ys all.1 in ((all.0, rest.0), rest.1)

fits_at : (us : List Source) → Each RoutineFits (all_routines us) → (i : ℕ) (u : Source) → slice_get us i ≡ Some u → Each RoutineFits (routines_of u)
fits_at [] all i u is = cc
fits_at (v ∷ us) all zero u is = subst (λ (w : Source). Each RoutineFits (routines_of w)) (same v u is) (fits_in RoutineFits (routines_of v) (all_routines us) all).0
  where
    same : (a b : Source) → Some a ≡ Some b → a ≡ b
    same a b e = cc
fits_at (v ∷ us) all (suc i) u is = fits_at us (fits_in RoutineFits (routines_of v) (all_routines us) all).1 i u is

each_at : (rs : List Routine) → Each RoutineFits rs → (j : ℕ) (r : Routine) → slice_get rs j ≡ Some r → RoutineFits r
each_at [] all j r is = cc
each_at (q ∷ rs) all zero r is = subst RoutineFits (same q r is) all.0
  where
    same : (a b : Routine) → Some a ≡ Some b → a ≡ b
    same a b e = cc
each_at (q ∷ rs) all (suc j) r is = each_at rs all.1 j r is

-- ---- programs

callable_of : (xs ys : List (List ℕ)) (us : List Source) → are_unique us ≡ true
    → ((zs : List (List ℕ)) → zs ≡ xs → list_all (λ p. are_covered_procedures zs ys (program_of us).procedures p 0 (routine_bodies p)) (placed_units (first_reached us) us) ≡ true)
    → are_callable xs ys us ≡ true
callable_of [] ys us unique all = refl
callable_of (x ∷ xs) ys us unique all =
    and_from (are_unique us) (list_all (λ p. are_covered_procedures (x ∷ xs) ys (program_of us).procedures p 0 (routine_bodies p)) (placed_units (first_reached us) us)) unique
    (all (x ∷ xs) refl)

pub covered : SoundProgramsAreCovered
covered us ms globals program of numbers shaped none =
    and_from ((main_count us == 1) && are_callable xs ys us) (list_all (λ p. is_covered_unit xs ys procedures p) (placed_units (first_reached us) us))
    (and_from (main_count us == 1) (are_callable xs ys us) (eq-eqb (main_count us) 1 (one_counted us ms numbers of.are_modules none))
    (callable_of xs ys us unique
    (λ zs same. subst (λ (ws : List (List ℕ)). list_all (λ p. are_covered_procedures ws ys procedures p 0 (routine_bodies p)) (placed_units (first_reached us) us) ≡ true) (sym same)
    (all_each (λ p. are_covered_procedures xs ys procedures p 0 (routine_bodies p)) (placed_units (first_reached us) us) unit_procedures))))
    (all_each (λ p. is_covered_unit xs ys procedures p) (placed_units (first_reached us) us) unit_main)
  where
    procedures : List Named
    procedures = (program_of us).procedures

    xs : List (List ℕ)
    xs = procedure_names us

    ys : List (List ℕ)
    ys = subroutine_names us

    unique : are_unique us ≡ true
    unique = names_unique us ms of.sound numbers of.are_modules none

    unit_procedures : (i : ℕ) (p : Placed) → slice_get (placed_units (first_reached us) us) i ≡ Some p
        → are_covered_procedures (procedure_names us) (subroutine_names us) (program_of us).procedures p 0 (routine_bodies p) ≡ true
    unit_procedures i p there =
        procedures_each (procedure_names us) (subroutine_names us) (program_of us).procedures p 0 (routine_bodies p)
        (λ j b at. subst (λ (k : ℕ). is_covered_procedure (procedure_names us) (subroutine_names us) (program_of us).procedures (module_entries p.unit (body_segment p.unit (routine k))) k b.body ≡ true)
        (sym (zero-add j)) (one j b at))
      where
        its : slice_get us i ≡ Some p.unit
        its = unit_there (first_reached us) us i p there

        one : (j : ℕ) (b : Named) → slice_get (routine_bodies p) j ≡ Some b
            → is_covered_procedure (procedure_names us) (subroutine_names us) (program_of us).procedures (module_entries p.unit (body_segment p.unit (routine j))) j b.body ≡ true
        one j b at =
            let r = routines_ruled us of.spelled shaped of.sound i p there j b at in
            routine_covered us of.spelled shaped of.sound of.within unique i p there its j b at r
            (each_at (routines_of p.unit) (fits_at us (programs_fit us (sound_new us of.sound) of.within).routines i p.unit its) j r.its r.there)

    unit_main : (i : ℕ) (p : Placed) → slice_get (placed_units (first_reached us) us) i ≡ Some p
        → is_covered_unit (procedure_names us) (subroutine_names us) (program_of us).procedures p ≡ true
    unit_main i p there = by p.unit.subprogram refl
      where
        by : (b : Bool) → p.unit.subprogram ≡ b
            → (b || is_covered_frame (procedure_names us) (subroutine_names us) (program_of us).procedures (module_entries p.unit p.unit.tree.segment) main false (main_body (global_places p) p.unit)) ≡ true
        by true sub = refl
        by false whole = main_covered us of.spelled shaped of.sound of.within unique i p there (unit_there (first_reached us) us i p there) whole

pub carry : CoveredProgramsCarry → SoundProgramsCarry
carry law us ms globals p of numbers shaped none memory =
    law us ms globals p of numbers none memory (procedure_names us) (subroutine_names us) (covered us ms globals p of numbers shaped none)
