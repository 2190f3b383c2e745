-- The first limit behind the bodies of units is the first of all that they pass.
use Rattle.std.proofs.Common.{ℕ, ◌≡◌, ◌+◌, List, [], ◌∷◌, ◌++◌, Option, Some, None, refl, sym, ap, ◌∙◌}
use Rattle.spl_tree.specs.DeclarationTrees as decl
use Rattle.spl_tree.specs.DeclarationTrees.{Declaration, Declarations, declarations}
use Rattle.spl_sound.specs.spl_meaning.Names.{Names, Sort, Table, find, or_else, nothing_declared, parameters, formals_of}
use Rattle.spl_sound.specs.spl_meaning.Tables.{Source, Routine, Subroutine, with_declaration, with_declarations, routine_in, routines_among, routines_of, subroutine_in, subroutines_among, routine_names, routine_subroutines, unit_table, unit_subroutines}
use Rattle.spl_sound.specs.spl_meaning.Bodies.{all_routines}
use Rattle.spl_sound.specs.spl_meaning.Stops.{declaration_stops}
use Rattle.spl_sound.specs.spl_meaning.Limits.{Full, joined, first_among, heading_limits, local_limits, subroutine_limits, routine_limits, unit_limits}
use Rattle.spl_areas.specs.spl_found.OwnNames.{over, behind_declarations}
use Rattle.spl_areas.proofs.spl_found_proofs.OwnNames.{find_declaration, find_declarations}
use Rattle.spl_areas.specs.spl_places.Programs.{Each, NewInRoutine}
use Rattle.spl_areas.proofs.spl_places_proofs.CounterLaws.{among_both}
use Rattle.spl_areas.proofs.spl_places_proofs.ProgramLaws.{local_is}
use Rattle.spl_limits.specs.FirstPassed.{behind_inner, behind_subroutines, behind_list, behind_global, behind_globals, behind_unit, behind_units}

append_same : {A : Type 0} (xs ys zs : List A) → xs ++ ys ++ zs ≡ xs ++ (ys ++ zs)
append_same [] ys zs = refl
append_same (x ∷ xs) ys zs = ap (λ ws. x ∷ ws) (append_same xs ys zs)

joined_both : {A B : Type 0} (f : A → List B) (xs ys : List A) → joined f (xs ++ ys) ≡ joined f xs ++ joined f ys
joined_both f [] ys = refl
joined_both f (x ∷ xs) ys = ap (λ zs. f x ++ zs) (joined_both f xs ys) ∙ sym (append_same (f x) (joined f xs) (joined f ys))

-- the first of lists one behind the other
among_joined : {A : Type 0} (g : A → List Full) (xs ys : List A) (f : Option Full)
    → first_among f (joined g (xs ++ ys)) ≡ first_among (first_among f (joined g xs)) (joined g ys)
among_joined g xs ys f = ap (first_among f) (joined_both g xs ys) ∙ among_both f (joined g xs) (joined g ys)

-- of a list of one
among_one : {A : Type 0} (g : A → List Full) (x : A) (f : Option Full) → first_among f (joined g (x ∷ [])) ≡ first_among f (g x)
among_one g x f = among_both f (g x) []

-- ---- subroutines

one_subroutine : (around : Names) (m : ℕ) (d : Declaration) (f : Option Full)
    → behind_inner around d f ≡ first_among f (joined (subroutine_limits around) (subroutine_in m d))
one_subroutine around m (decl.Declaration.data_items own k items) f = refl
one_subroutine around m (decl.Declaration.equate es) f = refl
one_subroutine around m (decl.Declaration.intrinsic xs) f = refl
one_subroutine around m (decl.Declaration.label xs) f = refl
one_subroutine around m (decl.Declaration.forward h) f = refl
one_subroutine around m (decl.Declaration.external h) f = refl
one_subroutine around m (decl.Declaration.procedure h items ss) f = refl
one_subroutine around m (decl.Declaration.subroutine h s) f =
    let sub : Subroutine = record { heading = h; statement = s; before = m } in sym (among_one (subroutine_limits around) sub f)

all_subroutines : (around : Names) (m : ℕ) (ds : Declarations) (f : Option Full)
    → behind_subroutines around ds f ≡ first_among f (joined (subroutine_limits around) (subroutines_among m ds))
all_subroutines around m decl.none f = refl
all_subroutines around m (decl.and d ds) f =
    let g = subroutine_limits around in
    let rest = subroutines_among (m + declaration_stops d) ds in
    ap (λ (k : Option Full). behind_subroutines around ds k) (one_subroutine around m d f)
    ∙ all_subroutines around (m + declaration_stops d) ds (first_among f (joined g (subroutine_in m d)))
    ∙ sym (among_joined g (subroutine_in m d) rest f)

-- ---- procedures

-- a procedure: its heading, its items and its subroutines
routine_passed : (r : Routine) (f : Option Full) → NewInRoutine r
    → behind_list (find r.globals) r.heading r.items (first_among f (heading_limits r.heading)) ≡ first_among f (routine_limits r)
routine_passed r f new =
    let outer = find r.globals in
    let first = find (parameters (formals_of r.heading)) in
    let own = with_declarations outer (parameters (formals_of r.heading)) r.items in
    let heads = heading_limits r.heading in
    let locals = local_limits r in
    let subs = joined (subroutine_limits (routine_names r)) (routine_subroutines r) in
    ap (λ (ls : List Full). behind_subroutines (over (behind_declarations outer first r.items) outer) r.items (first_among (first_among f heads) ls)) (sym (local_is r new))
    ∙ ap (λ (here : Names). behind_subroutines (over here outer) r.items (first_among (first_among f heads) locals))
    (sym (find_declarations outer (parameters (formals_of r.heading)) r.items))
    ∙ all_subroutines (over (find own) outer) r.before r.items (first_among (first_among f heads) locals)
    ∙ ap (λ (k : Option Full). first_among k subs) (sym (among_both f heads locals))
    ∙ sym (among_both f (heads ++ locals) subs)

each_first : {A : Type 0} (P : A → Type 0) (xs ys : List A) → Each P (xs ++ ys) → Each P xs
each_first P [] ys all = tt
each_first P (x ∷ xs) ys all = (all.0, each_first P xs ys all.1)

each_second : {A : Type 0} (P : A → Type 0) (xs ys : List A) → Each P (xs ++ ys) → Each P ys
each_second P [] ys all = all
each_second P (x ∷ xs) ys all = each_second P xs ys all.1

one_routine : (t : Table Sort) (m : ℕ) (d : Declaration) (f : Option Full) → Each NewInRoutine (routine_in t m d)
    → behind_global (find (with_declaration nothing_declared t d)) d f ≡ first_among f (joined routine_limits (routine_in t m d))
one_routine t m (decl.Declaration.data_items own k items) f new = refl
one_routine t m (decl.Declaration.equate es) f new = refl
one_routine t m (decl.Declaration.intrinsic xs) f new = refl
one_routine t m (decl.Declaration.label xs) f new = refl
one_routine t m (decl.Declaration.forward h) f new = refl
one_routine t m (decl.Declaration.external h) f new = refl
one_routine t m (decl.Declaration.procedure h items ss) f new =
    let r : Routine = record { heading = h; items = items; statements = ss; globals = with_declaration nothing_declared t (decl.Declaration.procedure h items ss); before = m } in
    routine_passed r f new.0 ∙ sym (among_one routine_limits r f)
one_routine t m (decl.Declaration.subroutine h s) f new = refl

routines_passed : (t : Table Sort) (m : ℕ) (ds : Declarations) (f : Option Full) → Each NewInRoutine (routines_among t m ds)
    → behind_globals (find t) ds f ≡ first_among f (joined routine_limits (routines_among t m ds))
routines_passed t m decl.none f new = refl
routines_passed t m (decl.and d ds) f new =
    let here = with_declaration nothing_declared t d in
    let one = routine_in t m d in
    let rest = routines_among here (m + declaration_stops d) ds in
    ap (λ (h : Names). behind_globals h ds (behind_global h d f)) (sym (find_declaration nothing_declared t d))
    ∙ ap (λ (g : Option Full). behind_globals (find here) ds g) (one_routine t m d f (each_first NewInRoutine one rest new))
    ∙ routines_passed here (m + declaration_stops d) ds (first_among f (joined routine_limits one)) (each_second NewInRoutine one rest new)
    ∙ sym (among_joined routine_limits one rest f)

-- ---- units

-- nothing stands outside a unit's list
over_nothing : (here : Names) → over here nothing_declared ≡ here
over_nothing here i x = by (here x) i
  where
    by : (o : Option Sort) → or_else o None ≡ o
    by None = refl
    by (Some s) = refl

unit_passed : (u : Source) (f : Option Full) → Each NewInRoutine (routines_of u) → behind_unit (declarations u.tree.items) f ≡ first_among f (unit_limits u)
unit_passed u f new =
    let ds = declarations u.tree.items in
    let routines = joined routine_limits (routines_of u) in
    let g = subroutine_limits (find (unit_table u)) in
    ap (λ (k : Option Full). behind_subroutines (over (behind_declarations nothing_declared nothing_declared ds) nothing_declared) ds k) (routines_passed [] 0 ds f new)
    ∙ ap (λ (here : Names). behind_subroutines here ds (first_among f routines))
    (over_nothing (behind_declarations nothing_declared nothing_declared ds) ∙ sym (find_declarations nothing_declared [] ds))
    ∙ all_subroutines (find (unit_table u)) 0 ds (first_among f routines)
    ∙ sym (among_both f routines (joined g (unit_subroutines u)))

pub units_passed : (us : List Source) (f : Option Full) → Each NewInRoutine (all_routines us) → behind_units us f ≡ first_among f (joined unit_limits us)
units_passed [] f new = refl
units_passed (u ∷ us) f new =
    ap (behind_units us) (unit_passed u f (each_first NewInRoutine (routines_of u) (all_routines us) new))
    ∙ units_passed us (first_among f (unit_limits u)) (each_second NewInRoutine (routines_of u) (all_routines us) new)
    ∙ sym (among_both f (unit_limits u) (joined unit_limits us))
