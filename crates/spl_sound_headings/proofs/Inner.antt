-- The subroutines of lists that break no rule, by their names.
use Rattle.std.proofs.Common.{◌≡◌, ℕ, ◌+◌, not, Bool, true, false, if◌then◌else◌, List, [], ◌++◌, Option, Some, None, refl, sym, ap, subst, ◌∙◌}
use Rattle.spl_ruled_bodies.specs.spl_tree.DeclarationTrees as decl
use Rattle.spl_ruled_bodies.specs.spl_tree.DeclarationTrees.{Declaration, Declarations, Heading}
use Rattle.spl_ruled_bodies.specs.spl_tree.StatementTrees.{Statement}
use Rattle.spl_ruled_bodies.specs.spl_meaning.Names as n
use Rattle.spl_ruled_bodies.specs.spl_meaning.Names.{Names, Sort, Table, Profile, find, same_name, nothing_declared, profile_of}
use Rattle.spl_ruled_bodies.specs.spl_meaning.Tables.{Routine, Subroutine, with_declaration, with_declarations, subroutine_in, subroutines_among, subroutine_named}
use Rattle.spl_ruled_bodies.specs.spl_meaning.Stops.{declaration_stops}
use Rattle.spl_ruled_bodies.specs.spl_meaning.Faults.{unless}
use Rattle.spl_ruled_bodies.specs.spl_meaning.ExpressionRules.{Scope}
use Rattle.spl_ruled_bodies.specs.spl_meaning.DeclarationRules.{Around, Waiting, twice, subroutine_faults, declared_subroutine, local_faults_of, local_faults, global_faults, globals_faults, waiting_behind}
use Rattle.spl_ruled_bodies.proofs.spl_sound_names_proofs.Tables.{left_none, right_none, kept_declarations}
use Rattle.spl_ruled_bodies.specs.spl_places.Programs.{Each}
use Rattle.spl_ruled_bodies.proofs.spl_sound_names_proofs.Walks.{around_unit, same_self}
use Rattle.spl_sound_headings.specs.Laws.{SubroutinesAreTheirs}
use Rattle.spl_sound_headings.proofs.Declared.{declared_new, declared_other, kept_one, twice_none, clash_twice}

-- Each subroutine of a list has a name that was new.
pub data New (outer : Names) : Table Sort → Declarations → Type 0 where
  no_more : {t : Table Sort} → New outer t decl.none
  declares : {t : Table Sort} {h : Heading} {s : Statement} {ds : Declarations} → twice t h.name h.at ≡ [] → New outer (with_declaration outer t (decl.Declaration.subroutine h s)) ds
      → New outer t (decl.and (decl.Declaration.subroutine h s) ds)
  silent : {t : Table Sort} {d : Declaration} {ds : Declarations} → ((m : ℕ) → subroutine_in m d ≡ []) → New outer (with_declaration outer t d) ds → New outer t (decl.and d ds)

-- by the rule of names
inner_new : (a : Around) (t : Table Sort) (sc : Scope) (h : Heading) (s : Statement) → declared_subroutine a t sc h s ≡ [] → twice t h.name h.at ≡ []
inner_new a t sc h s none =
    let first = twice t h.name h.at in
    let allowed = unless (not a.subprogram) 28 h.at in
    left_none first allowed (left_none (first ++ allowed) (subroutine_faults sc h s) none)

-- the list of a procedure that breaks no rule
locals_new : (a : Around) (sc : Scope) (t : Table Sort) (ds : Declarations) → local_faults a sc t ds ≡ [] → New a.names t ds
locals_new a sc t decl.none none = New.no_more
locals_new a sc t (decl.and d ds) none =
    let behind = with_declaration a.names t d in
    let of_d = local_faults_of a sc t d in
    let of_rest = local_faults a sc behind ds in
    first d (left_none of_d of_rest none) (locals_new a sc behind ds (right_none of_d of_rest none))
  where
    first : (e : Declaration) → local_faults_of a sc t e ≡ [] → New a.names (with_declaration a.names t e) ds → New a.names t (decl.and e ds)
    first (decl.Declaration.subroutine h s) one rest = New.declares (inner_new a t sc h s one) rest
    first (decl.Declaration.data_items own k items) one rest = New.silent (λ m. refl) rest
    first (decl.Declaration.equate es) one rest = New.silent (λ m. refl) rest
    first (decl.Declaration.intrinsic xs) one rest = New.silent (λ m. refl) rest
    first (decl.Declaration.label xs) one rest = New.silent (λ m. refl) rest
    first (decl.Declaration.forward h) one rest = New.silent (λ m. refl) rest
    first (decl.Declaration.external h) one rest = New.silent (λ m. refl) rest
    first (decl.Declaration.procedure h items ss) one rest = New.silent (λ m. refl) rest

-- the list of a unit that breaks no rule
globals_new : (sub : Bool) (sc : Scope) (others : List Routine) (w : Waiting) (t : Table Sort) (ds : Declarations)
    → globals_faults (around_unit sub) sc others w t ds ≡ [] → New nothing_declared t ds
globals_new sub sc others w t decl.none none = New.no_more
globals_new sub sc others w t (decl.and d ds) none =
    let behind = with_declaration nothing_declared t d in
    let of_d = global_faults (around_unit sub) sc others w t d ds in
    let of_rest = globals_faults (around_unit sub) sc others (waiting_behind w d) behind ds in
    first d (left_none of_d of_rest none) (globals_new sub sc others (waiting_behind w d) behind ds (right_none of_d of_rest none))
  where
    first : (e : Declaration) → global_faults (around_unit sub) sc others w t e ds ≡ [] → New nothing_declared (with_declaration nothing_declared t e) ds → New nothing_declared t (decl.and e ds)
    first (decl.Declaration.subroutine h s) one rest = New.declares (inner_new (around_unit sub) t sc h s one) rest
    first (decl.Declaration.data_items own k items) one rest = New.silent (λ m. refl) rest
    first (decl.Declaration.equate es) one rest = New.silent (λ m. refl) rest
    first (decl.Declaration.intrinsic xs) one rest = New.silent (λ m. refl) rest
    first (decl.Declaration.label xs) one rest = New.silent (λ m. refl) rest
    first (decl.Declaration.forward h) one rest = New.silent (λ m. refl) rest
    first (decl.Declaration.external h) one rest = New.silent (λ m. refl) rest
    first (decl.Declaration.procedure h items ss) one rest = New.silent (λ m. refl) rest

-- a name that is there is that of no subroutine behind
done : {A : Type 0} {outer : Names} {t : Table Sort} {ds : Declarations} → New outer t ds → (m : ℕ) (x : List ℕ) (u : Sort) → find t x ≡ Some u → (s : Subroutine)
    → subroutine_named (subroutines_among m ds) x ≡ Some s → A
done New.no_more m x u there s is = cc
done {outer = outer} {t = t} (New.declares {h = h} {s = b} {ds = ds} new rest) m x u there s is =
    let d = decl.Declaration.subroutine h b in
    by (same_name x h.name) refl is (λ later. done rest (m + declaration_stops d) x u (kept_one outer t d x u there) s later)
  where
    by : {A : Type 0} (c : Bool) → same_name x h.name ≡ c
        → (if c then Some (record { heading = h; statement = b; before = m }) else subroutine_named (subroutines_among (m + declaration_stops (decl.Declaration.subroutine h b)) ds) x) ≡ Some s
        → (subroutine_named (subroutines_among (m + declaration_stops (decl.Declaration.subroutine h b)) ds) x ≡ Some s → A) → A
    by true same here later = clash_twice t h.name h.at x u new there same
    by false same here later = later here
done {outer = outer} {t = t} (New.silent {d = d} {ds = ds} none rest) m x u there s is =
    done rest (m + declaration_stops d) x u (kept_one outer t d x u there) s
    (sym (ap (λ (l : List Subroutine). subroutine_named (l ++ subroutines_among (m + declaration_stops d) ds) x) (none m)) ∙ is)

sub_same : (p q : Profile) → Some (n.subroutine p) ≡ Some (n.subroutine q) → q ≡ p
sub_same p q is = cc

-- a name that was new is declared by the first subroutine of that name, and by no other declaration behind it
pub theirs : {outer : Names} {t : Table Sort} {ds : Declarations} → New outer t ds → (m : ℕ) (x : List ℕ) → find t x ≡ None → (p : Profile)
    → find (with_declarations outer t ds) x ≡ Some (n.subroutine p) → (s : Subroutine) → subroutine_named (subroutines_among m ds) x ≡ Some s → p ≡ profile_of s.heading
theirs New.no_more m x new p is s named = cc
theirs {outer = outer} {t = t} (New.declares {h = h} {s = b} {ds = ds} fresh rest) m x new p is s named =
    let d = decl.Declaration.subroutine h b in
    let behind = with_declaration outer t d in
    by (same_name x h.name) refl named
    (λ same. sym (kept_declarations outer behind ds x (n.subroutine (profile_of h)) (declared_new t h.name (n.subroutine (profile_of h)) x new same)) ∙ is)
    (λ other later. theirs rest (m + declaration_stops d) x (declared_other t h.name (n.subroutine (profile_of h)) x new other) p is s later)
  where
    its : (a c : Subroutine) → Some a ≡ Some c → a ≡ c
    its a c e = cc

    by : (c : Bool) → same_name x h.name ≡ c
        → (if c then Some (record { heading = h; statement = b; before = m }) else subroutine_named (subroutines_among (m + declaration_stops (decl.Declaration.subroutine h b)) ds) x) ≡ Some s
        → (same_name x h.name ≡ true → Some (n.subroutine (profile_of h)) ≡ Some (n.subroutine p))
        → (same_name x h.name ≡ false → subroutine_named (subroutines_among (m + declaration_stops (decl.Declaration.subroutine h b)) ds) x ≡ Some s → p ≡ profile_of s.heading)
        → p ≡ profile_of s.heading
    by true same here own later = sub_same (profile_of h) p (own same) ∙ ap (λ (y : Subroutine). profile_of y.heading) (its _ s here)
    by false same here own later = later same here
theirs {outer = outer} {t = t} (New.silent {d = d} {ds = ds} none rest) m x new p is s named =
    let behind = with_declaration outer t d in
    let later = sym (ap (λ (l : List Subroutine). subroutine_named (l ++ subroutines_among (m + declaration_stops d) ds) x) (none m)) ∙ named in
    by (find behind x) refl (λ new'. theirs rest (m + declaration_stops d) x new' p is s later) (λ u there. done rest (m + declaration_stops d) x u there s later)
  where
    by : (o : Option Sort) → find (with_declaration outer t d) x ≡ o → (find (with_declaration outer t d) x ≡ None → p ≡ profile_of s.heading)
        → ((u : Sort) → find (with_declaration outer t d) x ≡ Some u → p ≡ profile_of s.heading) → p ≡ profile_of s.heading
    by None is empty full = empty is
    by (Some u) is empty full = full u is

-- and each subroutine of a list is what its name stands for
pub declared_each : {outer : Names} {t : Table Sort} {ds : Declarations} → New outer t ds → (m : ℕ)
    → Each (λ s. find (with_declarations outer t ds) s.heading.name ≡ Some (n.subroutine (profile_of s.heading))) (subroutines_among m ds)
declared_each New.no_more m = tt
declared_each {outer = outer} {t = t} (New.declares {h = h} {s = b} {ds = ds} fresh rest) m =
    let d = decl.Declaration.subroutine h b in
    let behind = with_declaration outer t d in (
      kept_declarations outer behind ds h.name (n.subroutine (profile_of h))
          (declared_new t h.name (n.subroutine (profile_of h)) h.name (twice_none t h.name h.at fresh) (same_self h.name)),
      declared_each rest (m + declaration_stops d),
    )
declared_each {outer = outer} {t = t} (New.silent {d = d} {ds = ds} none rest) m =
    subst (λ (l : List Subroutine). Each (λ s. find (with_declarations outer t (decl.and d ds)) s.heading.name ≡ Some (n.subroutine (profile_of s.heading)))
    (l ++ subroutines_among (m + declaration_stops d) ds)) (sym (none m))
    (declared_each rest (m + declaration_stops d))

pub locals_declared : (a : Around) (sc : Scope) (t : Table Sort) (m : ℕ) (ds : Declarations) → local_faults a sc t ds ≡ []
    → Each (λ s. find (with_declarations a.names t ds) s.heading.name ≡ Some (n.subroutine (profile_of s.heading))) (subroutines_among m ds)
locals_declared a sc t m ds none = declared_each (locals_new a sc t ds none) m

pub mains_declared : (sub : Bool) (sc : Scope) (others : List Routine) (ds : Declarations) → globals_faults (around_unit sub) sc others [] [] ds ≡ []
    → Each (λ s. find (with_declarations nothing_declared [] ds) s.heading.name ≡ Some (n.subroutine (profile_of s.heading))) (subroutines_among 0 ds)
mains_declared sub sc others ds none = declared_each (globals_new sub sc others [] [] ds none) 0

-- in the list of a procedure, and of a unit
pub locals_theirs : SubroutinesAreTheirs
locals_theirs a sc t m ds none x new p is s named = theirs (locals_new a sc t ds none) m x new p is s named

pub mains_theirs : (sub : Bool) (sc : Scope) (others : List Routine) (ds : Declarations) → globals_faults (around_unit sub) sc others [] [] ds ≡ [] → (x : List ℕ) (p : Profile)
    → find (with_declarations nothing_declared [] ds) x ≡ Some (n.subroutine p) → (s : Subroutine) → subroutine_named (subroutines_among 0 ds) x ≡ Some s → p ≡ profile_of s.heading
mains_theirs sub sc others ds none x p is s named = theirs (globals_new sub sc others [] [] ds none) 0 x refl p is s named
