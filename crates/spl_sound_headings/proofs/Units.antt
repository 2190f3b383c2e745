-- Headings of one name are alike, in all units.
use Rattle.std.proofs.Common.{◌≡◌, ◌⊎◌, inl, inr, ℕ, zero, suc, ◌+◌, Bool, true, false, if◌then◌else◌, List, [], ◌∷◌, ◌++◌, Some, refl, sym, ap, subst, ◌∙◌}
use Rattle.std.specs.List.{slice_get}
use Rattle.std.specs.Cmp.Lexicographic.{same_text}
use Rattle.spl_ruled_bodies.specs.spl_tree.DeclarationTrees.{declarations}
use Rattle.spl_ruled_bodies.specs.spl_tree.StatementTrees.{statements}
use Rattle.spl_ruled_bodies.specs.spl_meaning.Names as n
use Rattle.spl_ruled_bodies.specs.spl_meaning.Names.{Profile, find, same_name, profile_of}
use Rattle.spl_ruled_bodies.specs.spl_meaning.Places.{list_words, list_array_words}
use Rattle.spl_ruled_bodies.specs.spl_meaning.Tables.{Source, Routine, routine_table, routines_of, unit_table, unit_subroutines}
use Rattle.spl_ruled_bodies.specs.spl_meaning.Limits.{joined}
use Rattle.spl_ruled_bodies.specs.spl_meaning.Places.{Place}
use Rattle.spl_ruled_bodies.specs.spl_meaning.Names.{Table}
use Rattle.spl_ruled_bodies.specs.spl_meaning.Bodies.{Body, Named, Reached, reached_behind, all_routines, named_bodies, procedure_body, body_named, program_of}
use Rattle.spl_ruled_bodies.specs.spl_meaning.StatementRules.{body_faults}
use Rattle.spl_ruled_bodies.specs.spl_meaning.DeclarationRules.{same_profile, main_scope, globals_faults, silent_faults, unit_faults}
use Rattle.spl_ruled_bodies.specs.spl_meaning.Sound.{all_faults, faults_behind}
use Rattle.spl_ruled_bodies.specs.spl_meaning.Sound.{IsSound}
use Rattle.spl_ruled_bodies.specs.spl_places.Programs.{Each}
use Rattle.spl_ruled_bodies.specs.spl_scopes.Scopes.{Placed, first_reached, placed_units, unit_at, routine_bodies, global_places}
use Rattle.spl_ruled_bodies.proofs.spl_scopes_proofs.ProgramLaws.{procedures_of_units}
use Rattle.spl_routes.specs.spl_routines.Among.{IsIn, at_front, behind}
use Rattle.spl_routes.proofs.spl_routines_proofs.ListLemmas.{in_left, in_right, InEither, in_parts, place_of, in_place}
use Rattle.spl_routes.proofs.NameLemmas.{name_means}
use Rattle.spl_ruled_bodies.proofs.spl_sound_names_proofs.Tables.{left_none, right_none, never}
use Rattle.spl_ruled_bodies.proofs.spl_sound_names_proofs.Walks.{around_unit}
use Rattle.spl_ruled_bodies.proofs.spl_sound_names_proofs.Units.{sound_none}
use Rattle.spl_ruled_bodies.proofs.Routines.{routine_numbered}
use Rattle.spl_sound_headings.specs.Laws.{HeadingsAreAlike, MainSubroutinesAreTheirs}
use Rattle.spl_sound_headings.proofs.Alike.{OneAlike, OthersAlike, new_alike}
use Rattle.spl_sound_headings.proofs.Inner.{mains_theirs, mains_declared}

-- ---- units

-- the rules of a unit's list, and the procedures of all units: those of others, or its own
record Told (all : List Routine) (u : Source) : Type 0 where
  others : List Routine
  none : globals_faults (around_unit u.subprogram) (main_scope u) others [] [] (declarations u.tree.items) ≡ []
  parts : (r : Routine) → IsIn r all → IsIn r others ⊎ IsIn r (routines_of u)

-- the rules of a unit have those of its list
lists_none : (others : List Routine) (u : Source) → unit_faults others u ≡ [] → globals_faults (around_unit u.subprogram) (main_scope u) others [] [] (declarations u.tree.items) ≡ []
lists_none others u none =
    let lists = globals_faults (around_unit u.subprogram) (main_scope u) others [] [] (declarations u.tree.items) in
    let body = body_faults (main_scope u) (statements u.tree.statements) in
    let silent = if u.subprogram then silent_faults u.tree.at u.tree.statements else [] in
    left_none lists body (left_none (lists ++ body) silent none)

placed_same : (p q : Placed) → Some p ≡ Some q → p ≡ q
placed_same p q is = cc

-- among those of some units and one more
in_more : (before : List Source) (u : Source) (r : Routine) → IsIn r (all_routines before) → IsIn r (all_routines (before ++ u ∷ []))
in_more [] u r k = elim k [ ]
in_more (b ∷ before) u r k = by (in_parts r (routines_of b) (all_routines before) k) (λ rest. in_more before u r rest)
  where
    by : InEither r (routines_of b) (all_routines before) → (IsIn r (all_routines before) → IsIn r (all_routines (before ++ u ∷ [])))
        → IsIn r (routines_of b ++ all_routines (before ++ u ∷ []))
    by (InEither.left one) later = in_left r (routines_of b) (all_routines (before ++ u ∷ [])) one
    by (InEither.right rest) later = in_right r (routines_of b) (all_routines (before ++ u ∷ [])) (later rest)

-- among those of the last unit
in_last : (before : List Source) (u : Source) (r : Routine) → IsIn r (routines_of u) → IsIn r (all_routines (before ++ u ∷ []))
in_last [] u r k = in_left r (routines_of u) [] k
in_last (b ∷ before) u r k = in_right r (routines_of b) (all_routines (before ++ u ∷ [])) (in_last before u r k)

-- unit by unit
told : (at : Reached) (before us : List Source) → faults_behind before us ≡ [] → (i : ℕ) (p : Placed) → slice_get (placed_units at us) i ≡ Some p
    → Told (all_routines before ++ all_routines us) p.unit
told at before [] none i p is = cc
told at before (u ∷ us) none zero p is =
    let others = all_routines before ++ all_routines us in
    subst (λ (q : Placed). Told (all_routines before ++ all_routines (u ∷ us)) q.unit) (placed_same (record { at = at; unit = u }) p is) (record {
      others = others;
      none = lists_none others u (left_none (unit_faults others u) (faults_behind (before ++ u ∷ []) us) none);
      parts = λ r k. parts r (in_parts r (all_routines before) (routines_of u ++ all_routines us) k);
    })
  where
    rest : (r : Routine) → InEither r (routines_of u) (all_routines us) → IsIn r (all_routines before ++ all_routines us) ⊎ IsIn r (routines_of u)
    rest r (InEither.left own) = inr own
    rest r (InEither.right later) = inl (in_right r (all_routines before) (all_routines us) later)

    parts : (r : Routine) → InEither r (all_routines before) (routines_of u ++ all_routines us) → IsIn r (all_routines before ++ all_routines us) ⊎ IsIn r (routines_of u)
    parts r (InEither.left first) = inl (in_left r (all_routines before) (all_routines us) first)
    parts r (InEither.right later) = rest r (in_parts r (routines_of u) (all_routines us) later)
told at before (u ∷ us) none (suc i) p is =
    let k = told (reached_behind u at) (before ++ u ∷ []) us (right_none (unit_faults (all_routines before ++ all_routines us) u) (faults_behind (before ++ u ∷ []) us) none) i p is in
    record { others = k.others; none = k.none; parts = λ r there. k.parts r (moved r (in_parts r (all_routines before) (routines_of u ++ all_routines us) there)) }
  where
    rest : (r : Routine) → InEither r (routines_of u) (all_routines us) → IsIn r (all_routines (before ++ u ∷ []) ++ all_routines us)
    rest r (InEither.left own) = in_left r (all_routines (before ++ u ∷ [])) (all_routines us) (in_last before u r own)
    rest r (InEither.right later) = in_right r (all_routines (before ++ u ∷ [])) (all_routines us) later

    moved : (r : Routine) → InEither r (all_routines before) (routines_of u ++ all_routines us) → IsIn r (all_routines (before ++ u ∷ []) ++ all_routines us)
    moved r (InEither.left first) = in_left r (all_routines (before ++ u ∷ [])) (all_routines us) (in_more before u r first)
    moved r (InEither.right later) = rest r (in_parts r (routines_of u) (all_routines us) later)

-- ---- the procedure of a name

-- which procedure the body of a name is of
record Means (all : List Routine) (x : List ℕ) (b : Body) : Type 0 where
  its : Routine
  among : IsIn its all
  name : same_name x its.heading.name ≡ true
  profile : b.profile ≡ profile_of its.heading

record NamedSo (bs : List Named) (x : List ℕ) (b : Body) : Type 0 where
  its : Named
  among : IsIn its bs
  name : same_name x its.name ≡ true
  is : its.body ≡ b

body_same : (a b : Body) → Some a ≡ Some b → a ≡ b
body_same a b is = cc

-- the first of that name
named_so : (bs : List Named) (x : List ℕ) (b : Body) → body_named bs x ≡ Some b → NamedSo bs x b
named_so [] x b is = cc
named_so (y ∷ bs) x b is = by (same_name x y.name) refl is (λ later. named_so bs x b later)
  where
    by : (c : Bool) → same_name x y.name ≡ c → (if c then Some y.body else body_named bs x) ≡ Some b → (body_named bs x ≡ Some b → NamedSo bs x b) → NamedSo (y ∷ bs) x b
    by true same here later = record { its = y; among = at_front refl; name = same; is = body_same y.body b here }
    by false same here later = let k = later here in record { its = k.its; among = behind k.among; name = k.name; is = k.is }

-- each body of units is that of one of their procedures
in_units : (at : Reached) (us : List Source) (y : Named) → IsIn y (joined routine_bodies (placed_units at us)) → (r : Routine) × IsIn r (all_routines us) × (y.name ≡ r.heading.name) × (y.body.profile ≡ profile_of r.heading)
in_units at [] y k = elim k [ ]
in_units at (u ∷ us) y k = by (in_parts y (routine_bodies (record { at = at; unit = u })) (joined routine_bodies (placed_units (reached_behind u at) us)) k)
    (λ later. in_units (reached_behind u at) us y later)
  where
    by : InEither y (routine_bodies (record { at = at; unit = u })) (joined routine_bodies (placed_units (reached_behind u at) us))
        → (IsIn y (joined routine_bodies (placed_units (reached_behind u at) us)) → (r : Routine) × IsIn r (all_routines us) × (y.name ≡ r.heading.name) × (y.body.profile ≡ profile_of r.heading))
        → (r : Routine) × IsIn r (routines_of u ++ all_routines us) × (y.name ≡ r.heading.name) × (y.body.profile ≡ profile_of r.heading)
    by (InEither.left own) rest =
        let p : Placed = record { at = at; unit = u } in
        let place = place_of y (routine_bodies p) own in
        let r = routine_numbered (global_places p) at.own at.own_arrays (routines_of u) place.0 y place.1 in
        (r.its, in_left r.its (routines_of u) (all_routines us) (in_place r.its (routines_of u) place.0 r.there), r.name, ap (λ (b : Body). b.profile) r.is)
    by (InEither.right later) rest =
        let k = rest later in (k.0, in_right k.0 (routines_of u) (all_routines us) k.1, k.2, k.3)

-- so the body of a name is that of a procedure with this name
means : (us : List Source) (x : List ℕ) (b : Body) → body_named (program_of us).procedures x ≡ Some b → Means (all_routines us) x b
means us x b is =
    let k = named_so (program_of us).procedures x b is in
    let r = in_units (first_reached us) us k.its (subst (λ (bs : List Named). IsIn k.its bs) (procedures_of_units us) k.among) in
    record {
      its = r.0;
      among = r.1;
      name = ap (λ (y : List ℕ). same_name x y) (sym r.2) ∙ k.name;
      profile = ap (λ (c : Body). c.profile) (sym k.is) ∙ r.3;
    }

-- the body of a procedure by its number
record BodyAt (p : Placed) (j : ℕ) (r : Routine) : Type 0 where
  its : Named
  there : slice_get (routine_bodies p) j ≡ Some its
  name : its.name ≡ r.heading.name
  profile : its.body.profile ≡ profile_of r.heading

routine_same : (a b : Routine) → Some a ≡ Some b → a ≡ b
routine_same a b is = cc

-- procedure by procedure
body_of : (globals : Table Place) (own own_arrays : ℕ) (rs : List Routine) (j : ℕ) (r : Routine) → slice_get rs j ≡ Some r
    → (y : Named) × (slice_get (named_bodies globals own own_arrays rs) j ≡ Some y) × (y.name ≡ r.heading.name) × (y.body.profile ≡ profile_of r.heading)
body_of globals own own_arrays [] j r is = cc
body_of globals own own_arrays (q ∷ rs) zero r is =
    let same = routine_same q r is in
    (record { name = q.heading.name; body = procedure_body globals own own_arrays q }, refl, ap (λ (z : Routine). z.heading.name) same, ap (λ (z : Routine). profile_of z.heading) same)
body_of globals own own_arrays (q ∷ rs) (suc j) r is =
    body_of globals (own + list_words true (routine_table q)) (own_arrays + list_array_words true (routine_table q)) rs j r is

-- ---- headings

-- a unit by its place is one of them
in_list : (p : Placed) (us : List Source) (i : ℕ) → slice_get (placed_units (first_reached us) us) i ≡ Some p → IsIn p (placed_units (first_reached us) us)
in_list p us i is = in_place p (placed_units (first_reached us) us) i is

-- a procedure of the unit itself, or of another: where names are unique both are the one that is meant
pub headings_alike : HeadingsAreAlike
headings_alike us sound unique i p is x q there b named =
    let k = told (first_reached us) [] us (sound_none us (all_faults us) refl sound) i p is in
    let y = means us x b named in
    by k.others k.parts (new_alike p.unit.subprogram (main_scope p.unit) k.others x [] [] 0 (declarations p.unit.tree.items) k.none refl refl q there) y.its y.among y.name y.profile
  where
    -- one of the unit's own is the one that is meant
    own : (j : ℕ) (r : Routine) → slice_get (routines_of p.unit) j ≡ Some r → same_name x r.heading.name ≡ true → b.profile ≡ profile_of r.heading
    own j r at same =
        let y = body_of (global_places p) p.at.own p.at.own_arrays (routines_of p.unit) j r at in
        let meant = name_means us unique p (in_list p us i is) j y.0 y.1 in
        let found : body_named (program_of us).procedures x ≡ Some y.0.body =
        ap (body_named (program_of us).procedures) (same_text x r.heading.name (sym same) ∙ sym y.2) ∙ meant in
        ap (λ (c : Body). c.profile) (body_same b y.0.body (sym named ∙ found)) ∙ y.3

    by : (others : List Routine) → ((r : Routine) → IsIn r (all_routines us) → IsIn r others ⊎ IsIn r (routines_of p.unit))
        → OneAlike p.unit.subprogram (main_scope p.unit) others x (routines_of p.unit) q ⊎ OthersAlike p.unit.subprogram (main_scope p.unit) others x (routines_of p.unit) q
        → (r : Routine) → IsIn r (all_routines us) → same_name x r.heading.name ≡ true → b.profile ≡ profile_of r.heading → same_profile q b.profile ≡ true
    by others parts (inl one) r among same profile = ap (λ (c : Profile). same_profile q c) (own one.place one.its one.there one.name) ∙ one.alike
    by others parts (inr theirs) r among same profile = ap (λ (c : Profile). same_profile q c) profile ∙ each (parts r among)
      where
        each : IsIn r others ⊎ IsIn r (routines_of p.unit) → same_profile q (profile_of r.heading) ≡ true
        each (inl other) = theirs.alike r other same
        each (inr mine) =
            let place = place_of r (routines_of p.unit) mine in never (sym (theirs.none place.0 r place.1) ∙ same)

-- the subroutines of a main body
pub inner_theirs : MainSubroutinesAreTheirs
inner_theirs us sound i p is x q there s named =
    let k = told (first_reached us) [] us (sound_none us (all_faults us) refl sound) i p is in
    mains_theirs p.unit.subprogram (main_scope p.unit) k.others (declarations p.unit.tree.items) k.none x q there s named

-- each of them is what its name stands for
pub inner_declared : (us : List Source) → IsSound us → (i : ℕ) (p : Placed) → unit_at us i ≡ Some p
    → Each (λ s. find (unit_table p.unit) s.heading.name ≡ Some (n.subroutine (profile_of s.heading))) (unit_subroutines p.unit)
inner_declared us sound i p is =
    let k = told (first_reached us) [] us (sound_none us (all_faults us) refl sound) i p is in
    mains_declared p.unit.subprogram (main_scope p.unit) k.others (declarations p.unit.tree.items) k.none
