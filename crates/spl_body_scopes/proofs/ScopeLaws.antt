-- The scopes that are found along the declarations of a unit are those of its bodies.
-- 1. a unit has all its declarations left at first, and behind each those behind it     (begins, goes_on)
-- 2. so the next procedure is the first of those that are left                           (first_left)
-- 3. and what is seen through its levels are its names and places                        (routine_scope, inner_scope, main_scope)
use Rattle.std.proofs.Common.{ℕ, zero, suc, ◌≡◌, ◌+◌, add-zero, add_assoc, Bool, true, false, List, [], ◌∷◌, ◌++◌, map, drop, Option, Some, None, refl, sym, ap, subst, ◌∙◌}
use Rattle.std.proofs.lemmas.Option.{slice_get-map}
use Rattle.std.proofs.lemmas.List.{map-append}
use Rattle.std.specs.Prelude.{option_map, if◌then◌else◌}
use Rattle.std.specs.List.{slice_get}
use Rattle.spl_tree.specs.DeclarationTrees as decl
use Rattle.spl_tree.specs.DeclarationTrees.{Heading, Declaration, Declarations, declarations}
use Rattle.spl_tree.specs.StatementTrees as stat
use Rattle.spl_sorts.specs.spl_meaning.Stops.{declaration_stops}
use Rattle.spl_sorts.specs.spl_meaning.Names.{Names, Sort, Table, find, or_else, within, nothing_declared, parameters, formals_of, profile_of}
use Rattle.spl_sorts.specs.spl_meaning.Tables.{Source, Routine, Subroutine, routines_of, routines_among, routine_table, outer_names, routine_subroutines, subroutine_in, subroutines_among, unit_subroutines, unit_table, with_declaration}
use Rattle.spl_sorts.specs.spl_meaning.Places.{Place, data_word, above_base, below_base, below_return, item_words, list_words, list_array_words, places_from}
use Rattle.spl_sorts.specs.spl_meaning.Bodies.{Body, Named, Reached, reached_behind, marker_gap, parameter_places, named_bodies, procedure_body, subroutine_body, main_body, all_routines}
use Rattle.spl_places.specs.spl_found.OwnNames.{behind_declaration, behind_declarations}
use Rattle.spl_places.proofs.spl_found_proofs.OwnNames.{find_declaration, find_declarations}
use Rattle.spl_places.specs.ListedData.{Datum, list_data}
use Rattle.spl_places.specs.Counters.{total_words}
use Rattle.spl_places.specs.Held.{named}
use Rattle.spl_places.specs.Programs.{routine_items, Each, NewInUnit, NewInRoutine}
use Rattle.spl_places.proofs.HeldLaws.{held_declarations}
use Rattle.spl_places.proofs.ProgramLaws.{routine_held, item_words_held, places_held}
use Rattle.spl_places.specs.Gathered.{items_under, items_in}
use Rattle.spl_scopes.specs.spl_code.Calls.{Scope}
use Rattle.spl_scopes.specs.Entries.{Owner, main, routine, Entry, routines_behind, module_entries, procedure_index, subroutine_index}
use Rattle.spl_scopes.specs.Scopes.{Placed, first_reached, placed_units, global_places, routine_bodies, outer_body, inner_body, segment_of, scope_with}
use Rattle.spl_body_scopes.specs.Levels.{Spots, globals_from, routine_level, inner_level, through}
use Rattle.spl_body_scopes.specs.declared.places.Base.TheVariants as base
use Rattle.spl_scopes.specs.Scopes.{Results}
use Rattle.spl_sorts.specs.spl_meaning.Bodies.{own_result, result_place}
use Rattle.spl_body_scopes.specs.Results.{heading_result, routine_result, results_through}
use Rattle.spl_body_scopes.specs.Found.{RoutineResults, InnerResults, MainResults, MainInnerResults}
use Rattle.spl_body_scopes.specs.Walks.{State, behind, routines_own, Left, globals_in, inner_heading, inner_headings, WalksBegin, WalksGoOn, RoutineScopes, InnerScopes, MainScopes, MainInnerScopes}

-- ---- lists

pub drop_more : {A : Type 0} (n : ℕ) (xs : List A) (y : A) (ys : List A) → drop n xs ≡ y ∷ ys → drop (suc n) xs ≡ ys
drop_more zero [] y ys is = cc
drop_more (suc n) [] y ys is = cc
drop_more zero (x ∷ xs) y ys is = ap (drop 1) is
drop_more (suc n) (x ∷ xs) y ys is = drop_more n xs y ys is

pub first_at : {A : Type 0} (n : ℕ) (xs : List A) (y : A) (ys : List A) → drop n xs ≡ y ∷ ys → slice_get xs n ≡ Some y
first_at zero [] y ys is = cc
first_at (suc n) [] y ys is = cc
first_at zero (x ∷ xs) y ys is = ap (λ zs. slice_get zs 0) is
first_at (suc n) (x ∷ xs) y ys is = first_at n xs y ys is

each_first : {A : Type 0} (P : A → Type 0) (xs ys : List A) → Each P (xs ++ ys) → Each P xs
each_first P [] ys all = tt
each_first P (x ∷ xs) ys all = (all.0, each_first P xs ys all.1)

pub each_second : {A : Type 0} (P : A → Type 0) (xs ys : List A) → Each P (xs ++ ys) → Each P ys
each_second P [] ys all = all
each_second P (x ∷ xs) ys all = each_second P xs ys all.1

-- ---- 1. the walk

unit_new : (at : Reached) (us : List Source) (n : ℕ) (p : Placed) → Each NewInUnit us → Each NewInRoutine (all_routines us)
    → slice_get (placed_units at us) n ≡ Some p → NewInUnit p.unit × Each NewInRoutine (routines_of p.unit)
unit_new at [] n p units all is = cc
unit_new at (u ∷ us) zero p units all is =
    subst (λ (v : Source). NewInUnit v × Each NewInRoutine (routines_of v)) (ap unit_in is)
    (units.0, each_first NewInRoutine (routines_of u) (all_routines us) all)
  where
    unit_in : Option Placed → Source
    unit_in None = u
    unit_in (Some q) = q.unit
unit_new at (u ∷ us) (suc n) p units all is =
    unit_new (reached_behind u at) us n p units.1 (each_second NewInRoutine (routines_of u) (all_routines us) all) is

no_names : nothing_declared ≡ find []
no_names i x = None

pub begins : WalksBegin
begins us n p new at =
    let both = unit_new (first_reached us) us n p new.0 new.1 at in
    record {
      table = [];
      before = 0;
      own_arrays = p.at.own_arrays;
      names = no_names;
      whole = refl;
      routines = refl;
      bodies = refl;
      new = both.1;
      total = refl;
      new_globals = both.0;
    }

-- the routine that a procedure is, behind a list
abbrev pub made : Table Sort → ℕ → Heading → Declarations → List stat.Statement → Routine
made t m h items ss = record {
  heading = h;
  items = items;
  statements = ss;
  globals = with_declaration nothing_declared t (decl.Declaration.procedure h items ss);
  before = m;
}

-- the names behind a declaration
names_behind : (names : Names) (t : Table Sort) (d : Declaration) → names ≡ find t
    → behind_declaration nothing_declared names d ≡ find (with_declaration nothing_declared t d)
names_behind names t d is = ap (λ (n : Names). behind_declaration nothing_declared n d) is ∙ sym (find_declaration nothing_declared t d)

-- the words of its OWN items
own_words : (names : Names) (t : Table Sort) (m : ℕ) (h : Heading) (items : Declarations) (ss : List stat.Statement) → names ≡ find t
    → NewInRoutine (made t m h items ss)
    → total_words true item_words (items_under (behind_declaration nothing_declared names (decl.Declaration.procedure h items ss)) h items)
    ≡ list_words true (routine_table (made t m h items ss))
own_words names t m h items ss is new =
    let r = made t m h items ss in
    ap (λ (n : Names). total_words true item_words (items_under n h items)) (names_behind names t (decl.Declaration.procedure h items ss) is)
    ∙ sym (item_words_held true (routine_table r) (routine_items r) (routine_held r new))

-- a declaration that is no procedure
goes_plain : (p : Placed) (s : State) (d : Declaration) (ds : Declarations) (left : Left p s (decl.and d ds))
    → routines_among left.table left.before (decl.and d ds) ≡ routines_among (with_declaration nothing_declared left.table d) (left.before + declaration_stops d) ds
    → routines_behind s.count d ≡ s.count → items_in (behind_declaration nothing_declared s.names d) d ≡ [] → Left p (behind s d) ds
goes_plain p s d ds left same count none =
    let t = with_declaration nothing_declared left.table d in
    let m = left.before + declaration_stops d in
    let own : s.own ≡ s.own + total_words true item_words (items_in (behind_declaration nothing_declared s.names d) d) =
    sym (add-zero s.own) ∙ ap (λ (is : List Datum). s.own + total_words true item_words is) (sym none) in
    record {
      table = t;
      before = m;
      own_arrays = left.own_arrays;
      names = names_behind s.names left.table d left.names;
      whole = left.whole;
      routines = ap (λ (k : ℕ). drop k (routines_of p.unit)) count ∙ left.routines ∙ same;
      bodies =
          ap (λ (k : ℕ). drop k (routine_bodies p)) count ∙ left.bodies
          ∙ ap (λ (rs : List Routine). named_bodies (global_places p) s.own left.own_arrays rs) same
          ∙ ap (λ (o : ℕ). named_bodies (global_places p) o left.own_arrays (routines_among t m ds)) own;
      new = subst (λ (rs : List Routine). Each NewInRoutine rs) same left.new;
      total =
          ap (λ (o : ℕ). o + routines_own (routines_among t m ds)) (sym own) ∙ ap (λ (rs : List Routine). s.own + routines_own rs) (sym same) ∙ left.total;
      new_globals = left.new_globals;
    }

pub goes_on : WalksGoOn
goes_on p s (decl.Declaration.data_items own k items) ds left = goes_plain p s (decl.Declaration.data_items own k items) ds left refl refl refl
goes_on p s (decl.Declaration.equate es) ds left = goes_plain p s (decl.Declaration.equate es) ds left refl refl refl
goes_on p s (decl.Declaration.intrinsic xs) ds left = goes_plain p s (decl.Declaration.intrinsic xs) ds left refl refl refl
goes_on p s (decl.Declaration.label xs) ds left = goes_plain p s (decl.Declaration.label xs) ds left refl refl refl
goes_on p s (decl.Declaration.forward h) ds left = goes_plain p s (decl.Declaration.forward h) ds left refl refl refl
goes_on p s (decl.Declaration.external h) ds left = goes_plain p s (decl.Declaration.external h) ds left refl refl refl
goes_on p s (decl.Declaration.subroutine h st) ds left = goes_plain p s (decl.Declaration.subroutine h st) ds left refl refl refl
goes_on p s (decl.Declaration.procedure h items ss) ds left =
    let d = decl.Declaration.procedure h items ss in
    let r = made left.table left.before h items ss in
    let t = with_declaration nothing_declared left.table d in
    let m = left.before + declaration_stops d in
    let rest = routines_among t m ds in
    let g = global_places p in
    let arrays = left.own_arrays + list_array_words true (routine_table r) in
    record {
      table = t;
      before = m;
      own_arrays = arrays;
      names = names_behind s.names left.table d left.names;
      whole = left.whole;
      routines = drop_more s.count (routines_of p.unit) r rest left.routines;
      bodies =
          drop_more s.count (routine_bodies p) (record { name = h.name; body = procedure_body g s.own left.own_arrays r })
          (named_bodies g (s.own + list_words true (routine_table r)) arrays rest) left.bodies
          ∙ ap (λ (w : ℕ). named_bodies g (s.own + w) arrays rest) (sym (own_words s.names left.table left.before h items ss left.names left.new.0));
      new = left.new.1;
      total =
          ap (λ (w : ℕ). s.own + w + routines_own rest) (own_words s.names left.table left.before h items ss left.names left.new.0)
          ∙ add_assoc s.own (list_words true (routine_table r)) (routines_own rest) ∙ left.total;
      new_globals = left.new_globals;
    }

-- ---- 2. the next procedure

-- its body
abbrev pub body_left : Placed → State → Table Sort → ℕ → ℕ → Heading → Declarations → List stat.Statement → Body
body_left p s t m arrays h items ss = procedure_body (global_places p) s.own arrays (made t m h items ss)

pub routine_next : (p : Placed) (s : State) (h : Heading) (items : Declarations) (ss : List stat.Statement) (ds : Declarations)
    (left : Left p s (decl.and (decl.Declaration.procedure h items ss) ds))
    → slice_get (routines_of p.unit) s.count ≡ Some (made left.table left.before h items ss)
routine_next p s h items ss ds left =
    first_at s.count (routines_of p.unit) (made left.table left.before h items ss)
    (routines_among (with_declaration nothing_declared left.table (decl.Declaration.procedure h items ss)) (left.before + declaration_stops (decl.Declaration.procedure h items ss)) ds)
    left.routines

pub body_next : (p : Placed) (s : State) (h : Heading) (items : Declarations) (ss : List stat.Statement) (ds : Declarations)
    (left : Left p s (decl.and (decl.Declaration.procedure h items ss) ds))
    → slice_get (routine_bodies p) s.count ≡ Some (record { name = h.name; body = body_left p s left.table left.before left.own_arrays h items ss })
body_next p s h items ss ds left =
    let r = made left.table left.before h items ss in
    first_at s.count (routine_bodies p) (record { name = h.name; body = body_left p s left.table left.before left.own_arrays h items ss })
    (named_bodies (global_places p) (s.own + list_words true (routine_table r)) (left.own_arrays + list_array_words true (routine_table r))
    (routines_among (with_declaration nothing_declared left.table (decl.Declaration.procedure h items ss)) (left.before + declaration_stops (decl.Declaration.procedure h items ss)) ds))
    left.bodies

-- ---- 3. levels

twice : {A : Type 0} (a o : List ℕ → Option A) → through a a o ≡ (λ x. or_else (a x) (o x))
twice {A} a o i x = by (a x) (o x) i
  where
    by : (b c : Option A) → or_else b (or_else b c) ≡ or_else b c
    by (Some v) c = refl
    by None c = refl

idle : {A : Type 0} (a : List ℕ → Option A) → (λ x. or_else (a x) (a x)) ≡ a
idle {A} a i x = by (a x) i
  where
    by : (b : Option A) → or_else b b ≡ b
    by (Some v) = refl
    by None = refl

thrice : {A : Type 0} (a : List ℕ → Option A) → through a a a ≡ a
thrice {A} a i x = by (a x) i
  where
    by : (b : Option A) → or_else b (or_else b b) ≡ b
    by (Some v) = refl
    by None = refl

-- a unit's globals
globals_placed : (p : Placed) → NewInUnit p.unit → find (global_places p) ≡ globals_from p.at.primary (declarations p.unit.tree.items)
globals_placed p new =
    let ds = declarations p.unit.tree.items in
    ap find (places_held data_word 0 p.at.primary (unit_table p.unit)
    ∙ ap (λ (t : Table Sort). places_from data_word 0 p.at.primary t) (held_declarations nothing_declared [] ds new)
    ∙ ap (λ (h : Names). places_from data_word 0 p.at.primary (map named (list_data nothing_declared h ds))) (sym no_names))

-- the names of a procedure
routine_named : (here : Names) (t : Table Sort) (m : ℕ) (h : Heading) (items : Declarations) (ss : List stat.Statement)
    → here ≡ outer_names (made t m h items ss) → (own : ℕ) → (routine_level here own h items).names ≡ find (routine_table (made t m h items ss))
routine_named here t m h items ss is own =
    let r = made t m h items ss in
    ap (λ (o : Names). behind_declarations o (find (parameters (formals_of h))) items) is
    ∙ sym (find_declarations (outer_names r) (parameters (formals_of h)) items)

-- and its places
routine_placed : (here : Names) (t : Table Sort) (m : ℕ) (h : Heading) (items : Declarations) (ss : List stat.Statement) (own : ℕ)
    → here ≡ outer_names (made t m h items ss) → NewInRoutine (made t m h items ss)
    → (routine_level here own h items).places
    ≡ find (parameter_places below_base marker_gap (formals_of h) ++ places_from above_base own 1 (routine_table (made t m h items ss)))
routine_placed here t m h items ss own is new =
    let r = made t m h items ss in
    let ps = parameter_places below_base marker_gap (formals_of h) in
    ap (λ (o : Names). find (ps ++ places_from above_base own 1 (map named (items_under o h items)))) is
    ∙ ap (λ (u : Table Sort). find (ps ++ places_from above_base own 1 u)) (sym (routine_held r new))
    ∙ ap (λ (u : Table Place). find (ps ++ u)) (sym (places_held above_base own 1 (routine_table r)))

-- a scope by its names and places
abbrev with_entries : List Entry → Owner → Names → Spots → Scope
with_entries es o names places = record { names = names; places = places; procedures = procedure_index es; subroutines = subroutine_index o es }

same_scope : (es : List Entry) (o : Owner) (n m : Names) (a b : Spots) → n ≡ m → a ≡ b → with_entries es o n a ≡ with_entries es o m b
same_scope es o n m a b names places = ap (λ (k : Names). with_entries es o k a) names ∙ ap (λ (c : Spots). with_entries es o m c) places

-- the names and places of a procedure's body are those of its level over its unit's
pub body_names : (p : Placed) (s : State) (here : Names) (h : Heading) (items : Declarations) (ss : List stat.Statement) (ds : Declarations)
    (left : Left p s (decl.and (decl.Declaration.procedure h items ss) ds)) → here ≡ (behind s (decl.Declaration.procedure h items ss)).names
    → here ≡ outer_names (made left.table left.before h items ss)
body_names p s here h items ss ds left is = is ∙ names_behind s.names left.table (decl.Declaration.procedure h items ss) left.names

pub routine_scope : RoutineScopes
routine_scope p s here h items ss ds left is =
    let r = made left.table left.before h items ss in
    let o = routine s.count in
    let es = module_entries p.unit h.segment in
    let outside = body_names p s here h items ss ds left is in
    let own = routine_level here s.own h items in
    let globals = globals_in p here in
    let b = body_left p s left.table left.before left.own_arrays h items ss in
    let names : b.here.names ≡ through own.names own.names globals.names =
    ap (λ (n : Names). λ (x : List ℕ). or_else (n x) (outer_names r x)) (sym (routine_named here left.table left.before h items ss outside s.own))
    ∙ ap (λ (n : Names). λ (x : List ℕ). or_else (own.names x) (n x)) (sym outside) ∙ sym (twice own.names here) in
    let places : b.here.places ≡ through own.places own.places globals.places =
    ap (λ (a : Spots). λ (x : List ℕ). or_else (a x) (find (global_places p) x)) (sym (routine_placed here left.table left.before h items ss s.own outside left.new.0))
    ∙ ap (λ (a : Spots). λ (x : List ℕ). or_else (own.places x) (a x)) (globals_placed p left.new_globals) ∙ sym (twice own.places globals.places) in
    ap (λ (q : Option Routine). option_map (scope_with (module_entries p.unit (segment_of q)) o) (outer_body p o)) (routine_next p s h items ss ds left)
    ∙ ap (λ (q : Option Named). option_map (scope_with es o) (option_map (λ (c : Named). c.body) q)) (body_next p s h items ss ds left)
    ∙ ap Some (same_scope es o b.here.names (through own.names own.names globals.names) b.here.places (through own.places own.places globals.places) names places)

-- ---- subroutines

abbrev heading_of : Heading → Option Subroutine → Heading
heading_of h None = h
heading_of h (Some s) = s.heading

-- the headings of a list's subroutines
one_heading : (m : ℕ) (d : Declaration) → map (λ (s : Subroutine). s.heading) (subroutine_in m d) ≡ inner_heading d
one_heading m (decl.Declaration.data_items own k items) = refl
one_heading m (decl.Declaration.equate es) = refl
one_heading m (decl.Declaration.intrinsic xs) = refl
one_heading m (decl.Declaration.label xs) = refl
one_heading m (decl.Declaration.forward h) = refl
one_heading m (decl.Declaration.external h) = refl
one_heading m (decl.Declaration.procedure h items ss) = refl
one_heading m (decl.Declaration.subroutine h s) = refl

pub all_headings : (m : ℕ) (ds : Declarations) → map (λ (s : Subroutine). s.heading) (subroutines_among m ds) ≡ inner_headings ds
all_headings m decl.none = refl
all_headings m (decl.and d ds) =
    map-append (λ (s : Subroutine). s.heading) (subroutine_in m d) (subroutines_among (m + declaration_stops d) ds)
    ∙ ap (λ (hs : List Heading). hs ++ map (λ (s : Subroutine). s.heading) (subroutines_among (m + declaration_stops d) ds)) (one_heading m d)
    ∙ ap (λ (hs : List Heading). inner_heading d ++ hs) (all_headings (m + declaration_stops d) ds)

heading_there : (m j : ℕ) (ds : Declarations) (sub : Heading) → slice_get (inner_headings ds) j ≡ Some sub
    → option_map (λ (s : Subroutine). s.heading) (slice_get (subroutines_among m ds) j) ≡ Some sub
heading_there m j ds sub is =
    sym (slice_get-map (λ (s : Subroutine). s.heading) (subroutines_among m ds) j) ∙ ap (λ (hs : List Heading). slice_get hs j) (all_headings m ds) ∙ is

-- the scope of a subroutine with this heading in a body
abbrev inner_scope_in : List Entry → Owner → Body → Heading → Scope
inner_scope_in es o b h =
    with_entries es o (within (parameters (formals_of h)) b.here.names) (λ x. or_else (find (parameter_places below_return 0 (formals_of h)) x) (b.here.places x))

inner_found : (es : List Entry) (o : Owner) (b : Body) (q : Option Subroutine) (sub : Heading) → option_map (λ (s : Subroutine). s.heading) q ≡ Some sub
    → option_map (scope_with es o) (option_map (subroutine_body b) q) ≡ Some (inner_scope_in es o b sub)
inner_found es o b None sub is = cc
inner_found es o b (Some s) sub is = ap (option_map (inner_scope_in es o b)) is

pub inner_scope : InnerScopes
inner_scope p s here h items ss ds j sub left is at =
    let r = made left.table left.before h items ss in
    let o = routine s.count in
    let es = module_entries p.unit h.segment in
    let outside = body_names p s here h items ss ds left is in
    let own = routine_level here s.own h items in
    let globals = globals_in p here in
    let top = inner_level sub in
    let b = body_left p s left.table left.before left.own_arrays h items ss in
    let names : within (parameters (formals_of sub)) b.here.names ≡ through top.names own.names globals.names =
    ap (λ (n : Names). through top.names n (outer_names r)) (sym (routine_named here left.table left.before h items ss outside s.own))
    ∙ ap (λ (n : Names). through top.names own.names n) (sym outside) in
    let places : (λ x. or_else (top.places x) (b.here.places x)) ≡ through top.places own.places globals.places =
    ap (λ (a : Spots). through top.places a (find (global_places p))) (sym (routine_placed here left.table left.before h items ss s.own outside left.new.0))
    ∙ ap (λ (a : Spots). through top.places own.places a) (globals_placed p left.new_globals) in
    ap (λ (q : Option Routine). option_map (scope_with (module_entries p.unit (segment_of q)) o) (inner_body (outer_body p o) j)) (routine_next p s h items ss ds left)
    ∙ ap (λ (q : Option Named). option_map (scope_with es o) (inner_body (option_map (λ (c : Named). c.body) q) j)) (body_next p s h items ss ds left)
    ∙ inner_found es o b (slice_get (routine_subroutines r) j) sub (heading_there left.before j items sub at)
    ∙ ap Some (same_scope es o (within (parameters (formals_of sub)) b.here.names) (through top.names own.names globals.names)
    (λ x. or_else (top.places x) (b.here.places x)) (through top.places own.places globals.places) names places)

-- ---- the main body

-- the names of a unit, where all of its declarations are behind
pub unit_named : (p : Placed) (s : State) → Left p s decl.none → s.names ≡ find (unit_table p.unit)
unit_named p s left = left.names ∙ ap (λ (t : Table Sort). find t) left.whole

pub main_there : (p : Placed) → p.unit.subprogram ≡ false → outer_body p main ≡ Some (main_body (global_places p) p.unit)
main_there p is = ap (λ (b : Bool). if b then None else Some (main_body (global_places p) p.unit)) is

pub main_scope : MainScopes
main_scope p s left is =
    let es = module_entries p.unit p.unit.tree.segment in
    let globals = globals_in p s.names in
    ap (option_map (scope_with es main)) (main_there p is)
    ∙ ap Some (same_scope es main (find (unit_table p.unit)) (through globals.names globals.names globals.names) (find (global_places p))
    (through globals.places globals.places globals.places)
    (sym (unit_named p s left) ∙ sym (thrice globals.names)) (globals_placed p left.new_globals ∙ sym (thrice globals.places)))

pub main_inner_scope : MainInnerScopes
main_inner_scope p s j sub left is at =
    let es = module_entries p.unit p.unit.tree.segment in
    let globals = globals_in p s.names in
    let top = inner_level sub in
    let b = main_body (global_places p) p.unit in
    let names : within (parameters (formals_of sub)) b.here.names ≡ through top.names globals.names globals.names =
    ap (λ (n : Names). λ (x : List ℕ). or_else (top.names x) (n x)) (sym (unit_named p s left) ∙ sym (idle globals.names)) in
    let places : (λ x. or_else (top.places x) (b.here.places x)) ≡ through top.places globals.places globals.places =
    ap (λ (a : Spots). λ (x : List ℕ). or_else (top.places x) (a x)) (globals_placed p left.new_globals ∙ sym (idle globals.places)) in
    ap (λ (q : Option Body). option_map (scope_with es main) (inner_body q j)) (main_there p is)
    ∙ inner_found es main b (slice_get (unit_subroutines p.unit) j) sub (heading_there 0 j (declarations p.unit.tree.items) sub at)
    ∙ ap Some (same_scope es main (within (parameters (formals_of sub)) b.here.names) (through top.names globals.names globals.names)
    (λ x. or_else (top.places x) (b.here.places x)) (through top.places globals.places globals.places) names places)

-- ---- results

-- the results in a subroutine with this heading
abbrev inner_results_in : Body → Heading → Results
inner_results_in b h x = or_else (heading_result base.Return h x) (b.here.results x)

results_found : (b : Body) (q : Option Subroutine) (sub : Heading) → option_map (λ (s : Subroutine). s.heading) q ≡ Some sub
    → option_map (λ (c : Body). c.here.results) (option_map (subroutine_body b) q) ≡ Some (inner_results_in b sub)
results_found b None sub is = cc
results_found b (Some s) sub is = ap (option_map (inner_results_in b)) is

-- the names of a procedure's list may hide its result
own_results : (here : Names) (t : Table Sort) (m : ℕ) (h : Heading) (items : Declarations) (ss : List stat.Statement) (own : ℕ)
    → here ≡ outer_names (made t m h items ss)
    → own_result (routine_table (made t m h items ss)) h.name h.result (result_place below_base marker_gap (profile_of h))
    ≡ routine_result (routine_level here own h items).names h
own_results here t m h items ss own is = ap (λ (n : Names). routine_result n h) (sym (routine_named here t m h items ss is own))

pub routine_results : RoutineResults
routine_results p s here h items ss ds left is =
    ap (λ (q : Option Named). option_map (λ (c : Body). c.here.results) (option_map (λ (c : Named). c.body) q)) (body_next p s h items ss ds left)
    ∙ ap Some (own_results here left.table left.before h items ss s.own (body_names p s here h items ss ds left is))

pub inner_results : InnerResults
inner_results p s here h items ss ds j sub left is at =
    let b = body_left p s left.table left.before left.own_arrays h items ss in
    ap (λ (q : Option Named). option_map (λ (c : Body). c.here.results) (inner_body (option_map (λ (c : Named). c.body) q) j)) (body_next p s h items ss ds left)
    ∙ results_found b (slice_get (routine_subroutines (made left.table left.before h items ss)) j) sub (heading_there left.before j items sub at)
    ∙ ap (λ (r : Results). Some (results_through (heading_result base.Return sub) r))
    (own_results here left.table left.before h items ss s.own (body_names p s here h items ss ds left is))

pub main_results : MainResults
main_results p is = ap (option_map (λ (c : Body). c.here.results)) (main_there p is)

pub main_inner_results : MainInnerResults
main_inner_results p j sub is at =
    ap (λ (q : Option Body). option_map (λ (c : Body). c.here.results) (inner_body q j)) (main_there p is)
    ∙ results_found (main_body (global_places p) p.unit) (slice_get (unit_subroutines p.unit) j) sub (heading_there 0 j (declarations p.unit.tree.items) sub at)
