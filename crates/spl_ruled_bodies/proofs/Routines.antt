-- The procedures of a list of declarations, one by one.
-- 1. the body of one by its number                         (routine_numbered)
-- 2. its subroutines are entries of its module              (inner_entered)
-- 3. what the rules say of it                               (inners_ruled, routine_told)
use Rattle.std.proofs.Common.{◌≡◌, ℕ, zero, suc, ◌+◌, ◌&&◌, nat_eq, Bool, true, false, if◌then◌else◌, List, [], ◌∷◌, ◌++◌, Some, refl, sym, subst, ap, ◌∙◌, add-zero, arith, rules}
use Rattle.std.specs.List.{slice_get}
use Rattle.std.proofs.lemmas.Bool.{and_parts}
use Rattle.spl_shapes.specs.spl_tree.DeclarationTrees as decl
use Rattle.spl_shapes.specs.spl_tree.DeclarationTrees.{Declaration, Declarations, Heading}
use Rattle.spl_shapes.specs.spl_tree.StatementTrees.{Statement, statements}
use Rattle.spl_sound_beginnings.specs.spl_meaning.Names.{Sort, Table, find, nothing_declared, parameters, formals_of}
use Rattle.spl_sound_beginnings.specs.spl_meaning.Tables.{Routine, Subroutine, routine_table, with_declaration, with_declarations, routines_among, subroutine_in, subroutines_among}
use Rattle.spl_sound_beginnings.specs.spl_meaning.Places.{Place, list_words, list_array_words}
use Rattle.spl_sound_beginnings.specs.spl_meaning.Stops.{declaration_stops}
use Rattle.spl_sound_beginnings.specs.spl_meaning.Bodies.{Named, procedure_body, named_bodies}
use Rattle.spl_sound_beginnings.specs.spl_meaning.ExpressionRules.{Scope}
use Rattle.spl_sound_beginnings.specs.spl_meaning.DeclarationRules.{Around, Waiting, local_faults_of, local_faults, global_faults, globals_faults, waiting_behind, procedure_by, procedure_faults}
use Rattle.spl_sound_beginnings.specs.spl_scopes.Entries.{routine, Entry, procedure, is_inner, in_segment, inner_entries, declared_entries, entries_among}
use Rattle.spl_shapes.specs.Shapes.{is_shaped_declaration, are_shaped_declarations, are_local, are_shaped_statements}
use Rattle.spl_sound_beginnings.specs.spl_sound_names.Known.{AreKnown, declares_inner, has_inner, inner_last}
use Rattle.spl_sound_beginnings.proofs.spl_sound_names_proofs.Tables.{left_none, right_none, never, kept_declarations}
use Rattle.spl_sound_beginnings.proofs.spl_sound_names_proofs.Walks.{around_unit, known_global}
use Rattle.spl_sound_beginnings.proofs.Entries.{has_entry, front_in, behind_in, inner_there}
use Rattle.spl_ruled_bodies.specs.Ruled.{AreFit, InnersAreRuled, IsRuled, around_routine, scope_of}
use Rattle.spl_ruled_bodies.proofs.Fit.{fit_locals, fit_parameters, fit_global, inner_heading, ProcedureNone, procedure_none}

-- ---- 1. bodies

-- which procedure the body of a number is of
pub record Numbered (globals : Table Place) (rs : List Routine) (j : ℕ) (b : Named) : Type 0 where
  pub its : Routine
  pub own : ℕ
  pub own_arrays : ℕ
  pub there : slice_get rs j ≡ Some its
  pub name : b.name ≡ its.heading.name
  pub is : b.body ≡ procedure_body globals own own_arrays its

named_same : (a b : Named) → Some a ≡ Some b → a ≡ b
named_same a b is = cc

-- procedure by procedure, with the OWN words of those before it
pub routine_numbered : (globals : Table Place) (own own_arrays : ℕ) (rs : List Routine) (j : ℕ) (b : Named)
    → slice_get (named_bodies globals own own_arrays rs) j ≡ Some b → Numbered globals rs j b
routine_numbered globals own own_arrays [] j b is = cc
routine_numbered globals own own_arrays (r ∷ rs) zero b is =
    let same = sym (named_same (record { name = r.heading.name; body = procedure_body globals own own_arrays r }) b is) in
    record { its = r; own = own; own_arrays = own_arrays; there = refl; name = ap (λ (x : Named). x.name) same; is = ap (λ (x : Named). x.body) same }
routine_numbered globals own own_arrays (r ∷ rs) (suc j) b is =
    let k = routine_numbered globals (own + list_words true (routine_table r)) (own_arrays + list_array_words true (routine_table r)) rs j b is in
    record { its = k.its; own = k.own; own_arrays = k.own_arrays; there = k.there; name = k.name; is = k.is }

-- ---- 2. entries

routine_same : (a b : Routine) → Some a ≡ Some b → a ≡ b
routine_same a b is = cc

pub same_number : (k : ℕ) → nat_eq k k ≡ true
same_number k = search rules

shifted : (n j : ℕ) → n + suc j ≡ suc n + j
shifted n j = omega arith

-- the procedure that a declaration is
abbrev pub procedure_of : Table Sort → ℕ → Heading → Declarations → List Statement → Routine
procedure_of t m h items ss = record {
  heading = h;
  items = items;
  statements = ss;
  globals = with_declaration nothing_declared t (decl.Declaration.procedure h items ss);
  before = m;
}

-- the subroutines of a procedure are entries of its segment
pub inner_entered : (seg n : ℕ) (t : Table Sort) (m : ℕ) (ds : Declarations) (j : ℕ) (r : Routine) → slice_get (routines_among t m ds) j ≡ Some r
    → (x : List ℕ) → has_inner r.items x ≡ true → has_entry (is_inner (routine (n + j))) x (in_segment r.heading.segment (entries_among seg n ds)) ≡ true
inner_entered seg n t m decl.none j r is x has = cc
inner_entered seg n t m (decl.and (decl.Declaration.procedure h items ss) ds) zero r is x has =
    let same = routine_same (procedure_of t m h items ss) r is in
    let own_entry : Entry = record { name = h.name; segment = h.segment; callee = procedure } in
    let d = decl.Declaration.procedure h items ss in
    ap (λ (k : ℕ). has_entry (is_inner (routine k)) x (in_segment r.heading.segment (entries_among seg n (decl.and d ds)))) (add-zero n)
    ∙ ap (λ (q : Routine). has_entry (is_inner (routine n)) x (in_segment q.heading.segment (entries_among seg n (decl.and d ds)))) (sym same)
    ∙ front_in (is_inner (routine n)) x h.segment (declared_entries seg n d) (entries_among seg (suc n) ds)
    (behind_in (is_inner (routine n)) x h.segment (own_entry ∷ []) (inner_entries h.segment (routine n) items)
    (inner_there h.segment h.segment (same_number h.segment) (routine n) items x (ap (λ (q : Routine). has_inner q.items x) same ∙ has)))
inner_entered seg n t m (decl.and (decl.Declaration.procedure h items ss) ds) (suc j) r is x has =
    let d = decl.Declaration.procedure h items ss in
    behind_in (is_inner (routine (n + suc j))) x r.heading.segment (declared_entries seg n d) (entries_among seg (suc n) ds)
    (ap (λ (k : ℕ). has_entry (is_inner (routine k)) x (in_segment r.heading.segment (entries_among seg (suc n) ds))) (shifted n j)
    ∙ inner_entered seg (suc n) (with_declaration nothing_declared t d) (m + declaration_stops d) ds j r is x has)
inner_entered seg n t m (decl.and (decl.Declaration.data_items own k items) ds) j r is x has =
    inner_entered seg n (with_declaration nothing_declared t (decl.Declaration.data_items own k items)) (m + declaration_stops (decl.Declaration.data_items own k items)) ds j r is x has
inner_entered seg n t m (decl.and (decl.Declaration.equate es) ds) j r is x has =
    inner_entered seg n (with_declaration nothing_declared t (decl.Declaration.equate es)) (m + declaration_stops (decl.Declaration.equate es)) ds j r is x has
inner_entered seg n t m (decl.and (decl.Declaration.intrinsic xs) ds) j r is x has =
    inner_entered seg n (with_declaration nothing_declared t (decl.Declaration.intrinsic xs)) (m + declaration_stops (decl.Declaration.intrinsic xs)) ds j r is x has
inner_entered seg n t m (decl.and (decl.Declaration.label xs) ds) j r is x has =
    inner_entered seg n (with_declaration nothing_declared t (decl.Declaration.label xs)) (m + declaration_stops (decl.Declaration.label xs)) ds j r is x has
inner_entered seg n t m (decl.and (decl.Declaration.forward h) ds) j r is x has =
    inner_entered seg n (with_declaration nothing_declared t (decl.Declaration.forward h)) (m + declaration_stops (decl.Declaration.forward h)) ds j r is x has
inner_entered seg n t m (decl.and (decl.Declaration.external h) ds) j r is x has =
    inner_entered seg n (with_declaration nothing_declared t (decl.Declaration.external h)) (m + declaration_stops (decl.Declaration.external h)) ds j r is x has
inner_entered seg n t m (decl.and (decl.Declaration.subroutine h s) ds) j r is x has =
    let d = decl.Declaration.subroutine h s in
    behind_in (is_inner (routine (n + j))) x r.heading.segment (declared_entries seg n d) (entries_among seg n ds)
    (inner_entered seg n (with_declaration nothing_declared t d) (m + declaration_stops d) ds j r is x has)

-- ---- 3. what the rules say

-- declaration by declaration
pub inners_ruled : (a : Around) (sc : Scope) (t : Table Sort) (m : ℕ) (ds : Declarations) → local_faults a sc t ds ≡ [] → are_shaped_declarations ds ≡ true
    → InnersAreRuled sc (subroutines_among m ds)
inners_ruled a sc t m decl.none none shaped = tt
inners_ruled a sc t m (decl.and d ds) none shaped =
    let behind = with_declaration a.names t d in
    let both = and_parts (is_shaped_declaration d) (are_shaped_declarations ds) shaped in
    first d (left_none (local_faults_of a sc t d) (local_faults a sc behind ds) none) both.0
    (inners_ruled a sc behind (m + declaration_stops d) ds (right_none (local_faults_of a sc t d) (local_faults a sc behind ds) none) both.1)
  where
    rest : List Subroutine
    rest = subroutines_among (m + declaration_stops d) ds

    first : (e : Declaration) → local_faults_of a sc t e ≡ [] → is_shaped_declaration e ≡ true → InnersAreRuled sc rest
        → InnersAreRuled sc (subroutine_in m e ++ rest)
    first (decl.Declaration.subroutine h s) one shape others = (record { none = inner_heading a t sc h s one; shaped = shape }, others)
    first (decl.Declaration.data_items own k items) one shape others = others
    first (decl.Declaration.equate es) one shape others = others
    first (decl.Declaration.intrinsic xs) one shape others = others
    first (decl.Declaration.label xs) one shape others = others
    first (decl.Declaration.forward h) one shape others = others
    first (decl.Declaration.external h) one shape others = others
    first (decl.Declaration.procedure h items ss) one shape others = others

-- What a walk over the declarations of a unit knows before some of them.
pub record Walk (sub : Bool) (sc : Scope) (others : List Routine) (w : Waiting) (t : Table Sort) (after : Bool) (ds : Declarations) : Type 0 where
  pub none : globals_faults (around_unit sub) sc others w t ds ≡ []
  pub last : inner_last after ds ≡ true
  pub shaped : are_shaped_declarations ds ≡ true
  pub known : after ≡ false → AreKnown (λ x. false) (λ x. false) (find t)
  pub fit : AreFit (find t)

-- no subroutine stands before
stands : (after v : Bool) → (if after then false else v) ≡ true → (after ≡ false) × (v ≡ true)
stands true v is = never is
stands false v is = (refl, is)

-- behind a declaration that is no subroutine
behind_other : (sub : Bool) (sc : Scope) (others : List Routine) (w : Waiting) (t : Table Sort) (after : Bool) (d : Declaration) (ds : Declarations)
    → Walk sub sc others w t after (decl.and d ds) → (if after then false else inner_last false ds) ≡ true → ((x : List ℕ) → declares_inner d x ≡ true → false ≡ true)
    → Walk sub sc others (waiting_behind w d) (with_declaration nothing_declared t d) false ds
behind_other sub sc others w t after d ds was last mine =
    let of_d = global_faults (around_unit sub) sc others w t d ds in
    let of_rest = globals_faults (around_unit sub) sc others (waiting_behind w d) (with_declaration nothing_declared t d) ds in
    record {
      none = right_none of_d of_rest was.none;
      last = (stands after (inner_last false ds) last).1;
      shaped = (and_parts (is_shaped_declaration d) (are_shaped_declarations ds) was.shaped).1;
      known = λ _. known_global (λ x. false) (λ x. false) sub sc others w t d ds (was.known (stands after (inner_last false ds) last).0) mine (left_none of_d of_rest was.none);
      fit = fit_global sub sc others w t d ds was.fit (left_none of_d of_rest was.none);
    }

-- behind a subroutine
behind_inner : (sub : Bool) (sc : Scope) (others : List Routine) (w : Waiting) (t : Table Sort) (after : Bool) (h : Heading) (s : Statement) (ds : Declarations)
    → Walk sub sc others w t after (decl.and (decl.Declaration.subroutine h s) ds)
    → Walk sub sc others w (with_declaration nothing_declared t (decl.Declaration.subroutine h s)) true ds
behind_inner sub sc others w t after h s ds was =
    let d = decl.Declaration.subroutine h s in
    let of_d = global_faults (around_unit sub) sc others w t d ds in
    let of_rest = globals_faults (around_unit sub) sc others w (with_declaration nothing_declared t d) ds in
    record {
      none = right_none of_d of_rest was.none;
      last = was.last;
      shaped = (and_parts (is_shaped_declaration d) (are_shaped_declarations ds) was.shaped).1;
      known = λ is. never (sym is);
      fit = fit_global sub sc others w t d ds was.fit (left_none of_d of_rest was.none);
    }

-- what is told of a procedure, in a list of these names
pub record Told (whole : Table Sort) (r : Routine) : Type 0 where
  pub ruled : IsRuled r
  pub kept : (x : List ℕ) (s : Sort) → find r.globals x ≡ Some s → find whole x ≡ Some s

-- a procedure that stands there
procedure_told : (sub : Bool) (sc : Scope) (others : List Routine) (w : Waiting) (t : Table Sort) (m : ℕ) (after : Bool) (h : Heading) (items : Declarations)
    (ss : List Statement) (ds : Declarations) → Walk sub sc others w t after (decl.and (decl.Declaration.procedure h items ss) ds)
    → Told (with_declarations nothing_declared (with_declaration nothing_declared t (decl.Declaration.procedure h items ss)) ds) (procedure_of t m h items ss)
procedure_told sub sc others w t m after h items ss ds was =
    let d = decl.Declaration.procedure h items ss in
    let globals = with_declaration nothing_declared t d in
    let of_d = global_faults (around_unit sub) sc others w t d ds in
    let of_rest = globals_faults (around_unit sub) sc others (waiting_behind w d) globals ds in
    let behind = behind_other sub sc others w t after d ds was was.last (λ x is. is) in
    let none : ProcedureNone globals h items ss =
    procedure_none globals h items ss (right_none (procedure_by t (find w h.name) h) (procedure_faults globals h items ss) (left_none of_d of_rest was.none)) in
    let shapes = and_parts (are_local items && are_shaped_declarations items) (are_shaped_statements (statements ss))
    (and_parts (is_shaped_declaration d) (are_shaped_declarations ds) was.shaped).0 in
    let lists = and_parts (are_local items) (are_shaped_declarations items) shapes.0 in
    let r = procedure_of t m h items ss in
    record {
      ruled = record {
        heading = none.heading;
        list = none.list;
        body = none.body;
        known = behind.known refl;
        fit = behind.fit;
        fit_list = fit_locals (around_routine r) (scope_of r) (parameters (formals_of h)) items lists.0 (fit_parameters (formals_of h)) none.list;
        inners = inners_ruled (around_routine r) (scope_of r) (parameters (formals_of h)) m items none.list lists.1;
        shaped = shapes.1;
        shaped_list = lists.1;
        local_list = lists.0;
      };
      kept = λ x s is. kept_declarations nothing_declared globals ds x s is;
    }

-- of each, by its number
pub routine_told : (sub : Bool) (sc : Scope) (others : List Routine) (w : Waiting) (t : Table Sort) (m : ℕ) (after : Bool) (ds : Declarations)
    → Walk sub sc others w t after ds → (j : ℕ) (r : Routine) → slice_get (routines_among t m ds) j ≡ Some r → Told (with_declarations nothing_declared t ds) r
routine_told sub sc others w t m after decl.none was j r is = cc
routine_told sub sc others w t m after (decl.and (decl.Declaration.procedure h items ss) ds) was zero r is =
    let d = decl.Declaration.procedure h items ss in
    subst (Told (with_declarations nothing_declared (with_declaration nothing_declared t d) ds)) (routine_same (procedure_of t m h items ss) r is)
    (procedure_told sub sc others w t m after h items ss ds was)
routine_told sub sc others w t m after (decl.and (decl.Declaration.procedure h items ss) ds) was (suc j) r is =
    let d = decl.Declaration.procedure h items ss in
    routine_told sub sc others (waiting_behind w d) (with_declaration nothing_declared t d) (m + declaration_stops d) false ds
    (behind_other sub sc others w t after d ds was was.last (λ x e. e)) j r is
routine_told sub sc others w t m after (decl.and (decl.Declaration.subroutine h s) ds) was j r is =
    let d = decl.Declaration.subroutine h s in
    routine_told sub sc others w (with_declaration nothing_declared t d) (m + declaration_stops d) true ds (behind_inner sub sc others w t after h s ds was) j r is
routine_told sub sc others w t m after (decl.and (decl.Declaration.data_items own k items) ds) was j r is =
    let d = decl.Declaration.data_items own k items in
    routine_told sub sc others (waiting_behind w d) (with_declaration nothing_declared t d) (m + declaration_stops d) false ds
    (behind_other sub sc others w t after d ds was was.last (λ x e. e)) j r is
routine_told sub sc others w t m after (decl.and (decl.Declaration.equate es) ds) was j r is =
    let d = decl.Declaration.equate es in
    routine_told sub sc others (waiting_behind w d) (with_declaration nothing_declared t d) (m + declaration_stops d) false ds
    (behind_other sub sc others w t after d ds was was.last (λ x e. e)) j r is
routine_told sub sc others w t m after (decl.and (decl.Declaration.intrinsic xs) ds) was j r is =
    let d = decl.Declaration.intrinsic xs in
    routine_told sub sc others (waiting_behind w d) (with_declaration nothing_declared t d) (m + declaration_stops d) false ds
    (behind_other sub sc others w t after d ds was was.last (λ x e. e)) j r is
routine_told sub sc others w t m after (decl.and (decl.Declaration.label xs) ds) was j r is =
    let d = decl.Declaration.label xs in
    routine_told sub sc others (waiting_behind w d) (with_declaration nothing_declared t d) (m + declaration_stops d) false ds
    (behind_other sub sc others w t after d ds was was.last (λ x e. e)) j r is
routine_told sub sc others w t m after (decl.and (decl.Declaration.forward h) ds) was j r is =
    let d = decl.Declaration.forward h in
    routine_told sub sc others (waiting_behind w d) (with_declaration nothing_declared t d) (m + declaration_stops d) false ds
    (behind_other sub sc others w t after d ds was was.last (λ x e. e)) j r is
routine_told sub sc others w t m after (decl.and (decl.Declaration.external h) ds) was j r is =
    let d = decl.Declaration.external h in
    routine_told sub sc others (waiting_behind w d) (with_declaration nothing_declared t d) (m + declaration_stops d) false ds
    (behind_other sub sc others w t after d ds was was.last (λ x e. e)) j r is

-- the subroutines of a unit's main body
pub mains_ruled : (sub : Bool) (sc : Scope) (others : List Routine) (w : Waiting) (t : Table Sort) (m : ℕ) (ds : Declarations)
    → globals_faults (around_unit sub) sc others w t ds ≡ [] → are_shaped_declarations ds ≡ true → InnersAreRuled sc (subroutines_among m ds)
mains_ruled sub sc others w t m decl.none none shaped = tt
mains_ruled sub sc others w t m (decl.and d ds) none shaped =
    let behind = with_declaration nothing_declared t d in
    let of_d = global_faults (around_unit sub) sc others w t d ds in
    let of_rest = globals_faults (around_unit sub) sc others (waiting_behind w d) behind ds in
    let both = and_parts (is_shaped_declaration d) (are_shaped_declarations ds) shaped in
    first d (left_none of_d of_rest none) both.0
    (mains_ruled sub sc others (waiting_behind w d) behind (m + declaration_stops d) ds (right_none of_d of_rest none) both.1)
  where
    rest : List Subroutine
    rest = subroutines_among (m + declaration_stops d) ds

    first : (e : Declaration) → global_faults (around_unit sub) sc others w t e ds ≡ [] → is_shaped_declaration e ≡ true → InnersAreRuled sc rest
        → InnersAreRuled sc (subroutine_in m e ++ rest)
    first (decl.Declaration.subroutine h s) one shape rest_ruled =
        (record { none = inner_heading (around_unit sub) t sc h s one; shaped = shape }, rest_ruled)
    first (decl.Declaration.data_items own k items) one shape rest_ruled = rest_ruled
    first (decl.Declaration.equate es) one shape rest_ruled = rest_ruled
    first (decl.Declaration.intrinsic xs) one shape rest_ruled = rest_ruled
    first (decl.Declaration.label xs) one shape rest_ruled = rest_ruled
    first (decl.Declaration.forward h) one shape rest_ruled = rest_ruled
    first (decl.Declaration.external h) one shape rest_ruled = rest_ruled
    first (decl.Declaration.procedure h items ss) one shape rest_ruled = rest_ruled
