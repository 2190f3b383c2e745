-- No two procedures of linked units have one name: of one unit by its rules, and of two by the names that their modules define.
use Rattle.std.proofs.Common.{◌≡◌, ℕ, suc, ◌+◌, ◌||◌, not, Bool, true, false, if◌then◌else◌, List, [], ◌∷◌, ◌++◌, Option, Some, None, refl, sym, ap, ◌∙◌}
use Rattle.std.specs.List.{slice_get}
use Rattle.std.specs.Cmp.Lexicographic.{same_text}
use Rattle.std.proofs.lemmas.Bool.{and_from, and_parts}
use Rattle.spl_carried.specs.spl_tree.DeclarationTrees as decl
use Rattle.spl_carried.specs.spl_tree.DeclarationTrees.{Declaration, Declarations, Heading, declarations}
use Rattle.spl_carried.specs.spl_tree.StatementTrees.{Statement, statements}
use Rattle.spl_carried.specs.spl_meaning.Names as n
use Rattle.spl_carried.specs.spl_meaning.Names.{Sort, Table, find, same_name, nothing_declared, profile_of}
use Rattle.spl_carried.specs.spl_meaning.Places.{Place, list_words, list_array_words}
use Rattle.spl_carried.specs.spl_meaning.Tables.{Source, Routine, with_declaration, routine_table, routines_among, routines_of}
use Rattle.spl_carried.specs.spl_meaning.Stops.{declaration_stops}
use Rattle.spl_carried.specs.spl_meaning.Limits.{joined}
use Rattle.spl_carried.specs.spl_meaning.Bodies.{Named, Reached, reached_behind, all_routines, named_bodies}
use Rattle.spl_carried.specs.spl_meaning.ExpressionRules.{Scope}
use Rattle.spl_carried.specs.spl_meaning.StatementRules.{body_faults}
use Rattle.spl_carried.specs.spl_meaning.DeclarationRules.{Waiting, without, main_scope, global_faults, globals_faults, silent_faults, unit_faults}
use Rattle.spl_carried.specs.spl_meaning.Sound.{all_faults, faults_behind}
use Rattle.spl_carried.specs.spl_branch.declared.modules.Module.{Module}
use Rattle.spl_carried.specs.spl_scopes.Scopes.{Placed, first_reached, placed_units, routine_bodies, global_places}
use Rattle.spl_carried.proofs.spl_scopes_proofs.ProgramLaws.{procedures_of_units}
use Rattle.spl_carried.specs.spl_module_code.Modules.{AreOfUnit, AreOf, uses_among, uses_of, named_segment, program_uses}
use Rattle.spl_carried.specs.spl_module_code.Modules.{AreOf as a}
use Rattle.spl_carried.specs.mpe_segmenter.Names.{is_among}
use Rattle.spl_carried.specs.mpe_segmenter.Entries.{either}
use Rattle.spl_carried.specs.mpe_segmenter.Faults.{define_names, callables, first_repeat, doubled, unresolved, Doubled, Unresolved, mains, main_faults, name_faults, first_fault}
use Rattle.std.specs.Prelude.{option_map}
use Rattle.spl_carried.specs.spl_bounds.Segments.{NumbersSegments}
use Rattle.spl_carried.specs.spl_places.Programs.{Each}
use Rattle.spl_sound_headings.specs.spl_routes.Unique.{has_named, are_apart}
use Rattle.spl_sound_headings.specs.spl_routines.Among.{IsIn}
use Rattle.spl_sound_headings.proofs.spl_routines_proofs.ListLemmas.{in_left, in_right}
use Rattle.spl_carried.proofs.spl_sound_names_proofs.Tables.{left_none, right_none, never}
use Rattle.spl_carried.proofs.spl_sound_names_proofs.Walks.{around_unit, same_self}
use Rattle.spl_carried.proofs.spl_sound_names_proofs.Units.{sound_none}
use Rattle.spl_sound_headings.proofs.spl_ruled_bodies_proofs.Routines.{procedure_of}
use Rattle.spl_sound_headings.proofs.Declared.{declared_new, kept_one}
use Rattle.spl_sound_headings.proofs.Alike.{none_behind}
use Rattle.spl_linked_names.specs.Laws.{LinkedNamesAreUnique}
use Rattle.spl_linked_names.proofs.Repeats.{among_left, among_right, apart_lists, later_none}
use Rattle.spl_linked_names.proofs.Modules.{unit_defines}

-- ---- lists

-- a name that stands in neither of two lists
named_append : (x : List ℕ) (bs cs : List Named) → has_named x bs ≡ false → has_named x cs ≡ false → has_named x (bs ++ cs) ≡ false
named_append x [] cs first second = second
named_append x (d ∷ ds) cs first second = by (same_name x d.name) first (λ e. named_append x ds cs e second)
  where
    by : (c : Bool) → (c || has_named x ds) ≡ false → (has_named x ds ≡ false → has_named x (ds ++ cs) ≡ false) → (c || has_named x (ds ++ cs)) ≡ false
    by true e rest = never (sym e)
    by false e rest = rest e

-- of two lists without a name twice, which have none in common
apart_both : (bs cs : List Named) → are_apart bs ≡ true → are_apart cs ≡ true → ((x : List ℕ) → has_named x bs ≡ true → has_named x cs ≡ false) → are_apart (bs ++ cs) ≡ true
apart_both [] cs one other none = other
apart_both (b ∷ bs) cs one other none =
    let two = and_parts (not (has_named b.name bs)) (are_apart bs) one in
    and_from (not (has_named b.name (bs ++ cs))) (are_apart (bs ++ cs))
    (ap not (both (has_named b.name bs) refl two.0))
    (apart_both bs cs two.1 other (λ x is. none x (later (same_name x b.name) (has_named x bs) is)))
  where
    later : (c d : Bool) → d ≡ true → (c || d) ≡ true
    later true d is = refl
    later false d is = is

    first_there : has_named b.name cs ≡ false
    first_there = none b.name (ap (λ (c : Bool). c || has_named b.name bs) (same_self b.name))

    both : (c : Bool) → has_named b.name bs ≡ c → not c ≡ true → has_named b.name (bs ++ cs) ≡ false
    both true is free = never free
    both false is free = named_append b.name bs cs is first_there

-- ---- 1. one unit

named_none : (globals : Table Place) (own arrays : ℕ) (rs : List Routine) (x : List ℕ) → ((j : ℕ) (r : Routine) → slice_get rs j ≡ Some r → same_name x r.heading.name ≡ false)
    → has_named x (named_bodies globals own arrays rs) ≡ false
named_none globals own arrays [] x none = refl
named_none globals own arrays (r ∷ rs) x none =
    ap (λ (c : Bool). c || has_named x (named_bodies globals (own + list_words true (routine_table r)) (arrays + list_array_words true (routine_table r)) rs)) (none 0 r refl)
    ∙ named_none globals (own + list_words true (routine_table r)) (arrays + list_array_words true (routine_table r)) rs x (λ j q is. none (suc j) q is)

-- nothing waits for a name that is done
without_self : (w : Waiting) (x : List ℕ) → find (without w x) x ≡ None
without_self [] x = refl
without_self (e ∷ w) x = by (same_name x e.0) refl (without_self w x)
  where
    by : (b : Bool) → same_name x e.0 ≡ b → find (without w x) x ≡ None → find (if b then without w x else e ∷ without w x) x ≡ None
    by true same rest = rest
    by false same rest = ap (λ (c : Bool). if c then Some e.1 else find (without w x) x) same ∙ rest

-- a name behind its declaration
declared_there : (t : Table Sort) (h : Heading) (items : Declarations) (ss : List Statement)
    → (u : Sort) × (find (with_declaration nothing_declared t (decl.Declaration.procedure h items ss)) h.name ≡ Some u)
declared_there t h items ss = by (find t h.name) refl
  where
    by : (o : Option Sort) → find t h.name ≡ o → (u : Sort) × (find (with_declaration nothing_declared t (decl.Declaration.procedure h items ss)) h.name ≡ Some u)
    by (Some u) is = (u, kept_one nothing_declared t (decl.Declaration.procedure h items ss) h.name u is)
    by None is = (n.procedure (profile_of h), declared_new t h.name (n.procedure (profile_of h)) h.name is (same_self h.name))

unit_apart : (globals : Table Place) (own arrays : ℕ) (sub : Bool) (sc : Scope) (others : List Routine) (w : Waiting) (t : Table Sort) (m : ℕ) (ds : Declarations)
    → globals_faults (around_unit sub) sc others w t ds ≡ [] → are_apart (named_bodies globals own arrays (routines_among t m ds)) ≡ true
unit_apart globals own arrays sub sc others w t m decl.none none = refl
unit_apart globals own arrays sub sc others w t m (decl.and (decl.Declaration.procedure h items ss) ds) none =
    let d = decl.Declaration.procedure h items ss in
    let r = procedure_of t m h items ss in
    let behind = with_declaration nothing_declared t d in
    let rest = routines_among behind (m + declaration_stops d) ds in
    let of_rest = right_none (global_faults (around_unit sub) sc others w t d ds) (globals_faults (around_unit sub) sc others (without w h.name) behind ds) none in
    let there = declared_there t h items ss in
    and_from (not (has_named h.name (named_bodies globals (own + list_words true (routine_table r)) (arrays + list_array_words true (routine_table r)) rest)))
    (are_apart (named_bodies globals (own + list_words true (routine_table r)) (arrays + list_array_words true (routine_table r)) rest))
    (ap not (named_none globals (own + list_words true (routine_table r)) (arrays + list_array_words true (routine_table r)) rest h.name
    (none_behind sub sc others h.name (without w h.name) behind (m + declaration_stops d) ds of_rest there.0 there.1 (without_self w h.name))))
    (unit_apart globals (own + list_words true (routine_table r)) (arrays + list_array_words true (routine_table r)) sub sc others (without w h.name) behind
    (m + declaration_stops d) ds of_rest)
unit_apart globals own arrays sub sc others w t m (decl.and (decl.Declaration.subroutine h s) ds) none =
    let d = decl.Declaration.subroutine h s in
    unit_apart globals own arrays sub sc others w (with_declaration nothing_declared t d) (m + declaration_stops d) ds
    (right_none (global_faults (around_unit sub) sc others w t d ds) (globals_faults (around_unit sub) sc others w (with_declaration nothing_declared t d) ds) none)
unit_apart globals own arrays sub sc others w t m (decl.and (decl.Declaration.data_items o k items) ds) none =
    let d = decl.Declaration.data_items o k items in
    unit_apart globals own arrays sub sc others w (with_declaration nothing_declared t d) (m + declaration_stops d) ds
    (right_none (global_faults (around_unit sub) sc others w t d ds) (globals_faults (around_unit sub) sc others w (with_declaration nothing_declared t d) ds) none)
unit_apart globals own arrays sub sc others w t m (decl.and (decl.Declaration.equate es) ds) none =
    let d = decl.Declaration.equate es in
    unit_apart globals own arrays sub sc others w (with_declaration nothing_declared t d) (m + declaration_stops d) ds
    (right_none (global_faults (around_unit sub) sc others w t d ds) (globals_faults (around_unit sub) sc others w (with_declaration nothing_declared t d) ds) none)
unit_apart globals own arrays sub sc others w t m (decl.and (decl.Declaration.intrinsic xs) ds) none =
    let d = decl.Declaration.intrinsic xs in
    unit_apart globals own arrays sub sc others w (with_declaration nothing_declared t d) (m + declaration_stops d) ds
    (right_none (global_faults (around_unit sub) sc others w t d ds) (globals_faults (around_unit sub) sc others w (with_declaration nothing_declared t d) ds) none)
unit_apart globals own arrays sub sc others w t m (decl.and (decl.Declaration.label xs) ds) none =
    let d = decl.Declaration.label xs in
    unit_apart globals own arrays sub sc others w (with_declaration nothing_declared t d) (m + declaration_stops d) ds
    (right_none (global_faults (around_unit sub) sc others w t d ds) (globals_faults (around_unit sub) sc others w (with_declaration nothing_declared t d) ds) none)
unit_apart globals own arrays sub sc others w t m (decl.and (decl.Declaration.forward h) ds) none =
    let d = decl.Declaration.forward h in
    unit_apart globals own arrays sub sc others ((h.name, profile_of h) ∷ w) (with_declaration nothing_declared t d) (m + declaration_stops d) ds
    (right_none (global_faults (around_unit sub) sc others w t d ds) (globals_faults (around_unit sub) sc others ((h.name, profile_of h) ∷ w) (with_declaration nothing_declared t d) ds) none)
unit_apart globals own arrays sub sc others w t m (decl.and (decl.Declaration.external h) ds) none =
    let d = decl.Declaration.external h in
    unit_apart globals own arrays sub sc others w (with_declaration nothing_declared t d) (m + declaration_stops d) ds
    (right_none (global_faults (around_unit sub) sc others w t d ds) (globals_faults (around_unit sub) sc others w (with_declaration nothing_declared t d) ds) none)

lists_none : (others : List Routine) (u : Source) → unit_faults others u ≡ [] → globals_faults (around_unit u.subprogram) (main_scope u) others [] [] (declarations u.tree.items) ≡ []
lists_none others u none =
    let lists = globals_faults (around_unit u.subprogram) (main_scope u) others [] [] (declarations u.tree.items) in
    let body = body_faults (main_scope u) (statements u.tree.statements) in
    let silent = if u.subprogram then silent_faults u.tree.at u.tree.statements else [] in
    left_none lists body (left_none (lists ++ body) silent none)

-- ---- 2. units

-- a procedure of a name
record NamedHere (rs : List Routine) (x : List ℕ) : Type 0 where
  place : ℕ
  its : Routine
  there : slice_get rs place ≡ Some its
  name : same_name x its.heading.name ≡ true

named_here : (globals : Table Place) (own arrays : ℕ) (rs : List Routine) (x : List ℕ) → has_named x (named_bodies globals own arrays rs) ≡ true → NamedHere rs x
named_here globals own arrays [] x is = never is
named_here globals own arrays (r ∷ rs) x is =
    by (same_name x r.heading.name) refl is (λ e. named_here globals (own + list_words true (routine_table r)) (arrays + list_array_words true (routine_table r)) rs x e)
  where
    by : (b : Bool) → same_name x r.heading.name ≡ b
        → (b || has_named x (named_bodies globals (own + list_words true (routine_table r)) (arrays + list_array_words true (routine_table r)) rs)) ≡ true
        → (has_named x (named_bodies globals (own + list_words true (routine_table r)) (arrays + list_array_words true (routine_table r)) rs) ≡ true → NamedHere rs x)
        → NamedHere (r ∷ rs) x
    by true same e rest = record { place = 0; its = r; there = refl; name = same }
    by false same e rest = let k = rest e in record { place = suc k.place; its = k.its; there = k.there; name = k.name }

callables_both : (ms ns : List Module) → callables (ms ++ ns) ≡ callables ms ++ callables ns
callables_both [] ns = refl
callables_both (m ∷ ms) ns = by (define_names m.defines.items) (callables_both ms ns)
  where
    by : (xs : List (List ℕ)) → callables (ms ++ ns) ≡ callables ms ++ callables ns → xs ++ callables (ms ++ ns) ≡ (xs ++ callables ms) ++ callables ns
    by [] is = is
    by (x ∷ xs) is = ap (λ (zs : List (List ℕ)). x ∷ zs) (by xs is)

among_both : (x : List ℕ) (ns ms : List (List ℕ)) → (is_among x ns ≡ true → is_among x (ns ++ ms) ≡ true) × (is_among x ms ≡ true → is_among x (ns ++ ms) ≡ true)
among_both x ns ms = (λ e. among_left x ns ms e, λ e. among_right x ns ms e)

-- the procedures of a unit are among those that its modules define
unit_named : (p : Placed) (names : List (List ℕ)) (ms : List Module) → NumbersSegments p.unit → ((x : List ℕ) → IsIn x (uses_of p.unit) → IsIn x names)
    → AreOfUnit p [] names ms → (x : List ℕ) → has_named x (routine_bodies p) ≡ true → is_among x (callables ms) ≡ true
unit_named p names ms numbers used are x is =
    let k = named_here (global_places p) p.at.own p.at.own_arrays (routines_of p.unit) x is in
    let uses = uses_among p.unit (declarations p.unit.tree.items) in
    let last = if p.unit.subprogram then [] else named_segment p.unit p.unit.tree.segment in
    ap (λ (y : List ℕ). is_among y (callables ms)) (same_text x k.its.heading.name (sym k.name))
    ∙ unit_defines p names ms numbers (λ y there. used y (in_left y uses last there)) are k.place k.its k.there

has_both : (x : List ℕ) (bs cs : List Named) → has_named x (bs ++ cs) ≡ true → (has_named x bs || has_named x cs) ≡ true
has_both x [] cs is = is
has_both x (b ∷ bs) cs is = by (same_name x b.name) is (λ e. has_both x bs cs e)
  where
    by : (c : Bool) → (c || has_named x (bs ++ cs)) ≡ true → (has_named x (bs ++ cs) ≡ true → (has_named x bs || has_named x cs) ≡ true) → ((c || has_named x bs) || has_named x cs) ≡ true
    by true e rest = refl
    by false e rest = rest e

-- so are those of some units
units_named : (at : Reached) (us : List Source) (names : List (List ℕ)) (ms : List Module) → Each NumbersSegments us → ((x : List ℕ) → IsIn x (joined uses_of us) → IsIn x names)
    → AreOf names (placed_units at us) ms → (x : List ℕ) → has_named x (joined routine_bodies (placed_units at us)) ≡ true → is_among x (callables ms) ≡ true
units_named at [] names ms numbers used are x is = never is
units_named at (u ∷ us) names _ numbers used (a.more {ms = ms} {ns = ns} one others) x is =
    let p : Placed = record { at = at; unit = u } in
    ap (is_among x) (callables_both ms ns)
    ∙ each (has_named x (routine_bodies p)) refl (has_both x (routine_bodies p) (joined routine_bodies (placed_units (reached_behind u at) us)) is)
    (λ e. units_named (reached_behind u at) us names ns numbers.1 (λ y there. used y (in_right y (uses_of u) (joined uses_of us) there)) others x e)
  where
    each : (b : Bool) → has_named x (routine_bodies (record { at = at; unit = u })) ≡ b → (b || has_named x (joined routine_bodies (placed_units (reached_behind u at) us))) ≡ true
        → (has_named x (joined routine_bodies (placed_units (reached_behind u at) us)) ≡ true → is_among x (callables ns) ≡ true)
        → is_among x (callables ms ++ callables ns) ≡ true
    each true here e rest =
        (among_both x (callables ms) (callables ns)).0
        (unit_named (record { at = at; unit = u }) names ms numbers.0 (λ y there. used y (in_left y (uses_of u) (joined uses_of us) there)) one x here)
    each false here e rest = (among_both x (callables ms) (callables ns)).1 (rest e)

units_apart : (at : Reached) (before us : List Source) (names : List (List ℕ)) (ms : List Module) (was : List (List ℕ)) → faults_behind before us ≡ [] → Each NumbersSegments us
    → ((x : List ℕ) → IsIn x (joined uses_of us) → IsIn x names) → AreOf names (placed_units at us) ms → first_repeat was (callables ms) ≡ None
    → are_apart (joined routine_bodies (placed_units at us)) ≡ true
units_apart at before [] names ms was none numbers used are once = refl
units_apart at before (u ∷ us) names _ was none numbers used (a.more {ms = ms} {ns = ns} one others) once =
    let p : Placed = record { at = at; unit = u } in
    let faults = all_routines before ++ all_routines us in
    let of_both : first_repeat was (callables ms ++ callables ns) ≡ None = ap (first_repeat was) (sym (callables_both ms ns)) ∙ once in
    let behind = later_none was (callables ms) (callables ns) of_both in
    apart_both (routine_bodies p) (joined routine_bodies (placed_units (reached_behind u at) us))
    (unit_apart (global_places p) at.own at.own_arrays u.subprogram (main_scope u) faults [] [] 0 (declarations u.tree.items)
    (lists_none faults u (left_none (unit_faults faults u) (faults_behind (before ++ u ∷ []) us) none)))
    (units_apart (reached_behind u at) (before ++ u ∷ []) us names ns behind.0 (right_none (unit_faults faults u) (faults_behind (before ++ u ∷ []) us) none) numbers.1
    (λ y there. used y (in_right y (uses_of u) (joined uses_of us) there)) others behind.1)
    (λ x here. free x (apart_lists was (callables ms) (callables ns) of_both x
    (unit_named p names ms numbers.0 (λ y there. used y (in_left y (uses_of u) (joined uses_of us) there)) one x here)))
  where
    free : (x : List ℕ) → is_among x (callables ns) ≡ false → has_named x (joined routine_bodies (placed_units (reached_behind u at) us)) ≡ false
    free x not_there = each (has_named x (joined routine_bodies (placed_units (reached_behind u at) us))) refl
      where
        each : (b : Bool) → has_named x (joined routine_bodies (placed_units (reached_behind u at) us)) ≡ b → b ≡ false
        each true there =
            never (sym not_there ∙ units_named (reached_behind u at) us names ns numbers.1 (λ y k. used y (in_right y (uses_of u) (joined uses_of us) k)) others x there)
        each false there = refl

-- ---- 3. programs

no_first : {A : Type 0} (o p : Option A) → either o p ≡ None → o ≡ None
no_first None p is = refl
no_first (Some x) p is = cc

no_second : {A : Type 0} (o p : Option A) → either o p ≡ None → p ≡ None
no_second None p is = is
no_second (Some x) p is = cc

none_mapped : {A B : Type 0} (f : A → B) (o : Option A) → option_map f o ≡ None → o ≡ None
none_mapped f None e = refl
none_mapped f (Some x) e = cc

-- modules without a fault define no name twice, and have one main body
pub once_defined : (ms : List Module) → first_fault ms ≡ None → doubled ms ≡ None
once_defined ms none =
    let behind = no_second (main_faults (mains ms)) _ none in
    none_mapped Doubled (doubled ms) (no_first (option_map Doubled (doubled ms)) (option_map Unresolved (unresolved ms)) (no_first (name_faults ms) _ behind))

pub main_counted : (ms : List Module) → first_fault ms ≡ None → main_faults (mains ms) ≡ None
main_counted ms none = no_first (main_faults (mains ms)) _ none

pub names_unique : LinkedNamesAreUnique
names_unique us ms sound numbers are none =
    ap are_apart (procedures_of_units us)
    ∙ units_apart (first_reached us) [] us (program_uses us) ms [] (sound_none us (all_faults us) refl sound) numbers (λ x there. there) are (once_defined ms none)
