-- The names of all bodies of units that break no rule are found, declaration by declaration and unit by unit.
-- 1. of a declaration: a procedure with its subroutines, or a subroutine of the main body      (routine_found, main_inner_found)
-- 2. of declarations in order, and of a unit                                                    (declarations_found, unit_found)
-- 3. of units                                                                                   (units_found)
use Rattle.std.proofs.Common.{◌≡◌, ℕ, zero, suc, ◌+◌, ◌&&◌, nat_eq, not, Bool, true, false, if◌then◌else◌, List, [], ◌∷◌, ◌++◌, Option, Some, None, is_some, refl, sym, subst, ap, ◌∙◌, arith, zero-add}
use Rattle.std.specs.List.{list_all, slice_get}
use Rattle.std.proofs.lemmas.Bool.{and_from}
use Rattle.spl_sound_names.specs.spl_tree.DeclarationTrees as decl
use Rattle.spl_sound_names.specs.spl_tree.DeclarationTrees.{Declaration, Declarations, Heading, declarations}
use Rattle.spl_sound_names.specs.spl_tree.StatementTrees.{Statement, statements}
use Rattle.spl_sound_names.specs.spl_meaning.Names.{Sort, Table, find, nothing_declared, parameters, formals_of}
use Rattle.spl_sound_names.specs.spl_meaning.Tables.{Source, Routine, Subroutine, with_declaration, with_declarations, unit_table, routine_table, routines_among, subroutines_among, unit_subroutines}
use Rattle.spl_sound_names.specs.spl_meaning.Places.{data_word, places_from, list_words, list_array_words}
use Rattle.spl_sound_names.specs.spl_meaning.Stops.{declaration_stops}
use Rattle.spl_sound_names.specs.spl_meaning.Bodies.{Body, Reached, named_bodies, main_body, procedure_body, reached_behind, all_routines}
use Rattle.spl_sound_names.specs.spl_meaning.StatementRules.{list_labels, label_faults, body_faults, statements_faults}
use Rattle.spl_sound_names.specs.spl_meaning.DeclarationRules.{Around, Waiting, without, declared_subroutine, main_scope, heading_faults, local_faults, procedure_by, procedure_scope, procedure_faults, global_faults, globals_faults, waiting_behind, silent_faults, unit_faults}
use Rattle.spl_sound_names.specs.spl_meaning.Sound.{all_faults, faults_behind}
use Rattle.spl_piece_kinds.specs.spl_scopes.Entries.{main, routine, Entry, Callee, procedure, is_inner, module_entries, in_segment, inner_entries, declared_entries, entries_among, subroutine_index}
use Rattle.spl_piece_kinds.specs.spl_scopes.Scopes.{Placed, first_reached, placed_units, routine_bodies, outer_body, global_places}
use Rattle.spl_piece_kinds.specs.spl_module_code.Modules.{holds_main}
use Rattle.spl_sound_beginnings.specs.FoundBodies.{is_found_body, are_found_inner, is_found_routine, is_found_inner, is_found_inner_at, is_found_main, declares_found, declare_found, is_found_in}
use Rattle.spl_sound_names.specs.Known.{AreKnown, NamesAreFound, declares_inner, has_inner, inner_last}
use Rattle.spl_sound_names.proofs.Tables.{left_none, right_none, never, kept_declarations}
use Rattle.spl_sound_names.proofs.Walks.{around_unit, known_global, known_globals, known_none}
use Rattle.spl_sound_names.proofs.Units.{sound_none}
use Rattle.spl_sound_names.proofs.Order.{units_last}
use Rattle.spl_sound_beginnings.proofs.ModuleLaws.{well_written}
use Rattle.spl_piece_kinds.proofs.ModuleLaws.{kinds_written}
use Rattle.spl_complete_codes.proofs.Complete.{complete}
use Rattle.spl_piece_kinds.specs.spl_sites.Beginnings.{begins_well, is_of_kind}
use Rattle.spl_sound_beginnings.specs.Laws.{SoundUnitsAreFound, SoundCodesBeginWell, SoundCodesMayStand}
use Rattle.spl_sound_beginnings.proofs.Entries.{has_entry, index_there, front_in, behind_in, inner_there, main_there}
use Rattle.spl_sound_beginnings.proofs.Bodies.{body_found, inner_found, all_inner_found, main_names_found, routine_names_found}

-- ---- 1. a declaration

-- a procedure with its subroutines
routine_found : (es : List Entry) (i : ℕ) (primary own own_arrays : ℕ) (t globals : Table Sort) (h : Heading) (items : Declarations) (ss : List Statement) (m : ℕ)
    → AreKnown (λ x. false) (λ x. false) (find globals) → ((x : List ℕ) (s : Sort) → find globals x ≡ Some s → find t x ≡ Some s)
    → procedure_faults globals h items ss ≡ [] → ((x : List ℕ) → has_inner items x ≡ true → is_some (subroutine_index (routine i) es x) ≡ true)
    → is_found_routine es i (Some (record {
      name = h.name;
      body = procedure_body (places_from data_word 0 primary t) own own_arrays (record { heading = h; items = items; statements = ss; globals = globals; before = m });
    })) ≡ true
routine_found es i primary own own_arrays t globals h items ss m are kept none inner =
    let r : Routine = record { heading = h; items = items; statements = ss; globals = globals; before = m } in
    let b = procedure_body (places_from data_word 0 primary t) own own_arrays r in
    let sc = procedure_scope globals h items in
    let a : Around = record { names = find globals; in_procedure = true; split = h.split; subprogram = false } in
    let head = heading_faults h.split h in
    let local = local_faults a sc (parameters (formals_of h)) items in
    let body = body_faults sc (statements ss) in
    let of_head = left_none head local (left_none (head ++ local) body none) in
    let of_local = right_none head local (left_none (head ++ local) body none) in
    let of_body = left_none (statements_faults sc (list_labels (statements ss)) false (statements ss)) (label_faults (statements ss)) (right_none (head ++ local) body none) in
    let found = routine_names_found primary own own_arrays t r (subroutine_index (routine i) es) are kept of_head of_local inner in
    and_from (are_found_inner es (routine i) b b.subroutines) (is_found_body es (routine i) b)
    (all_inner_found es (routine i) b sc refl found a (parameters (formals_of h)) m items of_local)
    (body_found es (routine i) b sc refl found of_body)

-- what is found where a test holds
where_found : (b v : Bool) → (b ≡ true → v ≡ true) → (if b then v else true) ≡ true
where_found true v h = h refl
where_found false v h = refl

-- no subroutine stands before
stands : (after v : Bool) → (if after then false else v) ≡ true → (after ≡ false) × (v ≡ true)
stands true v is = never is
stands false v is = (refl, is)

second : (a b : Bool) → (a && b) ≡ true → b ≡ true
second true b is = is
second false b is = never is

placed_same : (p q : Placed) → Some p ≡ Some q → p ≡ q
placed_same p q is = cc

-- the procedure that a declaration is
abbrev procedure_of : Table Sort → ℕ → Heading → Declarations → List Statement → Routine
procedure_of t m h items ss = record {
  heading = h;
  items = items;
  statements = ss;
  globals = with_declaration nothing_declared t (decl.Declaration.procedure h items ss);
  before = m;
}

-- what is found of a main body, where there is one
main_one : (b : Bool) (f : Option Body → Bool) (o : Body) → f None ≡ true → f (Some o) ≡ true → f (if b then None else Some o) ≡ true
main_one true f o none one = none
main_one false f o none one = one

-- ---- 2. declarations

-- What a walk over the declarations of a unit knows before some of them, behind others that make a table: what follows breaks no rule, and stands
-- there as it may; before subroutines all names are known; the bodies and the entries that follow are among the unit's.
record Walked (p : Placed) (g : ℕ) (others : List Routine) (w : Waiting) (t : Table Sort) (m n j own own_arrays : ℕ) (after : Bool) (ds : Declarations) : Type 0 where
  none : globals_faults (around_unit p.unit.subprogram) (main_scope p.unit) others w t ds ≡ []
  last : inner_last after ds ≡ true
  known : after ≡ false → AreKnown (λ x. false) (λ x. false) (find t)
  whole : with_declarations nothing_declared t ds ≡ unit_table p.unit
  bodies : (i k : ℕ) → k ≡ n + i → slice_get (routine_bodies p) k ≡ slice_get (named_bodies (global_places p) own own_arrays (routines_among t m ds)) i
  inner : (i k : ℕ) → k ≡ j + i → slice_get (unit_subroutines p.unit) k ≡ slice_get (subroutines_among m ds) i
  entries : (passes : Callee → Bool) (x : List ℕ) → has_entry passes x (in_segment g (entries_among p.unit.tree.segment n ds)) ≡ true
      → has_entry passes x (module_entries p.unit g) ≡ true

-- the main body of a unit sees names that are found, in its segment
abbrev pub MainFound : Placed → ℕ → Type 0
MainFound p g = nat_eq p.unit.tree.segment g ≡ true → NamesAreFound (find (unit_table p.unit)) (find (global_places p)) (subroutine_index main (module_entries p.unit g))

-- a subroutine of the main body
main_inner_found : (p : Placed) (g : ℕ) → MainFound p g → nat_eq p.unit.tree.segment g ≡ true → (t : Table Sort) (h : Heading) (s : Statement) (m : ℕ) (o : Option Subroutine)
    → o ≡ Some (record { heading = h; statement = s; before = m }) → declared_subroutine (around_unit p.unit.subprogram) t (main_scope p.unit) h s ≡ []
    → is_found_inner (module_entries p.unit g) (main_body (global_places p) p.unit) o ≡ true
main_inner_found p g found here t h s m o is none =
    ap (is_found_inner (module_entries p.unit g) (main_body (global_places p) p.unit)) is
    ∙ inner_found (module_entries p.unit g) main (main_body (global_places p) p.unit) (main_scope p.unit) refl (found here) (around_unit p.unit.subprogram) t h s m none

-- behind a declaration that is neither a procedure nor a subroutine
behind_silent : (p : Placed) (g : ℕ) (others : List Routine) (w : Waiting) (t : Table Sort) (m n j own own_arrays : ℕ) (after : Bool) (d : Declaration) (ds : Declarations)
    → globals_faults (around_unit p.unit.subprogram) (main_scope p.unit) others w t (decl.and d ds) ≡ []
    → (if after then false else inner_last false ds) ≡ true
    → (after ≡ false → AreKnown (λ x. false) (λ x. false) (find t))
    → with_declarations nothing_declared (with_declaration nothing_declared t d) ds ≡ unit_table p.unit
    → ((i k : ℕ) → k ≡ n + i → slice_get (routine_bodies p) k
    ≡ slice_get (named_bodies (global_places p) own own_arrays (routines_among (with_declaration nothing_declared t d) (m + declaration_stops d) ds)) i)
    → ((i k : ℕ) → k ≡ j + i → slice_get (unit_subroutines p.unit) k ≡ slice_get (subroutines_among (m + declaration_stops d) ds) i)
    → ((passes : Callee → Bool) (x : List ℕ) → has_entry passes x (in_segment g (entries_among p.unit.tree.segment n ds)) ≡ true → has_entry passes x (module_entries p.unit g) ≡ true)
    → ((x : List ℕ) → declares_inner d x ≡ true → false ≡ true)
    → Walked p g others (waiting_behind w d) (with_declaration nothing_declared t d) (m + declaration_stops d) n j own own_arrays false ds
behind_silent p g others w t m n j own own_arrays after d ds none last known whole bodies inner entries mine =
    let of_d = global_faults (around_unit p.unit.subprogram) (main_scope p.unit) others w t d ds in
    let of_rest = globals_faults (around_unit p.unit.subprogram) (main_scope p.unit) others (waiting_behind w d) (with_declaration nothing_declared t d) ds in
    record {
      none = right_none of_d of_rest none;
      last = (stands after (inner_last false ds) last).1;
      known = λ _. known_global (λ x. false) (λ x. false) p.unit.subprogram (main_scope p.unit) others w t d ds (known (stands after (inner_last false ds) last).0) mine
          (left_none of_d of_rest none);
      whole = whole;
      bodies = bodies;
      inner = inner;
      entries = entries;
    }

-- behind a procedure
behind_procedure : (p : Placed) (g : ℕ) (others : List Routine) (w : Waiting) (t : Table Sort) (m n j own own_arrays : ℕ) (after : Bool) (h : Heading) (items : Declarations)
    (ss : List Statement) (ds : Declarations) → Walked p g others w t m n j own own_arrays after (decl.and (decl.Declaration.procedure h items ss) ds)
    → Walked p g others (without w h.name) (with_declaration nothing_declared t (decl.Declaration.procedure h items ss))
    (m + declaration_stops (decl.Declaration.procedure h items ss)) (suc n) j
    (own + list_words true (routine_table (procedure_of t m h items ss))) (own_arrays + list_array_words true (routine_table (procedure_of t m h items ss))) false ds
behind_procedure p g others w t m n j own own_arrays after h items ss ds was =
    let d = decl.Declaration.procedure h items ss in
    let of_d = global_faults (around_unit p.unit.subprogram) (main_scope p.unit) others w t d ds in
    let of_rest = globals_faults (around_unit p.unit.subprogram) (main_scope p.unit) others (waiting_behind w d) (with_declaration nothing_declared t d) ds in
    record {
      none = right_none of_d of_rest was.none;
      last = (stands after (inner_last false ds) was.last).1;
      known = λ _. known_global (λ x. false) (λ x. false) p.unit.subprogram (main_scope p.unit) others w t d ds (was.known (stands after (inner_last false ds) was.last).0)
          (λ x is. is) (left_none of_d of_rest was.none);
      whole = was.whole;
      bodies = λ i k is. was.bodies (suc i) k (omega arith);
      inner = was.inner;
      entries = λ passes x is. was.entries passes x (behind_in passes x g (declared_entries p.unit.tree.segment n d) (entries_among p.unit.tree.segment (suc n) ds) is);
    }

-- behind a subroutine
behind_inner : (p : Placed) (g : ℕ) (others : List Routine) (w : Waiting) (t : Table Sort) (m n j own own_arrays : ℕ) (after : Bool) (h : Heading) (s : Statement)
    (ds : Declarations) → Walked p g others w t m n j own own_arrays after (decl.and (decl.Declaration.subroutine h s) ds)
    → Walked p g others w (with_declaration nothing_declared t (decl.Declaration.subroutine h s)) (m + declaration_stops (decl.Declaration.subroutine h s)) n (suc j)
    own own_arrays true ds
behind_inner p g others w t m n j own own_arrays after h s ds was =
    let d = decl.Declaration.subroutine h s in
    let of_d = global_faults (around_unit p.unit.subprogram) (main_scope p.unit) others w t d ds in
    let of_rest = globals_faults (around_unit p.unit.subprogram) (main_scope p.unit) others w (with_declaration nothing_declared t d) ds in
    record {
      none = right_none of_d of_rest was.none;
      last = was.last;
      known = λ is. never (sym is);
      whole = was.whole;
      bodies = was.bodies;
      inner = λ i k is. was.inner (suc i) k (omega arith);
      entries = λ passes x is. was.entries passes x (behind_in passes x g (declared_entries p.unit.tree.segment n d) (entries_among p.unit.tree.segment n ds) is);
    }

-- a procedure that stands there
procedure_found : (p : Placed) (g : ℕ) (others : List Routine) (w : Waiting) (t : Table Sort) (m n j own own_arrays : ℕ) (after : Bool) (h : Heading) (items : Declarations)
    (ss : List Statement) (ds : Declarations) → Walked p g others w t m n j own own_arrays after (decl.and (decl.Declaration.procedure h items ss) ds)
    → nat_eq h.segment g ≡ true → is_found_routine (module_entries p.unit g) n (slice_get (routine_bodies p) n) ≡ true
procedure_found p g others w t m n j own own_arrays after h items ss ds was here =
    let d = decl.Declaration.procedure h items ss in
    let es = module_entries p.unit g in
    let seg = p.unit.tree.segment in
    let globals = with_declaration nothing_declared t d in
    let of_d = global_faults (around_unit p.unit.subprogram) (main_scope p.unit) others w t d ds in
    let of_rest = globals_faults (around_unit p.unit.subprogram) (main_scope p.unit) others (waiting_behind w d) globals ds in
    let behind = behind_procedure p g others w t m n j own own_arrays after h items ss ds was in
    let own_entry : Entry = record { name = h.name; segment = h.segment; callee = procedure } in
    ap (is_found_routine es n) (was.bodies 0 n (omega arith))
    ∙ routine_found es n p.at.primary own own_arrays (unit_table p.unit) globals h items ss m (behind.known refl)
    (λ x s is. ap (λ (whole : Table Sort). find whole x) (sym was.whole) ∙ kept_declarations nothing_declared globals ds x s is)
    (right_none (procedure_by t (find w h.name) h) (procedure_faults globals h items ss) (left_none of_d of_rest was.none))
    (λ x is. index_there (is_inner (routine n)) 0 es x (was.entries (is_inner (routine n)) x
    (front_in (is_inner (routine n)) x g (declared_entries seg n d) (entries_among seg (suc n) ds)
    (behind_in (is_inner (routine n)) x g (own_entry ∷ []) (inner_entries h.segment (routine n) items) (inner_there g h.segment here (routine n) items x is)))))

declarations_found : (p : Placed) (g : ℕ) → MainFound p g → (others : List Routine) (w : Waiting) (t : Table Sort) (m n j own own_arrays : ℕ) (after : Bool) (ds : Declarations)
    → Walked p g others w t m n j own own_arrays after ds → declare_found p g n j ds ≡ true
declarations_found p g main_one_found others w t m n j own own_arrays after decl.none was = refl
declarations_found p g found others w t m n j own own_arrays after (decl.and (decl.Declaration.procedure h items ss) ds) was =
    and_from (declares_found p g n j (decl.Declaration.procedure h items ss)) (declare_found p g (suc n) j ds)
    (where_found (nat_eq h.segment g) (is_found_routine (module_entries p.unit g) n (slice_get (routine_bodies p) n))
    (procedure_found p g others w t m n j own own_arrays after h items ss ds was))
    (declarations_found p g found others (without w h.name) (with_declaration nothing_declared t (decl.Declaration.procedure h items ss))
    (m + declaration_stops (decl.Declaration.procedure h items ss)) (suc n) j
    (own + list_words true (routine_table (procedure_of t m h items ss))) (own_arrays + list_array_words true (routine_table (procedure_of t m h items ss))) false ds
    (behind_procedure p g others w t m n j own own_arrays after h items ss ds was))
declarations_found p g found others w t m n j own own_arrays after (decl.and (decl.Declaration.subroutine h s) ds) was =
    let d = decl.Declaration.subroutine h s in
    let es = module_entries p.unit g in
    let of_d = global_faults (around_unit p.unit.subprogram) (main_scope p.unit) others w t d ds in
    let of_rest = globals_faults (around_unit p.unit.subprogram) (main_scope p.unit) others w (with_declaration nothing_declared t d) ds in
    and_from (declares_found p g n j d) (declare_found p g n (suc j) ds)
    (where_found (nat_eq p.unit.tree.segment g) (is_found_inner_at es j (outer_body p main))
    (λ here. main_one p.unit.subprogram (is_found_inner_at es j) (main_body (global_places p) p.unit) refl
    (main_inner_found p g found here t h s m (slice_get (unit_subroutines p.unit) j) (was.inner 0 j (omega arith)) (left_none of_d of_rest was.none))))
    (declarations_found p g found others w (with_declaration nothing_declared t d) (m + declaration_stops d) n (suc j) own own_arrays true ds (behind_inner p g others w t m n j own own_arrays after h s ds was))
declarations_found p g found others w t m n j own own_arrays after (decl.and (decl.Declaration.data_items own_one k items) ds) was =
    declarations_found p g found others (waiting_behind w (decl.Declaration.data_items own_one k items)) (with_declaration nothing_declared t (decl.Declaration.data_items own_one k items)) (m + declaration_stops (decl.Declaration.data_items own_one k items)) n j own own_arrays false ds (behind_silent p g others w t m n j own own_arrays after (decl.Declaration.data_items own_one k items) ds
    was.none was.last was.known was.whole was.bodies was.inner was.entries (λ x is. is))
declarations_found p g found others w t m n j own own_arrays after (decl.and (decl.Declaration.equate es) ds) was =
    declarations_found p g found others (waiting_behind w (decl.Declaration.equate es)) (with_declaration nothing_declared t (decl.Declaration.equate es)) (m + declaration_stops (decl.Declaration.equate es)) n j own own_arrays false ds (behind_silent p g others w t m n j own own_arrays after (decl.Declaration.equate es) ds
    was.none was.last was.known was.whole was.bodies was.inner was.entries (λ x is. is))
declarations_found p g found others w t m n j own own_arrays after (decl.and (decl.Declaration.intrinsic xs) ds) was =
    declarations_found p g found others (waiting_behind w (decl.Declaration.intrinsic xs)) (with_declaration nothing_declared t (decl.Declaration.intrinsic xs)) (m + declaration_stops (decl.Declaration.intrinsic xs)) n j own own_arrays false ds (behind_silent p g others w t m n j own own_arrays after (decl.Declaration.intrinsic xs) ds
    was.none was.last was.known was.whole was.bodies was.inner was.entries (λ x is. is))
declarations_found p g found others w t m n j own own_arrays after (decl.and (decl.Declaration.label xs) ds) was =
    declarations_found p g found others (waiting_behind w (decl.Declaration.label xs)) (with_declaration nothing_declared t (decl.Declaration.label xs)) (m + declaration_stops (decl.Declaration.label xs)) n j own own_arrays false ds (behind_silent p g others w t m n j own own_arrays after (decl.Declaration.label xs) ds
    was.none was.last was.known was.whole was.bodies was.inner was.entries (λ x is. is))
declarations_found p g found others w t m n j own own_arrays after (decl.and (decl.Declaration.forward h) ds) was =
    declarations_found p g found others (waiting_behind w (decl.Declaration.forward h)) (with_declaration nothing_declared t (decl.Declaration.forward h)) (m + declaration_stops (decl.Declaration.forward h)) n j own own_arrays false ds (behind_silent p g others w t m n j own own_arrays after (decl.Declaration.forward h) ds
    was.none was.last was.known was.whole was.bodies was.inner was.entries (λ x is. is))
declarations_found p g found others w t m n j own own_arrays after (decl.and (decl.Declaration.external h) ds) was =
    declarations_found p g found others (waiting_behind w (decl.Declaration.external h)) (with_declaration nothing_declared t (decl.Declaration.external h)) (m + declaration_stops (decl.Declaration.external h)) n j own own_arrays false ds (behind_silent p g others w t m n j own own_arrays after (decl.Declaration.external h) ds
    was.none was.last was.known was.whole was.bodies was.inner was.entries (λ x is. is))

pub unit_found : (p : Placed) (g : ℕ) (others : List Routine) → unit_faults others p.unit ≡ [] → inner_last false (declarations p.unit.tree.items) ≡ true → is_found_in p g ≡ true
unit_found p g others none last =
    let u = p.unit in
    let es = module_entries u g in
    let ds = declarations u.tree.items in
    let lists = globals_faults (around_unit u.subprogram) (main_scope u) others [] [] ds in
    let body = body_faults (main_scope u) (statements u.tree.statements) in
    let silent = if u.subprogram then silent_faults u.tree.at u.tree.statements else [] in
    let of_both = left_none (lists ++ body) silent none in
    let of_lists = left_none lists body of_both in
    let of_body = left_none (statements_faults (main_scope u) (list_labels (statements u.tree.statements)) false (statements u.tree.statements))
    (label_faults (statements u.tree.statements)) (right_none lists body of_both) in
    let found : MainFound p g = λ here. main_names_found p.at.primary (unit_table u) (subroutine_index main es)
    (known_globals (λ x. false) (λ x. is_some (subroutine_index main es x)) u.subprogram (main_scope u) others [] [] ds
    (known_none (λ x. false) (λ x. is_some (subroutine_index main es x)))
    (λ x is. index_there (is_inner main) 0 es x (main_there g u.tree.segment here 0 ds x is)) of_lists) in
    and_from (declare_found p g 0 0 ds) (if holds_main p g then is_found_main es (outer_body p main) else true)
    (declarations_found p g found others [] [] 0 0 0 p.at.own p.at.own_arrays false ds (record {
      none = of_lists;
      last = last;
      known = λ _. known_none (λ x. false) (λ x. false);
      whole = refl;
      bodies = λ i k is. ap (slice_get (routine_bodies p)) (is ∙ zero-add i);
      inner = λ i k is. ap (slice_get (unit_subroutines u)) (is ∙ zero-add i);
      entries = λ passes x is. is;
    }))
    (where_found (holds_main p g) (is_found_main es (outer_body p main))
    (λ holds. main_one u.subprogram (is_found_main es) (main_body (global_places p) u) refl
    (body_found es main (main_body (global_places p) u) (main_scope u) refl (found (second (not u.subprogram) (nat_eq u.tree.segment g) holds)) of_body)))

-- ---- 3. units

pub units_found : (at : Reached) (before us : List Source) → faults_behind before us ≡ []
    → ((i : ℕ) (u : Source) → slice_get us i ≡ Some u → inner_last false (declarations u.tree.items) ≡ true)
    → (i : ℕ) (p : Placed) → slice_get (placed_units at us) i ≡ Some p → (g : ℕ) → is_found_in p g ≡ true
units_found at before [] none last i p is g = cc
units_found at before (u ∷ us) none last zero p is g =
    let others = all_routines before ++ all_routines us in
    let first : Placed = record { at = at; unit = u } in
    subst (λ (q : Placed). is_found_in q g ≡ true) (placed_same first p is)
    (unit_found first g others (left_none (unit_faults others u) (faults_behind (before ++ u ∷ []) us) none) (last 0 u refl))
units_found at before (u ∷ us) none last (suc i) p is g =
    let others = all_routines before ++ all_routines us in
    units_found (reached_behind u at) (before ++ u ∷ []) us (right_none (unit_faults others u) (faults_behind (before ++ u ∷ []) us) none)
    (λ k v there. last (suc k) v there) i p is g

pub sound_found : SoundUnitsAreFound
sound_found us are sound i p is g =
    units_found (first_reached us) [] us (sound_none us (all_faults us) refl sound) (λ k u there. units_last us are k u there) i p is g

pub sound_begins : SoundCodesBeginWell
sound_begins us are sound i p is g = well_written p g (sound_found us are sound i p is g)

pub sound_may_stand : SoundCodesMayStand
sound_may_stand us are sound i p is name g c code = record {
  begins = ap (begins_well false) code.pieces ∙ sound_begins us are sound i p is g;
  kinds = ap (list_all is_of_kind) code.pieces ∙ kinds_written p g;
  marks = (complete p name g c code).pieces;
}
