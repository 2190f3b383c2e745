-- What a declaration adds to the code of a segment is what the module has of it.
use Rattle.std.proofs.Common.{◌≡◌, ℕ, suc, ◌+◌, false, List, [], ◌∷◌, Option, Some, None, refl, sym, ap, ◌∙◌}
use Rattle.std.specs.List.{slice_get}
use Rattle.std.specs.Prelude.{option_map, unwrap_or}
use Rattle.std.proofs.lemmas.Option.{slice_get-map}
use Rattle.spl_sound_labels.specs.spl_tree.DeclarationTrees as decl
use Rattle.spl_sound_labels.specs.spl_tree.DeclarationTrees.{Heading, Declaration, Declarations, declarations}
use Rattle.spl_sound_labels.specs.spl_tree.StatementTrees as stat
use Rattle.spl_sound_labels.specs.spl_meaning.Names.{Names, find, nothing_declared}
use Rattle.spl_sound_labels.specs.spl_meaning.Tables.{Routine, Subroutine, routines_of, routine_subroutines, subroutines_among, unit_subroutines}
use Rattle.spl_sound_labels.specs.spl_meaning.Bodies.{Body, Named, main_body, subroutine_body}
use Rattle.spl_routine_code.specs.spl_found.OwnNames.{behind_declarations}
use Rattle.spl_sound_labels.specs.spl_places.Programs.{Each}
use Rattle.spl_routine_code.specs.spl_rooms.declared.room_type.Room.{Room}
use Rattle.spl_routine_code.specs.spl_rooms.Rooms.{routine_room}
use Rattle.spl_routine_code.specs.spl_branch.declared.buffer.Code.{Code}
use Rattle.spl_routine_code.specs.spl_code.Calls.{Scope}
use Rattle.spl_routine_code.specs.spl_body_code.Bodies.{Frame, frame_of}
use Rattle.spl_routine_code.specs.spl_scopes.Entries.{main, routine, module_entries, subroutine_index, procedure_index}
use Rattle.spl_routine_code.specs.spl_scopes.Scopes.{Placed, outer, inner, segment_of, outer_body, global_places, body_in, inner_body}
use Rattle.spl_unit_codes.specs.spl_modules.Entered.{Walk, Indexes}
use Rattle.spl_unit_codes.specs.spl_modules.UnitModules.{IsUnitModules}
use Rattle.spl_routine_code.specs.spl_body_scopes.Levels.{Level, unit_level}
use Rattle.spl_routine_code.specs.spl_body_scopes.Walks.{State, Left, behind, globals_in, inner_headings}
use Rattle.spl_routine_code.specs.spl_body_scopes.Found.{Calls, calls_of}
use Rattle.spl_routine_code.proofs.spl_body_scopes_proofs.ScopeLaws.{made, routine_next, body_next, body_left, all_headings, body_names, main_there}
use Rattle.spl_routine_code.specs.spl_body_scopes.Results.{result_of, results_through}
use Rattle.spl_routine_code.specs.spl_statement_scopes.Levels.{no_names, with_results}
use Rattle.spl_routine_code.specs.spl_statement_scopes.Scopes.{statements_in, StatesMain}
use Rattle.spl_unit_codes.specs.spl_module_code.Bodies.{statements_scope, routine_part}
use Rattle.spl_routine_code.specs.Generates.{GeneratesFrom}
use Rattle.spl_routine_code.specs.Routines.{Around, inners_among, room_at, FrameFits, RoutineStands}
use Rattle.spl_unit_laws.specs.Known.{Fixed, main_around}
use Rattle.spl_unit_laws.specs.Steps.{routine_around}
use Rattle.spl_unit_laws.specs.Units.{fixed_for, whole_level}
use Rattle.spl_unit_laws.proofs.InnerParts.{Seen, AllRoomy}
use Rattle.spl_unit_laws.proofs.RoutineParts.{RoutineSeen, routine_made}

-- ---- lists

some_inside : {A : Type 0} (d : A) (x y : A) → Some x ≡ Some y → x ≡ y
some_inside d x y is = ap (λ o. unwrap_or o d) is

-- of each by its number
pub each_by : {A : Type 0} (P : A → Type 0) (xs : List A) → ((j : ℕ) (x : A) → slice_get xs j ≡ Some x → P x) → Each P xs
each_by P [] all = tt
each_by P (x ∷ xs) all = (all 0 x refl, each_by P xs (λ j y is. all (suc j) y is))

-- the heading of a subroutine by its number
pub heading_at : (m : ℕ) (items : Declarations) (j : ℕ) (sub : Subroutine) → slice_get (subroutines_among m items) j ≡ Some sub
    → slice_get (inner_headings items) j ≡ Some sub.heading
heading_at m items j sub is =
    ap (λ hs. slice_get hs j) (sym (all_headings m items)) ∙ slice_get-map (λ (s : Subroutine). s.heading) (subroutines_among m items) j
    ∙ ap (option_map (λ (s : Subroutine). s.heading)) is

-- ---- the entries that are called

-- a unit by its entries, and where its globals begin
abbrev pub fixed_in : Placed → Walk → List Room → Fixed
fixed_in p w rooms = fixed_for p.unit w p.at.primary rooms

calls_same : (a b c d : Indexes) → a ≡ b → c ≡ d → ◌≡◌ {A = Calls} (record { procedures = a; subroutines = c }) (record { procedures = b; subroutines = d })
calls_same a b c d one two i = record { procedures = one i; subroutines = two i }

routine_calls : (p : Placed) (w : Walk) (rooms : List Room) (i : ℕ) (r : Routine) → IsUnitModules p.unit w → slice_get (routines_of p.unit) i ≡ Some r
    → record { procedures = (fixed_in p w rooms).procedures r.heading.segment; subroutines = (fixed_in p w rooms).inner i } ≡ calls_of p r.heading.segment (routine i)
routine_calls p w rooms i r are is =
    calls_same (w.entered.procedures r.heading.segment) (procedure_index (module_entries p.unit r.heading.segment))
    (unwrap_or (slice_get w.routines i) (find [])) (subroutine_index (routine i) (module_entries p.unit r.heading.segment))
    (are.procedures r.heading.segment) (ap (λ (o : Option Indexes). unwrap_or o (find [])) (are.routines i r is))

main_calls : (p : Placed) (w : Walk) → IsUnitModules p.unit w
    → record { procedures = w.entered.procedures p.unit.tree.segment; subroutines = w.main_body } ≡ calls_of p p.unit.tree.segment main
main_calls p w are =
    calls_same (w.entered.procedures p.unit.tree.segment) (procedure_index (module_entries p.unit p.unit.tree.segment)) w.main_body
    (subroutine_index main (module_entries p.unit p.unit.tree.segment)) (are.procedures p.unit.tree.segment) are.main_body

-- ---- a procedure

-- what stands around its subroutines, in a state before it
abbrev pub around_in : Placed → Walk → List Room → State → Heading → Declarations → List stat.Statement → Around
around_in p w rooms s h items ss =
    routine_around (fixed_in p w rooms) (globals_in p (behind s (decl.Declaration.procedure h items ss)).names)
    (record { routines = s.count; own = s.own; own_arrays = 0; room = 0; inner_room = 0 }) h items

-- the scope of its statements
pub routine_seen : (p : Placed) (w : Walk) (rooms : List Room) (s : State) (h : Heading) (items : Declarations) (ss : List stat.Statement) (ds : Declarations)
    → IsUnitModules p.unit w → (left : Left p s (decl.and (decl.Declaration.procedure h items ss) ds))
    → RoutineSeen (module_entries p.unit h.segment) (routine s.count) (body_left p s left.table left.before left.own_arrays h items ss) (around_in p w rooms s h items ss)
routine_seen p w rooms s h items ss ds are left scope states =
    let r = made left.table left.before h items ss in
    let b = body_left p s left.table left.before left.own_arrays h items ss in
    let o = routine s.count in
    let x : Named = record { name = h.name; body = b } in
    let es = module_entries p.unit h.segment in
    let seen = states p s (behind s (decl.Declaration.procedure h items ss)).names h items ss ds left refl refl refl refl
    (routine_calls p w rooms s.count r are (routine_next p s h items ss ds left)) in
    let there : statements_in p (outer o) ≡ Some (statements_scope es o b) =
    ap (λ (q : Option Routine). option_map (statements_scope (module_entries p.unit (segment_of q)) o) (outer_body p o)) (routine_next p s h items ss ds left)
    ∙ ap (λ (q : Option Named). option_map (statements_scope es o) (option_map (λ (c : Named). c.body) q)) (body_next p s h items ss ds left) in
    some_inside scope (statements_scope es o b) scope (sym there ∙ seen)

-- those of its subroutines
pub inner_seen : (p : Placed) (w : Walk) (rooms : List Room) (s : State) (h : Heading) (items : Declarations) (ss : List stat.Statement) (ds : Declarations)
    → IsUnitModules p.unit w → (left : Left p s (decl.and (decl.Declaration.procedure h items ss) ds))
    → Each (Seen (module_entries p.unit h.segment) (routine s.count) (body_left p s left.table left.before left.own_arrays h items ss) (around_in p w rooms s h items ss))
    (routine_subroutines (made left.table left.before h items ss))
inner_seen p w rooms s h items ss ds are left =
    let r = made left.table left.before h items ss in
    let b = body_left p s left.table left.before left.own_arrays h items ss in
    let o = routine s.count in
    let es = module_entries p.unit h.segment in
    each_by (Seen es o b (around_in p w rooms s h items ss)) (routine_subroutines r)
    (λ j sub at scope states others.
    let seen = states p s (behind s (decl.Declaration.procedure h items ss)).names h items ss ds j sub.heading left refl (heading_at left.before items j sub at) refl refl refl
    (routine_calls p w rooms s.count r are (routine_next p s h items ss ds left)) in
    let there : statements_in p (inner o j) ≡ Some (statements_scope es o (subroutine_body b sub)) =
    ap (λ (q : Option Routine). option_map (statements_scope (module_entries p.unit (segment_of q)) o) (body_in p (inner o j))) (routine_next p s h items ss ds left)
    ∙ ap (λ (q : Option Named). option_map (statements_scope es o) (inner_body (option_map (λ (c : Named). c.body) q) j)) (body_next p s h items ss ds left)
    ∙ ap (λ (q : Option Subroutine). option_map (statements_scope es o) (option_map (subroutine_body b) q)) at in
    some_inside scope (statements_scope es o (subroutine_body b sub)) scope (sym there ∙ seen))

-- its frame
pub frame_found : (p : Placed) (s : State) (h : Heading) (items : Declarations) (ss : List stat.Statement) (ds : Declarations) (room : Room) (frame : Frame)
    → (left : Left p s (decl.and (decl.Declaration.procedure h items ss) ds)) → room ≡ routine_room (made left.table left.before h items ss)
    → FrameFits (behind s (decl.Declaration.procedure h items ss)).names s.own left.own_arrays h items room frame
    → frame ≡ frame_of (body_left p s left.table left.before left.own_arrays h items ss)
frame_found p s h items ss ds room frame left is fits =
    let r = made left.table left.before h items ss in
    let d = decl.Declaration.procedure h items ss in
    fits (global_places p) r left.new.0 refl refl (sym (body_names p s (behind s d).names h items ss ds left refl)) is

-- so it is the procedure of its unit
pub routine_declared : (p : Placed) (w : Walk) (rooms : List Room) (s : State) (h : Heading) (items : Declarations) (ss : List stat.Statement) (ds : Declarations)
    (k entry : ℕ) (c e : Code) → IsUnitModules p.unit w → (left : Left p s (decl.and (decl.Declaration.procedure h items ss) ds))
    → room_at rooms k ≡ routine_room (made left.table left.before h items ss)
    → AllRoomy rooms (body_left p s left.table left.before left.own_arrays h items ss) (suc k) (routine_subroutines (made left.table left.before h items ss))
    → RoutineStands (around_in p w rooms s h items ss) rooms k (behind s (decl.Declaration.procedure h items ss)).names s.own left.own_arrays h items ss entry c e
    → GeneratesFrom entry (1 + inners_among items)
    (routine_part (module_entries p.unit h.segment) s.count entry (record { name = h.name; body = body_left p s left.table left.before left.own_arrays h items ss })) c e
routine_declared p w rooms s h items ss ds k entry c e are left room roomy stands =
    let x : Named = record { name = h.name; body = body_left p s left.table left.before left.own_arrays h items ss } in
    let d = decl.Declaration.procedure h items ss in
    routine_made (module_entries p.unit h.segment) s.count x (around_in p w rooms s h items ss) rooms k (behind s d).names s.own left.own_arrays h left.before items ss entry c e stands
    (routine_seen p w rooms s h items ss ds are left) (inner_seen p w rooms s h items ss ds are left) roomy refl
    (λ frame fits. frame_found p s h items ss ds (room_at rooms k) frame left room fits) refl refl

-- ---- a subroutine of the main body

-- where all declarations of a unit are behind
pub record AllBehind (p : Placed) (last : State) : Type 0 where
  pub left : Left p last decl.none
  pub names : last.names ≡ behind_declarations nothing_declared nothing_declared (declarations p.unit.tree.items)

whole_is : (p : Placed) (last : State) → AllBehind p last → whole_level p.unit p.at.primary ≡ globals_in p last.names
whole_is p last all = ap (λ (n : Names). record { names = n; places = (unit_level p.at.primary (declarations p.unit.tree.items)).places }) (sym all.names)

pub main_inner_seen : (p : Placed) (w : Walk) (rooms : List Room) (last : State) (j : ℕ) (sub : Subroutine) → IsUnitModules p.unit w → AllBehind p last
    → p.unit.subprogram ≡ false → slice_get (unit_subroutines p.unit) j ≡ Some sub
    → Seen (module_entries p.unit p.unit.tree.segment) main (main_body (global_places p) p.unit) (main_around (fixed_in p w rooms)) sub
main_inner_seen p w rooms last j sub are all out at scope others states =
    let es = module_entries p.unit p.unit.tree.segment in
    let b = main_body (global_places p) p.unit in
    let seen = states p last j sub.heading all.left out (heading_at 0 (declarations p.unit.tree.items) j sub at) refl (whole_is p last all) (whole_is p last all) (main_calls p w are) in
    let there : statements_in p (inner main j) ≡ Some (statements_scope es main (subroutine_body b sub)) =
    ap (λ (q : Option Body). option_map (statements_scope es main) (inner_body q j)) (main_there p out)
    ∙ ap (λ (q : Option Subroutine). option_map (statements_scope es main) (option_map (subroutine_body b) q)) at in
    some_inside scope (statements_scope es main (subroutine_body b sub)) scope (sym there ∙ seen)

-- the first level of the main body's statements
abbrev pub main_first : Level → Level
main_first whole = with_results no_names whole whole (results_through (result_of None) (result_of None))

pub main_seen : (p : Placed) (w : Walk) (rooms : List Room) (last : State) → IsUnitModules p.unit w → AllBehind p last → p.unit.subprogram ≡ false → (scope : Scope)
    → StatesMain (main_first (whole_level p.unit p.at.primary)) (whole_level p.unit p.at.primary) (whole_level p.unit p.at.primary)
    (record { procedures = w.entered.procedures p.unit.tree.segment; subroutines = w.main_body }) scope
    → statements_scope (module_entries p.unit p.unit.tree.segment) main (main_body (global_places p) p.unit) ≡ scope
main_seen p w rooms last are all out scope states =
    let es = module_entries p.unit p.unit.tree.segment in
    let b = main_body (global_places p) p.unit in
    let seen = states p last all.left out refl (whole_is p last all) (whole_is p last all) (main_calls p w are) in
    some_inside scope (statements_scope es main b) scope (sym (ap (option_map (statements_scope es main)) (main_there p out)) ∙ seen)
