-- The bodies of units, one by one.
use Rattle.std.proofs.Common.{◌≡◌, ℕ, zero, suc, true, false, if◌then◌else◌, List, [], ◌∷◌, ◌++◌, Some, is_some, refl, sym, ap, subst, ◌∙◌, zero-add}
use Rattle.std.specs.List.{slice_get}
use Rattle.std.proofs.lemmas.Bool.{and_parts}
use Rattle.spl_shapes.specs.spl_tree.DeclarationTrees.{declarations}
use Rattle.spl_shapes.specs.spl_tree.StatementTrees.{statements}
use Rattle.spl_sound_beginnings.specs.spl_meaning.Names.{find}
use Rattle.spl_sound_beginnings.specs.spl_meaning.Tables.{Source, Routine, unit_table, routines_of}
use Rattle.spl_sound_beginnings.specs.spl_meaning.Bodies.{Reached, reached_behind, all_routines}
use Rattle.spl_sound_beginnings.specs.spl_meaning.StatementRules.{body_faults}
use Rattle.spl_sound_beginnings.specs.spl_meaning.DeclarationRules.{main_scope, globals_faults, silent_faults, unit_faults}
use Rattle.spl_sound_beginnings.specs.spl_meaning.Sound.{IsSound, all_faults, faults_behind}
use Rattle.spl_sound_beginnings.specs.spl_sound.Spelled.{AreSpelled}
use Rattle.spl_sound_beginnings.specs.spl_scopes.Entries.{main, routine, is_inner, in_segment, entries_among, module_entries, subroutine_index}
use Rattle.spl_sound_beginnings.specs.spl_scopes.Scopes.{Placed, first_reached, placed_units, global_places, segment_of, body_segment}
use Rattle.spl_shapes.specs.Shapes.{is_shaped_unit, are_shaped_declarations, are_shaped_statements}
use Rattle.spl_sound_beginnings.specs.spl_sound_names.Known.{AreKnown, inner_last}
use Rattle.spl_sound_beginnings.proofs.spl_sound_names_proofs.Tables.{left_none, right_none}
use Rattle.spl_sound_beginnings.proofs.spl_sound_names_proofs.Walks.{around_unit, known_globals, known_none}
use Rattle.spl_sound_beginnings.proofs.spl_sound_names_proofs.Units.{sound_none}
use Rattle.spl_sound_beginnings.proofs.spl_sound_names_proofs.Order.{units_last}
use Rattle.spl_sound_beginnings.proofs.Bodies.{main_names_found, routine_names_found}
use Rattle.spl_sound_beginnings.proofs.Entries.{has_entry, index_there, main_there}
use Rattle.spl_ruled_bodies.specs.Ruled.{AreFit}
use Rattle.spl_ruled_bodies.specs.Laws.{AreShaped, RoutinesAreRuled, MainBodiesAreRuled}
use Rattle.spl_ruled_bodies.proofs.Fit.{fit_globals}
use Rattle.spl_ruled_bodies.proofs.Routines.{routine_numbered, inner_entered, Walk, same_number, routine_told, mains_ruled}

-- ---- units

placed_same : (p q : Placed) → Some p ≡ Some q → p ≡ q
placed_same p q is = cc

-- a unit that breaks no rule, of a tree that tokens spell
record UnitRuled (u : Source) : Type 0 where
  others : List Routine
  none : unit_faults others u ≡ []
  last : inner_last false (declarations u.tree.items) ≡ true
  shaped : is_shaped_unit u.tree ≡ true

-- unit by unit
units_ruled : (at : Reached) (before us : List Source) → faults_behind before us ≡ []
    → ((i : ℕ) (u : Source) → slice_get us i ≡ Some u → inner_last false (declarations u.tree.items) ≡ true) → AreShaped us
    → (i : ℕ) (p : Placed) → slice_get (placed_units at us) i ≡ Some p → UnitRuled p.unit
units_ruled at before [] none last shaped i p is = cc
units_ruled at before (u ∷ us) none last shaped zero p is =
    let others = all_routines before ++ all_routines us in
    subst (λ (q : Placed). UnitRuled q.unit) (placed_same (record { at = at; unit = u }) p is) (record {
      others = others;
      none = left_none (unit_faults others u) (faults_behind (before ++ u ∷ []) us) none;
      last = last 0 u refl;
      shaped = shaped.0;
    })
units_ruled at before (u ∷ us) none last shaped (suc i) p is =
    units_ruled (reached_behind u at) (before ++ u ∷ []) us (right_none (unit_faults (all_routines before ++ all_routines us) u) (faults_behind (before ++ u ∷ []) us) none)
    (λ k v there. last (suc k) v there) shaped.1 i p is

-- its list, and its main body
record Parts (others : List Routine) (u : Source) : Type 0 where
  lists : globals_faults (around_unit u.subprogram) (main_scope u) others [] [] (declarations u.tree.items) ≡ []
  body : body_faults (main_scope u) (statements u.tree.statements) ≡ []

-- they break no rule where the unit breaks none
parts : (others : List Routine) (u : Source) → unit_faults others u ≡ [] → Parts others u
parts others u none =
    let lists = globals_faults (around_unit u.subprogram) (main_scope u) others [] [] (declarations u.tree.items) in
    let body = body_faults (main_scope u) (statements u.tree.statements) in
    let silent = if u.subprogram then silent_faults u.tree.at u.tree.statements else [] in
    let both = left_none (lists ++ body) silent none in
    record { lists = left_none lists body both; body = right_none lists body both }

nothing_fit : AreFit (find [])
nothing_fit x s is = cc

-- each unit, by its place
ruled : (us : List Source) → AreSpelled us → AreShaped us → IsSound us → (i : ℕ) (p : Placed) → slice_get (placed_units (first_reached us) us) i ≡ Some p → UnitRuled p.unit
ruled us are shaped sound i p is =
    units_ruled (first_reached us) [] us (sound_none us (all_faults us) refl sound) (λ k u there. units_last us are k u there) shaped i p is

-- ---- bodies

-- a procedure, by the walk to its place in the list of its unit
pub routines_ruled : RoutinesAreRuled
routines_ruled us are shaped sound i p is j b there =
    let u = ruled us are shaped sound i p is in
    let ds = declarations p.unit.tree.items in
    let k = parts u.others p.unit u.none in
    let r = routine_numbered (global_places p) p.at.own p.at.own_arrays (routines_of p.unit) j b there in
    let shapes = and_parts (are_shaped_declarations ds) (are_shaped_statements (statements p.unit.tree.statements)) u.shaped in
    let walk : Walk p.unit.subprogram (main_scope p.unit) u.others [] [] false ds =
    record { none = k.lists; last = u.last; shaped = shapes.0; known = λ _. known_none (λ x. false) (λ x. false); fit = nothing_fit } in
    let told = routine_told p.unit.subprogram (main_scope p.unit) u.others [] [] 0 false ds walk j r.its r.there in
    let segment : segment_of (slice_get (routines_of p.unit) j) ≡ r.its.heading.segment = ap segment_of r.there in
    record {
      its = r.its;
      own = r.own;
      own_arrays = r.own_arrays;
      there = r.there;
      name = r.name;
      is = r.is;
      ruled = told.ruled;
      kept = told.kept;
      found =
          routine_names_found p.at.primary r.own r.own_arrays (unit_table p.unit) r.its
          (subroutine_index (routine j) (module_entries p.unit (body_segment p.unit (routine j)))) told.ruled.known told.kept told.ruled.heading told.ruled.list
          (λ x has. index_there (is_inner (routine j)) 0 (module_entries p.unit (body_segment p.unit (routine j))) x
          (ap (λ (g : ℕ). has_entry (is_inner (routine j)) x (in_segment g (entries_among p.unit.tree.segment 0 ds))) segment
          ∙ ap (λ (n : ℕ). has_entry (is_inner (routine n)) x (in_segment r.its.heading.segment (entries_among p.unit.tree.segment 0 ds))) (sym (zero-add j))
          ∙ inner_entered p.unit.tree.segment 0 [] 0 ds j r.its r.there x has));
    }

-- a main body, which sees the list of its unit
pub mains_are_ruled : MainBodiesAreRuled
mains_are_ruled us are shaped sound i p is =
    let u = ruled us are shaped sound i p is in
    let ds = declarations p.unit.tree.items in
    let k = parts u.others p.unit u.none in
    let es = module_entries p.unit p.unit.tree.segment in
    let shapes = and_parts (are_shaped_declarations ds) (are_shaped_statements (statements p.unit.tree.statements)) u.shaped in
    let known : AreKnown (λ x. false) (λ x. is_some (subroutine_index main es x)) (find (unit_table p.unit)) =
    known_globals (λ x. false) (λ x. is_some (subroutine_index main es x)) p.unit.subprogram (main_scope p.unit) u.others [] [] ds
    (known_none (λ x. false) (λ x. is_some (subroutine_index main es x)))
    (λ x has. index_there (is_inner main) 0 es x (main_there p.unit.tree.segment p.unit.tree.segment (same_number p.unit.tree.segment) 0 ds x has)) k.lists in
    record {
      body = k.body;
      known = known;
      fit = fit_globals p.unit.subprogram (main_scope p.unit) u.others [] [] ds nothing_fit k.lists;
      inners = mains_ruled p.unit.subprogram (main_scope p.unit) u.others [] [] 0 ds k.lists shapes.0;
      shaped = shapes.1;
      found = main_names_found p.at.primary (unit_table p.unit) (subroutine_index main es) known;
    }
