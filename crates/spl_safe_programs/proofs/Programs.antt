-- Programs of sound units are never lost: the procedures that are called are ready, and so is the main body.
use Rattle.std.proofs.Common.{◌≡◌, ◌≤◌, ℕ, ◌+◌, ◌==◌, ◌&&◌, ◌||◌, not, nat_eq, nat_lt, Bool, true, false, if◌then◌else◌, List, [], ◌∷◌, ◌++◌, length, Option, Some, None, option_map, refl, sym, ap, subst, ◌∙◌, arith}
use Rattle.std.specs.Prelude.{codes}
use Rattle.std.specs.List.{list_all, slice_get}
use Rattle.std.proofs.lemmas.Bool.{and_parts, eqb-true, not-true}
use Rattle.spl_sound_programs.specs.spl_sound_bodies.spl_tree.StatementTrees.{Statements, statements}
use Rattle.spl_sound_programs.specs.spl_linked_names.hp_program.declared.program.Program.{Program}
use Rattle.spl_sound_programs.specs.spl_linked_names.mpe_segmenter.Faults.{first_fault}
use Rattle.spl_sound_programs.specs.spl_linked_names.mpe_segmenter.Names.{parts}
use Rattle.spl_sound_programs.specs.spl_linked_names.spl_bounds.Segments.{NumbersSegments}
use Rattle.spl_sound_programs.specs.spl_linked_names.spl_bounds.Programs.{IsOf}
use Rattle.spl_sound_programs.specs.spl_linked_names.spl_meaning.Pending.{formals_words}
use Rattle.spl_sound_programs.specs.spl_linked_names.spl_meaning.Tables.{Source, Subroutine, routine_names, subroutine_named}
use Rattle.spl_sound_programs.specs.spl_linked_names.spl_meaning.Bodies.{Body, Named, main_body, program_of}
use Rattle.spl_sound_programs.specs.spl_linked_names.spl_meaning.Laws.{IsFront}
use Rattle.spl_sound_programs.specs.spl_linked_names.spl_meaning.StatementRules.{list_labels, label_faults, statements_faults}
use Rattle.spl_sound_programs.specs.spl_linked_names.spl_meaning.DeclarationRules.{main_scope}
use Rattle.spl_sound_programs.specs.spl_sound_bodies.spl_branch.declared.modules.Module.{Module}
use Rattle.spl_sound_programs.specs.spl_linked_names.spl_routes.spl_code.Parts.{Wanted}
use Rattle.spl_sound_programs.specs.spl_linked_names.spl_routes.spl_statement_code.Statements.{listed}
use Rattle.spl_sound_programs.specs.spl_linked_names.spl_routes.hp_steady.Laws.{WordsAreNear}
use Rattle.spl_sound_programs.specs.spl_linked_names.spl_routes.Found.{Finds}
use Rattle.spl_sound_programs.specs.spl_linked_names.spl_routes.Unique.{are_unique}
use Rattle.spl_sound_programs.specs.spl_linked_names.spl_routes.spl_routines.Among.{IsIn}
use Rattle.spl_sound_programs.specs.spl_linked_names.spl_routes.spl_routines.Located.{MadeOf, Located}
use Rattle.spl_sound_programs.specs.spl_linked_names.spl_routes.spl_routines.Routines.{labels_from}
use Rattle.spl_sound_programs.specs.spl_linked_names.spl_places.Programs.{Each}
use Rattle.spl_sound_programs.specs.spl_linked_names.spl_callable.Callable.{is_among, is_covered_frame, is_covered_procedure, are_covered_procedures, are_callable}
use Rattle.spl_sound_programs.specs.spl_sound_bodies.spl_readings.Readings.{are_plain}
use Rattle.spl_sound_programs.specs.spl_sound_bodies.spl_cells.Settable.{are_settable}
use Rattle.spl_sound_programs.specs.spl_linked_names.spl_carried.Covered.{main_count, is_covered_unit, is_covered_program}
use Rattle.spl_sound_programs.proofs.spl_linked_names_proofs.spl_callable_proofs.ProfileLemmas.{procedure_covered}
use Rattle.spl_sound_programs.proofs.spl_linked_names_proofs.spl_callable_proofs.hp_steady_proofs.ProgramLaws.{words_near}
use Rattle.spl_sound_programs.proofs.spl_linked_names_proofs.spl_callable_proofs.spl_endings_proofs.WantLemmas.{wanted_keeps}
use Rattle.spl_sound_programs.proofs.spl_linked_names_proofs.spl_sound_headings_proofs.Units.{inner_theirs}
use Rattle.spl_sound_programs.proofs.spl_linked_names_proofs.spl_routines_proofs.ListLemmas.{in_all, place_of}
use Rattle.spl_sound_programs.proofs.spl_linked_names_proofs.spl_routines_proofs.StandLemmas.{module_fits}
use Rattle.spl_sound_programs.proofs.spl_linked_names_proofs.spl_carried_proofs.WholeLemmas.{whole_parts}
use Rattle.spl_sound_programs.proofs.spl_linked_names_proofs.spl_carried_proofs.MainLemmas.{MainThere, main_there, main_is}
use Rattle.spl_sound_programs.proofs.spl_linked_names_proofs.spl_carried_proofs.PieceLemmas.{main_context, MainPieces, main_pieces}
use Rattle.spl_sound_programs.specs.spl_sound_bodies.spl_scopes.Entries.{main, routine, module_entries}
use Rattle.spl_sound_programs.specs.spl_sound_bodies.spl_scopes.Scopes.{Placed, first_reached, placed_units, outer_body, routine_bodies, global_places, body_segment}
use Rattle.spl_sound_programs.specs.spl_sound_bodies.spl_module_code.Modules.{holds_main, main_mark, IsModuleOf}
use Rattle.spl_sound_programs.specs.spl_sound_bodies.spl_ruled_bodies.Ruled.{IsRuledInner, RoutineAt, MainAt, scope_of}
use Rattle.spl_sound_programs.specs.spl_sound_bodies.spl_ruled_bodies.Laws.{AreShaped}
use Rattle.spl_sound_programs.proofs.spl_sound_bodies_proofs.spl_ruled_bodies_proofs.Units.{routines_ruled, mains_are_ruled}
use Rattle.spl_sound_programs.proofs.spl_seen_proofs.Grounded.{main_grounded, routine_grounded}
use Rattle.spl_sound_programs.specs.Called.{procedure_names, subroutine_names}
use Rattle.spl_linked_calls.specs.spl_safe_parts.spl_safe_calls.Calls.{FrameIsReady, AreReady}
use Rattle.spl_linked_calls.proofs.spl_safe_calls_proofs.Calls.{program_never_lost}
use Rattle.spl_safe_programs.specs.Laws.{SoundProgramsAreNeverLost}
use Rattle.spl_safe_programs.proofs.Wants.{never, some_same}
use Rattle.spl_safe_programs.proofs.Names.{procedure_around, inner_heading}
use Rattle.spl_safe_programs.proofs.Frames.{Laws, Known, means, frame_ready}

left_none : {A : Type 0} (xs ys : List A) → xs ++ ys ≡ [] → xs ≡ []
left_none [] ys e = refl
left_none (x ∷ xs) ys e = cc

-- ---- the module of a main body

-- a module that has a main body is that of a unit which is no subprogram, in the segment of its main body
record OfMain (unit : Placed) (number : ℕ) : Type 0 where
  whole : unit.unit.subprogram ≡ false
  holds : holds_main unit unit.unit.tree.segment ≡ true
  segment : unit.unit.tree.segment ≡ number

of_main : (unit : Placed) (number offset : ℕ) (marks : ℕ → ℕ) → option_map marks (main_mark unit number) ≡ Some offset → OfMain unit number
of_main unit number offset marks e = by (holds_main unit number) refl e
  where
    by : (b : Bool) → holds_main unit number ≡ b → option_map marks (if b then Some (length (module_entries unit.unit number)) else None) ≡ Some offset → OfMain unit number
    by false h e' = cc
    by true h e' =
        let two = and_parts (not unit.unit.subprogram) (nat_eq unit.unit.tree.segment number) h in
        let same = eqb-true unit.unit.tree.segment number two.1 in
        record { whole = not-true unit.unit.subprogram two.0; holds = subst (λ (k : ℕ). holds_main unit k ≡ true) (sym same) h; segment = same }

-- ---- a program of sound units

module _ (laws : Laws) (us : List Source) (ms : List Module) (globals : List ℕ) (program : Program) (is : IsOf us ms globals program)
    (numbers : Each NumbersSegments us) (shaped : AreShaped us) (none : first_fault ms ≡ None) where
  abbrev xs : List (List ℕ)
  xs = procedure_names us

  abbrev ys : List (List ℕ)
  ys = subroutine_names us

  abbrev procedures : List Named
  procedures = (program_of us).procedures

  abbrev near : WordsAreNear program
  near = words_near program

  made : MadeOf us program ms
  made = record {
    are = is.are_modules;
    whole = whole_parts us ms is.are_modules none;
    segments = is.makes.segments;
    links = is.links;
    main = is.makes.main;
    kinds = laws.kinds;
    well = λ q g there. let at = place_of q (placed_units (first_reached us) us) there in laws.well us is.spelled is.sound at.0 q at.1 g;
  }

  unique : are_unique us ≡ true
  unique = laws.unique us ms is.sound numbers is.are_modules none

  covered : is_covered_program xs ys us ≡ true
  covered = laws.covered us ms globals program is numbers shaped none

  abbrev is_unit : Placed → Bool
  is_unit = is_covered_unit xs ys procedures

  both : ((main_count us == 1 && are_callable xs ys us) ≡ true) × (list_all is_unit (placed_units (first_reached us) us) ≡ true)
  both = and_parts (main_count us == 1 && are_callable xs ys us) (list_all is_unit (placed_units (first_reached us) us)) covered

  first_two : (main_count us ≡ 1) × (are_callable xs ys us ≡ true)
  first_two = let two = and_parts (main_count us == 1) (are_callable xs ys us) both.0 in (eqb-true (main_count us) 1 two.0, two.1)

  abbrev IsKnown : List ℕ → Type 0
  IsKnown = Known laws us program near ms made is.sound unique

  -- ---- procedures

  -- those of a unit are covered
  unit_covered : (zs : List (List ℕ)) → are_callable zs ys us ≡ true → (x : List ℕ) → is_among zs x ≡ true → (q : Placed) → IsIn q (placed_units (first_reached us) us)
      → are_covered_procedures zs ys procedures q 0 (routine_bodies q) ≡ true
  unit_covered [] e x h q there = never h
  unit_covered (z ∷ zs) e x h q there =
      let two = and_parts (are_unique us) (list_all (λ q'. are_covered_procedures (z ∷ zs) ys procedures q' 0 (routine_bodies q')) (placed_units (first_reached us) us)) e in
      in_all (λ q'. are_covered_procedures (z ∷ zs) ys procedures q' 0 (routine_bodies q')) q (placed_units (first_reached us) us) there two.1

  module _ (x : List ℕ) (k : IsKnown x) where
    abbrev f : Finds us program near ms k.way x
    f = k.finds

    abbrev unit : Placed
    unit = f.unit

    abbrev b : Body
    b = f.named.body

    abbrev at_place : (i : ℕ) × (slice_get (placed_units (first_reached us) us) i ≡ Some unit)
    at_place = place_of unit (placed_units (first_reached us) us) f.among

    r : RoutineAt unit f.number f.named
    r = routines_ruled us is.spelled shaped is.sound at_place.0 unit at_place.1 f.number f.named f.there

    tested : is_covered_procedure xs ys procedures (module_entries unit.unit (body_segment unit.unit (routine f.number))) f.number b ≡ true
    tested =
        let same : 0 + f.number ≡ f.number = omega arith in
        subst (λ (j : ℕ). is_covered_procedure xs ys procedures (module_entries unit.unit (body_segment unit.unit (routine j))) j b ≡ true) same
        (procedure_covered xs ys procedures unit 0 (routine_bodies unit) f.number f.named (unit_covered xs first_two.1 x k.among unit f.among) f.there
        (ap (λ (y : List ℕ). is_among xs y) f.name ∙ k.among))

    frame : is_covered_frame xs ys procedures (module_entries unit.unit (body_segment unit.unit (routine f.number))) (routine f.number) true b ≡ true
    frame =
        let e = module_entries unit.unit (body_segment unit.unit (routine f.number)) in
        (and_parts (are_plain b.here.names b.statements) (is_covered_frame xs ys procedures e (routine f.number) true b)
        (and_parts (are_settable b && nat_lt (formals_words b.profile.formals) 256)
        (are_plain b.here.names b.statements && is_covered_frame xs ys procedures e (routine f.number) true b) tested).1).1

    statements_are : b.statements ≡ statements r.its.statements
    statements_are = ap (λ (c : Body). c.statements) r.is

    names_are : (y : List ℕ) → b.here.names y ≡ routine_names r.its y
    names_are y = ap (λ (c : Body). c.here.names y) r.is

    procedure_ready : FrameIsReady IsKnown procedures b
    procedure_ready =
        frame_ready laws us program near ms made is.sound unique unit f.among (routine f.number) b (ap (λ (o : Option Named). option_map (λ c. c.body) o) f.there) f.at
        at_place.0 at_place.1 (scope_of r.its) (routine_grounded us is.spelled shaped is.sound is.within at_place.0 unit at_place.1 f.number f.named f.there r)
        (ap (λ (c : Body). c.here.setting.inside) r.is)
        (λ y p named. procedure_around unit f.number f.named r y p (sym (names_are y) ∙ named))
        (λ y p named z there. inner_heading unit f.number f.named r y p (sym (names_are y) ∙ named) z
        (sym (ap (λ (c : Body). subroutine_named c.subroutines y) r.is) ∙ there))
        (subst (λ (ss : Statements). statements_faults (scope_of r.its) (list_labels ss) false ss ≡ []) (sym statements_are)
        (left_none (statements_faults (scope_of r.its) (list_labels (statements r.its.statements)) false (statements r.its.statements))
        (label_faults (statements r.its.statements)) r.ruled.body))
        (subst (λ (ss : List Subroutine). Each (IsRuledInner (scope_of r.its)) ss) (sym (ap (λ (c : Body). c.subroutines) r.is)) r.ruled.inners) true frame
        (labels_from f.stands.labels b) f.stands.out f.stands.marks f.stands.wants f.stands.front

  all_ready : AreReady IsKnown procedures
  all_ready x c k named =
      subst (λ (d : Body). FrameIsReady IsKnown procedures d)
      (some_same k.finds.named.body c (sym (means laws us program near ms made is.sound unique x k) ∙ named)) (procedure_ready x k)

  -- ---- the main body

  abbrev main_module : MainThere us ms program.main program.entry
  main_module = main_there us ms program.main program.entry made.are made.main

  abbrev main_unit : Placed
  main_unit = main_module.of.unit

  abbrev main_small : main_module.here.size ≤ 16383
  main_small = module_fits (parts ms) made.whole program.main main_module.front main_module.here main_module.back main_module.is

  -- a finished module of this unit has its main body at the mark behind those of its entries
  main_mark_is : (g : ℕ) (of : IsModuleOf main_unit main_module.of.name g main_module.here)
      → option_map (of.finished main_small).marks (main_mark main_unit g) ≡ Some main_module.offset
  main_mark_is g of =
      ap (λ (o : Option ℕ). option_map (of.finished main_small).marks o) (sym of.is.main) ∙ sym (of.finished main_small).main ∙ main_module.main

  first_of : OfMain main_unit main_module.of.number
  first_of =
      of_main main_unit main_module.of.number main_module.offset (main_module.of.is.finished main_small).marks
      (main_mark_is main_module.of.number main_module.of.is)

  in_segment : IsModuleOf main_unit main_module.of.name main_unit.unit.tree.segment main_module.here
  in_segment = subst (λ (k : ℕ). IsModuleOf main_unit main_module.of.name k main_module.here) (sym first_of.segment) main_module.of.is

  -- where that module stands
  abbrev located : Located ms main_unit main_unit.unit.tree.segment
  located = record {
    name = main_module.of.name;
    seg = program.main;
    front = main_module.front;
    here = main_module.here;
    back = main_module.back;
    is = main_module.is;
    of = in_segment;
    finished = in_segment.finished main_small;
  }

  abbrev main_place : (i : ℕ) × (slice_get (placed_units (first_reached us) us) i ≡ Some main_unit)
  main_place = place_of main_unit (placed_units (first_reached us) us) main_module.of.there

  abbrev m_body : Body
  m_body = main_body (global_places main_unit) main_unit.unit

  its_main : outer_body main_unit main ≡ Some m_body
  its_main = ap (λ (c : Bool). if c then None else Some m_body) first_of.whole

  abbrev is_frame : Bool
  is_frame = is_covered_frame xs ys procedures (module_entries main_unit.unit main_unit.unit.tree.segment) main false m_body

  main_frame : is_frame ≡ true
  main_frame = sym (ap (λ (c : Bool). c || is_frame) first_of.whole) ∙ in_all is_unit main_unit (placed_units (first_reached us) us) main_module.of.there both.1

  pieces_of : MainPieces main_unit main_unit.unit.tree.segment m_body
  pieces_of = main_pieces main_unit main_unit.unit.tree.segment m_body first_of.holds its_main

  -- the names that its statements want
  abbrev main_wants : List Wanted
  main_wants = (listed (main_context (module_entries main_unit.unit main_unit.unit.tree.segment) m_body pieces_of.mark) m_body.statements 0 pieces_of.marks pieces_of.wants).wants

  ruled : MainAt main_unit
  ruled = mains_are_ruled us is.spelled shaped is.sound main_place.0 main_unit main_place.1

  main_ready : FrameIsReady IsKnown procedures m_body
  main_ready =
      frame_ready laws us program near ms made is.sound unique main_unit main_module.of.there main m_body its_main located main_place.0 main_place.1
      (main_scope main_unit.unit) (main_grounded us is.spelled shaped is.sound is.within main_place.0 main_unit main_place.1) refl (λ y p named. named)
      (λ y p named z there. inner_theirs us is.sound main_place.0 main_unit main_place.1 y p named z there)
      (left_none (statements_faults (main_scope main_unit.unit) (list_labels m_body.statements) false m_body.statements) (label_faults m_body.statements) ruled.body)
      ruled.inners false main_frame (labels_from pieces_of.mark m_body) (length (module_entries main_unit.unit main_unit.unit.tree.segment)) pieces_of.marks
      pieces_of.wants
      (subst (λ (ws : List Wanted). IsFront main_wants ws) (sym (in_segment.is.wants ∙ pieces_of.last)) (wanted_keeps (codes "TERMINATE") true main_wants))

-- ---- the law

pub never_lost : Laws → SoundProgramsAreNeverLost
never_lost laws us ms globals program is numbers shaped none seat steps =
    program_never_lost laws.sizes (IsKnown laws us ms globals program is numbers shaped none) (program_of us) (all_ready laws us ms globals program is numbers shaped none)
    (m_body laws us ms globals program is numbers shaped none)
    (main_is us (main_unit laws us ms globals program is numbers shaped none) (first_two laws us ms globals program is numbers shaped none).0
    (main_module laws us ms globals program is numbers shaped none).of.there (first_of laws us ms globals program is numbers shaped none).whole)
    (main_ready laws us ms globals program is numbers shaped none) seat steps
