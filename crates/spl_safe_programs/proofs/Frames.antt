-- Main bodies and procedures of a program of sound units are ready, with their subroutines.
use Rattle.std.proofs.Common.{◌≡◌, ℕ, ◌+◌, ◌&&◌, ◌||◌, not, nat_lt, Bool, true, false, List, [], ◌∷◌, ◌++◌, Option, Some, None, is_some, refl, sym, ap, subst, ◌∙◌}
use Rattle.std.proofs.lemmas.Bool.{and_parts}
use Rattle.spl_sound_programs.specs.spl_sound_bodies.spl_tree.declared.expressions.Kind.{Kind}
use Rattle.spl_sound_programs.specs.spl_sound_bodies.spl_tree.StatementTrees.{statements}
use Rattle.spl_sound_programs.specs.spl_linked_names.hp_program.declared.program.Program.{Program}
use Rattle.spl_sound_programs.specs.spl_linked_names.spl_meaning.Names as n
use Rattle.spl_sound_programs.specs.spl_linked_names.spl_meaning.Names.{Names, Table, Profile, find, profile_of}
use Rattle.spl_sound_programs.specs.spl_linked_names.spl_meaning.Kinds.{result_width}
use Rattle.spl_sound_programs.specs.spl_linked_names.spl_meaning.Pending.{formals_words, result_words}
use Rattle.spl_sound_programs.specs.spl_linked_names.spl_meaning.References.{Here}
use Rattle.spl_sound_programs.specs.spl_linked_names.spl_meaning.Tables.{Source, Subroutine, unit_table, subroutine_named}
use Rattle.spl_sound_programs.specs.spl_linked_names.spl_meaning.Bodies.{Body, Named, subroutine_body, program_of, body_named}
use Rattle.spl_sound_programs.specs.spl_linked_names.spl_meaning.Laws.{IsFront}
use Rattle.spl_sound_programs.specs.spl_linked_names.spl_meaning.Runs.{run_statement}
use Rattle.spl_sound_programs.specs.spl_linked_names.spl_meaning.States.{State, Exit, to_label, back, Outcome}
use Rattle.spl_sound_programs.specs.spl_linked_names.spl_meaning.Values.{Who, procedure, subroutine, Callee}
use Rattle.spl_sound_programs.specs.spl_linked_names.spl_meaning.Faults.{Fault}
use Rattle.spl_sound_programs.specs.spl_linked_names.spl_meaning.Sound.{IsSound}
use Rattle.spl_sound_programs.specs.spl_linked_names.spl_meaning.ExpressionRules.{Scope}
use Rattle.spl_sound_programs.specs.spl_linked_names.spl_meaning.StatementRules.{repeated, all_labels, list_labels, statement_faults, statements_faults}
use Rattle.spl_sound_programs.specs.spl_linked_names.spl_meaning.DeclarationRules.{heading_faults, subroutine_scope}
use Rattle.spl_sound_programs.specs.spl_sound_bodies.spl_branch.declared.modules.Module.{Module}
use Rattle.spl_sound_programs.specs.spl_linked_names.spl_routes.spl_code.Parts.{Wanted}
use Rattle.spl_sound_programs.specs.spl_linked_names.spl_routes.spl_statement_code.Landings.{Landing}
use Rattle.spl_sound_programs.specs.spl_linked_names.spl_routes.spl_statement_code.Statements.{listed}
use Rattle.spl_sound_programs.specs.spl_linked_names.spl_routes.spl_follow.Doing.{Way}
use Rattle.spl_sound_programs.specs.spl_linked_names.spl_routes.hp_steady.Laws.{WordsAreNear}
use Rattle.spl_sound_programs.specs.spl_linked_names.spl_routes.Found.{Finds}
use Rattle.spl_sound_programs.specs.spl_linked_names.spl_routes.Laws.{EntriesFind, WantsFind, NamesMean}
use Rattle.spl_sound_programs.specs.spl_linked_names.spl_routes.Unique.{are_unique}
use Rattle.spl_sound_programs.specs.spl_linked_names.spl_routes.spl_routines.Among.{IsIn}
use Rattle.spl_sound_programs.specs.spl_linked_names.spl_routes.spl_routines.Located.{MadeOf, Located, sites_at, wants_at}
use Rattle.spl_sound_programs.specs.spl_linked_names.spl_routes.spl_routines.Routines.{labels_from}
use Rattle.spl_sound_programs.specs.spl_linked_names.spl_places.Programs.{Each}
use Rattle.spl_sound_programs.specs.spl_linked_names.Laws.{LinkedNamesAreUnique}
use Rattle.spl_sound_programs.specs.spl_linked_names.spl_callable.Callable.{is_among, may_call, are_alike, are_inner_alike, is_covered_body, is_covered_inner, are_covered_inners, is_covered_frame}
use Rattle.spl_sound_programs.proofs.spl_linked_names_proofs.spl_callable_proofs.ProfileLemmas.{sort_alike, inner_covered}
use Rattle.spl_sound_programs.proofs.spl_linked_names_proofs.spl_callable_proofs.LinkLemmas.{places_alike}
use Rattle.spl_sound_programs.proofs.spl_linked_names_proofs.spl_sound_headings_proofs.Units.{headings_alike}
use Rattle.spl_inners.specs.Inners.{FindsInner}
use Rattle.spl_inners.specs.Laws.{InnersFind}
use Rattle.spl_sound_programs.specs.spl_sound_bodies.spl_scopes.Entries.{Owner, Entry, module_entries, procedure_index, subroutine_index}
use Rattle.spl_sound_programs.specs.spl_sound_bodies.spl_scopes.Scopes.{Placed, first_reached, placed_units, unit_at, outer_body, body_segment}
use Rattle.spl_sound_programs.specs.spl_sound_bodies.spl_module_code.Bodies.{assigned_place, statements_scope, context_of}
use Rattle.spl_sound_programs.specs.spl_sound_bodies.spl_readings.Readings.{are_plain, BodiesReadAlike, StatementsReadAlike}
use Rattle.spl_sound_programs.specs.spl_sound_bodies.spl_ruled_bodies.Ruled.{IsRuledInner}
use Rattle.spl_sound_programs.proofs.spl_sound_bodies_proofs.Plain.{list_plain}
use Rattle.spl_sound_programs.specs.spl_seen.Grounds.{Grounds}
use Rattle.spl_sound_programs.proofs.spl_seen_proofs.Grounded.{inner_grounded}
use Rattle.spl_sound_programs.specs.Called.{procedure_names, subroutine_names}
use Rattle.spl_sound_programs.specs.Laws.{SoundProgramsAreCovered}
use Rattle.spl_sound_beginnings.specs.Laws.{SoundCodesBeginWell}
use Rattle.spl_sound_beginnings.specs.spl_piece_kinds.Laws.{CodesHaveKinds}
use Rattle.spl_linked_calls.specs.spl_linked_values.Linked.{is_linked, linked_of}
use Rattle.spl_linked_calls.specs.Laws.{CoveredListsAreLinked}
use Rattle.spl_linked_calls.specs.spl_safe_parts.spl_safe_effects.spl_stores.Covered.{are_covered}
use Rattle.spl_linked_calls.specs.spl_safe_parts.spl_safe_effects.spl_stores.spl_names.Names.{read_with}
use Rattle.spl_linked_calls.specs.spl_safe_parts.Laws.{CoveredPartsAreSafe}
use Rattle.spl_linked_calls.specs.spl_safe_parts.spl_safe_calls.Calls.{CallsAreSafe, IsReady, body_done, FrameIsReady}
use Rattle.spl_linked_calls.specs.spl_safe_parts.spl_safe_calls.spl_frames.Sizes.{ValuesHaveTheirWords}
use Rattle.spl_linked_calls.specs.spl_safe_parts.spl_safe_calls.spl_safe_statements.Laws.{BodiesAreSafe, ListsAreSafe}
use Rattle.spl_linked_calls.specs.spl_safe_parts.spl_safe_calls.spl_safe_statements.Safe.{Comes, Keeps, Any, Ways, AllPartsAreSafe}
use Rattle.spl_linked_calls.proofs.spl_safe_statements_proofs.Keeping.{keeps_ways}
use Rattle.spl_safe_programs.proofs.Wants.{never, some_same, wanted_in, place_in, all_in, front_passes}
use Rattle.spl_safe_programs.proofs.Names.{called_around, each_named}

-- ---- what all stands on

pub record Laws : Type 0 where
  pub covered : SoundProgramsAreCovered
  pub unique : LinkedNamesAreUnique
  pub kinds : CodesHaveKinds
  pub well : SoundCodesBeginWell
  pub entries : EntriesFind
  pub wants : WantsFind
  pub mean : NamesMean
  pub inners : InnersFind
  pub alike : BodiesReadAlike
  pub statements_alike : StatementsReadAlike
  pub lists : CoveredListsAreLinked
  pub parts : CoveredPartsAreSafe
  pub bodies : BodiesAreSafe
  pub statements : ListsAreSafe
  pub sizes : ValuesHaveTheirWords

-- ---- faults

left_none : {A : Type 0} (xs ys : List A) → xs ++ ys ≡ [] → xs ≡ []
left_none [] ys e = refl
left_none (x ∷ xs) ys e = cc

right_none : {A : Type 0} (xs ys : List A) → xs ++ ys ≡ [] → ys ≡ []
right_none [] ys e = e
right_none (x ∷ xs) ys e = cc

-- ---- ways out

-- where RETURN may stand or not, it may where nothing is said
more_ways : (r : Bool) (x : Exit) → Ways r [] x → Ways true [] x
more_ways r (to_label x) w = w
more_ways r back w = refl

-- outcomes that are the same
keeps_same : {f g : State → Outcome (Unit {0})} → ((s : State) → f s ≡ g s) → Keeps false false Any (Ways true []) g → Keeps false false Any (Ways true []) f
keeps_same {f = f} {g = g} same k = record { comes = λ s h. subst (λ (o : Outcome (Unit {0})). Comes false Any (Ways true []) o) (sym (same s)) (k.comes s h) }

-- an entry that is there
entry_there : (o : Option ℕ) → is_some o ≡ true → (e : ℕ) × (o ≡ Some e)
entry_there (Some e) is = (e, refl)
entry_there None is = never is

-- ---- a program of modules of sound units

module _ (laws : Laws) (us : List Source) (program : Program) (near : WordsAreNear program) (ms : List Module) (made : MadeOf us program ms)
    (sound : IsSound us) (unique : are_unique us ≡ true) where
  abbrev procedures : List Named
  procedures = (program_of us).procedures

  abbrev xs : List (List ℕ)
  xs = procedure_names us

  abbrev ys : List (List ℕ)
  ys = subroutine_names us

  -- a procedure of a name that a call finds
  pub record Known (x : List ℕ) : Type 0 where
    pub way : Way
    pub finds : Finds us program near ms way x
    pub among : is_among xs x ≡ true

  -- it is the one that the program means
  pub means : (x : List ℕ) (k : Known x) → body_named procedures x ≡ Some k.finds.named.body
  means x k =
      subst (λ (y : List ℕ). body_named procedures y ≡ Some k.finds.named.body) k.finds.name
      (laws.mean us unique k.finds.unit k.finds.among k.finds.number k.finds.named k.finds.there)

  -- ---- a main body or a procedure, where its code stands

  module _ (q : Placed) (there : IsIn q (placed_units (first_reached us) us)) (o : Owner) (b : Body) (its : outer_body q o ≡ Some b)
      (at : Located ms q (body_segment q.unit o)) where
    abbrev es : List Entry
    es = module_entries q.unit (body_segment q.unit o)

    -- what its module wants
    abbrev t : Wanted → Bool
    t = wanted_in (wants_at at)

    abbrev may_all : Who → Bool
    may_all = may_call xs ys (subroutine_index o es)

    -- whom it may call: of these, who is linked
    abbrev may : Who → Bool
    may = linked_of t (statements_scope es o b) may_all

    known : (x : List ℕ) → may (procedure x) ≡ true → Known x
    known x allowed = by (procedure_index es x) refl two.1
      where
        two : (may_all (procedure x) ≡ true) × (is_linked t (statements_scope es o b) (procedure x) ≡ true)
        two = and_parts (may_all (procedure x)) (is_linked t (statements_scope es o b) (procedure x)) allowed

        by : (e : Option ℕ) → procedure_index es x ≡ e → (is_some e || t (record { name = x; gate = false })) ≡ true → Known x
        by (Some e) is h = record { way = (sites_at at).ways false e; finds = laws.entries us program near ms made q there (body_segment q.unit o) at x e is; among = two.0 }
        by None is h =
            let w = place_in (wants_at at) (record { name = x; gate = false }) h in
            record { way = (sites_at at).ways true w.0; finds = laws.wants us program near ms made q (body_segment q.unit o) at x w.0 w.1; among = two.0 }

    -- the subroutine of an entry
    of_entry : (x : List ℕ) → may (subroutine x) ≡ true → (e : ℕ) × FindsInner program near at o b x e
    of_entry x allowed =
        let two = and_parts (may_all (subroutine x)) true allowed in
        let one = and_parts (is_among ys x) (is_some (subroutine_index o es x)) two.0 in
        let entry = entry_there (subroutine_index o es x) one.1 in
        (entry.0, laws.inners us program near ms made q there o b its at x entry.0 entry.1)

    -- ---- a body in its frame: itself, or a subroutine of it

    module _ (c : Body) (sc : Scope) (names : sc.names ≡ c.here.names) (returns : Bool) (labels : Table Landing) (leave marks : ℕ) (wants : List Wanted)
        (front : IsFront (listed (context_of es o c labels leave) c.statements 0 marks wants).wants (wants_at at))
        (covered : are_covered may_all returns (statements_scope es o c) c.here.results c.here.setting c.statements 0 ≡ true) where
      -- whom it may call does not depend on which of them it is
      may_at : (who : Who) → linked_of t (statements_scope es o c) may_all who ≡ may who
      may_at (procedure x) = refl
      may_at (subroutine x) = refl

      may_same : linked_of t (statements_scope es o c) may_all ≡ may
      may_same j who = may_at who j

      -- it is covered with calls of these alone
      fewer : are_covered may returns (statements_scope es o c) c.here.results c.here.setting c.statements 0 ≡ true
      fewer =
          subst (λ (m : Who → Bool). are_covered m returns (statements_scope es o c) c.here.results c.here.setting c.statements 0 ≡ true) may_same
          ((laws.lists t may_all returns (context_of es o c labels leave) c.here.results c.here.setting c.statements 0 covered).tells marks wants
          (front_passes t (listed (context_of es o c labels leave) c.statements 0 marks wants).wants (wants_at at) front (all_in (wants_at at))))

      abbrev read : Here
      read = read_with (statements_scope es o c) c.here.results c.here.setting

      parts : (call : Callee) (d : ℕ) → CallsAreSafe may c.here.names call → AllPartsAreSafe sc.names read call d c.statements 0
      parts call d calls =
          subst (λ (ns : Names). AllPartsAreSafe ns read call d c.statements 0) (sym names)
          (laws.parts may returns (statements_scope es o c) c.here.results c.here.setting call d c.statements 0 calls fewer)

      plain : (ls : List (List ℕ)) → statements_faults sc ls false c.statements ≡ [] → are_plain c.here.names c.statements ≡ true
      plain ls none = subst (λ (ns : Names). are_plain ns c.statements ≡ true) names (list_plain sc ls false c.statements none)

      -- as a body
      pub body_keeps : statements_faults sc (list_labels c.statements) false c.statements ≡ [] → (call : Callee) (d : ℕ) → CallsAreSafe may c.here.names call
          → Keeps false false Any (Ways true []) (λ s. body_done c call d s)
      body_keeps none call d calls =
          keeps_same
          (λ s. laws.alike c.here.names c.here.results c.here.setting c.here.places (assigned_place c) call d c.number c.statements s (places_alike c)
          (plain (list_labels c.statements) none))
          (keeps_ways (more_ways (not sc.is_main)) (laws.bodies sc read call d c.number c.statements none (parts call d calls)))

      -- as a subroutine's statement
      pub statement_keeps : statements_faults sc [] false c.statements ≡ [] → (call : Callee) (d : ℕ) → CallsAreSafe may c.here.names call
          → Keeps false false Any (Ways true []) (λ s. run_statement c call d s)
      statement_keeps none call d calls =
          keeps_same
          (λ s. laws.statements_alike c.here.names c.here.results c.here.setting c.here.places (assigned_place c) call d c.number c.statements 0 s (places_alike c)
          (plain [] none))
          (keeps_ways (more_ways (not sc.is_main)) (laws.statements sc read call d c.number [] false c.statements 0 none (parts call d calls)))

    -- ---- it is ready

    module _ (i : ℕ) (place : unit_at us i ≡ Some q) where
      ready : (c : Body) (what : Callee → ℕ → State → Outcome (Unit {0}))
          → ((x : List ℕ) (p : Profile) → c.here.names x ≡ Some (n.procedure p) → find (unit_table q.unit) x ≡ Some (n.procedure p))
          → ((x : List ℕ) (p : Profile) → c.here.names x ≡ Some (n.subroutine p) → (z : Subroutine) → subroutine_named b.subroutines x ≡ Some z → p ≡ profile_of z.heading)
          → ((call : Callee) (d : ℕ) → CallsAreSafe may c.here.names call → Keeps false false Any (Ways true []) (λ s. what call d s))
          → IsReady Known procedures may b c what
      ready c what theirs headed runs = record {
        known = λ x p named allowed. known x allowed;
        found = λ x p named allowed. ap is_some (means x (known x allowed));
        found_inner = λ x p named allowed. ap is_some (of_entry x allowed).1.means;
        alike = λ x p named d there'.
            ap (λ (k : Option Kind). result_width k)
            (sym (sort_alike (Some (n.procedure p)) d p refl (headings_alike us sound unique i q place x p (theirs x p named) d there')).result);
        alike_inner = λ x p named z there'. ap (λ (r : Profile). result_words r) (sym (headed x p named z there'));
        runs = runs;
      }

      module _ (sc : Scope) (g : Grounds (subroutine_index o es) b sc) (outside : b.here.setting.inside ≡ false)
          (theirs : (x : List ℕ) (p : Profile) → b.here.names x ≡ Some (n.procedure p) → find (unit_table q.unit) x ≡ Some (n.procedure p))
          (headed : (x : List ℕ) (p : Profile) → b.here.names x ≡ Some (n.subroutine p) → (z : Subroutine) → subroutine_named b.subroutines x ≡ Some z
          → p ≡ profile_of z.heading)
          (none : statements_faults sc (list_labels b.statements) false b.statements ≡ []) (ruled : Each (IsRuledInner sc) b.subroutines)
          (returns : Bool) (covered : is_covered_frame xs ys procedures es o returns b ≡ true)
          (labels : Table Landing) (leave marks : ℕ) (wants : List Wanted)
          (front : IsFront (listed (context_of es o b labels leave) b.statements 0 marks wants).wants (wants_at at)) where
        both : (is_covered_body xs ys procedures es o returns b ≡ true) × (are_covered_inners xs ys procedures es o b b.subroutines ≡ true)
        both = and_parts (is_covered_body xs ys procedures es o returns b) (are_covered_inners xs ys procedures es o b b.subroutines) covered

        -- the statements of a body that is covered are
        statements_covered : (r : Bool) (c : Body) → is_covered_body xs ys procedures es o r c ≡ true
            → are_covered may_all r (statements_scope es o c) c.here.results c.here.setting c.statements 0 ≡ true
        statements_covered r c e =
            (and_parts (are_alike xs procedures c.here.names && are_inner_alike ys c.subroutines c.here.names)
            (are_covered may_all r (statements_scope es o c) c.here.results c.here.setting c.statements 0) e).1

        own : IsReady Known procedures may b b (body_done b)
        own =
            ready b (body_done b) theirs headed
            (body_keeps b sc g.names returns labels leave marks wants front (statements_covered returns b both.0) none)

        module _ (x : List ℕ) (allowed : may (subroutine x) ≡ true) where
          abbrev k : FindsInner program near at o b x (of_entry x allowed).0
          k = (of_entry x allowed).1

          abbrev z : Subroutine
          z = k.inner

          abbrev inner : Body
          inner = subroutine_body b z

          among : is_among ys x ≡ true
          among = (and_parts (is_among ys x) (is_some (subroutine_index o es x)) (and_parts (may_all (subroutine x)) true allowed).0).0

          inner_tested : is_covered_inner xs ys procedures es o b z ≡ true
          inner_tested = inner_covered ys (λ s. is_covered_inner xs ys procedures es o b s) b.subroutines x z both.1 k.means among

          inner_body : is_covered_body xs ys procedures es o true inner ≡ true
          inner_body =
              (and_parts (are_plain inner.here.names inner.statements) (is_covered_body xs ys procedures es o true inner)
              (and_parts (nat_lt (formals_words (profile_of z.heading).formals) 256)
              (are_plain inner.here.names inner.statements && is_covered_body xs ys procedures es o true inner) inner_tested).1).1

          rule : IsRuledInner sc z
          rule = each_named (IsRuledInner sc) b.subroutines ruled x z k.means

          abbrev inner_scope : Scope
          inner_scope = subroutine_scope sc z.heading

          rules : heading_faults sc.split z.heading ++ statement_faults inner_scope [] false z.statement ≡ []
          rules = left_none (heading_faults sc.split z.heading ++ statement_faults inner_scope [] false z.statement) (repeated 20 [] (all_labels z.statement)) rule.none

          statement_none : statements_faults inner_scope [] false inner.statements ≡ []
          statement_none = ap (λ (l : List Fault). l ++ []) (right_none (heading_faults sc.split z.heading) (statement_faults inner_scope [] false z.statement) rules)

          inner_names : inner_scope.names ≡ inner.here.names
          inner_names =
              (inner_grounded (subroutine_index o es) b sc z g outside
              (left_none (heading_faults sc.split z.heading) (statement_faults inner_scope [] false z.statement) rules)).names

          inner_ready : IsReady Known procedures may b inner (run_statement inner)
          inner_ready =
              ready inner (run_statement inner) (λ y p named. theirs y p (called_around b.here.names z y (n.procedure p) refl named))
              (λ y p named. headed y p (called_around b.here.names z y (n.subroutine p) refl named))
              (statement_keeps inner inner_scope inner_names true (labels_from k.stands.labels inner) k.stands.out k.stands.marks k.stands.wants k.stands.front
              (statements_covered true inner inner_body) statement_none)

        pub frame_ready : FrameIsReady Known procedures b
        frame_ready = record {
          may = may;
          own = own;
          inners = λ x z there' named.
              subst (λ (s : Subroutine). IsReady Known procedures may b (subroutine_body b s) (run_statement (subroutine_body b s)))
              (some_same (of_entry x there').1.inner z (sym (of_entry x there').1.means ∙ named)) (inner_ready x there');
        }
