-- Where procedures and subroutines stand that may be called, and that calls of them are followed.
-- 1. what calls of procedures find                          (finds)
-- 2. what calls of a body's subroutines find                (within)
-- 3. where a subroutine stands                              (inner_stood, inners_stand)
-- 4. where a procedure stands with its subroutines          (stood)
use Rattle.std.proofs.Common.{◌≡◌, ℕ, ◌+◌, ◌≤◌, ◌<◌, ◌&&◌, Bool, true, false, List, [], ◌∷◌, Option, Some, None, refl, sym, ap, subst, ◌∙◌, arith}
use Rattle.std.specs.Prelude.{nat_lt, is_some, unwrap_or, option_map}
use Rattle.std.specs.List.{list_all}
use Rattle.std.proofs.lemmas.Bool.{and_parts, false≢true, ltb-true}
use Rattle.spl_mains.specs.hp_program.declared.program.Program.{Program}
use Rattle.spl_callees.specs.hp_steady.Laws.{WordsAreNear}
use Rattle.spl_mains.specs.spl_meaning.Bodies.{Body, Named, program_of, body_named, subroutine_body}
use Rattle.spl_mains.specs.spl_meaning.Names as n
use Rattle.spl_mains.specs.spl_meaning.Names.{Profile, profile_of}
use Rattle.spl_mains.specs.spl_meaning.Pending.{formals_words, depth}
use Rattle.spl_mains.specs.spl_meaning.References.{Setting}
use Rattle.spl_mains.specs.spl_meaning.StatementRules.{list_labels}
use Rattle.spl_mains.specs.spl_meaning.States.{Outcome}
use Rattle.spl_mains.specs.spl_meaning.Tables.{Source, routines_of, Subroutine, subroutine_named}
use Rattle.spl_mains.specs.spl_meaning.Values.{Who, procedure, subroutine, Callee}
use Rattle.spl_readings.specs.spl_branch.declared.modules.Module.{Module}
use Rattle.spl_mains.specs.spl_code.Calls.{Scope}
use Rattle.spl_readings.specs.spl_statement_code.Landings.{Landing, Context}
use Rattle.spl_readings.specs.spl_scopes.Entries.{Owner, routine, Entry, module_entries, procedure_index, subroutine_index}
use Rattle.spl_readings.specs.spl_scopes.Scopes.{Placed, first_reached, placed_units, routine_bodies, outer_body, body_segment, global_places}
use Rattle.spl_readings.specs.spl_module_code.Bodies.{assigned_place, statements_scope}
use Rattle.spl_mains.specs.spl_carries.Carries.{weight}
use Rattle.spl_mains.specs.spl_follow.Calling.{Link}
use Rattle.spl_mains.specs.spl_follow.Doing.{body}
use Rattle.spl_mains.specs.spl_follow.Following.{Rate, tally, Follows}
use Rattle.spl_mains.specs.spl_follow.Parts.{Exits, Completes, Returning}
use Rattle.spl_mains.specs.spl_follow.Simulating.{Surroundings}
use Rattle.spl_mains.specs.spl_follow.Spots.{Spot, on, Ground}
use Rattle.spl_mains.specs.spl_follow.Standing.{Stands}
use Rattle.spl_inners.specs.spl_sites.Grounds.{ground_of}
use Rattle.spl_mains.specs.spl_jumps.Landed.{are_landed, MayJump}
use Rattle.spl_callees.specs.spl_links.Links.{links_of, MayCall}
use Rattle.spl_readings.specs.Readings.{are_plain, BodiesReadAlike, StatementsReadAlike}
use Rattle.spl_mains.specs.Laws.{are_covered, MayReturn, CoveredBodiesFollow, CoveredInnersFollow}
-- (main bodies are followed by these)
pub use Rattle.spl_mains.proofs.MainLemmas.{bodies_follow, list_clear}
use Rattle.spl_readings.specs.spl_body_code.Frames.{granted}
use Rattle.spl_callees.specs.spl_procedures.Procedures.{ProcedureFramed, ProcedureStatementsFollow}
use Rattle.spl_callees.specs.spl_procedures.Laws.{RoutinesAreProcedures}
use Rattle.spl_callees.specs.spl_subroutines.Subroutines.{SubroutineFramed, SubroutineStatementsFollow}
use Rattle.spl_callees.specs.spl_subroutines.Laws.{SubroutinesAreCalled, SubroutineBodiesAreSubroutines}
use Rattle.spl_callees.specs.spl_cells.Laws.{SettableProceduresAreCalled}
use Rattle.spl_callees.specs.spl_cells.Settable.{are_settable}
use Rattle.spl_callees.specs.Callees.{surrounded, CallsAlike, profile_of_body, profile_within, Finds, InFrame, FindsWithin, SubroutineStood, Within, StoodWithin}
use Rattle.spl_callees.proofs.CalleeLemmas.{calls_follow_within}
use Rattle.spl_inners.specs.spl_routines.Among.{IsIn}
use Rattle.spl_inners.specs.spl_routines.Located.{MadeOf, Located, sites_at, wants_at}
use Rattle.spl_inners.specs.spl_routines.Laws.{GatesAreServed}
use Rattle.spl_inners.specs.spl_routines.Routines.{routine_context}
use Rattle.spl_inners.proofs.spl_routines_proofs.ListLemmas.{in_all}
use Rattle.spl_inners.specs.spl_routes.Found as route
use Rattle.spl_inners.specs.spl_routes.Laws.{NamesMean}
use Rattle.spl_inners.specs.spl_routes.Unique.{are_unique}
use Rattle.spl_link_routes.specs.Laws.{LinksFind}
use Rattle.spl_inners.specs.Inners.{inner_context, FindsInner}
use Rattle.spl_inners.specs.Laws.{InnersFind, InnersLand}
use Rattle.spl_inners.specs.spl_sound_jumps.Laws.{LandsInRoutines, LandsInInners}
use Rattle.spl_callable.specs.Callable.{is_among, may_call, is_alike, are_alike, is_inner_alike, are_inner_alike, is_covered_body, is_covered_inner, are_covered_inners, is_covered_frame, is_covered_procedure, are_covered_procedures, are_callable, most_words}
use Rattle.spl_callable.specs.Laws.{CallablesFollow}
use Rattle.spl_callable.proofs.ProfileLemmas.{sort_alike, inner_alike, among_all, inner_covered, procedure_covered, procedure_known, procedure_lands, procedure_depth, words_most}
use Rattle.spl_callable.proofs.LinkLemmas.{is_linked, IsInnerLinked, is_inner_linked, places_alike, results_agree, body_same, landing_at, way_out}

-- ---- tests

-- what is tested of a body
record IsCovered (xs ys : List (List ℕ)) (procedures : List Named) (es : List Entry) (o : Owner) (returns : Bool) (b : Body) : Type 0 where
  heads : are_alike xs procedures b.here.names ≡ true
  inner_heads : are_inner_alike ys b.subroutines b.here.names ≡ true
  statements : are_covered (may_call xs ys (subroutine_index o es)) returns (statements_scope es o b) b.here.results b.here.setting b.statements 0 ≡ true

is_covered : (xs ys : List (List ℕ)) (procedures : List Named) (es : List Entry) (o : Owner) (returns : Bool) (b : Body)
    → is_covered_body xs ys procedures es o returns b ≡ true → IsCovered xs ys procedures es o returns b
is_covered xs ys procedures es o returns b e =
    let alike = are_alike xs procedures b.here.names && are_inner_alike ys b.subroutines b.here.names in
    let two = and_parts alike
    (are_covered (may_call xs ys (subroutine_index o es)) returns (statements_scope es o b) b.here.results b.here.setting b.statements 0) e in
    let both = and_parts (are_alike xs procedures b.here.names) (are_inner_alike ys b.subroutines b.here.names) two.0 in
    record { heads = both.0; inner_heads = both.1; statements = two.1 }

-- and with its subroutines
record IsFramed (xs ys : List (List ℕ)) (procedures : List Named) (es : List Entry) (o : Owner) (returns : Bool) (b : Body) : Type 0 where
  body' : IsCovered xs ys procedures es o returns b
  inners : are_covered_inners xs ys procedures es o b b.subroutines ≡ true

is_framed : (xs ys : List (List ℕ)) (procedures : List Named) (es : List Entry) (o : Owner) (returns : Bool) (b : Body)
    → is_covered_frame xs ys procedures es o returns b ≡ true → IsFramed xs ys procedures es o returns b
is_framed xs ys procedures es o returns b e =
    let two = and_parts (is_covered_body xs ys procedures es o returns b) (are_covered_inners xs ys procedures es o b b.subroutines) e in
    record { body' = is_covered xs ys procedures es o returns b two.0; inners = two.1 }

-- so each statement is covered
pub frame_statements : (xs ys : List (List ℕ)) (procedures : List Named) (es : List Entry) (o : Owner) (returns : Bool) (b : Body)
    → is_covered_frame xs ys procedures es o returns b ≡ true
    → are_covered (may_call xs ys (subroutine_index o es)) returns (statements_scope es o b) b.here.results b.here.setting b.statements 0 ≡ true
frame_statements xs ys procedures es o returns b e = (is_framed xs ys procedures es o returns b e).body'.statements

-- an entry that is there
entry_there : (o : Option ℕ) → is_some o ≡ true → (e : ℕ) × (o ≡ Some e)
entry_there (Some e) is = (e, refl)
entry_there None is = absurd (false≢true is)

-- ---- the laws that calls stand on

pub record Laws : Type 0 where
  pub called : SettableProceduresAreCalled
  pub inside : SubroutinesAreCalled
  pub links : LinksFind
  pub inners : InnersFind
  pub bodies : CoveredBodiesFollow
  pub alone : CoveredInnersFollow
  pub routines : RoutinesAreProcedures
  pub subroutines : SubroutineBodiesAreSubroutines
  pub alike : BodiesReadAlike
  pub statements_alike : StatementsReadAlike
  pub land : InnersLand
  pub mean : NamesMean
  pub served : GatesAreServed

module _ (laws : Laws) (us : List Source) (p : Program) (near : WordsAreNear p) (ms : List Module) (f : MadeOf us p ms)
    (lands : (q : Placed) → IsIn q (placed_units (first_reached us) us) → LandsInRoutines q.unit)
    (inners_land : (q : Placed) → IsIn q (placed_units (first_reached us) us) → LandsInInners q.unit) (xs ys : List (List ℕ))
    (callable : are_callable xs ys us ≡ true) (rate : Rate) (steps : rate.step ≡ weight p) (reaches : most_words (program_of us).procedures + 8 ≤ rate.reach) where
  abbrev procedures : List Named
  procedures = (program_of us).procedures

  abbrev ground : Ground
  ground = ground_of p near ms

  -- where a procedure of a name is entered
  abbrev Known : List ℕ → Spot → Type 0
  Known x start = route.Finds us p near ms (body start) x

  -- those of these names are covered, and no two procedures have one name, where there are such names
  record IsCallable : Type 0 where
    unique : are_unique us ≡ true
    covered : (q : Placed) → IsIn q (placed_units (first_reached us) us) → are_covered_procedures xs ys procedures q 0 (routine_bodies q) ≡ true

  is_callable : (x : List ℕ) → is_among xs x ≡ true → IsCallable
  is_callable x among = let two = by xs callable among in record { unique = two.0; covered = two.1 } where
    by : (zs : List (List ℕ)) → are_callable zs ys us ≡ true → is_among zs x ≡ true
        → (are_unique us ≡ true) × ((q : Placed) → IsIn q (placed_units (first_reached us) us) → are_covered_procedures zs ys procedures q 0 (routine_bodies q) ≡ true)
    by [] e h = absurd (false≢true h)
    by (z ∷ zs) e h =
        let two = and_parts (are_unique us)
        (list_all (λ q. are_covered_procedures (z ∷ zs) ys procedures q 0 (routine_bodies q)) (placed_units (first_reached us) us)) e in
        (two.0, λ q there. in_all (λ r. are_covered_procedures (z ∷ zs) ys procedures r 0 (routine_bodies r)) q (placed_units (first_reached us) us) there two.1)

  -- ---- 1. what calls of procedures find

  module _ (q : Placed) (there : IsIn q (placed_units (first_reached us) us)) (g : ℕ) (at : Located ms q g) (c : Scope)
      (own : c.procedures ≡ procedure_index (module_entries q.unit g)) (heads : are_alike xs procedures c.names ≡ true) (has : List ℕ → Option ℕ) where
    abbrev may : Who → Bool
    may = may_call xs ys has

    found : (x : List ℕ) (k : Link) → links_of may c (wants_at at) (procedure x) ≡ Some k → route.Finds us p near ms ((sites_at at).ways k.wanted k.index) x
    found x k is = let l = is_linked may c (wants_at at) x k is in laws.links us p near ms f q there g at c own x l.profile k l.linked

    entry : (x : List ℕ) (k : Link) → links_of may c (wants_at at) (procedure x) ≡ Some k → Spot
    entry x k is = let r = found x k is in (sites_at r.at).marks r.stands.entry

    known : (x : List ℕ) (k : Link) (is : links_of may c (wants_at at) (procedure x) ≡ Some k) → Known x (entry x k is)
    unfolding entry
    known x k is =
        let r = found x k is in
        record {
          unit = r.unit;
          among = r.among;
          number = r.number;
          named = r.named;
          there = r.there;
          name = r.name;
          at = r.at;
          stands = r.stands;
          leads = refl;
        }

    leads : (x : List ℕ) (k : Link) (is : links_of may c (wants_at at) (procedure x) ≡ Some k) → (sites_at at).ways k.wanted k.index ≡ body (entry x k is)
    unfolding entry
    leads x k is = (found x k is).leads

    profiles : (x : List ℕ) (k : Link) → links_of may c (wants_at at) (procedure x) ≡ Some k → CallsAlike k.profile (profile_of_body (body_named procedures x))
    profiles x k is =
        let l = is_linked may c (wants_at at) x k is in
        let r = found x k is in
        let means : body_named procedures x ≡ Some r.named.body =
        subst (λ (y : List ℕ). body_named procedures y ≡ Some r.named.body) r.name
        (laws.mean us (is_callable x l.allowed).unique r.unit r.among r.number r.named r.there) in
        let alike = among_all (λ y. is_alike (c.names y) (body_named procedures y)) xs x l.allowed heads in
        subst (λ (h : Profile). CallsAlike h (profile_of_body (body_named procedures x))) (sym l.own)
        (subst (λ (b : Option Body). CallsAlike l.profile (profile_of_body b)) (sym means)
        (sort_alike (c.names x) r.named.body l.profile l.stands (sym (ap (λ (b : Option Body). is_alike (c.names x) b) means) ∙ alike)))

    finds : Finds may Known procedures c (sites_at at) (wants_at at)
    finds = record {
      gates = laws.served us p ms f q g at;
      entry = λ x k is. entry x k is;
      known = λ x k is. known x k is;
      leads = λ x k is. leads x k is;
      by = λ x k is. (is_linked may c (wants_at at) x k is).by;
      profiles = λ x k is. profiles x k is;
    }

  -- ---- a body and its subroutines

  module _ (q : Placed) (there : IsIn q (placed_units (first_reached us) us)) (o : Owner) (b : Body) (its : outer_body q o ≡ Some b)
      (at : Located ms q (body_segment q.unit o)) where
    abbrev es : List Entry
    es = module_entries q.unit (body_segment q.unit o)

    -- whom it may call
    abbrev own : Who → Bool
    own = may_call xs ys (subroutine_index o es)

    -- where a subroutine of a name is entered
    abbrev entered : List ℕ → Spot
    entered x = (sites_at at).marks (unwrap_or (subroutine_index o es x) 0)

    -- the subroutine of an entry
    of_entry : (x : List ℕ) (e : ℕ) → subroutine_index o es x ≡ Some e → FindsInner p near at o b x e
    of_entry x e is = laws.inners us p near ms f q there o b its at x e is

    entered_is : (x : List ℕ) (e : ℕ) (is : subroutine_index o es x ≡ Some e) → (sites_at at).marks (of_entry x e is).stands.entry ≡ entered x
    entered_is x e is = ap (λ (k : ℕ). (sites_at at).marks k) ((of_entry x e is).number ∙ sym (ap (λ (i : Option ℕ). unwrap_or i 0) is))

    -- ---- 2. what calls of its subroutines find

    module _ (c : Scope) (same : c.subroutines ≡ subroutine_index o es) (heads : are_inner_alike ys b.subroutines c.names ≡ true) where
      has_entry : (x : List ℕ) (p : Profile) → own (subroutine x) ≡ true → c.names x ≡ Some (n.subroutine p) → is_some (c.subroutines x) ≡ true
      has_entry x p may is =
          ap (λ (h : List ℕ → Option ℕ). is_some (h x)) same ∙ (and_parts (is_among ys x) (is_some (subroutine_index o es x)) may).1

      -- its link is by its entry
      linked_entry : (x : List ℕ) (k : Link) (l : IsInnerLinked own c x k) → subroutine_index o es x ≡ Some l.entry
      linked_entry x k l = ap (λ (h : List ℕ → Option ℕ). h x) (sym same) ∙ l.found

      inner_leads : (x : List ℕ) (k : Link) → links_of own c (wants_at at) (subroutine x) ≡ Some k → (sites_at at).ways k.wanted k.index ≡ body (entered x)
      inner_leads x k is =
          let l = is_inner_linked own c (wants_at at) x k is in
          let e = linked_entry x k l in
          ap (λ (w : Bool). (sites_at at).ways w k.index) l.wanted ∙ ap (λ (j : ℕ). (sites_at at).ways false j) l.index
          ∙ (of_entry x l.entry e).leads ∙ ap (λ (s : Spot). body s) (entered_is x l.entry e)

      inner_profiles : (x : List ℕ) (k : Link) → links_of own c (wants_at at) (subroutine x) ≡ Some k
          → CallsAlike k.profile (profile_within (subroutine_named b.subroutines x))
      inner_profiles x k is =
          let l = is_inner_linked own c (wants_at at) x k is in
          let r = of_entry x l.entry (linked_entry x k l) in
          let among = (and_parts (is_among ys x) (is_some (subroutine_index o es x)) l.allowed).0 in
          let alike = among_all (λ y. is_inner_alike (c.names y) (subroutine_named b.subroutines y)) ys x among heads in
          subst (λ (h : Profile). CallsAlike h (profile_within (subroutine_named b.subroutines x))) (sym l.own)
          (subst (λ (s : Option Subroutine). CallsAlike l.profile (profile_within s)) (sym r.means)
          (inner_alike (c.names x) r.inner l.profile l.stands (ap (λ (s : Option Subroutine). is_inner_alike (c.names x) s) (sym r.means) ∙ alike)))

      within : (st : Setting) → InFrame st b.here.setting → FindsWithin own entered b c (sites_at at) (wants_at at) st
      within st frame = record {
        entries = λ x p may is. has_entry x p may is;
        leads = λ x k is. inner_leads x k is;
        profiles = λ x k is. inner_profiles x k is;
        frame = λ x may. frame;
      }

    -- ---- 3. where its subroutines stand

    module _ (inners : are_covered_inners xs ys procedures es o b b.subroutines ≡ true) (x : List ℕ) (may : own (subroutine x) ≡ true) where
      may_both : (is_among ys x ≡ true) × (is_some (subroutine_index o es x) ≡ true)
      may_both = and_parts (is_among ys x) (is_some (subroutine_index o es x)) may

      abbrev index : (e : ℕ) × (subroutine_index o es x ≡ Some e)
      index = entry_there (subroutine_index o es x) may_both.1

      abbrev k : FindsInner p near at o b x index.0
      k = of_entry x index.0 index.1

      abbrev inner : Body
      inner = subroutine_body b k.inner

      abbrev context : Context
      context = inner_context es o inner k.stands.labels k.stands.out

      abbrev exits : Exits
      exits = record { target = way_out context.landings (sites_at at).marks k.stands.leave; held = λ e. 0 }

      abbrev around : Surroundings
      around = surrounded ground rate (sites_at at) (wants_at at) inner.here.setting exits

      tested : is_covered_inner xs ys procedures es o b k.inner ≡ true
      tested = inner_covered ys (λ s. is_covered_inner xs ys procedures es o b s) b.subroutines x k.inner inners k.means may_both.0

      both : (nat_lt (formals_words (profile_of k.inner.heading).formals) 256 ≡ true)
          × ((are_plain inner.here.names inner.statements && is_covered_body xs ys procedures es o true inner) ≡ true)
      both =
          and_parts (nat_lt (formals_words (profile_of k.inner.heading).formals) 256)
          (are_plain inner.here.names inner.statements && is_covered_body xs ys procedures es o true inner) tested

      plain_covered : (are_plain inner.here.names inner.statements ≡ true) × (is_covered_body xs ys procedures es o true inner ≡ true)
      plain_covered = and_parts (are_plain inner.here.names inner.statements) (is_covered_body xs ys procedures es o true inner) both.1

      covered : IsCovered xs ys procedures es o true inner
      covered = is_covered xs ys procedures es o true inner plain_covered.1

      framed : SubroutineFramed ground rate (sites_at at) inner (entered x) k.stands.first k.stands.leave k.stands.end
      framed = record {
        entered = subst (λ (s : Spot). Stands ground (sites_at at) (on s) (granted inner.depth') k.stands.first) (entered_is x index.0 index.1) k.stands.enters;
        left = k.stands.leaves;
        whole = refl;
        beside = sym (ap (λ (s : Spot). s.seg) k.stands.left);
        near = let far = k.stands.far in omega (arith, far, steps);
        order = k.stands.rises;
      }

      -- its jumps and RETURN lead where they do
      jumps : MayJump context.landings around [] 0
      jumps = record {
        marks = λ y l e. sym (ap (λ (i : Option Landing). landing_at (sites_at at).marks k.stands.leave i) e);
        held = λ y l e named. absurd (false≢true e);
        few = λ y l e named. absurd (false≢true e);
      }

      returns : true ≡ true → MayReturn context.leave around
      returns e = record { leads = k.stands.left; held = refl }

      -- its statement is followed, where calls in it are
      follows : (call : Callee) (d : ℕ) → MayCall own context.scope around d call → SubroutineStatementsFollow ground rate inner call d k.stands.first k.stands.leave
      follows call d calls s m begins =
          let falls = k.stands.falls in
          let far = k.stands.far in
          subst (λ (i : Outcome (Unit {0})). Follows ground rate 0 3 0 (tally s) m (Completes inner.here.setting k.stands.leave 0 s.now m)
          (Returning inner.here.setting k.stands.leave 0 s.now m) i)
          (sym (laws.statements_alike inner.here.names inner.here.results inner.here.setting inner.here.places (assigned_place inner) call d inner.number
          inner.statements 0 s (places_alike inner) plain_covered.0))
          (laws.alone own true context inner.here.results around call d inner.number inner.depth' k.inner.statement k.stands.first k.stands.leave k.stands.marks
          k.stands.wants refl returns (omega arith) covered.statements k.stands.runs k.stands.front (omega (arith, falls, far, steps)) calls
          (results_agree es o inner) jumps (laws.land q (inners_land q there) o b its x k.inner k.means k.stands.labels) s m begins)

      inner_stood : SubroutineStood ground rate own Known procedures b entered x
      inner_stood = record {
        its = k.inner;
        is = k.means;
        scope = context.scope;
        sites = sites_at at;
        wants = wants_at at;
        exits = exits;
        finds = finds q there (body_segment q.unit o) at context.scope refl covered.heads (subroutine_index o es);
        within = within context.scope refl covered.inner_heads inner.here.setting (record { split = refl; below = refl });
        first = k.stands.first;
        leave = k.stands.leave;
        end = k.stands.end;
        framed = framed;
        what = laws.subroutines b k.inner (ltb-true (formals_words (profile_of k.inner.heading).formals) 256 both.0);
        follows = follows;
      }

    inners_stand : are_covered_inners xs ys procedures es o b b.subroutines ≡ true → Within ground rate own Known procedures b
    inners_stand inners = record { entered = entered; stood = λ x may. inner_stood inners x may }

  -- ---- 4. where a procedure stands

  module _ (x : List ℕ) (start : Spot) (among : is_among xs x ≡ true) (k : Known x start) where
    abbrev its_entries : List Entry
    its_entries = module_entries k.unit.unit (body_segment k.unit.unit (routine k.number))

    abbrev its_body : Body
    its_body = k.named.body

    abbrev its_context : Context
    its_context = routine_context its_entries k.number its_body k.stands.labels k.stands.out

    abbrev its_exits : Exits
    its_exits = record { target = way_out its_context.landings (sites_at k.at).marks k.stands.leave; held = λ e. 0 }

    abbrev its_own : Who → Bool
    its_own = may_call xs ys (subroutine_index (routine k.number) its_entries)

    abbrev its_around : Surroundings
    its_around = surrounded ground rate (sites_at k.at) (wants_at k.at) its_body.here.setting its_exits

    named_among : is_among xs k.named.name ≡ true
    named_among = ap (λ (y : List ℕ). is_among xs y) k.name ∙ among

    procedure_tested : is_covered_procedure xs ys procedures its_entries k.number its_body ≡ true
    procedure_tested =
        let none : 0 + k.number ≡ k.number = omega arith in
        subst (λ (j : ℕ). is_covered_procedure xs ys procedures (module_entries k.unit.unit (body_segment k.unit.unit (routine j))) j its_body ≡ true) none
        (procedure_covered xs ys procedures k.unit 0 (routine_bodies k.unit) k.number k.named ((is_callable x among).covered k.unit k.among) k.there named_among)

    procedure_both : ((are_settable its_body && nat_lt (formals_words its_body.profile.formals) 256) ≡ true)
        × ((are_plain its_body.here.names its_body.statements && is_covered_frame xs ys procedures its_entries (routine k.number) true its_body) ≡ true)
    procedure_both =
        and_parts (are_settable its_body && nat_lt (formals_words its_body.profile.formals) 256)
        (are_plain its_body.here.names its_body.statements && is_covered_frame xs ys procedures its_entries (routine k.number) true its_body) procedure_tested

    body_covered : (are_plain its_body.here.names its_body.statements ≡ true)
        × (is_covered_frame xs ys procedures its_entries (routine k.number) true its_body ≡ true)
    body_covered =
        and_parts (are_plain its_body.here.names its_body.statements) (is_covered_frame xs ys procedures its_entries (routine k.number) true its_body) procedure_both.1

    frame : IsFramed xs ys procedures its_entries (routine k.number) true its_body
    frame = is_framed xs ys procedures its_entries (routine k.number) true its_body body_covered.1

    few : formals_words its_body.profile.formals < 256
    few =
        ltb-true (formals_words its_body.profile.formals) 256
        (and_parts (are_settable its_body) (nat_lt (formals_words its_body.profile.formals) 256) procedure_both.0).1

    is : body_named procedures x ≡ Some its_body
    is =
        subst (λ (y : List ℕ). body_named procedures y ≡ Some its_body) k.name
        (laws.mean us (is_callable x among).unique k.unit k.among k.number k.named k.there)

    -- it is the body of its number
    outer : outer_body k.unit (routine k.number) ≡ Some its_body
    outer = ap (λ (i : Option Named). option_map (λ y. y.body) i) k.there

    start_is : (sites_at k.at).marks k.stands.entry ≡ start
    start_is = sym (body_same start ((sites_at k.at).marks k.stands.entry) k.leads)

    procedure_framed : ProcedureFramed ground rate (sites_at k.at) its_body start k.stands.first k.stands.leave k.stands.end
    procedure_framed =
        let most = words_most procedures x its_body is in
        subst (λ (q : Spot). ProcedureFramed ground rate (sites_at k.at) its_body q k.stands.first k.stands.leave k.stands.end) start_is
        (record {
          entered = k.stands.enters;
          left = k.stands.leaves;
          whole = refl;
          near = let far = k.stands.far in omega (arith, far, steps);
          order = k.stands.rises;
          reach = omega (arith, most, reaches);
        })

    -- its jumps and RETURN lead where they do
    procedure_jumps : MayJump its_context.landings its_around [] 0
    procedure_jumps = record {
      marks = λ y l e. sym (ap (λ (i : Option Landing). landing_at (sites_at k.at).marks k.stands.leave i) e);
      held = λ y l e named. absurd (false≢true e);
      few = λ y l e named. absurd (false≢true e);
    }

    procedure_returns : true ≡ true → MayReturn its_context.leave its_around
    procedure_returns e = record { leads = k.stands.left; held = refl }

    -- its labels and jumps lead somewhere, and its room is its depth
    landed : are_landed its_context.landings (list_labels its_body.statements) its_body.statements 0 ≡ true
    landed =
        procedure_lands (global_places k.unit) k.unit.at.own k.unit.at.own_arrays (routines_of k.unit.unit) k.number k.named k.there
        (lands k.unit k.among) k.stands.labels

    deep : its_body.depth' ≡ depth its_body.here.names its_body.statements
    deep = procedure_depth (global_places k.unit) k.unit.at.own k.unit.at.own_arrays (routines_of k.unit.unit) k.number k.named k.there

    -- its statements are followed, where calls in them are
    procedure_follows : (call : Callee) (d : ℕ) → MayCall its_own its_context.scope its_around d call
        → ProcedureStatementsFollow ground rate its_body call d k.stands.first k.stands.leave
    procedure_follows call d may s m begins =
        let falls = k.stands.falls in
        let far = k.stands.far in
        subst (λ (i : Outcome (Unit {0})). Follows ground rate 0 3 0 (tally s) m (Completes its_body.here.setting k.stands.leave 0 s.now m)
        (Returning its_body.here.setting k.stands.leave 0 s.now m) i)
        (sym (laws.alike its_body.here.names its_body.here.results its_body.here.setting its_body.here.places (assigned_place its_body) call d its_body.number
        its_body.statements s (places_alike its_body) body_covered.0))
        (laws.bodies its_own true its_context its_body.here.results its_around call d its_body.number its_body.depth' its_body.statements k.stands.first
        k.stands.leave k.stands.marks k.stands.wants refl procedure_returns (let room = deep in omega (arith, room)) frame.body'.statements k.stands.runs
        k.stands.front (omega (arith, falls, far, steps)) may (results_agree its_entries (routine k.number) its_body) procedure_jumps landed s m begins)

    stood : StoodWithin ground rate (may_call xs ys (λ y. None)) Known procedures x start
    unfolding inners_stand
    stood = record {
      its = its_body;
      is = is;
      own = its_own;
      among = λ y e. e;
      inner = inners_stand k.unit k.among (routine k.number) its_body outer k.at frame.inners;
      scope = its_context.scope;
      sites = sites_at k.at;
      wants = wants_at k.at;
      exits = its_exits;
      finds = finds k.unit k.among (body_segment k.unit.unit (routine k.number)) k.at its_context.scope refl frame.body'.heads
          (subroutine_index (routine k.number) its_entries);
      within = within k.unit k.among (routine k.number) its_body outer k.at its_context.scope refl frame.body'.inner_heads its_body.here.setting
          (record { split = refl; below = refl });
      first = k.stands.first;
      leave = k.stands.leave;
      end = k.stands.end;
      framed = procedure_framed;
      what = procedure_known laws.routines (global_places k.unit) k.unit.at.own k.unit.at.own_arrays (routines_of k.unit.unit) k.number k.named k.there few;
      settable = (and_parts (are_settable its_body) (nat_lt (formals_words its_body.profile.formals) 256) procedure_both.0).0;
      follows = procedure_follows;
    }

pub callables : Laws → CallablesFollow
unfolding inners_stand
callables laws us p near ms f lands inners_land xs ys callable w steps reaches q there o b its at returns covered x d =
    let es = module_entries q.unit (body_segment q.unit o) in
    let frame = is_framed xs ys (program_of us).procedures es o returns b covered in
    let inner = inners_stand laws us p near ms f lands inners_land xs ys callable w steps reaches q there o b its at frame.inners in
    calls_follow_within laws.called laws.inside (Known laws us p near ms f lands inners_land xs ys callable w steps reaches)
    (ground laws us p near ms f lands inners_land xs ys callable w steps reaches) w (may_call xs ys (λ y. None)) (program_of us).procedures
    (λ y start among k. stood laws us p near ms f lands inners_land xs ys callable w steps reaches y start among k)
    d b (may_call xs ys (subroutine_index o es)) (λ y e. e) inner
    (statements_scope es o b) (sites_at at) (wants_at at) b.here.setting x
    (finds laws us p near ms f lands inners_land xs ys callable w steps reaches q there (body_segment q.unit o) at (statements_scope es o b) refl frame.body'.heads
    (subroutine_index o es))
    (within laws us p near ms f lands inners_land xs ys callable w steps reaches q there o b its at (statements_scope es o b) refl frame.body'.inner_heads
    b.here.setting (record { split = refl; below = refl }))
