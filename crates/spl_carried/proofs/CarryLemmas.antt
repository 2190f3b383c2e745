-- A program whose main body is covered follows the run of its units.
use Rattle.std.proofs.Common.{◌≡◌, ℕ, ◌+◌, ◌≤◌, Bool, true, false, List, [], length, Option, Some, None, refl, sym, ap, subst, ◌∙◌, arith}
use Rattle.std.specs.Prelude.{◌==◌, ◌&&◌, ◌||◌, not, nat_eq, option_map, codes, if◌then◌else◌}
use Rattle.std.specs.List.{list_all}
use Rattle.std.proofs.lemmas.Bool.{and_parts, eqb-true, not-true, false≢true}
use Rattle.spl_bounds.specs.hp_word.declared.intrinsics.Intrinsic.TheVariants as gate
use Rattle.spl_bounds.specs.hp_instr.declared.instruction.Instr.TheVariants as i
use Rattle.spl_bounds.specs.hp_program.declared.program.Program.{Program}
use Rattle.spl_bounds.specs.hp_program.Programs.{words_of}
use Rattle.spl_bounds.specs.hp_program.Valid.{label_of}
use Rattle.spl_bounds.specs.hp_flat.Views.{start_of}
use Rattle.spl_callable.proofs.hp_steady_proofs.ProgramLaws.{words_near}
use Rattle.spl_bounds.specs.spl_tree.declared.expressions.Kind.{Kind}
use Rattle.spl_bounds.specs.spl_meaning.Names.{Names, or_else}
use Rattle.spl_bounds.specs.spl_meaning.Places.{Place}
use Rattle.spl_bounds.specs.spl_meaning.Tables.{Source}
use Rattle.spl_bounds.specs.spl_meaning.StatementRules.{list_labels}
use Rattle.spl_bounds.specs.spl_meaning.Bodies.{Body, Named, main_body, program_of}
use Rattle.spl_bounds.specs.spl_meaning.Runs.{Seat}
use Rattle.spl_bounds.specs.spl_meaning.Values.{Who}
use Rattle.spl_bounds.specs.spl_branch.declared.pieces.Piece.{Piece}
use Rattle.spl_bounds.specs.spl_branch.declared.modules.Module.{Module}
use Rattle.spl_sound_beginnings.specs.spl_code.Parts.{Wanted, wanted_place, with_wanted}
use Rattle.spl_bounds.specs.spl_body_code.Frames.{granted}
use Rattle.spl_sound_beginnings.specs.spl_statement_code.Landings.{Landing, Context}
use Rattle.spl_sound_beginnings.specs.spl_statement_code.Statements.{listed}
use Rattle.spl_bounds.specs.spl_scopes.Entries.{main, Entry, module_entries, subroutine_index}
use Rattle.spl_bounds.specs.spl_scopes.Scopes.{Placed, first_reached, placed_units, global_places, outer_body}
use Rattle.spl_bounds.specs.spl_module_code.Bodies.{is_called, seen_results, statements_scope}
use Rattle.spl_bounds.specs.spl_module_code.Modules.{holds_main, main_mark, IsModuleOf}
use Rattle.spl_bounds.specs.mpe_segmenter.Names.{parts}
use Rattle.spl_bounds.specs.mpe_segmenter.Counts.{sizes}
use Rattle.spl_bounds.specs.mpe_segmenter.Programs.{program_words}
use Rattle.std.proofs.lemmas.List.{append-nil}
use Rattle.spl_bounds.specs.spl_branch.Stands.{at_left}
use Rattle.spl_sound_beginnings.specs.spl_code.Parts.{Written}
use Rattle.spl_bounds.specs.spl_meaning.Laws.{IsFront}
use Rattle.spl_callable.specs.spl_follow.Spots.{Spot, pos, on, Ground}
use Rattle.spl_callable.specs.spl_follow.Standing.{Sites, Stands, due_after}
use Rattle.spl_callable.specs.spl_follow.Following.{Rate}
use Rattle.spl_callable.specs.spl_follow.Doing.{calling}
use Rattle.spl_callable.specs.spl_follow.Simulating.{Surroundings}
use Rattle.spl_sound_beginnings.specs.spl_stands.Fitting.{placed}
use Rattle.spl_sound_beginnings.specs.spl_sites.Beginnings.{begins_well}
use Rattle.spl_sound_beginnings.specs.spl_sites.Grounds.{ground_of}
use Rattle.spl_callable.specs.spl_ways.Ways.{word_of}
use Rattle.spl_callable.proofs.spl_ways_proofs.MainLemmas.{main_starts}
use Rattle.spl_callable.specs.spl_endings.Gates.{Served, GatesLead}
use Rattle.spl_callable.proofs.spl_endings_proofs.WantLemmas.{wanted_there, wanted_keeps}
use Rattle.spl_callable.proofs.spl_endings_proofs.GateLemmas.{last_ends}
use Rattle.spl_callable.proofs.spl_grants_proofs.GrantLemmas.{pieces_grant}
use Rattle.spl_callable.specs.spl_followed.Mains.{MainFramed, MainStatementsFollow}
use Rattle.spl_callable.specs.spl_jumps.Landed.{are_landed, MayJump}
use Rattle.spl_callable.specs.spl_sound_jumps.Laws.{LandsInUnit, LandsInRoutines, LandsInInners, SoundMainsLand, SoundRoutinesLand, SoundInnersLand}
use Rattle.spl_callable.proofs.CallableLemmas.{bodies_follow, list_clear, frame_statements}
use Rattle.spl_bounds.specs.mpe_segmenter.Faults.{first_fault}
use Rattle.spl_sound_beginnings.specs.spl_piece_kinds.Laws.{CodesHaveKinds}
use Rattle.spl_sound_beginnings.specs.Laws.{SoundCodesBeginWell}
use Rattle.spl_bounds.specs.Programs.{IsOf, ProgramsKeepBounds, DataWordsAreInitial}
use Rattle.spl_callable.specs.spl_followed.Laws.{FollowedProgramsCarry}
use Rattle.spl_carried.specs.Laws.{CoveredProgramsCarry}
use Rattle.spl_carried.proofs.WholeLemmas.{whole_parts}
use Rattle.spl_callable.specs.spl_routines.Among.{IsIn}
use Rattle.spl_callable.specs.spl_routines.Located.{MadeOf, Located, sites_at, wants_at}
use Rattle.spl_callable.proofs.spl_routines_proofs.ListLemmas.{in_all, place_of}
use Rattle.spl_callable.proofs.spl_routines_proofs.BodyLemmas.{each_placed}
use Rattle.spl_callable.proofs.spl_routines_proofs.StandLemmas.{module_fits, module_stands, module_end}
use Rattle.spl_callable.proofs.spl_routines_proofs.GateLemmas.{gates_are_served}
use Rattle.spl_carried.proofs.MainLemmas.{MainThere, main_there, main_is, same_entry}
use Rattle.spl_carried.proofs.PieceLemmas.{landing_place, way_out, main_context, MainPieces, main_pieces, MainStands, main_stands}
use Rattle.spl_callable.specs.spl_names.Names.{read_with}
use Rattle.spl_callable.specs.Callable.{may_call, is_covered_frame, are_callable, most_words, are_covered}
use Rattle.spl_callable.specs.Laws.{CallablesFollow}
use Rattle.spl_callable.specs.spl_followed.Mains.{main_setting}
use Rattle.spl_bounds.specs.spl_carries.Segments.{initial_words}
use Rattle.spl_bounds.specs.spl_carries.Carries.{weight, MaySit}
use Rattle.spl_callable.specs.spl_followed.Followed.{Followed}
use Rattle.spl_callable.specs.spl_followed.Mains.{FramedProgramsFollow}
use Rattle.spl_carried.specs.Covered.{main_count, is_covered_unit, is_covered_program}

-- ---- the scope of a main body

-- in a main body what is assigned stands where it is read
places_same : (at : List ℕ → Option Place) (names : Names) (x : List ℕ)
    → or_else (option_map (λ (r : Kind × Place). r.1) (seen_results names (λ y. None) x)) (at x) ≡ at x
places_same at names x = by (is_called (names x)) where
  by : (b : Bool) → or_else (option_map (λ (r : Kind × Place). r.1) (if b then None else None)) (at x) ≡ at x
  by true = refl
  by false = refl

places_equal : (at : List ℕ → Option Place) (names : Names)
    → (λ (x : List ℕ). or_else (option_map (λ (r : Kind × Place). r.1) (seen_results names (λ y. None) x)) (at x)) ≡ at
places_equal at names j x = places_same at names x j

-- so it is read with the names and places with which its statements' code is made
here_is : (es : List Entry) (p : Placed)
    → (main_body (global_places p) p.unit).here
    ≡ read_with (statements_scope es main (main_body (global_places p) p.unit)) (main_body (global_places p) p.unit).here.results main_setting
here_is es p = ap (λ (at : List ℕ → Option Place). record { names = b.here.names; places = at; results = b.here.results; setting = main_setting })
    (sym (places_equal b.here.places b.here.names)) where
      b : Body
      b = main_body (global_places p) p.unit

-- ---- the module of a main body

-- a module that has a main body is that of a unit which is no subprogram, in the segment of its main body
record OfMain (unit : Placed) (number : ℕ) (offset : ℕ) (marks : ℕ → ℕ) : Type 0 where
  whole : unit.unit.subprogram ≡ false
  holds : holds_main unit unit.unit.tree.segment ≡ true
  segment : unit.unit.tree.segment ≡ number
  starts : offset ≡ marks (length (module_entries unit.unit unit.unit.tree.segment))

of_main : (unit : Placed) (number offset : ℕ) (marks : ℕ → ℕ) → option_map marks (main_mark unit number) ≡ Some offset → OfMain unit number offset marks
of_main unit number offset marks e = by (holds_main unit number) refl e where
  by : (b : Bool) → holds_main unit number ≡ b
      → option_map marks (if b then Some (length (module_entries unit.unit number)) else None) ≡ Some offset → OfMain unit number offset marks
  by false h e = cc
  by true h e =
      let two = and_parts (not unit.unit.subprogram) (nat_eq unit.unit.tree.segment number) h in
      let same = eqb-true unit.unit.tree.segment number two.1 in
      record {
        whole = not-true unit.unit.subprogram two.0;
        holds = subst (λ (k : ℕ). holds_main unit k ≡ true) (sym same) h;
        segment = same;
        starts = sym (same_entry (marks (length (module_entries unit.unit number))) offset e)
            ∙ ap (λ (k : ℕ). marks (length (module_entries unit.unit k))) (sym same);
      }

-- the main body of such a unit
outer_is : (p : Placed) → p.unit.subprogram ≡ false → outer_body p main ≡ Some (main_body (global_places p) p.unit)
outer_is p whole = ap (λ (b : Bool). if b then None else Some (main_body (global_places p) p.unit)) whole

-- ---- a program of modules

module _ (us : List Source) (p : Program) (ms : List Module) (f : MadeOf us p ms)
    (lands : (q : Placed) → IsIn q (placed_units (first_reached us) us) → LandsInUnit q.unit) (unit : Placed)
    (there : IsIn unit (placed_units (first_reached us) us)) (at : Located ms unit unit.unit.tree.segment) (whole : unit.unit.subprogram ≡ false)
    (holds : holds_main unit unit.unit.tree.segment ≡ true)
    (xs ys : List (List ℕ)) (callees : CallablesFollow) (routines : (q : Placed) → IsIn q (placed_units (first_reached us) us) → LandsInRoutines q.unit)
    (inners : (q : Placed) → IsIn q (placed_units (first_reached us) us) → LandsInInners q.unit) (callable : are_callable xs ys us ≡ true)
    (all_covered : is_covered_frame xs ys (program_of us).procedures (module_entries unit.unit unit.unit.tree.segment) main false (main_body (global_places unit) unit.unit) ≡ true) where
  abbrev es : List Entry
  es = module_entries unit.unit unit.unit.tree.segment

  abbrev body : Body
  body = main_body (global_places unit) unit.unit

  abbrev procedures : List Named
  procedures = (program_of us).procedures

  -- whom the main body may call
  abbrev may : Who → Bool
  may = may_call xs ys (subroutine_index main es)

  covered_statements : are_covered may false (statements_scope es main body) body.here.results main_setting body.statements 0 ≡ true
  covered_statements = frame_statements xs ys procedures es main false body all_covered

  abbrev ground : Ground
  ground = ground_of p (words_near p) ms

  abbrev sites : Sites
  sites = sites_at at

  abbrev wants : List Wanted
  wants = wants_at at

  parts_of : MainPieces unit unit.unit.tree.segment body
  parts_of = main_pieces unit unit.unit.tree.segment body holds (outer_is unit whole)

  abbrev context : Context
  context = main_context es body parts_of.mark

  abbrev statements : Written
  statements = listed context body.statements 0 parts_of.marks parts_of.wants

  -- its labels and jumps lead somewhere
  landed : are_landed context.landings (list_labels body.statements) body.statements 0 ≡ true
  landed = lands unit there parts_of.mark

  abbrev index : ℕ
  index = wanted_place (codes "TERMINATE") true statements.wants

  abbrev start : Spot
  start = placed at.seg (at_left (sizes at.front))

  abbrev end : Spot
  end = placed at.seg (at_left (sizes at.front + length at.here.words.items))

  clear : due_after false statements.pieces ≡ false
  clear = list_clear may false context body.here.results main_setting body.statements 0 covered_statements (list_labels body.statements) landed parts_of.marks parts_of.wants

  stands : MainStands ground sites (length es) (granted body.depth') statements.pieces index end
  stands =
      main_stands ground sites parts_of.before (length es) body.depth' statements.pieces index start end
      (ap (λ (ps : List Piece). begins_well false ps) (sym parts_of.pieces) ∙ f.well unit unit.unit.tree.segment there) clear
      (subst (λ (ps : List Piece). Stands ground sites (on start) ps end) (at.of.is.pieces ∙ parts_of.pieces)
      (module_stands us p (words_near p) ms f unit there unit.unit.tree.segment at))

  -- ---- rates

  far : pos end ≤ weight p
  far = module_end us p (words_near p) ms f unit there unit.unit.tree.segment at

  abbrev rate : Rate
  rate = record {
    step = weight p;
    reach = most_words procedures + 8;
    word = let rise = stands.call.rise in omega (arith, rise, far);
    enough = omega arith;
  }

  -- ---- names

  last : wants ≡ with_wanted (codes "TERMINATE") true statements.wants
  last = at.of.is.wants ∙ parts_of.last

  gates : GatesLead sites wants
  gates = gates_are_served us p ms f unit unit.unit.tree.segment at

  wanted : IsFront statements.wants wants
  wanted = subst (λ (ws : List Wanted). IsFront statements.wants ws) (sym last) (wanted_keeps (codes "TERMINATE") true statements.wants)

  serves : Served (sites.ways true index) gate.Terminate
  serves =
      gates index (codes "TERMINATE") gate.Terminate
      (wanted_there (codes "TERMINATE") true statements.wants wants
      (record { rest = []; is = last ∙ sym (append-nil (with_wanted (codes "TERMINATE") true statements.wants)) })) refl

  -- ---- the main body

  framed : MainFramed ground rate body.depth' (sites.marks (length es)) stands.first stands.leave
  framed =
      let entered = stands.entered in
      let left = stands.left in
      let within = stands.within in
      record {
        room = pieces_grant ground rate sites (sites.marks (length es)) stands.first body.depth' (omega arith) stands.room_stands;
        paid = omega (arith, left, within, far);
        behind = end;
        stop = calling (i.Control 0 0) (sites.ways true index) end;
        ends = stands.call;
        stops = λ n split runs. last_ends (sites.ways true index) end n serves split runs;
        last = omega (arith, far);
      }

  abbrev around : Surroundings
  around = record {
    ground = ground;
    rate = rate;
    sites = sites;
    wants = wants;
    setting = main_setting;
    exits = record { target = way_out context.landings sites.marks stands.leave; held = λ e. 0 };
  }

  -- a label's mark is where the way out to it leads; there are no lists around the body's
  jumps : MayJump context.landings around [] 0
  jumps = record {
    marks = λ y l is. sym (ap (λ (o : Option Landing). landing_place sites.marks stands.leave o) is);
    held = λ y l named is. absurd (false≢true named);
    few = λ y l named is. absurd (false≢true named);
  }

  followed : MainStatementsFollow ground rate us body stands.first stands.leave
  followed =
      let within = stands.within in
      bodies_follow may us body context around stands.first stands.leave parts_of.marks parts_of.wants refl refl
      (here_is es unit) (omega arith) covered_statements stands.statements_stand wanted (omega (arith, within, far))
      (λ d. callees us p (words_near p) ms f routines inners xs ys callable rate refl (omega arith) unit there main body (outer_is unit whole) at false all_covered
      around.exits d) (record { agree = λ x t r place kind result. cc }) jumps landed

-- ---- the program

-- a program whose main body is covered follows the run of its units, from each seat
module _ (us : List Source) (p : Program) (ms : List Module) (f : MadeOf us p ms)
    (lands : (q : Placed) → IsIn q (placed_units (first_reached us) us) → LandsInUnit q.unit) (callees : CallablesFollow)
    (routines : (q : Placed) → IsIn q (placed_units (first_reached us) us) → LandsInRoutines q.unit)
    (inners : (q : Placed) → IsIn q (placed_units (first_reached us) us) → LandsInInners q.unit) (xs ys : List (List ℕ))
    (covered : is_covered_program xs ys us ≡ true) where
  abbrev main_module : MainThere us ms p.main p.entry
  main_module = main_there us ms p.main p.entry f.are f.main

  abbrev main_unit : Placed
  main_unit = main_module.of.unit

  abbrev main_small : main_module.here.size ≤ 16383
  main_small = module_fits (parts ms) f.whole p.main main_module.front main_module.here main_module.back main_module.is

  -- a finished module of this unit has its main body at the mark behind those of its entries
  main_mark_is : (g : ℕ) (of : IsModuleOf main_unit main_module.of.name g main_module.here)
      → option_map (of.finished main_small).marks (main_mark main_unit g) ≡ Some main_module.offset
  main_mark_is g of =
      ap (λ (o : Option ℕ). option_map (of.finished main_small).marks o) (sym of.is.main) ∙ sym (of.finished main_small).main ∙ main_module.main

  first_of : OfMain main_unit main_module.of.number main_module.offset (main_module.of.is.finished main_small).marks
  first_of =
      of_main main_unit main_module.of.number main_module.offset (main_module.of.is.finished main_small).marks
      (main_mark_is main_module.of.number main_module.of.is)

  in_segment : IsModuleOf main_unit main_module.of.name main_unit.unit.tree.segment main_module.here
  in_segment = subst (λ (k : ℕ). IsModuleOf main_unit main_module.of.name k main_module.here) (sym first_of.segment) main_module.of.is

  main_of : OfMain main_unit main_unit.unit.tree.segment main_module.offset (in_segment.finished main_small).marks
  main_of =
      of_main main_unit main_unit.unit.tree.segment main_module.offset (in_segment.finished main_small).marks
      (main_mark_is main_unit.unit.tree.segment in_segment)

  -- where that module stands
  abbrev located : Located ms main_unit main_unit.unit.tree.segment
  located = record {
    name = main_module.of.name;
    seg = p.main;
    front = main_module.front;
    here = main_module.here;
    back = main_module.back;
    is = main_module.is;
    of = in_segment;
    finished = in_segment.finished main_small;
  }

  abbrev is_unit : Placed → Bool
  is_unit = is_covered_unit xs ys (program_of us).procedures

  both_of : ((main_count us == 1 && are_callable xs ys us) ≡ true) × (list_all is_unit (placed_units (first_reached us) us) ≡ true)
  both_of = and_parts (main_count us == 1 && are_callable xs ys us) (list_all is_unit (placed_units (first_reached us) us)) covered

  first_two : (main_count us ≡ 1) × (are_callable xs ys us ≡ true)
  first_two = let two = and_parts (main_count us == 1) (are_callable xs ys us) both_of.0 in (eqb-true (main_count us) 1 two.0, two.1)

  abbrev is_body : Bool
  is_body = is_covered_frame xs ys (program_of us).procedures (module_entries main_unit.unit main_unit.unit.tree.segment) main false (main_body (global_places main_unit) main_unit.unit)

  body_covered : is_body ≡ true
  body_covered = sym (ap (λ (b : Bool). b || is_body) main_of.whole) ∙ in_all is_unit main_unit (placed_units (first_reached us) us) main_module.of.there both_of.1

  starts : start_of p ≡ sizes main_module.front + (in_segment.finished main_small).marks (length (module_entries main_unit.unit main_unit.unit.tree.segment))
  starts =
      ap (λ (segments : List (List ℕ)). label_of (words_of segments p.main) p.entry) f.segments
      ∙ ap (λ (k : ℕ). label_of (words_of (program_words (parts ms)) p.main) k) main_module.place
      ∙ main_starts (parts ms) f.whole p.main main_module.front main_module.here main_module.back main_module.is main_module.offset main_module.main
      ∙ ap (λ (k : ℕ). sizes main_module.front + k) main_of.starts

  pub program_follows : FramedProgramsFollow → p.globals.items ≡ initial_words us → (seat : Seat) → MaySit us seat → Followed p us seat
  program_follows law globals seat sits =
      let there = main_module.of.there in
      law p us seat (ground us p ms f lands main_unit there located main_of.whole main_of.holds xs ys callees routines inners first_two.1 body_covered)
      (rate us p ms f lands main_unit there located main_of.whole main_of.holds xs ys callees routines inners first_two.1 body_covered)
      (body us p ms f lands main_unit there located main_of.whole main_of.holds xs ys callees routines inners first_two.1 body_covered)
      ((sites us p ms f lands main_unit there located main_of.whole main_of.holds xs ys callees routines inners first_two.1 body_covered).marks
      (length (module_entries main_unit.unit main_unit.unit.tree.segment)))
      (stands us p ms f lands main_unit there located main_of.whole main_of.holds xs ys callees routines inners first_two.1 body_covered).first
      (stands us p ms f lands main_unit there located main_of.whole main_of.holds xs ys callees routines inners first_two.1 body_covered).leave
      refl (omega arith) globals sits (main_is us main_unit first_two.0 there main_of.whole)
      (ap (λ (k : ℕ). word_of p.main k) starts)
      (framed us p ms f lands main_unit there located main_of.whole main_of.holds xs ys callees routines inners first_two.1 body_covered)
      (followed us p ms f lands main_unit there located main_of.whole main_of.holds xs ys callees routines inners first_two.1 body_covered)

-- ---- all of it

-- what is known of what modules of units make
made_of : (us : List Source) (ms : List Module) (globals : List ℕ) (p : Program) → IsOf us ms globals p → first_fault ms ≡ None → CodesHaveKinds
    → SoundCodesBeginWell → MadeOf us p ms
made_of us ms globals p is none kinds well = record {
  are = is.are_modules;
  whole = whole_parts us ms is.are_modules none;
  segments = is.makes.segments;
  links = is.links;
  main = is.makes.main;
  kinds = kinds;
  well = λ q g there. let at = place_of q (placed_units (first_reached us) us) there in well us is.spelled is.sound at.0 q at.1 g;
}

pub carried : CodesHaveKinds → SoundCodesBeginWell → SoundMainsLand → SoundRoutinesLand → SoundInnersLand → ProgramsKeepBounds → DataWordsAreInitial → FramedProgramsFollow
    → FollowedProgramsCarry → CallablesFollow → CoveredProgramsCarry
carried kinds well lands routines inners bounds initial framed carry callees us ms globals p is numbers none laid xs ys covered =
    let words = is.makes.data_words ∙ (initial us globals laid).1 in
    carry p us (bounds us ms globals p is numbers) words
    (program_follows us p ms (made_of us ms globals p is none kinds well) (λ q there. each_placed LandsInUnit (first_reached us) us q (lands us is.sound) there) callees
    (λ q there. each_placed LandsInRoutines (first_reached us) us q (routines us is.sound) there)
    (λ q there. each_placed LandsInInners (first_reached us) us q (inners us is.sound) there) xs ys covered framed words)
