-- The code of a procedure stands in its module.
-- 1. where its pieces stand                           (PartsStand, parts_stand)
-- 2. those of a module stand in a program             (module_stands)
-- 3. and so those of each procedure                   (routine_stands)
use Rattle.std.proofs.Common.{◌≡◌, ℕ, zero, suc, ◌+◌, ◌≤◌, true, false, List, [], ◌∷◌, ◌++◌, length, Some, refl, sym, ap, subst, ◌∙◌, arith}
use Rattle.std.specs.Global.{Vec}
use Rattle.std.specs.Prelude.{slice_get}
use Rattle.std.specs.List.{list_all}
use Rattle.std.proofs.lemmas.List.{length-map}
use Rattle.spl_carries.specs.hp_program.declared.program.Program.{Program}
use Rattle.spl_carries.specs.hp_program.Programs.{segments_of, words_of}
use Rattle.spl_ways.specs.hp_steady.Laws.{WordsAreNear}
use Rattle.spl_carries.specs.spl_tree.DeclarationTrees.{declarations}
use Rattle.spl_carries.specs.spl_meaning.Tables.{Source}
use Rattle.spl_carries.specs.spl_meaning.Pending.{formals_words}
use Rattle.spl_carries.specs.spl_meaning.Bodies.{Named}
use Rattle.spl_carries.specs.spl_meaning.Laws.{IsFront}
use Rattle.spl_ways.specs.spl_branch.declared.pieces.Piece.{Piece}
use Rattle.spl_ways.specs.spl_branch.declared.pieces.Piece.TheVariants.{Mark}
use Rattle.spl_ways.specs.spl_branch.declared.modules.Define.{Define}
use Rattle.spl_ways.specs.spl_branch.declared.modules.Want.{Want}
use Rattle.spl_ways.specs.spl_branch.declared.modules.Module.{Module}
use Rattle.spl_ways.specs.spl_branch.Pieces.{is_indexed}
use Rattle.spl_ways.specs.spl_branch.Modules.{define_of, sites as decoded}
use Rattle.spl_ways.specs.spl_branch.Stands.{at_left}
use Rattle.spl_label_marks.specs.spl_code.Parts.{Wanted}
use Rattle.spl_label_marks.specs.spl_statement_code.Statements.{listed}
use Rattle.spl_label_marks.specs.spl_body_code.Bodies.{frame_of, procedure_entered, procedure_left}
use Rattle.spl_label_marks.specs.spl_scopes.Entries.{procedure, module_entries}
use Rattle.spl_label_marks.specs.spl_scopes.Scopes.{Placed, first_reached, placed_units, routine_bodies}
use Rattle.spl_label_marks.specs.spl_module_code.Modules.{module_written}
use Rattle.spl_complete_codes.proofs.Complete.{complete}
use Rattle.spl_carries.specs.Carries.{words_in, weight}
use Rattle.spl_ways.specs.mpe_segmenter.Names.{Part, parts}
use Rattle.spl_ways.specs.mpe_segmenter.Counts.{sizes}
use Rattle.spl_ways.specs.mpe_segmenter.Sites.{IsModule, module_entries as entries_of}
use Rattle.spl_ways.specs.mpe_segmenter.Whole.{IsWhole}
use Rattle.spl_ways.proofs.mpe_segmenter_proofs.FitLemmas.{fits_at}
use Rattle.spl_endings.specs.spl_follow.Spots.{Spot, pos, on, Ground}
use Rattle.spl_endings.specs.spl_follow.Standing.{Sites, Stands}
use Rattle.spl_endings.proofs.spl_follow_proofs.PartLemmas.{stand_from_place}
use Rattle.spl_ways.specs.spl_stands.Fitting.{placed}
use Rattle.spl_ways.specs.spl_sites.Beginnings.{begins_well, is_of_kind}
use Rattle.spl_ways.specs.spl_sites.Grounds.{ground_of, AllCallsLead}
use Rattle.spl_ways.proofs.spl_sites_proofs.ProgramLemmas.{programs_stand}
use Rattle.spl_ways.proofs.WayLemmas.{calls_lead}
use Rattle.spl_routines.specs.Among.{IsIn}
use Rattle.spl_routines.specs.Located.{MadeOf, Located, sites_at}
use Rattle.spl_routines.specs.Routines.{routine_context, RoutineStands}
use Rattle.spl_routines.proofs.EntryLemmas.{ProcedureIn, entry_there}
use Rattle.spl_routines.proofs.PartLemmas.{RoutinePieces, routine_pieces}
use Rattle.spl_routines.proofs.PieceLemmas.{IsClear, clear_before, well_behind, entered_clear, left_clear}

-- ---- 1. pieces of a procedure

-- the parts of a procedure stand one behind the other
pub record PartsStand (g : Ground) (w : Sites) (entry out : ℕ) (enter statements leave : List Piece) (last : Spot) : Type 0 where
  pub first : Spot
  pub left : Spot
  pub end : Spot
  pub enters : Stands g w (on (w.marks entry)) enter first
  pub runs : Stands g w (on first) statements left
  pub there : w.marks out ≡ left
  pub leaves : Stands g w (on left) leave end
  pub rises : pos first ≤ pos left
  pub falls : pos left ≤ pos end
  pub within : pos end ≤ pos last

pub parts_stand : (g : Ground) (w : Sites) (before : List Piece) (entry out : ℕ) (enter statements leave others : List Piece) (start last : Spot)
    → begins_well false (before ++ Mark entry ∷ ((enter ++ statements) ++ Mark out ∷ (leave ++ others))) ≡ true
    → IsClear enter → IsClear leave
    → Stands g w (on start) (before ++ Mark entry ∷ ((enter ++ statements) ++ Mark out ∷ (leave ++ others))) last
    → PartsStand g w entry out enter statements leave last
parts_stand g w before entry out enter statements leave others start last well enter_clear leave_clear stands =
    let behind : List Piece = (enter ++ statements) ++ Mark out ∷ (leave ++ others) in
    let cut = stand_from_place g w before (Mark entry ∷ behind) start last (clear_before false before behind entry well) stands in
    let marked = cut.2 in
    let clear = clear_before false (enter ++ statements) (leave ++ others) out (well_behind false before behind entry well) in
    let inner = stand_from_place g w (enter ++ statements) (Mark out ∷ (leave ++ others)) cut.0 last clear marked.2 in
    let parts = stand_from_place g w enter statements cut.0 inner.0 enter_clear inner.1 in
    let exit = inner.2 in
    let ending = stand_from_place g w leave others inner.0 last leave_clear exit.2 in
    record {
      first = parts.0;
      left = inner.0;
      end = ending.0;
      enters = subst (λ (p : Spot). Stands g w (on p) enter parts.0) (sym marked.0) parts.1;
      runs = parts.2;
      there = exit.0;
      leaves = ending.1;
      rises = parts.4;
      falls = ending.3;
      within = ending.4;
    }

-- ---- 2. modules

-- a segment has no more words than all
segment_words : (segments : List (List ℕ)) (seg : ℕ) → length (words_of segments seg) ≤ words_in segments
segment_words [] seg = omega arith
segment_words (s ∷ segments) zero = omega arith
segment_words (s ∷ segments) (suc seg) = let rest = segment_words segments seg in omega (arith, rest)

sizes_append : (front : List Module) (m : Module) (back : List Module) → sizes (front ++ m ∷ back) ≡ sizes front + (m.size + sizes back)
sizes_append [] m back = omega arith
sizes_append (x ∷ front) m back = let rest = sizes_append front m back in omega (arith, rest)

-- a module is no longer than a segment that has it
pub module_fits : (ps : List Part) (w : IsWhole ps) (seg : ℕ) (front : List Module) (m : Module) (back : List Module) → IsModule ps seg front m back
    → m.size ≤ 16383
module_fits ps w seg front m back is =
    let f = fits_at ps seg is.part w.fitting is.there in
    let words = f.words in
    let all = ap sizes is.among in
    let here = sizes_append front m back in
    omega (arith, words, all, here)

module _ (us : List Source) (p : Program) (near : WordsAreNear p) (ms : List Module) (f : MadeOf us p ms) (q : Placed)
    (there : IsIn q (placed_units (first_reached us) us)) (g : ℕ) (at : Located ms q g) where
  abbrev ground : Ground
  ground = ground_of p near ms

  abbrev start : Spot
  start = placed at.seg (at_left (sizes at.front))

  abbrev end : Spot
  end = placed at.seg (at_left (sizes at.front + length at.here.words.items))

  abbrev pieces : List Piece
  pieces = at.of.code.pieces.items

  well : begins_well false pieces ≡ true
  well = ap (λ (ps : List Piece). begins_well false ps) at.of.is.pieces ∙ f.well q g there

  kinds : list_all is_of_kind pieces ≡ true
  kinds = ap (λ (ps : List Piece). list_all is_of_kind ps) at.of.is.pieces ∙ f.kinds q g

  indexed : list_all (is_indexed (length at.here.wants.items) (length at.here.defines.items)) pieces ≡ true
  indexed =
      ap (λ (k : ℕ). list_all (is_indexed k (length at.here.defines.items)) pieces) (ap (λ (w : Vec Want). length w.items) at.of.wants)
      ∙ ap (λ (k : ℕ). list_all (is_indexed (length at.of.code.wants.items) k) pieces)
      (ap (λ (ds : List Define). length ds) at.finished.defines ∙ length-map at.of.code.entries.items (define_of at.finished.marks))
      ∙ (complete q at.name g at.of.code at.of.is).calls

  calls : AllCallsLead (segments_of p) at.seg (decoded (sizes at.front) at.finished.marks (entries_of at.front at.here at.back)) (sites_at at) pieces
  calls =
      subst (λ (segments : List (List ℕ)).
      AllCallsLead segments at.seg (decoded (sizes at.front) at.finished.marks (entries_of at.front at.here at.back)) (sites_at at) pieces) (sym f.segments)
      (calls_lead (parts ms) f.whole at.seg at.front at.here at.back at.is at.finished.marks pieces kinds indexed)

  pub module_stands : Stands ground (sites_at at) (on start) pieces end
  module_stands =
      programs_stand p near ms f.links at.seg at.front at.here at.back at.is at.of.code at.finished (sites_at at) (λ l. refl) well kinds
      (complete q at.name g at.of.code at.of.is).pieces calls

  pub module_end : pos end ≤ weight p
  module_end =
      let within = (f.links.lies at.seg at.front at.here at.back at.is).within in
      let few = segment_words (segments_of p) at.seg in
      omega (arith, within, few)

  -- ---- 3. procedures

  routine_found : (i k : ℕ) (b : Named) → slice_get (module_entries q.unit g) k ≡ Some (record { name = b.name; segment = g; callee = procedure })
      → RoutinePieces (module_written q g) (module_entries q.unit g) i k b.body → (s : RoutineStands p near at i b) × (s.entry ≡ k)
  routine_found i k b named x =
      let statements = (listed (routine_context (module_entries q.unit g) i b.body x.labels x.out) b.body.statements 0 x.marks x.wants) in
      let enter : List Piece = procedure_entered (frame_of b.body) in
      let leave : List Piece = procedure_left b.body.here.setting.split (formals_words b.body.profile.formals) in
      let s = parts_stand ground (sites_at at) x.before k x.out enter statements.pieces leave x.behind start end
      (ap (λ (ps : List Piece). begins_well false ps) (sym x.pieces) ∙ f.well q g there) (entered_clear (frame_of b.body))
      (left_clear b.body.here.setting.split (formals_words b.body.profile.formals))
      (subst (λ (ps : List Piece). Stands ground (sites_at at) (on start) ps end) (at.of.is.pieces ∙ x.pieces) module_stands) in
      let within = s.within in
      let last = module_end in (
        record {
          entry = k;
          entered = named;
          out = x.out;
          labels = x.labels;
          marks = x.marks;
          wants = x.wants;
          first = s.first;
          leave = s.left;
          end = s.end;
          enters = s.enters;
          runs = s.runs;
          left = s.there;
          leaves = s.leaves;
          front = subst (λ (ws : List Wanted). IsFront statements.wants ws) (sym at.of.is.wants) x.front;
          rises = s.rises;
          falls = s.falls;
          far = omega (arith, within, last);
        },
        refl,
      )

  -- by its number and its entry
  pub routine_stands : (i k : ℕ) (b : Named) → slice_get (routine_bodies q) i ≡ Some b
      → ProcedureIn q g i k b.name 0 0 (declarations q.unit.tree.items) → (s : RoutineStands p near at i b) × (s.entry ≡ k)
  routine_stands i k b has is =
      let e = entry_there q g i k b.name 0 0 (declarations q.unit.tree.items) is in
      let same = e.1 in
      let place : k ≡ e.0 = omega (arith, same) in
      routine_found i k b (ap (λ (x : ℕ). slice_get (module_entries q.unit g) x) place ∙ e.2) (routine_pieces q g i k b has b.name is)
