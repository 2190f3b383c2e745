-- The code of a subroutine stands in its module, and the entry of its name leads there.
use Rattle.std.proofs.Common.{◌≡◌, ℕ, suc, ◌+◌, false, List, [], length, Some, Option, refl, sym, ap, subst, ◌∙◌, arith}
use Rattle.std.specs.Prelude.{slice_get, unwrap_or}
use Rattle.spl_routes.specs.hp_program.declared.program.Program.{Program}
use Rattle.spl_routes.specs.hp_steady.Laws.{WordsAreNear}
use Rattle.spl_routes.specs.spl_tree.DeclarationTrees.{declarations}
use Rattle.spl_routes.specs.spl_meaning.Bodies.{Body, subroutine_body}
use Rattle.spl_routes.specs.spl_meaning.Laws.{IsFront}
use Rattle.spl_routes.specs.spl_meaning.Pending.{formals_words}
use Rattle.spl_routes.specs.spl_meaning.Tables.{Source, Subroutine, subroutine_named}
use Rattle.spl_routes.specs.spl_branch.declared.pieces.Piece.{Piece}
use Rattle.spl_routes.specs.spl_branch.declared.modules.Module.{Module}
use Rattle.spl_routes.specs.spl_branch.Stands.{at_left}
use Rattle.spl_routes.specs.spl_code.Parts.{Wanted}
use Rattle.spl_routes.specs.spl_statement_code.Statements.{listed}
use Rattle.spl_routes.specs.spl_body_code.Frames.{granted}
use Rattle.spl_routes.specs.spl_body_code.Bodies.{subroutine_left}
use Rattle.spl_routes.specs.spl_scopes.Entries.{Owner, main, routine, Entry, module_entries}
use Rattle.spl_routes.specs.spl_scopes.Scopes.{Placed, first_reached, placed_units, segment_of, body_segment}
use Rattle.spl_routes.specs.spl_module_code.Bodies.{subroutine_part}
use Rattle.spl_routes.specs.spl_module_code.Modules.{module_written}
use Rattle.spl_routes.specs.mpe_segmenter.Names.{parts}
use Rattle.spl_routes.specs.mpe_segmenter.Counts.{sizes}
use Rattle.spl_routes.specs.spl_follow.Doing.{Way, gate, body}
use Rattle.spl_routes.specs.spl_follow.Spots.{Spot, on, Ground}
use Rattle.spl_routes.specs.spl_follow.Standing.{Stands}
use Rattle.spl_routes.specs.spl_stands.Fitting.{placed}
use Rattle.spl_routes.specs.spl_sites.Beginnings.{begins_well}
use Rattle.spl_routes.specs.spl_sites.Grounds.{ground_of}
use Rattle.spl_routes.specs.spl_ways.Ways.{word_of}
use Rattle.spl_routes.proofs.spl_ways_proofs.WayLemmas.{define_leads}
use Rattle.spl_routes.specs.spl_routines.Among.{IsIn}
use Rattle.spl_routes.specs.spl_routines.Located.{MadeOf, Located, sites_at}
use Rattle.spl_routes.proofs.spl_routines_proofs.PartLemmas.{PartIn}
use Rattle.spl_routes.proofs.spl_routines_proofs.PieceLemmas.{granted_clear}
use Rattle.spl_routes.proofs.spl_routines_proofs.StandLemmas.{parts_stand, module_stands, module_end}
use Rattle.spl_routes.proofs.FindLemmas.{define_is, define_there}
use Rattle.spl_inners.specs.Inners.{inner_context, InnerStands, FindsInner}
use Rattle.spl_inners.specs.Laws.{InnersFind}
use Rattle.spl_inners.proofs.IndexLemmas.{own_entry}
use Rattle.spl_inners.proofs.EntryLemmas.{main_found, SplitAt, split_at, routine_found}
use Rattle.spl_inners.proofs.PartLemmas.{main_part_in, routine_part_in, inner_pieces}
use Rattle.spl_inners.proofs.BodyLemmas.{main_has, of_routine}

-- ---- one subroutine

module _ (us : List Source) (p : Program) (near : WordsAreNear p) (ms : List Module) (f : MadeOf us p ms) (q : Placed)
    (there : IsIn q (placed_units (first_reached us) us)) (g : ℕ) (at : Located ms q g) where
  abbrev ground : Ground
  ground = ground_of p near ms

  abbrev start : Spot
  start = placed at.seg (at_left (sizes at.front))

  abbrev end : Spot
  end = placed at.seg (at_left (sizes at.front + length at.here.words.items))

  -- the entry of a number leads to its mark
  way_is : (index : ℕ) (e : Entry) → slice_get (module_entries q.unit g) index ≡ Some e → (sites_at at).ways false index ≡ body ((sites_at at).marks index)
  way_is index e has =
      let d = define_there at index e has in
      let is = define_is at index d.0 d.1 in
      ap (λ (o : Option Way). unwrap_or o (gate 0)) (define_leads (parts ms) f.whole at.seg at.front at.here at.back at.is index d.0 d.1).0
      ∙ ap (λ (k : ℕ). body (word_of at.seg (sizes at.front + k))) is.offset

  -- a subroutine whose part is in the module's, by its entry
  inner_found : (o : Owner) (b : Body) (s : Subroutine) (k : ℕ) → slice_get (module_entries q.unit g) k ≡ Some (own_entry g o s)
      → PartIn (module_written q g) (subroutine_part (module_entries q.unit g) o b k s) → (t : InnerStands p near at o b s) × (t.entry ≡ k)
  inner_found o b s k entered part =
      let its = subroutine_body b s in
      let x = inner_pieces (module_written q g) (module_entries q.unit g) o k b s part in
      let statement = listed (inner_context (module_entries q.unit g) o its x.labels x.out) its.statements 0 x.marks x.wants in
      let leave : List Piece = subroutine_left (formals_words its.profile.formals) in
      let t = parts_stand ground (sites_at at) x.before k x.out (granted its.depth') statement.pieces leave x.behind start end
      (ap (λ (ps : List Piece). begins_well false ps) (sym x.pieces') ∙ f.well q g there) (granted_clear its.depth') refl
      (subst (λ (ps : List Piece). Stands ground (sites_at at) (on start) ps end) (at.of.is.pieces ∙ x.pieces') (module_stands us p near ms f q there g at)) in
      let within = t.within in
      let last = module_end us p near ms f q there g at in (
        record {
          entry = k;
          entered = entered;
          out = x.out;
          labels = x.labels;
          marks = x.marks;
          wants = x.wants;
          first = t.first;
          leave = t.left;
          end = t.end;
          enters = t.enters;
          runs = t.runs;
          left = t.there;
          leaves = t.leaves;
          front = subst (λ (ws : List Wanted). IsFront statement.wants ws) (sym at.of.is.wants) x.front;
          rises = t.rises;
          falls = t.falls;
          far = omega (arith, within, last);
        },
        refl,
      )

  -- so its entry finds it, where it is the one of a name
  finds : (o : Owner) (b : Body) (s : Subroutine) (x : List ℕ) (index k : ℕ) → index ≡ k → subroutine_named b.subroutines x ≡ Some s
      → slice_get (module_entries q.unit g) index ≡ Some (own_entry g o s)
      → PartIn (module_written q g) (subroutine_part (module_entries q.unit g) o b k s) → FindsInner p near at o b x index
  finds o b s x index k number means entered part =
      let t = inner_found o b s k (sym (ap (λ (n : ℕ). slice_get (module_entries q.unit g) n) number) ∙ entered) part in
      record {
        inner = s;
        means = means;
        stands = t.0;
        number = t.1 ∙ sym number;
        leads = way_is index (own_entry g o s) entered ∙ ap (λ (n : ℕ). body ((sites_at at).marks n)) (number ∙ sym t.1);
      }

-- ---- of main bodies and of procedures

pub inner_finds : InnersFind
inner_finds us p near ms f q among main b its at x index is =
    let g = q.unit.tree.segment in
    let m = main_found q x index 0 0 0 0 (declarations q.unit.tree.items) is in
    let number = m.number in
    let has = main_has q b its in
    let none : 0 + m.place ≡ m.place = omega arith in
    finds us p near ms f q among g at main b m.is x index index refl (ap (λ (ss : List Subroutine). subroutine_named ss x) (sym has) ∙ m.means)
    (ap (λ (k : ℕ). slice_get (module_entries q.unit g) k) (place number) ∙ m.entered)
    (main_part_in q (0 + m.place) index b m.is its
    (ap (λ (k : ℕ). slice_get b.subroutines k) none ∙ ap (λ (ss : List Subroutine). slice_get ss m.place) (sym has) ∙ m.there) m.at) where
      place : {k : ℕ} → index ≡ 0 + k → index ≡ k
      place e = omega (arith, e)
inner_finds us p near ms f q among (routine i) b its at x index is =
    let g = body_segment q.unit (routine i) in
    let r = of_routine q i b its in
    let none : 0 + i ≡ i = omega arith in
    let split = subst (λ (j : ℕ). SplitAt q g j 0 0 r.routine' (declarations q.unit.tree.items)) none
    (split_at q g 0 0 [] 0 (declarations q.unit.tree.items) i r.routine' r.listed (sym (ap segment_of r.listed))) in
    let s = routine_found q g i r.routine' x index split is in
    subst (λ (y : Body). FindsInner p near at (routine i) y x index) r.body
    (finds us p near ms f q among g at (routine i) r.named.body s.is x index (suc s.entry + s.place) s.number
    (ap (λ (ss : List Subroutine). subroutine_named ss x) (sym r.has) ∙ s.means) s.entered
    (routine_part_in q g i s.entry r.named r.routine'.heading.name s.place s.is r.there s.procedure'
    (ap (λ (ss : List Subroutine). slice_get ss s.place) (sym r.has) ∙ s.there)))
