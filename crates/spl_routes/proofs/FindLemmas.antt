-- Where calls of procedures lead.
-- 1. entries by name                                           (index_there)
-- 2. the defines of a module are its entries                   (define_is, define_there)
-- 3. so a define that is called by name starts its procedure   (define_finds), and an entry of the module leads there (own_finds)
use Rattle.std.proofs.Common.{◌≡◌, ℕ, zero, suc, ◌+◌, Bool, true, false, List, [], ◌∷◌, ◌++◌, Option, Some, refl, sym, ap, subst, ◌∙◌, arith}
use Rattle.std.specs.Prelude.{slice_get, unwrap_or, if◌then◌else◌}
use Rattle.spl_routines.specs.hp_program.declared.program.Program.{Program}
use Rattle.spl_routines.specs.hp_steady.Laws.{WordsAreNear}
use Rattle.spl_routines.specs.spl_tree.DeclarationTrees.{declarations}
use Rattle.spl_routines.specs.spl_meaning.Names.{find, same_name}
use Rattle.spl_routines.specs.spl_meaning.Places.{only}
use Rattle.spl_routines.specs.spl_meaning.Tables.{Source, routines_of}
use Rattle.spl_routines.specs.spl_branch.declared.modules.Define.{Define}
use Rattle.spl_routines.specs.spl_branch.declared.modules.Module.{Module}
use Rattle.spl_routines.specs.spl_branch.Modules.{define_of}
use Rattle.spl_routines.specs.spl_scopes.Entries.{routine, Entry, is_callable, indexes, procedure_index, module_entries}
use Rattle.spl_routines.specs.spl_scopes.Scopes.{Placed, first_reached, placed_units, global_places, routine_bodies, segment_of, body_segment}
use Rattle.spl_routines.specs.spl_modules.Made.{Made, made_of, made_from}
use Rattle.spl_routines.specs.mpe_segmenter.Names.{parts}
use Rattle.spl_routines.specs.mpe_segmenter.Counts.{sizes}
use Rattle.spl_routines.proofs.mpe_segmenter_proofs.PartLemmas.{equal_is}
use Rattle.spl_routines.proofs.mpe_segmenter_proofs.ValidLemmas.{got_map}
use Rattle.spl_routines.specs.spl_follow.Doing.{Way, gate, body}
use Rattle.spl_routines.specs.spl_ways.Ways.{word_of}
use Rattle.spl_routines.proofs.spl_ways_proofs.WayLemmas.{define_leads}
use Rattle.spl_routines.specs.Among.{IsIn}
use Rattle.spl_routines.specs.Located.{MadeOf, Located, sites_at}
use Rattle.spl_routines.specs.Routines.{RoutineStands}
use Rattle.spl_routes.specs.Found.{Finds}
use Rattle.spl_routines.proofs.ListLemmas.{of_map, one_there}
use Rattle.spl_routines.proofs.EntryLemmas.{ProcedureIn, of_entry, routine_there}
use Rattle.spl_routines.proofs.BodyLemmas.{named_there}
use Rattle.spl_routines.proofs.StandLemmas.{routine_stands}

-- ---- 1. entries by name

-- an entry of this name that may be called from anywhere, at a place counted from k
pub record NamedEntry (k : ℕ) (es : List Entry) (x : List ℕ) (found : ℕ) : Type 0 where
  pub place : ℕ
  pub number : found ≡ k + place
  pub is : Entry
  pub there : slice_get es place ≡ Some is
  pub callable : is_callable is.callee ≡ true
  pub named : is.name ≡ x

-- it is behind another
named_behind : (k : ℕ) (e : Entry) (es : List Entry) (x : List ℕ) (found : ℕ) → NamedEntry (suc k) es x found → NamedEntry k (e ∷ es) x found
named_behind k e es x found n =
    let number = n.number in
    record { place = suc n.place; number = omega (arith, number); is = n.is; there = n.there; callable = n.callable; named = n.named }

-- or it is the first
named_here : (b : Bool) (k : ℕ) (e : Entry) (es : List Entry) (x : List ℕ) (found : ℕ) → same_name x e.name ≡ b → is_callable e.callee ≡ true
    → (if b then Some k else find (indexes is_callable (suc k) es) x) ≡ Some found
    → (find (indexes is_callable (suc k) es) x ≡ Some found → NamedEntry (suc k) es x found) → NamedEntry k (e ∷ es) x found
named_here true k e es x found same called is rest =
    let here = one_there k found is in
    record { place = 0; number = omega (arith, here); is = e; there = refl; callable = called; named = sym (equal_is x e.name same) }
named_here false k e es x found same called is rest = named_behind k e es x found (rest is)

index_there : (k : ℕ) (es : List Entry) (x : List ℕ) (found : ℕ) → find (indexes is_callable k es) x ≡ Some found → NamedEntry k es x found
index_there k [] x found is = cc
index_there k (e ∷ es) x found is = by (is_callable e.callee) refl is (λ f. index_there (suc k) es x found f) where
  by : (b : Bool) → is_callable e.callee ≡ b → find (only b (e.name, k) ++ indexes is_callable (suc k) es) x ≡ Some found
      → (find (indexes is_callable (suc k) es) x ≡ Some found → NamedEntry (suc k) es x found) → NamedEntry k (e ∷ es) x found
  by true called f rest = named_here (same_name x e.name) k e es x found refl called f rest
  by false called f rest = named_behind k e es x found (rest f)

-- ---- 2. defines

-- an entry as the code of its module has it, with the mark of its number
abbrev marked : ℕ → Entry → Made
marked k e = record { name = e.name; mark = k; callable = is_callable e.callee }

made_is : (k : ℕ) (es : List Entry) (i : ℕ) (y : Made) → slice_get (made_from k es) i ≡ Some y
    → (e : Entry) × (slice_get es i ≡ Some e) × (y ≡ marked (k + i) e)
made_is k [] i y is = cc
made_is k (e ∷ es) zero y is =
    let here : k ≡ k + 0 = omega arith in (e, refl, sym (one_there (marked k e) y is) ∙ ap (λ (n : ℕ). marked n e) here)
made_is k (e ∷ es) (suc i) y is =
    let r = made_is (suc k) es i y is in
    let next : suc k + i ≡ k + suc i = omega arith in
    (r.0, r.1, r.2 ∙ ap (λ (n : ℕ). marked n r.0) next)

made_there : (k : ℕ) (es : List Entry) (i : ℕ) (e : Entry) → slice_get es i ≡ Some e → (y : Made) × (slice_get (made_from k es) i ≡ Some y)
made_there k [] i e is = cc
made_there k (x ∷ es) zero e is = (marked k x, refl)
made_there k (x ∷ es) (suc i) e is = made_there (suc k) es i e is

-- the define of an entry of a module
pub record DefineIs {ms : List Module} {q : Placed} {g : ℕ} (at : Located ms q g) (index : ℕ) (d : Define) : Type 0 where
  pub is : Entry
  pub there : slice_get (module_entries q.unit g) index ≡ Some is
  pub named : d.name.text.items ≡ is.name
  pub callable : d.callable ≡ is_callable is.callee
  pub offset : d.offset ≡ at.finished.marks index

module _ {ms : List Module} {q : Placed} {g : ℕ} (at : Located ms q g) where
  pub define_is : (index : ℕ) (d : Define) → slice_get at.here.defines.items index ≡ Some d → DefineIs at index d
  define_is index d there =
      let c = of_map (define_of at.finished.marks) at.of.code.entries.items index d
      (ap (λ (ds : List Define). slice_get ds index) (sym at.finished.defines) ∙ there) in
      let made = made_is 0 (module_entries q.unit g) index (made_of c.0)
      (ap (λ (es : List Made). slice_get es index) (sym at.of.is.entries) ∙ got_map made_of at.of.code.entries.items index c.0 c.1) in
      let place : 0 + index ≡ index = omega arith in
      record {
        is = made.0;
        there = made.1;
        named = ap (λ (x : Define). x.name.text.items) (sym c.2) ∙ ap (λ (m : Made). m.name) made.2;
        callable = ap (λ (x : Define). x.callable) (sym c.2) ∙ ap (λ (m : Made). m.callable) made.2;
        offset = ap (λ (x : Define). x.offset) (sym c.2) ∙ ap (λ (m : Made). at.finished.marks m.mark) made.2 ∙ ap at.finished.marks place;
      }

  pub define_there : (index : ℕ) (e : Entry) → slice_get (module_entries q.unit g) index ≡ Some e → (d : Define) × (slice_get at.here.defines.items index ≡ Some d)
  define_there index e there =
      let made = made_there 0 (module_entries q.unit g) index e there in
      let c = of_map made_of at.of.code.entries.items index made.0 (ap (λ (es : List Made). slice_get es index) at.of.is.entries ∙ made.1) in (
        define_of at.finished.marks c.0,
        ap (λ (ds : List Define). slice_get ds index) at.finished.defines ∙ got_map (define_of at.finished.marks) at.of.code.entries.items index c.0 c.1,
      )

-- ---- 3. procedures

module _ (us : List Source) (p : Program) (near : WordsAreNear p) (ms : List Module) (f : MadeOf us p ms) (q : Placed)
    (among : IsIn q (placed_units (first_reached us) us)) (g : ℕ) (at : Located ms q g) where
  -- a way to the first word of a define that may be called by this name leads to its procedure
  pub define_finds : (index : ℕ) (d : Define) → slice_get at.here.defines.items index ≡ Some d → d.callable ≡ true → (x : List ℕ) → d.name.text.items ≡ x
      → (way : Way) → way ≡ body (word_of at.seg (sizes at.front + d.offset)) → Finds us p near ms way x
  define_finds index d there callable x named way leads =
      let e = define_is at index d there in
      let of = of_entry q g 0 0 (declarations q.unit.tree.items) index e.is e.there (sym e.callable ∙ callable) in
      let i = of.0 in
      let r = routine_there q g i (0 + index) e.is.name 0 0 [] 0 (declarations q.unit.tree.items) of.1 in
      let number = r.number in
      let place : r.place ≡ i = omega (arith, number) in
      let b = named_there (global_places q) q.at.own q.at.own_arrays (routines_of q.unit) r.place r.is r.there in
      let has : slice_get (routine_bodies q) i ≡ Some b.0 = ap (λ (k : ℕ). slice_get (routine_bodies q) k) (sym place) ∙ b.1 in
      let same : e.is.name ≡ b.0.name = sym (b.2 ∙ r.named) in
      let s = routine_stands us p near ms f q among g at i (0 + index) b.0 has
      (subst (λ (y : List ℕ). ProcedureIn q g i (0 + index) y 0 0 (declarations q.unit.tree.items)) same of.1) in
      let entry : index ≡ s.0.entry = (omega arith) ∙ sym s.1 in
      let there' : way ≡ body ((sites_at at).marks s.0.entry) =
      leads ∙ ap (λ (k : ℕ). body (word_of at.seg (sizes at.front + k))) e.offset ∙ ap (λ (k : ℕ). body ((sites_at at).marks k)) entry in
      let segment : g ≡ body_segment q.unit (routine i) =
      sym (ap (λ (k : ℕ). segment_of (slice_get (routines_of q.unit) k)) (sym place) ∙ ap segment_of r.there ∙ r.segment) in
      let moved = subst (λ (h : ℕ). (z : Located ms q h) × (t : RoutineStands p near z i b.0) × (way ≡ body ((sites_at z).marks t.entry))) segment
      (at, s.0, there') in
      record {
        unit = q;
        among = among;
        number = i;
        named = b.0;
        there = has;
        name = sym same ∙ sym e.named ∙ named;
        at = moved.0;
        stands = moved.1;
        leads = moved.2;
      }

  -- so does the entry that this name has in the module
  pub own_finds : (x : List ℕ) (index : ℕ) → procedure_index (module_entries q.unit g) x ≡ Some index → Finds us p near ms ((sites_at at).ways false index) x
  own_finds x index is =
      let n = index_there 0 (module_entries q.unit g) x index is in
      let number = n.number in
      let place : n.place ≡ index = omega (arith, number) in
      let there = ap (λ (k : ℕ). slice_get (module_entries q.unit g) k) (sym place) ∙ n.there in
      let d = define_there at index n.is there in
      let e = define_is at index d.0 d.1 in
      let same : e.is ≡ n.is = one_there e.is n.is (sym e.there ∙ there) in
      define_finds index d.0 d.1 (e.callable ∙ ap (λ (y : Entry). is_callable y.callee) same ∙ n.callable) x
      (e.named ∙ ap (λ (y : Entry). y.name) same ∙ n.named) ((sites_at at).ways false index)
      (ap (λ (o : Option Way). unwrap_or o (gate 0)) (define_leads (parts ms) f.whole at.seg at.front at.here at.back at.is index d.0 d.1).0)
