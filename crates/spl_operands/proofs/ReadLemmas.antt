-- Values read through the word of a name, with an index or without, by the loads of their kinds.
use Rattle.std.proofs.Common.{◌≡◌, ℕ, ◌+◌, ◌-◌, ◌≤◌, Bool, true, false, List, [], ◌∷◌, ◌++◌, length, take, refl, sym, subst, ◌∙◌, arith}
use Rattle.std.specs.Prelude.{Option, Some, None}
use Rattle.spl_values.specs.hp_instr.declared.instruction.Instr.TheVariants as instr
use Rattle.spl_values.specs.hp_instr.declared.instruction.Mode.{Mode}
use Rattle.spl_values.specs.hp_instr.Instructions.{op}
use Rattle.spl_values.specs.hp_session.State.{Machine, word}
use Rattle.spl_values.specs.hp_stack_rows.StackRows.{operated}
use Rattle.spl_values.specs.hp_flat.Step.{at_left}
use Rattle.spl_values.specs.hp_yields.Rows.{Places}
use Rattle.spl_values.proofs.hp_yields_proofs.StackYields as stack_rows
use Rattle.spl_values.specs.spl_tree.declared.expressions.Kind.{Kind}
use Rattle.spl_values.specs.spl_tree.declared.expressions.Kind.TheVariants as kind
use Rattle.spl_values.specs.spl_branch.declared.pieces.Piece.TheVariants.{Do}
use Rattle.spl_values.specs.spl_meaning.Kinds.{width}
use Rattle.spl_values.specs.spl_meaning.Places.{Place}
use Rattle.spl_values.specs.spl_meaning.References.{Setting, Located, led_located, index_or_zero, read}
use Rattle.spl_values.specs.spl_meaning.States.{Data, State, Begun, Outcome, done, then_go}
use Rattle.spl_values.specs.spl_meaning.Values.{as_index}
use Rattle.spl_values.specs.spl_code.Code.{as_value}
use Rattle.spl_values.specs.spl_code.Instructions.{STAX}
use Rattle.spl_values.specs.spl_code.Operands.{mode_of}
use Rattle.spl_values.specs.spl_code.Parts.{Part, pieces, ◌⨟◌}
use Rattle.spl_values.specs.spl_follow.Spots.{Spot, pos, Point, on, landed, Ground}
use Rattle.spl_values.specs.spl_follow.Leading.{Leads}
use Rattle.spl_values.specs.spl_follow.Matching.{outer, Matches, Matched, Kept, IsValue}
use Rattle.spl_values.specs.spl_follow.Following.{Rate, tally, tally_with, Follows, NoExit}
use Rattle.spl_values.specs.spl_follow.Doing.{doing}
use Rattle.spl_values.specs.spl_follow.Parts.{Ready}
use Rattle.spl_values.specs.spl_follow.Simulating.{Surroundings, Simulates}
use Rattle.spl_values.proofs.spl_follow_proofs.FollowLemmas.{bind_follows, widen}
use Rattle.spl_values.proofs.spl_follow_proofs.KeepLemmas.{kept_same, kept_top, kept_stack, matched_length, value_word}
use Rattle.spl_values.proofs.spl_follow_proofs.RowLemmas.{becomes_goes, becomes_matches, yields_matched, yields_kept}
use Rattle.spl_values.proofs.spl_follow_proofs.PartLemmas.{stand_in_order}
use Rattle.spl_values.proofs.spl_follow_proofs.StandLemmas.{closed_last}
use Rattle.spl_values.specs.Reached.{is_seen, IsWhole}
use Rattle.spl_values.proofs.GiveLemmas.{last_leads}
use Rattle.spl_operands.specs.Operands.{Refers, Loading, HasIndex}
use Rattle.spl_operands.specs.Laws.{CellsSimulate, ElementsSimulate}
use Rattle.spl_operands.proofs.OperandLemmas.{first_element, indexed_element}
use Rattle.spl_operands.proofs.SeenLemmas.{seen_refers}
use Rattle.spl_operands.proofs.LoadLemmas.{loading, load_follows}

-- ---- cells

-- a part that is ready may begin with a load
ready_loading : (st : Setting) (d : ℕ) (p : Point) (k need n : ℕ) (s : State) (l : List Begun) (m : Machine) → Ready st d p k need s l m
    → n ≤ need → Loading st p k n s.now m l s m
ready_loading st d p k need n s l m r enough =
    let room = r.room in
    record {
      at = r.at;
      owes = r.owes;
      matches = r.matches;
      kept = kept_same (s.now.top + k) s.now m.stack;
      silent = r.silent;
      room = omega (arith, room, enough);
    }

-- what a reference without an index leads to, by the load of its kind
pub reference_gives : (z : Surroundings) (d k need : ℕ) (t : Kind) (mode : Mode) (i : Bool) (o : State → Outcome Located) → width t ≤ need
    → ((s : State) (m : Machine) → Matched z.setting s.now m k → s.now.top + k ≤ s.now.stack → Refers t mode i false s m (o s))
    → Simulates z d as_value (width t) k need (pieces (Do (loading t i false mode) ∷ [])) (λ s. then_go (o s) (λ p u. read p u))
reference_gives z d k need t mode i o enough refers = record {
  does = λ h ws p q s l m stands front ready.
      let room = ready.room in
      widen z.ground z.rate (pos q - pos p.at) 0 z.rate.reach (pos q - pos p.at) 1 z.rate.reach (tally_with l s) m (IsValue z.setting q (width t) k s.now m) NoExit
      (then_go (o s) (λ p u. read p u))
      (load_follows z.ground z.rate p q z.setting t mode i false k s.now m l s m (o s)
      (last_leads z.ground z.sites p (loading t i false mode) q stands)
      (ready_loading z.setting d p k need (width t) s l m ready enough)
      (refers s (at_left m) ready.matches (omega (arith, room))))
      (omega arith) (omega arith) (omega arith);
}

-- through a name's word
value_cells : (z : Surroundings) (d k need : ℕ) (far : Bool) (t : Kind) (place : Place) → is_seen z.setting k place ≡ true → far ≡ z.setting.split
    → width t ≤ need
    → Simulates z d as_value (width t) k need (pieces (Do (loading t true false (mode_of k place)) ∷ []))
    (λ s. then_go (led_located far t (Some place) 0 s) (λ p u. read p u))
value_cells z d k need far t place seen side enough =
    reference_gives z d k need t (mode_of k place) true (λ s. led_located far t (Some place) 0 s) enough
    (λ s m matches room. seen_refers z.setting t far false 0 k place s m seen side matches room (λ cell. first_element t cell m))

-- by the kind
pub cells_give : CellsSimulate
cells_give z d k need far kind.Integer place seen side enough = value_cells z d k need far kind.Integer place seen side enough
cells_give z d k need far kind.Logical place seen side enough = value_cells z d k need far kind.Logical place seen side enough
cells_give z d k need far kind.Byte place seen side enough = value_cells z d k need far kind.Byte place seen side enough
cells_give z d k need far kind.Double place seen side enough = value_cells z d k need far kind.Double place seen side enough

-- ---- indices

-- STAX behind an index: X has it, and it waits no more.
pub index_to_register : (g : Ground) (w : Rate) (p r : Spot) (st : Setting) (s : State) (m : Machine) (d0 : Data) (m0 : Machine) (k v : ℕ)
    → Leads g (on p) r (doing g.segments (instr.Pair (op 0o43) (op 0)) r) → IsValue st p 1 k d0 m0 (v ∷ []) s m
    → Follows g w (pos r - pos p) 0 w.reach (tally s) m (HasIndex st r k d0 m0) NoExit (done (Some v) s)
index_to_register g w p r st s m d0 m0 k v leads x =
    let words = x.matches.words in
    let top = kept_top (d0.top + k) d0 m0.stack s.now m.stack x.kept in
    let y : Places 1 [] (word 0 m) m (operated 0o43 m) = stack_rows.top_to_x m (omega (arith, words)) in
    let xs : List ℕ = take (length m.stack - 1) m.stack ++ [] in
    let none : k + 0 ≡ k = omega arith in
    let matches : Matches st s.now xs (outer m) k =
    subst (λ (j : ℕ). Matches st s.now xs (outer m) j) none (yields_matched st s.now m k 1 [] x.matches) in (
      landed r y.words.left,
      becomes_goes g w (on p) r (doing g.segments (instr.Pair (op 0o43) (op 0)) r) st s.begun s m (k + 1) (operated 0o43 m) xs (outer m) y.words leads refl x.at refl x.matches refl,
      record {
        at = refl;
        matches = becomes_matches st s.now k (operated 0o43 m) xs (outer m) y.words matches;
        kept = subst (λ (ys : List ℕ). Kept (d0.top + k) d0 m0.stack s.now ys) (sym y.words.words)
            (yields_kept (d0.top + k) d0 m0.stack s.now m.stack [] 1 x.kept (matched_length st s.now m k 1 d0.top x.matches top));
        silent = x.silent;
        index = y.index ∙ value_word st p 1 k 0 0 d0 m0 (v ∷ []) s m x refl;
      },
    )

-- the index of a reference, which is one word
index_by : (g : Ground) (w : Rate) (p r : Spot) (st : Setting) (s : State) (m : Machine) (d0 : Data) (m0 : Machine) (k : ℕ) (vs : List ℕ)
    → Leads g (on p) r (doing g.segments (instr.Pair (op 0o43) (op 0)) r) → IsValue st p 1 k d0 m0 vs s m
    → Follows g w (pos r - pos p) 0 w.reach (tally s) m (HasIndex st r k d0 m0) NoExit (as_index vs s)
index_by g w p r st s m d0 m0 k (v ∷ []) leads x = index_to_register g w p r st s m d0 m0 k v leads x
index_by g w p r st s m d0 m0 k [] leads x = let wide = x.wide in absurd (omega (arith, wide))
index_by g w p r st s m d0 m0 k (v ∷ u ∷ vs) leads x = let wide = x.wide in absurd (omega (arith, wide))

-- ---- elements

-- the element at an index that is in X
element_loaded : (g : Ground) (w : Rate) (p q : Spot) (st : Setting) (t : Kind) (far : Bool) (place : Place) (k : ℕ) (d0 : Data) (m0 : Machine) (o : Option ℕ)
    (s : State) (m : Machine) → is_seen st k place ≡ true → far ≡ st.split → s.now.top + k + width t ≤ s.now.stack
    → Leads g (on p) q (doing g.segments (loading t true true (mode_of k place)) q) → HasIndex st p k d0 m0 o s m
    → Follows g w (pos q - pos p) 0 w.reach (tally s) m (IsValue st q (width t) k d0 m0) NoExit
    (then_go (led_located far t (Some place) (index_or_zero o) s) (λ y u. read y u))
element_loaded g w p q st t far place k d0 m0 None s m seen side room leads x = absurd x
element_loaded g w p q st t far place k d0 m0 (Some v) s m seen side room leads x =
    load_follows g w (on p) q st t (mode_of k place) true true k d0 m0 s.begun s m (led_located far t (Some place) v s) leads
    (record { at = x.at; owes = refl; matches = x.matches; kept = x.kept; silent = x.silent; room = room })
    (seen_refers st t far true v k place s (at_left m) seen side x.matches (omega (arith, room)) (λ cell. indexed_element t cell v (at_left m) x.index))

-- where an index is in X there is as much room as at the beginning
index_room : (st : Setting) (p : Spot) (k n need : ℕ) (d0 : Data) (m0 : Machine) (o : Option ℕ) (s : State) (m : Machine) → d0.top + k + need ≤ d0.stack
    → n ≤ need → HasIndex st p k d0 m0 o s m → s.now.top + k + n ≤ s.now.stack
index_room st p k n need d0 m0 None s m room enough has = absurd has
index_room st p k n need d0 m0 (Some v) s m room enough has =
    let top = kept_top (d0.top + k) d0 m0.stack s.now m.stack has.kept in
    let stack = kept_stack (d0.top + k) d0 m0.stack s.now m.stack has.kept in
    omega (arith, room, enough, top, stack)

-- STAX and the load of the kind behind the code of the index
value_elements : (z : Surroundings) (d k need : ℕ) (far : Bool) (t : Kind) (place : Place) (a : Part) (value : State → Outcome (List ℕ))
    → is_seen z.setting k place ≡ true → far ≡ z.setting.split → width t ≤ need → IsWhole a
    → Simulates z d as_value 1 k need a value
    → Simulates z d as_value (width t) k need (a ⨟ pieces (STAX ∷ []) ⨟ pieces (Do (loading t true true (mode_of k place)) ∷ []))
    (λ s. then_go (then_go (value s) as_index) (λ i u. then_go (led_located far t (Some place) (index_or_zero i) u) (λ p v. read p v)))
value_elements z d k need far t place a value seen side enough whole sim = record {
  does = λ h ws p q s l m stands front ready.
      let x = a h ws in
      let last = stand_in_order z.ground z.sites (x.pieces ++ STAX ∷ []) (Do (loading t true true (mode_of k place)) ∷ []) p q
      (closed_last x.pieces (STAX ∷ []) refl) stands in
      let cut = stand_in_order z.ground z.sites x.pieces (STAX ∷ []) p last.0 (whole.closed h ws) last.1 in
      let to_x = last_leads z.ground z.sites (on cut.0) (instr.Pair (op 0o43) (op 0)) last.0 cut.2 in
      let loads = last_leads z.ground z.sites (on last.0) (loading t true true (mode_of k place)) q last.2 in
      let before = cut.3 in
      let turn = to_x.rise in
      let rise = loads.rise in
      let many = z.rate.enough in
      let room = ready.room in
      bind_follows z.ground z.rate (pos last.0 - pos p.at) 1 z.rate.reach (pos q - pos last.0) 0 z.rate.reach (pos q - pos p.at) 1 z.rate.reach
      (tally_with l s) m (HasIndex z.setting last.0 k s.now m) (IsValue z.setting q (width t) k s.now m) NoExit (then_go (value s) as_index)
      (λ i u. then_go (led_located far t (Some place) (index_or_zero i) u) (λ p v. read p v))
      (bind_follows z.ground z.rate (pos cut.0 - pos p.at) 1 z.rate.reach (pos last.0 - pos cut.0) 0 z.rate.reach (pos last.0 - pos p.at) 1 z.rate.reach
      (tally_with l s) m (IsValue z.setting cut.0 1 k s.now m) (HasIndex z.setting last.0 k s.now m) NoExit (value s) as_index
      (sim.does h ws p cut.0 s l m cut.1 front ready)
      (λ vs u m1 is fewer. index_by z.ground z.rate cut.0 last.0 z.setting u m1 s.now m k vs to_x is)
      (omega (arith, before, turn)) (omega arith) (omega (arith, many)) (omega (arith, many)))
      (λ o u m1 has fewer. element_loaded z.ground z.rate last.0 q z.setting t far place k s.now m o u m1 seen side
      (index_room z.setting last.0 k (width t) need s.now m o u m1 room enough has) loads has)
      (omega (arith, before, turn, rise)) (omega arith) (omega (arith, many)) (omega (arith, many));
}

-- by the kind
pub elements_give : ElementsSimulate
elements_give z d k need far kind.Integer place a value seen side enough whole sim = value_elements z d k need far kind.Integer place a value seen side enough whole sim
elements_give z d k need far kind.Logical place a value seen side enough whole sim = value_elements z d k need far kind.Logical place a value seen side enough whole sim
elements_give z d k need far kind.Byte place a value seen side enough whole sim = value_elements z d k need far kind.Byte place a value seen side enough whole sim
elements_give z d k need far kind.Double place a value seen side enough whole sim = value_elements z d k need far kind.Double place a value seen side enough whole sim
