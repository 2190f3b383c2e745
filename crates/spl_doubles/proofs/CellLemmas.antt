-- DOUBLEs stored through the word of a name: in what it leads to, and in an element, whose index waits below the value.
use Rattle.std.proofs.Common.{◌≡◌, ℕ, ◌+◌, ◌-◌, ◌<◌, ◌≤◌, Bool, true, false, List, [], ◌∷◌, length, take, refl, sym, ap, subst, ◌∙◌, arith}
use Rattle.std.specs.Prelude.{Option, Some, Ok, Result, slice_index}
use Rattle.std.proofs.lemmas.List.{append-nil}
use Rattle.std.proofs.Math.Seq.{take-length}
use Rattle.spl_operators.specs.hp_word.declared.arithmetic.Code.{Code}
use Rattle.spl_operators.specs.hp_word.declared.endings.Trap.{Trap}
use Rattle.spl_operators.specs.hp_word.declared.endings.Trap.TheVariants.{Bounds}
use Rattle.spl_operators.specs.hp_instr.declared.instruction.Instr.TheVariants as instr
use Rattle.spl_operators.specs.hp_instr.declared.instruction.Mode.{Mode}
use Rattle.spl_operators.specs.hp_instr.declared.instruction.Mode.TheVariants.{SMinus}
use Rattle.spl_operators.specs.hp_instr.Instructions.{op}
use Rattle.spl_operators.specs.hp_session.State.{Machine}
use Rattle.spl_operators.specs.hp_memory_rows.MemoryRows.{memory_row}
use Rattle.spl_operators.specs.hp_flat.Step.{at_left}
use Rattle.spl_operators.specs.hp_yields.Rows.{Places}
use Rattle.spl_operators.proofs.hp_yields_proofs.MemoryYields as rows
use Rattle.spl_operators.specs.spl_tree.declared.expressions.Kind.{Kind}
use Rattle.spl_operators.specs.spl_tree.declared.expressions.Kind.TheVariants as kind
use Rattle.spl_operators.specs.spl_meaning.Operations.{kept}
use Rattle.spl_operators.specs.spl_meaning.Places.{Place}
use Rattle.spl_operators.specs.spl_meaning.References.{Setting, Located, led_located, store_by, store}
use Rattle.spl_operators.specs.spl_meaning.States.{Data, State, End, Outcome, done, leaves, spent, ends, strays, then_go}
use Rattle.spl_operators.specs.spl_branch.declared.pieces.Piece.TheVariants.{Do}
use Rattle.spl_operators.specs.spl_code.Instructions.{LDX, DEL}
use Rattle.spl_operators.specs.spl_code.Operands.{mode_of}
use Rattle.spl_operators.specs.spl_follow.Spots.{Spot, pos, on, landed, Ground}
use Rattle.spl_operators.specs.spl_follow.Leading.{Leads}
use Rattle.spl_operators.specs.spl_follow.Matching.{outer, Matched, Kept, Coded, IsValue}
use Rattle.spl_operators.specs.spl_follow.Following.{Rate, tally, Follows, NoExit}
use Rattle.spl_operators.specs.spl_follow.Doing.{doing}
use Rattle.spl_operators.specs.spl_follow.Yielding.{Becomes}
use Rattle.spl_operators.specs.spl_follow.Parts.{Completes}
use Rattle.spl_operators.proofs.spl_follow_proofs.FollowLemmas.{then_follows, tail_follows}
use Rattle.spl_operators.proofs.spl_follow_proofs.KeepLemmas.{kept_same, kept_top, value_word}
use Rattle.spl_operators.proofs.spl_follow_proofs.RowLemmas.{stray_here, row_trap, becomes_goes, becomes_matches}
use Rattle.spl_operators.specs.spl_values.Reached.{is_reached}
use Rattle.spl_operators.proofs.spl_values_proofs.GiveLemmas.{last_leads}
use Rattle.spl_variables.specs.spl_operands.Operands.{Finds, Refers}
use Rattle.spl_variables.proofs.spl_operands_proofs.OperandLemmas.{top_based, direct, place_refers, first_element, indexed_element}
use Rattle.spl_variables.proofs.spl_operands_proofs.StoreLemmas.{index_deleted}
use Rattle.spl_variables.proofs.spl_operands_proofs.AssignLemmas.{value_stored, element_stored_by}
use Rattle.spl_doubles.specs.Laws.{DoubleCellsAssigned, DoubleElementsAssigned}
use Rattle.spl_doubles.proofs.StoreLemmas.{StoringDouble, value_storing, double_put}

-- ---- where a reference leads

-- STD where its operand is what a reference leads to
pub store_follows : (g : Ground) (w : Rate) (p q : Spot) (st : Setting) (mode : Mode) (i x : Bool) (k h l : ℕ) (d0 : Data) (m0 : Machine) (s : State) (m : Machine)
    (o : Outcome Located) → Leads g (on p) q (doing g.segments (instr.Memory 14 true x i mode) q) → StoringDouble st p k d0 m0 h l s m
    → Refers kind.Double mode i x s (at_left m) o
    → Follows g w (pos q - pos p) 0 w.reach (tally s) m (Completes st q k d0 m0) NoExit (then_go o (λ y u. store y (kept y.kind (h ∷ l ∷ [])) u))
store_follows g w p q st mode i x k h l d0 m0 s m (done y u) leads z r =
    subst (λ (e : State). Follows g w (pos q - pos p) 0 w.reach (tally s) m (Completes st q k d0 m0) NoExit (store_by y.kind y.far y.address (kept y.kind (h ∷ l ∷ [])) e)) (sym r.0)
    (subst (λ (c : Kind). Follows g w (pos q - pos p) 0 w.reach (tally s) m (Completes st q k d0 m0) NoExit (store_by c y.far y.address (kept c (h ∷ l ∷ [])) s)) (sym r.1)
    (double_put g w p q st mode i x y.far y.address k h l d0 m0 s m leads z r.2))
store_follows g w p q st mode i x k h l d0 m0 s m (leaves e u) leads z r = absurd r
store_follows g w p q st mode i x k h l d0 m0 s m (spent u) leads z r = absurd r
store_follows g w p q st mode i x k h l d0 m0 s m (ends e u) leads z r =
    let words = z.matches.words in
    subst (λ (c : State). Follows g w (pos q - pos p) 0 w.reach (tally s) m (Completes st q k d0 m0) NoExit (ends e c)) (sym r.0)
    (subst (λ (c : End). Follows g w (pos q - pos p) 0 w.reach (tally s) m (Completes st q k d0 m0) NoExit (ends c s)) (sym r.1)
    (row_trap g w w.reach (on p) q (doing g.segments (instr.Memory 14 true x i mode) q) st s.begun s m (k + 2) (memory_row 14 true mode i x (at_left m))
    Bounds (Completes st q k d0 m0) NoExit leads refl z.at refl z.matches (rows.double_store_not_found mode i x Bounds (at_left m) (omega (arith, words)) r.2)))
store_follows g w p q st mode i x k h l d0 m0 s m (strays u) leads z r =
    subst (λ (c : State). Follows g w (pos q - pos p) 0 w.reach (tally s) m (Completes st q k d0 m0) NoExit (strays c)) (sym r)
    (stray_here g w (pos q - pos p) 0 w.reach st (on p) (k + 2) s s.begun m (Completes st q k d0 m0) NoExit leads.start z.at refl z.matches)

-- ---- without an index

-- by the words of the value, of which there are two
cell_put : (g : Ground) (w : Rate) (st : Setting) (p q : Spot) (mode : Mode) (k : ℕ) (vs : List ℕ) (s : State) (m : Machine) (d0 : Data) (m0 : Machine)
    (o : Outcome Located) → s.now.top + (k + 2) ≤ s.now.stack → Leads g (on p) q (doing g.segments (instr.Memory 14 true false true mode) q)
    → IsValue st p 2 k d0 m0 vs s m → Refers kind.Double mode true false s (at_left m) o
    → Follows g w (pos q - pos p) 0 w.reach (tally s) m (Completes st q k d0 m0) NoExit (then_go o (λ y u. store y (kept y.kind vs) u))
cell_put g w st p q mode k (h ∷ l ∷ []) s m d0 m0 o room leads x refers =
    store_follows g w p q st mode true false k h l d0 m0 s m o leads (value_storing st p k h l d0 m0 s m x room) refers
cell_put g w st p q mode k [] s m d0 m0 o room leads x refers = let wide = x.wide in absurd (omega (arith, wide))
cell_put g w st p q mode k (h ∷ []) s m d0 m0 o room leads x refers = let wide = x.wide in absurd (omega (arith, wide))
cell_put g w st p q mode k (h ∷ l ∷ v ∷ vs) s m d0 m0 o room leads x refers = let wide = x.wide in absurd (omega (arith, wide))

pub cells_assigned : DoubleCellsAssigned
cells_assigned z d k need number at far place a value reached side enough whole sim =
    value_stored z d k need 2 number at a (Do (instr.Memory 14 true false true (mode_of k place)) ∷ []) value
    (λ vs v. then_go (led_located far kind.Double (Some place) 0 v) (λ p x. store p (kept p.kind vs) x)) whole sim
    (λ p q vs s m d0 m0 stands is room.
    let free : s.now.top + (k + 2) ≤ s.now.stack = omega (arith, room, enough) in
    cell_put z.ground z.rate z.setting p q (mode_of k place) k vs s m d0 m0 (led_located far kind.Double (Some place) 0 s) free
    (last_leads z.ground z.sites (on p) (instr.Memory 14 true false true (mode_of k place)) q stands) is
    (place_refers z.setting kind.Double far false 0 k (k + 2) place s (at_left m) reached side is.matches free (λ cell. first_element kind.Double cell (at_left m))))

-- ---- the index

-- STD of an element: its index u is in X, and waits below both words, on k words.
record IndexingDouble (st : Setting) (p : Spot) (k : ℕ) (d0 : Data) (m0 : Machine) (u h l : ℕ) (s : State) (m : Machine) : Type 0 where
  index : m.regs.x ≡ u
  stores : StoringDouble st p (k + 1) s.now m h l s m
  kept_below : Kept (d0.top + k) d0 m0.stack s.now m.stack

-- the index, at S-2, is what LDX puts into X
index_row : (st : Setting) (p : Spot) (s : State) (m : Machine) (d0 : Data) (m0 : Machine) (k u h l : ℕ) → IsValue st p 3 k d0 m0 (u ∷ h ∷ l ∷ []) s m
    → Matched st s.now m (k + 2 + 1) → s.now.top + (k + 2 + 1) ≤ s.now.stack
    → Places 0 [] u (at_left m) (memory_row 11 true (SMinus 2) false false (at_left m))
index_row st p s m d0 m0 k u h l x matches room =
    let words = matches.words in
    let least = matches.lies.least in
    let top = kept_top (d0.top + k) d0 m0.stack s.now m.stack x.kept in
    let low : s.now.top + k < length m.stack = omega (arith, words) in
    let f : Finds kind.Integer (SMinus 2) false false false (s.now.top + k) (at_left m) =
    direct (SMinus 2) false (s.now.top + k) (s.now.top + k) (at_left m) (top_based st s.now k 2 (at_left m) matches room) (omega (arith, room, least)) in
    let stands : slice_index m.stack (s.now.top + k) ≡ u = ap (λ (b : ℕ). slice_index m.stack (b + k)) top ∙ x.stand.0 in
    rows.x_loaded (SMinus 2) false false f.place u (at_left m) f.is
    (rows.read_there f.place false (at_left m) f.side (subst (λ (b : ℕ). b < length m.stack) (sym f.at) low)
    ∙ ap (λ (c : ℕ). let y : Result ℕ Trap = Ok c in y) (ap (λ (b : ℕ). slice_index m.stack b) f.at ∙ stands))

-- LDX S-2: X has the index that waits below both words, and all three stay.
index_taken : (g : Ground) (w : Rate) (p r : Spot) (st : Setting) (s : State) (m : Machine) (d0 : Data) (m0 : Machine) (k u h l : ℕ)
    → Leads g (on p) r (doing g.segments (instr.Memory 11 true false false (SMinus 2)) r) → IsValue st p 3 k d0 m0 (u ∷ h ∷ l ∷ []) s m
    → s.now.top + (k + 3) ≤ s.now.stack
    → Follows g w (pos r - pos p) 0 w.reach (tally s) m (λ (e : Unit {0}) s1 m1. IndexingDouble st r k d0 m0 u h l s1 m1) NoExit (done tt s)
index_taken g w p r st s m d0 m0 k u h l leads x room =
    let o = memory_row 11 true (SMinus 2) false false (at_left m) in
    let above : k + 3 ≡ k + 2 + 1 = omega arith in
    let behind : k + 3 ≡ k + 1 + 2 = omega arith in
    let y = index_row st p s m d0 m0 k u h l x (subst (λ (j : ℕ). Matched st s.now m j) above x.matches) (omega (arith, room)) in
    let none : length m.stack - 0 ≡ length m.stack = omega arith in
    let stays : y.words.left.stack ≡ m.stack =
    y.words.words ∙ append-nil (take (length m.stack - 0) m.stack) ∙ ap (λ (n : ℕ). take n m.stack) none ∙ take-length m.stack in
    let left : Becomes m.stack (outer m) o = record { left = y.words.left; is = y.words.is; words = stays; same = y.words.same } in (
      landed r y.words.left,
      becomes_goes g w (on p) r (doing g.segments (instr.Memory 11 true false false (SMinus 2)) r) st s.begun s m (k + 3) o m.stack (outer m) left leads refl x.at
          refl x.matches refl,
      record {
        index = y.index;
        stores = record {
          at = refl;
          matches = becomes_matches st s.now (k + 1 + 2) o m.stack (outer m) left (subst (λ (j : ℕ). Matched st s.now m j) behind x.matches);
          high = ap (λ (xs : List ℕ). slice_index xs (length xs - 1 - 1)) stays ∙ value_word st p 3 k 1 1 d0 m0 (u ∷ h ∷ l ∷ []) s m x refl;
          low = ap (λ (xs : List ℕ). slice_index xs (length xs - 1 - 0)) stays ∙ value_word st p 3 k 0 2 d0 m0 (u ∷ h ∷ l ∷ []) s m x refl;
          high_small = x.small.1.0;
          low_small = x.small.1.1.0;
          kept = kept_same (s.now.top + (k + 1)) s.now y.words.left.stack;
          coded = subst (λ (c : Option Code). Coded c y.words.left.regs.code) (sym x.silent) tt;
          room = omega (arith, room);
        };
        kept_below = subst (λ (ys : List ℕ). Kept (d0.top + k) d0 m0.stack s.now ys) (sym stays) x.kept;
      },
    )

-- ---- elements

-- LDX, STD and DEL: an element is stored, whose index waits below both words.
element_put : (g : Ground) (w : Rate) (p r1 r2 q : Spot) (st : Setting) (far : Bool) (place : Place) (k u h l : ℕ) (d0 : Data) (m0 : Machine) (s : State)
    (m : Machine) → is_reached st k place ≡ true → far ≡ st.split → Leads g (on p) r1 (doing g.segments (instr.Memory 11 true false false (SMinus 2)) r1)
    → Leads g (on r1) r2 (doing g.segments (instr.Memory 14 true true true (mode_of k place)) r2)
    → Leads g (on r2) q (doing g.segments (instr.Pair (op 0o40) (op 0)) q) → IsValue st p 3 k d0 m0 (u ∷ h ∷ l ∷ []) s m → s.now.top + (k + 3) ≤ s.now.stack
    → Follows g w (pos q - pos p) 0 w.reach (tally s) m (Completes st q k d0 m0) NoExit
    (then_go (led_located far kind.Double (Some place) u s) (λ y x. store y (kept y.kind (h ∷ l ∷ [])) x))
element_put g w p r1 r2 q st far place k u h l d0 m0 s m reached side takes puts deletes x room =
    let f = index_taken g w p r1 st s m d0 m0 k u h l takes x room in
    let rise = takes.rise in
    let rest = puts.rise in
    let end = deletes.rise in
    let many = w.enough in
    let stores : StoringDouble st r1 (k + 1) s.now f.0 h l s f.0 = f.2.stores in
    let o : Outcome (Unit {0}) = then_go (led_located far kind.Double (Some place) u s) (λ y x. store y (kept y.kind (h ∷ l ∷ [])) x) in
    then_follows g w (pos r1 - pos p) 0 w.reach (pos q - pos r1) 0 w.reach (pos q - pos p) 0 w.reach (tally s) m (tally s) f.0 (Completes st q k d0 m0) NoExit o f.1
    (tail_follows g w (pos r2 - pos r1) 0 w.reach (pos q - pos r2) 0 w.reach (pos q - pos r1) 0 w.reach (tally s) f.0 (Completes st r2 (k + 1) s.now f.0)
    (Completes st q k d0 m0) NoExit o
    (store_follows g w r1 r2 st (mode_of k place) true true (k + 1) h l s.now f.0 s f.0 (led_located far kind.Double (Some place) u s) puts stores
    (place_refers st kind.Double far true u k (k + 1 + 2) place s (at_left f.0) reached side stores.matches stores.room
    (λ cell. indexed_element kind.Double cell u (at_left f.0) f.2.index)))
    (λ e s1 m1 a fewer. index_deleted g w r2 q st k d0 m0 s.now f.0 s1 m1 deletes f.2.kept_below a)
    (omega (arith, rest, end)) (omega arith) (omega (arith, many)) (omega (arith, many)))
    (omega (arith, rise, rest, end)) (omega (arith, many)) (omega (arith, many))

-- by the words of the value, of which there are two
value_put : (g : Ground) (w : Rate) (p r1 r2 q : Spot) (st : Setting) (far : Bool) (place : Place) (k u : ℕ) (vs : List ℕ) (d0 : Data) (m0 : Machine)
    (s : State) (m : Machine) → is_reached st k place ≡ true → far ≡ st.split → Leads g (on p) r1 (doing g.segments (instr.Memory 11 true false false (SMinus 2)) r1)
    → Leads g (on r1) r2 (doing g.segments (instr.Memory 14 true true true (mode_of k place)) r2)
    → Leads g (on r2) q (doing g.segments (instr.Pair (op 0o40) (op 0)) q) → length vs ≡ 2 → IsValue st p 3 k d0 m0 (u ∷ vs) s m
    → s.now.top + (k + 3) ≤ s.now.stack
    → Follows g w (pos q - pos p) 0 w.reach (tally s) m (Completes st q k d0 m0) NoExit
    (then_go (led_located far kind.Double (Some place) u s) (λ y x. store y (kept y.kind vs) x))
value_put g w p r1 r2 q st far place k u (h ∷ l ∷ []) d0 m0 s m reached side takes puts deletes wide x room =
    element_put g w p r1 r2 q st far place k u h l d0 m0 s m reached side takes puts deletes x room
value_put g w p r1 r2 q st far place k u [] d0 m0 s m reached side takes puts deletes wide x room = absurd (omega (arith, wide))
value_put g w p r1 r2 q st far place k u (h ∷ []) d0 m0 s m reached side takes puts deletes wide x room = absurd (omega (arith, wide))
value_put g w p r1 r2 q st far place k u (h ∷ l ∷ v ∷ vs) d0 m0 s m reached side takes puts deletes wide x room = absurd (omega (arith, wide))

pub elements_assigned : DoubleElementsAssigned
elements_assigned z d k need more number at far place a b index value reached side enough fits wa wb sa sb =
    element_stored_by z d k need more 2 number at a b (LDX (SMinus 2) ∷ Do (instr.Memory 14 true true true (mode_of k place)) ∷ DEL ∷ []) index value
    (λ i vs w. then_go (led_located far kind.Double (Some place) i w) (λ p x. store p (kept p.kind vs) x)) fits wa wb sa sb
    (λ p q u vs s m d0 m0 stands wide is room.
    value_put z.ground z.rate p stands.0 stands.2.0 q z.setting far place k u vs d0 m0 s m reached side stands.1 stands.2.1
    (last_leads z.ground z.sites (on stands.2.0) (instr.Pair (op 0o40) (op 0)) q stands.2.2) wide is (omega (arith, room, enough)))
