-- Bit fields on the left of :=, by where their words are.
use Rattle.std.proofs.Common.{◌≡◌, ℕ, ◌+◌, ◌-◌, ◌≤◌, Bool, true, false, List, [], ◌∷◌, ◌++◌, length, refl, sym, ap, subst, ◌∙◌, arith}
use Rattle.std.specs.Prelude.{Some, None, nat_le, slice_index}
use Rattle.std.proofs.lemmas.Bool.{leb-true}
use Rattle.spl_operators.specs.hp_word.declared.endings.Trap.TheVariants.{Bounds}
use Rattle.spl_operators.specs.hp_instr.declared.instruction.Instr.TheVariants as instr
use Rattle.spl_operators.specs.hp_instr.declared.instruction.Mode.{Mode}
use Rattle.spl_operators.specs.hp_instr.declared.instruction.Mode.TheVariants.{SMinus}
use Rattle.spl_operators.specs.hp_instr.Instructions.{op}
use Rattle.spl_operators.specs.hp_session.State.{Machine}
use Rattle.spl_operators.specs.hp_session.Places.{index}
use Rattle.spl_operators.specs.hp_flat.Step.{at_left}
use Rattle.spl_operators.proofs.hp_yields_proofs.MemoryYields as rows
use Rattle.spl_operators.specs.spl_tree.declared.expressions.Kind.{Kind}
use Rattle.spl_operators.specs.spl_tree.declared.names_and_places.At.{At}
use Rattle.spl_operators.specs.spl_branch.declared.pieces.Piece.TheVariants.{Begin}
use Rattle.spl_operators.specs.spl_meaning.Places.{Place}
use Rattle.spl_operators.specs.spl_meaning.References.{Setting, Located, address_of, variable_located, own_located, led_located, store_field}
use Rattle.spl_operators.specs.spl_meaning.States.{Data, State, End, Outcome, done, leaves, spent, ends, strays, then_go, stopping}
use Rattle.spl_operators.specs.spl_code.Code.{as_value}
use Rattle.spl_operators.specs.spl_code.Instructions.{operate, LDX, DEL}
use Rattle.spl_operators.specs.spl_code.Operands.{mode_of}
use Rattle.spl_operators.specs.spl_code.Parts.{Part, pieces, piece, nothing, ◌⨟◌}
use Rattle.spl_operators.specs.spl_code.Stores.{deposited, own_field}
use Rattle.spl_operators.specs.spl_follow.Spots.{Spot, pos, on, Ground}
use Rattle.spl_operators.specs.spl_follow.Leading.{Leads}
use Rattle.spl_operators.specs.spl_follow.Matching.{Matched, Kept, IsValue}
use Rattle.spl_operators.specs.spl_follow.Following.{Rate, tally, Follows, NoExit}
use Rattle.spl_operators.specs.spl_follow.Doing.{doing}
use Rattle.spl_operators.specs.spl_follow.Standing.{Sites, Stands}
use Rattle.spl_operators.specs.spl_follow.Parts.{Completes}
use Rattle.spl_operators.specs.spl_follow.Simulating.{Surroundings, Simulates, Performs}
use Rattle.spl_operators.proofs.spl_follow_proofs.FollowLemmas.{then_follows, tail_follows}
use Rattle.spl_operators.proofs.spl_follow_proofs.RowLemmas.{stray_here}
use Rattle.spl_operators.specs.spl_values.Reached.{is_word_kind, is_reached, IsWhole}
use Rattle.spl_operators.proofs.spl_values_proofs.GiveLemmas.{last_leads}
use Rattle.spl_operators.proofs.spl_values_proofs.VariableLemmas.{both}
use Rattle.spl_variables.specs.spl_operands.Operands.{Refers, Storing}
use Rattle.spl_variables.proofs.spl_operands_proofs.OperandLemmas.{place_refers, first_element, indexed_element}
use Rattle.spl_variables.proofs.spl_operands_proofs.LoadLemmas.{word_is_found}
use Rattle.spl_variables.proofs.spl_operands_proofs.StoreLemmas.{index_taken, index_deleted}
use Rattle.spl_variables.proofs.spl_operands_proofs.AssignLemmas.{value_stored, element_stored_by}
use Rattle.spl_variables.proofs.OwnLemmas.{not_from_top, own_refers}
use Rattle.spl_field_stores.specs.Laws.{is_within, FieldsOfVariablesAssigned, FieldsOfCellsAssigned, FieldsOfElementsAssigned}
use Rattle.spl_field_stores.proofs.DepositLemmas.{Deposits, not_loaded, deposit_follows}

-- ---- what a reference leads to

-- where the operand is what a reference leads to, at each machine with this X that keeps what stands beneath
field_follows : (g : Ground) (w : Rate) (p q : Spot) (st : Setting) (t : Kind) (mode : Mode) (i x : Bool) (k v start size : ℕ) (d0 : Data) (m0 : Machine)
    (s : State) (m : Machine) (o : Outcome Located) → Deposits g p q start size mode i x → is_word_kind t ≡ true → 1 ≤ size → start + size ≤ 16
    → IsValue st p 1 k d0 m0 (v ∷ []) s m → s.now.top + (k + 1 + 1) ≤ s.now.stack
    → ((m1 : Machine) → m1.regs.x ≡ m.regs.x → Kept (d0.top + k) d0 m0.stack s.now m1.stack → Matched st s.now m1 (k + 1)
    → Refers t mode i x s (at_left m1) o)
    → Follows g w (pos q - pos p) 0 w.reach (tally s) m (Completes st q k d0 m0) NoExit (then_go o (λ y u. store_field y start size (v ∷ []) u))
field_follows g w p q st t mode i x k v start size d0 m0 s m (done y u) l one some within z room refers =
    let r = refers m refl z.kept z.matches in
    subst (λ (e : State). Follows g w (pos q - pos p) 0 w.reach (tally s) m (Completes st q k d0 m0) NoExit (store_field y start size (v ∷ []) e)) (sym r.0)
    (deposit_follows g w p q st t mode i x k v start size d0 m0 s m y l one some within z room (λ m1 same kept matches. (refers m1 same kept matches).2))
field_follows g w p q st t mode i x k v start size d0 m0 s m (leaves e u) l one some within z room refers = absurd (refers m refl z.kept z.matches)
field_follows g w p q st t mode i x k v start size d0 m0 s m (spent u) l one some within z room refers = absurd (refers m refl z.kept z.matches)
field_follows g w p q st t mode i x k v start size d0 m0 s m (ends e u) l one some within z room refers =
    let r = refers m refl z.kept z.matches in
    subst (λ (c : State). Follows g w (pos q - pos p) 0 w.reach (tally s) m (Completes st q k d0 m0) NoExit (ends e c)) (sym r.0)
    (subst (λ (c : End). Follows g w (pos q - pos p) 0 w.reach (tally s) m (Completes st q k d0 m0) NoExit (ends c s)) (sym r.1)
    (not_loaded g w p q st mode i x k v start size d0 m0 s m l z
    (rows.word_not_found mode i x Bounds (at_left m) (sym (word_is_found t mode i x (at_left m) one) ∙ r.2))))
field_follows g w p q st t mode i x k v start size d0 m0 s m (strays u) l one some within z room refers =
    let r = refers m refl z.kept z.matches in
    subst (λ (c : State). Follows g w (pos q - pos p) 0 w.reach (tally s) m (Completes st q k d0 m0) NoExit (strays c)) (sym r)
    (stray_here g w (pos q - pos p) 0 w.reach st (on p) (k + 1) s s.begun m (Completes st q k d0 m0) NoExit l.loads.start z.at refl z.matches)

-- a value by its words, of which there is one
pub field_by : (g : Ground) (w : Rate) (p q : Spot) (st : Setting) (t : Kind) (mode : Mode) (i x : Bool) (k : ℕ) (vs : List ℕ) (start size : ℕ) (d0 : Data)
    (m0 : Machine) (s : State) (m : Machine) (o : Outcome Located) → Deposits g p q start size mode i x → is_word_kind t ≡ true → 1 ≤ size → start + size ≤ 16
    → IsValue st p 1 k d0 m0 vs s m → s.now.top + (k + 1 + 1) ≤ s.now.stack
    → ((m1 : Machine) → m1.regs.x ≡ m.regs.x → Kept (d0.top + k) d0 m0.stack s.now m1.stack → Matched st s.now m1 (k + 1)
    → Refers t mode i x s (at_left m1) o)
    → Follows g w (pos q - pos p) 0 w.reach (tally s) m (Completes st q k d0 m0) NoExit (then_go o (λ y u. store_field y start size vs u))
field_by g w p q st t mode i x k (v ∷ []) start size d0 m0 s m o l one some within z room refers =
    field_follows g w p q st t mode i x k v start size d0 m0 s m o l one some within z room refers
field_by g w p q st t mode i x k [] start size d0 m0 s m o l one some within z room refers = let wide = z.wide in absurd (omega (arith, wide))
field_by g w p q st t mode i x k (v ∷ u ∷ vs) start size d0 m0 s m o l one some within z room refers = let wide = z.wide in absurd (omega (arith, wide))

-- ---- without an index

-- the four instructions, one after the other
pub in_order : (g : Ground) (sites : Sites) (p q : Spot) (start size : ℕ) (i x : Bool) (mode : Mode) → Stands g sites (on p) (deposited start size i x mode) q
    → Deposits g p q start size mode i x
in_order g sites p q start size i x mode stands = record {
  first = stands.0;
  second = stands.2.0;
  third = stands.2.2.0;
  loads = stands.1;
  exchanges = stands.2.1;
  puts = stands.2.2.1;
  stores = last_leads g sites (on stands.2.2.0) (instr.Memory 5 true x i mode) q stands.2.2.2;
}

-- a statement that is noted, its value, and the four instructions
field_assigned : (z : Surroundings) (d k need number start size : ℕ) (at : At) (t : Kind) (mode : Mode) (i : Bool) (a : Part) (value : State → Outcome (List ℕ))
    (o : State → Outcome Located) → is_within start size ≡ true → is_word_kind t ≡ true → 2 ≤ need → IsWhole a → Simulates z d as_value 1 k need a value
    → ((s : State) (m : Machine) → Matched z.setting s.now m (k + 1) → s.now.top + (k + 1) ≤ s.now.stack → Refers t mode i false s m (o s))
    → Performs z d k need (piece (Begin at) ⨟ (nothing ⨟ a ⨟ pieces (deposited start size i false mode)))
    (λ s. stopping number at s (λ u. then_go (value u) (λ vs v. then_go (o v) (λ p x. store_field p start size vs x))))
field_assigned z d k need number start size at t mode i a value o within one enough whole sim refers =
    let two = both (nat_le 1 size) (nat_le (start + size) 16) within in
    value_stored z d k need 1 number at a (deposited start size i false mode) value (λ vs v. then_go (o v) (λ p x. store_field p start size vs x)) whole sim
    (λ p q vs s m d0 m0 stands is room.
    let free : s.now.top + (k + 1) ≤ s.now.stack = omega (arith, room, enough) in
    field_by z.ground z.rate p q z.setting t mode i false k vs start size d0 m0 s m (o s) (in_order z.ground z.sites p q start size i false mode stands) one
    (leb-true 1 size two.0) (leb-true (start + size) 16 two.1) is (omega (arith, room, enough)) (λ m1 same kept matches. refers s (at_left m1) matches free))

pub variables_assigned : FieldsOfVariablesAssigned
variables_assigned z d k need number start size at t place a value within one reached enough whole sim =
    subst (λ (b : Bool). Performs z d k need (piece (Begin at) ⨟ (nothing ⨟ a ⨟ pieces (own_field start size b (mode_of k place))))
    (λ s. stopping number at s (λ u. then_go (value u) (λ vs v. store_field (variable_located t (address_of place v.now)) start size vs v))))
    (sym (not_from_top z.setting k place reached))
    (field_assigned z d k need number start size at t (mode_of k place) false a value (λ v. own_located t (Some place) None v) within one enough whole sim
    (λ s m matches room. own_refers z.setting t k (k + 1) place s m reached matches))

pub cells_assigned : FieldsOfCellsAssigned
cells_assigned z d k need number start size at far t place a value within one reached side enough whole sim =
    field_assigned z d k need number start size at t (mode_of k place) true a value (λ v. led_located far t (Some place) 0 v) within one enough whole sim
    (λ s m matches room. place_refers z.setting t far false 0 k (k + 1) place s m reached side matches room (λ cell. first_element t cell m))

-- ---- with an index

-- a store that stands behind an index in X has its value on top
storing_value : (st : Setting) (p : Spot) (k : ℕ) (d0 : Data) (m0 : Machine) (v : ℕ) (s : State) (m : Machine) → Storing st p k d0 m0 v s m → d0.top ≡ s.now.top
    → s.code ≡ None → IsValue st p 1 k d0 m0 (v ∷ []) s m
storing_value st p k d0 m0 v s m x top silent =
    let words = x.matches.words in
    let place : d0.top + k ≡ length m.stack - 1 - 0 = omega (arith, words, top) in
    record {
      at = x.at;
      wide = refl;
      matches = x.matches;
      stand = (ap (λ (a : ℕ). slice_index m.stack a) place ∙ x.top, tt);
      small = (x.small, tt);
      kept = x.kept;
      silent = silent;
    }

-- LDX, the four instructions, and DEL
element_put : (g : Ground) (w : Rate) (p r1 r2 q : Spot) (st : Setting) (t : Kind) (far : Bool) (place : Place) (k u v start size : ℕ) (d0 : Data) (m0 : Machine)
    (s : State) (m : Machine) → is_word_kind t ≡ true → is_reached st k place ≡ true → far ≡ st.split → 1 ≤ size → start + size ≤ 16
    → Leads g (on p) r1 (doing g.segments (instr.Memory 11 true false false (SMinus 1)) r1) → Deposits g r1 r2 start size (mode_of k place) true true
    → Leads g (on r2) q (doing g.segments (instr.Pair (op 0o40) (op 0)) q) → IsValue st p 2 k d0 m0 (u ∷ v ∷ []) s m
    → s.now.top + (k + 1 + 1 + 1) ≤ s.now.stack
    → Follows g w (pos q - pos p) 0 w.reach (tally s) m (Completes st q k d0 m0) NoExit
    (then_go (led_located far t (Some place) u s) (λ y x. store_field y start size (v ∷ []) x))
element_put g w p r1 r2 q st t far place k u v start size d0 m0 s m one reached side some within takes puts deletes x room =
    let f = index_taken g w p r1 st s m d0 m0 k u v takes x (omega (arith, room)) in
    let rise = takes.rise in
    let a1 = puts.loads.rise in
    let a2 = puts.exchanges.rise in
    let a3 = puts.puts.rise in
    let a4 = puts.stores.rise in
    let end = deletes.rise in
    let many = w.enough in
    let o : Outcome (Unit {0}) = then_go (led_located far t (Some place) u s) (λ y x. store_field y start size (v ∷ []) x) in
    then_follows g w (pos r1 - pos p) 0 w.reach (pos q - pos r1) 0 w.reach (pos q - pos p) 0 w.reach (tally s) m (tally s) f.0 (Completes st q k d0 m0) NoExit o f.1
    (tail_follows g w (pos r2 - pos r1) 0 w.reach (pos q - pos r2) 0 w.reach (pos q - pos r1) 0 w.reach (tally s) f.0 (Completes st r2 (k + 1) s.now f.0)
    (Completes st q k d0 m0) NoExit o
    (field_follows g w r1 r2 st t (mode_of k place) true true (k + 1) v start size s.now f.0 s f.0 (led_located far t (Some place) u s) puts one some within
    (storing_value st r1 (k + 1) s.now f.0 v s f.0 f.2.stores refl x.silent) room
    (λ m1 same kept matches. place_refers st t far true u k (k + 1 + 1) place s (at_left m1) reached side matches (omega (arith, room))
    (λ cell. indexed_element t cell u (at_left m1) (same ∙ f.2.index))))
    (λ e s1 m1 b fewer. index_deleted g w r2 q st k d0 m0 s.now f.0 s1 m1 deletes f.2.kept b)
    (omega (arith, a1, a2, a3, a4, end)) (omega arith) (omega (arith, many)) (omega (arith, many)))
    (omega (arith, rise, a1, a2, a3, a4, end)) (omega (arith, many)) (omega (arith, many))

-- a value by its words, of which there is one
element_by : (g : Ground) (w : Rate) (p r1 r2 q : Spot) (st : Setting) (t : Kind) (far : Bool) (place : Place) (k u : ℕ) (vs : List ℕ) (start size : ℕ) (d0 : Data)
    (m0 : Machine) (s : State) (m : Machine) → is_word_kind t ≡ true → is_reached st k place ≡ true → far ≡ st.split → 1 ≤ size → start + size ≤ 16
    → Leads g (on p) r1 (doing g.segments (instr.Memory 11 true false false (SMinus 1)) r1) → Deposits g r1 r2 start size (mode_of k place) true true
    → Leads g (on r2) q (doing g.segments (instr.Pair (op 0o40) (op 0)) q) → length vs ≡ 1 → IsValue st p 2 k d0 m0 (u ∷ vs) s m
    → s.now.top + (k + 1 + 1 + 1) ≤ s.now.stack
    → Follows g w (pos q - pos p) 0 w.reach (tally s) m (Completes st q k d0 m0) NoExit
    (then_go (led_located far t (Some place) u s) (λ y x. store_field y start size vs x))
element_by g w p r1 r2 q st t far place k u (v ∷ []) start size d0 m0 s m one reached side some within takes puts deletes wide x room =
    element_put g w p r1 r2 q st t far place k u v start size d0 m0 s m one reached side some within takes puts deletes x room
element_by g w p r1 r2 q st t far place k u [] start size d0 m0 s m one reached side some within takes puts deletes wide x room = absurd (omega (arith, wide))
element_by g w p r1 r2 q st t far place k u (v ∷ v' ∷ vs) start size d0 m0 s m one reached side some within takes puts deletes wide x room = absurd (omega (arith, wide))

-- the four instructions, with a stack operation behind them
pub in_order_before : (g : Ground) (sites : Sites) (p q : Spot) (start size : ℕ) (x : Bool) (n : ℕ) (mode : Mode)
    → Stands g sites (on p) (deposited start size true x mode ++ operate n ∷ []) q
    → (r : Spot) × Deposits g p r start size mode true x × Leads g (on r) q (doing g.segments (instr.Pair (op n) (op 0)) q)
in_order_before g sites p q start size x n mode stands = (
  stands.2.2.2.0,
  record {
    first = stands.0;
    second = stands.2.0;
    third = stands.2.2.0;
    loads = stands.1;
    exchanges = stands.2.1;
    puts = stands.2.2.1;
    stores = stands.2.2.2.1;
  },
  last_leads g sites (on stands.2.2.2.0) (instr.Pair (op n) (op 0)) q stands.2.2.2.2,
)

pub elements_assigned : FieldsOfElementsAssigned
elements_assigned z d k need more number start size at far t place a b index value within one reached side enough fits wa wb sa sb =
    let two = both (nat_le 1 size) (nat_le (start + size) 16) within in
    element_stored_by z d k need more 1 number at a b (LDX (SMinus 1) ∷ deposited start size true true (mode_of k place) ++ DEL ∷ []) index value
    (λ i vs w. then_go (led_located far t (Some place) i w) (λ p x. store_field p start size vs x)) fits wa wb sa sb
    (λ p q u vs s m d0 m0 stands wide is room.
    let cut = in_order_before z.ground z.sites stands.0 q start size true 0o40 (mode_of k place) stands.2 in
    element_by z.ground z.rate p stands.0 cut.0 q z.setting t far place k u vs start size d0 m0 s m one reached side (leb-true 1 size two.0)
    (leb-true (start + size) 16 two.1) stands.1 cut.1 cut.2 wide is (omega (arith, room, enough)))
