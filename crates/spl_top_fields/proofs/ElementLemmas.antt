-- Bit fields of elements, at places that are seen: where they are counted from the top, the name's word is brought between the index and the value.
use Rattle.std.proofs.Common.{◌≡◌, ℕ, ◌+◌, ◌-◌, ◌≤◌, Bool, true, false, List, [], ◌∷◌, ◌++◌, length, refl, subst, ◌∙◌, arith}
use Rattle.std.specs.Prelude.{Some, nat_le}
use Rattle.std.proofs.lemmas.Bool.{leb-true}
use Rattle.spl_field_stores.specs.hp_instr.declared.instruction.Instr.TheVariants as instr
use Rattle.spl_field_stores.specs.hp_instr.declared.instruction.Mode.TheVariants.{SMinus}
use Rattle.spl_field_stores.specs.hp_instr.Instructions.{op}
use Rattle.spl_field_stores.specs.hp_session.State.{Machine}
use Rattle.spl_field_stores.specs.hp_flat.Step.{at_left}
use Rattle.spl_field_stores.specs.spl_tree.declared.expressions.Kind.{Kind}
use Rattle.spl_field_stores.specs.spl_tree.declared.expressions.Kind.TheVariants as kind
use Rattle.spl_field_stores.specs.spl_tree.declared.names_and_places.At.{At}
use Rattle.spl_field_stores.specs.spl_branch.declared.pieces.Piece.TheVariants.{Begin}
use Rattle.spl_field_stores.specs.spl_meaning.Places.{data_word, above_base, below_base, below_return}
use Rattle.spl_field_stores.specs.spl_meaning.References.{Setting, element_located, led_located, index_or_zero, word_at, store_field}
use Rattle.spl_field_stores.specs.spl_meaning.States.{Data, State, Outcome, then_go, stopping}
use Rattle.spl_field_stores.specs.spl_meaning.Values.{as_index}
use Rattle.spl_field_stores.specs.spl_code.Code.{as_value}
use Rattle.spl_field_stores.specs.spl_code.Instructions.{LDX, DDEL}
use Rattle.spl_field_stores.specs.spl_code.Operands.{mode_of}
use Rattle.spl_field_stores.specs.spl_code.Parts.{Part, pieces, piece, ◌⨟◌}
use Rattle.spl_field_stores.specs.spl_code.Stores.{cell_under, deposited, element_field}
use Rattle.spl_field_stores.specs.spl_follow.Spots.{Spot, pos, on, Ground}
use Rattle.spl_field_stores.specs.spl_follow.Leading.{Leads}
use Rattle.spl_field_stores.specs.spl_follow.Matching.{IsValue}
use Rattle.spl_field_stores.specs.spl_follow.Following.{Rate, tally, Follows, NoExit}
use Rattle.spl_field_stores.specs.spl_follow.Doing.{doing}
use Rattle.spl_field_stores.specs.spl_follow.Standing.{Sites, Stands}
use Rattle.spl_field_stores.specs.spl_follow.Parts.{Completes}
use Rattle.spl_field_stores.specs.spl_follow.Simulating.{Surroundings, Simulates, Performs}
use Rattle.spl_field_stores.proofs.spl_follow_proofs.FollowLemmas.{then_follows, bind_follows, tail_follows}
use Rattle.spl_field_stores.proofs.spl_follow_proofs.KeepLemmas.{kept_top, kept_stack}
use Rattle.spl_field_stores.proofs.spl_follow_proofs.PartLemmas.{stand_in_order}
use Rattle.spl_field_stores.specs.spl_values.Reached.{is_word_kind, IsWhole}
use Rattle.spl_field_stores.proofs.spl_values_proofs.VariableLemmas.{both}
use Rattle.spl_field_stores.proofs.spl_operands_proofs.OperandLemmas.{indexed_element}
use Rattle.spl_field_stores.proofs.spl_operands_proofs.AssignLemmas.{element_stored_by}
use Rattle.spl_field_stores.specs.Laws.{is_within}
use Rattle.spl_field_stores.proofs.DepositLemmas.{Deposits}
use Rattle.spl_field_stores.proofs.FieldLemmas.{in_order_before, elements_assigned}
use Rattle.spl_tops.proofs.SeenLemmas.{IsBelow, below_is}
use Rattle.spl_tops.proofs.UnderLemmas.{cell_under_closed, value_under_follows}
use Rattle.spl_top_fields.specs.Laws.{FieldsOfElementsPut}
use Rattle.spl_top_fields.proofs.WaitLemmas.{HasX, value_above, lower_word, x_taken, pair_deleted, under_put}
use Rattle.spl_top_fields.proofs.CellLemmas.{led_same}

-- ---- the pieces

-- where LDX, the four instructions and DDEL stand behind the name's word
record Puts (g : Ground) (p q : Spot) (start size : ℕ) : Type 0 where
  first : Spot
  last : Spot
  takes : Leads g (on p) first (doing g.segments (instr.Memory 11 true false false (SMinus 2)) first)
  puts : Deposits g first last start size (SMinus 1) true true
  deletes : Leads g (on last) q (doing g.segments (instr.Pair (op 0o02) (op 0)) q)

-- they are all of them
puts_stand : (g : Ground) (sites : Sites) (p q : Spot) (start size : ℕ)
    → Stands g sites (on p) (LDX (SMinus 2) ∷ deposited start size true true (SMinus 1) ++ DDEL ∷ []) q → Puts g p q start size
puts_stand g sites p q start size stands =
    let rest = in_order_before g sites stands.0 q start size true 0o02 (SMinus 1) stands.2 in
    record { first = stands.0; last = rest.0; takes = stands.1; puts = rest.1; deletes = rest.2 }

puts_rise : (g : Ground) (p q : Spot) (start size : ℕ) → Puts g p q start size → pos p ≤ pos q
puts_rise g p q start size l =
    let rise = l.takes.rise in
    let a1 = l.puts.loads.rise in
    let a2 = l.puts.exchanges.rise in
    let a3 = l.puts.puts.rise in
    let a4 = l.puts.stores.rise in
    let end = l.deletes.rise in
    omega (arith, rise, a1, a2, a3, a4, end)

-- ---- the store

-- behind the index in X: the four instructions through the word below the value, and DDEL
put_deleted : (g : Ground) (w : Rate) (p q : Spot) (st : Setting) (t : Kind) (far : Bool) (k u c v start size : ℕ) (s : State) (m : Machine) (d0 : Data)
    (m0 : Machine) → (l : Puts g p q start size) → is_word_kind t ≡ true → 1 ≤ size → start + size ≤ 16 → far ≡ st.split
    → HasX st l.first 3 k d0 m0 (u ∷ c ∷ v ∷ []) u s m → s.now.top + (k + 4) ≤ s.now.stack
    → Follows g w (pos q - pos l.first) 0 w.reach (tally s) m (Completes st q k d0 m0) NoExit (store_field (element_located far t c u) start size (v ∷ []) s)
put_deleted g w p q st t far k u c v start size s m d0 m0 l one some within side x room =
    let a1 = l.puts.loads.rise in
    let a2 = l.puts.exchanges.rise in
    let a3 = l.puts.puts.rise in
    let a4 = l.puts.stores.rise in
    let end = l.deletes.rise in
    let many = w.enough in
    tail_follows g w (pos l.last - pos l.first) 0 w.reach (pos q - pos l.last) 0 w.reach (pos q - pos l.first) 0 w.reach (tally s) m
    (Completes st l.last (k + 1 + 1) s.now m) (Completes st q k d0 m0) NoExit (store_field (element_located far t c u) start size (v ∷ []) s)
    (under_put g w l.first l.last st t far true (k + 1) u c v start size s m s.now m l.puts one some within side
    (value_above st l.first k 2 u (c ∷ v ∷ []) s m d0 m0 x.0) (λ m1 same. indexed_element t c u (at_left m1) (same ∙ x.1)) (omega (arith, room)))
    (λ e s1 m1 y fewer. pair_deleted g w l.last q st k d0 m0 s.now m s1 m1 l.deletes x.0.kept y)
    (omega (arith, a1, a2, a3, a4, end)) (omega arith) (omega (arith, many)) (omega (arith, many))

-- behind the name's word
element_put : (g : Ground) (w : Rate) (p q : Spot) (st : Setting) (t : Kind) (far : Bool) (k u c v start size : ℕ) (s : State) (m : Machine) (d0 : Data)
    (m0 : Machine) → Puts g p q start size → is_word_kind t ≡ true → 1 ≤ size → start + size ≤ 16 → far ≡ st.split
    → IsValue st p 3 k d0 m0 (u ∷ c ∷ v ∷ []) s m → s.now.top + (k + 4) ≤ s.now.stack
    → Follows g w (pos q - pos p) 0 w.reach (tally s) m (Completes st q k d0 m0) NoExit (store_field (element_located far t c u) start size (v ∷ []) s)
element_put g w p q st t far k u c v start size s m d0 m0 l one some within side x room =
    let f = x_taken g w p l.first st 3 k k 2 u (u ∷ c ∷ v ∷ []) s m d0 m0 l.takes x (omega arith) (lower_word st p k 3 u (c ∷ v ∷ []) s m d0 m0 x)
    (omega (arith, room)) in
    let rise = l.takes.rise in
    let a1 = l.puts.loads.rise in
    let a2 = l.puts.exchanges.rise in
    let a3 = l.puts.puts.rise in
    let a4 = l.puts.stores.rise in
    let end = l.deletes.rise in
    let many = w.enough in
    then_follows g w (pos l.first - pos p) 0 w.reach (pos q - pos l.first) 0 w.reach (pos q - pos p) 0 w.reach (tally s) m (tally s) f.0
    (Completes st q k d0 m0) NoExit (store_field (element_located far t c u) start size (v ∷ []) s) f.1
    (put_deleted g w p q st t far k u c v start size s f.0 d0 m0 l one some within side f.2 room)
    (omega (arith, rise, a1, a2, a3, a4, end)) (omega (arith, many)) (omega (arith, many))

-- ---- all of it

-- behind the value
element_by : (g : Ground) (w : Rate) (sites : Sites) (p r q : Spot) (st : Setting) (t : Kind) (far : Bool) (k n u : ℕ) (vs : List ℕ) (start size : ℕ)
    (s : State) (m : Machine) (d0 : Data) (m0 : Machine) → Stands g sites (on p) (cell_under kind.Integer 2 (mode_of k (below_return n))) r → pos p ≤ pos r
    → Puts g r q start size → is_word_kind t ≡ true → 1 ≤ size → start + size ≤ 16 → far ≡ st.split → IsBelow st k n → length vs ≡ 1
    → IsValue st p 2 k d0 m0 (u ∷ vs) s m → s.now.top + (k + 4) ≤ s.now.stack
    → Follows g w (pos q - pos p) 0 w.reach (tally s) m (Completes st q k d0 m0) NoExit
    (then_go (led_located far t (Some (below_return n)) u s) (λ y x. store_field y start size vs x))
element_by g w sites p r q st t far k n u (v ∷ []) start size s m d0 m0 under first l one some within side below wide x room =
    let o = word_at false (s.now.inner - n) s in
    let rise = puts_rise g r q start size l in
    let many = w.enough in
    subst (λ (a : Outcome (Unit {0})). Follows g w (pos q - pos p) 0 w.reach (tally s) m (Completes st q k d0 m0) NoExit a)
    (led_same far t u start size (v ∷ []) o)
    (bind_follows g w (pos r - pos p) 0 w.reach (pos q - pos r) 0 w.reach (pos q - pos p) 0 w.reach (tally s) m
    (λ c s1 m1. IsValue st r 3 k d0 m0 (u ∷ c ∷ v ∷ []) s1 m1) (Completes st q k d0 m0) NoExit o
    (λ c y. store_field (element_located far t c u) start size (v ∷ []) y)
    (value_under_follows g w sites p r st kind.Integer k 2 n (u ∷ []) (v ∷ []) s m d0 m0 refl below (omega (arith, room)) under x)
    (λ c s1 m1 y fewer.
    let top = kept_top (d0.top + k) d0 m0.stack s.now m.stack x.kept in
    let stack = kept_stack (d0.top + k) d0 m0.stack s.now m.stack x.kept in
    let top' = kept_top (d0.top + k) d0 m0.stack s1.now m1.stack y.kept in
    let stack' = kept_stack (d0.top + k) d0 m0.stack s1.now m1.stack y.kept in
    element_put g w r q st t far k u c v start size s1 m1 d0 m0 l one some within side y (omega (arith, room, top, stack, top', stack')))
    (omega (arith, first, rise)) (omega arith) (omega (arith, many)) (omega (arith, many)))
element_by g w sites p r q st t far k n u [] start size s m d0 m0 under first l one some within side below wide x room = absurd (omega (arith, wide))
element_by g w sites p r q st t far k n u (v ∷ e ∷ vs) start size s m d0 m0 under first l one some within side below wide x room = absurd (omega (arith, wide))

elements_below : (z : Surroundings) (d k need more number start size : ℕ) (at : At) (far : Bool) (t : Kind) (n : ℕ) (a b : Part)
    (index value : State → Outcome (List ℕ)) → is_within start size ≡ true → is_word_kind t ≡ true → IsBelow z.setting k n → far ≡ z.setting.split
    → 4 ≤ need → more + 1 ≤ need → IsWhole a → IsWhole b → Simulates z d as_value 1 k need a index → Simulates z d as_value 1 (k + 1) more b value
    → Performs z d k need (piece (Begin at) ⨟ (a ⨟ b ⨟ pieces (element_field start size true (mode_of k (below_return n)))))
    (λ s. stopping number at s (λ u. then_go (then_go (index u) as_index) (λ i v. then_go (value v) (λ vs w.
    then_go (led_located far t (Some (below_return n)) (index_or_zero i) w) (λ p x. store_field p start size vs x)))))
elements_below z d k need more number start size at far t n a b index value within one below side enough fits wa wb sa sb =
    let two = both (nat_le 1 size) (nat_le (start + size) 16) within in
    let mode = mode_of k (below_return n) in
    element_stored_by z d k need more 1 number at a b (element_field start size true mode) index value
    (λ i vs w. then_go (led_located far t (Some (below_return n)) i w) (λ p x. store_field p start size vs x)) fits wa wb sa sb
    (λ p q u vs s m d0 m0 stands wide is room.
    let cut = stand_in_order z.ground z.sites (cell_under kind.Integer 2 mode) (LDX (SMinus 2) ∷ deposited start size true true (SMinus 1) ++ DDEL ∷ []) (on p)
    q (cell_under_closed kind.Integer 2 mode) stands in
    element_by z.ground z.rate z.sites p cut.0 q z.setting t far k n u vs start size s m d0 m0 cut.1 cut.3
    (puts_stand z.ground z.sites cut.0 q start size cut.2) one (leb-true 1 size two.0) (leb-true (start + size) 16 two.1) side below
    wide is (omega (arith, room, enough)))

-- by the place
pub elements_put : FieldsOfElementsPut
elements_put z d k need more number start size at far t (data_word o) a b index value within one seen side enough fits wa wb sa sb =
    elements_assigned z d k need more number start size at far t (data_word o) a b index value within one seen side (omega (arith, enough)) fits wa wb sa sb
elements_put z d k need more number start size at far t (above_base o) a b index value within one seen side enough fits wa wb sa sb =
    elements_assigned z d k need more number start size at far t (above_base o) a b index value within one seen side (omega (arith, enough)) fits wa wb sa sb
elements_put z d k need more number start size at far t (below_base o) a b index value within one seen side enough fits wa wb sa sb =
    elements_assigned z d k need more number start size at far t (below_base o) a b index value within one seen side (omega (arith, enough)) fits wa wb sa sb
elements_put z d k need more number start size at far t (below_return n) a b index value within one seen side enough fits wa wb sa sb =
    elements_below z d k need more number start size at far t n a b index value within one (below_is z.setting k n seen) side enough fits wa wb sa sb
