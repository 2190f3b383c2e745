-- Bit fields of the word to which the word of a name leads, at places that are seen: where they are counted from the top, that word is brought below
-- the value first.
use Rattle.std.proofs.Common.{◌≡◌, ℕ, ◌+◌, ◌-◌, ◌≤◌, Bool, true, false, List, [], ◌∷◌, ◌++◌, refl, subst, arith}
use Rattle.std.specs.Prelude.{Some, nat_le}
use Rattle.std.proofs.lemmas.Bool.{leb-true}
use Rattle.spl_field_stores.specs.hp_instr.declared.instruction.Instr.TheVariants as instr
use Rattle.spl_field_stores.specs.hp_instr.declared.instruction.Mode.TheVariants.{SMinus}
use Rattle.spl_field_stores.specs.hp_instr.Instructions.{op}
use Rattle.spl_field_stores.specs.hp_session.State.{Machine}
use Rattle.spl_field_stores.specs.hp_flat.Step.{at_left}
use Rattle.spl_field_stores.specs.spl_tree.declared.expressions.Kind.{Kind}
use Rattle.spl_field_stores.specs.spl_tree.declared.expressions.Kind.TheVariants as kind
use Rattle.spl_field_stores.specs.spl_tree.declared.names_and_places.At.{At}
use Rattle.spl_field_stores.specs.spl_branch.declared.pieces.Piece.TheVariants.{Begin}
use Rattle.spl_field_stores.specs.spl_meaning.Places.{data_word, above_base, below_base, below_return}
use Rattle.spl_field_stores.specs.spl_meaning.References.{Setting, element_located, led_located, word_at, store_field}
use Rattle.spl_field_stores.specs.spl_meaning.States.{Data, State, Outcome, done, leaves, spent, ends, strays, then_go, stopping}
use Rattle.spl_field_stores.specs.spl_code.Code.{as_value}
use Rattle.spl_field_stores.specs.spl_code.Instructions.{DEL}
use Rattle.spl_field_stores.specs.spl_code.Operands.{mode_of}
use Rattle.spl_field_stores.specs.spl_code.Parts.{Part, pieces, piece, nothing, ◌⨟◌}
use Rattle.spl_field_stores.specs.spl_code.Stores.{cell_under, deposited, cell_field}
use Rattle.spl_field_stores.specs.spl_follow.Spots.{Spot, pos, on, Ground}
use Rattle.spl_field_stores.specs.spl_follow.Leading.{Leads}
use Rattle.spl_field_stores.specs.spl_follow.Matching.{IsValue}
use Rattle.spl_field_stores.specs.spl_follow.Following.{Rate, tally, Follows, NoExit}
use Rattle.spl_field_stores.specs.spl_follow.Doing.{doing}
use Rattle.spl_field_stores.specs.spl_follow.Standing.{Sites, Stands}
use Rattle.spl_field_stores.specs.spl_follow.Parts.{Completes}
use Rattle.spl_field_stores.specs.spl_follow.Simulating.{Surroundings, Simulates, Performs}
use Rattle.spl_field_stores.proofs.spl_follow_proofs.FollowLemmas.{bind_follows, tail_follows}
use Rattle.spl_field_stores.proofs.spl_follow_proofs.KeepLemmas.{kept_top, kept_stack}
use Rattle.spl_field_stores.proofs.spl_follow_proofs.PartLemmas.{stand_in_order}
use Rattle.spl_field_stores.specs.spl_values.Reached.{is_word_kind, IsWhole}
use Rattle.spl_field_stores.proofs.spl_values_proofs.VariableLemmas.{both}
use Rattle.spl_field_stores.proofs.spl_operands_proofs.OperandLemmas.{first_element}
use Rattle.spl_field_stores.proofs.spl_operands_proofs.StoreLemmas.{index_deleted}
use Rattle.spl_field_stores.proofs.spl_operands_proofs.AssignLemmas.{value_stored}
use Rattle.spl_field_stores.specs.Laws.{is_within}
use Rattle.spl_field_stores.proofs.DepositLemmas.{Deposits}
use Rattle.spl_field_stores.proofs.FieldLemmas.{in_order_before, cells_assigned}
use Rattle.spl_tops.proofs.SeenLemmas.{IsBelow, below_is}
use Rattle.spl_tops.proofs.UnderLemmas.{cell_under_closed, value_under_follows}
use Rattle.spl_top_fields.specs.Laws.{FieldsOfCellsPut}
use Rattle.spl_top_fields.proofs.WaitLemmas.{under_put}

-- The four instructions through the word below the value, and DEL.
put_deleted : (g : Ground) (w : Rate) (p r q : Spot) (st : Setting) (t : Kind) (far : Bool) (k c v start size : ℕ) (s : State) (m : Machine) (d0 : Data)
    (m0 : Machine) → Deposits g p r start size (SMinus 1) true false → Leads g (on r) q (doing g.segments (instr.Pair (op 0o40) (op 0)) q)
    → is_word_kind t ≡ true → 1 ≤ size → start + size ≤ 16 → far ≡ st.split → IsValue st p 2 k d0 m0 (c ∷ v ∷ []) s m
    → s.now.top + (k + 1 + 1 + 1) ≤ s.now.stack
    → Follows g w (pos q - pos p) 0 w.reach (tally s) m (Completes st q k d0 m0) NoExit (store_field (element_located far t c 0) start size (v ∷ []) s)
put_deleted g w p r q st t far k c v start size s m d0 m0 l deletes one some within side x room =
    let a1 = l.loads.rise in
    let a2 = l.exchanges.rise in
    let a3 = l.puts.rise in
    let a4 = l.stores.rise in
    let end = deletes.rise in
    let many = w.enough in
    tail_follows g w (pos r - pos p) 0 w.reach (pos q - pos r) 0 w.reach (pos q - pos p) 0 w.reach (tally s) m (Completes st r (k + 1) s.now m)
    (Completes st q k d0 m0) NoExit (store_field (element_located far t c 0) start size (v ∷ []) s)
    (under_put g w p r st t far false k 0 c v start size s m d0 m0 l one some within side x (λ m1 same. first_element t c (at_left m1)) room)
    (λ e s1 m1 y fewer. index_deleted g w r q st k d0 m0 s.now m s1 m1 deletes x.kept y)
    (omega (arith, a1, a2, a3, a4, end)) (omega arith) (omega (arith, many)) (omega (arith, many))

-- what comes of the name's word is what comes of where it leads
pub led_same : (far : Bool) (t : Kind) (i start size : ℕ) (vs : List ℕ) (o : Outcome ℕ)
    → then_go o (λ c u. store_field (element_located far t c i) start size vs u)
    ≡ then_go (then_go o (λ c u. done (element_located far t c i) u)) (λ y u. store_field y start size vs u)
led_same far t i start size vs (done c s) = refl
led_same far t i start size vs (leaves x s) = refl
led_same far t i start size vs (spent s) = refl
led_same far t i start size vs (ends e s) = refl
led_same far t i start size vs (strays s) = refl

-- all of it, behind a value
cell_put : (g : Ground) (w : Rate) (sites : Sites) (p r1 r2 q : Spot) (st : Setting) (t : Kind) (far : Bool) (k n : ℕ) (vs : List ℕ) (start size : ℕ)
    (s : State) (m : Machine) (d0 : Data) (m0 : Machine) → Stands g sites (on p) (cell_under kind.Integer 1 (mode_of k (below_return n))) r1 → pos p ≤ pos r1
    → Deposits g r1 r2 start size (SMinus 1) true false → Leads g (on r2) q (doing g.segments (instr.Pair (op 0o40) (op 0)) q) → is_word_kind t ≡ true
    → 1 ≤ size → start + size ≤ 16 → far ≡ st.split → IsBelow st k n → IsValue st p 1 k d0 m0 vs s m → s.now.top + (k + 1 + 1 + 1) ≤ s.now.stack
    → Follows g w (pos q - pos p) 0 w.reach (tally s) m (Completes st q k d0 m0) NoExit
    (then_go (led_located far t (Some (below_return n)) 0 s) (λ y u. store_field y start size vs u))
cell_put g w sites p r1 r2 q st t far k n (v ∷ []) start size s m d0 m0 under first l deletes one some within side below x room =
    let o = word_at false (s.now.inner - n) s in
    let a1 = l.loads.rise in
    let a2 = l.exchanges.rise in
    let a3 = l.puts.rise in
    let a4 = l.stores.rise in
    let end = deletes.rise in
    let many = w.enough in
    subst (λ (a : Outcome (Unit {0})). Follows g w (pos q - pos p) 0 w.reach (tally s) m (Completes st q k d0 m0) NoExit a)
    (led_same far t 0 start size (v ∷ []) o)
    (bind_follows g w (pos r1 - pos p) 0 w.reach (pos q - pos r1) 0 w.reach (pos q - pos p) 0 w.reach (tally s) m
    (λ c s1 m1. IsValue st r1 2 k d0 m0 (c ∷ v ∷ []) s1 m1) (Completes st q k d0 m0) NoExit o
    (λ c u. store_field (element_located far t c 0) start size (v ∷ []) u)
    (value_under_follows g w sites p r1 st kind.Integer k 1 n [] (v ∷ []) s m d0 m0 refl below (omega (arith, room)) under x)
    (λ c s1 m1 y fewer.
    let top = kept_top (d0.top + k) d0 m0.stack s.now m.stack x.kept in
    let stack = kept_stack (d0.top + k) d0 m0.stack s.now m.stack x.kept in
    let top' = kept_top (d0.top + k) d0 m0.stack s1.now m1.stack y.kept in
    let stack' = kept_stack (d0.top + k) d0 m0.stack s1.now m1.stack y.kept in
    put_deleted g w r1 r2 q st t far k c v start size s1 m1 d0 m0 l deletes one some within side y (omega (arith, room, top, stack, top', stack')))
    (omega (arith, first, a1, a2, a3, a4, end)) (omega arith) (omega (arith, many)) (omega (arith, many)))
cell_put g w sites p r1 r2 q st t far k n [] start size s m d0 m0 under first l deletes one some within side below x room =
    let wide = x.wide in absurd (omega (arith, wide))
cell_put g w sites p r1 r2 q st t far k n (v ∷ e ∷ vs) start size s m d0 m0 under first l deletes one some within side below x room =
    let wide = x.wide in absurd (omega (arith, wide))

cells_below : (z : Surroundings) (d k need number start size : ℕ) (at : At) (far : Bool) (t : Kind) (n : ℕ) (a : Part) (value : State → Outcome (List ℕ))
    → is_within start size ≡ true → is_word_kind t ≡ true → IsBelow z.setting k n → far ≡ z.setting.split → 3 ≤ need → IsWhole a
    → Simulates z d as_value 1 k need a value
    → Performs z d k need (piece (Begin at) ⨟ (nothing ⨟ a ⨟ pieces (cell_field start size true (mode_of k (below_return n)))))
    (λ s. stopping number at s (λ u. then_go (value u) (λ vs v.
    then_go (led_located far t (Some (below_return n)) 0 v) (λ p x. store_field p start size vs x))))
cells_below z d k need number start size at far t n a value within one below side enough whole sim =
    let two = both (nat_le 1 size) (nat_le (start + size) 16) within in
    let mode = mode_of k (below_return n) in
    value_stored z d k need 1 number at a (cell_field start size true mode) value
    (λ vs v. then_go (led_located far t (Some (below_return n)) 0 v) (λ p x. store_field p start size vs x)) whole sim
    (λ p q vs s m d0 m0 stands is room.
    let cut = stand_in_order z.ground z.sites (cell_under kind.Integer 1 mode) (deposited start size true false (SMinus 1) ++ DEL ∷ []) (on p) q
    (cell_under_closed kind.Integer 1 mode) stands in
    let rest = in_order_before z.ground z.sites cut.0 q start size false 0o40 (SMinus 1) cut.2 in
    cell_put z.ground z.rate z.sites p cut.0 rest.0 q z.setting t far k n vs start size s m d0 m0 cut.1 cut.3 rest.1 rest.2 one (leb-true 1 size two.0)
    (leb-true (start + size) 16 two.1) side below is (omega (arith, room, enough)))

-- by the place
pub cells_put : FieldsOfCellsPut
cells_put z d k need number start size at far t (data_word b) a value within one seen side enough whole sim =
    cells_assigned z d k need number start size at far t (data_word b) a value within one seen side (omega (arith, enough)) whole sim
cells_put z d k need number start size at far t (above_base b) a value within one seen side enough whole sim =
    cells_assigned z d k need number start size at far t (above_base b) a value within one seen side (omega (arith, enough)) whole sim
cells_put z d k need number start size at far t (below_base b) a value within one seen side enough whole sim =
    cells_assigned z d k need number start size at far t (below_base b) a value within one seen side (omega (arith, enough)) whole sim
cells_put z d k need number start size at far t (below_return n) a value within one seen side enough whole sim =
    cells_below z d k need number start size at far t n a value within one (below_is z.setting k n seen) side enough whole sim
