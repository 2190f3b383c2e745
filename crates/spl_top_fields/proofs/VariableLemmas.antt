-- Bit fields of variables at places that are seen: where they are counted from the top, X takes the mode back.
use Rattle.std.proofs.Common.{◌≡◌, ℕ, ◌+◌, ◌-◌, ◌<◌, ◌≤◌, true, false, List, ◌∷◌, refl, ◌∙◌, arith}
use Rattle.std.specs.Prelude.{Some, None, nat_le}
use Rattle.std.proofs.lemmas.Bool.{leb-true, false≢true}
use Rattle.spl_field_stores.specs.hp_instr.declared.instruction.Mode.{Mode}
use Rattle.spl_field_stores.specs.hp_session.State.{Machine}
use Rattle.spl_field_stores.specs.hp_word_rows.WordRows.{minus}
use Rattle.spl_field_stores.specs.hp_flat.Step.{at_left}
use Rattle.spl_field_stores.specs.spl_tree.declared.expressions.Kind.{Kind}
use Rattle.spl_field_stores.specs.spl_tree.declared.expressions.Kind.TheVariants as kind
use Rattle.spl_field_stores.specs.spl_tree.declared.names_and_places.At.{At}
use Rattle.spl_field_stores.specs.spl_branch.declared.pieces.Piece.TheVariants.{Begin}
use Rattle.spl_field_stores.specs.spl_meaning.Places.{data_word, above_base, below_base, below_return}
use Rattle.spl_field_stores.specs.spl_meaning.References.{Setting, its_own, address_of, variable_address, variable_located, own_located, store_field}
use Rattle.spl_field_stores.specs.spl_meaning.States.{Data, State, Outcome, then_go, stopping}
use Rattle.spl_field_stores.specs.spl_code.Code.{as_value}
use Rattle.spl_field_stores.specs.spl_code.Instructions.{LDXN}
use Rattle.spl_field_stores.specs.spl_code.Operands.{mode_of}
use Rattle.spl_field_stores.specs.spl_code.Parts.{Part, pieces, piece, nothing, ◌⨟◌}
use Rattle.spl_field_stores.specs.spl_code.Stores.{deposited, field_stored}
use Rattle.spl_field_stores.specs.spl_follow.Spots.{Spot, pos, Ground}
use Rattle.spl_field_stores.specs.spl_follow.Following.{Rate, tally, Follows, NoExit}
use Rattle.spl_field_stores.specs.spl_follow.Parts.{Completes}
use Rattle.spl_field_stores.specs.spl_follow.Simulating.{Surroundings, Simulates, Performs}
use Rattle.spl_field_stores.proofs.spl_follow_proofs.FollowLemmas.{then_follows}
use Rattle.spl_field_stores.specs.spl_values.Reached.{is_word_kind, IsWhole}
use Rattle.spl_field_stores.proofs.spl_values_proofs.VariableLemmas.{both}
use Rattle.spl_field_stores.specs.spl_operands.Operands.{Based, Finds}
use Rattle.spl_field_stores.proofs.spl_operands_proofs.AssignLemmas.{value_stored}
use Rattle.spl_field_stores.specs.Laws.{is_within}
use Rattle.spl_field_stores.proofs.DepositLemmas.{Deposits}
use Rattle.spl_field_stores.proofs.FieldLemmas.{field_by, in_order, variables_assigned}
use Rattle.spl_tops.proofs.SeenLemmas.{IsBelow, below_is, below_based, below_low}
use Rattle.spl_tops.proofs.StoreLemmas.{Down, x_down, down_finds}
use Rattle.spl_top_fields.specs.Laws.{FieldsOfVariablesPut}

-- where a mode names the word above a variable of one word, its operand with X is the variable's
word_finds : (t : Kind) (mode : Mode) (a : ℕ) (m : Machine) → is_word_kind t ≡ true → Based mode (a + 1) m → a < 32000 → m.regs.x ≡ minus 1
    → Finds t mode false true false (variable_address t a) m
word_finds kind.Integer mode a m one b low e = down_finds kind.Integer mode a m b low e
word_finds kind.Logical mode a m one b low e = down_finds kind.Logical mode a m b low e
word_finds kind.Byte mode a m one b low e = absurd (false≢true one)
word_finds kind.Double mode a m one b low e = absurd (false≢true one)

-- and so the four instructions
field_put : (g : Ground) (w : Rate) (p q : Spot) (st : Setting) (t : Kind) (k n : ℕ) (vs : List ℕ) (start size : ℕ) (s : State) (m : Machine) (d0 : Data)
    (m0 : Machine) → Deposits g p q start size (mode_of k (below_return n)) false true → is_word_kind t ≡ true → 1 ≤ size → start + size ≤ 16
    → IsBelow st k n → Down st p 1 k d0 m0 vs 1 s m → s.now.top + (k + 1 + 1) ≤ s.now.stack
    → Follows g w (pos q - pos p) 0 w.reach (tally s) m (Completes st q k d0 m0) NoExit
    (store_field (variable_located t (address_of (below_return n) s.now)) start size vs s)
field_put g w p q st t k n vs start size s m d0 m0 l one some within below x room =
    let mode = mode_of k (below_return n) in
    let a = s.now.inner - n in
    field_by g w p q st t mode false true k vs start size d0 m0 s m (own_located t (Some (below_return n)) None s) l one some within x.0 room
    (λ m1 same kept matches. (
      refl,
      refl,
      word_finds t mode a (at_left m1) one (below_based st s.now k 1 n (at_left m1) below matches (omega (arith, room)))
          (below_low st s.now k (k + 1) n (at_left m1) below matches) (same ∙ x.1),
    ))

-- LDXN and they, behind the value
variables_below : (z : Surroundings) (d k need number start size : ℕ) (at : At) (t : Kind) (n : ℕ) (a : Part) (value : State → Outcome (List ℕ))
    → is_within start size ≡ true → is_word_kind t ≡ true → IsBelow z.setting k n → 2 ≤ need → IsWhole a → Simulates z d as_value 1 k need a value
    → Performs z d k need (piece (Begin at) ⨟ (nothing ⨟ a ⨟ pieces (field_stored (its_own t) start size false k (below_return n))))
    (λ s. stopping number at s (λ u. then_go (value u) (λ vs v. store_field (variable_located t (address_of (below_return n) v.now)) start size vs v)))
variables_below z d k need number start size at t n a value within one below enough whole sim =
    let two = both (nat_le 1 size) (nat_le (start + size) 16) within in
    value_stored z d k need 1 number at a (LDXN 1 ∷ deposited start size false true (mode_of k (below_return n))) value
    (λ vs v. store_field (variable_located t (address_of (below_return n) v.now)) start size vs v) whole sim
    (λ p q vs s m d0 m0 stands is room.
    let f = x_down z.ground z.rate p stands.0 z.setting 1 k 1 vs s m d0 m0 stands.1 is in
    let l = in_order z.ground z.sites stands.0 q start size false true (mode_of k (below_return n)) stands.2 in
    let first = stands.1.rise in
    let a1 = l.loads.rise in
    let a2 = l.exchanges.rise in
    let a3 = l.puts.rise in
    let a4 = l.stores.rise in
    let many = z.rate.enough in
    then_follows z.ground z.rate (pos stands.0 - pos p) 0 z.rate.reach (pos q - pos stands.0) 0 z.rate.reach (pos q - pos p) 0 z.rate.reach
    (tally s) m (tally s) f.0 (Completes z.setting q k d0 m0) NoExit (store_field (variable_located t (address_of (below_return n) s.now)) start size vs s) f.1
    (field_put z.ground z.rate stands.0 q z.setting t k n vs start size s f.0 d0 m0 l one (leb-true 1 size two.0) (leb-true (start + size) 16 two.1) below f.2
    (omega (arith, room, enough)))
    (omega (arith, first, a1, a2, a3, a4)) (omega (arith, many)) (omega (arith, many)))

-- by the place
pub variables_put : FieldsOfVariablesPut
variables_put z d k need number start size at t (data_word b) a value within one seen enough whole sim =
    variables_assigned z d k need number start size at t (data_word b) a value within one seen enough whole sim
variables_put z d k need number start size at t (above_base b) a value within one seen enough whole sim =
    variables_assigned z d k need number start size at t (above_base b) a value within one seen enough whole sim
variables_put z d k need number start size at t (below_base b) a value within one seen enough whole sim =
    variables_assigned z d k need number start size at t (below_base b) a value within one seen enough whole sim
variables_put z d k need number start size at t (below_return n) a value within one seen enough whole sim =
    variables_below z d k need number start size at t n a value within one (below_is z.setting k n seen) enough whole sim
