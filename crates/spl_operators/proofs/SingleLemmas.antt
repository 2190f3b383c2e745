-- Operators of one word: signs, shifts, fields and transfers.
use Rattle.std.proofs.Common.{◌≡◌, ◌≢◌, ◌⊎◌, inl, inr, ℕ, zero, suc, ◌+◌, ◌-◌, ◌*◌, ◌%◌, ◌<◌, ◌≤◌, Bool, true, false, List, [], ◌∷◌, refl, sym, ap, subst, ◌∙◌, arith}
use Rattle.std.specs.Prelude.{◌==◌, ◌||◌, nat_lt, nat_le, if◌then◌else◌, min, bit_and}
use Rattle.std.proofs.lemmas.Bool.{eqb-true, eqb-false, leb-true, ltb-true, ltb-false, false≢true}
use Rattle.std.proofs.lemmas.List.{append-nil}
use Rattle.std.proofs.lemmas.Nat.{and_mask}
use Rattle.std.proofs.Math.Logic.{⊎_elim}
use Rattle.spl_conditions.specs.hp_word.declared.endings.Trap.TheVariants.{IntegerOverflow}
use Rattle.spl_conditions.specs.hp_word.Bits.{shifted, field}
use Rattle.spl_conditions.specs.hp_word.Words.{word_result, negated, logically_subtracted}
use Rattle.spl_conditions.proofs.hp_word_proofs.FieldLemmas.{field-below}
use Rattle.spl_conditions.proofs.hp_word_proofs.ShiftLemmas.{shifted-below, power_bound}
use Rattle.spl_conditions.proofs.hp_word_proofs.WordLaws.{word_of-below}
use Rattle.spl_conditions.specs.hp_instr.Bits.{bits}
use Rattle.spl_conditions.specs.hp_instr.Fields.{field_length}
use Rattle.spl_conditions.specs.hp_instr.declared.instruction.Instr.TheVariants as i
use Rattle.spl_conditions.specs.hp_instr.Instructions.{op}
use Rattle.spl_conditions.specs.hp_session.State.{Machine, word}
use Rattle.spl_conditions.specs.hp_stack_rows.StackRows.{operated}
use Rattle.spl_conditions.specs.hp_word_rows.WordRows.{shift_of, shifting, immediate_row}
use Rattle.spl_conditions.specs.hp_flat.Step.{at_left}
use Rattle.spl_conditions.specs.hp_yields.Rows.{Settles}
use Rattle.spl_conditions.proofs.hp_yields_proofs.StackYields as stack
use Rattle.spl_conditions.proofs.hp_yields_proofs.WordYields as rows
use Rattle.spl_conditions.specs.spl_branch.declared.pieces.Piece.{Piece}
use Rattle.spl_conditions.specs.spl_tree.declared.expressions.Kind.TheVariants as kind
use Rattle.spl_conditions.specs.spl_meaning.Kinds.{Operand, of, const, unknown, positive, negative}
use Rattle.spl_conditions.specs.spl_meaning.Operations.{word_done, minus_done, signed_done, shift_numbered, shift_done, field_done, transferred}
use Rattle.spl_conditions.specs.spl_meaning.States.{Data, State, Outcome, done, ends, trapped, then_go}
use Rattle.spl_conditions.specs.spl_code.Code.{as_value}
use Rattle.spl_conditions.specs.spl_code.Instructions.{ZERO, XCH, EXF, ANDI, shift, operate}
use Rattle.spl_conditions.specs.spl_code.Operators.{minus_operator, sign_operator}
use Rattle.spl_conditions.specs.spl_code.Parts.{Part, pieces, ◌⨟◌}
use Rattle.spl_conditions.specs.spl_follow.Spots.{Spot, pos, on}
use Rattle.spl_conditions.specs.spl_follow.Doing.{doing}
use Rattle.spl_conditions.specs.spl_follow.Following.{tally, tally_with, Follows, NoExit}
use Rattle.spl_conditions.specs.spl_follow.Matching.{IsValue}
use Rattle.spl_conditions.specs.spl_follow.Simulating.{Surroundings, Simulates}
use Rattle.spl_conditions.specs.spl_follow.Standing.{Stands}
use Rattle.spl_conditions.specs.spl_follow.Yielding.{Yields}
use Rattle.spl_conditions.proofs.spl_follow_proofs.FollowLemmas.{bind_follows}
use Rattle.spl_conditions.proofs.spl_follow_proofs.KeepLemmas.{value_word}
use Rattle.spl_conditions.proofs.spl_follow_proofs.PartLemmas.{rows_trap}
use Rattle.spl_conditions.proofs.spl_follow_proofs.StandLemmas.{stands_le}
use Rattle.spl_conditions.proofs.spl_follow_proofs.WayLemmas.{goes_none}
use Rattle.spl_conditions.specs.spl_values.Reached.{IsWhole}
use Rattle.spl_conditions.proofs.spl_values_proofs.GiveLemmas.{last_leads, value_row}
use Rattle.spl_conditions.proofs.spl_values_proofs.SumLemmas.{yielding, logically_subtracted_small}
use Rattle.spl_conditions.proofs.spl_values_proofs.VariableLemmas.{both}
use Rattle.spl_conditions.proofs.ComplementLemmas.{value_then}
use Rattle.spl_operators.specs.Laws.{is_word_operand, SignsSimulate, ShiftsSimulate, FieldsSimulate, TransfersSimulate}
use Rattle.spl_operators.proofs.RowLemmas.{row_then, value_there, zero_behind_one, exchanged}

-- ---- a value as it is

-- no instruction stands behind a value that stays
value_stays : (z : Surroundings) (d k need : ℕ) (a : Part) (meaning : State → Outcome (List ℕ)) (last : List ℕ → State → Outcome (List ℕ))
    → ((v : ℕ) (s : State) → last (v ∷ []) s ≡ done (v ∷ []) s) → Simulates z d as_value 1 k need a meaning
    → Simulates z d as_value 1 k need (a ⨟ pieces []) (λ s. then_go (meaning s) (λ vs t. last vs t))
value_stays z d k need a meaning last same x = record {
  does = λ h ws p q s l m stands front ready.
      let many = z.rate.enough in
      bind_follows z.ground z.rate (pos q - pos p.at) 1 z.rate.reach 0 0 0 (pos q - pos p.at) 1 z.rate.reach (tally_with l s) m (IsValue z.setting q 1 k s.now m)
      (IsValue z.setting q 1 k s.now m) NoExit (meaning s) (λ vs t. last vs t)
      (x.does h ws p q s l m (subst (λ (ps : List Piece). Stands z.ground z.sites p ps q) (append-nil (a h ws).pieces) stands) front ready)
      (λ vs t n v fewer. here q s m vs t n v) (omega arith) (omega arith) (omega (arith, many)) (omega (arith, many));
} where
  here : (q : Spot) (s : State) (m : Machine) (vs : List ℕ) (t : State) (n : Machine) → IsValue z.setting q 1 k s.now m vs t n
      → Follows z.ground z.rate 0 0 0 (tally t) n (IsValue z.setting q 1 k s.now m) NoExit (last vs t)
  here q s m (v ∷ []) t n y =
      subst (λ (o : Outcome (List ℕ)). Follows z.ground z.rate 0 0 0 (tally t) n (IsValue z.setting q 1 k s.now m) NoExit o) (sym (same v t))
      (n, goes_none z.ground z.rate 0 0 (tally t) n, y)
  here q s m [] t n y = let wide = y.wide in absurd (omega (arith, wide))
  here q s m (v ∷ u ∷ vs) t n y = let wide = y.wide in absurd (omega (arith, wide))

-- ---- signs

negated_small : (a : ℕ) → (negated a).value < 65536
unfolding negated word_result
negated_small a = word_of-below _

-- NEG
integer_negated : (z : Surroundings) (k need : ℕ) (r q : Spot) (v : ℕ) (s : State) (m : Machine) (d0 : Data) (m0 : Machine)
    → Stands z.ground z.sites (on r) (operate 0o24 ∷ []) q → IsValue z.setting r 1 k d0 m0 (v ∷ []) s m
    → Follows z.ground z.rate (pos q - pos r) 0 z.rate.reach (tally s) m (IsValue z.setting q 1 k d0 m0) NoExit (word_done (negated v) s)
integer_negated z k need r q v s m d0 m0 stands x = by (negated v).overflow refl where
  settled : Settles 1 (negated v) m (operated 0o24 m)
  settled =
      subst (λ (b : ℕ). Settles 1 (negated b) m (operated 0o24 m)) (value_word z.setting r 1 k 0 0 d0 m0 (v ∷ []) s m x refl)
      (stack.negate m (value_there z.setting r 1 k d0 m0 (v ∷ []) s m x))

  by : (b : Bool) → (negated v).overflow ≡ b
      → Follows z.ground z.rate (pos q - pos r) 0 z.rate.reach (tally s) m (IsValue z.setting q 1 k d0 m0) NoExit
      (if b then ends (trapped IntegerOverflow) s else done ((negated v).value ∷ []) s)
  by true e =
      rows_trap z.ground z.rate (on r) q q (doing z.ground.segments (i.Pair (op 0o24) (op 0)) q) z.setting s.begun s m d0 m0 k (k + 1) 1 (operated 0o24 m)
      IntegerOverflow (last_leads z.ground z.sites (on r) (i.Pair (op 0o24) (op 0)) q stands) refl x.at refl x.matches (settled.trap e)
  by false e =
      value_row z.ground z.rate r q (doing z.ground.segments (i.Pair (op 0o24) (op 0)) q) z.setting s m d0 m0 k 1 (v ∷ []) (negated v).value (operated 0o24 m)
      (last_leads z.ground z.sites (on r) (i.Pair (op 0o24) (op 0)) q stands) refl x (settled.result e) (negated_small v)

-- ZERO, XCH and LSUB: the difference from zero
logical_negated : (z : Surroundings) (k need : ℕ) (r q : Spot) (v : ℕ) (s : State) (m : Machine) (d0 : Data) (m0 : Machine) → 2 ≤ need
    → Stands z.ground z.sites (on r) (ZERO ∷ XCH ∷ operate 0o62 ∷ []) q → d0.top + k + need ≤ d0.stack → IsValue z.setting r 1 k d0 m0 (v ∷ []) s m
    → Follows z.ground z.rate (pos q - pos r) 0 z.rate.reach (tally s) m (IsValue z.setting q 1 k d0 m0) NoExit (done ((logically_subtracted 0 v).value ∷ []) s)
logical_negated z k need r q v s m d0 m0 enough stands room x =
    let g = z.ground in
    let w = z.rate in
    let st = z.setting in
    let second = stands.2 in
    let o = done ((logically_subtracted 0 v).value ∷ []) s in
    let P = IsValue st q 1 k d0 m0 in
    let one = stands.1.rise in
    let two = second.1.rise in
    let last = stands_le g z.sites (operate 0o62 ∷ []) (on second.0) q second.2 in
    row_then g w r stands.0 q st s m d0 m0 k 2 (v ∷ 0 ∷ []) P o (omega (arith, one)) (omega (arith, two, last))
    (zero_behind_one g w r stands.0 st s m d0 m0 k need v room enough stands.1 x) (λ m1 x1.
    row_then g w stands.0 second.0 q st s m1 d0 m0 k 2 (0 ∷ v ∷ []) P o (omega (arith, two)) last
    (exchanged g w stands.0 second.0 st s m1 d0 m0 k v 0 second.1 x1) (λ m2 x2.
    yielding 0o62 (λ b a. (logically_subtracted b a).value) stack.logical_subtract logically_subtracted_small g w second.0 q st s m2 d0 m0 k 0 v
    (last_leads g z.sites (on second.0) (i.Pair (op 0o62) (op 0)) q second.2) x2))

-- minus, by the kind
minus_simulates : (z : Surroundings) (d k need : ℕ) (operand : Operand) (a : Part) (meaning : State → Outcome (List ℕ)) → is_word_operand operand ≡ true
    → 2 ≤ need → IsWhole a → Simulates z d as_value 1 k need a meaning
    → Simulates z d as_value 1 k need (a ⨟ pieces (minus_operator operand)) (λ s. then_go (meaning s) (λ vs t. minus_done operand vs t))
minus_simulates z d k need (of kind.Integer) a meaning one enough whole x =
    value_then z d k need a (operate 0o24 ∷ []) meaning (λ vs t. minus_done (of kind.Integer) vs t) whole x
    (λ r q v s m d0 m0 stands room y. integer_negated z k need r q v s m d0 m0 stands y)
minus_simulates z d k need const a meaning one enough whole x =
    value_then z d k need a (operate 0o24 ∷ []) meaning (λ vs t. minus_done const vs t) whole x
    (λ r q v s m d0 m0 stands room y. integer_negated z k need r q v s m d0 m0 stands y)
minus_simulates z d k need (of kind.Logical) a meaning one enough whole x =
    value_then z d k need a (ZERO ∷ XCH ∷ operate 0o62 ∷ []) meaning (λ vs t. minus_done (of kind.Logical) vs t) whole x
    (λ r q v s m d0 m0 stands room y. logical_negated z k need r q v s m d0 m0 enough stands room y)
minus_simulates z d k need (of kind.Byte) a meaning one enough whole x =
    value_then z d k need a (ZERO ∷ XCH ∷ operate 0o62 ∷ []) meaning (λ vs t. minus_done (of kind.Byte) vs t) whole x
    (λ r q v s m d0 m0 stands room y. logical_negated z k need r q v s m d0 m0 enough stands room y)
minus_simulates z d k need (of kind.Double) a meaning one enough whole x = absurd (false≢true one)
minus_simulates z d k need unknown a meaning one enough whole x = absurd (false≢true one)

-- which of the two it is
pub sign_cases : (o : ℕ) → ((o == positive) || (o == negative)) ≡ true → (o ≡ positive) ⊎ (o ≡ negative)
sign_cases o e = by (o == positive) refl e where
  by : (b : Bool) → (o == positive) ≡ b → (b || (o == negative)) ≡ true → (o ≡ positive) ⊎ (o ≡ negative)
  by true is e = inl (eqb-true o positive is)
  by false is e = inr (eqb-true o negative e)

pub signs : SignsSimulate
signs z d k need o operand a meaning e one enough whole x =
    ⊎_elim
    (λ is. subst (λ (n : ℕ). Simulates z d as_value 1 k need (a ⨟ pieces (sign_operator n operand)) (λ s. then_go (meaning s) (λ vs t. signed_done n operand vs t))) (sym is)
    (value_stays z d k need a meaning (λ vs t. done vs t) (λ v s. refl) x))
    (λ is. subst (λ (n : ℕ). Simulates z d as_value 1 k need (a ⨟ pieces (sign_operator n operand)) (λ s. then_go (meaning s) (λ vs t. signed_done n operand vs t))) (sym is)
    (minus_simulates z d k need operand a meaning one enough whole x))
    (sign_cases o e)

-- ---- shifts

-- a shift by its number
numbered : (o : ℕ) → o < 6 → shift_of (min o 5) ≡ shift_numbered o
unfolding shift_of
numbered zero l = refl
numbered (suc zero) l = refl
numbered (suc (suc zero)) l = refl
numbered (suc (suc (suc zero))) l = refl
numbered (suc (suc (suc (suc zero)))) l = refl
numbered (suc (suc (suc (suc (suc zero))))) l = refl
numbered (suc (suc (suc (suc (suc (suc o)))))) l = absurd (omega (arith, l))

pub shifts : ShiftsSimulate
shifts z d k need o count a meaning low few whole x =
    value_then z d k need a (shift (min o 5) (count % 64) ∷ []) meaning (λ vs t. shift_done o count vs t) whole x (λ r q v s m d0 m0 stands room y.
    value_row z.ground z.rate r q (doing z.ground.segments (i.Shifted (min o 5) (count % 64)) q) z.setting s m d0 m0 k 1 (v ∷ [])
    (shifted (shift_numbered o) v count) (shifting (min o 5) (count % 64) (at_left m))
    (last_leads z.ground z.sites (on r) (i.Shifted (min o 5) (count % 64)) q stands) refl y
    (subst (λ (u : ℕ). Yields 1 (u ∷ []) m (shifting (min o 5) (count % 64) (at_left m))) (same (word 0 m) v (value_word z.setting r 1 k 0 0 d0 m0 (v ∷ []) s m y refl))
    (rows.shift (min o 5) (count % 64) (at_left m) (value_there z.setting r 1 k d0 m0 (v ∷ []) s m y)).words)
    (shifted-below (shift_numbered o) v count)) where
      same : (u v : ℕ) → u ≡ v → shifted (shift_of (min o 5)) u (count % 64) ≡ shifted (shift_numbered o) v count
      same u v is =
          let places : count % 64 ≡ count = omega (arith, few) in
          ap (λ (h : ℕ). shifted (shift_of (min o 5)) h (count % 64)) is ∙ ap (λ (h : ℕ). shifted (shift_of (min o 5)) v h) places
          ∙ ap (λ h. shifted h v count) (numbered o low)

-- ---- fields

-- a field that lies within a word, by its eight bits
pub field_first : (start size : ℕ) → 1 ≤ size → start + size ≤ 16 → bits 8 11 (16 * start + size % 16) ≡ start
field_first start size some within = omega (arith, some, within)

-- a size that fits is below sixteen, or sixteen
sixteen : (start n : ℕ) → start + n ≤ 16 → (n < 16) ⊎ (n ≡ 16)
sixteen start n l = by (nat_lt n 16) refl where
  by : (b : Bool) → nat_lt n 16 ≡ b → (n < 16) ⊎ (n ≡ 16)
  by true e = inl (ltb-true n 16 e)
  by false e = let high = ltb-false n 16 e in inr (omega (arith, l, high))

pub field_long : (start size : ℕ) → 1 ≤ size → start + size ≤ 16 → field_length (16 * start + size % 16) ≡ size
field_long start size some within = by (bits 12 15 (16 * start + size % 16) == 0) refl where
  last : bits 12 15 (16 * start + size % 16) ≡ size % 16
  last = omega arith

  by : (b : Bool) → (bits 12 15 (16 * start + size % 16) == 0) ≡ b → (if b then 16 else bits 12 15 (16 * start + size % 16)) ≡ size
  by true e = let none = eqb-true (bits 12 15 (16 * start + size % 16)) 0 e in omega (arith, none, last, some, within)
  by false e = let more = eqb-false (bits 12 15 (16 * start + size % 16)) 0 e in whole (size % 16) last more where
    whole : (n : ℕ) → bits 12 15 (16 * start + size % 16) ≡ size % 16 → bits 12 15 (16 * start + size % 16) ≢ 0 → bits 12 15 (16 * start + size % 16) ≡ size
    whole n same more = ⊎_elim (λ low. omega (arith, same, low)) (λ full. absurd (more (omega (arith, same, full)))) (sixteen start size within)

-- EXF
field_taken : (z : Surroundings) (d k need start size : ℕ) (a : Part) (meaning : State → Outcome (List ℕ)) → 1 ≤ size → start + size ≤ 16 → IsWhole a
    → Simulates z d as_value 1 k need a meaning
    → Simulates z d as_value 1 k need (a ⨟ pieces (EXF start size ∷ [])) (λ s. then_go (meaning s) (λ vs t. field_done start size vs t))
field_taken z d k need start size a meaning some within whole x =
    value_then z d k need a (EXF start size ∷ []) meaning (λ vs t. field_done start size vs t) whole x (λ r q v s m d0 m0 stands room y.
    let n = 16 * start + size % 16 in
    value_row z.ground z.rate r q (doing z.ground.segments (i.Immediate 11 n) q) z.setting s m d0 m0 k 1 (v ∷ []) (field v start size % 65536)
    (immediate_row 11 n (at_left m)) (last_leads z.ground z.sites (on r) (i.Immediate 11 n) q stands) refl y
    (subst (λ (u : ℕ). Yields 1 (u ∷ []) m (immediate_row 11 n (at_left m))) (same (word 0 m) v (value_word z.setting r 1 k 0 0 d0 m0 (v ∷ []) s m y refl))
    (rows.field_extracted n (at_left m) (value_there z.setting r 1 k d0 m0 (v ∷ []) s m y)).words)
    (omega arith)) where
      same : (u v : ℕ) → u ≡ v → field u (bits 8 11 (16 * start + size % 16)) (field_length (16 * start + size % 16)) ≡ field v start size % 65536
      same u v is =
          let below = field-below v start size in
          let power = power_bound size (omega (arith, within)) in
          let fits : field v start size ≡ field v start size % 65536 = omega (arith, below, power) in
          ap (λ (h : ℕ). field h (bits 8 11 (16 * start + size % 16)) (field_length (16 * start + size % 16))) is
          ∙ ap (λ (h : ℕ). field v h (field_length (16 * start + size % 16))) (field_first start size some within)
          ∙ ap (λ (h : ℕ). field v start h) (field_long start size some within) ∙ fits

pub fields : FieldsSimulate
fields z d k need start size a meaning e whole x =
    let two = both (nat_le 1 size) (nat_le (start + size) 16) e in
    subst (λ (b : Bool). Simulates z d as_value 1 k need (a ⨟ pieces (if b then EXF start size ∷ [] else [])) (λ s. then_go (meaning s) (λ vs t. field_done start size vs t)))
    (sym e) (field_taken z d k need start size a meaning (leb-true 1 size two.0) (leb-true (start + size) 16 two.1) whole x)

-- ---- transfers

-- ANDI leaves the right eight bits
byte_taken : (z : Surroundings) (d k need : ℕ) (from : Operand) (a : Part) (meaning : State → Outcome (List ℕ)) → IsWhole a
    → Simulates z d as_value 1 k need a meaning
    → Simulates z d as_value 1 k need (a ⨟ pieces (ANDI 255 ∷ [])) (λ s. then_go (meaning s) (λ vs t. transferred kind.Byte from vs t))
byte_taken z d k need from a meaning whole x =
    value_then z d k need a (ANDI 255 ∷ []) meaning (λ vs t. transferred kind.Byte from vs t) whole x (λ r q v s m d0 m0 stands room y.
    value_row z.ground z.rate r q (doing z.ground.segments (i.Immediate 13 255) q) z.setting s m d0 m0 k 1 (v ∷ []) (v % 256) (immediate_row 13 255 (at_left m))
    (last_leads z.ground z.sites (on r) (i.Immediate 13 255) q stands) refl y
    (subst (λ (u : ℕ). Yields 1 (u ∷ []) m (immediate_row 13 255 (at_left m)))
    (ap (λ (u : ℕ). bit_and u 255) (value_word z.setting r 1 k 0 0 d0 m0 (v ∷ []) s m y refl) ∙ and_mask v 8)
    (rows.number_and 255 (at_left m) (value_there z.setting r 1 k d0 m0 (v ∷ []) s m y)).words)
    (omega arith))

pub transfers : TransfersSimulate
transfers z d k need kind.Integer (of kind.Double) a meaning one word whole x = absurd (false≢true word)
transfers z d k need kind.Integer (of kind.Integer) a meaning one word whole x = value_stays z d k need a meaning (λ vs t. transferred kind.Integer (of kind.Integer) vs t) (λ v s. refl) x
transfers z d k need kind.Integer (of kind.Logical) a meaning one word whole x = value_stays z d k need a meaning (λ vs t. transferred kind.Integer (of kind.Logical) vs t) (λ v s. refl) x
transfers z d k need kind.Integer (of kind.Byte) a meaning one word whole x = value_stays z d k need a meaning (λ vs t. transferred kind.Integer (of kind.Byte) vs t) (λ v s. refl) x
transfers z d k need kind.Integer const a meaning one word whole x = value_stays z d k need a meaning (λ vs t. transferred kind.Integer const vs t) (λ v s. refl) x
transfers z d k need kind.Integer unknown a meaning one word whole x = absurd (false≢true word)
transfers z d k need kind.Logical (of kind.Double) a meaning one word whole x = absurd (false≢true word)
transfers z d k need kind.Logical (of kind.Integer) a meaning one word whole x = value_stays z d k need a meaning (λ vs t. transferred kind.Logical (of kind.Integer) vs t) (λ v s. refl) x
transfers z d k need kind.Logical (of kind.Logical) a meaning one word whole x = value_stays z d k need a meaning (λ vs t. transferred kind.Logical (of kind.Logical) vs t) (λ v s. refl) x
transfers z d k need kind.Logical (of kind.Byte) a meaning one word whole x = value_stays z d k need a meaning (λ vs t. transferred kind.Logical (of kind.Byte) vs t) (λ v s. refl) x
transfers z d k need kind.Logical const a meaning one word whole x = value_stays z d k need a meaning (λ vs t. transferred kind.Logical const vs t) (λ v s. refl) x
transfers z d k need kind.Logical unknown a meaning one word whole x = absurd (false≢true word)
transfers z d k need kind.Byte (of kind.Double) a meaning one word whole x = absurd (false≢true word)
transfers z d k need kind.Byte (of kind.Integer) a meaning one word whole x = byte_taken z d k need (of kind.Integer) a meaning whole x
transfers z d k need kind.Byte (of kind.Logical) a meaning one word whole x = byte_taken z d k need (of kind.Logical) a meaning whole x
transfers z d k need kind.Byte (of kind.Byte) a meaning one word whole x = byte_taken z d k need (of kind.Byte) a meaning whole x
transfers z d k need kind.Byte const a meaning one word whole x = byte_taken z d k need const a meaning whole x
transfers z d k need kind.Byte unknown a meaning one word whole x = absurd (false≢true word)
transfers z d k need kind.Double from a meaning one word whole x = absurd (false≢true one)
