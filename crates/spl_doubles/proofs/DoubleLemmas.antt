-- Values of two words: constants, what stands behind one value and behind two, and the rows of DOUBLEs.
use Rattle.std.proofs.Common.{◌≡◌, ℕ, ◌+◌, ◌-◌, ◌/◌, ◌%◌, ◌<◌, ◌≤◌, Bool, true, false, List, [], ◌∷◌, ◌++◌, length, refl, sym, ap, subst, ◌∙◌, arith}
use Rattle.std.specs.Prelude.{◌^◌, nat_lt, if◌then◌else◌, bit_and}
use Rattle.std.proofs.lemmas.Bool.{ltb-true, ltb-false, false≢true}
use Rattle.std.proofs.lemmas.Nat.{and_mask}
use Rattle.std.proofs.Math.Logic.{⊎_elim}
use Rattle.spl_operators.specs.hp_word.declared.arithmetic.Wide.{Wide}
use Rattle.spl_operators.specs.hp_word.declared.endings.Trap.TheVariants.{IntegerOverflow}
use Rattle.spl_operators.specs.hp_word.Bits.{shifted}
use Rattle.spl_operators.specs.hp_word.Bytes.{double, high_word, low_word}
use Rattle.spl_operators.specs.hp_word.Words.{double_added, double_subtracted, double_result}
use Rattle.spl_operators.proofs.hp_word_proofs.ShiftLemmas.{shifted-Asr, shifted-Asr-negative}
use Rattle.spl_operators.proofs.hp_word_proofs.WordLaws.{double_of-below}
use Rattle.spl_operators.specs.hp_instr.declared.instruction.Instr.TheVariants as i
use Rattle.spl_operators.specs.hp_instr.Instructions.{op}
use Rattle.spl_operators.specs.hp_session.State.{Machine, word}
use Rattle.spl_operators.specs.hp_stack_rows.StackRows.{operated, lower_double, upper_double}
use Rattle.spl_operators.specs.hp_word_rows.WordRows.{shift_of, shifting, immediate_row}
use Rattle.spl_operators.specs.hp_flat.Step.{at_left}
use Rattle.spl_operators.specs.hp_yields.Rows.{SettlesWide}
use Rattle.spl_operators.proofs.hp_yields_proofs.StackYields as rows
use Rattle.spl_operators.proofs.hp_yields_proofs.WordYields as word_rows
use Rattle.spl_operators.specs.spl_branch.declared.pieces.Piece.{Piece}
use Rattle.spl_operators.specs.spl_branch.declared.pieces.Piece.TheVariants.{Do}
use Rattle.spl_operators.specs.spl_tree.declared.expressions.Kind.TheVariants as kind
use Rattle.spl_operators.specs.spl_meaning.Kinds.{of, const, unknown, doubles, plus, minus}
use Rattle.spl_operators.specs.spl_meaning.Operations.{double_words, double_done, by_class, transferred}
use Rattle.spl_operators.specs.spl_meaning.References.{Setting}
use Rattle.spl_operators.specs.spl_meaning.States.{Data, State, Outcome, done, ends, trapped, then_go}
use Rattle.spl_operators.specs.spl_code.Code.{as_value}
use Rattle.spl_operators.specs.spl_code.Constants.{constant}
use Rattle.spl_operators.specs.spl_code.Instructions.{ZERO, DELB, DUP, XCH, LDI, LDNI, LSL, ASR, ANDI, ORI}
use Rattle.spl_operators.specs.spl_code.Operators.{class_operator}
use Rattle.spl_operators.specs.spl_code.Parts.{Part, pieces, ◌⨟◌}
use Rattle.spl_operators.specs.spl_follow.Spots.{Spot, pos, on, Ground}
use Rattle.spl_operators.specs.spl_follow.Leading.{Leads}
use Rattle.spl_operators.specs.spl_follow.Matching.{IsValue}
use Rattle.spl_operators.specs.spl_follow.Following.{Rate, tally, tally_with, Follows, NoExit}
use Rattle.spl_operators.specs.spl_follow.Doing.{doing}
use Rattle.spl_operators.specs.spl_follow.Standing.{Stands, IsClosed, due_after}
use Rattle.spl_operators.specs.spl_follow.Yielding.{Yields}
use Rattle.spl_operators.specs.spl_follow.Simulating.{Surroundings, Simulates}
use Rattle.spl_operators.proofs.spl_follow_proofs.FollowLemmas.{bind_follows}
use Rattle.spl_operators.proofs.spl_follow_proofs.KeepLemmas.{values_join, value_word, value_ready}
use Rattle.spl_operators.proofs.spl_follow_proofs.PartLemmas.{stand_in_order, rows_trap, values_follow}
use Rattle.spl_operators.proofs.spl_follow_proofs.StandLemmas.{closed_last}
use Rattle.spl_operators.specs.spl_values.Reached.{IsWhole}
use Rattle.spl_operators.proofs.spl_values_proofs.ConstantLemmas.{constants_give as words_give}
use Rattle.spl_operators.proofs.spl_values_proofs.GiveLemmas.{last_leads, value_row}
use Rattle.spl_operators.proofs.spl_values_proofs.SumLemmas.{sum_cases, front_on}
use Rattle.spl_operators.proofs.RowLemmas.{words_row, row_then, value_there, value_room, yields_beneath, lower_deleted, zero_behind_one, exchanged}
use Rattle.spl_doubles.specs.Laws.{DoubleConstantsSimulate, DoubleSumsSimulate, LowWordsSimulate, ExtensionsSimulate}

-- ---- behind one value

-- a value of some words, and pieces that make one of others of it
pub parts_then : (z : Surroundings) (d k need j n : ℕ) (a : Part) (ps : List Piece) (meaning : State → Outcome (List ℕ)) (last : List ℕ → State → Outcome (List ℕ))
    → IsWhole a → Simulates z d as_value j k need a meaning
    → ((r q : Spot) (vs : List ℕ) (s : State) (m : Machine) (d0 : Data) (m0 : Machine) → Stands z.ground z.sites (on r) ps q → d0.top + k + need ≤ d0.stack
    → IsValue z.setting r j k d0 m0 vs s m
    → Follows z.ground z.rate (pos q - pos r) 0 z.rate.reach (tally s) m (IsValue z.setting q n k d0 m0) NoExit (last vs s))
    → Simulates z d as_value n k need (a ⨟ pieces ps) (λ s. then_go (meaning s) (λ vs t. last vs t))
parts_then z d k need j n a ps meaning last whole x behind = record {
  does = λ h ws p q s l m stands front ready.
      let b = a h ws in
      let cut = stand_in_order z.ground z.sites b.pieces ps p q (whole.closed h ws) stands in
      let before = cut.3 in
      let far = cut.4 in
      let many = z.rate.enough in
      bind_follows z.ground z.rate (pos cut.0 - pos p.at) 1 z.rate.reach (pos q - pos cut.0) 0 z.rate.reach (pos q - pos p.at) 1 z.rate.reach (tally_with l s) m
      (IsValue z.setting cut.0 j k s.now m) (IsValue z.setting q n k s.now m) NoExit (meaning s) (λ vs t. last vs t) (x.does h ws p cut.0 s l m cut.1 front ready)
      (λ vs t m1 v fewer. behind cut.0 q vs t m1 s.now m cut.2 ready.room v)
      (omega (arith, before, far)) (omega arith) (omega (arith, many)) (omega (arith, many));
}

-- ---- as one word

-- DELB leaves the low word
low_kept : (z : Surroundings) (k : ℕ) (last : List ℕ → State → Outcome (List ℕ)) → ((h l : ℕ) (s : State) → last (h ∷ l ∷ []) s ≡ done (l ∷ []) s)
    → (r q : Spot) (vs : List ℕ) (s : State) (m : Machine) (d0 : Data) (m0 : Machine) → Stands z.ground z.sites (on r) (DELB ∷ []) q
    → IsValue z.setting r 2 k d0 m0 vs s m
    → Follows z.ground z.rate (pos q - pos r) 0 z.rate.reach (tally s) m (IsValue z.setting q 1 k d0 m0) NoExit (last vs s)
low_kept z k last same r q (h ∷ l ∷ []) s m d0 m0 stands x =
    subst (λ (o : Outcome (List ℕ)). Follows z.ground z.rate (pos q - pos r) 0 z.rate.reach (tally s) m (IsValue z.setting q 1 k d0 m0) NoExit o) (sym (same h l s))
    (lower_deleted z.ground z.rate r q z.setting s m d0 m0 k h l (last_leads z.ground z.sites (on r) (i.Pair (op 0o01) (op 0)) q stands) x)
low_kept z k last same r q [] s m d0 m0 stands x = let wide = x.wide in absurd (omega (arith, wide))
low_kept z k last same r q (h ∷ []) s m d0 m0 stands x = let wide = x.wide in absurd (omega (arith, wide))
low_kept z k last same r q (h ∷ l ∷ v ∷ vs) s m d0 m0 stands x = let wide = x.wide in absurd (omega (arith, wide))

-- and ANDI its right eight bits
byte_kept : (z : Surroundings) (k : ℕ) (r q : Spot) (vs : List ℕ) (s : State) (m : Machine) (d0 : Data) (m0 : Machine)
    → Stands z.ground z.sites (on r) (DELB ∷ ANDI 255 ∷ []) q → IsValue z.setting r 2 k d0 m0 vs s m
    → Follows z.ground z.rate (pos q - pos r) 0 z.rate.reach (tally s) m (IsValue z.setting q 1 k d0 m0) NoExit (transferred kind.Byte (of kind.Double) vs s)
byte_kept z k r q (h ∷ l ∷ []) s m d0 m0 stands x =
    let g = z.ground in
    let w = z.rate in
    let st = z.setting in
    let ands = last_leads g z.sites (on stands.0) (i.Immediate 13 255) q stands.2 in
    let first = stands.1.rise in
    let next = ands.rise in
    row_then g w r stands.0 q st s m d0 m0 k 1 (l ∷ []) (IsValue st q 1 k d0 m0) (done (l % 256 ∷ []) s) (omega (arith, first)) (omega (arith, next))
    (lower_deleted g w r stands.0 st s m d0 m0 k h l stands.1 x)
    (λ m1 y. value_row g w stands.0 q (doing g.segments (i.Immediate 13 255) q) st s m1 d0 m0 k 1 (l ∷ []) (l % 256) (immediate_row 13 255 (at_left m1)) ands refl y
    (subst (λ (u : ℕ). Yields 1 (u ∷ []) m1 (immediate_row 13 255 (at_left m1)))
    (ap (λ (u : ℕ). bit_and u 255) (value_word st stands.0 1 k 0 0 d0 m0 (l ∷ []) s m1 y refl) ∙ and_mask l 8)
    (word_rows.number_and 255 (at_left m1) (value_there st stands.0 1 k d0 m0 (l ∷ []) s m1 y)).words)
    (omega arith))
byte_kept z k r q [] s m d0 m0 stands x = let wide = x.wide in absurd (omega (arith, wide))
byte_kept z k r q (h ∷ []) s m d0 m0 stands x = let wide = x.wide in absurd (omega (arith, wide))
byte_kept z k r q (h ∷ l ∷ v ∷ vs) s m d0 m0 stands x = let wide = x.wide in absurd (omega (arith, wide))

pub low_words_give : LowWordsSimulate
low_words_give z d k need kind.Integer a meaning single whole x =
    parts_then z d k need 2 1 a (DELB ∷ []) meaning (λ vs t. transferred kind.Integer (of kind.Double) vs t) whole x
    (λ r q vs s m d0 m0 stands room y. low_kept z k (λ vs t. transferred kind.Integer (of kind.Double) vs t) (λ h l s. refl) r q vs s m d0 m0 stands y)
low_words_give z d k need kind.Logical a meaning single whole x =
    parts_then z d k need 2 1 a (DELB ∷ []) meaning (λ vs t. transferred kind.Logical (of kind.Double) vs t) whole x
    (λ r q vs s m d0 m0 stands room y. low_kept z k (λ vs t. transferred kind.Logical (of kind.Double) vs t) (λ h l s. refl) r q vs s m d0 m0 stands y)
low_words_give z d k need kind.Byte a meaning single whole x =
    parts_then z d k need 2 1 a (DELB ∷ ANDI 255 ∷ []) meaning (λ vs t. transferred kind.Byte (of kind.Double) vs t) whole x
    (λ r q vs s m d0 m0 stands room y. byte_kept z k r q vs s m d0 m0 stands y)
low_words_give z d k need kind.Double a meaning single whole x = absurd (false≢true single)

-- ---- as a double

-- what is wanted of pieces that put a high word below a word
abbrev Extends : Surroundings → ℕ → ℕ → List Piece → (List ℕ → State → Outcome (List ℕ)) → Type 0
Extends z k need ps last = (r q : Spot) (vs : List ℕ) (s : State) (m : Machine) (d0 : Data) (m0 : Machine) → Stands z.ground z.sites (on r) ps q
    → d0.top + k + need ≤ d0.stack → IsValue z.setting r 1 k d0 m0 vs s m
    → Follows z.ground z.rate (pos q - pos r) 0 z.rate.reach (tally s) m (IsValue z.setting q 2 k d0 m0) NoExit (last vs s)

-- ZERO and XCH: the high word is zero
zero_extends : (z : Surroundings) (k need : ℕ) (last : List ℕ → State → Outcome (List ℕ)) → 2 ≤ need
    → ((v : ℕ) (s : State) → last (v ∷ []) s ≡ done (0 ∷ v ∷ []) s) → Extends z k need (ZERO ∷ XCH ∷ []) last
zero_extends z k need last enough same r q (v ∷ []) s m d0 m0 stands room x =
    let g = z.ground in
    let w = z.rate in
    let st = z.setting in
    let turns = last_leads g z.sites (on stands.0) (i.Pair (op 0o32) (op 0)) q stands.2 in
    let first = stands.1.rise in
    let next = turns.rise in
    subst (λ (o : Outcome (List ℕ)). Follows g w (pos q - pos r) 0 w.reach (tally s) m (IsValue st q 2 k d0 m0) NoExit o) (sym (same v s))
    (row_then g w r stands.0 q st s m d0 m0 k 2 (v ∷ 0 ∷ []) (IsValue st q 2 k d0 m0) (done (0 ∷ v ∷ []) s) (omega (arith, first)) (omega (arith, next))
    (zero_behind_one g w r stands.0 st s m d0 m0 k need v room enough stands.1 x) (λ m1 y. exchanged g w stands.0 q st s m1 d0 m0 k v 0 turns y))
zero_extends z k need last enough same r q [] s m d0 m0 stands room x = let wide = x.wide in absurd (omega (arith, wide))
zero_extends z k need last enough same r q (v ∷ u ∷ vs) s m d0 m0 stands room x = let wide = x.wide in absurd (omega (arith, wide))

-- the sign of a word, sixteen times
sign_word : ℕ → ℕ
sign_word v = if nat_lt v 32768 then 0 else 65535

sign_small : (v : ℕ) → sign_word v < 65536
unfolding sign_word
sign_small v = by (nat_lt v 32768) where
  by : (b : Bool) → (if b then 0 else 65535) < 65536
  by true = omega arith
  by false = omega arith

-- ASR 15 leaves it
signs_stand : (v : ℕ) → v < 65536 → shifted (shift_of 1) v 15 ≡ sign_word v
unfolding sign_word shift_of
signs_stand v small = by (nat_lt v 32768) refl where
  by : (b : Bool) → nat_lt v 32768 ≡ b → shifted (shift_of 1) v 15 ≡ (if b then 0 else 65535)
  by true e = let low = ltb-true v 32768 e in let none : v / 2 ^ 15 ≡ 0 = omega (arith, low) in shifted-Asr v 15 (omega arith) low ∙ none
  by false e =
      let high = ltb-false v 32768 e in
      let all : 65536 - 2 ^ (16 - 15) + v / 2 ^ 15 ≡ 65535 = omega (arith, high, small) in
      shifted-Asr-negative v 15 (omega arith) high small ∙ all

-- DUP, ASR 15 and XCH: the high word is the sign
sign_extends : (z : Surroundings) (k need : ℕ) (last : List ℕ → State → Outcome (List ℕ)) → 2 ≤ need
    → ((v : ℕ) (s : State) → last (v ∷ []) s ≡ done (sign_word v ∷ v ∷ []) s) → Extends z k need (DUP ∷ ASR 15 ∷ XCH ∷ []) last
sign_extends z k need last enough same r q (v ∷ []) s m d0 m0 stands room x =
    let g = z.ground in
    let w = z.rate in
    let st = z.setting in
    let turns = last_leads g z.sites (on stands.2.0) (i.Pair (op 0o32) (op 0)) q stands.2.2 in
    let first = stands.1.rise in
    let second = stands.2.1.rise in
    let next = turns.rise in
    let there = value_there st r 1 k d0 m0 (v ∷ []) s m x in
    let free = value_room st r 1 k need d0 m0 (v ∷ []) s m x room enough in
    let top = value_word st r 1 k 0 0 d0 m0 (v ∷ []) s m x refl in
    subst (λ (o : Outcome (List ℕ)). Follows g w (pos q - pos r) 0 w.reach (tally s) m (IsValue st q 2 k d0 m0) NoExit o) (sym (same v s))
    (row_then g w r stands.0 q st s m d0 m0 k 2 (v ∷ v ∷ []) (IsValue st q 2 k d0 m0) (done (sign_word v ∷ v ∷ []) s) (omega (arith, first)) (omega (arith, second, next))
    (words_row g w r stands.0 (doing g.segments (i.Pair (op 0o45) (op 0)) stands.0) st s m d0 m0 k 1 2 (v ∷ []) (v ∷ v ∷ []) (operated 0o45 m) stands.1 refl x
    (subst (λ (b : ℕ). Yields 1 (b ∷ b ∷ []) m (operated 0o45 m)) top
    (yields_beneath 0 (word 0 m ∷ []) m (operated 0o45 m) (omega (arith, there)) (rows.top_copied m there free).words))
    (x.small.0, (x.small.0, tt)) refl)
    (λ m1 y. row_then g w stands.0 stands.2.0 q st s m1 d0 m0 k 2 (v ∷ sign_word v ∷ []) (IsValue st q 2 k d0 m0) (done (sign_word v ∷ v ∷ []) s)
    (omega (arith, second)) (omega (arith, next))
    (let here = value_there st stands.0 2 k d0 m0 (v ∷ v ∷ []) s m1 y in
    words_row g w stands.0 stands.2.0 (doing g.segments (i.Shifted 1 15) stands.2.0) st s m1 d0 m0 k 2 2 (v ∷ v ∷ []) (v ∷ sign_word v ∷ []) (shifting 1 15 (at_left m1))
    stands.2.1 refl y
    (subst (λ (b : ℕ). Yields 2 (b ∷ sign_word v ∷ []) m1 (shifting 1 15 (at_left m1))) (value_word st stands.0 2 k 1 0 d0 m0 (v ∷ v ∷ []) s m1 y refl)
    (yields_beneath 1 (sign_word v ∷ []) m1 (shifting 1 15 (at_left m1)) (omega (arith, here))
    (subst (λ (b : ℕ). Yields 1 (b ∷ []) m1 (shifting 1 15 (at_left m1)))
    (ap (λ (b : ℕ). shifted (shift_of 1) b 15) (value_word st stands.0 2 k 0 1 d0 m0 (v ∷ v ∷ []) s m1 y refl) ∙ signs_stand v y.small.0)
    (word_rows.shift 1 15 (at_left m1) (omega (arith, here))).words)))
    (y.small.0, (sign_small v, tt)) refl)
    (λ m2 t. exchanged g w stands.2.0 q st s m2 d0 m0 k v (sign_word v) turns t)))
sign_extends z k need last enough same r q [] s m d0 m0 stands room x = let wide = x.wide in absurd (omega (arith, wide))
sign_extends z k need last enough same r q (v ∷ u ∷ vs) s m d0 m0 stands room x = let wide = x.wide in absurd (omega (arith, wide))

pub extensions_give : ExtensionsSimulate
unfolding sign_word
extensions_give z d k need (of kind.Integer) a meaning word enough whole x =
    parts_then z d k need 1 2 a (DUP ∷ ASR 15 ∷ XCH ∷ []) meaning (λ vs t. transferred kind.Double (of kind.Integer) vs t) whole x
    (sign_extends z k need (λ vs t. transferred kind.Double (of kind.Integer) vs t) enough (λ v s. refl))
extensions_give z d k need const a meaning word enough whole x =
    parts_then z d k need 1 2 a (DUP ∷ ASR 15 ∷ XCH ∷ []) meaning (λ vs t. transferred kind.Double const vs t) whole x
    (sign_extends z k need (λ vs t. transferred kind.Double const vs t) enough (λ v s. refl))
extensions_give z d k need (of kind.Logical) a meaning word enough whole x =
    parts_then z d k need 1 2 a (ZERO ∷ XCH ∷ []) meaning (λ vs t. transferred kind.Double (of kind.Logical) vs t) whole x
    (zero_extends z k need (λ vs t. transferred kind.Double (of kind.Logical) vs t) enough (λ v s. refl))
extensions_give z d k need (of kind.Byte) a meaning word enough whole x =
    parts_then z d k need 1 2 a (ZERO ∷ XCH ∷ []) meaning (λ vs t. transferred kind.Double (of kind.Byte) vs t) whole x
    (zero_extends z k need (λ vs t. transferred kind.Double (of kind.Byte) vs t) enough (λ v s. refl))
extensions_give z d k need (of kind.Double) a meaning word enough whole x = absurd (false≢true word)
extensions_give z d k need unknown a meaning word enough whole x = absurd (false≢true word)

-- ---- sums

-- a result on doubles is one
added_small : (b a : ℕ) → (double_added b a).value < 4294967296
unfolding double_added double_result
added_small b a = double_of-below _

subtracted_small : (b a : ℕ) → (double_subtracted b a).value < 4294967296
unfolding double_subtracted double_result
subtracted_small b a = double_of-below _

pub high_small : (d : ℕ) → d < 4294967296 → high_word d < 65536
unfolding high_word
high_small d small = omega (arith, small)

pub low_small : (d : ℕ) → low_word d < 65536
unfolding low_word
low_small d = omega arith

-- an operation of two doubles on top, which traps where its result is out of range
settling_wide : (g : Ground) (w : Rate) (p q : Spot) (st : Setting) (s : State) (m : Machine) (d0 : Data) (m0 : Machine) (k code h l h' l' : ℕ) (r : ℕ → ℕ → Wide)
    → ((n : Machine) → 4 ≤ length n.stack → SettlesWide 4 (r (lower_double n) (upper_double n)) n (operated code n)) → ((b a : ℕ) → (r b a).value < 4294967296)
    → Leads g (on p) q (doing g.segments (i.Pair (op code) (op 0)) q) → IsValue st p 4 k d0 m0 (h ∷ l ∷ h' ∷ l' ∷ []) s m
    → Follows g w (pos q - pos p) 0 w.reach (tally s) m (IsValue st q 2 k d0 m0) NoExit (double_done (r (double h l) (double h' l')) s)
settling_wide g w p q st s m d0 m0 k code h l h' l' r row small leads x = by (r (double h l) (double h' l')).overflow refl where
  vs : List ℕ
  vs = h ∷ l ∷ h' ∷ l' ∷ []

  settled : SettlesWide 4 (r (double h l) (double h' l')) m (operated code m)
  settled =
      subst (λ (b : ℕ). SettlesWide 4 (r (double h l) (double h' b)) m (operated code m)) (value_word st p 4 k 0 3 d0 m0 vs s m x refl)
      (subst (λ (b : ℕ). SettlesWide 4 (r (double h l) (double b (word 0 m))) m (operated code m)) (value_word st p 4 k 1 2 d0 m0 vs s m x refl)
      (subst (λ (b : ℕ). SettlesWide 4 (r (double h b) (upper_double m)) m (operated code m)) (value_word st p 4 k 2 1 d0 m0 vs s m x refl)
      (subst (λ (b : ℕ). SettlesWide 4 (r (double b (word 2 m)) (upper_double m)) m (operated code m)) (value_word st p 4 k 3 0 d0 m0 vs s m x refl)
      (row m (value_there st p 4 k d0 m0 vs s m x)))))

  by : (b : Bool) → (r (double h l) (double h' l')).overflow ≡ b
      → Follows g w (pos q - pos p) 0 w.reach (tally s) m (IsValue st q 2 k d0 m0) NoExit
      (if b then ends (trapped IntegerOverflow) s else done (double_words (r (double h l) (double h' l')).value) s)
  by true e =
      rows_trap g w (on p) q q (doing g.segments (i.Pair (op code) (op 0)) q) st s.begun s m d0 m0 k (k + 4) 2 (operated code m) IntegerOverflow leads
      refl x.at refl x.matches (settled.trap e)
  by false e =
      let v = (r (double h l) (double h' l')).value in
      words_row g w p q (doing g.segments (i.Pair (op code) (op 0)) q) st s m d0 m0 k 4 2 vs (high_word v ∷ low_word v ∷ []) (operated code m) leads refl x
      (settled.result e) (high_small v (small (double h l) (double h' l')), (low_small v, tt)) refl

-- by the words of both
wide_by_lists : (g : Ground) (w : Rate) (p q : Spot) (st : Setting) (s : State) (m : Machine) (d0 : Data) (m0 : Machine) (k code : ℕ) (r : ℕ → ℕ → Wide)
    (f : List ℕ → List ℕ → State → Outcome (List ℕ)) → ((h l h' l' : ℕ) (u : State) → f (h ∷ l ∷ []) (h' ∷ l' ∷ []) u ≡ double_done (r (double h l) (double h' l')) u)
    → ((n : Machine) → 4 ≤ length n.stack → SettlesWide 4 (r (lower_double n) (upper_double n)) n (operated code n)) → ((b a : ℕ) → (r b a).value < 4294967296)
    → Leads g (on p) q (doing g.segments (i.Pair (op code) (op 0)) q) → (vs us : List ℕ) → length vs ≡ 2 → length us ≡ 2
    → IsValue st p 4 k d0 m0 (vs ++ us) s m
    → Follows g w (pos q - pos p) 0 w.reach (tally s) m (IsValue st q 2 k d0 m0) NoExit (f vs us s)
wide_by_lists g w p q st s m d0 m0 k code r f same row small leads (h ∷ l ∷ []) (h' ∷ l' ∷ []) one two x =
    subst (λ (o : Outcome (List ℕ)). Follows g w (pos q - pos p) 0 w.reach (tally s) m (IsValue st q 2 k d0 m0) NoExit o) (sym (same h l h' l' s))
    (settling_wide g w p q st s m d0 m0 k code h l h' l' r row small leads x)
wide_by_lists g w p q st s m d0 m0 k code r f same row small leads [] us one two x = absurd (omega (arith, one))
wide_by_lists g w p q st s m d0 m0 k code r f same row small leads (h ∷ []) us one two x = absurd (omega (arith, one))
wide_by_lists g w p q st s m d0 m0 k code r f same row small leads (h ∷ l ∷ v ∷ vs) us one two x = absurd (omega (arith, one))
wide_by_lists g w p q st s m d0 m0 k code r f same row small leads (h ∷ l ∷ []) [] one two x = absurd (omega (arith, two))
wide_by_lists g w p q st s m d0 m0 k code r f same row small leads (h ∷ l ∷ []) (h' ∷ []) one two x = absurd (omega (arith, two))
wide_by_lists g w p q st s m d0 m0 k code r f same row small leads (h ∷ l ∷ []) (h' ∷ l' ∷ u ∷ us) one two x = absurd (omega (arith, two))

-- two parts and the operation
wide_operation : (z : Surroundings) (d k need more code : ℕ) (a b : Part) (first other : State → Outcome (List ℕ)) (r : ℕ → ℕ → Wide)
    (f : List ℕ → List ℕ → State → Outcome (List ℕ)) → ((h l h' l' : ℕ) (u : State) → f (h ∷ l ∷ []) (h' ∷ l' ∷ []) u ≡ double_done (r (double h l) (double h' l')) u)
    → ((n : Machine) → 4 ≤ length n.stack → SettlesWide 4 (r (lower_double n) (upper_double n)) n (operated code n)) → ((b a : ℕ) → (r b a).value < 4294967296)
    → IsWhole a → IsWhole b → Simulates z d as_value 2 k need a first → Simulates z d as_value 2 (k + 2) more b other → more + 2 ≤ need
    → Simulates z d as_value 2 k need (a ⨟ b ⨟ pieces (Do (i.Pair (op code) (op 0)) ∷ []))
    (λ s. then_go (first s) (λ vs t. then_go (other t) (λ us u. f vs us u)))
wide_operation z d k need more code a b first other r f same row small wa wb sa sb enough = record {
  does = λ h ws p q s l m stands front ready.
      let x = a h ws in
      let y = b (h + x.marks) x.wants in
      let g = z.ground in
      let w = z.rate in
      let st = z.setting in
      let end = stand_in_order g z.sites (x.pieces ++ y.pieces) (Do (i.Pair (op code) (op 0)) ∷ []) p q
      (closed_last x.pieces y.pieces (wb.closed (h + x.marks) x.wants)) stands in
      let cut = stand_in_order g z.sites x.pieces y.pieces p end.0 (wa.closed h ws) end.1 in
      let leads = last_leads g z.sites (on end.0) (i.Pair (op code) (op 0)) q end.2 in
      let before = cut.3 in
      let between = cut.4 in
      let behind = end.4 in
      let many = w.enough in
      let room : 2 + more ≤ need = omega (arith, enough) in
      bind_follows g w (pos cut.0 - pos p.at) 1 w.reach (pos q - pos cut.0) 1 w.reach (pos q - pos p.at) 1 w.reach (tally_with l s) m (IsValue st cut.0 2 k s.now m)
      (IsValue st q 2 k s.now m) NoExit (first s) (λ vs t. then_go (other t) (λ us u. f vs us u))
      (sa.does h ws p cut.0 s l m cut.1 (front_on x.wants y.wants z.wants (wb.keeps (h + x.marks) x.wants) front) ready)
      (λ vs t m1 v fewer. bind_follows g w (pos end.0 - pos cut.0) 1 w.reach (pos q - pos end.0) 0 w.reach (pos q - pos cut.0) 1 w.reach (tally t) m1
      (IsValue st end.0 2 (k + 2) t.now m1) (IsValue st q 2 k s.now m) NoExit (other t) (λ us u. f vs us u)
      (sb.does (h + x.marks) x.wants (on cut.0) end.0 t t.begun m1 cut.2 front (value_ready st d p cut.0 k need 2 more s l m vs t m1 ready v fewer room))
      (λ us u m2 n less. wide_by_lists g w end.0 q st u m2 s.now m k code r f same row small leads vs us v.wide n.wide
      (values_join st cut.0 end.0 2 2 k s.now m vs us t m1 u m2 v n))
      (omega (arith, between, behind)) (omega arith) (omega (arith, many)) (omega (arith, many)))
      (omega (arith, before, between, behind)) (omega arith) (omega (arith, many)) (omega (arith, many));
}

-- DADD and DSUB
pub sums_give : DoubleSumsSimulate
sums_give z d k need more o a b first other sum wa wb sa sb enough =
    ⊎_elim
    (λ e. of_number plus e (wide_operation z d k need more 0o11 a b first other double_added (λ vs us u. by_class doubles plus vs us u) (λ h l h' l' u. refl) rows.double_add added_small
    wa wb sa sb enough))
    (λ e. of_number minus e (wide_operation z d k need more 0o12 a b first other double_subtracted (λ vs us u. by_class doubles minus vs us u) (λ h l h' l' u. refl)
    rows.double_subtract subtracted_small wa wb sa sb enough))
    (sum_cases o sum) where
      of_number : (n : ℕ) → o ≡ n
          → Simulates z d as_value 2 k need (a ⨟ b ⨟ pieces (class_operator doubles n)) (λ s. then_go (first s) (λ vs t. then_go (other t) (λ us u. by_class doubles n vs us u)))
          → Simulates z d as_value 2 k need (a ⨟ b ⨟ pieces (class_operator doubles o)) (λ s. then_go (first s) (λ vs t. then_go (other t) (λ us u. by_class doubles o vs us u)))
      of_number n e x =
          subst (λ (j : ℕ). Simulates z d as_value 2 k need (a ⨟ b ⨟ pieces (class_operator doubles j)) (λ s. then_go (first s) (λ vs t. then_go (other t) (λ us u. by_class doubles j vs us u))))
          (sym e) x

-- ---- constants

-- a constant closes
pub constant_closed : (c : ℕ) → IsClosed (constant c)
constant_closed c = by (nat_lt c 256) (nat_lt 65280 c) where
  by : (x y : Bool)
      → due_after true (if x then LDI c ∷ [] else if y then LDNI (65536 - c) ∷ [] else LDI (c / 256) ∷ LSL 8 ∷ ORI (c % 256) ∷ []) ≡ false
  by true y = refl
  by false true = refl
  by false false = refl

-- two words, one after the other
pub constants_give : DoubleConstantsSimulate
constants_give z d k need c small enough = record {
  does = λ h ws p q s l m stands front ready.
      let high = words_give z d k need (high_word c) (high_small c small) (omega (arith, enough)) in
      let low = words_give z d (k + 1) (need - 1) (low_word c) (low_small c) (omega (arith, enough)) in
      let cut = stand_in_order z.ground z.sites (constant (high_word c)) (constant (low_word c)) p q (constant_closed (high_word c)) stands in
      values_follow z.ground z.rate z.setting z.sites.marks 1 1 p cut.0 q k s l m (done (high_word c ∷ []) s) (λ vs t. done (low_word c ∷ []) t) cut.3 cut.4
      (high.does h ws p cut.0 s l m cut.1 front ready)
      (λ vs t m1 v fewer. low.does h ws (on cut.0) q t t.begun m1 cut.2 front
      (value_ready z.setting d p cut.0 k need 1 (need - 1) s l m vs t m1 ready v fewer (omega (arith, enough))));
}
