-- Constants: a word by one instruction, or its left byte, shifted, and its right one.
use Rattle.std.proofs.Common.{◌≡◌, ℕ, ◌+◌, ◌-◌, ◌*◌, ◌/◌, ◌%◌, ◌<◌, ◌≤◌, Bool, true, false, [], ◌∷◌, length, refl, ap, subst, ◌∙◌, arith}
use Rattle.std.specs.Prelude.{◌^◌, nat_lt, if◌then◌else◌, bit_or}
use Rattle.std.proofs.lemmas.Bool.{ltb-true}
use Rattle.std.proofs.lemmas.Nat.{or_shifted}
use Rattle.hp_yields.specs.hp_word.Bits.{shifted}
use Rattle.hp_yields.proofs.hp_word_proofs.ShiftLemmas.{shifted-Lsl}
use Rattle.hp_yields.specs.hp_instr.declared.instruction.Instr.TheVariants as i
use Rattle.hp_yields.specs.hp_session.State.{Machine, word}
use Rattle.hp_yields.specs.hp_word_rows.WordRows.{minus, shift_of, shifting, immediate_row}
use Rattle.hp_yields.specs.hp_flat.Step.{at_left}
use Rattle.hp_yields.proofs.WordYields as rows
use Rattle.hp_yields.specs.spl_meaning.References.{Setting}
use Rattle.hp_yields.specs.spl_meaning.States.{Data, State, done}
use Rattle.hp_yields.specs.spl_code.Code.{as_value}
use Rattle.hp_yields.specs.spl_code.Instructions.{LDI, LDNI, LSL, ORI}
use Rattle.hp_yields.specs.spl_code.Parts.{pieces}
use Rattle.hp_yields.specs.spl_follow.Spots.{Spot, on}
use Rattle.hp_yields.specs.spl_follow.Matching.{IsValue}
use Rattle.hp_yields.specs.spl_follow.Doing.{doing}
use Rattle.hp_yields.specs.spl_follow.Yielding.{Yields}
use Rattle.hp_yields.specs.spl_follow.Simulating.{Simulates}
use Rattle.hp_yields.proofs.spl_follow_proofs.KeepLemmas.{value_word}
use Rattle.spl_values.specs.Laws.{ConstantsSimulate}
use Rattle.spl_values.proofs.GiveLemmas.{last_leads, ready_room, row_gives, row_behind}

-- ---- numbers

-- what LDNI pushes
pub minus_is : (c : ℕ) → 65280 < c → c < 65536 → minus (65536 - c) ≡ c
minus_is c low high = omega (arith, low, high)

-- the left byte, shifted
left_shifted : (c : ℕ) → c < 65536 → shifted (shift_of 2) (c / 256) 8 ≡ c / 256 * 2 ^ 8
unfolding shift_of
left_shifted c small =
    let high : c / 256 < 256 = omega (arith, small) in
    let fits : c / 256 * 2 ^ 8 % 65536 ≡ c / 256 * 2 ^ 8 = omega (arith, high) in
    shifted-Lsl (c / 256) 8 (omega arith) ∙ fits

-- and the right one with it
pub bytes_joined : (c : ℕ) → bit_or (c / 256 * 2 ^ 8) (c % 256) ≡ c
bytes_joined c =
    let low : c % 256 < 2 ^ 8 = omega arith in
    let sum : c / 256 * 2 ^ 8 + c % 256 ≡ c = omega arith in
    or_shifted (c / 256) 8 (c % 256) low ∙ sum

-- ---- rows behind a word

-- the word on top is that of a value
top_is : (st : Setting) (p : Spot) (k : ℕ) (d : Data) (m : Machine) (v : ℕ) (s : State) (n : Machine) → IsValue st p 1 k d m (v ∷ []) s n
    → word 0 n ≡ v
top_is st p k d m v s n x = value_word st p 1 k 0 0 d m (v ∷ []) s n x refl

-- there is one
one_there : (st : Setting) (p : Spot) (k : ℕ) (d : Data) (m : Machine) (v : ℕ) (s : State) (n : Machine) → IsValue st p 1 k d m (v ∷ []) s n
    → 1 ≤ length n.stack
one_there st p k d m v s n x = let words = x.matches.words in omega (arith, words)

-- LSL by eight
shift_yields : (st : Setting) (p : Spot) (k : ℕ) (d : Data) (m : Machine) (v w : ℕ) (s : State) (n : Machine) → shifted (shift_of 2) v 8 ≡ w
    → IsValue st p 1 k d m (v ∷ []) s n → Yields 1 (w ∷ []) n (shifting 2 8 (at_left n))
shift_yields st p k d m v w s n is x =
    subst (λ (u : ℕ). Yields 1 (u ∷ []) n (shifting 2 8 (at_left n)))
    (ap (λ (u : ℕ). shifted (shift_of 2) u 8) (top_is st p k d m v s n x) ∙ is)
    (rows.shift 2 8 (at_left n) (one_there st p k d m v s n x)).words

-- ORI
or_yields : (st : Setting) (p : Spot) (k : ℕ) (d : Data) (m : Machine) (v u w : ℕ) (s : State) (n : Machine) → bit_or v u ≡ w
    → IsValue st p 1 k d m (v ∷ []) s n → Yields 1 (w ∷ []) n (immediate_row 14 u (at_left n))
or_yields st p k d m v u w s n is x =
    subst (λ (u' : ℕ). Yields 1 (u' ∷ []) n (immediate_row 14 u (at_left n))) (ap (λ (x : ℕ). bit_or x u) (top_is st p k d m v s n x) ∙ is)
    (rows.number_or u (at_left n) (one_there st p k d m v s n x)).words

-- ---- constants

-- By which instructions: one of the first 256, one of the last 255, and each other.
pub constants_give : ConstantsSimulate
constants_give z d k need c small enough = by (nat_lt c 256) refl (nat_lt 65280 c) refl where
  by : (x : Bool) → nat_lt c 256 ≡ x → (y : Bool) → nat_lt 65280 c ≡ y
      → Simulates z d as_value 1 k need
      (pieces (if x then LDI c ∷ [] else if y then LDNI (65536 - c) ∷ [] else LDI (c / 256) ∷ LSL 8 ∷ ORI (c % 256) ∷ [])) (λ s. done (c ∷ []) s)
  by true e y f = record {
    does = λ h ws p q s l m stands front ready.
        row_gives z.ground z.rate z.setting z.sites.marks d p q (doing z.ground.segments (i.Immediate 1 c) q) k need s l m c
        (immediate_row 1 c (at_left m)) (last_leads z.ground z.sites p (i.Immediate 1 c) q stands) refl ready
        (rows.number_pushed c (at_left m) (ready_room z.setting d p k need s l m ready enough)).words small;
  }
  by false e true f = record {
    does = λ h ws p q s l m stands front ready.
        row_gives z.ground z.rate z.setting z.sites.marks d p q (doing z.ground.segments (i.Immediate 8 (65536 - c)) q) k need s l m c
        (immediate_row 8 (65536 - c) (at_left m)) (last_leads z.ground z.sites p (i.Immediate 8 (65536 - c)) q stands) refl ready
        (subst (λ (v : ℕ). Yields 0 (v ∷ []) m (immediate_row 8 (65536 - c) (at_left m))) (minus_is c (ltb-true 65280 c f) small)
        (rows.minus_pushed (65536 - c) (at_left m) (ready_room z.setting d p k need s l m ready enough)).words) small;
  }
  by false e false f = record {
    does = λ h ws p q s l m stands front ready.
        let high : c / 256 < 65536 = omega (arith, small) in
        let wide : c / 256 * 2 ^ 8 < 65536 = omega (arith, small) in
        let first = row_gives z.ground z.rate z.setting z.sites.marks d p stands.0 (doing z.ground.segments (i.Immediate 1 (c / 256)) stands.0) k need s l m (c / 256)
        (immediate_row 1 (c / 256) (at_left m)) stands.1 refl ready
        (rows.number_pushed (c / 256) (at_left m) (ready_room z.setting d p k need s l m ready enough)).words high in
        let one = stands.1.rise in
        let two = stands.2.1.rise in
        let second = row_behind z.ground z.rate z.setting z.sites.marks p stands.0 stands.2.0 (doing z.ground.segments (i.Shifted 2 8) stands.2.0) 1 k s l m
        (c / 256 ∷ []) (c / 256 * 2 ^ 8) (λ n. shifting 2 8 (at_left n)) (omega (arith, one)) stands.2.1 (λ n. refl)
        (λ n x. shift_yields z.setting stands.0 k s.now m (c / 256) (c / 256 * 2 ^ 8) s n (left_shifted c small) x) wide first in
        row_behind z.ground z.rate z.setting z.sites.marks p stands.2.0 q (doing z.ground.segments (i.Immediate 14 (c % 256)) q) 1 k s l m
        (c / 256 * 2 ^ 8 ∷ []) c (λ n. immediate_row 14 (c % 256) (at_left n)) (omega (arith, one, two))
        (last_leads z.ground z.sites (on stands.2.0) (i.Immediate 14 (c % 256)) q stands.2.2) (λ n. refl)
        (λ n x. or_yields z.setting stands.2.0 k s.now m (c / 256 * 2 ^ 8) (c % 256) c s n (bytes_joined c) x) small second;
  }
