-- LOR, XOR and LAND: the operation of the machine is that of each bit.
use Rattle.std.proofs.Common.{◌≡◌, ◌⊎◌, inl, inr, ℕ, zero, suc, ◌+◌, ◌-◌, ◌*◌, ◌/◌, ◌%◌, ◌^◌, ◌<◌, ◌≤◌, Bool, true, false, [], ◌∷◌, length, refl, sym, ap, subst, ◌∙◌, arith}
use Rattle.std.specs.Prelude.{◌==◌, ◌||◌, if◌then◌else◌, min, max, bit_and, bit_or, bit_xor}
use Rattle.std.specs.Int.{bit_at}
use Rattle.std.proofs.lemmas.Bool.{eqb-true}
use Rattle.std.proofs.lemmas.Nat.{and_le_l, or_lt, xor_lt}
use Rattle.std.proofs.lemmas.Nat.Bits.{bit_at_and, bit_at_or, bit_at_xor}
use Rattle.std.proofs.Math.Logic.{⊎_elim}
use Rattle.std.proofs.Math.Nat.{div-one, mod-lt}
use Rattle.spl_conditions.specs.hp_word.Bits.{bit}
use Rattle.spl_conditions.proofs.hp_word_proofs.BitLemmas.{bit-at, number_of-first}
use Rattle.spl_conditions.specs.hp_instr.declared.instruction.Instr.TheVariants as i
use Rattle.spl_conditions.specs.hp_instr.Instructions.{op}
use Rattle.spl_conditions.specs.hp_session.State.{Machine, word}
use Rattle.spl_conditions.specs.hp_stack_rows.StackRows.{operated}
use Rattle.spl_conditions.proofs.hp_yields_proofs.StackYields as rows
use Rattle.spl_conditions.specs.spl_meaning.Kinds.{lor_operator, xor_operator}
use Rattle.spl_conditions.specs.spl_meaning.Operations.{bit_of, on_bits, bits_done}
use Rattle.spl_conditions.specs.spl_meaning.States.{done, then_go}
use Rattle.spl_conditions.specs.spl_code.Code.{as_value}
use Rattle.spl_conditions.specs.spl_code.Instructions.{operate}
use Rattle.spl_conditions.specs.spl_code.Operators.{bit_operator}
use Rattle.spl_conditions.specs.spl_code.Parts.{pieces, ◌⨟◌}
use Rattle.spl_conditions.specs.spl_follow.Spots.{pos, on}
use Rattle.spl_conditions.specs.spl_follow.Doing.{doing}
use Rattle.spl_conditions.specs.spl_follow.Following.{tally, Follows, NoExit}
use Rattle.spl_conditions.specs.spl_follow.Matching.{IsValue}
use Rattle.spl_conditions.specs.spl_follow.Simulating.{Surroundings, Simulates}
use Rattle.spl_conditions.specs.spl_follow.Yielding.{Yields}
use Rattle.spl_conditions.proofs.spl_follow_proofs.KeepLemmas.{value_word}
use Rattle.spl_conditions.proofs.spl_values_proofs.GiveLemmas.{last_leads}
use Rattle.spl_operators.specs.Laws.{land_operator, is_bitwise, BitsSimulate}
use Rattle.spl_operators.proofs.RowLemmas.{words_row, value_there}
use Rattle.spl_operators.proofs.OperandLemmas.{Makes, operands_then}

-- ---- bits

-- a bit is zero or one
one_bit : (n r : ℕ) → bit_at n r ≤ 1
one_bit n r = let low : n / 2 ^ r % 2 < 2 = mod-lt (n / 2 ^ r) (omega arith) in omega (arith, low)

-- a word whose bits are those that an operation makes of the bits of two words
bits_are : (o b a x : ℕ) → x < 65536 → ((r : ℕ) → bit_at x r ≡ bit_of o (bit_at b r) (bit_at a r)) → on_bits o b a ≡ x
bits_are o b a x small same = number_of-first 16 0 x (λ j. bit_of o (bit j b) (bit j a)) refl small each ∙ div-one x where
  each : (j : ℕ) → j < 16 → bit_of o (bit j b) (bit j a) ≡ bit j x
  each j l =
      let r = 15 - j in
      let place : j + r ≡ 15 = omega (arith, l) in
      ap (λ (y : ℕ). bit_of o y (bit j a)) (bit-at j r b place) ∙ ap (λ (y : ℕ). bit_of o (bit_at b r) y) (bit-at j r a place) ∙ sym (same r)
      ∙ sym (bit-at j r x place)

-- of two bits
greater_bit : (x y : ℕ) → x ≤ 1 → y ≤ 1 → max x y ≡ (if x + y == 0 then 0 else 1)
greater_bit zero zero l h = refl
greater_bit zero (suc zero) l h = refl
greater_bit (suc zero) zero l h = refl
greater_bit (suc zero) (suc zero) l h = refl
greater_bit (suc (suc x)) y l h = absurd (omega (arith, l))
greater_bit zero (suc (suc y)) l h = absurd (omega (arith, h))
greater_bit (suc zero) (suc (suc y)) l h = absurd (omega (arith, h))

less_bit : (x y : ℕ) → x ≤ 1 → y ≤ 1 → min x y ≡ x * y
less_bit zero zero l h = refl
less_bit zero (suc zero) l h = refl
less_bit (suc zero) zero l h = refl
less_bit (suc zero) (suc zero) l h = refl
less_bit (suc (suc x)) y l h = absurd (omega (arith, l))
less_bit zero (suc (suc y)) l h = absurd (omega (arith, h))
less_bit (suc zero) (suc (suc y)) l h = absurd (omega (arith, h))

and_small : (b a : ℕ) → b < 65536 → a < 65536 → bit_and b a < 65536
and_small b a x y = let low = and_le_l b a in omega (arith, low, x)

-- the three operations of words
or_bits : (b a : ℕ) → b < 65536 → a < 65536 → on_bits lor_operator b a ≡ bit_or b a
or_bits b a x y =
    bits_are lor_operator b a (bit_or b a) (or_lt 16 b a x y)
    (λ r. bit_at_or b a r ∙ greater_bit (bit_at b r) (bit_at a r) (one_bit b r) (one_bit a r))

xor_bits : (b a : ℕ) → b < 65536 → a < 65536 → on_bits xor_operator b a ≡ bit_xor b a
xor_bits b a x y = bits_are xor_operator b a (bit_xor b a) (xor_lt 16 b a x y) (λ r. bit_at_xor b a r)

and_bits : (b a : ℕ) → b < 65536 → a < 65536 → on_bits land_operator b a ≡ bit_and b a
and_bits b a x y =
    bits_are land_operator b a (bit_and b a) (and_small b a x y)
    (λ r. bit_at_and b a r ∙ less_bit (bit_at b r) (bit_at a r) (one_bit b r) (one_bit a r))

-- ---- operations

-- one operation on two words
bits_make : (z : Surroundings) (k need code o : ℕ) (f : ℕ → ℕ → ℕ)
    → ((m : Machine) → 2 ≤ length m.stack → Yields 2 (f (word 1 m) (word 0 m) ∷ []) m (operated code m))
    → ((b a : ℕ) → b < 65536 → a < 65536 → f b a < 65536) → ((b a : ℕ) → b < 65536 → a < 65536 → on_bits o b a ≡ f b a)
    → Makes z k need (operate code ∷ []) (λ v u s. bits_done o (v ∷ []) (u ∷ []) s)
bits_make z k need code o f row small is r q v u s m d0 m0 stands room x =
    let g = z.ground in
    let st = z.setting in
    subst (λ (b : ℕ). Follows g z.rate (pos q - pos r) 0 z.rate.reach (tally s) m (IsValue st q 1 k d0 m0) NoExit (done (b ∷ []) s))
    (sym (is v u x.small.0 x.small.1.0))
    (words_row g z.rate r q (doing g.segments (i.Pair (op code) (op 0)) q) st s m d0 m0 k 2 1 (v ∷ u ∷ []) (f v u ∷ []) (operated code m)
    (last_leads g z.sites (on r) (i.Pair (op code) (op 0)) q stands) refl x
    (subst (λ (b : ℕ). Yields 2 (f b u ∷ []) m (operated code m)) (value_word st r 2 k 1 0 d0 m0 (v ∷ u ∷ []) s m x refl)
    (subst (λ (b : ℕ). Yields 2 (f (word 1 m) b ∷ []) m (operated code m)) (value_word st r 2 k 0 1 d0 m0 (v ∷ u ∷ []) s m x refl)
    (row m (value_there st r 2 k d0 m0 (v ∷ u ∷ []) s m x))))
    (small v u x.small.0 x.small.1.0, tt) refl)

-- which of the three it is
pub bitwise_cases : (o : ℕ) → is_bitwise o ≡ true → (o ≡ lor_operator) ⊎ ((o ≡ xor_operator) ⊎ (o ≡ land_operator))
bitwise_cases o e = by (o == lor_operator) refl (o == xor_operator) refl e where
  by : (x : Bool) → (o == lor_operator) ≡ x → (y : Bool) → (o == xor_operator) ≡ y → (x || y || (o == land_operator)) ≡ true
      → (o ≡ lor_operator) ⊎ ((o ≡ xor_operator) ⊎ (o ≡ land_operator))
  by true is y it e = inl (eqb-true o lor_operator is)
  by false is true it e = inr (inl (eqb-true o xor_operator it))
  by false is false it e = inr (inr (eqb-true o land_operator e))

pub bitwise : BitsSimulate
bitwise z d k need more o a b first other e wa wb sa sb enough =
    ⊎_elim
    (λ is. of_number lor_operator is
    (operands_then z d k need more a b (operate 0o66 ∷ []) first other (λ vs us u. bits_done lor_operator vs us u)
    (bits_make z k need 0o66 lor_operator bit_or (λ m l. (rows.bits_or m l).words) (λ b a x y. or_lt 16 b a x y) or_bits) wa wb sa sb enough))
    (λ others. ⊎_elim
    (λ is. of_number xor_operator is
    (operands_then z d k need more a b (operate 0o67 ∷ []) first other (λ vs us u. bits_done xor_operator vs us u)
    (bits_make z k need 0o67 xor_operator bit_xor (λ m l. (rows.bits_xor m l).words) (λ b a x y. xor_lt 16 b a x y) xor_bits) wa wb sa sb enough))
    (λ is. of_number land_operator is
    (operands_then z d k need more a b (operate 0o70 ∷ []) first other (λ vs us u. bits_done land_operator vs us u)
    (bits_make z k need 0o70 land_operator bit_and (λ m l. (rows.bits_and m l).words) and_small and_bits) wa wb sa sb enough))
    others)
    (bitwise_cases o e) where
      of_number : (n : ℕ) → o ≡ n
          → Simulates z d as_value 1 k need (a ⨟ b ⨟ pieces (bit_operator n)) (λ s. then_go (first s) (λ vs t. then_go (other t) (λ us u. bits_done n vs us u)))
          → Simulates z d as_value 1 k need (a ⨟ b ⨟ pieces (bit_operator o)) (λ s. then_go (first s) (λ vs t. then_go (other t) (λ us u. bits_done o vs us u)))
      of_number n is x =
          subst (λ (j : ℕ). Simulates z d as_value 1 k need (a ⨟ b ⨟ pieces (bit_operator j)) (λ s. then_go (first s) (λ vs t. then_go (other t) (λ us u. bits_done j vs us u)))) (sym is) x
