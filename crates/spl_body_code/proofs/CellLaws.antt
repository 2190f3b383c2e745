-- A cell moves with the base of its frame: words are added modulo 65,536.
use Rattle.std.proofs.Common.{◌≡◌, ℕ, suc, ◌+◌, ◌*◌, ◌%◌, ℤ, refl, sym, ap, ◌∙◌, arith}
use Rattle.std.proofs.lemmas.Int.{ints, int_rem_euclid_is}
use Rattle.std.specs.Prelude.{pos, negsuc, ◌+ℤ◌, ◌-ℤ◌, ◌*ℤ◌, unsigned_abs}
use Rattle.spl_code.specs.hp_word.Words.{word_of}
use Rattle.spl_code.specs.spl_tree.declared.expressions.Kind.{Kind}
use Rattle.spl_code.specs.spl_tree.declared.expressions.Kind.TheVariants as kind
use Rattle.spl_code.specs.spl_meaning.Places.{cell_word}
use Rattle.spl_body_code.specs.Based.{base_word}

-- the word of a number, by one that is some times 65,536 more
word_by : (z : ℤ) (k m : ℕ) → z +ℤ pos (k * 65536) ≡ pos m → word_of z ≡ m % 65536
unfolding word_of
word_by z k m h = ap unsigned_abs (int_rem_euclid_is z (pos 65536) 65536 k m (omega arith) refl h)

added : (b a : ℕ) → (b + a % 65536) % 65536 ≡ (b + a) % 65536
added b a = omega arith

-- a number below zero is that much below so many times 65,536
below : (a : ℕ) → negsuc a +ℤ pos (suc a * 65536) ≡ pos (suc a * 65535)
below a = omega (arith, ints)

below_more : (b a : ℕ) → (pos b +ℤ negsuc a) +ℤ pos (suc a * 65536) ≡ pos (b + suc a * 65535)
below_more b a = omega (arith, ints)

above_more : (b a : ℕ) → (pos b +ℤ pos a) +ℤ pos (0 * 65536) ≡ pos (b + a)
above_more b a = omega (arith, ints)

above_none : (a : ℕ) → pos a +ℤ pos (0 * 65536) ≡ pos a
above_none a = omega (arith, ints)

-- a word and a word of a number make the word of their sum
word_sum : (b : ℕ) (z : ℤ) → (b + word_of z) % 65536 ≡ word_of (pos b +ℤ z)
word_sum b (pos a) =
    ap (λ n. (b + n) % 65536) (word_by (pos a) 0 a (above_none a)) ∙ added b a ∙ sym (word_by (pos b +ℤ pos a) 0 (b + a) (above_more b a))
word_sum b (negsuc a) =
    ap (λ n. (b + n) % 65536) (word_by (negsuc a) (suc a) (suc a * 65535) (below a)) ∙ added b (suc a * 65535)
    ∙ sym (word_by (pos b +ℤ negsuc a) (suc a) (b + suc a * 65535) (below_more b a))

-- the data so far above the base
from_base : (b a : ℕ) (t : ℤ) → pos b +ℤ (pos a -ℤ t) ≡ pos (b + a) -ℤ t
from_base b a t = omega (arith, ints)

from_byte : (b a : ℕ) (t : ℤ) → pos (2 * b) +ℤ (pos (2 * a) -ℤ t) ≡ pos (2 * (b + a)) -ℤ t
from_byte b a t = omega (arith, ints)

pub cells_move : (k : Kind) (low : ℤ) (base above : ℕ) → (base_word k base + cell_word k low above) % 65536 ≡ cell_word k low (base + above)
cells_move kind.Integer low base above = word_sum base (pos above -ℤ low) ∙ ap word_of (from_base base above low)
cells_move kind.Logical low base above = word_sum base (pos above -ℤ low) ∙ ap word_of (from_base base above low)
cells_move kind.Byte low base above = word_sum (2 * base) (pos (2 * above) -ℤ low) ∙ ap word_of (from_byte base above low)
cells_move kind.Double low base above = word_sum base (pos above -ℤ pos 2 *ℤ low) ∙ ap word_of (from_base base above (pos 2 *ℤ low))
