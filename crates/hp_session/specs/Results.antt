-- What a row leaves, by its result: words in place of those that it takes, flags, and the condition code. A is the top word,
-- B and C are those beneath it.
use Rattle.std.specs.Prelude.{ℕ, false, [], ◌∷◌, Option, None, Some, Ok, Err, if◌then◌else◌}
use Rattle.hp_word.specs.declared.arithmetic.Arith.{Arith}
use Rattle.hp_word.specs.declared.arithmetic.Wide.{Wide}
use Rattle.hp_word.specs.declared.arithmetic.Quotient.{Quotient}
use Rattle.hp_word.specs.declared.endings.Trap.TheVariants.{IntegerOverflow, DivideByZero}
use Rattle.hp_word.specs.Words.{word_code}
use Rattle.hp_word.specs.Bytes.{high_word, low_word}
use Rattle.hp_session.specs.State.{Machine, Outcome, word, replaced, instead, with_code}

-- an integer result in place of the n top words: a trap where it is out of range, else the overflow bit is cleared and
-- carry and condition code are the result's
unfoldable pub settled : ℕ → Arith → Machine → Outcome
settled n r m =
    if r.overflow then Err IntegerOverflow
    else Ok (record (instead n r.value m) { regs = record m.regs { overflow = false; carry = r.carry; code = r.code } })

-- a result that leaves the carry as it stands
abbrev pub keeping_carry : Machine → Arith → Arith
keeping_carry m r = record r { carry = m.regs.carry }

-- an integer result in place of B, under A
unfoldable pub settled_below : Arith → Machine → Outcome
settled_below r m =
    if r.overflow then Err IntegerOverflow
    else Ok (record (replaced 2 (r.value ∷ word 0 m ∷ []) m) { regs = record m.regs { overflow = false; carry = r.carry; code = r.code } })

-- a double result in place of the n top words, as an integer one
unfoldable pub settled_double : ℕ → Wide → Machine → Outcome
settled_double n r m =
    if r.overflow then Err IntegerOverflow
    else Ok (record (replaced n (high_word r.value ∷ low_word r.value ∷ []) m) { regs = record m.regs { overflow = false; carry = r.carry; code = r.code } })

-- a double result that leaves the carry as it stands
abbrev pub keeping_double_carry : Machine → Wide → Wide
keeping_double_carry m r = record r { carry = m.regs.carry }

-- a logical result in place of the two top words: the overflow bit stays
unfoldable pub logical : Arith → Machine → Outcome
logical r m = Ok (record (instead 2 r.value m) { regs = record m.regs { carry = r.carry; code = r.code } })

-- a word in place of the n top words, and its condition code
abbrev pub coded : ℕ → ℕ → Machine → Machine
coded n w m = with_code (word_code w) (instead n w m)

-- DIV: the quotient, and the remainder on top; the code is the quotient's, and the carry stays
abbrev pub quotient : Option Quotient → Machine → Outcome
quotient None m = Err DivideByZero
quotient (Some q) m =
    if q.overflow then Err IntegerOverflow
    else Ok (record (replaced 2 (q.quotient ∷ q.remainder ∷ []) m) { regs = record m.regs { overflow = false; code = word_code q.quotient } })

-- LDIV: the double in C and B by A; the overflow bit stays
abbrev pub logical_quotient : Option Quotient → Machine → Outcome
logical_quotient None m = Err DivideByZero
logical_quotient (Some q) m = Ok (with_code (word_code q.quotient) (replaced 3 (q.quotient ∷ q.remainder ∷ []) m))
