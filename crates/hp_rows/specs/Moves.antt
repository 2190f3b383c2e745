-- What rows do with the words at the top, and the traps that those moves answer.
use Rattle.std.specs.Prelude.{ℕ, ◌+◌, Bool, false, nat_le, length, Result, Ok, Err, if◌then◌else◌}
use Rattle.hp_word.specs.declared.arithmetic.Code.{Code}
use Rattle.hp_word.specs.declared.endings.Trap.{Trap}
use Rattle.hp_word.specs.declared.endings.Trap.TheVariants.{IntegerOverflow, StackOverflow, StackUnderflow}
use Rattle.hp_tos.specs.Seen.{Seen}
use Rattle.hp_session.specs.declared.registers.Regs.{Regs}
use Rattle.hp_session.specs.State.{wrapped}

-- n words are needed: a trap where fewer are there
abbrev pub needed : ℕ → Seen → Result (Unit {0}) Trap
needed n s = if nat_le n (length s.words) then Ok tt else Err StackUnderflow

-- n more words are pushed: a trap where STACK does not allow them
abbrev pub allowed : ℕ → Seen → Result (Unit {0}) Trap
allowed n s = if nat_le (length s.words + n) s.limit then Ok tt else Err StackOverflow

-- a result of an integer or a double operation: a trap where it is out of range
abbrev pub in_range : Bool → Result (Unit {0}) Trap
in_range overflow = if overflow then Err IntegerOverflow else Ok tt

-- the registers after such a result: the overflow bit is cleared, carry and condition code are the result's
abbrev pub flagged : Bool → Code → Regs → Regs
flagged carry code regs = record regs { overflow = false; carry = carry; code = code }

-- the registers with another condition code, and with another X
abbrev pub coded : Code → Regs → Regs
coded code regs = record regs { code = code }

abbrev pub indexed : ℕ → Regs → Regs
indexed x regs = record regs { x = x }

-- the registers past the word at P, at the left half of the next
abbrev pub past : Regs → Regs
past regs = record regs { p = wrapped (regs.p + 1); right = false }
