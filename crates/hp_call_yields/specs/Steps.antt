-- What decides a step of a scan, and the registers that a marker gives back.
use Rattle.std.specs.Prelude.{ℕ, ◌%◌, ◌/◌, ◌==◌, ◌||◌, Bool}
use Rattle.hp_yields.specs.hp_session.declared.registers.Regs.{Regs}
use Rattle.hp_yields.specs.hp_session.State.{Machine, word}

-- SCW passes a byte that is the test word's right half
abbrev pub passes_while : ℕ → Machine → Bool
passes_while b m = b == word 0 m % 256

-- SCU ends at a byte that is one of its halves
abbrev pub ends_until : ℕ → Machine → Bool
ends_until b m = (b == word 0 m / 256) || (b == word 0 m % 256)

-- registers with the status of others
abbrev pub with_status_of : Regs → Regs → Regs
with_status_of r s = record s { traps = r.traps; right = r.right; overflow = r.overflow; carry = r.carry; code = r.code; seg = r.seg }
