-- The numbers after single steps that flush, worked by hand from the rules.
use Rattle.std.proofs.Common.{◌≡◌, ℕ, ◌-◌, ◌^◌, replicate, [], refl}
use Rattle.std.specs.declared.result.Result.{Result}
use Rattle.std.specs.declared.result.Result.TheVariants.{Ok, Err}
use Rattle.hp_word.specs.declared.endings.Trap.{Trap}
use Rattle.hp_word.specs.declared.endings.Trap.TheVariants.{Mode, StackUnderflow}
use Rattle.hp_tos.specs.Seen.{Seen, made}
use Rattle.hp_rows.specs.Numbers.{Numbers}
use Rattle.hp_rows.specs.Flushes.{flush_moved}

-- a stack of nine words with so many in registers, five fills and seven spills so far
abbrev with : ℕ → Seen
with n = record (made (replicate 9 0) 9 [] 0 9) { in_registers = n; fills = 5; spills = 7 }

abbrev are : ℕ → ℕ → ℕ → Numbers
are in_registers fills spills = record { in_registers = in_registers; fills = fills; spills = spills }

-- a step that is done, and one that traps
abbrev done : Result (Unit {0}) Trap
done = Ok tt

abbrev trapped : Trap → Result (Unit {0}) Trap
trapped trap = Err trap

-- a marker is pushed: three spills, and then its four words stand in registers, with no spill more
marker-three : flush_moved 4 done (with 3) ≡ are 4 5 10
marker-three = refl

marker-none : flush_moved 4 done (with 0) ≡ are 4 5 7
marker-none = refl

-- one word is pushed
word-four : flush_moved 1 done (with 4) ≡ are 1 5 11
word-four = refl

-- nothing is pushed, and what was taken came from memory: no fill
none-two : flush_moved 0 done (with 2) ≡ are 0 5 9
none-two = refl

-- a trap counts the flush, also where too few words are there
mode-two : flush_moved 4 (trapped Mode) (with 2) ≡ are 0 5 9
mode-two = refl

underflow-one : flush_moved 0 (trapped StackUnderflow) (with 1) ≡ are 0 5 8
underflow-one = refl

-- the count goes on from 0 past the last value of 64 bits
last_count : flush_moved 1 done (record (with 3) { spills = 2 ^ 64 - 1 }) ≡ are 1 5 2
last_count = refl
