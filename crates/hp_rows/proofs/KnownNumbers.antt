-- The numbers after single steps, worked by hand from the rules.
use Rattle.std.proofs.Common.{◌≡◌, ℕ, ◌-◌, ◌^◌, replicate, [], refl}
use Rattle.std.specs.declared.result.Result.TheVariants.{Ok, Err}
use Rattle.hp_word.specs.declared.endings.Trap.TheVariants.{IntegerOverflow, StackOverflow, StackUnderflow, Illegal}
use Rattle.hp_tos.specs.Seen.{Seen, made}
use Rattle.hp_rows.specs.Numbers.{Numbers, uses, drops, moved}

-- a stack of nine words with so many in registers, five fills and seven spills so far
abbrev with : ℕ → Seen
with n = record (made (replicate 9 0) 9 [] 0 9) { in_registers = n; fills = 5; spills = 7 }

abbrev are : ℕ → ℕ → ℕ → Numbers
are in_registers fills spills = record { in_registers = in_registers; fills = fills; spills = spills }

-- two words exchanged: those that are wanting are filled, and both stand in registers afterwards
exchanged-none : moved (uses 2 2) (Ok tt) (with 0) ≡ are 2 7 7
exchanged-none = refl

exchanged-one : moved (uses 2 2) (Ok tt) (with 1) ≡ are 2 6 7
exchanged-one = refl

exchanged-four : moved (uses 2 2) (Ok tt) (with 4) ≡ are 4 5 7
exchanged-four = refl

-- two words in place of which one is left
summed-none : moved (uses 2 1) (Ok tt) (with 0) ≡ are 1 7 7
summed-none = refl

summed-three : moved (uses 2 1) (Ok tt) (with 3) ≡ are 2 5 7
summed-three = refl

-- a double once more: each word above four is a spill
copied-one : moved (uses 2 4) (Ok tt) (with 1) ≡ are 4 6 7
copied-one = refl

copied-three : moved (uses 2 4) (Ok tt) (with 3) ≡ are 4 5 8
copied-three = refl

copied-four : moved (uses 2 4) (Ok tt) (with 4) ≡ are 4 5 9
copied-four = refl

-- two zeros on top of three words in registers: one spill
zeros-three : moved (uses 0 2) (Ok tt) (with 3) ≡ are 4 5 8
zeros-three = refl

-- words that are dropped come from registers first, and then from memory
dropped-one : moved (drops 1) (Ok tt) (with 3) ≡ are 2 5 7
dropped-one = refl

dropped-five : moved (drops 5) (Ok tt) (with 3) ≡ are 0 5 7
dropped-five = refl

-- six zeros on top of one word in registers
zeros-six : moved (uses 0 6) (Ok tt) (with 1) ≡ are 4 5 10
zeros-six = refl

-- a trap comes after the fills and before the pushes
overflow-none : moved (uses 2 1) (Err IntegerOverflow) (with 0) ≡ are 2 7 7
overflow-none = refl

no_room-one : moved (uses 2 4) (Err StackOverflow) (with 1) ≡ are 2 6 7
no_room-one = refl

-- too few words, and a word that is no instruction, move nothing
underflow-one : moved (uses 4 2) (Err StackUnderflow) (with 1) ≡ are 1 5 7
underflow-one = refl

illegal-one : moved (uses 4 2) (Err Illegal) (with 1) ≡ are 1 5 7
illegal-one = refl

-- the counts go on from 0 past the last value of 64 bits
last_counts : moved (uses 4 4) (Ok tt) (record (with 0) { fills = 2 ^ 64 - 1 }) ≡ are 4 3 7
last_counts = refl
