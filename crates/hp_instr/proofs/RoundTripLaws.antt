-- A word decoded and encoded again is the same word: one lemma for each group of words, by division with remainder.
use Rattle.std.proofs.Common.{◌≡◌, ℕ, ◌/◌, ◌%◌, ◌<◌, false, refl, arith}
use Rattle.hp_instr.specs.declared.instruction.Instr.TheVariants.{Illegal}
use Rattle.hp_instr.specs.Bits.{bits, bit}
use Rattle.hp_instr.specs.Fields.{is_reference}
use Rattle.hp_instr.specs.Encoded.{encoded, mode_bits}
use Rattle.hp_instr.specs.Instructions.{pair, shift_or_branch, immediate, control, mode, load_code, loop_branch, branch, on_code, memory, no_memory, reference, instruction}

-- an illegal word is its own
encoded-illegal : (w : ℕ) → encoded (Illegal w) ≡ w
unfolding encoded
encoded-illegal w = refl

-- major 0
encoded-pair : (w : ℕ) → w / 4096 % 16 ≡ 0 → w < 65536 → encoded (pair w) ≡ w
unfolding encoded pair
encoded-pair w h k = grind arith

-- major 1
encoded-shift_or_branch : (w : ℕ) → w / 4096 % 16 ≡ 1 → w < 65536 → encoded (shift_or_branch w) ≡ w
unfolding encoded shift_or_branch
encoded-shift_or_branch w h k = grind arith

-- major 2
encoded-immediate : (w : ℕ) → w / 4096 % 16 ≡ 2 → w < 65536 → encoded (immediate w) ≡ w
unfolding encoded immediate
encoded-immediate w h k = grind arith

-- major 3
encoded-control : (w : ℕ) → w / 4096 % 16 ≡ 3 → w < 65536 → encoded (control w) ≡ w
unfolding encoded control
encoded-control w h k = grind arith

-- a data operand is the right nine bits
mode_bits-mode : (w : ℕ) → mode_bits (mode w) ≡ w % 512
unfolding mode
mode_bits-mode w = grind arith

-- major 4 with bit 6 zero
encoded-load_code : (w : ℕ) → w / 4096 % 16 ≡ 4 → w / 512 % 2 ≡ 0 → w < 65536 → encoded (load_code w) ≡ w
unfolding encoded load_code
encoded-load_code w h s k = grind arith

-- major 5 with bit 6 zero
encoded-loop_branch : (w : ℕ) → w / 4096 % 16 ≡ 5 → w / 512 % 2 ≡ 0 → w < 65536 → encoded (loop_branch w) ≡ w
unfolding encoded loop_branch
encoded-loop_branch w h s k = grind arith

-- major 12 with bit 6 zero
encoded-branch : (w : ℕ) → w / 4096 % 16 ≡ 12 → w / 512 % 2 ≡ 0 → w < 65536 → encoded (branch w) ≡ w
unfolding encoded branch
encoded-branch w h s k = grind arith

-- major 12 with bit 6 one
encoded-on_code : (w : ℕ) → w / 4096 % 16 ≡ 12 → w / 512 % 2 ≡ 1 → w < 65536 → encoded (on_code w) ≡ w
unfolding encoded on_code
encoded-on_code w h s k = grind arith

-- operations on a word in memory
encoded-memory : (w : ℕ) → w < 65536 → encoded (memory w) ≡ w
unfolding encoded memory
encoded-memory w k = grind (arith, mode_bits-mode)

-- LOAD and STOR have bit 6 one: where such a major has no operation on a word in memory, bit 6 is zero
bit_6-load : (w : ℕ) → is_reference (bits 0 3 w) (bit 6 w) ≡ false → w / 4096 % 16 ≡ 4 → w / 512 % 2 ≡ 0
unfolding is_reference
bit_6-load w h e = grind arith

bit_6-loop : (w : ℕ) → is_reference (bits 0 3 w) (bit 6 w) ≡ false → w / 4096 % 16 ≡ 5 → w / 512 % 2 ≡ 0
unfolding is_reference
bit_6-loop w h e = grind arith

-- the other words of majors 4 to 15
encoded-no_memory : (w : ℕ) → is_reference (bits 0 3 w) (bit 6 w) ≡ false → w < 65536 → encoded (no_memory w) ≡ w
unfolding no_memory
encoded-no_memory w h k =
    grind (arith, bit_6-load w h, bit_6-loop w h, encoded-load_code, encoded-loop_branch, encoded-branch, encoded-on_code, encoded-illegal)

-- majors 4 to 15
encoded-reference : (w : ℕ) → w < 65536 → encoded (reference w) ≡ w
unfolding reference
encoded-reference w k = grind (arith, encoded-memory, encoded-no_memory)

-- a word decoded and encoded again
pub encoded-instruction : (w : ℕ) → w < 65536 → encoded (instruction w) ≡ w
unfolding instruction
encoded-instruction w k =
    grind (arith, encoded-pair, encoded-shift_or_branch, encoded-immediate, encoded-control, encoded-reference)
