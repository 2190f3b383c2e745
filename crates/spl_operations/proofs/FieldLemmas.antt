-- EXF of a field that lies within a word is an instruction.
use Rattle.std.proofs.Common.{◌≡◌, ◌<◌, ◌≤◌, ℕ, ◌+◌, ◌*◌, ◌/◌, ◌%◌, ◌-◌, ◌==◌, Bool, true, false, if◌then◌else◌, refl, arith}
use Rattle.std.proofs.lemmas.Bool.{and_from, lt-ltb, le-leb, eqb-true, eqb-false}
use Rattle.hp_instr.specs.declared.instruction.Instr.TheVariants as i
use Rattle.hp_instr.specs.Fields.{is_immediate, is_field, field_length}
use Rattle.hp_instr.specs.Given.{has_word}
use Rattle.spl_operations.specs.Views.{is_instruction}

-- a length of sixteen is written as zero
length_by : (m size : ℕ) (b : Bool) → (m == 0) ≡ b → m ≡ size % 16 → 1 ≤ size → size ≤ 16 → (if b then 16 else m) ≡ size
length_by m size true is low one most = let z : m ≡ 0 = eqb-true m 0 is in omega arith
length_by m size false is low one most = let z : (m ≡ 0) → ⊥ = eqb-false m 0 is in grind arith

-- the first bit and the length, as they stand in the number
first_bit : (start size : ℕ) → start < 16 → (16 * start + size % 16) / 16 % 16 ≡ start
first_bit start size small = omega arith

low_bits : (start size : ℕ) → (16 * start + size % 16) / 1 % 16 ≡ size % 16
low_bits start size = omega arith

within : (start size : ℕ) → 1 ≤ size → size ≤ 16 → start ≤ 16 - size → is_field (16 * start + size % 16) ≡ true
within start size one most fits =
    let first : (16 * start + size % 16) / 16 % 16 ≡ start = first_bit start size (omega arith) in
    let long : field_length (16 * start + size % 16) ≡ size = length_by ((16 * start + size % 16) / 1 % 16) size _ refl (low_bits start size) one most in
    let le : (16 * start + size % 16) / 16 % 16 + field_length (16 * start + size % 16) ≤ 16 = omega (arith, first, long) in
    le-leb _ 16 le

pub field_is_instruction : (start size : ℕ) → 1 ≤ size → size ≤ 16 → start ≤ 16 - size → is_instruction (i.Immediate 11 (16 * start + size % 16)) ≡ true
unfolding has_word is_immediate
field_is_instruction start size one most fits = and_from _ _ (and_from _ _ (within start size one most fits) (lt-ltb _ 256 (omega arith))) refl
