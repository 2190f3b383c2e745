-- An instruction whose fields are such as words have, encoded and decoded again, is the same instruction: one lemma for
-- each kind of instruction.
use Rattle.std.proofs.Common.{◌≡◌, ℕ, ◌+◌, ◌*◌, ◌/◌, ◌%◌, ◌==◌, ◌<◌, ◌≤◌, ◌^◌, Bool, true, false, nat_lt, refl, arith}
use Rattle.std.proofs.lemmas.Bool.{ltb-true, and_parts}
use Rattle.hp_instr.specs.declared.instruction.Instr.{Instr}
use Rattle.hp_instr.specs.declared.instruction.Instr.TheVariants.{Pair, Shifted, Short, Immediate, Control, Memory, LoadCode, Branch, OnCode, Loop, Illegal}
use Rattle.hp_instr.specs.declared.instruction.Mode.{Mode}
use Rattle.hp_instr.specs.declared.instruction.Mode.TheVariants.{DbPlus, QPlus, QMinus, SMinus}
use Rattle.hp_instr.specs.declared.instruction.Op.{Op}
use Rattle.hp_instr.specs.Bits.{bits}
use Rattle.hp_instr.specs.Fields.{is_op, is_shift, is_short_branch, is_immediate, is_control, is_reference}
use Rattle.hp_instr.specs.Encoded.{encoded, mode_bits, flag}
use Rattle.hp_instr.specs.Given.{has_word, is_mode, is_illegal}
use Rattle.hp_instr.specs.Instructions.{pair, shift_or_branch, immediate, control, mode, load_code, loop_branch, branch, on_code, memory, no_memory, reference, instruction}
use Rattle.hp_instr.proofs.RangeLemmas.{op_below, shift_below, short_branch_between, immediate_below, control_below, reference_between}
use Rattle.hp_instr.proofs.RoundTripLaws.{encoded-instruction}

-- a pair
instruction-Pair : (left right : Op) → is_op left.code ≡ true → is_op right.code ≡ true →
    instruction (encoded (Pair left right)) ≡ Pair left right
unfolding instruction encoded pair
instruction-Pair left right l r = grind (arith, op_below)

-- a shift
instruction-Shifted : (kind count : ℕ) → is_shift kind ≡ true → count < 64 →
    instruction (encoded (Shifted kind count)) ≡ Shifted kind count
unfolding instruction encoded shift_or_branch
instruction-Shifted kind count k h = grind (arith, shift_below)

-- a short branch: its codes begin above those of the shifts
instruction-Short : (test : ℕ) (back : Bool) (d : ℕ) → is_short_branch test ≡ true → d < 32 →
    instruction (encoded (Short test back d)) ≡ Short test back d
unfolding instruction encoded shift_or_branch
instruction-Short test back d k h = grind (arith, shift_below, short_branch_between)

-- an operation with an immediate number
instruction-Immediate : (which n : ℕ) → is_immediate which n ≡ true → n < 256 →
    instruction (encoded (Immediate which n)) ≡ Immediate which n
unfolding instruction encoded immediate
instruction-Immediate which n k h = grind (arith, immediate_below)

-- a word of major 3
instruction-Control : (which n : ℕ) → is_control which n ≡ true → n < 256 →
    instruction (encoded (Control which n)) ≡ Control which n
unfolding instruction encoded control
instruction-Control which n k h = grind (arith, control_below)

-- an operand's displacement fits its bits, which stand below bit 6
pub mode_bits-below : (m : Mode) → is_mode m ≡ true → mode_bits m < 512
mode_bits-below (DbPlus d) h = omega (arith, ltb-true d 256 h)
mode_bits-below (QPlus d) h = omega (arith, ltb-true d 128 h)
mode_bits-below (QMinus d) h = omega (arith, ltb-true d 64 h)
mode_bits-below (SMinus d) h = omega (arith, ltb-true d 64 h)

-- an operand above DB
mode-DbPlus : (above d : ℕ) → d < 256 → mode (above * 512 + mode_bits (DbPlus d)) ≡ DbPlus d
unfolding mode
mode-DbPlus above d h = grind arith

-- an operand above Q
mode-QPlus : (above d : ℕ) → d < 128 → mode (above * 512 + mode_bits (QPlus d)) ≡ QPlus d
unfolding mode
mode-QPlus above d h = grind arith

-- an operand below Q
mode-QMinus : (above d : ℕ) → d < 64 → mode (above * 512 + mode_bits (QMinus d)) ≡ QMinus d
unfolding mode
mode-QMinus above d h = grind arith

-- an operand below S
mode-SMinus : (above d : ℕ) → d < 64 → mode (above * 512 + mode_bits (SMinus d)) ≡ SMinus d
unfolding mode
mode-SMinus above d h = grind arith

-- an operand is read from its bits, whatever stands above them
mode-mode_bits : (m : Mode) (above : ℕ) → is_mode m ≡ true → mode (above * 512 + mode_bits m) ≡ m
mode-mode_bits (DbPlus d) above h = mode-DbPlus above d (ltb-true d 256 h)
mode-mode_bits (QPlus d) above h = mode-QPlus above d (ltb-true d 128 h)
mode-mode_bits (QMinus d) above h = mode-QMinus above d (ltb-true d 64 h)
mode-mode_bits (SMinus d) above h = mode-SMinus above d (ltb-true d 64 h)

-- the bits above an operand: the major, indexing, indirection and bit 6
abbrev above : ℕ → Bool → Bool → Bool → ℕ
above major second x i = major * 8 + flag 13 x + flag 14 i + flag 15 second

-- the word of an operation on a word in memory, in these two parts
encoded-Memory : (major : ℕ) (second x i : Bool) (m : Mode) →
    encoded (Memory major second x i m) ≡ above major second x i * 512 + mode_bits m
unfolding encoded
encoded-Memory major second x i m = grind arith

-- a word of a major and bit 6 that have an operation on a word in memory
memory_word : (w : ℕ) → 4 ≤ w / 4096 % 16 → is_reference (w / 4096 % 16) (w / 512 % 2 == 1) ≡ true → instruction w ≡ memory w
unfolding instruction reference
memory_word w h is = grind arith

-- the major and bit 6 are read from above an operand
major_above : (major : ℕ) (second x i : Bool) (bits : ℕ) → major < 16 → bits < 512 →
    (above major second x i * 512 + bits) / 4096 % 16 ≡ major
major_above major second x i bits h k = grind arith

second_above : (major : ℕ) (second x i : Bool) (bits : ℕ) → bits < 512 →
    ((above major second x i * 512 + bits) / 512 % 2 == 1) ≡ second
second_above major second x i bits k = grind arith

-- the parts are read as they were put together
memory-above : (major : ℕ) (second x i : Bool) (bits : ℕ) (m : Mode) → major < 16 → bits < 512 →
    mode (above major second x i * 512 + bits) ≡ m →
    memory (above major second x i * 512 + bits) ≡ Memory major second x i m
unfolding memory
memory-above major second x i bits m h k e = grind arith

-- an operation on a word in memory
instruction-Memory : (major : ℕ) (second x i : Bool) (m : Mode) → is_reference major second ≡ true → is_mode m ≡ true →
    instruction (encoded (Memory major second x i m)) ≡ Memory major second x i m
instruction-Memory major second x i m r k =
    let between : (4 ≤ major) × (major < 16) = reference_between major second r in
    let below : mode_bits m < 512 = mode_bits-below m k in
    let is_major = major_above major second x i (mode_bits m) between.1 below in
    let is_second = second_above major second x i (mode_bits m) below in
    let word : instruction (above major second x i * 512 + mode_bits m) ≡ memory (above major second x i * 512 + mode_bits m) =
    memory_word _ (rw is_major between.0) (rw (is_major, is_second) r) in
    rw (encoded-Memory major second x i m, word)
    (memory-above major second x i (mode_bits m) m between.1 below (mode-mode_bits m (above major second x i) k))

-- from major 4 on, a word of a major and bit 6 that have no operation on a word in memory
no_memory_word : (w major : ℕ) (second : Bool) → w / 4096 % 16 ≡ major → (w / 512 % 2 == 1) ≡ second → 4 ≤ major →
    is_reference major second ≡ false → instruction w ≡ no_memory w
unfolding instruction reference
no_memory_word w major second e f h none = grind arith

-- majors 4 and 5 with bit 6 zero, and major 12, have no operation on a word in memory
not_4 : is_reference 4 false ≡ false
unfolding is_reference
not_4 = refl

not_5 : is_reference 5 false ≡ false
unfolding is_reference
not_5 = refl

not_12 : (second : Bool) → is_reference 12 second ≡ false
unfolding is_reference
not_12 true = refl
not_12 false = refl

-- so these words are read as LOAD of a code word, as TBA or MTBA, as BR and as BCC
instruction-load_code : (w : ℕ) → w / 4096 % 16 ≡ 4 → w / 512 % 2 ≡ 0 → instruction w ≡ load_code w
unfolding no_memory
instruction-load_code w e f = grind (arith, no_memory_word w 4 false, not_4)

instruction-loop_branch : (w : ℕ) → w / 4096 % 16 ≡ 5 → w / 512 % 2 ≡ 0 → instruction w ≡ loop_branch w
unfolding no_memory
instruction-loop_branch w e f = grind (arith, no_memory_word w 5 false, not_5)

instruction-branch : (w : ℕ) → w / 4096 % 16 ≡ 12 → w / 512 % 2 ≡ 0 → instruction w ≡ branch w
unfolding no_memory
instruction-branch w e f = grind (arith, no_memory_word w 12 false, not_12)

instruction-on_code : (w : ℕ) → w / 4096 % 16 ≡ 12 → w / 512 % 2 ≡ 1 → instruction w ≡ on_code w
unfolding no_memory
instruction-on_code w e f = grind (arith, no_memory_word w 12 true, not_12)

-- LOAD of a code word
instruction-LoadCode : (back : Bool) (d : ℕ) → d < 256 → instruction (encoded (LoadCode back d)) ≡ LoadCode back d
unfolding encoded load_code
instruction-LoadCode back d h = grind (arith, instruction-load_code)

-- TBA and MTBA
instruction-Loop : (modify back : Bool) (d : ℕ) → d < 256 → instruction (encoded (Loop modify back d)) ≡ Loop modify back d
unfolding encoded loop_branch
instruction-Loop modify back d h = grind (arith, instruction-loop_branch)

-- BR
instruction-Branch : (i back : Bool) (d : ℕ) → d < 256 → instruction (encoded (Branch i back d)) ≡ Branch i back d
unfolding encoded branch
instruction-Branch i back d h = grind (arith, instruction-branch)

-- BCC
instruction-OnCode : (mask : ℕ) (back : Bool) (d : ℕ) → mask < 8 → d < 32 →
    instruction (encoded (OnCode mask back d)) ≡ OnCode mask back d
unfolding encoded on_code
instruction-OnCode mask back d m h = grind (arith, instruction-on_code)

-- what is illegal is its own word
illegal_word : (i : Instr) → is_illegal i ≡ true → i ≡ Illegal (encoded i)
unfolding encoded
illegal_word (Illegal w) h = refl
illegal_word i h = cc

-- where a word is no instruction, its own word says so
instruction-Illegal : (w : ℕ) → nat_lt w (2 ^ 16) ≡ true → is_illegal (instruction w) ≡ true →
    instruction (encoded (Illegal w)) ≡ Illegal w
unfolding encoded
instruction-Illegal w below h =
    rw (encoded-instruction w (ltb-true w (2 ^ 16) below)) at (illegal_word (instruction w) h)

-- an instruction whose fields are such as words have, encoded and decoded again
pub instruction-encoded : (i : Instr) → has_word i ≡ true → instruction (encoded i) ≡ i
unfolding has_word
instruction-encoded (Pair left right) h =
    let both = and_parts (is_op left.code) (is_op right.code) h in instruction-Pair left right both.0 both.1
instruction-encoded (Shifted kind count) h =
    let both = and_parts (is_shift kind) (nat_lt count 64) h in instruction-Shifted kind count both.0 (ltb-true count 64 both.1)
instruction-encoded (Short test back d) h =
    let both = and_parts (is_short_branch test) (nat_lt d 32) h in instruction-Short test back d both.0 (ltb-true d 32 both.1)
instruction-encoded (Immediate which n) h =
    let both = and_parts (is_immediate which n) (nat_lt n 256) h in instruction-Immediate which n both.0 (ltb-true n 256 both.1)
instruction-encoded (Control which n) h =
    let both = and_parts (is_control which n) (nat_lt n 256) h in instruction-Control which n both.0 (ltb-true n 256 both.1)
instruction-encoded (Memory major second x i m) h =
    let both = and_parts (is_reference major second) (is_mode m) h in instruction-Memory major second x i m both.0 both.1
instruction-encoded (LoadCode back d) h = instruction-LoadCode back d (ltb-true d 256 h)
instruction-encoded (Branch i back d) h = instruction-Branch i back d (ltb-true d 256 h)
instruction-encoded (OnCode mask back d) h =
    let both = and_parts (nat_lt mask 8) (nat_lt d 32) h in
    instruction-OnCode mask back d (ltb-true mask 8 both.0) (ltb-true d 32 both.1)
instruction-encoded (Loop modify back d) h = instruction-Loop modify back d (ltb-true d 256 h)
instruction-encoded (Illegal w) h =
    let both = and_parts (nat_lt w (2 ^ 16)) (is_illegal (instruction w)) h in instruction-Illegal w both.0 both.1
