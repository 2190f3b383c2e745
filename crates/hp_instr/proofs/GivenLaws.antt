-- Each word's instruction has fields such as words have, and an instruction with such fields has a word of sixteen bits.
use Rattle.std.proofs.Common.{◌≡◌, ℕ, ◌-◌, ◌<◌, ◌≤◌, ◌^◌, Bool, true, false, nat_lt, IsTrue, ◌↔◌, subst, refl, arith}
use Rattle.std.proofs.lemmas.Bool.{ltb-true, lt-ltb, and_parts, and_from}
use Rattle.std.proofs.lemmas.Bool.Decides.{nat_tests}
use Rattle.hp_instr.specs.declared.instruction.Instr.{Instr}
use Rattle.hp_instr.specs.declared.instruction.Instr.TheVariants.{Pair, Shifted, Short, Immediate, Control, Memory, LoadCode, Branch, OnCode, Loop, Illegal}
use Rattle.hp_instr.specs.Bits.{bits, bit}
use Rattle.hp_instr.specs.Fields.{is_op, is_shift, is_short_branch, is_immediate, is_control, is_reference}
use Rattle.hp_instr.specs.Encoded.{encoded, flag}
use Rattle.hp_instr.specs.Given.{has_word, HasWord, is_mode, is_illegal}
use Rattle.hp_instr.specs.Instructions.{pair, shift_or_branch, immediate, control, mode, load_code, loop_branch, branch, on_code, memory, no_memory, reference, instruction}
use Rattle.hp_instr.proofs.RangeLemmas.{op_below, shift_below, short_branch_between, immediate_below, control_below, reference_between}
use Rattle.hp_instr.proofs.FieldLaws.{mode_bits-below, instruction-encoded}

-- a flag is at most its bit
flag_below : (k : ℕ) (chosen : Bool) → flag k chosen ≤ 2 ^ (15 - k)
flag_below k true = omega arith
flag_below k false = omega arith

-- the word of an instruction has sixteen bits
pub encoded-below : (i : Instr) → has_word i ≡ true → encoded i < 2 ^ 16
unfolding has_word encoded
encoded-below (Pair left right) h =
    let both = and_parts (is_op left.code) (is_op right.code) h in
    omega (arith, op_below left.code both.0, op_below right.code both.1)
encoded-below (Shifted kind count) h =
    let both = and_parts (is_shift kind) (nat_lt count 64) h in
    omega (arith, shift_below kind both.0, ltb-true count 64 both.1)
encoded-below (Short test back d) h =
    let both = and_parts (is_short_branch test) (nat_lt d 32) h in
    omega (arith, short_branch_between test both.0, flag_below 10 back, ltb-true d 32 both.1)
encoded-below (Immediate which n) h =
    let both = and_parts (is_immediate which n) (nat_lt n 256) h in
    omega (arith, immediate_below which n both.0, ltb-true n 256 both.1)
encoded-below (Control which n) h =
    let both = and_parts (is_control which n) (nat_lt n 256) h in
    omega (arith, control_below which n both.0, ltb-true n 256 both.1)
encoded-below (Memory major second x i m) h =
    let both = and_parts (is_reference major second) (is_mode m) h in
    omega (arith, reference_between major second both.0, flag_below 4 x, flag_below 5 i, flag_below 6 second, mode_bits-below m both.1)
encoded-below (LoadCode back d) h = omega (arith, flag_below 7 back, ltb-true d 256 h)
encoded-below (Branch i back d) h = omega (arith, flag_below 5 i, flag_below 7 back, ltb-true d 256 h)
encoded-below (OnCode mask back d) h =
    let both = and_parts (nat_lt mask 8) (nat_lt d 32) h in
    omega (arith, flag_below 10 back, ltb-true mask 8 both.0, ltb-true d 32 both.1)
encoded-below (Loop modify back d) h = omega (arith, flag_below 4 modify, flag_below 7 back, ltb-true d 256 h)
encoded-below (Illegal w) h = ltb-true w (2 ^ 16) (and_parts (nat_lt w (2 ^ 16)) (is_illegal (instruction w)) h).0

-- a word that is no instruction is an illegal one
has_word-illegal : (w : ℕ) → w < 2 ^ 16 → instruction w ≡ Illegal w → has_word (Illegal w) ≡ true
unfolding has_word
has_word-illegal w h e = rw e (and_from _ _ (lt-ltb w (2 ^ 16) h) refl)

-- the words of major 0
has_word-pair : (w : ℕ) → w < 2 ^ 16 → instruction w ≡ pair w → has_word (pair w) ≡ true
unfolding has_word pair
has_word-pair w h e = grind (arith, nat_tests, has_word-illegal w h)

-- the words of major 1
has_word-shift_or_branch : (w : ℕ) → w < 2 ^ 16 → instruction w ≡ shift_or_branch w → has_word (shift_or_branch w) ≡ true
unfolding has_word shift_or_branch
has_word-shift_or_branch w h e = grind (arith, nat_tests, has_word-illegal w h)

-- the words of major 2
has_word-immediate : (w : ℕ) → w < 2 ^ 16 → instruction w ≡ immediate w → has_word (immediate w) ≡ true
unfolding has_word immediate
has_word-immediate w h e = grind (arith, nat_tests, has_word-illegal w h)

-- the words of major 3
has_word-control : (w : ℕ) → w < 2 ^ 16 → instruction w ≡ control w → has_word (control w) ≡ true
unfolding has_word control
has_word-control w h e = grind (arith, nat_tests, has_word-illegal w h)

-- an operand that is read has a displacement that its bits can hold
is_mode-mode : (w : ℕ) → is_mode (mode w) ≡ true
unfolding mode
is_mode-mode w = grind (arith, nat_tests)

-- operations on a word in memory
has_word-memory : (w : ℕ) → is_reference (bits 0 3 w) (bit 6 w) ≡ true → has_word (memory w) ≡ true
unfolding has_word memory
has_word-memory w h = and_from _ _ h (is_mode-mode w)

-- LOAD of a code word
has_word-load_code : (w : ℕ) → w < 2 ^ 16 → instruction w ≡ load_code w → has_word (load_code w) ≡ true
unfolding has_word load_code
has_word-load_code w h e = grind (arith, nat_tests, has_word-illegal w h)

-- TBA and MTBA
has_word-loop_branch : (w : ℕ) → w < 2 ^ 16 → instruction w ≡ loop_branch w → has_word (loop_branch w) ≡ true
unfolding has_word loop_branch
has_word-loop_branch w h e = grind (arith, nat_tests, has_word-illegal w h)

-- BR
has_word-branch : (w : ℕ) → w < 2 ^ 16 → instruction w ≡ branch w → has_word (branch w) ≡ true
unfolding has_word branch
has_word-branch w h e = grind (arith, nat_tests, has_word-illegal w h)

-- BCC
has_word-on_code : (w : ℕ) → w < 2 ^ 16 → instruction w ≡ on_code w → has_word (on_code w) ≡ true
unfolding has_word on_code
has_word-on_code w h e = grind (arith, nat_tests, has_word-illegal w h)

-- the other words of majors 4 to 15
has_word-no_memory : (w : ℕ) → w < 2 ^ 16 → instruction w ≡ no_memory w → has_word (no_memory w) ≡ true
unfolding no_memory
has_word-no_memory w h e =
    grind (arith, has_word-load_code, has_word-loop_branch, has_word-branch, has_word-on_code, has_word-illegal)

-- the words of majors 4 to 15
has_word-reference : (w : ℕ) → w < 2 ^ 16 → instruction w ≡ reference w → has_word (reference w) ≡ true
unfolding reference
has_word-reference w h e = grind (arith, has_word-memory, has_word-no_memory)

-- each word's instruction has fields such as words have
pub has_word-instruction : (w : ℕ) → w < 2 ^ 16 → has_word (instruction w) ≡ true
unfolding instruction
has_word-instruction w h =
    grind (arith, has_word-pair, has_word-shift_or_branch, has_word-immediate, has_word-control, has_word-reference)

-- the fields are such as words have exactly where some word has the instruction
pub has_word_iff : (i : Instr) → IsTrue (has_word i) ↔ HasWord i
has_word_iff i =
    (λ fit. (encoded i, encoded-below i fit, instruction-encoded i fit), λ some. subst (λ j. has_word j ≡ true) some.2 (has_word-instruction some.0 some.1))
