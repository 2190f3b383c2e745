-- What a caller that holds a decoded instruction knows of its fields. Each lemma takes that some word has the instruction,
-- as `decode` says of its result.
use Rattle.std.proofs.Common.{◌≡◌, ℕ, ◌+◌, ◌<◌, ◌≤◌, Bool, true, nat_lt, IsTrue}
use Rattle.std.proofs.lemmas.Bool.{ltb-true, leb-true, and_parts}
use Rattle.hp_instr.specs.declared.instruction.Instr.TheVariants.{Pair, Shifted, Short, Immediate, Control, Memory, OnCode}
use Rattle.hp_instr.specs.declared.instruction.Mode.{Mode}
use Rattle.hp_instr.specs.declared.instruction.Op.{Op}
use Rattle.hp_instr.specs.Bits.{bits}
use Rattle.hp_instr.specs.Fields.{is_op, is_shift, is_short_branch, is_immediate, is_control, is_reference, field_length}
use Rattle.hp_instr.specs.Given.{has_word, is_mode}
use Rattle.hp_instr.proofs.RangeLemmas.{shift_below, short_branch_between, immediate_below, control_below, reference_between}

-- both operations of a pair are listed
pub pair_fields : (left right : Op) → IsTrue (has_word (Pair left right)) →
    (is_op left.code ≡ true) × (is_op right.code ≡ true)
unfolding has_word
pair_fields left right h = and_parts (is_op left.code) (is_op right.code) h

-- a shift is one of six, by at most 63 places
pub shifted_fields : (kind count : ℕ) → IsTrue (has_word (Shifted kind count)) → (kind < 6) × (count < 64)
unfolding has_word
shifted_fields kind count h =
    let both = and_parts (is_shift kind) (nat_lt count 64) h in (shift_below kind both.0, ltb-true count 64 both.1)

-- a short branch has one of the codes %10 to %22, and goes at most 31 words
pub short_fields : (test : ℕ) (back : Bool) (d : ℕ) → IsTrue (has_word (Short test back d)) →
    (8 ≤ test) × (test < 19) × (d < 32)
unfolding has_word
short_fields test back d h =
    let both = and_parts (is_short_branch test) (nat_lt d 32) h in
    let between = short_branch_between test both.0 in
    (between.0, between.1, ltb-true d 32 both.1)

-- a code of major 2 has four bits, its number eight
pub immediate_fields : (which n : ℕ) → IsTrue (has_word (Immediate which n)) → (which < 16) × (n < 256)
unfolding has_word
immediate_fields which n h =
    let both = and_parts (is_immediate which n) (nat_lt n 256) h in (immediate_below which n both.0, ltb-true n 256 both.1)

-- the field of EXF and of DPF lies within the word
pub exf_field : (n : ℕ) → IsTrue (has_word (Immediate 11 n)) → bits 8 11 n + field_length n ≤ 16
unfolding has_word is_immediate
exf_field n h = leb-true _ _ (and_parts _ (nat_lt n 256) h).0

pub dpf_field : (n : ℕ) → IsTrue (has_word (Immediate 12 n)) → bits 8 11 n + field_length n ≤ 16
unfolding has_word is_immediate
dpf_field n h = leb-true _ _ (and_parts _ (nat_lt n 256) h).0

-- a code of major 3 is below 15, its number has eight bits
pub control_fields : (which n : ℕ) → IsTrue (has_word (Control which n)) → (which < 15) × (n < 256)
unfolding has_word
control_fields which n h =
    let both = and_parts (is_control which n) (nat_lt n 256) h in (control_below which n both.0, ltb-true n 256 both.1)

-- an operation on a word in memory has a major from 4 on, and a displacement that its bits can hold
pub memory_fields : (major : ℕ) (second x i : Bool) (m : Mode) → IsTrue (has_word (Memory major second x i m)) →
    (4 ≤ major) × (major < 16) × (is_mode m ≡ true)
unfolding has_word
memory_fields major second x i m h =
    let both = and_parts (is_reference major second) (is_mode m) h in
    let between = reference_between major second both.0 in
    (between.0, between.1, both.1)

-- the mask of BCC has three bits, its displacement five
pub on_code_fields : (mask : ℕ) (back : Bool) (d : ℕ) → IsTrue (has_word (OnCode mask back d)) → (mask < 8) × (d < 32)
unfolding has_word
on_code_fields mask back d h =
    let both = and_parts (nat_lt mask 8) (nat_lt d 32) h in (ltb-true mask 8 both.0, ltb-true d 32 both.1)
