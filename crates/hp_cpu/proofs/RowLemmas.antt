-- The row of an instruction, by its group.
use Rattle.std.proofs.Common.{◌≡◌, ℕ, Bool, true, false, List, refl, arith}
use Rattle.std.specs.Prelude.{◌≢◌, ◌==◌, nat_le, Err, None, if◌then◌else◌}
use Rattle.std.proofs.lemmas.Bool.Decides.{nat_tests}
use Rattle.hp_word.specs.declared.endings.Trap.TheVariants as traps
use Rattle.hp_instr.specs.declared.groups.Group.{Group}
use Rattle.hp_instr.specs.declared.groups.Group.TheVariants.{Stack, Field, Reference, Move, Call, Illegal}
use Rattle.hp_instr.specs.declared.instruction.Instr.{Instr}
use Rattle.hp_instr.specs.declared.instruction.Instr.TheVariants as words
use Rattle.hp_instr.specs.Groups.{control_group, group}
use Rattle.hp_session.specs.State.{Machine, passing}
use Rattle.hp_flat.specs.hp_word_rows.WordRows.{count_row}
use Rattle.hp_flat.specs.hp_memory_rows.MoveRows.{move_row}
use Rattle.hp_fields.specs.FieldRows.{field_act, field_row}
use Rattle.hp_memref.specs.ReferenceRows.{reference_row}
use Rattle.hp_moves.specs.MoveSteps.{instruction_row}
use Rattle.hp_flat.specs.Step.{at_left, control_row, row, word_row}
use Rattle.hp_calls.specs.declared.phases.Phase.TheVariants.{Ready}
use Rattle.hp_cpu.specs.Gates.{label_called, gate_of}
use Rattle.hp_cpu.specs.Left.{phase_of}

-- Codes of major 3

-- a choice of three by two tests
abbrev chosen : Bool → Bool → Group
chosen call field = if call then Call else if field then Field else Move

-- counts of words have the codes 4 to 8
field_codes : (which : ℕ) → control_group which ≡ Field → (nat_le which 3 ≡ false) × (nat_le which 8 ≡ true)
field_codes which h = by (nat_le which 3) (nat_le which 8) h where
  by : (call field : Bool) → chosen call field ≡ Field → (call ≡ false) × (field ≡ true)
  by true field k = cc
  by false true k = (refl, refl)
  by false false k = cc

-- moves those from 9 on
move_codes : (which : ℕ) → control_group which ≡ Move → (nat_le which 3 ≡ false) × (nat_le which 8 ≡ false)
move_codes which h = by (nat_le which 3) (nat_le which 8) h where
  by : (call field : Bool) → chosen call field ≡ Move → (call ≡ false) × (field ≡ false)
  by true field k = cc
  by false true k = cc
  by false false k = (refl, refl)

-- calls those up to 3
pub call_codes : (which : ℕ) → control_group which ≡ Call → nat_le which 3 ≡ true
call_codes which h = by (nat_le which 3) (nat_le which 8) h where
  by : (call field : Bool) → chosen call field ≡ Call → call ≡ true
  by true field k = refl
  by false true k = cc
  by false false k = cc

-- above 3 none of the calls' codes
above : (which k : ℕ) → nat_le which 3 ≡ false → nat_le k 3 ≡ true → (which == k) ≡ false
above which k h low = grind (arith, nat_tests)

not_called : (segments : List (List ℕ)) (which n : ℕ) (m : Machine) → nat_le which 3 ≡ false
    → control_row segments which n m ≡ (if nat_le which 8 then passing (count_row which n m) else move_row segments which n m)
unfolding control_row
not_called segments which n m h =
    let zero : (which == 0) ≡ false = above which 0 h refl in
    let one : (which == 1) ≡ false = above which 1 h refl in
    let two : (which == 2) ≡ false = above which 2 h refl in
    let three : (which == 3) ≡ false = above which 3 h refl in
    rw (zero, one, two, three) refl

-- Rows

pub field_is : (segments : List (List ℕ)) (i : Instr) (m : Machine) → group i ≡ Field → word_row segments i m ≡ field_row i m
unfolding word_row field_act
field_is segments (words.Pair left right) m h = cc
field_is segments (words.Shifted kind count) m h = refl
field_is segments (words.Short test back d) m h = cc
field_is segments (words.Immediate which n) m h = refl
field_is segments (words.Control which n) m h = rw (not_called segments which n m (field_codes which h).0, (field_codes which h).1) refl
field_is segments (words.Memory major second x i mode) m h = cc
field_is segments (words.LoadCode back d) m h = cc
field_is segments (words.Branch i back d) m h = cc
field_is segments (words.OnCode mask back d) m h = cc
field_is segments (words.Loop modify back d) m h = cc
field_is segments (words.Illegal w) m h = cc

-- a code of major 3 is of no other group
no_reference : (which : ℕ) → control_group which ≢ Reference
no_reference which h = by (nat_le which 3) (nat_le which 8) h where
  by : (call field : Bool) → chosen call field ≢ Reference
  by true field k = cc
  by false true k = cc
  by false false k = cc

pub reference_is : (segments : List (List ℕ)) (i : Instr) (m : Machine) → group i ≡ Reference → word_row segments i m ≡ reference_row segments i m
unfolding word_row reference_row
reference_is segments (words.Pair left right) m h = cc
reference_is segments (words.Shifted kind count) m h = cc
reference_is segments (words.Short test back d) m h = refl
reference_is segments (words.Immediate which n) m h = cc
reference_is segments (words.Control which n) m h = absurd (no_reference which h)
reference_is segments (words.Memory major second x i mode) m h = refl
reference_is segments (words.LoadCode back d) m h = refl
reference_is segments (words.Branch i back d) m h = refl
reference_is segments (words.OnCode mask back d) m h = refl
reference_is segments (words.Loop modify back d) m h = refl
reference_is segments (words.Illegal w) m h = cc

pub move_is : (segments : List (List ℕ)) (i : Instr) (m : Machine) → group i ≡ Move → word_row segments i m ≡ instruction_row segments i m
unfolding word_row instruction_row
move_is segments (words.Pair left right) m h = cc
move_is segments (words.Shifted kind count) m h = cc
move_is segments (words.Short test back d) m h = cc
move_is segments (words.Immediate which n) m h = cc
move_is segments (words.Control which n) m h = rw (not_called segments which n m (move_codes which h).0, (move_codes which h).1) refl
move_is segments (words.Memory major second x i mode) m h = cc
move_is segments (words.LoadCode back d) m h = cc
move_is segments (words.Branch i back d) m h = cc
move_is segments (words.OnCode mask back d) m h = cc
move_is segments (words.Loop modify back d) m h = cc
move_is segments (words.Illegal w) m h = cc

-- of what is no instruction, but for a pair, which is done by halves
pub illegal_is : (segments : List (List ℕ)) (i : Instr) (m : Machine) → group i ≡ Illegal → word_row segments i m ≡ Err traps.Illegal
unfolding word_row
illegal_is segments (words.Pair left right) m h = cc
illegal_is segments (words.Shifted kind count) m h = cc
illegal_is segments (words.Short test back d) m h = cc
illegal_is segments (words.Immediate which n) m h = cc
illegal_is segments (words.Control which n) m h = absurd (no_illegal which h) where
  no_illegal : (which : ℕ) → control_group which ≢ Illegal
  no_illegal which k = by (nat_le which 3) (nat_le which 8) k where
    by : (call field : Bool) → chosen call field ≢ Illegal
    by true field e = cc
    by false true e = cc
    by false false e = cc
illegal_is segments (words.Memory major second x i mode) m h = cc
illegal_is segments (words.LoadCode back d) m h = cc
illegal_is segments (words.Branch i back d) m h = cc
illegal_is segments (words.OnCode mask back d) m h = cc
illegal_is segments (words.Loop modify back d) m h = cc
illegal_is segments (words.Illegal w) m h = refl

-- an instruction that is no pair is done whole, with R cleared first
pub whole_is : (segments : List (List ℕ)) (i : Instr) (m : Machine) → group i ≢ Stack → row segments i m ≡ word_row segments i (at_left m)
unfolding row
whole_is segments (words.Pair left right) m h = absurd (h refl)
whole_is segments (words.Shifted kind count) m h = refl
whole_is segments (words.Short test back d) m h = refl
whole_is segments (words.Immediate which n) m h = refl
whole_is segments (words.Control which n) m h = refl
whole_is segments (words.Memory major second x i mode) m h = refl
whole_is segments (words.LoadCode back d) m h = refl
whole_is segments (words.Branch i back d) m h = refl
whole_is segments (words.OnCode mask back d) m h = refl
whole_is segments (words.Loop modify back d) m h = refl
whole_is segments (words.Illegal w) m h = refl

-- Labels

-- only calls go through labels
pub no_label : (segments : List (List ℕ)) (i : Instr) (m : Machine) → group i ≢ Call → label_called segments i m ≡ Err traps.BadEntry
no_label segments (words.Pair left right) m h = refl
no_label segments (words.Shifted kind count) m h = refl
no_label segments (words.Short test back d) m h = refl
no_label segments (words.Immediate which n) m h = refl
no_label segments (words.Control which n) m h = by (which == 0) refl where
  calls : (which : ℕ) → (which == 0) ≡ true → control_group which ≡ Call
  calls which is = let low : nat_le which 3 ≡ true = grind (arith, nat_tests) in rw low refl

  by : (c : Bool) → (which == 0) ≡ c → label_called segments (words.Control which n) m ≡ Err traps.BadEntry
  by true is = absurd (h (calls which is))
  by false is = rw is refl
no_label segments (words.Memory major second x i mode) m h = refl
no_label segments (words.LoadCode back d) m h = refl
no_label segments (words.Branch i back d) m h = refl
no_label segments (words.OnCode mask back d) m h = refl
no_label segments (words.Loop modify back d) m h = refl
no_label segments (words.Illegal w) m h = refl

pub no_gate : (segments : List (List ℕ)) (i : Instr) (m : Machine) → group i ≢ Call → gate_of segments i m ≡ None
no_gate segments i m h = rw (no_label segments i m h) refl

-- only calls and returns leave a transfer under way
pub no_phase : (segments : List (List ℕ)) (i : Instr) (m : Machine) → group i ≢ Call → phase_of segments i m ≡ Ready
no_phase segments (words.Pair left right) m h = refl
no_phase segments (words.Shifted kind count) m h = refl
no_phase segments (words.Short test back d) m h = refl
no_phase segments (words.Immediate which n) m h = refl
no_phase segments (words.Control which n) m h = by (which == 0) (which == 1) refl refl where
  calls : (which : ℕ) → nat_le which 3 ≡ true → control_group which ≡ Call
  calls which low = rw low refl

  low_zero : (which : ℕ) → (which == 0) ≡ true → nat_le which 3 ≡ true
  low_zero which is = grind (arith, nat_tests)

  low_one : (which : ℕ) → (which == 1) ≡ true → nat_le which 3 ≡ true
  low_one which is = grind (arith, nat_tests)

  by : (c d : Bool) → (which == 0) ≡ c → (which == 1) ≡ d → phase_of segments (words.Control which n) m ≡ Ready
  by true d is other = absurd (h (calls which (low_zero which is)))
  by false true is other = absurd (h (calls which (low_one which other)))
  by false false is other = rw (is, other) refl
no_phase segments (words.Memory major second x i mode) m h = refl
no_phase segments (words.LoadCode back d) m h = refl
no_phase segments (words.Branch i back d) m h = refl
no_phase segments (words.OnCode mask back d) m h = refl
no_phase segments (words.Loop modify back d) m h = refl
no_phase segments (words.Illegal w) m h = refl
