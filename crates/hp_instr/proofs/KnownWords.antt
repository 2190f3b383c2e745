-- Known words of the manual's page, each worked by hand from its fields.
use Rattle.std.proofs.Common.{◌≡◌, true, false, refl}
use Rattle.hp_instr.specs.declared.instruction.Instr.TheVariants.{Pair, Shifted, Short, Immediate, Control, Memory, LoadCode, Branch, OnCode, Loop, Illegal}
use Rattle.hp_instr.specs.declared.instruction.Mode.TheVariants.{QMinus, SMinus}
use Rattle.hp_instr.specs.declared.labels.Label.TheVariants.{Local, External, Bad}
use Rattle.hp_instr.specs.Fields.{is_op, is_shift, is_short_branch, is_immediate, is_control, is_reference}
use Rattle.hp_instr.specs.Instructions.{op, pair, shift_or_branch, immediate, control, mode, load_code, loop_branch, branch, on_code, memory, no_memory, reference, instruction}
use Rattle.hp_instr.specs.Labels.{label}
use Rattle.hp_instr.specs.Names.{op_name, listed_name}
use Rattle.std.specs.Prelude.{codes}

-- DUP, then ADD
dup_add : instruction 0o004520 ≡ Pair (op 0o45) (op 0o20)
unfolding instruction pair is_op
dup_add = refl

-- a code that is not listed, on the right and on the left
unlisted_right : instruction 0o000013 ≡ Illegal 0o000013
unfolding instruction pair is_op
unlisted_right = refl

unlisted_left : instruction 0o001300 ≡ Illegal 0o001300
unfolding instruction pair is_op
unlisted_left = refl

-- CSR by fifteen; with bit 4 no instruction
rotated : instruction 0o010517 ≡ Shifted 5 15
unfolding instruction shift_or_branch is_shift
rotated = refl

bit_4_set : instruction 0o014517 ≡ Illegal 0o014517
unfolding instruction shift_or_branch
bit_4_set = refl

-- BNOV back by 31
back_on_no_overflow : instruction 0o012277 ≡ Short 0o22 true 31
unfolding instruction shift_or_branch is_shift is_short_branch
back_on_no_overflow = refl

-- SPLT; and with neither 1 nor 2 no instruction
split : instruction 0o020001 ≡ Immediate 0 1
unfolding instruction immediate is_immediate
split = refl

neither_split_nor_join : instruction 0o020003 ≡ Illegal 0o020003
unfolding instruction immediate is_immediate
neither_split_nor_join = refl

-- a field of all sixteen bits, and one that passes the word by one bit
whole_word : instruction 0o025400 ≡ Immediate 11 0o000
unfolding instruction immediate is_immediate
whole_word = refl

past_the_word : instruction 0o025420 ≡ Illegal 0o025420
unfolding instruction immediate is_immediate
past_the_word = refl

-- EXIT deleting three words; MVBW of letters and digits with capitals; MOVE with 2
exit_three : instruction 0o030403 ≡ Control 1 3
unfolding instruction control is_control
exit_three = refl

capitals : instruction 0o035407 ≡ Control 11 7
unfolding instruction control is_control
capitals = refl

move_two : instruction 0o034402 ≡ Illegal 0o034402
unfolding instruction control is_control
move_two = refl

-- LOAD of Q-3; STD of S-0 with indexing and indirection; CMPM without bit 6
load_below_q : instruction 0o041603 ≡ Memory 4 true false false (QMinus 3)
unfolding instruction reference is_reference memory mode
load_below_q = refl

store_double : instruction 0o167700 ≡ Memory 14 true true true (SMinus 0)
unfolding instruction reference is_reference memory mode
store_double = refl

without_bit_6 : instruction 0o060000 ≡ Illegal 0o060000
unfolding instruction reference is_reference no_memory
without_bit_6 = refl

-- LOAD of the code word three before; MTBA back by four; BR indirect by five; BCC on CCE back by four
load_code_word : instruction 0o040403 ≡ LoadCode true 3
unfolding instruction reference is_reference no_memory load_code
load_code_word = refl

modify_and_test : instruction 0o054404 ≡ Loop true true 4
unfolding instruction reference is_reference no_memory loop_branch
modify_and_test = refl

branch_indirect : instruction 0o142005 ≡ Branch true false 5
unfolding instruction reference is_reference no_memory branch
branch_indirect = refl

branch_on_equal : instruction 0o141244 ≡ OnCode 2 true 4
unfolding instruction reference is_reference no_memory on_code
branch_on_equal = refl

-- entry 7 of the gate; an offset; and a word that is no label
gate : label 0x87FF ≡ External 255 7
unfolding label
gate = refl

local_label : label 0o000100 ≡ Local 64
unfolding label
local_label = refl

bad_label : label 0o040000 ≡ Bad 0o040000
unfolding label
bad_label = refl

-- the names of a pair, and of a code that is not listed
pair_name : listed_name (Pair (op 0o45) (op 0o20)) ≡ codes "DUP,ADD"
unfolding listed_name op_name
pair_name = refl

no_name : op_name 0o13 ≡ codes "ILLEGAL"
unfolding op_name
no_name = refl
