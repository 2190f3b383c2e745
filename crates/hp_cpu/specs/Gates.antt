-- Which intrinsic a step calls, if it calls one.
use Rattle.std.specs.Prelude.{ℕ, ◌==◌, List, Option, None, Some, option_map, Result, Err, if◌then◌else◌}
use Rattle.hp_word.specs.declared.endings.Trap.{Trap}
use Rattle.hp_word.specs.declared.endings.Trap.TheVariants.{BadEntry}
use Rattle.hp_word.specs.declared.intrinsics.Intrinsic.{Intrinsic}
use Rattle.hp_instr.specs.declared.instruction.Instr.{Instr}
use Rattle.hp_instr.specs.declared.instruction.Instr.TheVariants.{Control}
use Rattle.hp_instr.specs.declared.labels.Label.{Label}
use Rattle.hp_instr.specs.Instructions.{instruction}
use Rattle.hp_program.specs.Programs.{code_word}
use Rattle.hp_session.specs.declared.registers.Regs.{Regs}
use Rattle.hp_session.specs.State.{Machine}
use Rattle.hp_calls.specs.hp_call_rows.CallRows.{label_at}
use Rattle.hp_calls.specs.Transfers.{wanted}

-- the instruction of the word at P; none where there is no word
abbrev pub instruction_at : List (List ℕ) → Regs → Option Instr
instruction_at program regs = option_map instruction (code_word program regs.seg regs.p)

-- the label through which PCAL, code 0 of major 3, goes; no other instruction goes through one to the gate
abbrev pub label_called : List (List ℕ) → Instr → Machine → Result Label Trap
label_called program (Control which n) m = if which == 0 then label_at program n m else Err BadEntry
label_called program i m = Err BadEntry

-- the intrinsic that an instruction calls
abbrev pub gate_of : List (List ℕ) → Instr → Machine → Option Intrinsic
gate_of program i m = wanted m.split (label_called program i m)

abbrev pub gate_at : List (List ℕ) → Option Instr → Machine → Option Intrinsic
gate_at program None m = None
gate_at program (Some i) m = gate_of program i m

-- the intrinsic that a step from a session calls
unfoldable pub called_gate : List (List ℕ) → Machine → Option Intrinsic
called_gate program m = gate_at program (instruction_at program m.regs) m
