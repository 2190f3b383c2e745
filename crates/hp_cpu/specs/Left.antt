-- The phase in which a step leaves the processor, by its instruction.
use Rattle.std.specs.Prelude.{ℕ, ◌==◌, List, Option, None, Some, Result, Ok, Err, if◌then◌else◌}
use Rattle.hp_word.specs.declared.endings.Trap.{Trap}
use Rattle.hp_instr.specs.Bits.{bits}
use Rattle.hp_instr.specs.declared.instruction.Instr.{Instr}
use Rattle.hp_instr.specs.declared.instruction.Instr.TheVariants.{Control}
use Rattle.hp_instr.specs.declared.labels.Label.{Label}
use Rattle.hp_session.specs.State.{Machine}
use Rattle.hp_calls.specs.hp_call_rows.declared.call_rows.Frame.{Frame}
use Rattle.hp_calls.specs.hp_call_rows.CallRows.{label_at, marker_at}
use Rattle.hp_calls.specs.declared.phases.Phase.{Phase}
use Rattle.hp_calls.specs.declared.phases.Phase.TheVariants.{Ready, Returning}
use Rattle.hp_calls.specs.Transfers.{phase_through}
use Rattle.hp_cpu.specs.Gates.{instruction_at}

-- a call goes on through its label
abbrev pub phase_by_label : Result Label Trap → Phase
phase_by_label (Ok l) = phase_through l
phase_by_label (Err t) = Ready

-- a return goes to the segment and the offset of its marker, also where it is in that segment already
abbrev pub phase_by_marker : Result Frame Trap → Phase
phase_by_marker (Ok k) = Returning (bits 8 15 k.status) k.offset
phase_by_marker (Err t) = Ready

-- PCAL and EXIT, codes 0 and 1 of major 3, may leave a transfer under way; no other instruction does
abbrev pub phase_of : List (List ℕ) → Instr → Machine → Phase
phase_of program (Control which n) m =
    if which == 0 then phase_by_label (label_at program n m) else if which == 1 then phase_by_marker (marker_at m.regs.q m) else Ready
phase_of program i m = Ready

abbrev pub phase_at : List (List ℕ) → Option Instr → Machine → Phase
phase_at program None m = Ready
phase_at program (Some i) m = phase_of program i m

-- the phase in which a step that is done leaves the processor, from a session
unfoldable pub phase_after : List (List ℕ) → Machine → Phase
phase_after program m = phase_at program (instruction_at program m.regs) m
