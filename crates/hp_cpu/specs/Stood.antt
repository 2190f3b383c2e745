-- For which session of the flat machine a processor stands, and which segment its next step needs.
use Rattle.std.specs.Prelude.{ℕ, List, slice_get, unwrap_or}
use Rattle.hp_session.specs.declared.registers.Regs.{Regs}
use Rattle.hp_session.specs.State.{Machine}
use Rattle.hp_tos.specs.StackView.{seen}
use Rattle.hp_rows.specs.Standing.{standing}
use Rattle.hp_calls.specs.Phases.{destination, finished}
use Rattle.hp_cpu.specs.declared.cpu.Cpu.{Cpu}

-- the segment that the next step needs: that of the transfer under way, if one is, else the current one
abbrev pub needed : Cpu → ℕ
needed cpu = unwrap_or (destination cpu.phase) cpu.regs.seg

-- the registers: a transfer under way counts as finished, as the program's tables have it
abbrev pub registers : List (List ℕ) → Cpu → Regs
registers program cpu = finished (slice_get program) cpu.phase cpu.regs

-- the session: words in memory and in registers are one list. Its terminal and its ending are those of `rest`
abbrev pub stood : List (List ℕ) → Cpu → Machine → Machine
stood program cpu rest = standing (registers program cpu) (seen cpu.stack) rest
