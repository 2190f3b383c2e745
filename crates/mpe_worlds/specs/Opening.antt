-- How a world opens: each session as its program's opens, nothing loaded, nothing counted; and when the memory is enough for it.
use Rattle.std.specs.Prelude.{ℕ, ◌+◌, ◌-◌, max, List, [], ◌∷◌, ◌++◌, length, slice_get, Option, None, Some}
use Rattle.hp_cpu.specs.hp_flat.Views.{opened_of}
use Rattle.hp_cpu.specs.hp_program.declared.program.Program.{Program}
use Rattle.hp_cpu.specs.hp_rows.Numbers.{Numbers}
use Rattle.mpe_session.specs.declared.seat.Seat.{Seat}
use Rattle.mpe_worlds.specs.Worlds.{Run, World}

-- no word stands in a register, and none was filled or spilled
abbrev pub nothing_moved : Numbers
nothing_moved = record { in_registers = 0; fills = 0; spills = 0 }

-- the session of a seat, of its program
abbrev pub opening_run : Program → Seat → Run
opening_run p seat = record {
  program = seat.program;
  machine = opened_of p seat.lines.items seat.stack seat.extra seat.room;
  steps = 0;
  numbers = nothing_moved;
}

-- that of a seat whose program may be there
abbrev pub opening_with : Option Program → Seat → List Run
opening_with None seat = []
opening_with (Some p) seat = opening_run p seat ∷ []

-- those of all seats, in order
abbrev pub opening_runs : List Program → List Seat → List Run
opening_runs programs [] = []
opening_runs programs (seat ∷ seats) = opening_with (slice_get programs seat.program) seat ++ opening_runs programs seats

-- the words of all stacks and extra segments, which stand first in memory
abbrev pub seated_words : List Seat → ℕ
seated_words [] = 0
seated_words (seat ∷ seats) = seat.stack + seat.extra + seated_words seats

-- the words of the largest segment of a program, and of all programs; 0 where there is none
abbrev pub largest_segment : List (List ℕ) → ℕ
largest_segment [] = 0
largest_segment (words ∷ segments) = max (length words) (largest_segment segments)

abbrev pub largest : List (List (List ℕ)) → ℕ
largest [] = 0
largest (segments ∷ codes) = max (largest_segment segments) (largest codes)

-- the memory that a job needs: all stacks and extra segments, and the largest segment of any program
abbrev pub memory_needed : List Seat → List (List (List ℕ)) → ℕ
memory_needed seats codes = seated_words seats + largest codes

-- the world as it opens, in so many words of memory. What the sessions leave is the code area
abbrev pub opening : ℕ → List Seat → List Program → World
opening memory seats programs = record {
  runs = opening_runs programs seats;
  area = record { size = memory - seated_words seats; list = []; order = [] };
  turns = 0;
  loads = 0;
  last = 255;
}
