-- When a monitor opens, and why it does not.
use Rattle.std.specs.Prelude.{◌≡◌, ℕ, ◌+◌, ◌<◌, ◌≤◌, nat_lt, List, [], ◌∷◌, length, slice_get, Option, None, Some, if◌then◌else◌}
use Rattle.hp_program.specs.declared.program.Program.{Program}
use Rattle.mpe_session.specs.declared.seat.Seat.{Seat}
use Rattle.mpe_overlay.specs.Codes.{codes_of}
use Rattle.mpe_worlds.specs.Opening.{memory_needed}
use Rattle.mpe_turns.specs.declared.fault.OpenFault.{OpenFault}
use Rattle.mpe_turns.specs.declared.fault.OpenFault.TheVariants.{StackTooSmall, MemoryTooSmall}

-- seats of these programs, within the limits of a job: each one's program exists, and neither its stack nor its extra segment has
-- more than 32,000 words
pub record AreSeats (programs : List Program) (seats : List Seat) : Type 0 where
  pub few : length seats ≤ 16
  pub program : (k : ℕ) (seat : Seat) → slice_get seats k ≡ Some seat → seat.program < length programs
  pub stack : (k : ℕ) (seat : Seat) → slice_get seats k ≡ Some seat → seat.stack ≤ 32000
  pub extra : (k : ℕ) (seat : Seat) → slice_get seats k ≡ Some seat → seat.extra ≤ 32000

-- the first of two faults
abbrev pub first_of_two : Option OpenFault → Option OpenFault → Option OpenFault
first_of_two None other = other
first_of_two (Some fault) other = Some fault

-- the stack that a session of a program needs: the data words and the main body's marker
abbrev pub stack_needed : Program → ℕ
stack_needed p = length p.globals.items + 4

-- a stack that is too small, of session n
abbrev pub small_stack : ℕ → Option Program → Seat → Option OpenFault
small_stack n None seat = None
small_stack n (Some p) seat = if nat_lt seat.stack (stack_needed p) then Some (StackTooSmall n (stack_needed p) seat.stack) else None

-- the first stack that is too small, of sessions of which the first has the number n
abbrev pub small_stack_from : ℕ → List Program → List Seat → Option OpenFault
small_stack_from n programs [] = None
small_stack_from n programs (seat ∷ seats) =
    first_of_two (small_stack n (slice_get programs seat.program) seat) (small_stack_from (n + 1) programs seats)

-- a memory in which the job does not fit
abbrev pub small_memory : ℕ → ℕ → Option OpenFault
small_memory need memory = if nat_lt memory need then Some (MemoryTooSmall need memory) else None

-- why a monitor can't be opened, if it can't: the stacks count before the memory
abbrev pub refusal : ℕ → List Seat → List Program → Option OpenFault
refusal memory seats programs =
    first_of_two (small_stack_from 0 programs seats) (small_memory (memory_needed seats (codes_of programs)) memory)
