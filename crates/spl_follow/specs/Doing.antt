-- What each piece of code does to the machine, wherever its words stand: the rows of its instruction, told with the places at which they go on.
use Rattle.std.specs.Prelude.{ℕ, ◌+◌, ◌%◌, ◌==◌, ◌&&◌, Bool, not, nat_le, if◌then◌else◌, List, Ok, Err}
use Rattle.hp_flat.specs.hp_word.Words.{added}
use Rattle.hp_flat.specs.hp_word.declared.endings.Trap.TheVariants.{Illegal, BadEntry, Mode}
use Rattle.hp_flat.specs.hp_instr.declared.instruction.Instr.{Instr}
use Rattle.hp_flat.specs.hp_instr.declared.instruction.Instr.TheVariants as i
use Rattle.hp_flat.specs.hp_session.declared.places.Place.TheVariants.{Stack}
use Rattle.hp_flat.specs.hp_session.State.{Machine, Outcome, then_with, word, taking, without, instead, pushing, with_x, with_code, wrapped}
use Rattle.hp_flat.specs.hp_session.Places.{read_at}
use Rattle.hp_flat.specs.hp_stack_rows.StackRows.{operated}
use Rattle.hp_flat.specs.hp_word_rows.WordRows.{shifting, range_code, is_equal, immediate_row, count_row}
use Rattle.hp_flat.specs.hp_memory_rows.MemoryRows.{settled_at, memory_row, code_loaded, is_named, goes_on}
use Rattle.hp_flat.specs.hp_memory_rows.MoveRows.{move_row}
use Rattle.hp_flat.specs.hp_call_rows.CallRows.{entered}
use Rattle.hp_flat.specs.hp_call_rows.GateRows.{served}
use Rattle.hp_flat.specs.Step.{at_left, control_row, ended}
use Rattle.spl_follow.specs.Spots.{Spot, spot, landed}

-- a row, and then on at a place; a trap ends the machine, which else stays as it is
abbrev pub going : Spot → Outcome → Machine → Machine
going r o m = ended m (then_with o (λ n. Ok (landed r n)))

-- ---- instructions

-- the row of an instruction that goes on behind its word, without the place
abbrev pub effect : List (List ℕ) → Instr → Machine → Outcome
effect segments (i.Shifted kind count) m = shifting kind count m
effect segments (i.Immediate which n) m = immediate_row which n m
effect segments (i.Memory major second x indirect mode) m = memory_row major second mode indirect x m
effect segments (i.LoadCode back d) m = code_loaded segments back d m
effect segments by m = Err Illegal

-- ADXI to SUBS, which go on behind their word
abbrev pub counts : ℕ → Bool
counts which = nat_le 4 which && nat_le which 8

-- steps of moves, scans and byte comparisons
abbrev pub is_move : ℕ → Bool
is_move which = nat_le 9 which

-- A step of a move: behind an element the next step is at the same place, and behind the last one it is at r.
abbrev pub moving : Spot → Outcome → Machine → Machine
moving r o m = ended m (then_with o (λ n. Ok (landed (if n.regs.p == m.regs.p then spot m else r) n)))

-- What an instruction does that goes on at r: a stack operation by itself, in either half of its word. Returns go where they lead, as their rows
-- say, and a move stays at its word or passes it.
abbrev pub doing : List (List ℕ) → Instr → Spot → Machine → Machine
doing segments (i.Pair left right) r m = going r (operated left.code m) m
doing segments (i.Control which n) r m =
    if counts which then going r (count_row which n (at_left m)) m
    else if is_move which then moving r (move_row segments which n (at_left m)) m
    else ended m (control_row segments which n (at_left m))
doing segments by r m = going r (effect segments by (at_left m)) m

-- ---- branches

-- on at `to` where it is so, and else at r
abbrev pub choosing : Bool → Spot → Spot → Machine → Machine
choosing taken to r m = landed (if taken then to else r) m

-- CPRB: both words are deleted
abbrev pub range_turning : Spot → Spot → Machine → Machine
range_turning to r m =
    let code = range_code m.regs.x (word 1 m) (word 0 m) in
    choosing (is_equal code) to r (with_code code (without 2 m))

-- IABZ, DABZ: the top word becomes w
abbrev pub word_turning : ℕ → Spot → Spot → Machine → Machine
word_turning w to r m = choosing (w == 0) to r (instead 1 w m)

-- IXBZ, DXBZ: X becomes x
abbrev pub x_turning : ℕ → Spot → Spot → Machine → Machine
x_turning x to r m = choosing (x == 0) to r (with_x x m)

-- BRO, BRE: the top word is deleted
abbrev pub parity_turning : ℕ → Spot → Spot → Machine → Machine
parity_turning parity to r m = choosing (word 0 m % 2 == parity) to r (without 1 m)

-- the short branches by their codes
abbrev pub short_turning : ℕ → Spot → Spot → Machine → Outcome
short_turning test to r m =
    if test == 0o10 then taking 1 m (Ok (word_turning (wrapped (word 0 m + 1)) to r m)) else  -- IABZ
    if test == 0o11 then taking 1 m (Ok (word_turning (wrapped (word 0 m + 65535)) to r m)) else  -- DABZ
    if test == 0o12 then Ok (x_turning (wrapped (m.regs.x + 1)) to r m) else  -- IXBZ
    if test == 0o13 then Ok (x_turning (wrapped (m.regs.x + 65535)) to r m) else  -- DXBZ
    if test == 0o14 then taking 2 m (Ok (range_turning to r m)) else  -- CPRB
    if test == 0o15 then taking 1 m (Ok (parity_turning 1 to r m)) else  -- BRO
    if test == 0o16 then taking 1 m (Ok (parity_turning 0 to r m)) else  -- BRE
    if test == 0o17 then Ok (choosing m.regs.carry to r m) else  -- BCY
    if test == 0o20 then Ok (choosing (not m.regs.carry) to r m) else  -- BNCY
    if test == 0o21 then Ok (choosing m.regs.overflow to r m) else  -- BOV
    if test == 0o22 then Ok (choosing (not m.regs.overflow) to r m) else  -- BNOV
    Err Illegal

-- TBA, MTBA: on at `to` where the loop goes on; else the three words are deleted
abbrev pub loop_turning : Bool → Spot → Spot → Machine → Machine
loop_turning on to r m = if on then landed to m else landed r (without 3 m)

-- TBA: the variable is tested
abbrev pub tested_turning : Spot → Spot → Machine → Outcome
tested_turning to r m =
    taking 3 m (then_with (read_at (Stack (word 2 m)) m) (λ w. Ok (loop_turning (goes_on w (word 1 m) (word 0 m)) to r m)))

-- MTBA: the step is added to the variable first, and the sum is tested
abbrev pub stepped_turning : Spot → Spot → Machine → Outcome
stepped_turning to r m =
    taking 3 m (then_with (read_at (Stack (word 2 m)) m) (λ w.
    then_with (settled_at (Stack (word 2 m)) (added w (word 1 m)) m) (λ n.
    Ok (loop_turning (goes_on (added w (word 1 m)).value (word 1 m) (word 0 m)) to r n))))

-- what a branch does that leads to one place and else goes on at r, whether its form is short or long
abbrev pub turned : Instr → Spot → Spot → Machine → Outcome
turned (i.Short test back d) to r m = short_turning test to r m
turned (i.Branch indirect back d) to r m = Ok (landed to m)
turned (i.OnCode mask back d) to r m = Ok (choosing (is_named mask m.regs.code) to r m)
turned (i.Loop modify back d) to r m = if modify then stepped_turning to r m else tested_turning to r m
turned by to r m = Err Illegal

abbrev pub turning : Instr → Spot → Spot → Machine → Machine
turning by to r m = ended m (turned by to r (at_left m))

-- ---- calls

-- where a call leads: to an entry of the gate, or to a body's first word
pub data Way : Type 0 where
  gate : ℕ → Way
  body : Spot → Way

-- PCAL: not in split mode. A procedure's marker is pushed, and it goes on in the procedure; an intrinsic is served, and it goes on behind.
abbrev pub procedure_called : Way → Spot → Machine → Outcome
procedure_called (gate entry) r m = then_with (served entry m) (λ n. Ok (landed r n))
procedure_called (body to) r m = entered to.seg to.offset m

-- SCAL: the offset behind is pushed, and it goes on in the subroutine
abbrev pub subroutine_called : Way → Spot → Machine → Outcome
subroutine_called (gate entry) r m = Err BadEntry
subroutine_called (body to) r m = then_with (pushing r.offset m) (λ n. Ok (landed to n))

-- a call, by its instruction and by where it leads
abbrev pub called : Instr → Way → Spot → Machine → Outcome
called (i.Control which n) way r m =
    if which == 0 then (if m.split then Err Mode else procedure_called way r m) else
    if which == 3 then subroutine_called way r m else Err Illegal
called by way r m = Err Illegal

-- what a call does that returns to r
abbrev pub calling : Instr → Way → Spot → Machine → Machine
calling by way r m = ended m (called by way r (at_left m))
