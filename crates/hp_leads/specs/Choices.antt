-- What a branch does before it goes on: whether it is taken, and the machine as it is then. So its row, and what it does as a piece of code,
-- are told by the places alone at which they go on.
use Rattle.std.specs.Prelude.{ℕ, ◌+◌, ◌%◌, ◌==◌, Bool, true, false, not, nat_le, length, if◌then◌else◌, Result, Ok, Err}
use Rattle.spl_follow.specs.hp_word.Words.{added}
use Rattle.spl_follow.specs.hp_word.declared.endings.Trap.{Trap}
use Rattle.spl_follow.specs.hp_word.declared.endings.Trap.TheVariants.{Illegal, StackUnderflow}
use Rattle.spl_follow.specs.hp_instr.declared.instruction.Instr.{Instr}
use Rattle.spl_follow.specs.hp_instr.declared.instruction.Instr.TheVariants as i
use Rattle.spl_follow.specs.hp_session.declared.places.Place.TheVariants.{Stack}
use Rattle.spl_follow.specs.hp_session.State.{Machine, then_with, word, without, instead, with_x, with_code, wrapped}
use Rattle.spl_follow.specs.hp_session.Places.{read_at}
use Rattle.spl_follow.specs.hp_word_rows.WordRows.{range_code, is_equal}
use Rattle.spl_follow.specs.hp_memory_rows.MemoryRows.{settled_at, is_named, goes_on}

-- a branch taken or not, and the machine that goes on
pub record Choice : Type 0 where
  pub taken : Bool
  pub machine : Machine

abbrev pub chosen : Bool → Machine → Choice
chosen taken m = record { taken = taken; machine = m }

-- a choice that takes n words: there must be as many
abbrev pub having : ℕ → Machine → Choice → Result Choice Trap
having n m c = if nat_le n (length m.stack) then Ok c else Err StackUnderflow

-- CPRB
abbrev pub range_choice : Machine → Choice
range_choice m =
    let code = range_code m.regs.x (word 1 m) (word 0 m) in
    chosen (is_equal code) (with_code code (without 2 m))

-- the short branches by their codes
abbrev pub short_choice : ℕ → Machine → Result Choice Trap
short_choice test m =
    if test == 0o10 then having 1 m (chosen (wrapped (word 0 m + 1) == 0) (instead 1 (wrapped (word 0 m + 1)) m)) else  -- IABZ
    if test == 0o11 then having 1 m (chosen (wrapped (word 0 m + 65535) == 0) (instead 1 (wrapped (word 0 m + 65535)) m)) else  -- DABZ
    if test == 0o12 then Ok (chosen (wrapped (m.regs.x + 1) == 0) (with_x (wrapped (m.regs.x + 1)) m)) else  -- IXBZ
    if test == 0o13 then Ok (chosen (wrapped (m.regs.x + 65535) == 0) (with_x (wrapped (m.regs.x + 65535)) m)) else  -- DXBZ
    if test == 0o14 then having 2 m (range_choice m) else  -- CPRB
    if test == 0o15 then having 1 m (chosen (word 0 m % 2 == 1) (without 1 m)) else  -- BRO
    if test == 0o16 then having 1 m (chosen (word 0 m % 2 == 0) (without 1 m)) else  -- BRE
    if test == 0o17 then Ok (chosen m.regs.carry m) else  -- BCY
    if test == 0o20 then Ok (chosen (not m.regs.carry) m) else  -- BNCY
    if test == 0o21 then Ok (chosen m.regs.overflow m) else  -- BOV
    if test == 0o22 then Ok (chosen (not m.regs.overflow) m) else  -- BNOV
    Err Illegal

-- TBA, MTBA: the three words are deleted where the loop does not go on
abbrev pub loop_choice : Bool → Machine → Choice
loop_choice on m = chosen on (if on then m else without 3 m)

abbrev pub tested_choice : Machine → Result Choice Trap
tested_choice m =
    if nat_le 3 (length m.stack) then
    then_with (read_at (Stack (word 2 m)) m) (λ w. Ok (loop_choice (goes_on w (word 1 m) (word 0 m)) m))
    else Err StackUnderflow

abbrev pub stepped_choice : Machine → Result Choice Trap
stepped_choice m =
    if nat_le 3 (length m.stack) then
    then_with (read_at (Stack (word 2 m)) m) (λ w.
    then_with (settled_at (Stack (word 2 m)) (added w (word 1 m)) m) (λ n.
    Ok (loop_choice (goes_on (added w (word 1 m)).value (word 1 m) (word 0 m)) n)))
    else Err StackUnderflow

-- a branch that is not indirect
abbrev pub choice : Instr → Machine → Result Choice Trap
choice (i.Short test back d) m = short_choice test m
choice (i.Branch indirect back d) m = Ok (chosen true m)
choice (i.OnCode mask back d) m = Ok (chosen (is_named mask m.regs.code) m)
choice (i.Loop modify back d) m = if modify then stepped_choice m else tested_choice m
choice by m = Err Illegal

-- whether a branch goes back, and how far
abbrev pub goes_back : Instr → Bool
goes_back (i.Short test back d) = back
goes_back (i.Branch indirect back d) = back
goes_back (i.OnCode mask back d) = back
goes_back (i.Loop modify back d) = back
goes_back by = false

abbrev pub distance : Instr → ℕ
distance (i.Short test back d) = d
distance (i.Branch indirect back d) = d
distance (i.OnCode mask back d) = d
distance (i.Loop modify back d) = d
distance by = 0
