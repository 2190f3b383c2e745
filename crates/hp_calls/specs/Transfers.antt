-- What is said of a call or a return whose transfer may be finished later: it is the flat machine's row, in which that is done
-- at once.
use Rattle.std.specs.Prelude.{◌≡◌, ℕ, ◌-◌, ◌==◌, Bool, false, List, length, take, slice_get, Option, None, Some, Result, Ok, Err, ⊤, if◌then◌else◌}
use Rattle.hp_word.specs.declared.endings.Trap.{Trap}
use Rattle.hp_word.specs.declared.intrinsics.Intrinsic.{Intrinsic}
use Rattle.hp_instr.specs.declared.labels.Label.{Label}
use Rattle.hp_instr.specs.declared.labels.Label.TheVariants.{Local, External, Bad}
use Rattle.hp_tos.specs.Seen.{Seen}
use Rattle.hp_session.specs.declared.registers.Regs.{Regs}
use Rattle.hp_session.specs.State.{Machine, Outcome, passing}
use Rattle.hp_call_rows.specs.GateRows.{intrinsic, performed}
use Rattle.hp_rows.specs.Standing.{standing}
use Rattle.hp_rows.specs.Numbers.{numbers}
use Rattle.hp_rows.specs.Flushes.{flush_moved}
use Rattle.hp_calls.specs.declared.phases.Phase.{Phase}
use Rattle.hp_calls.specs.declared.phases.Phase.TheVariants.{Ready, Entering, Returning}
use Rattle.hp_calls.specs.declared.phases.Called.{Called}
use Rattle.hp_calls.specs.declared.phases.Called.TheVariants.{Went, Gate}
use Rattle.hp_calls.specs.Phases.{destination, finished}

-- the phase in which a call through a label goes on: a local one leads to its offset at once, an external one into the segment
-- and the entry that it names
abbrev pub phase_through : Label → Phase
phase_through (Local offset) = Ready
phase_through (External seg entry) = Entering seg entry
phase_through (Bad w) = Ready

-- the intrinsic that a label leads to, if it is one of the gate's
abbrev pub gate_through : Label → Option Intrinsic
gate_through (Local offset) = None
gate_through (External seg entry) = if seg == 255 then intrinsic entry else None
gate_through (Bad w) = None

-- what a call through a label comes to, where it goes
abbrev pub IsThrough : Label → Called → Type 0
IsThrough l (Went phase) = phase ≡ phase_through l
IsThrough l (Gate i) = gate_through l ≡ Some i

-- the intrinsic that a call by a label is for, if it is for one: none in split mode, and none where there is no label
abbrev pub wanted : Bool → Result Label Trap → Option Intrinsic
wanted split (Ok l) = if split then None else gate_through l
wanted split (Err t) = None

-- the intrinsic that an answer hands on
abbrev pub handed_on : Result Called Trap → Option Intrinsic
handed_on (Ok (Went phase)) = None
handed_on (Ok (Gate i)) = Some i
handed_on (Err t) = None

-- what is handed on finds the stack in whole mode, with no word in a register
abbrev pub IsReady : Result Called Trap → Seen → Type 0
IsReady (Ok (Went phase)) s = ⊤
IsReady (Ok (Gate i)) s = (s.split ≡ false) × (s.in_registers ≡ 0)
IsReady (Err t) s = ⊤

-- a return's answer as one of a call
abbrev pub went : Result Phase Trap → Result Called Trap
went (Ok phase) = Ok (Went phase)
went (Err t) = Err t

-- the segment for which an answer's transfer waits, if it does
abbrev pub awaited : Result Called Trap → Option ℕ
awaited (Ok (Went phase)) = destination phase
awaited (Ok (Gate i)) = None
awaited (Err t) = None

-- how many words a step has pushed: what is handed on to the gate has pushed none
abbrev pub pushed_by : ℕ → Result Called Trap → ℕ
pushed_by left (Ok (Gate i)) = 0
pushed_by left _ = left

-- segment and offset of P are as they were
abbrev pub StaysPut : Regs → Regs → Type 0
StaysPut regs next = (next.seg ≡ regs.seg) × (next.p ≡ regs.p)

-- they stay so while a transfer is under way
abbrev pub Waits : Phase → Regs → Regs → Type 0
Waits Ready regs next = ⊤
Waits (Entering seg entry) regs next = StaysPut regs next
Waits (Returning seg offset) regs next = StaysPut regs next

-- what a session was and is, by the answer. Where the call went, the row leaves what is left when the transfer is finished.
-- What is handed on to the gate, and a trap, leave the session as it was: the row is the intrinsic's, or answers the trap
abbrev pub GoesAs : List (List ℕ) → (Machine → Outcome) → Result Called Trap → Regs → Seen → Regs → Seen → Machine → Type 0
GoesAs segments row (Ok (Went phase)) regs s next after rest =
    (row (standing regs s rest) ≡ Ok (standing (finished (slice_get segments) phase next) after rest)) × Waits phase regs next
GoesAs segments row (Ok (Gate i)) regs s next after rest =
    (row (standing regs s rest) ≡ passing (performed i (standing regs s rest))) × (standing next after rest ≡ standing regs s rest)
GoesAs segments row (Err t) regs s next after rest =
    (row (standing regs s rest) ≡ Err t) × (standing next after rest ≡ standing regs s rest)

-- from registers and a stack a call answered, and left registers and a stack, as a row says in a program with these segments;
-- where it goes it pushes so many words
pub record Transfers (segments : List (List ℕ)) (row : Machine → Outcome) (left : ℕ) (regs : Regs) (s : Seen)
    (answer : Result Called Trap) (next : Regs) (after : Seen) : Type 0 where
  pub goes : (rest : Machine) → GoesAs segments row answer regs s next after rest
  -- the numbers of the stack in registers moved as of a row that flushes
  pub moves : numbers after ≡ flush_moved (pushed_by left answer) answer s
  -- memory is reserved for as many words as before
  pub same_capacity : after.capacity ≡ s.capacity
  pub same_extra_capacity : after.extra_capacity ≡ s.extra_capacity

-- a stack of which the lowest words alone are left
abbrev pub shortened : ℕ → Seen → Seen
shortened kept s = record s { words = take kept s.words; in_registers = s.in_registers - (length s.words - kept) }
