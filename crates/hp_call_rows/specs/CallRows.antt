-- The rows of calls and returns: the marker of a procedure, the return word of a subroutine, and the labels through which they go.
use Rattle.std.specs.Prelude.{ℕ, ◌+◌, ◌-◌, ◌*◌, Bool, false, ◌==◌, ◌||◌, nat_lt, nat_le, List, [], ◌∷◌, take, length, Result, Ok, Err, if◌then◌else◌}
use Rattle.hp_word.specs.declared.arithmetic.Code.{Code}
use Rattle.hp_word.specs.declared.arithmetic.Code.TheVariants.{Greater, Less, Equal}
use Rattle.hp_word.specs.declared.endings.Trap.{Trap}
use Rattle.hp_word.specs.declared.endings.Trap.TheVariants.{StackUnderflow, BadEntry, Mode}
use Rattle.hp_instr.specs.declared.labels.Label.{Label}
use Rattle.hp_instr.specs.declared.labels.Label.TheVariants.{Local, External, Bad}
use Rattle.hp_instr.specs.Bits.{bits, bit}
use Rattle.hp_instr.specs.Labels.{label}
use Rattle.hp_session.specs.declared.registers.Regs.{Regs}
use Rattle.hp_call_rows.specs.declared.call_rows.Frame.{Frame}
use Rattle.hp_session.specs.declared.places.Place.TheVariants.{Stack}
use Rattle.hp_program.specs.Valid.{entries_of, label_of}
use Rattle.hp_program.specs.Programs.{words_of}
use Rattle.hp_session.specs.State.{Machine, Outcome, then_with, word, taking, without, pushing, pushing_all, wrapped, at_place, passing}
use Rattle.hp_session.specs.Places.{read_at}
use Rattle.hp_call_rows.specs.GateRows.{served}

-- Tables

-- the current segment's words
abbrev pub current : List (List ℕ) → Machine → List ℕ
current segments m = words_of segments m.regs.seg

-- the label of an entry of the current segment: there is no entry 0, and none past their number
unfoldable pub label_at : List (List ℕ) → ℕ → Machine → Result Label Trap
label_at segments n m =
    if (n == 0) || nat_lt (entries_of (current segments m)) n then Err BadEntry
    else Ok (label (label_of (current segments m) n))

-- The status word

abbrev pub flag : Bool → ℕ → ℕ
flag on place = if on then place else 0

-- CCG is 00, CCL 01, CCE 10
unfoldable pub code_bits : Code → ℕ
code_bits Greater = 0b00
code_bits Less = 0b01
code_bits Equal = 0b10

-- 11 is read as CCE
unfoldable pub code_of_bits : ℕ → Code
code_of_bits b = if b == 0b00 then Greater else if b == 0b01 then Less else Equal

-- bits 0 and 1 zero, 2 user traps, 3 R, 4 overflow, 5 carry, 6 and 7 the code, 8 to 15 the segment
unfoldable pub status : Regs → ℕ
status r = flag r.traps 8192 + flag r.right 4096 + flag r.overflow 2048 + flag r.carry 1024 + 256 * code_bits r.code + r.seg

-- the registers with the status that a word has; its bits 0 and 1 are not looked at
unfoldable pub with_status : ℕ → Regs → Regs
with_status w r = record r {
  traps = bit 2 w;
  right = bit 3 w;
  overflow = bit 4 w;
  carry = bit 5 w;
  code = code_of_bits (bits 6 7 w);
  seg = bits 8 15 w;
}

-- Calls

-- the marker of a call: X, the offset of the word after the call, relative to the segment's start, the status, and how far
-- the new Q is above the old one
unfoldable pub marker : Machine → List ℕ
marker m = m.regs.x ∷ wrapped (m.regs.p + 1) ∷ status m.regs ∷ wrapped (length m.stack + 3 + 65536 - m.regs.q) ∷ []

-- a call of the procedure at an offset of a segment: the marker is pushed, and Q addresses its last word
unfoldable pub entered : ℕ → ℕ → Machine → Outcome
entered seg offset m = then_with (pushing_all (marker m) m) (λ n.
    Ok (record n { regs = record n.regs { q = length m.stack + 3; p = offset; seg = seg; right = false } }))

-- a call through a label: a local one is the procedure's offset; the label of segment 255 is an intrinsic, after which
-- the next step is the word after the call; another external one leads through that segment's table; a bad one nowhere
unfoldable pub called_through : List (List ℕ) → Label → Machine → Outcome
called_through segments (Local offset) m = entered m.regs.seg offset m
called_through segments (External seg entry) m =
    if seg == 255 then passing (served entry m)
    else entered seg (label_of (words_of segments seg) entry) m
called_through segments (Bad w) m = Err BadEntry

-- PCAL through entry n: not in split mode
unfoldable pub called : List (List ℕ) → ℕ → Machine → Outcome
called segments n m =
    if m.split then Err Mode else then_with (label_at segments n m) (λ l. called_through segments l m)

-- SCAL through entry n, which must be local: the offset of the word after the call is pushed
abbrev pub subroutine_at : Label → Machine → Outcome
subroutine_at (Local offset) m = then_with (pushing (wrapped (m.regs.p + 1)) m) (λ n. Ok (at_place offset n))
subroutine_at (External seg entry) m = Err BadEntry
subroutine_at (Bad w) m = Err BadEntry

unfoldable pub subroutine_called : List (List ℕ) → ℕ → Machine → Outcome
subroutine_called segments n m = then_with (label_at segments n m) (λ l. subroutine_at l m)

-- Returns

-- the marker whose last word q addresses: its four words; each must be in bounds
unfoldable pub marker_at : ℕ → Machine → Result Frame Trap
marker_at q m =
    then_with (read_at (Stack (wrapped (q + 65533))) m) (λ x.
    then_with (read_at (Stack (wrapped (q + 65534))) m) (λ offset.
    then_with (read_at (Stack (wrapped (q + 65535))) m) (λ status.
    then_with (read_at (Stack q) m) (λ delta.
    Ok (record { x = x; offset = offset; status = status; delta = delta })))))

-- the Q before a call
abbrev pub old_q : ℕ → ℕ → ℕ
old_q q delta = wrapped (q + 65536 - delta)

-- a return over a marker: its segment must be there; the words below it stay but for n, which must not be fewer, and the new
-- Q must address one of those that stay
unfoldable pub returned : List (List ℕ) → ℕ → Frame → Machine → Outcome
returned segments n k m =
    if nat_le (length segments) (bits 8 15 k.status) then Err BadEntry else
    if nat_lt m.regs.q (n + 3) || nat_le (m.regs.q - (n + 3)) (old_q m.regs.q k.delta) then Err StackUnderflow else
    Ok (record m {
      stack = take (m.regs.q - (n + 3)) m.stack;
      regs = record (with_status k.status m.regs) { x = k.x; q = old_q m.regs.q k.delta; p = k.offset };
    })

-- EXIT: not in split mode
unfoldable pub exited : List (List ℕ) → ℕ → Machine → Outcome
exited segments n m =
    if m.split then Err Mode else then_with (marker_at m.regs.q m) (λ k. returned segments n k m)

-- SXIT: to the offset in A, which is deleted with n words beneath it
unfoldable pub subroutine_left : ℕ → Machine → Outcome
subroutine_left n m = taking (n + 1) m (Ok (at_place (word 0 m) (without (n + 1) m)))
