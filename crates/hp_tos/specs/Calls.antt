-- What each call on the top of a stack answers and leaves.
use Rattle.std.specs.Prelude.{ℕ, ◌+◌, ◌-◌, ◌%◌, ◌^◌, ◌==◌, nat_lt, nat_le, min, max, List, [], ◌∷◌, ◌++◌, length, take, slice_index, Result, Ok, Err, if◌then◌else◌}
use Rattle.hp_tos.specs.declared.refusals.Overflow.{Overflow}
use Rattle.hp_tos.specs.declared.refusals.Underflow.{Underflow}
use Rattle.hp_tos.specs.Seen.{Seen}

-- n words are asked for: refused where fewer are there, with both numbers, the first as 255 where it is larger
abbrev pub taking : {A : Type 0} → ℕ → Seen → A → Result A Underflow
taking n s answer =
    if nat_le n (length s.words) then Ok answer
    else Err (record { wanted = min n 255; there = length s.words })

-- the word that stands `depth` words beneath the top; 0 is the top word
abbrev pub word_at : ℕ → Seen → ℕ
word_at depth s = slice_index s.words (length s.words - 1 - depth)

-- one more word: refused where there are as many as STACK
abbrev pub making_room : Seen → Result (Unit {0}) Overflow
making_room s = if nat_lt (length s.words) s.limit then Ok tt else Err (record { limit = s.limit })

-- n words are needed: those that are wanting in registers are filled from memory, one fill a word
abbrev pub filled : ℕ → Seen → Seen
filled n s = record s {
  in_registers = max s.in_registers n;
  fills = if nat_le n s.in_registers then s.fills else (s.fills + (n - s.in_registers)) % 2 ^ 64;
}

-- a word on top, in a register: where four are in use the lowest is spilled first, one spill
abbrev pub pushed : ℕ → Seen → Seen
pushed w s = record s {
  words = s.words ++ w ∷ [];
  in_registers = min 4 (s.in_registers + 1);
  spills = if s.in_registers == 4 then (s.spills + 1) % 2 ^ 64 else s.spills;
}

-- without the n top words: those in registers go first, then those in memory, with no fill
abbrev pub dropped : ℕ → Seen → Seen
dropped n s = record s { words = take (length s.words - n) s.words; in_registers = s.in_registers - n }

-- the n top words, which stand in registers, exchanged for as many or fewer: nothing moves between registers and memory
abbrev pub replaced : ℕ → List ℕ → Seen → Seen
replaced n ws s = record s {
  words = take (length s.words - n) s.words ++ ws;
  in_registers = s.in_registers - n + length ws;
}

-- the top word taken away: one word is needed, and then it goes
abbrev pub popped : Seen → Seen
popped s = dropped 1 (filled 1 s)

-- every register spilled, one spill a word
abbrev pub flushed : Seen → Seen
flushed s = record s { in_registers = 0; spills = (s.spills + s.in_registers) % 2 ^ 64 }
