-- The rows of the intrinsics: parameters are taken, what the call does to bytes is done, and its answer stands in their place.
use Rattle.hp_word.specs.Intrinsics as intrinsics
use Rattle.std.specs.Prelude.{ℕ, ◌+◌, ◌-◌, ◌*◌, ◌/◌, ◌==◌, ◌||◌, not, nat_lt, nat_le, map, Bool, List, [], ◌∷◌, ◌++◌, drop, take, length, slice_get, slice_index, slice_set, Option, None, Some, Result, Ok, Err, if◌then◌else◌}
use Rattle.hp_word.specs.declared.arithmetic.Code.{Code}
use Rattle.hp_word.specs.declared.arithmetic.Code.TheVariants.{Greater, Less, Equal}
use Rattle.hp_word.specs.declared.numbers.Number.{Number}
use Rattle.hp_word.specs.declared.numbers.Number.TheVariants.{Value, TooLarge, BadForm}
use Rattle.hp_word.specs.declared.endings.Ending.{Ending}
use Rattle.hp_word.specs.declared.endings.Ending.TheVariants.{Running, Terminated, Quit as EndedWith, Trapped}
use Rattle.hp_word.specs.declared.endings.Trap.{Trap}
use Rattle.hp_word.specs.declared.endings.Trap.TheVariants.{BadEntry, Bounds}
use Rattle.hp_word.specs.declared.intrinsics.Intrinsic.{Intrinsic}
use Rattle.hp_word.specs.declared.intrinsics.Intrinsic.TheVariants.{Print, Read, Ascii, Dascii, Binary, Dbinary, Terminate, Quit}
use Rattle.hp_word.specs.Bytes.{byte_at, with_byte}
use Rattle.hp_word.specs.Words.{signed}
use Rattle.hp_word.specs.Intrinsics.{Effect, bytes_of_length, in_unit_of_length, addresses, stored_from, number_words, parameter_words, taken_words}
use Rattle.hp_word.specs.Texts.{number}
use Rattle.hp_session.specs.State.{Machine, Outcome, then_with, word, taking, replaced, with_code}

-- the intrinsic of each entry of the gate
abbrev pub intrinsic : ℕ → Option Intrinsic
intrinsic entry =
    if entry == 1 then Some Print else
    if entry == 2 then Some Read else
    if entry == 3 then Some Ascii else
    if entry == 4 then Some Dascii else
    if entry == 5 then Some Binary else
    if entry == 6 then Some Dbinary else
    if entry == 7 then Some Terminate else
    if entry == 8 then Some Quit else None

-- the byte at a byte address of the stack
abbrev pub stack_byte : List ℕ → ℕ → ℕ
stack_byte stack b = byte_at b (slice_index stack (b / 2))

-- the stack with another byte at a byte address
abbrev pub with_stack_byte : List ℕ → ℕ → ℕ → List ℕ
with_stack_byte stack b byte = slice_set stack (b / 2) (with_byte b byte (slice_index stack (b / 2)))

-- bytes stored one after the other, each after its address
unfoldable pub with_bytes : List ℕ → List (ℕ × ℕ) → List ℕ
with_bytes stack [] = stack
with_bytes stack (s ∷ rest) = with_bytes (with_stack_byte stack s.0 s.1) rest

-- a code, or the one before where none is set
abbrev pub code_or : Option Code → Code → Code
code_or None before = before
code_or (Some code) before = code

-- where the session stands after a call that does not end it, and after one that does
abbrev pub ending_or : Ending → Ending → Ending
ending_or Running before = before
ending_or Terminated before = Terminated
ending_or (EndedWith n) before = EndedWith n
ending_or (Trapped t) before = Trapped t

-- what a call does, by the words and lines that stand there
abbrev pub effect : Intrinsic → Machine → Effect
effect i m =
    intrinsics.called (stack_byte m.stack) (slice_get m.lines m.next_line) i (drop (length m.stack - parameter_words i) m.stack)

-- the machine after a call that takes n words: bytes are stored before these are replaced
unfoldable pub after_call : ℕ → Effect → Machine → Machine
after_call n e m = record m {
  stack = take (length m.stack - n) (with_bytes m.stack e.stores) ++ e.answer;
  printed = m.printed ++ e.prints;
  next_line = if e.takes_line then m.next_line + 1 else m.next_line;
  ending = ending_or e.ending m.ending;
  regs = record m.regs { code = code_or e.code m.regs.code };
}

-- a call, or its trap
unfoldable pub performed : Intrinsic → Machine → Outcome
performed i m = taking (taken_words i) m (
    then_with (intrinsics.outcome (length m.stack) (m.room - length m.printed) (effect i m)) (λ e. Ok (after_call (taken_words i) e m)))

-- Parts of these rows

-- a text stored at a byte address, and the number of its bytes in place of n words
unfoldable pub text_answered : ℕ → ℕ → List ℕ → Machine → Outcome
text_answered n array text m =
    if not ((length text == 0) || nat_le (array + length text) (2 * length m.stack)) then Err Bounds
    else Ok (with_code Equal (replaced n (length text ∷ []) (record m { stack = with_bytes m.stack (stored_from array text) })))

-- READ of the next line, if there is one: its first bytes are stored at the words from B on, at most those of the length in A
abbrev pub line_read : Option (List ℕ) → Machine → Outcome
line_read None m = Ok (with_code Greater (replaced 3 (0 ∷ []) m))
line_read (Some line) m = stored_line (take (bytes_of_length (signed (word 0 m))) line) m where
  stored_line : List ℕ → Machine → Outcome
  stored_line stored m =
      if not ((length stored == 0) || nat_le (2 * word 1 m + length stored) (2 * length m.stack)) then Err Bounds else
      Ok (with_code Equal (replaced 3 (in_unit_of_length (signed (word 0 m)) (length stored) ∷ [])
      (record m { stack = with_bytes m.stack (stored_from (2 * word 1 m) stored); next_line = m.next_line + 1 })))

-- the number in the text at the byte address in B, with the length in A; a negative length is bad form
unfoldable pub number_there : Bool → Machine → Result Number Trap
number_there wide m =
    if nat_lt (word 0 m) 32768 then
    (if not ((word 0 m == 0) || nat_le (word 1 m + word 0 m) (2 * length m.stack)) then Err Bounds
    else Ok (number (map (stack_byte m.stack) (addresses (word 1 m) (word 0 m))) wide))
    else Ok BadForm

-- a number in place of n words, and its code
abbrev pub number_put : ℕ → Bool → Number → Machine → Machine
number_put n wide (Value k) m = with_code Equal (replaced n (number_words wide k) m)
number_put n wide TooLarge m = with_code Greater (replaced n (number_words wide 0) m)
number_put n wide BadForm m = with_code Less (replaced n (number_words wide 0) m)

-- the intrinsic of an entry; there are eight
abbrev pub performed_if : Option Intrinsic → Machine → Outcome
performed_if None m = Err BadEntry
performed_if (Some i) m = performed i m

unfoldable pub served : ℕ → Machine → Outcome
served entry m = performed_if (intrinsic entry) m
