-- What a call of an intrinsic does to the data. Its step is spent when that is done, so no ending follows a print within one step.
use Rattle.std.specs.Prelude.{ℕ, suc, ◌-◌, ◌/◌, Bool, true, false, not, nat_lt, nat_le, if◌then◌else◌, List, [], ◌∷◌, ◌++◌, length, map, slice_get, is_some, Option}
use Rattle.std.specs.List.{list_all}
use Rattle.hp_word.specs.Intrinsics as gate
use Rattle.hp_word.specs.Intrinsics.{called}
use Rattle.hp_word.specs.Bytes.{byte_at}
use Rattle.hp_word.specs.declared.endings.Ending.{Ending}
use Rattle.hp_word.specs.declared.endings.Ending.TheVariants as ending
use Rattle.hp_word.specs.declared.endings.Trap.TheVariants.{Bounds, OutputLimit}
use Rattle.hp_word.specs.declared.intrinsics.Intrinsic.{Intrinsic}
use Rattle.spl_meaning.specs.Places.{word_or_zero, put_byte}
use Rattle.spl_meaning.specs.States.{State, terminated, quit, trapped, Outcome, done, ends, strays, stepping, printed_size}

-- the byte at a byte address
abbrev pub byte_of : (ℕ → Option ℕ) → ℕ → ℕ
byte_of mem b = byte_at b (word_or_zero (mem (b / 2)))

-- the byte addresses that a call reads and stores at
abbrev pub touched : gate.Effect → List ℕ
touched e = e.reads ++ map (λ p. p.0) e.stores

-- whether the words of all bytes are below STACK
abbrev pub all_below : ℕ → List ℕ → Bool
all_below stack bs = list_all (λ b. nat_lt (b / 2) stack) bs

-- whether they are data words
abbrev pub all_data : (ℕ → Option ℕ) → List ℕ → Bool
all_data mem bs = list_all (λ b. is_some (mem (b / 2))) bs

-- bytes stored at their addresses
abbrev pub with_bytes : List (ℕ × ℕ) → (ℕ → Option ℕ) → ℕ → Option ℕ
with_bytes [] mem = mem
with_bytes (p ∷ ps) mem = with_bytes ps (put_byte p.0 p.1 mem)

-- a print behind those before; a call that prints nothing leaves them
abbrev pub with_print : List ℕ → List (List ℕ) → List (List ℕ)
with_print [] printed = printed
with_print (b ∷ bs) printed = printed ++ (b ∷ bs) ∷ []

-- how many lines were taken then
abbrev pub lines_taken : Bool → ℕ → ℕ
lines_taken true n = suc n
lines_taken false n = n

-- what a call leaves
abbrev pub carried_out : gate.Effect → State → State
carried_out e s = record s {
  now = record s.now {
    mem = with_bytes e.stores s.now.mem;
    taken = lines_taken e.takes_line s.now.taken;
    printed = with_print e.prints s.now.printed;
  };
  code = e.code;
}

-- the call's answer, or the end of the run
abbrev pub answered : Ending → List ℕ → State → Outcome (List ℕ)
answered ending.Running answer s = done answer s
answered ending.Terminated answer s = ends terminated s
answered (ending.Quit n) answer s = ends (quit n) s
answered (ending.Trapped t) answer s = ends (trapped t) s

-- A call that may be: Bounds where a word of its bytes is not below STACK; a stray reference where one is no data word; OutputLimit
-- where what it prints is longer than the room that is left. Else it is carried out, and its step is spent.
abbrev pub effected : gate.Effect → State → Outcome (List ℕ)
effected e s =
    if not (all_below s.now.stack (touched e)) then ends (trapped Bounds) s
    else if not (all_data s.now.mem (touched e)) then strays s
    else if not (nat_le (length e.prints) (s.now.room - printed_size s.now.printed)) then ends (trapped OutputLimit) s
    else stepping (carried_out e s) (λ s1. answered e.ending e.answer s1)

-- a call of an intrinsic with the words of its parameters
abbrev pub served : Intrinsic → List ℕ → State → Outcome (List ℕ)
served i words s = effected (called (byte_of s.now.mem) (slice_get s.now.lines s.now.taken) i words) s
