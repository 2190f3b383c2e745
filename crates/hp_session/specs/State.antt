-- A session as the flat machine has it: the registers, the stack as one list with its lowest word first, the extra
-- segment, the terminal and the ending; and the words in which its rows are told.
use Rattle.std.specs.Prelude.{◌≡◌, ℕ, ◌+◌, ◌-◌, ◌%◌, Bool, true, false, nat_lt, nat_le, List, [], ◌∷◌, ◌++◌, length, take, replicate, slice_index, Result, Ok, Err, MatchResult, if◌then◌else◌}
use Rattle.hp_word.specs.declared.arithmetic.Code.{Code}
use Rattle.hp_word.specs.declared.arithmetic.Code.TheVariants.{Equal}
use Rattle.hp_word.specs.declared.endings.Ending.{Ending}
use Rattle.hp_word.specs.declared.endings.Ending.TheVariants.{Running}
use Rattle.hp_word.specs.declared.endings.Trap.{Trap}
use Rattle.hp_word.specs.declared.endings.Trap.TheVariants.{StackOverflow, StackUnderflow}
use Rattle.hp_session.specs.declared.registers.Regs.{Regs}

-- the state of a session
pub record Machine : Type 0 where
  -- X, Q, the place of the next step, and the status
  pub regs : Regs
  -- split mode: DB addresses the extra segment
  pub split : Bool
  -- the words of the stack; address 0 is the first
  pub stack : List ℕ
  -- the words of the extra segment
  pub extra : List ℕ
  -- the terminal lines, and how many of them were taken
  pub lines : List (List ℕ)
  pub next_line : ℕ
  -- the bytes printed
  pub printed : List ℕ
  pub ending : Ending
  -- STACK, the greatest number of words on the stack
  pub stack_limit : ℕ
  -- the greatest number of bytes that may be printed
  pub room : ℕ

-- what a row leaves: the machine after it, or the trap that it answers
abbrev pub Outcome : Type 0
Outcome = Result Machine Trap

-- an answer, and then what follows from its value; a trap stays
abbrev pub then_with : {A B : Type 0} → Result A Trap → (A → Result B Trap) → Result B Trap
then_with (Ok a) go = go a
then_with (Err t) go = Err t

-- the word that stands `depth` words beneath the top; 0 is the top word, A
abbrev pub word : ℕ → Machine → ℕ
word depth m = slice_index m.stack (length m.stack - 1 - depth)

-- a row that takes n words: there must be as many
abbrev pub taking : ℕ → Machine → Outcome → Outcome
taking n m outcome = if nat_le n (length m.stack) then outcome else Err StackUnderflow

-- the machine without its n top words
abbrev pub without : ℕ → Machine → Machine
without n m = record m { stack = take (length m.stack - n) m.stack }

-- the machine with some words in place of its n top words, the last of them on top
abbrev pub replaced : ℕ → List ℕ → Machine → Machine
replaced n words m = record m { stack = take (length m.stack - n) m.stack ++ words }

-- the machine with w in place of its n top words
abbrev pub instead : ℕ → ℕ → Machine → Machine
instead n w m = replaced n (w ∷ []) m

-- one more word on top, where STACK allows it
abbrev pub pushing : ℕ → Machine → Outcome
pushing w m = if nat_lt (length m.stack) m.stack_limit then Ok (record m { stack = m.stack ++ w ∷ [] }) else Err StackOverflow

-- some more words, the last of them on top, where STACK allows them
abbrev pub pushing_all : List ℕ → Machine → Outcome
pushing_all words m =
    if nat_le (length m.stack + length words) m.stack_limit then Ok (record m { stack = m.stack ++ words }) else Err StackOverflow

-- the machine with another index register
abbrev pub with_x : ℕ → Machine → Machine
with_x x m = record m { regs = record m.regs { x = x } }

-- the machine with another condition code
abbrev pub with_code : Code → Machine → Machine
with_code c m = record m { regs = record m.regs { code = c } }

-- an address, a sum of addresses and a place are modulo 65,536
abbrev pub wrapped : ℕ → ℕ
wrapped a = a % 65536

-- P plus d, or minus d where it is back
abbrev pub displaced : Bool → ℕ → ℕ → ℕ
displaced back d p = wrapped (if back then p + 65536 - d else p + d)

-- the next step is at offset p of the same segment, and begins with its word's left half
abbrev pub at_place : ℕ → Machine → Machine
at_place p m = record m { regs = record m.regs { p = p; right = false } }

-- past the word at P
abbrev pub passed : Machine → Machine
passed m = at_place (wrapped (m.regs.p + 1)) m

-- on at P plus or minus d where it is so, and else past the word at P
abbrev pub branching : Bool → Bool → ℕ → Machine → Machine
branching taken back d m = at_place (if taken then displaced back d m.regs.p else wrapped (m.regs.p + 1)) m

-- a row that goes on past its word
abbrev pub passing : Outcome → Outcome
passing outcome = then_with outcome (λ m. Ok (passed m))

-- the session as it opens: the data words and the main body's marker of four zero words, Q at the last of them
abbrev pub opened : List ℕ → ℕ → ℕ → List (List ℕ) → ℕ → ℕ → ℕ → Machine
opened globals main start lines stack extra room = record {
  regs = record { x = 0; q = length globals + 3; p = start; seg = main; traps = true; right = false; overflow = false; carry = false; code = Equal };
  split = false;
  stack = globals ++ replicate 4 0;
  extra = replicate extra 0;
  lines = lines;
  next_line = 0;
  printed = [];
  ending = Running;
  stack_limit = stack;
  room = room;
}

-- the code answered and left what a row says; at a trap the machine is as it was
abbrev pub Does : Outcome → Machine → Result (Unit {0}) Trap → Machine → Type 0
Does expected old answer new = MatchResult answer (λ _. expected ≡ Ok new) (λ t. (expected ≡ Err t) × (new ≡ old))

-- words deleted from the top: one by DEL, two by DDEL, n by SUBS
unfoldable pub deleted : ℕ → Machine → Outcome
deleted n m = taking n m (Ok (without n m))
