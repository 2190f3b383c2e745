-- What a run has, and what comes of its parts.
use Rattle.std.specs.Prelude.{ℕ, zero, suc, ◌+◌, Bool, true, ℤ, List, [], ◌∷◌, ◌++◌, length, Option, None}
use Rattle.hp_word.specs.declared.arithmetic.Code.{Code}
use Rattle.hp_word.specs.declared.endings.Trap.{Trap}
use Rattle.spl_tree.specs.declared.names_and_places.At.{At}

-- What a run works on. The data words are those of globals and OWN items, of arrays and cells, and of the live calls: their results,
-- parameters and locals. The base is the address that the machine has in Q.
pub record Data : Type 0 where
  -- the data words by their addresses
  pub mem : ℕ → Option ℕ
  -- the first address above the live frame
  pub top : ℕ
  -- the base: the address of the last word of its marker
  pub base : ℕ
  -- the address of the return word of the live subroutine, where one is live
  pub inner : ℕ
  -- the words of the extra segment
  pub extra : List ℕ
  -- the terminal lines, and how many of them were taken
  pub lines : List (List ℕ)
  pub taken : ℕ
  -- what was printed, each print by itself
  pub printed : List (List ℕ)
  -- STACK and the print room, which no step changes
  pub stack : ℕ
  pub room : ℕ

-- a statement that has begun: its number in order of text and its place, and what the run had there, with the condition code that was
-- known
pub record Begun : Type 0 where
  pub number : ℕ
  pub at : At
  pub data' : Data
  pub code : Option Code

-- a run: its data; the condition code, where the statement just done has set one; the steps that are left of its budget; the statements
-- begun so far; and whether it came to what has no meaning
pub record State : Type 0 where
  pub now : Data
  pub code : Option Code
  pub left : ℕ
  pub begun : List Begun
  pub lost : Bool

-- how a run ends
pub data End : Type 0 where
  terminated : End
  quit : ℤ → End
  trapped : Trap → End

-- a way out of a statement: to a label, or back to the caller
pub data Exit : Type 0 where
  to_label : List ℕ → Exit
  back : Exit

-- What comes of a part: it is done with a value, it is left, its steps are spent, the run ends, or it makes a stray reference.
pub data Outcome (A : Type 0) : Type 0 where
  done : A → State → Outcome A
  leaves : Exit → State → Outcome A
  spent : State → Outcome A
  ends : End → State → Outcome A
  strays : State → Outcome A

-- a part, and then what follows from its value; every other outcome is that of both
abbrev pub then_go : {A B : Type 0} → Outcome A → (A → State → Outcome B) → Outcome B
then_go (done a s) go = go a s
then_go (leaves x s) go = leaves x s
then_go (spent s) go = spent s
then_go (ends e s) go = ends e s
then_go (strays s) go = strays s

-- What has no meaning: nothing is found where a name or a label leads, say, or a value has not as many words as its use has. The run goes
-- no further, and is lost; a stray reference leaves it as it is.
abbrev pub has_no_meaning : {A : Type 0} → State → Outcome A
has_no_meaning s = strays (record s { lost = true })

-- one step of the budget, and then on; where none is left the steps are spent
abbrev pub step_of : {A : Type 0} → ℕ → State → (State → Outcome A) → Outcome A
step_of zero s go = spent s
step_of (suc n) s go = go (record s { left = n })

-- a step of what is left
abbrev pub stepping : {A : Type 0} → State → (State → Outcome A) → Outcome A
stepping s go = step_of s.left s go

-- no condition code is known
abbrev pub without_code : State → State
without_code s = record s { code = None }

-- a statement that can be stopped at is noted as it begins, by its number and its place
abbrev pub noted : ℕ → At → State → State
noted i at s = record s { begun = s.begun ++ record { number = i; at = at; data' = s.now; code = s.code } ∷ [] }

-- A statement begins: one step. What is known of the condition code is for a test of it alone.
abbrev pub beginning : {A : Type 0} → State → (State → Outcome A) → Outcome A
beginning s go = stepping s (λ s1. go (without_code s1))

-- one that can be stopped at is noted behind that step
abbrev pub stopping : {A : Type 0} → ℕ → At → State → (State → Outcome A) → Outcome A
stopping i at s go = stepping s (λ s1. go (without_code (noted i at s1)))

-- what a part comes to, without the condition code
abbrev pub code_dropped : {A : Type 0} → Outcome A → Outcome A
code_dropped o = then_go o (λ a s. done a (without_code s))

-- how many bytes were printed
abbrev pub printed_size : List (List ℕ) → ℕ
printed_size [] = 0
printed_size (p ∷ ps) = length p + printed_size ps

-- all that was printed
abbrev pub all_printed : List (List ℕ) → List ℕ
all_printed [] = []
all_printed (p ∷ ps) = p ++ all_printed ps
