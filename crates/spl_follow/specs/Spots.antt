-- Places in a program's segments, what a program says of them, and what the machine meets and prints on its way.
use Rattle.std.specs.Prelude.{◌≡◌, ℕ, zero, suc, ◌+◌, ◌*◌, ◌<◌, Bool, false, if◌then◌else◌, List, [], ◌∷◌, ◌++◌, length, take, drop, Option, None, Some}
use Rattle.spl_code.specs.spl_tree.declared.names_and_places.At.{At}
use Rattle.hp_flat.specs.hp_program.Programs.{code_word}
use Rattle.hp_flat.specs.hp_session.State.{Machine}
use Rattle.hp_flat.specs.Step.{step, is_running}

-- ---- places

-- a place: a segment, an offset there in words, and which half of that word; a word that is no pair has its place on the left
pub record Spot : Type 0 where
  pub seg : ℕ
  pub offset : ℕ
  pub right : Bool

-- where the machine's next step is
abbrev pub spot : Machine → Spot
spot m = record { seg = m.regs.seg; offset = m.regs.p; right = m.regs.right }

-- the machine with its next step at a place, and else as it is
abbrev pub landed : Spot → Machine → Machine
landed r m = record m { regs = record m.regs { seg = r.seg; p = r.offset; right = r.right } }

-- the word behind that of a place
abbrev pub next_word : Spot → Spot
next_word p = record { seg = p.seg; offset = p.offset + 1; right = false }

-- one for the right half
abbrev pub half : Bool → ℕ
half right = if right then 1 else 0

-- how far a place is, in halves of words from the start of its segment
abbrev pub pos : Spot → ℕ
pos p = 2 * p.offset + half p.right

-- a place, and the text's place of the statement that starts there and is not yet met
pub record Point : Type 0 where
  pub at : Spot
  pub due : Option At

-- a place at which no statement starts
abbrev pub on : Spot → Point
on p = record { at = p; due = None }

-- ---- what a program says

-- A program's segments, and by segment and offset the statements that start there, each by its place in the text. A segment has at most
-- 16,383 words.
pub record Ground : Type 0 where
  pub segments : List (List ℕ)
  pub starts : ℕ → ℕ → Option At
  pub short : (seg offset v : ℕ) → code_word segments seg offset ≡ Some v → offset < 16383

-- the statement that starts at a place; none does in a right half
abbrev pub start_at : Ground → Spot → Option At
start_at g p = if p.right then None else g.starts p.seg p.offset

-- a marker can hold the place behind a word: its segment, which is one of the program, in eight bits, and the next offset in sixteen
pub record Real (g : Ground) (p : Spot) : Type 0 where
  pub offset : p.offset < 65535
  pub byte : p.seg < 256
  pub there : p.seg < length g.segments

-- ---- what the machine meets

-- a running machine at the start of a statement
pub record Visit : Type 0 where
  pub at : At
  pub machine : Machine

-- the visit that a machine is, where a statement starts
abbrev pub visit_of : Option At → Machine → List Visit
visit_of None m = []
visit_of (Some at) m = record { at = at; machine = m } ∷ []

-- the visit before the next step, if it is one
abbrev pub met : Ground → Machine → List Visit
met g m = visit_of (start_at g (spot m)) m

-- the visits before each of n steps; an ended machine makes none
abbrev pub visits : Ground → ℕ → Machine → List Visit
visits g zero m = []
visits g (suc n) m = if is_running m.ending then met g m ++ visits g n (step g.segments m) else []

-- ---- what it prints

-- bytes as a print, where there are any
abbrev pub as_print : List ℕ → List (List ℕ)
as_print [] = []
as_print (b ∷ bs) = (b ∷ bs) ∷ []

-- what one machine has printed more than another, as a print
abbrev pub print_between : Machine → Machine → List (List ℕ)
print_between m n = as_print (drop (length m.printed) n.printed)

-- what each of n steps prints, by itself
abbrev pub prints : Ground → ℕ → Machine → List (List ℕ)
prints g zero m = []
prints g (suc n) m =
    if is_running m.ending then print_between m (step g.segments m) ++ prints g n (step g.segments m) else []

-- no step of these segments' code takes back what was printed
abbrev pub OnlyAdds : List (List ℕ) → Type 0
OnlyAdds segments = (m : Machine) → take (length m.printed) (step segments m).printed ≡ m.printed
