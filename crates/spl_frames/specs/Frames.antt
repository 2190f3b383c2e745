-- Live frames: where the data words of calls stand, and the states in which they stand so.
use Rattle.std.specs.Prelude.{ℕ, ◌≡◌, ◌⊎◌, ◌≤◌, ◌<◌, ◌+◌, true, false, List, [], ◌∷◌, length, is_some}
use Rattle.spl_meaning.specs.States.{Data, Outcome, done, leaves, spent, ends, strays}

-- A live call, of a procedure or a subroutine, or the main body: from `first` on its result and its parameters, up to its marker or
-- its return word; from `locals` on its local words, up to its top; the base, that of the procedure around it in a subroutine; the return
-- word of the live subroutine, where one is live, and else 0; and the room that its body needs above its words.
pub record Frame : Type 0 where
  pub first : ℕ
  pub link : ℕ
  pub locals : ℕ
  pub top : ℕ
  pub base : ℕ
  pub inner : ℕ
  pub depth' : ℕ

-- a word of a frame that is data, not of its marker
abbrev pub IsInFrame : ℕ → Frame → Type 0
IsInFrame a f = ((f.first ≤ a) × (a < f.link)) ⊎ ((f.locals ≤ a) × (a < f.top))

-- a data word: one of the first so many of the program, or of a live frame
abbrev pub IsDataWord : ℕ → List Frame → ℕ → Type 0
IsDataWord words [] a = a < words
IsDataWord words (f ∷ fs) a = IsInFrame a f ⊎ IsDataWord words fs a

-- each frame has its room within STACK
abbrev pub HasRoom : ℕ → List Frame → Type 0
HasRoom stack [] = Unit {0}
HasRoom stack (f ∷ fs) = (f.top + f.depth' ≤ stack) × HasRoom stack fs

-- A state is lawful for a program of so many data words, with a live frame above others: each of their data words is there, and no other,
-- below the top, which is that of the live frame, as the base and the return word are, and each frame has found its room.
pub record Lawful (words : ℕ) (live : Frame) (others : List Frame) (d : Data) : Type 0 where
  pub top : d.top ≡ live.top
  pub base : d.base ≡ live.base
  pub inner : d.inner ≡ live.inner
  pub words_are_there : (a : ℕ) → IsDataWord words (live ∷ others) a → (a < d.top) × (is_some (d.mem a) ≡ true)
  pub no_others : (a : ℕ) → is_some (d.mem a) ≡ true → IsDataWord words (live ∷ others) a
  pub room : HasRoom d.stack (live ∷ others)

-- What a part leaves: the live frame where it is, each data word below its top, and no other; STACK, the print room, the lines and the
-- length of the extra segment.
pub record Stays (d e : Data) : Type 0 where
  pub top : e.top ≡ d.top
  pub base : e.base ≡ d.base
  pub inner : e.inner ≡ d.inner
  pub words : (a : ℕ) → a < d.top → is_some (d.mem a) ≡ true → is_some (e.mem a) ≡ true
  pub none : (a : ℕ) → is_some (d.mem a) ≡ false → is_some (e.mem a) ≡ false
  pub stack : e.stack ≡ d.stack
  pub room : e.room ≡ d.room
  pub lines : e.lines ≡ d.lines
  pub extra : length e.extra ≡ length d.extra

-- a part that is done, or left by a jump or a RETURN, leaves that; where the run goes no further nothing is said
abbrev pub StaysIn : {A : Type 0} → Data → Outcome A → Type 0
StaysIn d (done a t) = Stays d t.now
StaysIn d (leaves x t) = Stays d t.now
StaysIn d (spent t) = Unit {0}
StaysIn d (ends e t) = Unit {0}
StaysIn d (strays t) = Unit {0}

-- a part that is done, or left by a jump or a RETURN, is in a lawful state
abbrev pub LawfulIn : {A : Type 0} → ℕ → Frame → List Frame → Outcome A → Type 0
LawfulIn words live others (done a t) = Lawful words live others t.now
LawfulIn words live others (leaves x t) = Lawful words live others t.now
LawfulIn words live others (spent t) = Unit {0}
LawfulIn words live others (ends e t) = Unit {0}
LawfulIn words live others (strays t) = Unit {0}
