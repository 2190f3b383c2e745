-- What it means that the machine matches a run, and what a part of the code leaves. The stack and the rest of the machine are told apart, so
-- that the place of the next step, the index register, the flags and the code may change where nothing else does.
use Rattle.std.specs.Prelude.{◌≡◌, ℕ, suc, ◌+◌, ◌<◌, ◌≤◌, Bool, true, List, [], ◌∷◌, length, slice_index, Option, None, Some}
use Rattle.hp_flat.specs.hp_word.declared.arithmetic.Code.{Code}
use Rattle.hp_flat.specs.hp_word.declared.endings.Ending.{Ending}
use Rattle.hp_flat.specs.hp_word.declared.endings.Ending.TheVariants.{Running}
use Rattle.hp_flat.specs.hp_session.State.{Machine}
use Rattle.spl_code.specs.spl_meaning.References.{Setting}
use Rattle.spl_code.specs.spl_meaning.States.{Data, State, all_printed}
use Rattle.spl_frames.specs.Words.{AreWords, IsOfWords}
use Rattle.spl_follow.specs.Spots.{Spot, spot}

-- ---- the machine beside its stack

-- what a run decides of the machine, but its stack: Q, the mode, the trap switch, the extra segment, the lines and how many were taken, what
-- was printed, the ending, STACK and the print room
pub record Outer : Type 0 where
  pub q : ℕ
  pub split : Bool
  pub traps : Bool
  pub extra : List ℕ
  pub lines : List (List ℕ)
  pub taken : ℕ
  pub printed : List ℕ
  pub ending : Ending
  pub limit : ℕ
  pub room : ℕ

-- of a machine
abbrev pub outer : Machine → Outer
outer m = record {
  q = m.regs.q;
  split = m.split;
  traps = m.regs.traps;
  extra = m.extra;
  lines = m.lines;
  taken = m.next_line;
  printed = m.printed;
  ending = m.ending;
  limit = m.stack_limit;
  room = m.room;
}

-- as a run in a body has it: Q is the base, the mode is the body's, user traps are on, and it runs
abbrev pub expected : Setting → Data → Outer
expected st d = record {
  q = d.base;
  split = st.split;
  traps = true;
  extra = d.extra;
  lines = d.lines;
  taken = d.taken;
  printed = all_printed d.printed;
  ending = Running;
  limit = d.stack;
  room = d.room;
}

-- ---- where a frame lies

-- what no part of a body changes: the top and the base of its frame, its return word, STACK and the print room
pub record Footing : Type 0 where
  pub top : ℕ
  pub base : ℕ
  pub inner : ℕ
  pub stack : ℕ
  pub room : ℕ

-- of a run
abbrev pub footing : Data → Footing
footing d = record { top = d.top; base = d.base; inner = d.inner; stack = d.stack; room = d.room }

-- The live frame of a body: its base, with what stands below it, is below its top, and that is within STACK. In a subroutine the return word
-- is the last of the frame, with what stands below that. STACK is 32,000 words at most, so that twice the address of a variable is a word.
pub record Lies (st : Setting) (f : Footing) : Type 0 where
  pub live : f.base < f.top
  pub deep : st.below ≤ f.base
  pub link : st.inside ≡ true → f.top ≡ f.inner + 1
  pub held : st.held ≤ f.inner
  pub within : f.top ≤ f.stack
  pub least : f.stack ≤ 32000

-- ---- matching

-- A run matches a stack and the rest of a machine, where k words wait above its frame. Each data word is below the frame's top and stands at
-- its address; words are of sixteen bits; and the rest is as the run has it. Of the other words on the stack nothing is said.
pub record Matches (st : Setting) (d : Data) (stack : List ℕ) (o : Outer) (k : ℕ) : Type 0 where
  pub words : length stack ≡ d.top + k
  pub lies : Lies st (footing d)
  pub low : (a v : ℕ) → d.mem a ≡ Some v → a < d.top
  pub holds : (a v : ℕ) → d.mem a ≡ Some v → slice_index stack a ≡ v
  pub of_words : IsOfWords d
  pub outer : o ≡ expected st d

-- a run matches a machine
abbrev pub Matched : Setting → Data → Machine → ℕ → Type 0
Matched st d m k = Matches st d m.stack (outer m) k

-- What a part keeps: where the frame is; what is no data word; and each word beneath address b that is none.
pub record Kept (b : ℕ) (d : Data) (stack : List ℕ) (e : Data) (stack' : List ℕ) : Type 0 where
  pub footing : footing e ≡ footing d
  pub none : (a : ℕ) → d.mem a ≡ None → e.mem a ≡ None
  pub word : (a : ℕ) → a < b → d.mem a ≡ None → slice_index stack' a ≡ slice_index stack a

-- these words stand from an address on
abbrev pub Stand : List ℕ → ℕ → List ℕ → Type 0
Stand stack a [] = Unit {0}
Stand stack a (v ∷ vs) = (slice_index stack a ≡ v) × Stand stack (suc a) vs

-- a condition code that is known is the machine's
abbrev pub Coded : Option Code → Code → Type 0
Coded None c = Unit {0}
Coded (Some x) c = c ≡ x

-- the machine has ended so, or runs, and has printed what the run has
pub record Shows (e : Ending) (d : Data) (m : Machine) : Type 0 where
  pub ending : m.ending ≡ e
  pub printed : m.printed ≡ all_printed d.printed

-- ---- what a part leaves, by the data and the machine that it began with, with k words waiting

-- At p, with a value of n words on top of those that wait. What stood beneath is kept, and no condition code is known.
pub record IsValue (st : Setting) (p : Spot) (n k : ℕ) (d : Data) (m : Machine) (vs : List ℕ) (s : State) (m' : Machine) : Type 0 where
  pub at : spot m' ≡ p
  pub wide : length vs ≡ n
  pub matches : Matched st s.now m' (k + n)
  pub stand : Stand m'.stack (d.top + k) vs
  pub small : AreWords vs
  pub kept : Kept (d.top + k) d m.stack s.now m'.stack
  pub silent : s.code ≡ None

-- the same of an intrinsic's answer, behind which a condition code may be known
pub record IsAnswer (st : Setting) (p : Spot) (n k : ℕ) (d : Data) (m : Machine) (vs : List ℕ) (s : State) (m' : Machine) : Type 0 where
  pub at : spot m' ≡ p
  pub wide : length vs ≡ n
  pub matches : Matched st s.now m' (k + n)
  pub stand : Stand m'.stack (d.top + k) vs
  pub small : AreWords vs
  pub kept : Kept (d.top + k) d m.stack s.now m'.stack
  pub coded : Coded s.code m'.regs.code

-- At p, with k words waiting. What stood beneath them, of those that waited at the beginning too, is kept.
pub record Arrives (st : Setting) (p : Spot) (k : ℕ) (d : Data) (m : Machine) (s : State) (m' : Machine) : Type 0 where
  pub at : spot m' ≡ p
  pub matches : Matched st s.now m' k
  pub kept : Kept (d.top + k) d m.stack s.now m'.stack
  pub coded : Coded s.code m'.regs.code
