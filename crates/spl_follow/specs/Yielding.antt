-- What a row of the machine leaves, told of its stack and of the rest of it. So it is the same wherever the row's instruction stands.
use Rattle.std.specs.Prelude.{◌≡◌, ℕ, ◌-◌, List, ◌++◌, length, take, slice_set, Ok}
use Rattle.hp_flat.specs.hp_session.State.{Machine, Outcome}
use Rattle.spl_follow.specs.Matching.{Outer, outer}

-- a row does not trap, and leaves this stack and this rest
pub record Becomes (stack : List ℕ) (u : Outer) (o : Outcome) : Type 0 where
  pub left : Machine
  pub is : o ≡ Ok left
  pub words : left.stack ≡ stack
  pub same : outer left ≡ u

-- it puts these words in place of the n top words, and changes nothing else of a run
abbrev pub Yields : ℕ → List ℕ → Machine → Outcome → Type 0
Yields n ws m o = Becomes (take (length m.stack - n) m.stack ++ ws) (outer m) o

-- It stores a word at an address of the stack and deletes the n top words; the condition code stays.
pub record Puts (n a v : ℕ) (m : Machine) (o : Outcome) : Type 0 where
  pub stores : Becomes (take (length m.stack - n) (slice_set m.stack a v)) (outer m) o
  pub same_code : stores.left.regs.code ≡ m.regs.code

-- the same at an address of the extra segment
pub record PutsFar (n a v : ℕ) (m : Machine) (o : Outcome) : Type 0 where
  pub stores : Becomes (take (length m.stack - n) m.stack) (record (outer m) { extra = slice_set m.extra a v }) o
  pub same_code : stores.left.regs.code ≡ m.regs.code
