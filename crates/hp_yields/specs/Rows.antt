-- What is said of rows, told of the stack: what they leave in place of the top words, and when they trap.
use Rattle.std.specs.Prelude.{◌≡◌, ℕ, Bool, true, false, List, [], ◌∷◌, Option, None, Some, Err}
use Rattle.spl_follow.specs.hp_word.declared.arithmetic.Arith.{Arith}
use Rattle.spl_follow.specs.hp_word.declared.arithmetic.Wide.{Wide}
use Rattle.spl_follow.specs.hp_word.declared.arithmetic.Quotient.{Quotient}
use Rattle.spl_follow.specs.hp_word.declared.arithmetic.Code.{Code}
use Rattle.spl_follow.specs.hp_word.declared.endings.Trap.TheVariants.{IntegerOverflow, DivideByZero}
use Rattle.spl_follow.specs.hp_word.Bytes.{high_word, low_word}
use Rattle.spl_follow.specs.hp_session.declared.places.Place.{Place}
use Rattle.spl_follow.specs.hp_session.declared.places.Place.TheVariants.{Db, Stack}
use Rattle.spl_follow.specs.hp_session.State.{Machine, Outcome}
use Rattle.spl_follow.specs.Yielding.{Yields}

-- ---- results

-- a result on words in place of the n top ones, or the trap where it is out of range
pub record Settles (n : ℕ) (r : Arith) (m : Machine) (o : Outcome) : Type 0 where
  pub trap : r.overflow ≡ true → o ≡ Err IntegerOverflow
  pub result : r.overflow ≡ false → Yields n (r.value ∷ []) m o

-- the same of doubles
pub record SettlesWide (n : ℕ) (r : Wide) (m : Machine) (o : Outcome) : Type 0 where
  pub trap : r.overflow ≡ true → o ≡ Err IntegerOverflow
  pub result : r.overflow ≡ false → Yields n (high_word r.value ∷ low_word r.value ∷ []) m o

-- a quotient and its remainder, which is on top, or the trap where the divisor is zero or the quotient out of range
abbrev pub Divides : ℕ → Option Quotient → Machine → Outcome → Type 0
Divides n None m o = o ≡ Err DivideByZero
Divides n (Some q) m o =
    (q.overflow ≡ true → o ≡ Err IntegerOverflow) × (q.overflow ≡ false → Yields n (q.quotient ∷ q.remainder ∷ []) m o)

-- the same where no quotient is out of range
abbrev pub DividesLogically : ℕ → Option Quotient → Machine → Outcome → Type 0
DividesLogically n None m o = o ≡ Err DivideByZero
DividesLogically n (Some q) m o = Yields n (q.quotient ∷ q.remainder ∷ []) m o

-- ---- registers

-- words in place of the n top ones, and this condition code
pub record Codes (n : ℕ) (ws : List ℕ) (c : Code) (m : Machine) (o : Outcome) : Type 0 where
  pub words : Yields n ws m o
  pub code : words.left.regs.code ≡ c

-- words in place of the n top ones; X is x, and both flags and the condition code stay
pub record Places (n : ℕ) (ws : List ℕ) (x : ℕ) (m : Machine) (o : Outcome) : Type 0 where
  pub words : Yields n ws m o
  pub index : words.left.regs.x ≡ x
  pub same_code : words.left.regs.code ≡ m.regs.code
  pub same_carry : words.left.regs.carry ≡ m.regs.carry
  pub same_overflow : words.left.regs.overflow ≡ m.regs.overflow

-- ---- places

-- a place is among the words of the extra segment (true) or of the stack (false)
abbrev pub Sided : Place → Bool → Machine → Type 0
Sided (Db a) far m = m.split ≡ far
Sided (Stack a) far m = far ≡ false

-- these words
abbrev pub held : Bool → Machine → List ℕ
held true m = m.extra
held false m = m.stack

-- the machine with others for these
abbrev pub with_held : Bool → List ℕ → Machine → Machine
with_held true ws m = record m { extra = ws }
with_held false ws m = record m { stack = ws }
