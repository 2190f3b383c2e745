-- The forms in which rows are told, one law a form: a row that changes words, X and flags alone has the same rest by computing.
use Rattle.std.proofs.Common.{◌≡◌, ℕ, Bool, true, false, List, length, refl}
use Rattle.std.specs.Prelude.{if◌then◌else◌, Result, Ok, Err, Option, None, Some, nat_le, nat_lt, slice_set, ◌+◌}
use Rattle.hp_flat.specs.hp_word.declared.endings.Trap.{Trap}
use Rattle.hp_flat.specs.hp_word.declared.arithmetic.Arith.{Arith}
use Rattle.hp_flat.specs.hp_word.declared.arithmetic.Wide.{Wide}
use Rattle.hp_flat.specs.hp_word.declared.arithmetic.Quotient.{Quotient}
use Rattle.hp_flat.specs.hp_word.Bytes.{with_byte}
use Rattle.hp_flat.specs.hp_session.declared.places.Place.{Place}
use Rattle.hp_flat.specs.hp_session.declared.places.Place.TheVariants.{Db, Stack}
use Rattle.hp_flat.specs.hp_session.State.{Machine, Outcome, then_with, taking, pushing, pushing_all, deleted}
use Rattle.hp_flat.specs.hp_session.Results.{settled, settled_below, settled_double, quotient, logical_quotient}
use Rattle.hp_flat.specs.hp_session.Places.{address, area, read_at, word_of_byte, put, written, byte_written}
use Rattle.hp_steady.specs.Rest.{rest, Stays}

-- where either of two is answered
pub either : (m : Machine) (c : Bool) (a b : Outcome) → Stays m a → Stays m b → Stays m (if c then a else b)
either m true a b p q = p
either m false a b p q = q

-- a row that takes words
pub taking-stays : (m : Machine) (n : ℕ) (o : Outcome) → Stays m o → Stays m (taking n m o)
taking-stays m n o p = either m (nat_le n (length m.stack)) o (Err _) p tt

-- what follows from an answer that is no session
pub after_answer : {A : Type 0} (m : Machine) (r : Result A Trap) (go : A → Outcome) → ((a : A) → Stays m (go a)) → Stays m (then_with r go)
after_answer m (Ok a) go p = p a
after_answer m (Err t) go p = tt

-- what follows from a row
pub after_row : (m : Machine) (o : Outcome) (go : Machine → Outcome) → Stays m o
    → ((n : Machine) → rest n ≡ rest m → Stays m (go n)) → Stays m (then_with o go)
after_row m (Ok n) go p q = q n p
after_row m (Err t) go p q = tt

-- words pushed and deleted
pub pushing-stays : (m : Machine) (w : ℕ) → Stays m (pushing w m)
pushing-stays m w = either m (nat_lt (length m.stack) m.stack_limit) _ (Err _) refl tt

pub pushing_all-stays : (m : Machine) (words : List ℕ) → Stays m (pushing_all words m)
pushing_all-stays m words = either m (nat_le (length m.stack + length words) m.stack_limit) _ (Err _) refl tt

pub deleted-stays : (m : Machine) (n : ℕ) → Stays m (deleted n m)
unfolding deleted
deleted-stays m n = taking-stays m n _ refl

-- results left
pub settled-stays : (m : Machine) (n : ℕ) (r : Arith) → Stays m (settled n r m)
unfolding settled
settled-stays m n r = either m r.overflow (Err _) _ tt refl

pub settled_below-stays : (m : Machine) (r : Arith) → Stays m (settled_below r m)
unfolding settled_below
settled_below-stays m r = either m r.overflow (Err _) _ tt refl

pub settled_double-stays : (m : Machine) (n : ℕ) (r : Wide) → Stays m (settled_double n r m)
unfolding settled_double
settled_double-stays m n r = either m r.overflow (Err _) _ tt refl

pub quotient-stays : (m : Machine) (q : Option Quotient) → Stays m (quotient q m)
quotient-stays m None = tt
quotient-stays m (Some q) = either m q.overflow (Err _) _ tt refl

pub logical_quotient-stays : (m : Machine) (q : Option Quotient) → Stays m (logical_quotient q m)
logical_quotient-stays m None = tt
logical_quotient-stays m (Some q) = refl

-- a word stored
pub put-stays : (m : Machine) (place : Place) (w : ℕ) → rest (put place w m) ≡ rest m
unfolding put
put-stays m (Db a) w = by m.split where
  by : (c : Bool) → rest (if c then record m { extra = slice_set m.extra a w } else record m { stack = slice_set m.stack a w }) ≡ rest m
  by true = refl
  by false = refl
put-stays m (Stack a) w = refl

pub written-stays : (m : Machine) (place : Place) (w : ℕ) → Stays m (written place w m)
unfolding written
written-stays m place w = either m (nat_lt (address place) (length (area place m))) _ (Err _) (put-stays m place w) tt

pub byte_written-stays : (m : Machine) (place : Place) (byte : ℕ) → Stays m (byte_written place byte m)
unfolding byte_written
byte_written-stays m place byte = after_answer m (read_at (word_of_byte place) m) _ (λ w. written-stays m (word_of_byte place) (with_byte (address place) byte w))
