-- How rows keep what they have to: the forms in which rows are told, one law a form.
use Rattle.std.proofs.Common.{◌≡◌, ℕ, Bool, true, false, List, length, take, refl, ◌∙◌, arith}
use Rattle.std.specs.Prelude.{if◌then◌else◌, Result, Ok, Err, Option, None, Some, nat_le, nat_lt, slice_set, ◌+◌}
use Rattle.std.proofs.lemmas.List.{length-set}
use Rattle.std.proofs.Math.Seq.{take-length}
use Rattle.std.proofs.lemmas.Grind.{common_steps}
use Rattle.hp_word.specs.declared.endings.Trap.{Trap}
use Rattle.hp_word.specs.declared.arithmetic.Arith.{Arith}
use Rattle.hp_word.specs.declared.arithmetic.Wide.{Wide}
use Rattle.hp_word.specs.declared.arithmetic.Quotient.{Quotient}
use Rattle.hp_word.specs.Bytes.{with_byte}
use Rattle.hp_session.specs.declared.places.Place.{Place}
use Rattle.hp_session.specs.declared.places.Place.TheVariants.{Db, Stack}
use Rattle.hp_session.specs.State.{Machine, Outcome, then_with, taking, pushing, pushing_all, deleted, passing}
use Rattle.hp_session.specs.Results.{settled, settled_below, settled_double, quotient, logical_quotient}
use Rattle.hp_session.specs.Places.{address, area, read_at, word_of_byte, put, written, byte_written}
use Rattle.hp_session.specs.Keeping.{Continues}
use Rattle.hp_session.proofs.KeepingForms.{IsKept, Keeps}

-- a list in front of one in front of a third
front-front : (xs ys zs : List ℕ) → take (length xs) ys ≡ xs → take (length ys) zs ≡ ys → take (length xs) zs ≡ xs
front-front xs ys zs p q = grind (arith, common_steps)

-- a session keeps all; so does one in which other parts alone have changed
pub same : (count : ℕ) (m : Machine) → IsKept count m m
same count m = record {
  within = λ h. h;
  same_limit = refl;
  same_room = refl;
  same_lines = refl;
  later = omega arith;
  same_size = refl;
  front = take-length m.printed;
  untrapped = λ h. h;
}

-- what is kept twice is kept
pub chained : (count : ℕ) (m n k : Machine) → IsKept count m n → IsKept count n k → IsKept count m k
chained count m n k p q = record {
  within = λ h. q.within (p.within h);
  same_limit = q.same_limit ∙ p.same_limit;
  same_room = q.same_room ∙ p.same_room;
  same_lines = q.same_lines ∙ p.same_lines;
  later = let a = p.later in let b = q.later in omega arith;
  same_size = q.same_size ∙ p.same_size;
  front = front-front m.printed n.printed k.printed p.front q.front;
  untrapped = λ h. q.untrapped (p.untrapped h);
}

-- a row from a session that has kept all
pub from_kept : (count : ℕ) (m k : Machine) (o : Outcome) → IsKept count m k → Keeps count k o → Keeps count m o
from_kept count m k (Ok n) p q = chained count m k n p q
from_kept count m k (Err t) p q = tt

-- a session that has kept all goes on from the one before
pub continued : (count : ℕ) (m n : Machine) → IsKept count m n → Continues count m n
continued count m n h = record {
  within = h.within;
  same_limit = h.same_limit;
  same_room = h.same_room;
  same_lines = h.same_lines;
  later = h.later;
  same_size = h.same_size;
  front = h.front;
}

-- going on is transitive
pub continued_twice : (count : ℕ) (m n k : Machine) → Continues count m n → Continues count n k → Continues count m k
continued_twice count m n k p q = record {
  within = λ h. q.within (p.within h);
  same_limit = q.same_limit ∙ p.same_limit;
  same_room = q.same_room ∙ p.same_room;
  same_lines = q.same_lines ∙ p.same_lines;
  later = let a = p.later in let b = q.later in omega arith;
  same_size = q.same_size ∙ p.same_size;
  front = front-front m.printed n.printed k.printed p.front q.front;
}

-- where either of two is answered
pub either : (count : ℕ) (m : Machine) (c : Bool) (a b : Outcome) → Keeps count m a → Keeps count m b → Keeps count m (if c then a else b)
either count m true a b p q = p
either count m false a b p q = q

-- a row that takes words
pub taking-kept : (count : ℕ) (m : Machine) (n : ℕ) (o : Outcome) → Keeps count m o → Keeps count m (taking n m o)
taking-kept count m n o p = either count m (nat_le n (length m.stack)) o (Err _) p tt

-- what follows from an answer that is no session
pub after_answer : {A : Type 0} (count : ℕ) (m : Machine) (r : Result A Trap) (go : A → Outcome) → ((a : A) → Keeps count m (go a)) → Keeps count m (then_with r go)
after_answer count m (Ok a) go p = p a
after_answer count m (Err t) go p = tt

-- what follows from a row
pub after_row : (count : ℕ) (m : Machine) (o : Outcome) (go : Machine → Outcome) → Keeps count m o → ((n : Machine) → IsKept count m n → Keeps count m (go n)) → Keeps count m (then_with o go)
after_row count m (Ok n) go p q = q n p
after_row count m (Err t) go p q = tt

-- words pushed and deleted
pub pushing-kept : (count : ℕ) (m : Machine) (w : ℕ) → Keeps count m (pushing w m)
pushing-kept count m w = either count m (nat_lt (length m.stack) m.stack_limit) _ (Err _) (same count m) tt

pub pushing_all-kept : (count : ℕ) (m : Machine) (words : List ℕ) → Keeps count m (pushing_all words m)
pushing_all-kept count m words = either count m (nat_le (length m.stack + length words) m.stack_limit) _ (Err _) (same count m) tt

pub deleted-kept : (count : ℕ) (m : Machine) (n : ℕ) → Keeps count m (deleted n m)
unfolding deleted
deleted-kept count m n = taking-kept count m n _ (same count m)

-- results left
pub settled-kept : (count : ℕ) (m : Machine) (n : ℕ) (r : Arith) → Keeps count m (settled n r m)
unfolding settled
settled-kept count m n r = either count m r.overflow (Err _) _ tt (same count m)

pub settled_below-kept : (count : ℕ) (m : Machine) (r : Arith) → Keeps count m (settled_below r m)
unfolding settled_below
settled_below-kept count m r = either count m r.overflow (Err _) _ tt (same count m)

pub settled_double-kept : (count : ℕ) (m : Machine) (n : ℕ) (r : Wide) → Keeps count m (settled_double n r m)
unfolding settled_double
settled_double-kept count m n r = either count m r.overflow (Err _) _ tt (same count m)

pub quotient-kept : (count : ℕ) (m : Machine) (q : Option Quotient) → Keeps count m (quotient q m)
quotient-kept count m None = tt
quotient-kept count m (Some q) = either count m q.overflow (Err _) _ tt (same count m)

pub logical_quotient-kept : (count : ℕ) (m : Machine) (q : Option Quotient) → Keeps count m (logical_quotient q m)
logical_quotient-kept count m None = tt
logical_quotient-kept count m (Some q) = same count m

-- a word stored
pub put-kept : (count : ℕ) (m : Machine) (place : Place) (w : ℕ) → IsKept count m (put place w m)
unfolding put
put-kept count m (Db a) w = by m.split where
  by : (c : Bool) → IsKept count m (if c then record m { extra = slice_set m.extra a w } else record m { stack = slice_set m.stack a w })
  by true = record {
    within = λ h. h;
    same_limit = refl;
    same_room = refl;
    same_lines = refl;
    later = omega arith;
    same_size = length-set m.extra a w;
    front = take-length m.printed;
    untrapped = λ h. h;
  }
  by false = same count m
put-kept count m (Stack a) w = same count m

pub written-kept : (count : ℕ) (m : Machine) (place : Place) (w : ℕ) → Keeps count m (written place w m)
unfolding written
written-kept count m place w = either count m (nat_lt (address place) (length (area place m))) _ (Err _) (put-kept count m place w) tt

pub byte_written-kept : (count : ℕ) (m : Machine) (place : Place) (byte : ℕ) → Keeps count m (byte_written place byte m)
unfolding byte_written
byte_written-kept count m place byte = after_answer count m (read_at (word_of_byte place) m) _ (λ w. written-kept count m (word_of_byte place) (with_byte (address place) byte w))

-- what goes on past its word
pub passing-kept : (count : ℕ) (m : Machine) (o : Outcome) → Keeps count m o → Keeps count m (passing o)
passing-kept count m (Ok n) p = p
passing-kept count m (Err t) p = tt
