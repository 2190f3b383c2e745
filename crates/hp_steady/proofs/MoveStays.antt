-- A step of a move leaves the session at its word, or past it. A law has its row's name.
use Rattle.std.proofs.Common.{◌≡◌, ◌⊎◌, inl, inr, ℕ, Bool, true, false, List, length, refl}
use Rattle.std.specs.Prelude.{if◌then◌else◌, nat_le, Result, Ok, Err}
use Rattle.hp_flat.specs.hp_word.declared.endings.Trap.{Trap}
use Rattle.hp_flat.specs.hp_session.State.{Machine, Outcome, then_with, taking, passed}
use Rattle.hp_flat.specs.hp_memory_rows.MoveRows.{element_done, words_moved, bytes_moved, bytes_moved_while, scan_ended, scanned_while, scanned_until, bytes_compared, move_row}
use Rattle.hp_steady.specs.Rest.{rest, Stays, StaysOrPasses}
use Rattle.hp_steady.proofs.StayForms.{written-stays, byte_written-stays}

-- ---- forms

stayed : (m n : Machine) → rest n ≡ rest m → (rest n ≡ rest m) ⊎ (rest n ≡ rest (passed m))
stayed m n h = inl h

went : (m n : Machine) → rest n ≡ rest (passed m) → (rest n ≡ rest m) ⊎ (rest n ≡ rest (passed m))
went m n h = inr h

-- past its word by computing
gone : (m : Machine) → (rest (passed m) ≡ rest m) ⊎ (rest (passed m) ≡ rest (passed m))
gone m = inr refl

here : (m : Machine) → (rest m ≡ rest m) ⊎ (rest m ≡ rest (passed m))
here m = inl refl

one_of : (m : Machine) (c : Bool) (a b : Outcome) → StaysOrPasses m a → StaysOrPasses m b → StaysOrPasses m (if c then a else b)
one_of m true a b p q = p
one_of m false a b p q = q

taking-moves : (m : Machine) (n : ℕ) (o : Outcome) → StaysOrPasses m o → StaysOrPasses m (taking n m o)
taking-moves m n o p = one_of m (nat_le n (length m.stack)) o (Err _) p tt

after_read : {A : Type 0} (m : Machine) (r : Result A Trap) (go : A → Outcome) → ((a : A) → StaysOrPasses m (go a))
    → StaysOrPasses m (then_with r go)
after_read m (Ok a) go p = p a
after_read m (Err t) go p = tt

after_store : (m : Machine) (o : Outcome) (go : Machine → Outcome) → Stays m o
    → ((n : Machine) → rest n ≡ rest m → StaysOrPasses m (go n)) → StaysOrPasses m (then_with o go)
after_store m (Ok n) go p q = q n p
after_store m (Err t) go p q = tt

-- ---- rows

element_done-stays : (m n : Machine) (c b a : ℕ) → rest n ≡ rest m
    → (rest (element_done c b a n) ≡ rest m) ⊎ (rest (element_done c b a n) ≡ rest (passed m))
unfolding element_done
element_done-stays m n c b a h = inl h

words_moved-stays : (m : Machine) (segments : List (List ℕ)) (code : Bool) → StaysOrPasses m (words_moved segments code m)
unfolding words_moved
words_moved-stays m segments code = search (taking-moves, one_of, after_read, after_store, written-stays, element_done-stays, gone) depth 12

bytes_moved-stays : (m : Machine) (segments : List (List ℕ)) (code : Bool) → StaysOrPasses m (bytes_moved segments code m)
unfolding bytes_moved
bytes_moved-stays m segments code = search (taking-moves, one_of, after_read, after_store, byte_written-stays, element_done-stays, gone) depth 12

bytes_moved_while-stays : (m : Machine) (n : ℕ) → StaysOrPasses m (bytes_moved_while n m)
unfolding bytes_moved_while
bytes_moved_while-stays m n = search (taking-moves, one_of, after_read, after_store, byte_written-stays, stayed, gone) depth 12

scan_ended-passes : (m : Machine) (byte : ℕ) → (rest (scan_ended byte m) ≡ rest m) ⊎ (rest (scan_ended byte m) ≡ rest (passed m))
unfolding scan_ended
scan_ended-passes m byte = inr refl

scanned_while-stays : (m : Machine) → StaysOrPasses m (scanned_while m)
unfolding scanned_while
scanned_while-stays m = search (taking-moves, one_of, after_read, scan_ended-passes, here) depth 12

scanned_until-stays : (m : Machine) → StaysOrPasses m (scanned_until m)
unfolding scanned_until
scanned_until-stays m = search (taking-moves, one_of, after_read, scan_ended-passes, here) depth 12

bytes_compared-stays : (m : Machine) (segments : List (List ℕ)) (code : Bool) → StaysOrPasses m (bytes_compared segments code m)
unfolding bytes_compared
bytes_compared-stays m segments code = search (taking-moves, one_of, after_read, element_done-stays, gone) depth 12

pub move_row-stays : (m : Machine) (segments : List (List ℕ)) (which : ℕ) (n : ℕ) → StaysOrPasses m (move_row segments which n m)
unfolding move_row
move_row-stays m segments which n = search (one_of, words_moved-stays, bytes_moved-stays, bytes_moved_while-stays, scanned_while-stays, scanned_until-stays, bytes_compared-stays) depth 12
