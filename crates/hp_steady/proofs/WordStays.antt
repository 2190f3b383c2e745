-- Each instruction on the top words, X and the number of words leaves the session where it stands. A law has its row's name.
use Rattle.std.proofs.Common.{ℕ, ◌≡◌, refl}
use Rattle.std.specs.Prelude.{◌+◌, Option, None, Some, Ok, Err, nat_le, length}
use Rattle.hp_flat.specs.hp_word.declared.arithmetic.Arith.{Arith}
use Rattle.hp_flat.specs.hp_word.declared.arithmetic.Quotient.{Quotient}
use Rattle.hp_flat.specs.hp_session.State.{Machine, without}
use Rattle.hp_steady.specs.Rest.{rest, Stays}
use Rattle.hp_steady.proofs.StayForms.{either, taking-stays, pushing-stays, pushing_all-stays, deleted-stays, settled-stays}
use Rattle.hp_flat.specs.hp_word_rows.WordRows.{shifting, split_mode, joined_mode, compared_with, with_number, quotient_alone, divided_by, field_taken, field_put, bits_with, immediate_row, having_room, roomy, count_row}

pub shifting-stays : (m : Machine) (kind : ℕ) (places : ℕ) → Stays m (shifting kind places m)
unfolding shifting
shifting-stays m kind places = taking-stays m 1 _ refl

split_mode-stays : (m : Machine) → Stays m (split_mode m)
split_mode-stays m = either m m.split _ _ tt refl

joined_mode-stays : (m : Machine) → Stays m (joined_mode m)
joined_mode-stays m = either m m.split _ _ refl tt

compared_with-stays : (m : Machine) (n : ℕ) → Stays m (compared_with n m)
unfolding compared_with
compared_with-stays m n = taking-stays m 1 _ refl

with_number-stays : (m : Machine) (f : ℕ → ℕ → Arith) (n : ℕ) → Stays m (with_number f n m)
unfolding with_number
with_number-stays m f n = taking-stays m 1 _ (settled-stays m 1 _)

quotient_alone-stays : (m : Machine) (q : Option Quotient) → Stays m (quotient_alone q m)
quotient_alone-stays m None = tt
quotient_alone-stays m (Some q) = either m q.overflow _ _ tt refl

divided_by-stays : (m : Machine) (n : ℕ) → Stays m (divided_by n m)
unfolding divided_by
divided_by-stays m n = taking-stays m 1 _ (quotient_alone-stays m _)

field_taken-stays : (m : Machine) (n : ℕ) → Stays m (field_taken n m)
unfolding field_taken
field_taken-stays m n = taking-stays m 1 _ refl

field_put-stays : (m : Machine) (n : ℕ) → Stays m (field_put n m)
unfolding field_put
field_put-stays m n = taking-stays m 2 _ refl

bits_with-stays : (m : Machine) (f : ℕ → ℕ → ℕ) (n : ℕ) → Stays m (bits_with f n m)
unfolding bits_with
bits_with-stays m f n = taking-stays m 1 _ refl

pub immediate_row-stays : (m : Machine) (which : ℕ) (n : ℕ) → Stays m (immediate_row which n m)
unfolding immediate_row
immediate_row-stays m which n = search (either, split_mode-stays, joined_mode-stays, pushing-stays, compared_with-stays, with_number-stays, divided_by-stays, field_taken-stays, field_put-stays, bits_with-stays) depth 24

having_room-stays : (m k : Machine) (n : ℕ) → rest k ≡ rest m → Stays m (having_room n k)
having_room-stays m k n h = either m (nat_le (length k.stack + n) k.stack_limit) (Ok k) (Err _) h tt

roomy-stays : (m : Machine) (n : ℕ) → Stays m (roomy n m)
unfolding roomy
roomy-stays m n = either m _ _ _ (taking-stays m 1 _ (having_room-stays m (without 1 m) _ refl)) (having_room-stays m m n refl)

pub count_row-stays : (m : Machine) (which : ℕ) (n : ℕ) → Stays m (count_row which n m)
unfolding count_row
count_row-stays m which n = search (either, roomy-stays, pushing_all-stays, deleted-stays) depth 12
