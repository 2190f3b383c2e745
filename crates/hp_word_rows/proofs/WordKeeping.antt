-- Each instruction on the top words, X and the flags keeps what rows keep. A law has its row's name. A row that
-- takes words and leaves others has changed the stack and the registers alone, so it has kept the rest by computing.
use Rattle.std.proofs.Common.{ℕ, Bool}
use Rattle.std.specs.Prelude.{◌+◌, Option, None, Some, Ok, Err, nat_le, length}
use Rattle.hp_word.specs.declared.arithmetic.Arith.{Arith}
use Rattle.hp_word.specs.declared.arithmetic.Quotient.{Quotient}
use Rattle.hp_session.specs.State.{Machine, without}
use Rattle.hp_session.proofs.KeepingForms.{IsKept, Keeps}
use Rattle.hp_session.proofs.KeepingLaws.{same, either, taking-kept, pushing-kept, pushing_all-kept, deleted-kept, settled-kept}
use Rattle.hp_word_rows.specs.WordRows.{shifting, branch_on_top, branch_on_x, branch_on_range, branch_on_parity, short_branch, split_mode, joined_mode, compared_with, with_number, quotient_alone, divided_by, field_taken, field_put, bits_with, immediate_row, having_room, roomy, count_row}

pub shifting-kept : (count : ℕ) (m : Machine) (kind : ℕ) (places : ℕ) → Keeps count m (shifting kind places m)
unfolding shifting
shifting-kept count m kind places = taking-kept count m 1 _ (same count m)

branch_on_top-kept : (count : ℕ) (m : Machine) (w : ℕ) (back : Bool) (d : ℕ) → Keeps count m (branch_on_top w back d m)
unfolding branch_on_top
branch_on_top-kept count m w back d = same count m

branch_on_x-kept : (count : ℕ) (m : Machine) (x : ℕ) (back : Bool) (d : ℕ) → Keeps count m (branch_on_x x back d m)
unfolding branch_on_x
branch_on_x-kept count m x back d = same count m

branch_on_range-kept : (count : ℕ) (m : Machine) (back : Bool) (d : ℕ) → Keeps count m (branch_on_range back d m)
unfolding branch_on_range
branch_on_range-kept count m back d = same count m

branch_on_parity-kept : (count : ℕ) (m : Machine) (parity : ℕ) (back : Bool) (d : ℕ) → Keeps count m (branch_on_parity parity back d m)
unfolding branch_on_parity
branch_on_parity-kept count m parity back d = same count m

pub short_branch-kept : (count : ℕ) (m : Machine) (test : ℕ) (back : Bool) (d : ℕ) → Keeps count m (short_branch test back d m)
unfolding short_branch
short_branch-kept count m test back d = search (either, taking-kept, branch_on_top-kept, branch_on_x-kept, branch_on_range-kept, branch_on_parity-kept, same) depth 16

split_mode-kept : (count : ℕ) (m : Machine) → Keeps count m (split_mode m)
split_mode-kept count m = either count m m.split _ _ tt (same count m)

joined_mode-kept : (count : ℕ) (m : Machine) → Keeps count m (joined_mode m)
joined_mode-kept count m = either count m m.split _ _ (same count m) tt

compared_with-kept : (count : ℕ) (m : Machine) (n : ℕ) → Keeps count m (compared_with n m)
unfolding compared_with
compared_with-kept count m n = taking-kept count m 1 _ (same count m)

with_number-kept : (count : ℕ) (m : Machine) (f : ℕ → ℕ → Arith) (n : ℕ) → Keeps count m (with_number f n m)
unfolding with_number
with_number-kept count m f n = taking-kept count m 1 _ (settled-kept count m 1 _)

quotient_alone-kept : (count : ℕ) (m : Machine) (q : Option Quotient) → Keeps count m (quotient_alone q m)
quotient_alone-kept count m None = tt
quotient_alone-kept count m (Some q) = either count m q.overflow _ _ tt (same count m)

divided_by-kept : (count : ℕ) (m : Machine) (n : ℕ) → Keeps count m (divided_by n m)
unfolding divided_by
divided_by-kept count m n = taking-kept count m 1 _ (quotient_alone-kept count m _)

field_taken-kept : (count : ℕ) (m : Machine) (n : ℕ) → Keeps count m (field_taken n m)
unfolding field_taken
field_taken-kept count m n = taking-kept count m 1 _ (same count m)

field_put-kept : (count : ℕ) (m : Machine) (n : ℕ) → Keeps count m (field_put n m)
unfolding field_put
field_put-kept count m n = taking-kept count m 2 _ (same count m)

bits_with-kept : (count : ℕ) (m : Machine) (f : ℕ → ℕ → ℕ) (n : ℕ) → Keeps count m (bits_with f n m)
unfolding bits_with
bits_with-kept count m f n = taking-kept count m 1 _ (same count m)

pub immediate_row-kept : (count : ℕ) (m : Machine) (which : ℕ) (n : ℕ) → Keeps count m (immediate_row which n m)
unfolding immediate_row
immediate_row-kept count m which n = search (either, split_mode-kept, joined_mode-kept, pushing-kept, compared_with-kept, with_number-kept, divided_by-kept, field_taken-kept, field_put-kept, bits_with-kept, same) depth 24

having_room-kept : (count : ℕ) (m k : Machine) (n : ℕ) → IsKept count m k → Keeps count m (having_room n k)
having_room-kept count m k n h = either count m (nat_le (length k.stack + n) k.stack_limit) (Ok k) (Err _) h tt

roomy-kept : (count : ℕ) (m : Machine) (n : ℕ) → Keeps count m (roomy n m)
unfolding roomy
roomy-kept count m n = either count m _ _ _ (taking-kept count m 1 _ (having_room-kept count m (without 1 m) _ (same count m))) (having_room-kept count m m n (same count m))

pub count_row-kept : (count : ℕ) (m : Machine) (which : ℕ) (n : ℕ) → Keeps count m (count_row which n m)
unfolding count_row
count_row-kept count m which n = search (either, roomy-kept, pushing_all-kept, deleted-kept, same) depth 12
