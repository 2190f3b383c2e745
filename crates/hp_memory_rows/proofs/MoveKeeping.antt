-- Each step of a move keeps what rows keep. A law has its row's name.
use Rattle.std.proofs.Common.{ℕ, Bool, List}
use Rattle.hp_session.specs.State.{Machine}
use Rattle.hp_session.proofs.KeepingForms.{IsKept, Keeps}
use Rattle.hp_session.proofs.KeepingLaws.{same, either, taking-kept, after_answer, after_row, written-kept, byte_written-kept}
use Rattle.hp_memory_rows.specs.MoveRows.{element_done, words_moved, bytes_moved, bytes_moved_while, scan_ended, scanned_while, scanned_until, bytes_compared, move_row}

element_done-kept : (count : ℕ) (m n : Machine) (c b a : ℕ) → IsKept count m n → IsKept count m (element_done c b a n)
unfolding element_done
element_done-kept count m n c b a h = h

words_moved-kept : (count : ℕ) (m : Machine) (segments : List (List ℕ)) (code : Bool) → Keeps count m (words_moved segments code m)
unfolding words_moved
words_moved-kept count m segments code = search (taking-kept, either, after_answer, after_row, written-kept, element_done-kept, same) depth 12

bytes_moved-kept : (count : ℕ) (m : Machine) (segments : List (List ℕ)) (code : Bool) → Keeps count m (bytes_moved segments code m)
unfolding bytes_moved
bytes_moved-kept count m segments code = search (taking-kept, either, after_answer, after_row, byte_written-kept, element_done-kept, same) depth 12

bytes_moved_while-kept : (count : ℕ) (m : Machine) (n : ℕ) → Keeps count m (bytes_moved_while n m)
unfolding bytes_moved_while
bytes_moved_while-kept count m n = search (taking-kept, either, after_answer, after_row, byte_written-kept, same) depth 12

scan_ended-kept : (count : ℕ) (m : Machine) (byte : ℕ) → IsKept count m (scan_ended byte m)
unfolding scan_ended
scan_ended-kept count m byte = same count m

scanned_while-kept : (count : ℕ) (m : Machine) → Keeps count m (scanned_while m)
unfolding scanned_while
scanned_while-kept count m = search (taking-kept, either, after_answer, scan_ended-kept, same) depth 12

scanned_until-kept : (count : ℕ) (m : Machine) → Keeps count m (scanned_until m)
unfolding scanned_until
scanned_until-kept count m = search (taking-kept, either, after_answer, scan_ended-kept, same) depth 12

bytes_compared-kept : (count : ℕ) (m : Machine) (segments : List (List ℕ)) (code : Bool) → Keeps count m (bytes_compared segments code m)
unfolding bytes_compared
bytes_compared-kept count m segments code = search (taking-kept, either, after_answer, element_done-kept, same) depth 12

pub move_row-kept : (count : ℕ) (m : Machine) (segments : List (List ℕ)) (which : ℕ) (n : ℕ) → Keeps count m (move_row segments which n m)
unfolding move_row
move_row-kept count m segments which n = search (either, words_moved-kept, bytes_moved-kept, bytes_moved_while-kept, scanned_while-kept, scanned_until-kept, bytes_compared-kept) depth 12
