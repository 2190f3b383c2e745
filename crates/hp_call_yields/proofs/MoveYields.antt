-- Steps of moves, scans and byte comparisons: what each does, by what it reads and stores.
use Rattle.std.proofs.Common.{◌≡◌, ℕ, ◌+◌, ◌≤◌, Bool, true, false, List, [], ◌∷◌, length, Ok, Err, ap, ◌∙◌}
use Rattle.std.specs.Prelude.{◌==◌, not, nat_lt, if◌then◌else◌}
use Rattle.std.proofs.lemmas.Bool.{cond-true, cond-false}
use Rattle.hp_yields.specs.hp_word.declared.arithmetic.Code.TheVariants.{Greater, Less, Equal}
use Rattle.hp_yields.specs.hp_word.declared.endings.Trap.{Trap}
use Rattle.hp_yields.specs.hp_session.declared.places.Place.TheVariants.{Db}
use Rattle.hp_yields.specs.hp_session.State.{Machine, Outcome, then_with, word, without, replaced, with_code, wrapped, passed}
use Rattle.hp_yields.specs.hp_session.Places.{byte_read, written, byte_written}
use Rattle.hp_yields.specs.hp_memory_rows.MoveRows.{element_done, source_word, source_byte, words_moved, bytes_moved, is_of_class, as_moved, bytes_moved_while, byte_passed, scan_ended, scanned_while, scanned_until, bytes_compared, move_row}
use Rattle.hp_call_yields.specs.Steps.{passes_while, ends_until}
use Rattle.hp_yields.proofs.YieldForms.{taken, found, lost}

-- ---- MOVE

-- what a word does that was read
abbrev put_word : Machine → ℕ → Outcome
put_word m w = then_with (written (Db (word 2 m)) w m) (λ k. Ok (element_done (word 2 m) (word 1 m) (word 0 m) k))

pub move_ends : (segments : List (List ℕ)) (n : ℕ) (m : Machine) → 3 ≤ length m.stack → (word 0 m == 0) ≡ true
    → move_row segments 9 n m ≡ Ok (passed (without 2 m))
unfolding move_row words_moved
move_ends segments n m enough none = taken 3 m _ enough ∙ cond-true (word 0 m == 0) _ _ none

pub move_goes : (segments : List (List ℕ)) (n w : ℕ) (k m : Machine) → 3 ≤ length m.stack → (word 0 m == 0) ≡ false
    → source_word segments (n == 1) (word 1 m) m ≡ Ok w → written (Db (word 2 m)) w m ≡ Ok k
    → move_row segments 9 n m ≡ Ok (element_done (word 2 m) (word 1 m) (word 0 m) k)
unfolding move_row words_moved
move_goes segments n w k m enough some is puts =
    taken 3 m _ enough ∙ cond-false (word 0 m == 0) _ _ some
    ∙ found (source_word segments (n == 1) (word 1 m) m) w (put_word m) is
    ∙ found (written (Db (word 2 m)) w m) k (λ k. Ok (element_done (word 2 m) (word 1 m) (word 0 m) k)) puts

pub move_reads_none : (segments : List (List ℕ)) (n : ℕ) (t : Trap) (m : Machine) → 3 ≤ length m.stack → (word 0 m == 0) ≡ false
    → source_word segments (n == 1) (word 1 m) m ≡ Err t → move_row segments 9 n m ≡ Err t
unfolding move_row words_moved
move_reads_none segments n t m enough some is =
    taken 3 m _ enough ∙ cond-false (word 0 m == 0) _ _ some ∙ lost (source_word segments (n == 1) (word 1 m) m) t (put_word m) is

pub move_stores_none : (segments : List (List ℕ)) (n w : ℕ) (t : Trap) (m : Machine) → 3 ≤ length m.stack → (word 0 m == 0) ≡ false
    → source_word segments (n == 1) (word 1 m) m ≡ Ok w → written (Db (word 2 m)) w m ≡ Err t → move_row segments 9 n m ≡ Err t
unfolding move_row words_moved
move_stores_none segments n w t m enough some is puts =
    taken 3 m _ enough ∙ cond-false (word 0 m == 0) _ _ some
    ∙ found (source_word segments (n == 1) (word 1 m) m) w (put_word m) is
    ∙ lost (written (Db (word 2 m)) w m) t (λ k. Ok (element_done (word 2 m) (word 1 m) (word 0 m) k)) puts

-- ---- MVB

-- what a byte does that was read
abbrev put_byte : Machine → ℕ → Outcome
put_byte m b = then_with (byte_written (Db (word 2 m)) b m) (λ k. Ok (element_done (word 2 m) (word 1 m) (word 0 m) k))

pub bytes_end : (segments : List (List ℕ)) (n : ℕ) (m : Machine) → 3 ≤ length m.stack → (word 0 m == 0) ≡ true
    → move_row segments 10 n m ≡ Ok (passed (without 2 m))
unfolding move_row bytes_moved
bytes_end segments n m enough none = taken 3 m _ enough ∙ cond-true (word 0 m == 0) _ _ none

pub bytes_go : (segments : List (List ℕ)) (n b : ℕ) (k m : Machine) → 3 ≤ length m.stack → (word 0 m == 0) ≡ false
    → source_byte segments (n == 1) (word 1 m) m ≡ Ok b → byte_written (Db (word 2 m)) b m ≡ Ok k
    → move_row segments 10 n m ≡ Ok (element_done (word 2 m) (word 1 m) (word 0 m) k)
unfolding move_row bytes_moved
bytes_go segments n b k m enough some is puts =
    taken 3 m _ enough ∙ cond-false (word 0 m == 0) _ _ some
    ∙ found (source_byte segments (n == 1) (word 1 m) m) b (put_byte m) is
    ∙ found (byte_written (Db (word 2 m)) b m) k (λ k. Ok (element_done (word 2 m) (word 1 m) (word 0 m) k)) puts

pub bytes_read_none : (segments : List (List ℕ)) (n : ℕ) (t : Trap) (m : Machine) → 3 ≤ length m.stack → (word 0 m == 0) ≡ false
    → source_byte segments (n == 1) (word 1 m) m ≡ Err t → move_row segments 10 n m ≡ Err t
unfolding move_row bytes_moved
bytes_read_none segments n t m enough some is =
    taken 3 m _ enough ∙ cond-false (word 0 m == 0) _ _ some ∙ lost (source_byte segments (n == 1) (word 1 m) m) t (put_byte m) is

pub bytes_store_none : (segments : List (List ℕ)) (n b : ℕ) (t : Trap) (m : Machine) → 3 ≤ length m.stack → (word 0 m == 0) ≡ false
    → source_byte segments (n == 1) (word 1 m) m ≡ Ok b → byte_written (Db (word 2 m)) b m ≡ Err t → move_row segments 10 n m ≡ Err t
unfolding move_row bytes_moved
bytes_store_none segments n b t m enough some is puts =
    taken 3 m _ enough ∙ cond-false (word 0 m == 0) _ _ some
    ∙ found (source_byte segments (n == 1) (word 1 m) m) b (put_byte m) is
    ∙ lost (byte_written (Db (word 2 m)) b m) t (λ k. Ok (element_done (word 2 m) (word 1 m) (word 0 m) k)) puts

-- ---- MVBW

-- what a byte of the class does that was read
abbrev put_of_class : ℕ → Machine → ℕ → Outcome
put_of_class n m b = then_with (byte_written (Db (word 1 m)) (as_moved n b) m) (λ k. Ok (replaced 2 (wrapped (word 1 m + 1) ∷ wrapped (word 0 m + 1) ∷ []) k))

abbrev while_byte : ℕ → Machine → ℕ → Outcome
while_byte n m b = if not (is_of_class n b) then Ok (passed (without 1 m)) else put_of_class n m b

pub while_ends : (segments : List (List ℕ)) (n b : ℕ) (m : Machine) → 2 ≤ length m.stack → byte_read (Db (word 0 m)) m ≡ Ok b
    → is_of_class n b ≡ false
    → move_row segments 11 n m ≡ Ok (passed (without 1 m))
unfolding move_row bytes_moved_while
while_ends segments n b m enough is other =
    taken 2 m _ enough ∙ found (byte_read (Db (word 0 m)) m) b (while_byte n m) is ∙ cond-true (not (is_of_class n b)) _ _ (ap not other)

pub while_goes : (segments : List (List ℕ)) (n b : ℕ) (k m : Machine) → 2 ≤ length m.stack → byte_read (Db (word 0 m)) m ≡ Ok b
    → is_of_class n b ≡ true
    → byte_written (Db (word 1 m)) (as_moved n b) m ≡ Ok k
    → move_row segments 11 n m ≡ Ok (replaced 2 (wrapped (word 1 m + 1) ∷ wrapped (word 0 m + 1) ∷ []) k)
unfolding move_row bytes_moved_while
while_goes segments n b k m enough is same puts =
    taken 2 m _ enough ∙ found (byte_read (Db (word 0 m)) m) b (while_byte n m) is ∙ cond-false (not (is_of_class n b)) _ _ (ap not same)
    ∙ found (byte_written (Db (word 1 m)) (as_moved n b) m) k (λ k. Ok (replaced 2 (wrapped (word 1 m + 1) ∷ wrapped (word 0 m + 1) ∷ []) k)) puts

pub while_reads_none : (segments : List (List ℕ)) (n : ℕ) (t : Trap) (m : Machine) → 2 ≤ length m.stack
    → byte_read (Db (word 0 m)) m ≡ Err t → move_row segments 11 n m ≡ Err t
unfolding move_row bytes_moved_while
while_reads_none segments n t m enough is = taken 2 m _ enough ∙ lost (byte_read (Db (word 0 m)) m) t (while_byte n m) is

pub while_stores_none : (segments : List (List ℕ)) (n b : ℕ) (t : Trap) (m : Machine) → 2 ≤ length m.stack
    → byte_read (Db (word 0 m)) m ≡ Ok b → is_of_class n b ≡ true
    → byte_written (Db (word 1 m)) (as_moved n b) m ≡ Err t → move_row segments 11 n m ≡ Err t
unfolding move_row bytes_moved_while
while_stores_none segments n b t m enough is same puts =
    taken 2 m _ enough ∙ found (byte_read (Db (word 0 m)) m) b (while_byte n m) is ∙ cond-false (not (is_of_class n b)) _ _ (ap not same)
    ∙ lost (byte_written (Db (word 1 m)) (as_moved n b) m) t (λ k. Ok (replaced 2 (wrapped (word 1 m + 1) ∷ wrapped (word 0 m + 1) ∷ []) k)) puts

-- ---- SCW and SCU

abbrev scan_while_byte : Machine → ℕ → Outcome
scan_while_byte m b = if passes_while b m then Ok (byte_passed m) else Ok (scan_ended b m)

abbrev scan_until_byte : Machine → ℕ → Outcome
scan_until_byte m b = if ends_until b m then Ok (scan_ended b m) else Ok (byte_passed m)

pub scan_while_goes : (segments : List (List ℕ)) (n b : ℕ) (m : Machine) → 2 ≤ length m.stack → byte_read (Db (word 1 m)) m ≡ Ok b
    → passes_while b m ≡ true
    → move_row segments 12 n m ≡ Ok (byte_passed m)
unfolding move_row scanned_while
scan_while_goes segments n b m enough is same =
    taken 2 m _ enough ∙ found (byte_read (Db (word 1 m)) m) b (scan_while_byte m) is ∙ cond-true (passes_while b m) _ _ same

pub scan_while_ends : (segments : List (List ℕ)) (n b : ℕ) (m : Machine) → 2 ≤ length m.stack → byte_read (Db (word 1 m)) m ≡ Ok b
    → passes_while b m ≡ false
    → move_row segments 12 n m ≡ Ok (scan_ended b m)
unfolding move_row scanned_while
scan_while_ends segments n b m enough is other =
    taken 2 m _ enough ∙ found (byte_read (Db (word 1 m)) m) b (scan_while_byte m) is ∙ cond-false (passes_while b m) _ _ other

pub scan_while_reads_none : (segments : List (List ℕ)) (n : ℕ) (t : Trap) (m : Machine) → 2 ≤ length m.stack
    → byte_read (Db (word 1 m)) m ≡ Err t → move_row segments 12 n m ≡ Err t
unfolding move_row scanned_while
scan_while_reads_none segments n t m enough is = taken 2 m _ enough ∙ lost (byte_read (Db (word 1 m)) m) t (scan_while_byte m) is

pub scan_until_goes : (segments : List (List ℕ)) (n b : ℕ) (m : Machine) → 2 ≤ length m.stack → byte_read (Db (word 1 m)) m ≡ Ok b
    → ends_until b m ≡ false
    → move_row segments 13 n m ≡ Ok (byte_passed m)
unfolding move_row scanned_until
scan_until_goes segments n b m enough is other =
    taken 2 m _ enough ∙ found (byte_read (Db (word 1 m)) m) b (scan_until_byte m) is ∙ cond-false (ends_until b m) _ _ other

pub scan_until_ends : (segments : List (List ℕ)) (n b : ℕ) (m : Machine) → 2 ≤ length m.stack → byte_read (Db (word 1 m)) m ≡ Ok b
    → ends_until b m ≡ true
    → move_row segments 13 n m ≡ Ok (scan_ended b m)
unfolding move_row scanned_until
scan_until_ends segments n b m enough is same =
    taken 2 m _ enough ∙ found (byte_read (Db (word 1 m)) m) b (scan_until_byte m) is ∙ cond-true (ends_until b m) _ _ same

pub scan_until_reads_none : (segments : List (List ℕ)) (n : ℕ) (t : Trap) (m : Machine) → 2 ≤ length m.stack
    → byte_read (Db (word 1 m)) m ≡ Err t → move_row segments 13 n m ≡ Err t
unfolding move_row scanned_until
scan_until_reads_none segments n t m enough is = taken 2 m _ enough ∙ lost (byte_read (Db (word 1 m)) m) t (scan_until_byte m) is

-- ---- CMPB

-- what two bytes do that were read
abbrev compare_bytes : Machine → ℕ → ℕ → Outcome
compare_bytes m a b =
    if a == b then Ok (element_done (word 2 m) (word 1 m) (word 0 m) m) else
    Ok (passed (with_code (if nat_lt b a then Greater else Less) (without 3 m)))

abbrev compare_first : List (List ℕ) → Bool → Machine → ℕ → Outcome
compare_first segments code m a = then_with (source_byte segments code (word 1 m) m) (compare_bytes m a)

pub compare_ends : (segments : List (List ℕ)) (n : ℕ) (m : Machine) → 3 ≤ length m.stack → (word 0 m == 0) ≡ true
    → move_row segments 14 n m ≡ Ok (passed (with_code Equal (without 3 m)))
unfolding move_row bytes_compared
compare_ends segments n m enough none = taken 3 m _ enough ∙ cond-true (word 0 m == 0) _ _ none

pub compare_goes : (segments : List (List ℕ)) (n a b : ℕ) (m : Machine) → 3 ≤ length m.stack → (word 0 m == 0) ≡ false
    → byte_read (Db (word 2 m)) m ≡ Ok a
    → source_byte segments (n == 1) (word 1 m) m ≡ Ok b → (a == b) ≡ true
    → move_row segments 14 n m ≡ Ok (element_done (word 2 m) (word 1 m) (word 0 m) m)
unfolding move_row bytes_compared
compare_goes segments n a b m enough some first second same =
    taken 3 m _ enough ∙ cond-false (word 0 m == 0) _ _ some
    ∙ found (byte_read (Db (word 2 m)) m) a (compare_first segments (n == 1) m) first
    ∙ found (source_byte segments (n == 1) (word 1 m) m) b (compare_bytes m a) second ∙ cond-true (a == b) _ _ same

pub compare_differs : (segments : List (List ℕ)) (n a b : ℕ) (m : Machine) → 3 ≤ length m.stack → (word 0 m == 0) ≡ false
    → byte_read (Db (word 2 m)) m ≡ Ok a
    → source_byte segments (n == 1) (word 1 m) m ≡ Ok b → (a == b) ≡ false
    → move_row segments 14 n m ≡ Ok (passed (with_code (if nat_lt b a then Greater else Less) (without 3 m)))
unfolding move_row bytes_compared
compare_differs segments n a b m enough some first second other =
    taken 3 m _ enough ∙ cond-false (word 0 m == 0) _ _ some
    ∙ found (byte_read (Db (word 2 m)) m) a (compare_first segments (n == 1) m) first
    ∙ found (source_byte segments (n == 1) (word 1 m) m) b (compare_bytes m a) second ∙ cond-false (a == b) _ _ other

pub compare_reads_no_first : (segments : List (List ℕ)) (n : ℕ) (t : Trap) (m : Machine) → 3 ≤ length m.stack → (word 0 m == 0) ≡ false
    → byte_read (Db (word 2 m)) m ≡ Err t → move_row segments 14 n m ≡ Err t
unfolding move_row bytes_compared
compare_reads_no_first segments n t m enough some is =
    taken 3 m _ enough ∙ cond-false (word 0 m == 0) _ _ some ∙ lost (byte_read (Db (word 2 m)) m) t (compare_first segments (n == 1) m) is

pub compare_reads_no_second : (segments : List (List ℕ)) (n a : ℕ) (t : Trap) (m : Machine) → 3 ≤ length m.stack → (word 0 m == 0) ≡ false
    → byte_read (Db (word 2 m)) m ≡ Ok a → source_byte segments (n == 1) (word 1 m) m ≡ Err t → move_row segments 14 n m ≡ Err t
unfolding move_row bytes_compared
compare_reads_no_second segments n a t m enough some first is =
    taken 3 m _ enough ∙ cond-false (word 0 m == 0) _ _ some
    ∙ found (byte_read (Db (word 2 m)) m) a (compare_first segments (n == 1) m) first
    ∙ lost (source_byte segments (n == 1) (word 1 m) m) t (compare_bytes m a) is
