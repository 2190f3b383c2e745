-- The rows of moves, scans and byte comparisons. Each step moves, passes or compares one element and leaves P; the words at the
-- top keep the addresses and the count for the next. A data address is DB-relative.
use Rattle.std.specs.Prelude.{ℕ, ◌+◌, ◌-◌, ◌/◌, ◌%◌, Bool, not, ◌==◌, ◌&&◌, ◌||◌, nat_lt, nat_le, List, [], ◌∷◌, Result, Ok, if◌then◌else◌}
use Rattle.hp_word.specs.declared.arithmetic.Code.TheVariants.{Greater, Less, Equal}
use Rattle.hp_word.specs.declared.endings.Trap.{Trap}
use Rattle.hp_word.specs.Bytes.{byte_at}
use Rattle.hp_session.specs.declared.places.Place.TheVariants.{Db}
use Rattle.hp_session.specs.State.{Machine, Outcome, then_with, word, taking, without, replaced, with_code, wrapped, passed}
use Rattle.hp_session.specs.Places.{read_at, byte_read, written, byte_written}
use Rattle.hp_memory_rows.specs.MemoryRows.{code_read}

-- the number after a in the direction of a count: upwards where the count is positive, downwards where it is negative
unfoldable pub onward : ℕ → ℕ → ℕ
onward count a = if nat_lt count 32768 then wrapped (a + 1) else wrapped (a + 65535)

-- a count one nearer to 0
unfoldable pub nearer : ℕ → ℕ
nearer count = if nat_lt count 32768 then wrapped (count + 65535) else wrapped (count + 1)

-- after one element: C and B go on, A comes nearer to 0. They are as before the element; m is as it left the rest
unfoldable pub element_done : ℕ → ℕ → ℕ → Machine → Machine
element_done c b a m = replaced 3 (onward a c ∷ onward a b ∷ nearer a ∷ []) m

-- the word, or the byte, that is moved: of the code, or of the data
unfoldable pub source_word : List (List ℕ) → Bool → ℕ → Machine → Result ℕ Trap
source_word segments code a m = if code then code_read segments a m else read_at (Db a) m

unfoldable pub source_byte : List (List ℕ) → Bool → ℕ → Machine → Result ℕ Trap
source_byte segments code b m =
    if code then then_with (code_read segments (b / 2) m) (λ w. Ok (byte_at b w)) else byte_read (Db b) m

-- MOVE: a word from B to C; at count 0 source and count are deleted
unfoldable pub words_moved : List (List ℕ) → Bool → Machine → Outcome
words_moved segments code m = taking 3 m (
    if word 0 m == 0 then Ok (passed (without 2 m)) else
    then_with (source_word segments code (word 1 m) m) (λ w.
    then_with (written (Db (word 2 m)) w m) (λ n.
    Ok (element_done (word 2 m) (word 1 m) (word 0 m) n))))

-- MVB: the same with bytes
unfoldable pub bytes_moved : List (List ℕ) → Bool → Machine → Outcome
bytes_moved segments code m = taking 3 m (
    if word 0 m == 0 then Ok (passed (without 2 m)) else
    then_with (source_byte segments code (word 1 m) m) (λ byte.
    then_with (byte_written (Db (word 2 m)) byte m) (λ n.
    Ok (element_done (word 2 m) (word 1 m) (word 0 m) n))))

-- letters and digits
abbrev pub is_small : ℕ → Bool
is_small byte = nat_le 97 byte && nat_le byte 122

abbrev pub is_letter : ℕ → Bool
is_letter byte = nat_le 65 byte && nat_le byte 90 || is_small byte

abbrev pub is_digit : ℕ → Bool
is_digit byte = nat_le 48 byte && nat_le byte 57

-- whether a byte is of MVBW's class: 1 in its number is for digits, 2 for letters
unfoldable pub is_of_class : ℕ → ℕ → Bool
is_of_class n byte = (n % 2 == 1) && is_digit byte || (n / 2 % 2 == 1) && is_letter byte

-- the byte as it is moved: with 4 in the number small letters become capitals
unfoldable pub as_moved : ℕ → ℕ → ℕ
as_moved n byte = if (n / 4 % 2 == 1) && is_small byte then byte - 32 else byte

-- MVBW: a byte of the class goes from A to B, and both addresses rise; another ends the move, and the source is deleted
unfoldable pub bytes_moved_while : ℕ → Machine → Outcome
bytes_moved_while n m = taking 2 m (
    then_with (byte_read (Db (word 0 m)) m) (λ byte.
    if not (is_of_class n byte) then Ok (passed (without 1 m)) else
    then_with (byte_written (Db (word 1 m)) (as_moved n byte) m) (λ k.
    Ok (replaced 2 (wrapped (word 1 m + 1) ∷ wrapped (word 0 m + 1) ∷ []) k))))

-- the byte at B is passed
abbrev pub byte_passed : Machine → Machine
byte_passed m = replaced 2 (wrapped (word 1 m + 1) ∷ word 0 m ∷ []) m

-- a scan ends: the test word is deleted; the carry says that the byte is its left half and not its right
unfoldable pub scan_ended : ℕ → Machine → Machine
scan_ended byte m = passed (record (without 1 m) {
  regs = record m.regs { carry = (byte == word 0 m / 256) && not (byte == word 0 m % 256) };
})

-- SCW: bytes that are the test word's right half are passed
unfoldable pub scanned_while : Machine → Outcome
scanned_while m = taking 2 m (
    then_with (byte_read (Db (word 1 m)) m) (λ byte.
    if byte == word 0 m % 256 then Ok (byte_passed m) else Ok (scan_ended byte m)))

-- SCU: bytes that are neither half are passed
unfoldable pub scanned_until : Machine → Outcome
scanned_until m = taking 2 m (
    then_with (byte_read (Db (word 1 m)) m) (λ byte.
    if (byte == word 0 m / 256) || (byte == word 0 m % 256) then Ok (scan_ended byte m) else Ok (byte_passed m)))

-- CMPB: the byte at C, of the data, against that at B, unsigned. At equal ones both go on; count 0 ends with CCE; each end
-- deletes the three words
unfoldable pub bytes_compared : List (List ℕ) → Bool → Machine → Outcome
bytes_compared segments code m = taking 3 m (
    if word 0 m == 0 then Ok (passed (with_code Equal (without 3 m))) else
    then_with (byte_read (Db (word 2 m)) m) (λ first.
    then_with (source_byte segments code (word 1 m) m) (λ second.
    if first == second then Ok (element_done (word 2 m) (word 1 m) (word 0 m) m) else
    Ok (passed (with_code (if nat_lt second first then Greater else Less) (without 3 m))))))

-- the row of each code of major 3 from 9 on; in MOVE, MVB and CMPB the number 1 is for a source in the code
unfoldable pub move_row : List (List ℕ) → ℕ → ℕ → Machine → Outcome
move_row segments which n m =
    if which == 9 then words_moved segments (n == 1) m else  -- MOVE
    if which == 10 then bytes_moved segments (n == 1) m else  -- MVB
    if which == 11 then bytes_moved_while n m else  -- MVBW
    if which == 12 then scanned_while m else  -- SCW
    if which == 13 then scanned_until m else  -- SCU
    bytes_compared segments (n == 1) m  -- CMPB
