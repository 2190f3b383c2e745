-- What each intrinsic leaves, in the words at the top of the stack: the parameters of a call, its bounds and its room.
use Rattle.std.proofs.Common.{◌≡◌, ℕ, ◌+◌, ◌-◌, ◌*◌, ◌/◌, ◌<◌, ◌≤◌, Bool, true, false, List, [], ◌∷◌, ◌++◌, length, map, drop, take, refl, ◌∙◌, arith, append-nil}
use Rattle.std.specs.Prelude.{◌==◌, ◌||◌, not, slice_index, slice_get, nat_lt, nat_le, if◌then◌else◌, Result, Ok, Err, Option, Some, None, negsuc}
use Rattle.std.proofs.lemmas.List.{get_or-drop, length-set, length-append, length-map, take_all}
use Rattle.std.proofs.lemmas.Bool.Decides.{nat_tests}
use Rattle.std.proofs.lemmas.Int.{ints}
use Rattle.hp_word.specs.declared.arithmetic.Code.TheVariants.{Greater, Less, Equal}
use Rattle.hp_word.specs.declared.endings.Ending.TheVariants.{Terminated, Quit as EndedWith}
use Rattle.hp_word.specs.declared.endings.Trap.{Trap}
use Rattle.hp_word.specs.declared.endings.Trap.TheVariants.{Bounds, OutputLimit, StackUnderflow}
use Rattle.hp_word.specs.declared.intrinsics.Intrinsic.{Intrinsic}
use Rattle.hp_word.specs.declared.intrinsics.Intrinsic.TheVariants.{Print, Read, Ascii, Dascii, Binary, Dbinary, Terminate, Quit}
use Rattle.hp_word.specs.declared.numbers.Number.{Number}
use Rattle.hp_word.specs.declared.numbers.Number.TheVariants.{Value, TooLarge, BadForm}
use Rattle.hp_word.specs.Words.{signed, signed_double, word_of}
use Rattle.hp_word.specs.Bytes.{double}
use Rattle.hp_word.specs.Texts.{number, decimal_text_of, octal_text_of, is_digits, digits_value, decimal_digits, octal_digits, decimal_number, octal_number, with_sign}
use Rattle.hp_word.proofs.WordLaws.{word_of-below}
use Rattle.hp_word.specs.Intrinsics as intrinsics
use Rattle.hp_word.specs.Intrinsics.{Effect, nothing, taken_words, parameter_words, is_in_bounds, has_room, outcome, addresses, stored_from, bytes_of_length, in_unit_of_length, print_call, read_call, ascii_call, dascii_call, binary_call, dbinary_call, terminate_call, quit_call, text_stored, unknown_base, number_answered, number_read}
use Rattle.hp_word.proofs.IntrinsicLaws.{is_in_bounds-reads, is_in_bounds-stores, is_in_bounds-nothing, length-addresses}
use Rattle.hp_session.specs.State.{Machine, then_with, word, without, replaced, with_code}
use Rattle.hp_call_rows.specs.GateRows.{stack_byte, with_stack_byte, with_bytes, effect, after_call, performed, text_answered, line_read, number_there, number_put}

-- stored bytes leave the number of words
pub length-with_bytes : (words : List ℕ) (stores : List (ℕ × ℕ)) → length (with_bytes words stores) ≡ length words
unfolding with_bytes
length-with_bytes words [] = refl
length-with_bytes words (s ∷ rest) =
    length-with_bytes (with_stack_byte words s.0 s.1) rest ∙ length-set words (s.0 / 2) _

-- a call that takes more words than there are
pub too_few : (i : Intrinsic) (m : Machine) → length m.stack < taken_words i → performed i m ≡ Err StackUnderflow
unfolding performed
too_few i m h = let e : nat_le (taken_words i) (length m.stack) ≡ false = grind (arith, nat_tests) in rw e refl

-- a call with enough words, by what it does and whether that is in bounds
pub performed_by : (i : Intrinsic) (m : Machine) (e : Effect) (fits : Bool) → taken_words i ≤ length m.stack → effect i m ≡ e
    → is_in_bounds (length m.stack) e ≡ fits
    → performed i m ≡ (if not fits then Err Bounds else if not (has_room (m.room - length m.printed) e) then Err OutputLimit else Ok (after_call (taken_words i) e m))
unfolding performed outcome
performed_by i m e fits enough is b =
    let t : nat_le (taken_words i) (length m.stack) ≡ true = grind (arith, nat_tests) in
    rw (t, is, b) (by fits (not (has_room (m.room - length m.printed) e))) where
      by : (f g : Bool) → then_with (if not f then Err Bounds else if g then Err OutputLimit else Ok e) (λ e. Ok (after_call (taken_words i) e m)) ≡ (if not f then Err Bounds else if g then Err OutputLimit else Ok (after_call (taken_words i) e m))
      by true true = refl
      by true false = refl
      by false g = refl

-- what prints nothing has room
quiet_room : (room : ℕ) (e : Effect) → e.prints ≡ [] → has_room room e ≡ true
unfolding has_room
quiet_room room e quiet = rw quiet (grind (arith, nat_tests))

-- so such a call has
pub quiet_by : (i : Intrinsic) (m : Machine) (e : Effect) (fits : Bool) → taken_words i ≤ length m.stack → effect i m ≡ e → e.prints ≡ []
    → is_in_bounds (length m.stack) e ≡ fits → performed i m ≡ (if not fits then Err Bounds else Ok (after_call (taken_words i) e m))
quiet_by i m e fits enough is quiet b = performed_by i m e fits enough is b ∙ rw (quiet_room (m.room - length m.printed) e quiet) refl

-- a parameter: the words from the first parameter on are the topmost
pub parameter : (xs : List ℕ) (count k depth : ℕ) → count ≤ length xs → k + depth + 1 ≡ count
    → slice_index (drop (length xs - count) xs) k ≡ slice_index xs (length xs - 1 - depth)
parameter xs count k depth enough is =
    let e : length xs - count + k ≡ length xs - 1 - depth = omega arith in get_or-drop (length xs - count) xs k 0 ∙ rw e refl

-- what stays of the stack: all but the words taken
kept_stack : (n : ℕ) (m : Machine) (e : Effect) → e.stores ≡ [] → take (length m.stack - n) (with_bytes m.stack e.stores) ≡ take (length m.stack - n) m.stack
unfolding with_bytes
kept_stack n m e none = rw none refl

-- TERMINATE
pub terminate_is : (m : Machine) → performed Terminate m ≡ Ok (record m { ending = Terminated })
unfolding intrinsics.called terminate_call after_call with_bytes
terminate_is m = quiet_by Terminate m terminate_call true zero_least refl refl (is_in_bounds-nothing (length m.stack) terminate_call refl refl)
    ∙ rw (append-nil m.printed, append-nil (take (length m.stack - 0) m.stack), whole) refl where
      zero_least : 0 ≤ length m.stack
      zero_least = grind arith

      whole : take (length m.stack - 0) m.stack ≡ m.stack
      whole = grind (arith, take_all)

-- QUIT
pub quit_is : (m : Machine) → 1 ≤ length m.stack → performed Quit m ≡ Ok (record (without 1 m) { ending = EndedWith (signed (word 0 m)) })
unfolding intrinsics.called quit_call after_call with_bytes
quit_is m h = quiet_by Quit m (quit_call (word 0 m)) true h (rw (parameter m.stack 1 0 0 h refl) refl) refl (is_in_bounds-nothing (length m.stack) (quit_call (word 0 m)) refl refl)
    ∙ rw (append-nil m.printed, append-nil (take (length m.stack - 1) m.stack)) refl

-- PRINT: the bytes, and then a line feed or none
pub print_is : (m : Machine) → 3 ≤ length m.stack → performed Print m ≡
    (let count = bytes_of_length (signed (word 1 m)) in
    let feed = if word 0 m == 0o320 then [] else 10 ∷ [] in
    if not ((count == 0) || nat_le (2 * word 2 m + count) (2 * length m.stack)) then Err Bounds else
    if not (nat_le (count + length feed) (m.room - length m.printed)) then Err OutputLimit else
    Ok (with_code Equal (replaced 3 [] (record m { printed = m.printed ++ (map (stack_byte m.stack) (addresses (2 * word 2 m) count) ++ feed) }))))
unfolding intrinsics.called print_call after_call with_bytes has_room
print_is m h =
    let count = bytes_of_length (signed (word 1 m)) in
    let feed = if word 0 m == 0o320 then [] else 10 ∷ [] in
    let read = addresses (2 * word 2 m) count in
    let bytes = map (stack_byte m.stack) read in
    let e = print_call (stack_byte m.stack) (word 2 m) (word 1 m) (word 0 m) in
    let many : length (bytes ++ feed) ≡ count + length feed = length-append bytes feed ∙ rw (length-map read (stack_byte m.stack), length-addresses (2 * word 2 m) count) refl in
    performed_by Print m e ((count == 0) || nat_le (2 * word 2 m + count) (2 * length m.stack)) h
    (rw (parameter m.stack 3 0 2 h refl, parameter m.stack 3 1 1 h refl, parameter m.stack 3 2 0 h refl) refl)
    (is_in_bounds-reads (length m.stack) (2 * word 2 m) count e refl refl)
    ∙ rw many refl

-- READ: what it does with the next line
read_by : (m : Machine) (next : Option (List ℕ)) → 3 ≤ length m.stack → slice_get m.lines m.next_line ≡ next → performed Read m ≡ line_read next m
unfolding intrinsics.called read_call after_call with_bytes
read_by m None h none =
    let e = record nothing { answer = 0 ∷ []; code = Some Greater } in
    quiet_by Read m e true h (rw none refl) refl (is_in_bounds-nothing (length m.stack) e refl refl)
    ∙ rw (append-nil m.printed) refl
read_by m (Some line) h some =
    let stored = take (bytes_of_length (signed (word 0 m))) line in
    let e = record nothing {
      stores = stored_from (2 * word 1 m) stored;
      takes_line = true;
      answer = in_unit_of_length (signed (word 0 m)) (length stored) ∷ [];
      code = Some Equal;
    } in
    let bounds = (length stored == 0) || nat_le (2 * word 1 m + length stored) (2 * length m.stack) in
    quiet_by Read m e bounds h (rw (some, parameter m.stack 2 0 1 (less h) refl, parameter m.stack 2 1 0 (less h) refl) refl) refl
    (is_in_bounds-stores (length m.stack) (2 * word 1 m) stored e refl refl)
    ∙ rw (append-nil m.printed, length-with_bytes m.stack (stored_from (2 * word 1 m) stored)) refl where
      less : 3 ≤ length m.stack → 2 ≤ length m.stack
      less h = omega arith

pub read_is : (m : Machine) → 3 ≤ length m.stack → performed Read m ≡ line_read (slice_get m.lines m.next_line) m
read_is m h = read_by m (slice_get m.lines m.next_line) h refl

-- ASCII and DASCII: a text that is stored, and an unknown base
text_by : (i : Intrinsic) (m : Machine) (array : ℕ) (text : List ℕ) → taken_words i ≤ length m.stack → effect i m ≡ text_stored array text
    → performed i m ≡ text_answered (taken_words i) array text m
unfolding after_call text_answered
text_by i m array text enough is =
    let bounds = (length text == 0) || nat_le (array + length text) (2 * length m.stack) in
    quiet_by i m (text_stored array text) bounds enough is refl (is_in_bounds-stores (length m.stack) array text (text_stored array text) refl refl)
    ∙ rw (append-nil m.printed, length-with_bytes m.stack (stored_from array text)) refl

base_by : (i : Intrinsic) (m : Machine) → taken_words i ≤ length m.stack → effect i m ≡ unknown_base
    → performed i m ≡ Ok (with_code Less (replaced (taken_words i) (0 ∷ []) m))
unfolding after_call with_bytes
base_by i m enough is =
    quiet_by i m unknown_base true enough is refl (is_in_bounds-nothing (length m.stack) unknown_base refl refl)
    ∙ rw (append-nil m.printed) refl

ascii_words : (m : Machine) → 4 ≤ length m.stack → effect Ascii m ≡ ascii_call (word 2 m) (word 1 m) (word 0 m)
unfolding intrinsics.called
ascii_words m h = rw (parameter m.stack 3 0 2 (less h) refl, parameter m.stack 3 1 1 (less h) refl, parameter m.stack 3 2 0 (less h) refl) refl where
  less : 4 ≤ length m.stack → 3 ≤ length m.stack
  less h = omega arith

pub ascii_ten : (m : Machine) → 4 ≤ length m.stack → word 1 m ≡ 10 → performed Ascii m ≡ text_answered 4 (word 0 m) (decimal_text_of (signed (word 2 m))) m
unfolding ascii_call
ascii_ten m h base = text_by Ascii m (word 0 m) (decimal_text_of (signed (word 2 m))) h (ascii_words m h ∙ rw base refl)

pub ascii_eight : (m : Machine) → 4 ≤ length m.stack → word 1 m ≡ 8 → performed Ascii m ≡ text_answered 4 (word 0 m) (octal_text_of 6 (word 2 m)) m
unfolding ascii_call
ascii_eight m h base = text_by Ascii m (word 0 m) (octal_text_of 6 (word 2 m)) h (ascii_words m h ∙ rw base refl)

pub ascii_other : (m : Machine) → 4 ≤ length m.stack → (word 1 m == 10) ≡ false → (word 1 m == 8) ≡ false → performed Ascii m ≡ Ok (with_code Less (replaced 4 (0 ∷ []) m))
unfolding ascii_call
ascii_other m h ten eight = base_by Ascii m h (ascii_words m h ∙ rw (ten, eight) refl)

dascii_words : (m : Machine) → 5 ≤ length m.stack → effect Dascii m ≡ dascii_call (double (word 3 m) (word 2 m)) (word 1 m) (word 0 m)
unfolding intrinsics.called
dascii_words m h = rw (parameter m.stack 4 0 3 (less h) refl, parameter m.stack 4 1 2 (less h) refl, parameter m.stack 4 2 1 (less h) refl, parameter m.stack 4 3 0 (less h) refl) refl where
  less : 5 ≤ length m.stack → 4 ≤ length m.stack
  less h = omega arith

pub dascii_ten : (m : Machine) → 5 ≤ length m.stack → word 1 m ≡ 10 → performed Dascii m ≡ text_answered 5 (word 0 m) (decimal_text_of (signed_double (double (word 3 m) (word 2 m)))) m
unfolding dascii_call
dascii_ten m h base = text_by Dascii m (word 0 m) (decimal_text_of (signed_double (double (word 3 m) (word 2 m)))) h (dascii_words m h ∙ rw base refl)

pub dascii_eight : (m : Machine) → 5 ≤ length m.stack → word 1 m ≡ 8 → performed Dascii m ≡ text_answered 5 (word 0 m) (octal_text_of 11 (double (word 3 m) (word 2 m))) m
unfolding dascii_call
dascii_eight m h base = text_by Dascii m (word 0 m) (octal_text_of 11 (double (word 3 m) (word 2 m))) h (dascii_words m h ∙ rw base refl)

pub dascii_other : (m : Machine) → 5 ≤ length m.stack → (word 1 m == 10) ≡ false → (word 1 m == 8) ≡ false → performed Dascii m ≡ Ok (with_code Less (replaced 5 (0 ∷ []) m))
unfolding dascii_call
dascii_other m h ten eight = base_by Dascii m h (dascii_words m h ∙ rw (ten, eight) refl)

-- BINARY and DBINARY
answered_quietly : (wide : Bool) (read : List ℕ) (k : Number) → (number_answered wide read k).prints ≡ []
answered_quietly wide read (Value n) = refl
answered_quietly wide read TooLarge = refl
answered_quietly wide read BadForm = refl

answered_reads : (wide : Bool) (read : List ℕ) (k : Number) → (number_answered wide read k).reads ≡ read
answered_reads wide read (Value n) = refl
answered_reads wide read TooLarge = refl
answered_reads wide read BadForm = refl

answered_stores : (wide : Bool) (read : List ℕ) (k : Number) → (number_answered wide read k).stores ≡ []
answered_stores wide read (Value n) = refl
answered_stores wide read TooLarge = refl
answered_stores wide read BadForm = refl

-- what the answer leaves
answered_after : (n : ℕ) (wide : Bool) (read : List ℕ) (k : Number) (m : Machine) → after_call n (number_answered wide read k) m ≡ number_put n wide k m
unfolding after_call with_bytes
answered_after n wide read (Value k) m = rw (append-nil m.printed) refl
answered_after n wide read TooLarge m = rw (append-nil m.printed) refl
answered_after n wide read BadForm m = rw (append-nil m.printed) refl

-- the number in a text whose length is not negative
number_small : (i : Intrinsic) (wide : Bool) (m : Machine) → taken_words i ≤ length m.stack
    → effect i m ≡ number_read (stack_byte m.stack) wide (word 1 m) (signed (word 0 m)) → nat_lt (word 0 m) 32768 ≡ true
    → performed i m ≡ then_with (number_there wide m) (λ k. Ok (number_put (taken_words i) wide k m))
unfolding number_there signed
number_small i wide m enough is small =
    let read = addresses (word 1 m) (word 0 m) in
    let k = number (map (stack_byte m.stack) read) wide in
    let e = number_answered wide read k in
    let fits = (word 0 m == 0) || nat_le (word 1 m + word 0 m) (2 * length m.stack) in
    quiet_by i m e fits enough (is ∙ rw small refl) (answered_quietly wide read k)
    (is_in_bounds-reads (length m.stack) (word 1 m) (word 0 m) e (answered_reads wide read k) (answered_stores wide read k))
    ∙ rw (answered_after (taken_words i) wide read k m, small) (by fits k) where
      by : (f : Bool) (k : Number) → (if not f then Err Bounds else Ok (number_put (taken_words i) wide k m)) ≡ then_with (if not f then Err Bounds else Ok k) (λ k. Ok (number_put (taken_words i) wide k m))
      by true k = refl
      by false k = refl

-- a negative length
negative : (w : ℕ) → w < 65536 → nat_lt w 32768 ≡ false → signed w ≡ negsuc (65535 - w)
unfolding signed
negative w h large = rw large (omega (arith, ints))

number_negative : (i : Intrinsic) (wide : Bool) (m : Machine) → taken_words i ≤ length m.stack → word 0 m < 65536
    → effect i m ≡ number_read (stack_byte m.stack) wide (word 1 m) (signed (word 0 m)) → nat_lt (word 0 m) 32768 ≡ false
    → performed i m ≡ then_with (number_there wide m) (λ k. Ok (number_put (taken_words i) wide k m))
unfolding number_there
number_negative i wide m enough word_fits is large =
    let e = number_answered wide [] BadForm in
    quiet_by i m e true enough (is ∙ rw (negative (word 0 m) word_fits large) refl) refl (is_in_bounds-nothing (length m.stack) e refl refl)
    ∙ rw (answered_after (taken_words i) wide [] BadForm m, large) refl

number_by : (i : Intrinsic) (wide : Bool) (m : Machine) → taken_words i ≤ length m.stack → word 0 m < 65536
    → effect i m ≡ number_read (stack_byte m.stack) wide (word 1 m) (signed (word 0 m))
    → performed i m ≡ then_with (number_there wide m) (λ k. Ok (number_put (taken_words i) wide k m))
number_by i wide m enough word_fits is = by (nat_lt (word 0 m) 32768) refl where
  by : (small : Bool) → nat_lt (word 0 m) 32768 ≡ small → performed i m ≡ then_with (number_there wide m) (λ k. Ok (number_put (taken_words i) wide k m))
  by true h = number_small i wide m enough is h
  by false h = number_negative i wide m enough word_fits is h

pub binary_is : (m : Machine) → 3 ≤ length m.stack → word 0 m < 65536 → performed Binary m ≡ then_with (number_there false m) (λ k. Ok (number_put 3 false k m))
unfolding intrinsics.called binary_call
binary_is m h word_fits = number_by Binary false m h word_fits (rw (parameter m.stack 2 0 1 (less h) refl, parameter m.stack 2 1 0 (less h) refl) refl) where
  less : 3 ≤ length m.stack → 2 ≤ length m.stack
  less h = omega arith

pub dbinary_is : (m : Machine) → 4 ≤ length m.stack → word 0 m < 65536 → performed Dbinary m ≡ then_with (number_there true m) (λ k. Ok (number_put 4 true k m))
unfolding intrinsics.called dbinary_call
dbinary_is m h word_fits = number_by Dbinary true m h word_fits (rw (parameter m.stack 2 0 1 (less h) refl, parameter m.stack 2 1 0 (less h) refl) refl) where
  less : 4 ≤ length m.stack → 2 ≤ length m.stack
  less h = omega arith

-- a number for a word fits into one
abbrev fits_word : Number → Type 0
fits_word (Value n) = n < 65536
fits_word TooLarge = 0 < 65536
fits_word BadForm = 0 < 65536

either_fits : (b : Bool) (x y : Number) → fits_word x → fits_word y → fits_word (if b then x else y)
either_fits true x y hx hy = hx
either_fits false x y hx hy = hy

octal_fits : (digits : List ℕ) → fits_word (octal_digits false digits)
unfolding octal_digits octal_number
octal_fits digits = either_fits (is_digits 8 digits) _ BadForm (by (nat_lt 65535 (digits_value 8 digits)) refl) (omega arith) where
  by : (b : Bool) → nat_lt 65535 (digits_value 8 digits) ≡ b → fits_word (if b then TooLarge else Value (digits_value 8 digits))
  by true h = omega arith
  by false h = grind (arith, nat_tests)

decimal_fits : (below_zero : Bool) (digits : List ℕ) → fits_word (decimal_digits false below_zero digits)
unfolding decimal_digits decimal_number
decimal_fits below_zero digits = either_fits (is_digits 10 digits) _ BadForm (either_fits _ TooLarge (Value (word_of (with_sign below_zero (digits_value 10 digits)))) (omega arith) (word_of-below (with_sign below_zero (digits_value 10 digits)))) (omega arith)

number_fits : (text : List ℕ) → fits_word (number text false)
unfolding number
number_fits [] = omega arith
number_fits (first ∷ rest) =
    either_fits (first == 37) _ _ (octal_fits rest) (either_fits (first == 43) _ _ (decimal_fits false rest)
    (either_fits (first == 45) _ _ (decimal_fits true rest) (decimal_fits false (first ∷ rest))))

-- a number as an answer
abbrev answered : Number → Result Number Trap
answered k = Ok k

-- so does one in the stack
pub small_number : (m : Machine) (n : ℕ) → number_there false m ≡ Ok (Value n) → n < 65536
unfolding number_there
small_number m n h = by (nat_lt (word 0 m) 32768) ((word 0 m == 0) || nat_le (word 1 m + word 0 m) (2 * length m.stack)) h where
  text : Number
  text = number (map (stack_byte m.stack) (addresses (word 1 m) (word 0 m))) false

  at_value : (k : Number) → fits_word k → k ≡ Value n → n < 65536
  at_value (Value j) f e = grind (arith)
  at_value TooLarge f e = cc
  at_value BadForm f e = cc

  ok_value : (k : Number) → answered k ≡ answered (Value n) → k ≡ Value n
  ok_value k e = cc

  by : (b f : Bool) → (if b then (if not f then Err Bounds else Ok text) else Ok BadForm) ≡ Ok (Value n) → n < 65536
  by true true e = at_value text (number_fits (map (stack_byte m.stack) (addresses (word 1 m) (word 0 m)))) (ok_value text e)
  by true false e = cc
  by false f e = cc

pub ruleset stored_lengths = length-with_bytes
