-- What an intrinsic answers and stores is of words and bytes.
use Rattle.std.proofs.Common.{ℕ, zero, suc, ◌≡◌, ◌<◌, ◌≤◌, ◌+◌, ◌*◌, ◌/◌, ◌%◌, ◌==◌, Bool, true, false, List, [], ◌∷◌, ◌++◌, length, Option, Some, None, refl, subst, arith, ℤ, pos, negsuc}
use Rattle.std.specs.Prelude.{◌||◌, if◌then◌else◌, nat_lt, int_lt, neg_ℤ, take, slice_get, slice_index}
use Rattle.std.proofs.lemmas.Int.{ints}
use Rattle.std.proofs.lemmas.Bool.Decides.{nat_tests}
use Rattle.std.proofs.lemmas.Bool.{ltb-false}
use Rattle.std.proofs.lemmas.Fmt.{IsAscii-signed}
use Rattle.std.specs.Fmt.{signed_decimal}
use Rattle.spl_meaning.specs.hp_word.declared.intrinsics.Intrinsic.{Intrinsic}
use Rattle.spl_meaning.specs.hp_word.declared.intrinsics.Intrinsic.TheVariants as which
use Rattle.spl_meaning.specs.hp_word.declared.numbers.Number.{Number}
use Rattle.spl_meaning.specs.hp_word.declared.numbers.Number.TheVariants.{Value, TooLarge, BadForm}
use Rattle.spl_meaning.specs.hp_word.Words.{signed, signed_double, word_of, double_of}
use Rattle.spl_meaning.specs.hp_word.Bytes.{double, high_word, low_word}
use Rattle.spl_meaning.specs.hp_word.Texts.{decimal_text_of, octal_text_of, is_digits, digits_value, with_sign, decimal_number, octal_number, decimal_digits, octal_digits, number}
use Rattle.spl_meaning.specs.hp_word.Intrinsics as gate
use Rattle.spl_meaning.proofs.hp_word_proofs.WordLaws.{word_of-below, double_of-below}
use Rattle.spl_meaning.proofs.hp_word_proofs.ByteLaws.{with_byte-below}
use Rattle.spl_meaning.proofs.hp_word_proofs.TextLemmas.{length-decimal-short, length-octal_text_of}
use Rattle.spl_meaning.specs.Serving.{byte_of}
use Rattle.spl_meaning.specs.Runs.{AreBytes, LinesAreBytes}
use Rattle.spl_frames.specs.Words.{AllOf, AreWords}
use Rattle.spl_frames.proofs.Steady.{BytesOf, Knowledge}

-- a word
abbrev pub IsWord : ℕ → Type 0
IsWord w = w < 65536

word_at : (ws : List ℕ) (i : ℕ) → AreWords ws → slice_index ws i < 65536
word_at [] i h = omega arith
word_at (w ∷ ws) zero h = h.0
word_at (w ∷ ws) (suc i) h = word_at ws i h.1

-- ---- bytes

bytes_append : (xs ys : List ℕ) → AreBytes xs → AreBytes ys → AreBytes (xs ++ ys)
bytes_append [] ys p q = q
bytes_append (x ∷ xs) ys p q = (p.0, bytes_append xs ys p.1 q)

bytes_take : (n : ℕ) (bs : List ℕ) → AreBytes bs → AreBytes (take n bs)
bytes_take zero bs p = tt
bytes_take (suc n) [] p = tt
bytes_take (suc n) (b ∷ bs) p = (p.0, bytes_take n bs p.1)

take_at_most : (n : ℕ) (bs : List ℕ) → length (take n bs) ≤ n
take_at_most zero bs = omega arith
take_at_most (suc n) [] = omega arith
take_at_most (suc n) (b ∷ bs) = let l = take_at_most n bs in omega (arith, l)

bytes_ascii : (bs : List ℕ) → ((i : ℕ) → slice_index bs i < 128) → AreBytes bs
bytes_ascii [] h = tt
bytes_ascii (b ∷ bs) h = let l : b < 128 = h 0 in (omega (arith, l), bytes_ascii bs (λ i. h (suc i)))

bytes_octal : (k n : ℕ) → AreBytes (octal_text_of k n)
unfolding octal_text_of
bytes_octal zero n = tt
bytes_octal (suc k) n = bytes_append (octal_text_of k (n / 8)) ((48 + n % 8) ∷ []) (bytes_octal k (n / 8)) (omega arith, tt)

-- bytes that are stored from an address on
stored_bytes : (first : ℕ) (bs : List ℕ) → AreBytes bs → BytesOf IsWord (gate.stored_from first bs)
unfolding gate.stored_from
stored_bytes first [] p = tt
stored_bytes first (b ∷ bs) p = (λ w l. with_byte-below first b w p.0 l, stored_bytes (suc first) bs p.1)

pub line_bytes : (ls : List (List ℕ)) (i : ℕ) (l : List ℕ) → LinesAreBytes ls → slice_get ls i ≡ Some l → AreBytes l
line_bytes [] i l p e = cc
line_bytes (x ∷ ls) zero l p e = let q : x ≡ l = cc in subst AreBytes q p.0
line_bytes (x ∷ ls) (suc i) l p e = line_bytes ls i l p.1 e

-- ---- numbers with their signs

-- a whole number of words or bytes that a word may say
abbrev Measure : ℤ → Type 0
Measure (pos n) = n < 65536
Measure (negsuc n) = n < 65535

signed_above : (w n : ℕ) → w < 65536 → signed w ≡ pos n → n < 65536
unfolding signed
signed_above w n l e = grind (arith, ints, nat_tests)

signed_below : (w n : ℕ) → w < 65536 → signed w ≡ negsuc n → n < 65535
unfolding signed
signed_below w n l e = grind (arith, ints, nat_tests)

signed_measure : (w : ℕ) → w < 65536 → Measure (signed w)
signed_measure w l = by (signed w) refl
  where
    by : (z : ℤ) → signed w ≡ z → Measure z
    by (pos n) e = signed_above w n l e
    by (negsuc n) e = signed_below w n l e

-- and one that a double may say
abbrev Wide : ℤ → Type 0
Wide (pos n) = n < 4294967296
Wide (negsuc n) = n < 4294967295

wide_of : (z : ℤ) → Measure z → Wide z
wide_of (pos n) m = omega (arith, m)
wide_of (negsuc n) m = omega (arith, m)

double_above : (d n : ℕ) → d < 4294967296 → signed_double d ≡ pos n → n < 4294967296
unfolding signed_double
double_above d n l e = grind (arith, ints, nat_tests)

double_beneath : (d n : ℕ) → d < 4294967296 → signed_double d ≡ negsuc n → n < 4294967295
unfolding signed_double
double_beneath d n l e = grind (arith, ints, nat_tests)

double_measure : (d : ℕ) → d < 4294967296 → Wide (signed_double d)
double_measure d l = by (signed_double d) refl
  where
    by : (z : ℤ) → signed_double d ≡ z → Wide z
    by (pos n) e = double_above d n l e
    by (negsuc n) e = double_beneath d n l e

-- its decimal text
decimal_bytes : (z : ℤ) → Wide z → AreBytes (decimal_text_of z)
decimal_bytes (pos n) m = bytes_ascii (signed_decimal (pos n)) (IsAscii-signed (pos n) (omega (arith, m)))
decimal_bytes (negsuc n) m = bytes_ascii (signed_decimal (negsuc n)) (IsAscii-signed (negsuc n) (omega (arith, m)))

decimal_length : (z : ℤ) → Wide z → length (decimal_text_of z) < 65536
decimal_length (pos n) m = let l = length-decimal-short n (omega (arith, m)) in omega (arith, l)
decimal_length (negsuc n) m = let l = length-decimal-short (suc n) (omega (arith, m)) in omega (arith, l)

-- ---- what a call answers and stores

abbrev Right : gate.Effect → Type 0
Right e = AllOf IsWord e.answer × BytesOf IsWord e.stores

-- as many bytes as a measure says, at most, in its unit
in_unit : (z : ℤ) (count : ℕ) → Measure z → count ≤ gate.bytes_of_length z → gate.in_unit_of_length z count < 65536
in_unit (pos n) count m l = omega (arith, m, l)
in_unit (negsuc n) count m l = omega (arith, m, l)

read_right : (line : Option (List ℕ)) (array size : ℕ) → ((l : List ℕ) → line ≡ Some l → AreBytes l) → size < 65536 → Right (gate.read_call line array size)
unfolding gate.read_call
read_right None array size h l = ((omega arith, tt), tt)
read_right (Some bs) array size h l =
    let stored = take (gate.bytes_of_length (signed size)) bs in (
      (in_unit (signed size) (length stored) (signed_measure size l) (take_at_most (gate.bytes_of_length (signed size)) bs), tt),
      stored_bytes (2 * array) stored (bytes_take (gate.bytes_of_length (signed size)) bs (h bs refl)),
    )

text_right : (array : ℕ) (text : List ℕ) → AreBytes text → length text < 65536 → Right (gate.text_stored array text)
text_right array text p l = ((l, tt), stored_bytes array text p)

right_if : (t : Bool) (e f : gate.Effect) → Right e → Right f → Right (if t then e else f)
right_if true e f p q = p
right_if false e f p q = q

base_right : Right gate.unknown_base
base_right = ((omega arith, tt), tt)

ascii_right : (w base array : ℕ) → w < 65536 → Right (gate.ascii_call w base array)
unfolding gate.ascii_call
ascii_right w base array l =
    let m = wide_of (signed w) (signed_measure w l) in
    let o = length-octal_text_of 6 w in
    right_if (base == 10) (gate.text_stored array (decimal_text_of (signed w)))
    (if base == 8 then gate.text_stored array (octal_text_of 6 w) else gate.unknown_base)
    (text_right array (decimal_text_of (signed w)) (decimal_bytes (signed w) m) (decimal_length (signed w) m))
    (right_if (base == 8) (gate.text_stored array (octal_text_of 6 w)) gate.unknown_base
    (text_right array (octal_text_of 6 w) (bytes_octal 6 w) (omega (arith, o))) base_right)

dascii_right : (d base array : ℕ) → d < 4294967296 → Right (gate.dascii_call d base array)
unfolding gate.dascii_call
dascii_right d base array l =
    let m = double_measure d l in
    let o = length-octal_text_of 11 d in
    right_if (base == 10) (gate.text_stored array (decimal_text_of (signed_double d)))
    (if base == 8 then gate.text_stored array (octal_text_of 11 d) else gate.unknown_base)
    (text_right array (decimal_text_of (signed_double d)) (decimal_bytes (signed_double d) m) (decimal_length (signed_double d) m))
    (right_if (base == 8) (gate.text_stored array (octal_text_of 11 d)) gate.unknown_base
    (text_right array (octal_text_of 11 d) (bytes_octal 11 d) (omega (arith, o))) base_right)

-- a number of so many words
abbrev Fitting : Bool → Number → Type 0
Fitting true (Value n) = n < 4294967296
Fitting false (Value n) = n < 65536
Fitting wide TooLarge = Unit {0}
Fitting wide BadForm = Unit {0}

fitting_if : (wide t : Bool) (a b : Number) → Fitting wide a → Fitting wide b → Fitting wide (if t then a else b)
fitting_if wide true a b p q = p
fitting_if wide false a b p q = q

large : (wide : Bool) → Fitting wide TooLarge
large true = tt
large false = tt

bad : (wide : Bool) → Fitting wide BadForm
bad true = tt
bad false = tt

none_at_all : (wide : Bool) → Fitting wide (Value 0)
none_at_all true = omega arith
none_at_all false = omega arith

decimal_fits : (wide : Bool) (z : ℤ) → Fitting wide (decimal_number wide z)
unfolding decimal_number
decimal_fits false z =
    fitting_if false (int_lt z (neg_ℤ (pos 32768)) || int_lt (pos 65535) z) TooLarge (Value (word_of z)) tt (word_of-below z)
decimal_fits true z =
    fitting_if true (int_lt z (neg_ℤ (pos 2147483648)) || int_lt (pos 2147483647) z) TooLarge (Value (double_of z)) tt (double_of-below z)

octal_fits : (wide : Bool) (n : ℕ) → Fitting wide (octal_number wide n)
unfolding octal_number
octal_fits false n = by (nat_lt 65535 n) refl
  where
    by : (t : Bool) → nat_lt 65535 n ≡ t → Fitting false (if t then TooLarge else Value n)
    by true e = tt
    by false e = let l = ltb-false 65535 n e in omega (arith, l)
octal_fits true n = by (nat_lt 4294967295 n) refl
  where
    by : (t : Bool) → nat_lt 4294967295 n ≡ t → Fitting true (if t then TooLarge else Value n)
    by true e = tt
    by false e = let l = ltb-false 4294967295 n e in omega (arith, l)

decimal_digits_fit : (wide negative : Bool) (ds : List ℕ) → Fitting wide (decimal_digits wide negative ds)
unfolding decimal_digits
decimal_digits_fit wide negative ds =
    fitting_if wide (is_digits 10 ds) (decimal_number wide (with_sign negative (digits_value 10 ds))) BadForm
    (decimal_fits wide (with_sign negative (digits_value 10 ds))) (bad wide)

octal_digits_fit : (wide : Bool) (ds : List ℕ) → Fitting wide (octal_digits wide ds)
unfolding octal_digits
octal_digits_fit wide ds = fitting_if wide (is_digits 8 ds) (octal_number wide (digits_value 8 ds)) BadForm (octal_fits wide (digits_value 8 ds)) (bad wide)

number_fits : (text : List ℕ) (wide : Bool) → Fitting wide (number text wide)
unfolding number
number_fits [] wide = none_at_all wide
number_fits (first ∷ rest) wide =
    fitting_if wide (first == 37) (octal_digits wide rest) _ (octal_digits_fit wide rest)
    (fitting_if wide (first == 43) (decimal_digits wide false rest) _ (decimal_digits_fit wide false rest)
    (fitting_if wide (first == 45) (decimal_digits wide true rest) _ (decimal_digits_fit wide true rest)
    (decimal_digits_fit wide false (first ∷ rest))))

number_words_right : (wide : Bool) (n : ℕ) → Fitting wide (Value n) → AllOf IsWord (gate.number_words wide n)
unfolding high_word low_word
number_words_right true n l = (omega (arith, l), (omega arith, tt))
number_words_right false n l = (l, tt)

answered_right : (wide : Bool) (read : List ℕ) (x : Number) → Fitting wide x → Right (gate.number_answered wide read x)
answered_right wide read (Value n) l = (number_words_right wide n l, tt)
answered_right wide read TooLarge l = (number_words_right wide 0 (none_at_all wide), tt)
answered_right wide read BadForm l = (number_words_right wide 0 (none_at_all wide), tt)

number_right : (byte : ℕ → ℕ) (wide : Bool) (array : ℕ) (z : ℤ) → Right (gate.number_read byte wide array z)
number_right byte wide array (pos size) = answered_right wide _ _ (number_fits _ wide)
number_right byte wide array (negsuc n) = answered_right wide [] BadForm (bad wide)

double_below : (h l : ℕ) → h < 65536 → l < 65536 → double h l < 4294967296
unfolding double
double_below h l p q = omega (arith, p, q)

pub called_right : (byte : ℕ → ℕ) (line : Option (List ℕ)) (i : Intrinsic) (ws : List ℕ) → ((l : List ℕ) → line ≡ Some l → AreBytes l) → AreWords ws
    → Right (gate.called byte line i ws)
unfolding gate.called gate.print_call gate.binary_call gate.dbinary_call gate.terminate_call gate.quit_call
called_right byte line which.Print ws h p = (tt, tt)
called_right byte line which.Read ws h p = read_right line (slice_index ws 0) (slice_index ws 1) h (word_at ws 1 p)
called_right byte line which.Ascii ws h p = ascii_right (slice_index ws 0) (slice_index ws 1) (slice_index ws 2) (word_at ws 0 p)
called_right byte line which.Dascii ws h p =
    dascii_right (double (slice_index ws 0) (slice_index ws 1)) (slice_index ws 2) (slice_index ws 3)
    (double_below (slice_index ws 0) (slice_index ws 1) (word_at ws 0 p) (word_at ws 1 p))
called_right byte line which.Binary ws h p = number_right byte false (slice_index ws 0) (signed (slice_index ws 1))
called_right byte line which.Dbinary ws h p = number_right byte true (slice_index ws 0) (signed (slice_index ws 1))
called_right byte line which.Terminate ws h p = (tt, tt)
called_right byte line which.Quit ws h p = (tt, tt)

-- ---- what is known of words: they are below 65,536, and lines are bytes

abbrev pub sixteen_bits : Knowledge
sixteen_bits = record {
  W = IsWord;
  L = LinesAreBytes;
  small = λ n l. l;
  less = λ w n p l. omega (arith, p, l);
  byte = λ a b w p. with_byte-below a (b % 256) w (omega arith) p;
  answer = λ d i ws h p. (called_right (byte_of d.mem) (slice_get d.lines d.taken) i ws (λ l e. line_bytes d.lines d.taken l h.lines e) p).0;
  stores = λ d i ws h p. (called_right (byte_of d.mem) (slice_get d.lines d.taken) i ws (λ l e. line_bytes d.lines d.taken l h.lines e) p).1;
}
