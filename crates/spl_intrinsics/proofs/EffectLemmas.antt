-- What a call does depends on the bytes that it reads alone: where two memories agree on these, it does the same.
use Rattle.std.proofs.Common.{◌≡◌, ℕ, ◌+◌, ◌/◌, ◌<◌, ◌≤◌, ◌*◌, ◌==◌, Bool, true, false, List, [], ◌∷◌, ◌++◌, map, length, Option, None, Some, refl, sym, ap, ◌∙◌, arith, ℤ, pos, negsuc}
use Rattle.std.specs.Prelude.{if◌then◌else◌, nat_lt, is_some, slice_index}
use Rattle.std.proofs.lemmas.Bool.{and_parts, and_from, false≢true, ltb-true, lt-ltb}
use Rattle.spl_statement_code.specs.hp_word.declared.arithmetic.Code.TheVariants.{Equal}
use Rattle.spl_statement_code.specs.hp_word.declared.endings.Ending.TheVariants.{Running}
use Rattle.spl_statement_code.specs.hp_word.declared.intrinsics.Intrinsic.{Intrinsic}
use Rattle.spl_statement_code.specs.hp_word.declared.intrinsics.Intrinsic.TheVariants as which
use Rattle.spl_statement_code.specs.hp_word.declared.numbers.Number.{Number}
use Rattle.spl_statement_code.specs.hp_word.declared.numbers.Number.TheVariants.{Value, TooLarge, BadForm}
use Rattle.spl_statement_code.specs.hp_word.Bytes.{byte_at, double}
use Rattle.spl_statement_code.specs.hp_word.Texts.{number, decimal_text_of, octal_text_of}
use Rattle.spl_statement_code.specs.hp_word.Words.{signed, signed_double}
use Rattle.spl_statement_code.specs.hp_word.Intrinsics as gate
use Rattle.spl_statement_code.specs.hp_word.Intrinsics.{Effect, addresses, bytes_of_length, called, answer_words, is_in_bounds}
use Rattle.spl_endings.specs.hp_call_rows.GateRows.{stack_byte}
use Rattle.spl_statement_code.specs.spl_meaning.Places.{word_or_zero}
use Rattle.spl_statement_code.specs.spl_meaning.Serving.{byte_of, touched, all_below, all_data}
use Rattle.spl_intrinsics.specs.Laws.{is_answered}

-- ---- numbers that are read

-- what is read, whatever comes of it
answered_reads : (wide : Bool) (read : List ℕ) (x : Number) → (gate.number_answered wide read x).reads ≡ read
answered_reads wide read (Value n) = refl
answered_reads wide read TooLarge = refl
answered_reads wide read BadForm = refl

answered_stores : (wide : Bool) (read : List ℕ) (x : Number) → (gate.number_answered wide read x).stores ≡ []
answered_stores wide read (Value n) = refl
answered_stores wide read TooLarge = refl
answered_stores wide read BadForm = refl

answered_runs : (wide : Bool) (read : List ℕ) (x : Number) → (gate.number_answered wide read x).ending ≡ Running
answered_runs wide read (Value n) = refl
answered_runs wide read TooLarge = refl
answered_runs wide read BadForm = refl

words_count : (wide : Bool) (n : ℕ) → length (gate.number_words wide n) ≡ (if wide then 2 else 1)
words_count true n = refl
words_count false n = refl

answered_wide : (wide : Bool) (read : List ℕ) (x : Number) → length (gate.number_answered wide read x).answer ≡ (if wide then 2 else 1)
answered_wide wide read (Value n) = words_count wide n
answered_wide wide read TooLarge = words_count wide 0
answered_wide wide read BadForm = words_count wide 0

-- ---- what two memories have in common

-- a call touches the same bytes in both
pub record Alike (e f : Effect) : Type 0 where
  pub reads : e.reads ≡ f.reads
  pub stores : e.stores ≡ f.stores

number_alike : (a b : ℕ → ℕ) (wide : Bool) (array : ℕ) (z : ℤ) → Alike (gate.number_read a wide array z) (gate.number_read b wide array z)
number_alike a b wide array (pos size) =
    let read = addresses array size in
    record {
      reads = answered_reads wide read (number (map a read) wide) ∙ sym (answered_reads wide read (number (map b read) wide));
      stores = answered_stores wide read (number (map a read) wide) ∙ sym (answered_stores wide read (number (map b read) wide));
    }
number_alike a b wide array (negsuc n) = record { reads = refl; stores = refl }

pub calls_alike : (a b : ℕ → ℕ) (line : Option (List ℕ)) (i : Intrinsic) (ws : List ℕ) → Alike (called a line i ws) (called b line i ws)
unfolding called gate.print_call gate.binary_call gate.dbinary_call
calls_alike a b line which.Print ws = record { reads = refl; stores = refl }
calls_alike a b line which.Read ws = record { reads = refl; stores = refl }
calls_alike a b line which.Ascii ws = record { reads = refl; stores = refl }
calls_alike a b line which.Dascii ws = record { reads = refl; stores = refl }
calls_alike a b line which.Binary ws = number_alike a b false (slice_index ws 0) (signed (slice_index ws 1))
calls_alike a b line which.Dbinary ws = number_alike a b true (slice_index ws 0) (signed (slice_index ws 1))
calls_alike a b line which.Terminate ws = record { reads = refl; stores = refl }
calls_alike a b line which.Quit ws = record { reads = refl; stores = refl }

number_same : (a b : ℕ → ℕ) (wide : Bool) (array : ℕ) (z : ℤ)
    → map a (gate.number_read a wide array z).reads ≡ map b (gate.number_read a wide array z).reads
    → gate.number_read a wide array z ≡ gate.number_read b wide array z
number_same a b wide array (pos size) e =
    let read = addresses array size in
    let is = answered_reads wide read (number (map a read) wide) in
    ap (λ (bs : List ℕ). gate.number_answered wide read (number bs wide))
    (ap (λ (xs : List ℕ). map a xs) (sym is) ∙ e ∙ ap (λ (xs : List ℕ). map b xs) is)
number_same a b wide array (negsuc n) e = refl

-- where the bytes that it reads are the same, it does the same
pub calls_same : (a b : ℕ → ℕ) (line : Option (List ℕ)) (i : Intrinsic) (ws : List ℕ)
    → map a (called a line i ws).reads ≡ map b (called a line i ws).reads → called a line i ws ≡ called b line i ws
unfolding called gate.print_call gate.binary_call gate.dbinary_call
calls_same a b line which.Print ws e =
    let read = addresses (2 * slice_index ws 0) (bytes_of_length (signed (slice_index ws 1))) in
    ap (λ (bs : List ℕ). record gate.nothing { reads = read; prints = bs ++ (if slice_index ws 2 == 0o320 then [] else 10 ∷ []); code = Some Equal }) e
calls_same a b line which.Read ws e = refl
calls_same a b line which.Ascii ws e = refl
calls_same a b line which.Dascii ws e = refl
calls_same a b line which.Binary ws e = number_same a b false (slice_index ws 0) (signed (slice_index ws 1)) e
calls_same a b line which.Dbinary ws e = number_same a b true (slice_index ws 0) (signed (slice_index ws 1)) e
calls_same a b line which.Terminate ws e = refl
calls_same a b line which.Quit ws e = refl

-- ---- those that answer

-- what an answer has: so many words, and the session goes on
pub record Answers (i : Intrinsic) (e : Effect) : Type 0 where
  pub runs : e.ending ≡ Running
  pub wide : length e.answer ≡ answer_words i

text_if : (t : Bool) (i : Intrinsic) (e f : Effect) → Answers i e → Answers i f → Answers i (if t then e else f)
text_if true i e f x y = x
text_if false i e f x y = y

read_answers : (line : Option (List ℕ)) (array size : ℕ) → Answers which.Read (gate.read_call line array size)
unfolding gate.read_call
read_answers None array size = record { runs = refl; wide = refl }
read_answers (Some bs) array size = record { runs = refl; wide = refl }

number_answers : (a : ℕ → ℕ) (i : Intrinsic) (wide : Bool) (array : ℕ) (z : ℤ) → (if wide then 2 else 1) ≡ answer_words i
    → Answers i (gate.number_read a wide array z)
number_answers a i wide array (pos size) e =
    let read = addresses array size in
    let x = number (map a read) wide in
    record { runs = answered_runs wide read x; wide = answered_wide wide read x ∙ e }
number_answers a i wide array (negsuc n) e = record { runs = refl; wide = answered_wide wide [] BadForm ∙ e }

pub calls_answer : (a : ℕ → ℕ) (line : Option (List ℕ)) (i : Intrinsic) (ws : List ℕ) → is_answered i ≡ true → Answers i (called a line i ws)
unfolding called gate.print_call gate.ascii_call gate.dascii_call gate.binary_call gate.dbinary_call
calls_answer a line which.Print ws h = record { runs = refl; wide = refl }
calls_answer a line which.Read ws h = read_answers line (slice_index ws 0) (slice_index ws 1)
calls_answer a line which.Ascii ws h =
    let base = slice_index ws 1 in
    let array = slice_index ws 2 in
    let w = slice_index ws 0 in
    text_if (base == 10) which.Ascii (gate.text_stored array (decimal_text_of (signed w)))
    (if base == 8 then gate.text_stored array (octal_text_of 6 w) else gate.unknown_base) (record { runs = refl; wide = refl })
    (text_if (base == 8) which.Ascii (gate.text_stored array (octal_text_of 6 w)) gate.unknown_base (record { runs = refl; wide = refl })
    (record { runs = refl; wide = refl }))
calls_answer a line which.Dascii ws h =
    let base = slice_index ws 2 in
    let array = slice_index ws 3 in
    let d = double (slice_index ws 0) (slice_index ws 1) in
    text_if (base == 10) which.Dascii (gate.text_stored array (decimal_text_of (signed_double d)))
    (if base == 8 then gate.text_stored array (octal_text_of 11 d) else gate.unknown_base) (record { runs = refl; wide = refl })
    (text_if (base == 8) which.Dascii (gate.text_stored array (octal_text_of 11 d)) gate.unknown_base (record { runs = refl; wide = refl })
    (record { runs = refl; wide = refl }))
calls_answer a line which.Binary ws h = number_answers a which.Binary false (slice_index ws 0) (signed (slice_index ws 1)) refl
calls_answer a line which.Dbinary ws h = number_answers a which.Dbinary true (slice_index ws 0) (signed (slice_index ws 1)) refl
calls_answer a line which.Terminate ws h = absurd (false≢true h)
calls_answer a line which.Quit ws h = absurd (false≢true h)

-- ---- bounds

-- a call is within bounds where the words of all bytes that it touches are below the limit
pub bounds_are : (limit : ℕ) (e : Effect) → is_in_bounds limit e ≡ all_below limit (touched e)
unfolding is_in_bounds
bounds_are limit e = refl

-- what is below a limit is below a higher one
pub below_more : (a b : ℕ) (bs : List ℕ) → a ≤ b → all_below a bs ≡ true → all_below b bs ≡ true
below_more a b [] l h = refl
below_more a b (x ∷ bs) l h =
    let two = and_parts (nat_lt (x / 2) a) (all_below a bs) h in
    let low = ltb-true (x / 2) a two.0 in
    and_from (nat_lt (x / 2) b) (all_below b bs) (lt-ltb (x / 2) b (omega (arith, low, l))) (below_more a b bs l two.1)

-- so what is not below the higher one is not below the lower
pub not_below : (a b : ℕ) (bs : List ℕ) → a ≤ b → all_below b bs ≡ false → all_below a bs ≡ false
not_below a b bs l h = by (all_below a bs) refl where
  by : (t : Bool) → all_below a bs ≡ t → all_below a bs ≡ false
  by true e = absurd (false≢true (sym h ∙ below_more a b bs l e))
  by false e = e

some_word : (o : Option ℕ) → is_some o ≡ true → (v : ℕ) × (o ≡ Some v)
some_word (Some v) h = (v, refl)
some_word None h = absurd (false≢true h)

-- bytes of data words, which are below the frame's top
pub data_below : (mem : ℕ → Option ℕ) (top n : ℕ) (bs : List ℕ) → ((a v : ℕ) → mem a ≡ Some v → a < top) → top ≤ n → all_data mem bs ≡ true
    → all_below n bs ≡ true
data_below mem top n [] low l h = refl
data_below mem top n (b ∷ bs) low l h =
    let two = and_parts (is_some (mem (b / 2))) (all_data mem bs) h in
    let w = some_word (mem (b / 2)) two.0 in
    let below = low (b / 2) w.0 w.1 in
    and_from (nat_lt (b / 2) n) (all_below n bs) (lt-ltb (b / 2) n (omega (arith, below, l))) (data_below mem top n bs low l two.1)

-- they are those of the stack
pub bytes_agree : (mem : ℕ → Option ℕ) (stack bs : List ℕ) → ((a v : ℕ) → mem a ≡ Some v → slice_index stack a ≡ v) → all_data mem bs ≡ true
    → map (byte_of mem) bs ≡ map (stack_byte stack) bs
bytes_agree mem stack [] holds h = refl
bytes_agree mem stack (b ∷ bs) holds h =
    let two = and_parts (is_some (mem (b / 2))) (all_data mem bs) h in
    let w = some_word (mem (b / 2)) two.0 in
    ap (λ (o : Option ℕ). byte_at b (word_or_zero o) ∷ map (byte_of mem) bs) w.1
    ∙ ap (λ (v : ℕ). byte_at b v ∷ map (byte_of mem) bs) (sym (holds (b / 2) w.0 w.1))
    ∙ ap (λ (xs : List ℕ). stack_byte stack b ∷ xs) (bytes_agree mem stack bs holds two.1)

-- both parts of what is touched are data words
pub data_parts : (mem : ℕ → Option ℕ) (xs ys : List ℕ) → all_data mem (xs ++ ys) ≡ true → (all_data mem xs ≡ true) × (all_data mem ys ≡ true)
data_parts mem [] ys h = (refl, h)
data_parts mem (x ∷ xs) ys h =
    let two = and_parts (is_some (mem (x / 2))) (all_data mem (xs ++ ys)) h in
    let rest = data_parts mem xs ys two.1 in
    (and_from (is_some (mem (x / 2))) (all_data mem xs) two.0 rest.0, rest.1)
