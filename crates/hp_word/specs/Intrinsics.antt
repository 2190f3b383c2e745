-- What a call of each intrinsic does, on words and bytes alone: neither a machine nor a source is part of it.
-- Addresses of bytes are whole numbers that go upwards and never wrap; byte b is in word b / 2.
use Rattle.std.specs.Prelude.{ℕ, zero, suc, ◌+◌, ◌*◌, ◌/◌, ℤ, pos, negsuc, Bool, true, false, not, ◌==◌, nat_lt, nat_le, if◌then◌else◌, List, [], ◌∷◌, ◌++◌, map, take, length, slice_index}
use Rattle.std.specs.List.{list_all}
use Rattle.std.specs.declared.option.Option.{Option}
use Rattle.std.specs.declared.option.Option.TheVariants.{Some, None}
use Rattle.std.specs.declared.result.Result.{Result}
use Rattle.std.specs.declared.result.Result.TheVariants.{Ok, Err}
use Rattle.hp_word.specs.declared.arithmetic.Code.{Code}
use Rattle.hp_word.specs.declared.arithmetic.Code.TheVariants.{Greater, Less, Equal}
use Rattle.hp_word.specs.declared.endings.Ending.{Ending}
use Rattle.hp_word.specs.declared.endings.Ending.TheVariants.{Running, Terminated, Quit}
use Rattle.hp_word.specs.declared.endings.Trap.{Trap}
use Rattle.hp_word.specs.declared.endings.Trap.TheVariants.{Bounds, OutputLimit}
use Rattle.hp_word.specs.declared.intrinsics.Intrinsic.{Intrinsic}
use Rattle.hp_word.specs.declared.intrinsics.Intrinsic.TheVariants.{Print, Read, Ascii, Dascii, Binary, Dbinary, Terminate, Quit as QuitCall}
use Rattle.hp_word.specs.declared.numbers.Number.{Number}
use Rattle.hp_word.specs.declared.numbers.Number.TheVariants.{Value, TooLarge, BadForm}
use Rattle.hp_word.specs.Words.{signed, signed_double}
use Rattle.hp_word.specs.Bytes.{double, high_word, low_word}
use Rattle.hp_word.specs.Texts.{decimal_text_of, octal_text_of, number}

-- What a call does, where its bytes are in bounds and there is room for what it prints
pub record Effect : Type 0 where
  -- the addresses of the bytes that it reads
  pub reads : List ℕ
  -- the bytes that it stores, each after its address
  pub stores : List (ℕ × ℕ)
  -- the bytes that it prints
  pub prints : List ℕ
  -- whether it takes the next line
  pub takes_line : Bool
  -- the words of its answer, a double's high one first
  pub answer : List ℕ
  -- the condition code that it sets
  pub code : Option Code
  -- where the session then stands
  pub ending : Ending

-- nothing at all; the session goes on
abbrev pub nothing : Effect
nothing = record {
  reads = [];
  stores = [];
  prints = [];
  takes_line = false;
  answer = [];
  code = None;
  ending = Running;
}

-- `count` addresses from the first one upwards
unfoldable pub addresses : ℕ → ℕ → List ℕ
addresses first zero = []
addresses first (suc count) = first ∷ addresses (suc first) count

-- bytes stored from an address upwards
unfoldable pub stored_from : ℕ → List ℕ → List (ℕ × ℕ)
stored_from first [] = []
stored_from first (byte ∷ bytes) = (first, byte) ∷ stored_from (suc first) bytes

-- The eight intrinsics. `byte` reads the byte at an address, `line` is the next line, if there is one.

-- the bytes of a length: two for each word, or as many as minus a negative length says
abbrev pub bytes_of_length : ℤ → ℕ
bytes_of_length (pos words) = 2 * words
bytes_of_length (negsuc n) = suc n

-- a count of bytes in the unit of a length: halved and rounded up, or as it is where the length is negative
abbrev pub in_unit_of_length : ℤ → ℕ → ℕ
in_unit_of_length (pos words) count = (count + 1) / 2
in_unit_of_length (negsuc n) count = count

-- PRINT(word array, length, control): prints the bytes of the length, and then a line feed unless the control is
-- %320; CCE
unfoldable pub print_call : (ℕ → ℕ) → ℕ → ℕ → ℕ → Effect
print_call byte array size control =
    let read = addresses (2 * array) (bytes_of_length (signed size)) in
    record nothing {
      reads = read;
      prints = map byte read ++ (if control == 0o320 then [] else 10 ∷ []);
      code = Some Equal;
    }

-- READ(word array, length): takes the next line, stores its first bytes, at most those of the length, and answers how
-- many it stored, in the unit of the length; CCE. With no line left: 0, CCG
unfoldable pub read_call : Option (List ℕ) → ℕ → ℕ → Effect
read_call None array size = record nothing { answer = 0 ∷ []; code = Some Greater }
read_call (Some line) array size =
    let stored = take (bytes_of_length (signed size)) line in
    record nothing {
      stores = stored_from (2 * array) stored;
      takes_line = true;
      answer = in_unit_of_length (signed size) (length stored) ∷ [];
      code = Some Equal;
    }

-- stores a text from a byte address upwards and answers how many bytes it stored; CCE
abbrev pub text_stored : ℕ → List ℕ → Effect
text_stored array text = record nothing {
  stores = stored_from array text;
  answer = length text ∷ [];
  code = Some Equal;
}

-- a base that is neither ten nor eight: 0, CCL
abbrev pub unknown_base : Effect
unknown_base = record nothing { answer = 0 ∷ []; code = Some Less }

-- ASCII(w, base, byte array): the text of a word, in base ten as a signed decimal, in base eight as six octal digits
unfoldable pub ascii_call : ℕ → ℕ → ℕ → Effect
ascii_call w base array =
    if base == 10 then text_stored array (decimal_text_of (signed w))
    else if base == 8 then text_stored array (octal_text_of 6 w)
    else unknown_base

-- DASCII(d, base, byte array): the text of a double, the octal one with eleven digits
unfoldable pub dascii_call : ℕ → ℕ → ℕ → Effect
dascii_call d base array =
    if base == 10 then text_stored array (decimal_text_of (signed_double d))
    else if base == 8 then text_stored array (octal_text_of 11 d)
    else unknown_base

-- the words of a number that is answered: two of a double, one of a word
abbrev pub number_words : Bool → ℕ → List ℕ
number_words true n = high_word n ∷ low_word n ∷ []
number_words false n = n ∷ []

-- what a text's number answers: itself, CCE; too large 0, CCG; bad form 0, CCL
abbrev pub number_answered : Bool → List ℕ → Number → Effect
number_answered wide read (Value n) = record nothing { reads = read; answer = number_words wide n; code = Some Equal }
number_answered wide read TooLarge = record nothing { reads = read; answer = number_words wide 0; code = Some Greater }
number_answered wide read BadForm = record nothing { reads = read; answer = number_words wide 0; code = Some Less }

-- the number in a text of this length; a negative length is bad form, and nothing is read
abbrev pub number_read : (ℕ → ℕ) → Bool → ℕ → ℤ → Effect
number_read byte wide array (pos size) =
    let read = addresses array size in number_answered wide read (number (map byte read) wide)
number_read byte wide array (negsuc n) = number_answered wide [] BadForm

-- BINARY(byte array, length): the number in that text, for a word
unfoldable pub binary_call : (ℕ → ℕ) → ℕ → ℕ → Effect
binary_call byte array size = number_read byte false array (signed size)

-- DBINARY(byte array, length): the same for a double
unfoldable pub dbinary_call : (ℕ → ℕ) → ℕ → ℕ → Effect
dbinary_call byte array size = number_read byte true array (signed size)

-- TERMINATE: ends the session
unfoldable pub terminate_call : Effect
terminate_call = record nothing { ending = Terminated }

-- QUIT(n): ends it with a number
unfoldable pub quit_call : ℕ → Effect
quit_call n = record nothing { ending = Quit (signed n) }

-- The calls by their words

-- how many words the parameters have
abbrev pub parameter_words : Intrinsic → ℕ
parameter_words Print = 3
parameter_words Read = 2
parameter_words Ascii = 3
parameter_words Dascii = 4
parameter_words Binary = 2
parameter_words Dbinary = 2
parameter_words Terminate = 0
parameter_words QuitCall = 1

-- how many words the answer has, which stand below the parameters
abbrev pub answer_words : Intrinsic → ℕ
answer_words Print = 0
answer_words Read = 1
answer_words Ascii = 1
answer_words Dascii = 1
answer_words Binary = 1
answer_words Dbinary = 2
answer_words Terminate = 0
answer_words QuitCall = 0

-- how many words a call takes
abbrev pub taken_words : Intrinsic → ℕ
taken_words i = answer_words i + parameter_words i

-- what a call does with these parameter words, the first parameter's first
unfoldable pub called : (ℕ → ℕ) → Option (List ℕ) → Intrinsic → List ℕ → Effect
called byte line Print words = print_call byte (slice_index words 0) (slice_index words 1) (slice_index words 2)
called byte line Read words = read_call line (slice_index words 0) (slice_index words 1)
called byte line Ascii words = ascii_call (slice_index words 0) (slice_index words 1) (slice_index words 2)
called byte line Dascii words =
    dascii_call (double (slice_index words 0) (slice_index words 1)) (slice_index words 2) (slice_index words 3)
called byte line Binary words = binary_call byte (slice_index words 0) (slice_index words 1)
called byte line Dbinary words = dbinary_call byte (slice_index words 0) (slice_index words 1)
called byte line Terminate words = terminate_call
called byte line QuitCall words = quit_call (slice_index words 0)

-- Traps

-- whether each byte that is read or stored is in a word below the limit
unfoldable pub is_in_bounds : ℕ → Effect → Bool
is_in_bounds limit e = list_all (λ b. nat_lt (b / 2) limit) (e.reads ++ map (λ s. s.0) e.stores)

-- whether so much room is left for what is printed
unfoldable pub has_room : ℕ → Effect → Bool
has_room room e = nat_le (length e.prints) room

-- a call that is carried out, or its trap, and then nothing was read, stored, printed or taken
unfoldable pub outcome : ℕ → ℕ → Effect → Result Effect Trap
outcome limit room e =
    if not (is_in_bounds limit e) then Err Bounds
    else if not (has_room room e) then Err OutputLimit
    else Ok e
