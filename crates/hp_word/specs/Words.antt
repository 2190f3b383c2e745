-- Arithmetic on words of sixteen bits and doubles of thirty-two, by the exact result over the whole numbers.
use Rattle.std.specs.Prelude.{ℕ, ◌+◌, ◌*◌, ◌/◌, ◌%◌, ℤ, pos, neg_ℤ, ◌+ℤ◌, ◌-ℤ◌, ◌*ℤ◌, Bool, false, ◌||◌, ◌==◌, nat_lt, nat_le, int_lt, int_div, int_rem, unsigned_abs, if◌then◌else◌}
use Rattle.std.specs.declared.option.Option.{Option}
use Rattle.std.specs.declared.option.Option.TheVariants.{Some, None}
use Rattle.std.specs.Int.{int_rem_euclid}
use Rattle.hp_word.specs.declared.arithmetic.Arith.{Arith}
use Rattle.hp_word.specs.declared.arithmetic.Wide.{Wide}
use Rattle.hp_word.specs.declared.arithmetic.Quotient.{Quotient}
use Rattle.hp_word.specs.declared.arithmetic.Code.{Code}
use Rattle.hp_word.specs.declared.arithmetic.Code.TheVariants.{Greater, Less, Equal}

-- Readings

-- a word read with its sign: 32,768 and above are negative
unfoldable pub signed : ℕ → ℤ
signed w = if nat_lt w 32768 then pos w else pos w -ℤ pos 65536

-- a double read with its sign: 2,147,483,648 and above are negative
unfoldable pub signed_double : ℕ → ℤ
signed_double d = if nat_lt d 2147483648 then pos d else pos d -ℤ pos 4294967296

-- a whole number modulo 65,536
unfoldable pub word_of : ℤ → ℕ
word_of z = unsigned_abs (int_rem_euclid z (pos 65536))

-- a whole number modulo 4,294,967,296
unfoldable pub double_of : ℤ → ℕ
double_of z = unsigned_abs (int_rem_euclid z (pos 4294967296))

-- whether a whole number is outside -32,768 to 32,767
unfoldable pub is_out_of_word : ℤ → Bool
is_out_of_word z = int_lt z (neg_ℤ (pos 32768)) || int_lt (pos 32767) z

-- whether a whole number is outside -2,147,483,648 to 2,147,483,647
unfoldable pub is_out_of_double : ℤ → Bool
is_out_of_double z = int_lt z (neg_ℤ (pos 2147483648)) || int_lt (pos 2147483647) z

-- Condition codes

-- the code of two operands: how the lower one stands to the upper one
unfoldable pub compared : ℤ → ℤ → Code
compared lower upper = if int_lt upper lower then Greater else if int_lt lower upper then Less else Equal

-- the code of a result: above zero, below zero or zero
abbrev pub code_of : ℤ → Code
code_of z = compared z (pos 0)

-- the code of a word: that of the signed number
abbrev pub word_code : ℕ → Code
word_code w = code_of (signed w)

-- the code of a double
abbrev pub double_code : ℕ → Code
double_code d = code_of (signed_double d)

-- B against A, both read as signed
abbrev pub words_compared : ℕ → ℕ → Code
words_compared b a = compared (signed b) (signed a)

-- B against A, both unsigned
abbrev pub logically_compared : ℕ → ℕ → Code
logically_compared b a = compared (pos b) (pos a)

-- the lower double against the upper one, both read as signed
abbrev pub doubles_compared : ℕ → ℕ → Code
doubles_compared b a = compared (signed_double b) (signed_double a)

-- What an operation leaves, by its exact result and its carry

-- of an operation on words: the result modulo 65,536, and the code of that value read as signed
unfoldable pub word_result : ℤ → Bool → Bool → Arith
word_result exact carry overflow = record {
  value = word_of exact;
  carry = carry;
  overflow = overflow;
  code = word_code (word_of exact);
}

-- of an integer operation on words: an exact result out of the signed range overflows
abbrev pub integer_result : ℤ → Bool → Arith
integer_result exact carry = word_result exact carry (is_out_of_word exact)

-- of a logical operation on words: it never overflows
abbrev pub logical_result : ℤ → Bool → Arith
logical_result exact carry = word_result exact carry false

-- of an integer operation on doubles
unfoldable pub double_result : ℤ → Bool → Wide
double_result exact carry = record {
  value = double_of exact;
  carry = carry;
  overflow = is_out_of_double exact;
  code = double_code (double_of exact);
}

-- Integer operations on words. A sum's carry is that of the unsigned sum, a difference's is on where the unsigned
-- difference needs no borrow; the other operations leave it off.

-- B plus A
unfoldable pub added : ℕ → ℕ → Arith
added b a = integer_result (signed b +ℤ signed a) (nat_le 65536 (b + a))

-- B minus A
unfoldable pub subtracted : ℕ → ℕ → Arith
subtracted b a = integer_result (signed b -ℤ signed a) (nat_le a b)

-- B times A
unfoldable pub multiplied : ℕ → ℕ → Arith
multiplied b a = integer_result (signed b *ℤ signed a) false

-- minus A
unfoldable pub negated : ℕ → Arith
negated a = integer_result (neg_ℤ (signed a)) false

-- B by A: the quotient is rounded toward zero, and the remainder has the sign of B; nothing where A is zero
unfoldable pub divided : ℕ → ℕ → Option Quotient
divided b a = if a == 0 then None else Some (record {
  quotient = word_of (int_div (signed b) (signed a));
  remainder = word_of (int_rem (signed b) (signed a));
  overflow = is_out_of_word (int_div (signed b) (signed a));
})

-- Logical operations: words are unsigned

-- B plus A
unfoldable pub logically_added : ℕ → ℕ → Arith
logically_added b a = logical_result (pos b +ℤ pos a) (nat_le 65536 (b + a))

-- B minus A
unfoldable pub logically_subtracted : ℕ → ℕ → Arith
logically_subtracted b a = logical_result (pos b -ℤ pos a) (nat_le a b)

-- B times A, the whole product as a double: the carry is on where it passes 65,535
unfoldable pub logically_multiplied : ℕ → ℕ → Wide
logically_multiplied b a = record {
  value = b * a;
  carry = nat_lt 65535 (b * a);
  overflow = false;
  code = double_code (b * a);
}

-- a double by A: the quotient is kept modulo 65,536; nothing where A is zero
unfoldable pub logically_divided : ℕ → ℕ → Option Quotient
logically_divided d a = if a == 0 then None else Some (record {
  quotient = d / a % 65536;
  remainder = d % a;
  overflow = false;
})

-- Integer operations on doubles, with carries as for words

-- the lower double plus the upper one
unfoldable pub double_added : ℕ → ℕ → Wide
double_added b a = double_result (signed_double b +ℤ signed_double a) (nat_le 4294967296 (b + a))

-- the lower double minus the upper one
unfoldable pub double_subtracted : ℕ → ℕ → Wide
double_subtracted b a = double_result (signed_double b -ℤ signed_double a) (nat_le a b)

-- minus the double
unfoldable pub double_negated : ℕ → Wide
double_negated a = double_result (neg_ℤ (signed_double a)) false
