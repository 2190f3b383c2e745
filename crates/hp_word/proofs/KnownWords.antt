-- Results worked by hand at the corners of the two's complement.
use Rattle.std.proofs.Common.{◌≡◌, ℕ, Bool, true, false, refl}
use Rattle.std.specs.declared.option.Option.{Option}
use Rattle.std.specs.declared.option.Option.TheVariants.{Some, None}
use Rattle.hp_word.specs.declared.arithmetic.Arith.{Arith}
use Rattle.hp_word.specs.declared.arithmetic.Wide.{Wide}
use Rattle.hp_word.specs.declared.arithmetic.Quotient.{Quotient}
use Rattle.hp_word.specs.declared.arithmetic.Code.{Code}
use Rattle.hp_word.specs.declared.arithmetic.Code.TheVariants.{Greater, Less, Equal}
use Rattle.hp_word.specs.Words.{signed, signed_double, word_of, double_of, is_out_of_word, is_out_of_double, compared, words_compared, logically_compared, word_result, double_result, added, subtracted, multiplied, negated, divided, logically_added, logically_multiplied, logically_divided, double_added, double_subtracted, double_negated}

-- a result on words
abbrev leaves : ℕ → Bool → Bool → Code → Arith
leaves value carry overflow code = record { value = value; carry = carry; overflow = overflow; code = code }

-- a result on doubles
abbrev leaves_double : ℕ → Bool → Bool → Code → Wide
leaves_double value carry overflow code = record { value = value; carry = carry; overflow = overflow; code = code }

-- a division
abbrev gives : ℕ → ℕ → Bool → Option Quotient
gives quotient remainder overflow = Some (record { quotient = quotient; remainder = remainder; overflow = overflow })

-- 32,767 and one more overflow to -32,768
added-highest : added 32767 1 ≡ leaves 32768 false true Less
unfolding added word_result signed word_of is_out_of_word compared
added-highest = refl

-- -1 and 1 make zero, with a carry and no overflow
added-minus_one : added 65535 1 ≡ leaves 0 true false Equal
unfolding added word_result signed word_of is_out_of_word compared
added-minus_one = refl

-- twice -32,768 leaves zero, with both
added-lowest : added 32768 32768 ≡ leaves 0 true true Equal
unfolding added word_result signed word_of is_out_of_word compared
added-lowest = refl

-- zero minus one borrows and does not overflow
subtracted-borrow : subtracted 0 1 ≡ leaves 65535 false false Less
unfolding subtracted word_result signed word_of is_out_of_word compared
subtracted-borrow = refl

-- -32,768 minus one overflows and does not borrow
subtracted-lowest : subtracted 32768 1 ≡ leaves 32767 true true Greater
unfolding subtracted word_result signed word_of is_out_of_word compared
subtracted-lowest = refl

-- -32,768 times -1 is out of range by one
multiplied-lowest : multiplied 32768 65535 ≡ leaves 32768 false true Less
unfolding multiplied word_result signed word_of is_out_of_word compared
multiplied-lowest = refl

-- and minus -32,768 too
negated-lowest : negated 32768 ≡ leaves 32768 false true Less
unfolding negated word_result signed word_of is_out_of_word compared
negated-lowest = refl

-- -7 by 2 is -3, and -1 is left
divided-negative : divided 65529 2 ≡ gives 65533 65535 false
unfolding divided signed word_of is_out_of_word
divided-negative = refl

-- 7 by -2 is -3, and 1 is left
divided-by_negative : divided 7 65534 ≡ gives 65533 1 false
unfolding divided signed word_of is_out_of_word
divided-by_negative = refl

-- -32,768 by -1 overflows
divided-lowest : divided 32768 65535 ≡ gives 32768 0 true
unfolding divided signed word_of is_out_of_word
divided-lowest = refl

-- nothing is divided by zero
divided-zero : divided 5 0 ≡ None
unfolding divided
divided-zero = refl

-- 65,535 and 65,535 are 131,070, which carries; what stays is negative as a signed word
logically_added-highest : logically_added 65535 65535 ≡ leaves 65534 true false Less
unfolding logically_added word_result signed word_of compared
logically_added-highest = refl

-- 65,535 squared
logically_multiplied-highest : logically_multiplied 65535 65535 ≡ leaves_double 4294836225 true false Less
unfolding logically_multiplied signed_double compared
logically_multiplied-highest = refl

-- 65,535 itself has its place in a word
logically_multiplied-fits : logically_multiplied 255 257 ≡ leaves_double 65535 false false Greater
unfolding logically_multiplied signed_double compared
logically_multiplied-fits = refl

-- a quotient of 65,536 and more is kept modulo 65,536
logically_divided-large : logically_divided 196613 2 ≡ gives 32770 1 false
unfolding logically_divided
logically_divided-large = refl

-- the highest double and one more overflow without a carry
double_added-highest : double_added 2147483647 1 ≡ leaves_double 2147483648 false true Less
unfolding double_added double_result signed_double double_of is_out_of_double compared
double_added-highest = refl

-- the lowest double minus one overflows without a borrow
double_subtracted-lowest : double_subtracted 2147483648 1 ≡ leaves_double 2147483647 true true Greater
unfolding double_subtracted double_result signed_double double_of is_out_of_double compared
double_subtracted-lowest = refl

-- minus zero is zero
double_negated-zero : double_negated 0 ≡ leaves_double 0 false false Equal
unfolding double_negated double_result signed_double double_of is_out_of_double compared
double_negated-zero = refl

-- -32,768 is below 32,767, but 32,768 is above it
compared-signed : words_compared 32768 32767 ≡ Less
unfolding signed compared
compared-signed = refl

-- as unsigned numbers
compared-unsigned : logically_compared 32768 32767 ≡ Greater
unfolding compared
compared-unsigned = refl
