-- Texts and their numbers worked by hand, at the ends of the ranges and one beyond.
use Rattle.std.proofs.Common.{◌≡◌, true, false, pos, negsuc, refl}
use Rattle.std.specs.Prelude.{codes}
use Rattle.std.specs.Fmt.{digits}
use Rattle.hp_word.specs.declared.numbers.Number.TheVariants.{Value, TooLarge, BadForm}
use Rattle.hp_word.specs.Words.{word_of, double_of}
use Rattle.hp_word.specs.Texts.{decimal_text_of, octal_text_of, is_digits, value_after, decimal_number, octal_number, decimal_digits, octal_digits, number}

-- the lowest word
decimal-lowest : decimal_text_of (negsuc 32767) ≡ codes "-32768"
unfolding digits
decimal-lowest = refl

-- the lowest double
decimal-lowest_double : decimal_text_of (negsuc 2147483647) ≡ codes "-2147483648"
unfolding digits
decimal-lowest_double = refl

-- zero is one digit
decimal-zero : decimal_text_of (pos 0) ≡ codes "0"
unfolding digits
decimal-zero = refl

-- the highest word
octal-highest : octal_text_of 6 65535 ≡ codes "177777"
unfolding octal_text_of
octal-highest = refl

-- leading zeros are kept
octal-leading_zeros : octal_text_of 11 8 ≡ codes "00000000010"
unfolding octal_text_of
octal-leading_zeros = refl

-- the low digits alone
octal-low : octal_text_of 2 0o1234 ≡ codes "34"
unfolding octal_text_of
octal-low = refl

-- no text is zero
number-nothing : number (codes "") false ≡ Value 0
unfolding number
number-nothing = refl

-- the highest word
number-highest : number (codes "65535") false ≡ Value 65535
unfolding number decimal_digits is_digits value_after decimal_number word_of
number-highest = refl

-- one above
number-above : number (codes "65536") false ≡ TooLarge
unfolding number decimal_digits is_digits value_after decimal_number word_of
number-above = refl

-- the lowest word, modulo 65,536
number-lowest : number (codes "-32768") false ≡ Value 32768
unfolding number decimal_digits is_digits value_after decimal_number word_of
number-lowest = refl

-- one below
number-below : number (codes "-32769") false ≡ TooLarge
unfolding number decimal_digits is_digits value_after decimal_number word_of
number-below = refl

-- a plus and leading zeros
number-plus : number (codes "+007") false ≡ Value 7
unfolding number decimal_digits is_digits value_after decimal_number word_of
number-plus = refl

-- a sign or `%` alone, a blank, a digit of another base: no number
number-sign_alone : number (codes "-") false ≡ BadForm
unfolding number decimal_digits is_digits
number-sign_alone = refl

-- no digit after the base
number-percent_alone : number (codes "%") true ≡ BadForm
unfolding number octal_digits is_digits
number-percent_alone = refl

-- a blank is no digit
number-blank : number (codes " 1") false ≡ BadForm
unfolding number decimal_digits is_digits
number-blank = refl

-- eight is no octal digit
number-eight : number (codes "%18") false ≡ BadForm
unfolding number octal_digits is_digits
number-eight = refl

-- and no number is too large either
number-bad_form_first : number (codes "999999X") false ≡ BadForm
unfolding number decimal_digits is_digits
number-bad_form_first = refl

-- sixteen bits
number-octal_highest : number (codes "%177777") false ≡ Value 65535
unfolding number octal_digits is_digits value_after octal_number
number-octal_highest = refl

-- seventeen bits
number-octal_above : number (codes "%200000") false ≡ TooLarge
unfolding number octal_digits is_digits value_after octal_number
number-octal_above = refl

-- one above the highest double
number-double_above : number (codes "2147483648") true ≡ TooLarge
unfolding number decimal_digits is_digits value_after decimal_number double_of
number-double_above = refl

-- the lowest double, modulo 4,294,967,296
number-double_lowest : number (codes "-2147483648") true ≡ Value 2147483648
unfolding number decimal_digits is_digits value_after decimal_number double_of
number-double_lowest = refl

-- thirty-two bits
number-double_octal : number (codes "%37777777777") true ≡ Value 4294967295
unfolding number octal_digits is_digits value_after octal_number
number-double_octal = refl
