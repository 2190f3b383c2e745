-- Calls of the intrinsics worked by hand, over memory whose byte b is the letter 65 + b.
use Rattle.std.proofs.Common.{◌≡◌, ℕ, ◌+◌, true, [], ◌∷◌, negsuc, refl}
use Rattle.std.specs.Prelude.{codes}
use Rattle.std.specs.Fmt.{digits}
use Rattle.std.specs.declared.option.Option.TheVariants.{Some, None}
use Rattle.std.specs.declared.result.Result.TheVariants.{Ok, Err}
use Rattle.hp_word.specs.declared.arithmetic.Code.TheVariants.{Greater, Less, Equal}
use Rattle.hp_word.specs.declared.endings.Ending.TheVariants.{Terminated, Quit}
use Rattle.hp_word.specs.declared.endings.Trap.TheVariants.{Bounds, OutputLimit}
use Rattle.hp_word.specs.declared.intrinsics.Intrinsic.TheVariants.{Dascii}
use Rattle.hp_word.specs.Words.{signed, signed_double, word_of, double_of}
use Rattle.hp_word.specs.Bytes.{double, high_word, low_word}
use Rattle.hp_word.specs.Texts.{octal_text_of, is_digits, value_after, decimal_number, decimal_digits, number}
use Rattle.hp_word.specs.Intrinsics.{nothing, addresses, stored_from, print_call, read_call, ascii_call, dascii_call, binary_call, dbinary_call, terminate_call, quit_call, called, is_in_bounds, has_room, outcome}

-- the memory
letter : ℕ → ℕ
letter b = 65 + b

-- a length of -5 is five bytes; control %40 gives the line feed
print-bytes : print_call letter 1 65531 0o40
    ≡ record nothing { reads = 2 ∷ 3 ∷ 4 ∷ 5 ∷ 6 ∷ []; prints = codes "CDEFG\n"; code = Some Equal }
unfolding letter print_call addresses signed
print-bytes = refl

-- a length of 2 is four bytes; control %320 gives none
print-words : print_call letter 0 2 0o320
    ≡ record nothing { reads = 0 ∷ 1 ∷ 2 ∷ 3 ∷ []; prints = codes "ABCD"; code = Some Equal }
unfolding letter print_call addresses signed
print-words = refl

-- five bytes of a line are three words, the last one half
read-words : read_call (Some (codes "HELLO")) 3 4
    ≡ record nothing {
      stores = (6, 72) ∷ (7, 69) ∷ (8, 76) ∷ (9, 76) ∷ (10, 79) ∷ [];
      takes_line = true;
      answer = 3 ∷ [];
      code = Some Equal;
    }
unfolding read_call stored_from signed
read-words = refl

-- two bytes are asked for, and the rest of the line is lost
read-bytes : read_call (Some (codes "HELLO")) 3 65534
    ≡ record nothing { stores = (6, 72) ∷ (7, 69) ∷ []; takes_line = true; answer = 2 ∷ []; code = Some Equal }
unfolding read_call stored_from signed
read-bytes = refl

-- no line is left
read-none : read_call None 3 4 ≡ record nothing { answer = 0 ∷ []; code = Some Greater }
unfolding read_call
read-none = refl

-- a word is signed in base ten
ascii-decimal : ascii_call 65535 10 20
    ≡ record nothing { stores = (20, 45) ∷ (21, 49) ∷ []; answer = 2 ∷ []; code = Some Equal }
unfolding ascii_call stored_from signed digits
ascii-decimal = refl

-- six octal digits
ascii-octal : ascii_call 8 8 20
    ≡ record nothing {
      stores = (20, 48) ∷ (21, 48) ∷ (22, 48) ∷ (23, 48) ∷ (24, 49) ∷ (25, 48) ∷ [];
      answer = 6 ∷ [];
      code = Some Equal;
    }
unfolding ascii_call stored_from octal_text_of
ascii-octal = refl

-- base sixteen is unknown
ascii-other_base : ascii_call 8 16 20 ≡ record nothing { answer = 0 ∷ []; code = Some Less }
unfolding ascii_call
ascii-other_base = refl

-- the double's high word is the first parameter
dascii-words : called letter None Dascii (1 ∷ 0 ∷ 10 ∷ 8 ∷ [])
    ≡ record nothing { stores = (8, 54) ∷ (9, 53) ∷ (10, 53) ∷ (11, 51) ∷ (12, 54) ∷ []; answer = 5 ∷ []; code = Some Equal }
unfolding called dascii_call double stored_from signed_double digits
dascii-words = refl

-- three digits; letters are none
binary-digits : binary_call (λ (b : ℕ). 48 + b) 1 3
    ≡ record nothing { reads = 1 ∷ 2 ∷ 3 ∷ []; answer = 123 ∷ []; code = Some Equal }
unfolding binary_call addresses signed number decimal_digits is_digits value_after decimal_number word_of
binary-digits = refl

-- a letter is bad form
binary-letters : binary_call letter 0 1 ≡ record nothing { reads = 0 ∷ []; answer = 0 ∷ []; code = Some Less }
unfolding letter binary_call addresses signed number decimal_digits is_digits
binary-letters = refl

-- a negative length is bad form, no length is zero
binary-negative : binary_call letter 0 65535 ≡ record nothing { answer = 0 ∷ []; code = Some Less }
unfolding binary_call signed
binary-negative = refl

-- no bytes are no text
binary-nothing : binary_call letter 0 0 ≡ record nothing { answer = 0 ∷ []; code = Some Equal }
unfolding binary_call addresses signed number
binary-nothing = refl

-- a double's answer has its high word first: 99,999 is 65,536 and 34,463
dbinary-words : dbinary_call (λ (b : ℕ). 57) 0 5
    ≡ record nothing { reads = 0 ∷ 1 ∷ 2 ∷ 3 ∷ 4 ∷ []; answer = 1 ∷ 34463 ∷ []; code = Some Equal }
unfolding dbinary_call addresses signed number decimal_digits is_digits value_after decimal_number
    double_of high_word low_word
dbinary-words = refl

-- TERMINATE
terminate-ends : terminate_call ≡ record nothing { ending = Terminated }
unfolding terminate_call
terminate-ends = refl

-- QUIT of -1
quit-signed : quit_call 65535 ≡ record nothing { ending = Quit (negsuc 0) }
unfolding quit_call signed
quit-signed = refl

-- bytes 2 to 6 want four words; Bounds comes before OutputLimit; six bytes want room for six
print-carried_out : outcome 4 6 (print_call letter 1 65531 0o40) ≡ Ok (print_call letter 1 65531 0o40)
unfolding letter outcome is_in_bounds has_room print_call addresses signed
print-carried_out = refl

-- three words are too few, and the room too
print-out_of_bounds : outcome 3 5 (print_call letter 1 65531 0o40) ≡ Err Bounds
unfolding letter outcome is_in_bounds has_room print_call addresses signed
print-out_of_bounds = refl

-- room for five is too little
print-out_of_room : outcome 4 5 (print_call letter 1 65531 0o40) ≡ Err OutputLimit
unfolding letter outcome is_in_bounds has_room print_call addresses signed
print-out_of_room = refl

-- an address that is doubled does not wrap, and no byte is in no bounds
read-far : outcome 64 0 (read_call (Some (codes "A")) 40000 4) ≡ Err Bounds
unfolding outcome is_in_bounds has_room read_call stored_from signed
read-far = refl

-- an empty line stores nothing anywhere
read-far_nothing : outcome 64 0 (read_call (Some []) 40000 4) ≡ Ok (read_call (Some []) 40000 4)
unfolding outcome is_in_bounds has_room read_call stored_from signed
read-far_nothing = refl
