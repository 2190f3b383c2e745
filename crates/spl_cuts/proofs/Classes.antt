-- The classes of bytes lie apart, so that a piece's first byte tells its kind.
use Rattle.std.proofs.Common.{ℕ, ◌≡◌, Bool, true, false, List, ◌∷◌, length, drop, Some, None, refl, arith}
use Rattle.std.specs.Prelude.{◌&&◌, ◌==◌}
use Rattle.std.specs.List.{take_while}
use Rattle.std.proofs.lemmas.Bool.Decides.{nat_tests}
use Rattle.spl_cuts.specs.Bytes.{is_blank, is_letter, is_digit, is_octal_digit, is_name_byte, is_suffix, is_quote, is_in_line, begins, mark_of, mark_of_two, decimal, octal}
use Rattle.spl_cuts.specs.Commands.{command}
use Rattle.spl_cuts.specs.Reading.{piece, line_piece, comment_piece, name_piece, number_at, string_piece, string_from, mark_at, close_size}
use Rattle.spl_cuts.proofs.Fronts.{and_false}

-- what the first byte of a piece is not
pub record Apart (b : ℕ) : Type 0 where
  pub blank : is_blank b ≡ false
  pub dollar : (b == 36) ≡ false
  pub less : (b == 60) ≡ false

pub letter_apart : (b : ℕ) → is_letter b ≡ true → Apart b
letter_apart b h = record { blank = grind (arith, nat_tests, h); dollar = grind (arith, nat_tests, h); less = grind (arith, nat_tests, h) }

pub digit_apart : (b : ℕ) → is_digit b ≡ true → Apart b × (is_letter b ≡ false)
digit_apart b h = (record { blank = grind (arith, nat_tests, h); dollar = grind (arith, nat_tests, h); less = grind (arith, nat_tests, h) }, grind (arith, nat_tests, h))

-- a letter begins a name
pub at_letter : (f : Bool) (b : ℕ) (bs : List ℕ) → is_letter b ≡ true
    → piece f b bs ≡ name_piece (take_while is_name_byte (b ∷ bs)) (drop (length (take_while is_name_byte (b ∷ bs))) (b ∷ bs))
unfolding piece
at_letter f b bs h =
    let a = letter_apart b h in
    rw (a.blank, and_false f (b == 36) a.dollar, a.less, h) refl

-- a digit begins a number
pub at_digit : (f : Bool) (b : ℕ) (bs : List ℕ) → is_digit b ≡ true → piece f b bs ≡ number_at decimal (b ∷ bs)
unfolding piece
at_digit f b bs h =
    let a = digit_apart b h in
    rw (a.0.blank, and_false f (b == 36) a.0.dollar, a.0.less, a.1, h) refl

-- % and an octal digit begin an octal number
pub at_percent : (f : Bool) (bs : List ℕ) → begins is_octal_digit bs ≡ true → piece f 37 bs ≡ number_at octal bs
unfolding piece
at_percent true bs h = rw h refl
at_percent false bs h = rw h refl

pub at_quote : (f : Bool) (bs : List ℕ) → piece f 34 bs ≡ string_piece (string_from false bs)
unfolding piece
at_quote true bs = refl
at_quote false bs = refl

pub at_dollar : (bs : List ℕ) → piece true 36 bs ≡ line_piece (length (take_while is_in_line bs)) (command (take_while is_in_line bs))
unfolding piece
at_dollar bs = refl

pub at_brackets : (f : Bool) (bs : List ℕ) → piece f 60 (60 ∷ bs) ≡ comment_piece 2 (close_size bs)
unfolding piece
at_brackets true bs = refl
at_brackets false bs = refl

-- what a mark's first byte is not
pub record Apart_mark (b : ℕ) : Type 0 where
  pub blank : is_blank b ≡ false
  pub dollar : (b == 36) ≡ false
  pub letter : is_letter b ≡ false
  pub digit : is_digit b ≡ false
  pub percent : (b == 37) ≡ false
  pub quote : is_quote b ≡ false

mark_apart : (b m : ℕ) → mark_of b ≡ Some m → Apart_mark b
mark_apart b m h = record {
  blank = grind (arith, nat_tests, h);
  dollar = grind (arith, nat_tests, h);
  letter = grind (arith, nat_tests, h);
  digit = grind (arith, nat_tests, h);
  percent = grind (arith, nat_tests, h);
  quote = grind (arith, nat_tests, h);
}

pub at_mark : (f : Bool) (b : ℕ) (bs : List ℕ) → Apart_mark b → ((b == 60) && begins (λ c. c == 60) bs) ≡ false → piece f b bs ≡ mark_at b bs
unfolding piece
at_mark f b bs a h = rw (a.blank, and_false f (b == 36) a.dollar, h, a.letter, a.digit, a.percent, a.quote) refl

-- the first byte of a mark of two bytes
pub two_apart : (b c m : ℕ) → mark_of_two b c ≡ Some m → Apart_mark b × (((b == 60) && (c == 60)) ≡ false)
two_apart b c m h = (
  record {
    blank = grind (arith, nat_tests, h);
    dollar = grind (arith, nat_tests, h);
    letter = grind (arith, nat_tests, h);
    digit = grind (arith, nat_tests, h);
    percent = grind (arith, nat_tests, h);
    quote = grind (arith, nat_tests, h);
  },
  grind (arith, nat_tests, h),
)

pub one_apart : (b m : ℕ) → mark_of b ≡ Some m → Apart_mark b
one_apart = mark_apart

-- what is no mark alone begins none
pub no_mark : (b c : ℕ) → mark_of b ≡ None → ((b == 60) ≡ false) × (mark_of_two b c ≡ None)
no_mark b c h = (grind (arith, nat_tests, h), grind (arith, nat_tests, h))

-- a D is no digit and goes on with no number
pub suffix_stops : (d : ℕ) → is_suffix d ≡ true → (is_digit d ≡ false) × (is_octal_digit d ≡ false)
suffix_stops d h = (grind (arith, nat_tests, h), grind (arith, nat_tests, h))
