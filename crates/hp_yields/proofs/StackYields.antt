-- Operations on the top words, told of the stack. Each stands under its code.
use Rattle.std.proofs.Common.{◌≡◌, ℕ, ◌+◌, ◌-◌, ◌<◌, ◌≤◌, [], ◌∷◌, length, Ok}
use Rattle.std.specs.Prelude.{bit_and, bit_or, bit_xor}
use Rattle.spl_follow.specs.hp_word.declared.arithmetic.Arith.{Arith}
use Rattle.spl_follow.specs.hp_word.declared.arithmetic.Wide.{Wide}
use Rattle.spl_follow.specs.hp_word.declared.arithmetic.Code.{Code}
use Rattle.spl_follow.specs.hp_word.Words.{added, subtracted, multiplied, negated, divided, logically_added, logically_subtracted, logically_multiplied, logically_divided, double_added, double_subtracted, double_negated, words_compared, logically_compared, doubles_compared, word_code}
use Rattle.spl_follow.specs.hp_word.Bytes.{double, high_word, low_word}
use Rattle.spl_follow.specs.hp_session.State.{Machine, word, with_code}
use Rattle.spl_follow.specs.hp_session.Results.{settled, keeping_carry, settled_double, keeping_double_carry, logical, coded, quotient, logical_quotient}
use Rattle.spl_follow.specs.hp_stack_rows.StackRows.{binary, product, negative, division, logical_division, logical_binary, logical_product, upper_double, lower_double, double_binary, double_negative, bitwise, inverted, comparison, double_comparison, tested, x_from_top, exchanged, rotated, below_deleted, copied, operated}
use Rattle.spl_follow.specs.Yielding.{Yields}
use Rattle.hp_yields.specs.Rows.{Settles, SettlesWide, Divides, DividesLogically, Codes, Places}
use Rattle.hp_yields.proofs.YieldForms.{taken, yields_of, replaces, settles, settles_of, settles_wide, settles_wide_of, divides, divides_of, divides_logically, divides_logically_of, codes, codes_deleted, codes_of, places, places_deleted, places_of, pushes, pushes_all, drops}

-- ---- families, over what they do

binary_settles : (f : ℕ → ℕ → Arith) (m : Machine) → 2 ≤ length m.stack → Settles 2 (f (word 1 m) (word 0 m)) m (binary f m)
unfolding binary
binary_settles f m enough = settles_of 2 _ m _ _ (taken 2 m (settled 2 (f (word 1 m) (word 0 m)) m) enough) (settles 2 (f (word 1 m) (word 0 m)) m)

-- what keeps the carry has the same value, and is out of range where the other is
keeping_settles : (n : ℕ) (r : Arith) (m : Machine) → Settles n r m (settled n (keeping_carry m r) m)
keeping_settles n r m = let s = settles n (keeping_carry m r) m in record { trap = s.trap; result = s.result }

product_settles : (m : Machine) → 2 ≤ length m.stack → Settles 2 (multiplied (word 1 m) (word 0 m)) m (product m)
unfolding product
product_settles m enough =
    settles_of 2 _ m _ _ (taken 2 m (settled 2 (keeping_carry m (multiplied (word 1 m) (word 0 m))) m) enough) (keeping_settles 2 (multiplied (word 1 m) (word 0 m)) m)

negative_settles : (m : Machine) → 1 ≤ length m.stack → Settles 1 (negated (word 0 m)) m (negative m)
unfolding negative
negative_settles m enough =
    settles_of 1 _ m _ _ (taken 1 m (settled 1 (keeping_carry m (negated (word 0 m))) m) enough) (keeping_settles 1 (negated (word 0 m)) m)

division_divides : (m : Machine) → 2 ≤ length m.stack → Divides 2 (divided (word 1 m) (word 0 m)) m (division m)
unfolding division
division_divides m enough =
    divides_of 2 (divided (word 1 m) (word 0 m)) m _ _ (taken 2 m (quotient (divided (word 1 m) (word 0 m)) m) enough) (divides (divided (word 1 m) (word 0 m)) m)

logical_division_divides : (m : Machine) → 3 ≤ length m.stack
    → DividesLogically 3 (logically_divided (double (word 2 m) (word 1 m)) (word 0 m)) m (logical_division m)
unfolding logical_division
logical_division_divides m enough =
    let q = logically_divided (double (word 2 m) (word 1 m)) (word 0 m) in
    divides_logically_of 3 q m _ _ (taken 3 m (logical_quotient q m) enough) (divides_logically q m)

logical_yields : (f : ℕ → ℕ → Arith) (m : Machine) → 2 ≤ length m.stack
    → Yields 2 ((f (word 1 m) (word 0 m)).value ∷ []) m (logical_binary f m)
unfolding logical_binary logical
logical_yields f m enough =
    let r = f (word 1 m) (word 0 m) in
    yields_of 2 (r.value ∷ []) m _ _ (taken 2 m (logical r m) enough) (replaces 2 (r.value ∷ []) m m.regs.x m.regs.overflow r.carry r.code)

logical_product_yields : (m : Machine) → 2 ≤ length m.stack
    → Yields 2 (high_word (logically_multiplied (word 1 m) (word 0 m)).value ∷ low_word (logically_multiplied (word 1 m) (word 0 m)).value ∷ []) m (logical_product m)
unfolding logical_product
logical_product_yields m enough =
    let r = logically_multiplied (word 1 m) (word 0 m) in
    let y = replaces 2 (high_word r.value ∷ low_word r.value ∷ []) m m.regs.x m.regs.overflow r.carry r.code in
    yields_of 2 _ m _ _ (taken 2 m _ enough) y

double_binary_settles : (f : ℕ → ℕ → Wide) (m : Machine) → 4 ≤ length m.stack
    → SettlesWide 4 (f (lower_double m) (upper_double m)) m (double_binary f m)
unfolding double_binary
double_binary_settles f m enough =
    settles_wide_of 4 _ m _ _ (taken 4 m (settled_double 4 (f (lower_double m) (upper_double m)) m) enough) (settles_wide 4 (f (lower_double m) (upper_double m)) m)

keeping_settles_wide : (n : ℕ) (r : Wide) (m : Machine) → SettlesWide n r m (settled_double n (keeping_double_carry m r) m)
keeping_settles_wide n r m = let s = settles_wide n (keeping_double_carry m r) m in record { trap = s.trap; result = s.result }

double_negative_settles : (m : Machine) → 2 ≤ length m.stack → SettlesWide 2 (double_negated (upper_double m)) m (double_negative m)
unfolding double_negative
double_negative_settles m enough =
    settles_wide_of 2 _ m _ _ (taken 2 m (settled_double 2 (keeping_double_carry m (double_negated (upper_double m))) m) enough) (keeping_settles_wide 2 (double_negated (upper_double m)) m)

bitwise_codes : (f : ℕ → ℕ → ℕ) (m : Machine) → 2 ≤ length m.stack
    → Codes 2 (f (word 1 m) (word 0 m) ∷ []) (word_code (f (word 1 m) (word 0 m))) m (bitwise f m)
unfolding bitwise
bitwise_codes f m enough =
    let w = f (word 1 m) (word 0 m) in
    codes_of 2 (w ∷ []) (word_code w) m _ _ (taken 2 m (Ok (coded 2 w m)) enough) (codes 2 (w ∷ []) m (word_code w))

comparison_codes : (f : ℕ → ℕ → Code) (m : Machine) → 2 ≤ length m.stack → Codes 2 [] (f (word 1 m) (word 0 m)) m (comparison f m)
unfolding comparison
comparison_codes f m enough = codes_of 2 [] (f (word 1 m) (word 0 m)) m _ _ (taken 2 m _ enough) (codes_deleted 2 m (f (word 1 m) (word 0 m)))

-- ---- INTEGER operators

pub add : (m : Machine) → 2 ≤ length m.stack → Settles 2 (added (word 1 m) (word 0 m)) m (operated 0o20 m)
unfolding operated
add m enough = binary_settles added m enough

pub subtract : (m : Machine) → 2 ≤ length m.stack → Settles 2 (subtracted (word 1 m) (word 0 m)) m (operated 0o21 m)
unfolding operated
subtract m enough = binary_settles subtracted m enough

pub multiply : (m : Machine) → 2 ≤ length m.stack → Settles 2 (multiplied (word 1 m) (word 0 m)) m (operated 0o22 m)
unfolding operated
multiply m enough = product_settles m enough

pub divide : (m : Machine) → 2 ≤ length m.stack → Divides 2 (divided (word 1 m) (word 0 m)) m (operated 0o23 m)
unfolding operated
divide m enough = division_divides m enough

pub negate : (m : Machine) → 1 ≤ length m.stack → Settles 1 (negated (word 0 m)) m (operated 0o24 m)
unfolding operated
negate m enough = negative_settles m enough

-- ---- LOGICAL operators

pub logical_add : (m : Machine) → 2 ≤ length m.stack → Yields 2 ((logically_added (word 1 m) (word 0 m)).value ∷ []) m (operated 0o61 m)
unfolding operated
logical_add m enough = logical_yields logically_added m enough

pub logical_subtract : (m : Machine) → 2 ≤ length m.stack
    → Yields 2 ((logically_subtracted (word 1 m) (word 0 m)).value ∷ []) m (operated 0o62 m)
unfolding operated
logical_subtract m enough = logical_yields logically_subtracted m enough

pub logical_multiply : (m : Machine) → 2 ≤ length m.stack
    → Yields 2 (high_word (logically_multiplied (word 1 m) (word 0 m)).value ∷ low_word (logically_multiplied (word 1 m) (word 0 m)).value ∷ []) m (operated 0o63 m)
unfolding operated
logical_multiply m enough = logical_product_yields m enough

pub logical_divide : (m : Machine) → 3 ≤ length m.stack
    → DividesLogically 3 (logically_divided (double (word 2 m) (word 1 m)) (word 0 m)) m (operated 0o64 m)
unfolding operated
logical_divide m enough = logical_division_divides m enough

pub bits_inverted : (m : Machine) → 1 ≤ length m.stack
    → Codes 1 ((65535 - word 0 m) ∷ []) (word_code (65535 - word 0 m)) m (operated 0o65 m)
unfolding operated inverted
bits_inverted m enough =
    let w = 65535 - word 0 m in
    codes_of 1 (w ∷ []) (word_code w) m _ _ (taken 1 m (Ok (coded 1 w m)) enough) (codes 1 (w ∷ []) m (word_code w))

pub bits_or : (m : Machine) → 2 ≤ length m.stack
    → Codes 2 (bit_or (word 1 m) (word 0 m) ∷ []) (word_code (bit_or (word 1 m) (word 0 m))) m (operated 0o66 m)
unfolding operated
bits_or m enough = bitwise_codes bit_or m enough

pub bits_xor : (m : Machine) → 2 ≤ length m.stack
    → Codes 2 (bit_xor (word 1 m) (word 0 m) ∷ []) (word_code (bit_xor (word 1 m) (word 0 m))) m (operated 0o67 m)
unfolding operated
bits_xor m enough = bitwise_codes bit_xor m enough

pub bits_and : (m : Machine) → 2 ≤ length m.stack
    → Codes 2 (bit_and (word 1 m) (word 0 m) ∷ []) (word_code (bit_and (word 1 m) (word 0 m))) m (operated 0o70 m)
unfolding operated
bits_and m enough = bitwise_codes bit_and m enough

-- ---- DOUBLE operators

pub double_add : (m : Machine) → 4 ≤ length m.stack → SettlesWide 4 (double_added (lower_double m) (upper_double m)) m (operated 0o11 m)
unfolding operated
double_add m enough = double_binary_settles double_added m enough

pub double_subtract : (m : Machine) → 4 ≤ length m.stack
    → SettlesWide 4 (double_subtracted (lower_double m) (upper_double m)) m (operated 0o12 m)
unfolding operated
double_subtract m enough = double_binary_settles double_subtracted m enough

pub double_negate : (m : Machine) → 2 ≤ length m.stack → SettlesWide 2 (double_negated (upper_double m)) m (operated 0o15 m)
unfolding operated
double_negate m enough = double_negative_settles m enough

-- ---- comparisons

pub compare : (m : Machine) → 2 ≤ length m.stack → Codes 2 [] (words_compared (word 1 m) (word 0 m)) m (operated 0o17 m)
unfolding operated
compare m enough = comparison_codes words_compared m enough

pub logical_compare : (m : Machine) → 2 ≤ length m.stack → Codes 2 [] (logically_compared (word 1 m) (word 0 m)) m (operated 0o60 m)
unfolding operated
logical_compare m enough = comparison_codes logically_compared m enough

pub double_compare : (m : Machine) → 4 ≤ length m.stack
    → Codes 4 [] (doubles_compared (lower_double m) (upper_double m)) m (operated 0o10 m)
unfolding operated double_comparison
double_compare m enough = codes_of 4 [] (doubles_compared (lower_double m) (upper_double m)) m _ _ (taken 4 m _ enough) (codes_deleted 4 m (doubles_compared (lower_double m) (upper_double m)))

-- ---- words placed: nothing else changes

pub zero_pushed : (m : Machine) → length m.stack < m.stack_limit → Places 0 (0 ∷ []) m.regs.x m (operated 0o06 m)
unfolding operated
zero_pushed m room = pushes 0 m room

pub zeros_pushed : (m : Machine) → length m.stack + 2 ≤ m.stack_limit → Places 0 (0 ∷ 0 ∷ []) m.regs.x m (operated 0o07 m)
unfolding operated
zeros_pushed m room = pushes_all (0 ∷ 0 ∷ []) m room

pub top_deleted : (m : Machine) → 1 ≤ length m.stack → Places 1 [] m.regs.x m (operated 0o40 m)
unfolding operated
top_deleted m enough = drops 1 m enough

pub double_deleted : (m : Machine) → 2 ≤ length m.stack → Places 2 [] m.regs.x m (operated 0o02 m)
unfolding operated
double_deleted m enough = drops 2 m enough

pub lower_deleted : (m : Machine) → 2 ≤ length m.stack → Places 2 (word 0 m ∷ []) m.regs.x m (operated 0o01 m)
unfolding operated below_deleted
lower_deleted m enough = places_of 2 (word 0 m ∷ []) m.regs.x m _ _ (taken 2 m _ enough) (places 2 (word 0 m ∷ []) m.regs.x m)

pub top_copied : (m : Machine) → 1 ≤ length m.stack → length m.stack < m.stack_limit → Places 0 (word 0 m ∷ []) m.regs.x m (operated 0o45 m)
unfolding operated copied
top_copied m enough room = places_of 0 (word 0 m ∷ []) m.regs.x m _ _ (taken 1 m _ enough) (pushes (word 0 m) m room)

pub two_exchanged : (m : Machine) → 2 ≤ length m.stack → Places 2 (word 0 m ∷ word 1 m ∷ []) m.regs.x m (operated 0o32 m)
unfolding operated exchanged
two_exchanged m enough = places_of 2 _ m.regs.x m _ _ (taken 2 m _ enough) (places 2 (word 0 m ∷ word 1 m ∷ []) m.regs.x m)

pub three_rotated : (m : Machine) → 3 ≤ length m.stack → Places 3 (word 1 m ∷ word 0 m ∷ word 2 m ∷ []) m.regs.x m (operated 0o56 m)
unfolding operated rotated
three_rotated m enough = places_of 3 _ m.regs.x m _ _ (taken 3 m _ enough) (places 3 (word 1 m ∷ word 0 m ∷ word 2 m ∷ []) m.regs.x m)

pub top_to_x : (m : Machine) → 1 ≤ length m.stack → Places 1 [] (word 0 m) m (operated 0o43 m)
unfolding operated x_from_top
top_to_x m enough = places_of 1 [] (word 0 m) m _ _ (taken 1 m _ enough) (places_deleted 1 (word 0 m) m)

-- the code of a word that stays
pub top_tested : (m : Machine) → 1 ≤ length m.stack → operated 0o25 m ≡ Ok (with_code (word_code (word 0 m)) m)
unfolding operated tested
top_tested m enough = taken 1 m _ enough
