-- Each operation on the top words keeps what rows keep. A law has its row's name. A row that
-- takes words and leaves others has changed the stack and the registers alone, so it has kept the rest by computing.
use Rattle.std.proofs.Common.{ℕ, ◌+◌, []}
use Rattle.std.specs.Prelude.{bit_and, bit_or, bit_xor, ◌==◌, ◌∷◌, Ok}
use Rattle.hp_word.specs.Words.{added, subtracted, logically_added, logically_subtracted, double_added, double_subtracted, words_compared, logically_compared}
use Rattle.hp_word.specs.declared.arithmetic.Arith.{Arith}
use Rattle.hp_word.specs.declared.arithmetic.Wide.{Wide}
use Rattle.hp_word.specs.declared.arithmetic.Code.{Code}
use Rattle.hp_session.specs.State.{Machine, word, with_x, wrapped, pushing, pushing_all, deleted}
use Rattle.hp_session.proofs.KeepingForms.{Keeps}
use Rattle.hp_session.proofs.KeepingLaws.{same, either, taking-kept, pushing-kept, pushing_all-kept, deleted-kept, settled-kept, settled_below-kept, settled_double-kept, quotient-kept, logical_quotient-kept}
use Rattle.hp_session.specs.Results.{logical}
use Rattle.hp_stack_rows.specs.StackRows.{binary, product, negative, stepped, stepped_below, division, logical_division, logical_binary, logical_product, double_binary, double_negative, bitwise, inverted, comparison, double_comparison, tested, double_tested, byte_tested, x_from_below, x_from_top, x_plus_top, top_plus_x, x_and_top, x_and_below, below_becomes, exchanged, doubles_exchanged, rotated, below_deleted, copied, double_copied, operated}

binary-kept : (count : ℕ) (m : Machine) (f : ℕ → ℕ → Arith) → Keeps count m (binary f m)
unfolding binary
binary-kept count m f = taking-kept count m 2 _ (settled-kept count m 2 _)

product-kept : (count : ℕ) (m : Machine) → Keeps count m (product m)
unfolding product
product-kept count m = taking-kept count m 2 _ (settled-kept count m 2 _)

negative-kept : (count : ℕ) (m : Machine) → Keeps count m (negative m)
unfolding negative
negative-kept count m = taking-kept count m 1 _ (settled-kept count m 1 _)

stepped-kept : (count : ℕ) (m : Machine) (f : ℕ → ℕ → Arith) → Keeps count m (stepped f m)
unfolding stepped
stepped-kept count m f = taking-kept count m 1 _ (settled-kept count m 1 _)

stepped_below-kept : (count : ℕ) (m : Machine) (f : ℕ → ℕ → Arith) → Keeps count m (stepped_below f m)
unfolding stepped_below
stepped_below-kept count m f = taking-kept count m 2 _ (settled_below-kept count m _)

division-kept : (count : ℕ) (m : Machine) → Keeps count m (division m)
unfolding division
division-kept count m = taking-kept count m 2 _ (quotient-kept count m _)

logical_division-kept : (count : ℕ) (m : Machine) → Keeps count m (logical_division m)
unfolding logical_division
logical_division-kept count m = taking-kept count m 3 _ (logical_quotient-kept count m _)

double_binary-kept : (count : ℕ) (m : Machine) (f : ℕ → ℕ → Wide) → Keeps count m (double_binary f m)
unfolding double_binary
double_binary-kept count m f = taking-kept count m 4 _ (settled_double-kept count m 4 _)

double_negative-kept : (count : ℕ) (m : Machine) → Keeps count m (double_negative m)
unfolding double_negative
double_negative-kept count m = taking-kept count m 2 _ (settled_double-kept count m 2 _)

bitwise-kept : (count : ℕ) (m : Machine) (f : ℕ → ℕ → ℕ) → Keeps count m (bitwise f m)
unfolding bitwise
bitwise-kept count m f = taking-kept count m 2 _ (same count m)

inverted-kept : (count : ℕ) (m : Machine) → Keeps count m (inverted m)
unfolding inverted
inverted-kept count m = taking-kept count m 1 _ (same count m)

comparison-kept : (count : ℕ) (m : Machine) (f : ℕ → ℕ → Code) → Keeps count m (comparison f m)
unfolding comparison
comparison-kept count m f = taking-kept count m 2 _ (same count m)

double_comparison-kept : (count : ℕ) (m : Machine) → Keeps count m (double_comparison m)
unfolding double_comparison
double_comparison-kept count m = taking-kept count m 4 _ (same count m)

tested-kept : (count : ℕ) (m : Machine) → Keeps count m (tested m)
unfolding tested
tested-kept count m = taking-kept count m 1 _ (same count m)

double_tested-kept : (count : ℕ) (m : Machine) → Keeps count m (double_tested m)
unfolding double_tested
double_tested-kept count m = taking-kept count m 2 _ (same count m)

byte_tested-kept : (count : ℕ) (m : Machine) → Keeps count m (byte_tested m)
unfolding byte_tested
byte_tested-kept count m = taking-kept count m 1 _ (same count m)

x_from_below-kept : (count : ℕ) (m : Machine) → Keeps count m (x_from_below m)
unfolding x_from_below
x_from_below-kept count m = taking-kept count m 2 _ (same count m)

x_from_top-kept : (count : ℕ) (m : Machine) → Keeps count m (x_from_top m)
unfolding x_from_top
x_from_top-kept count m = taking-kept count m 1 _ (same count m)

x_plus_top-kept : (count : ℕ) (m : Machine) → Keeps count m (x_plus_top m)
unfolding x_plus_top
x_plus_top-kept count m = taking-kept count m 1 _ (same count m)

top_plus_x-kept : (count : ℕ) (m : Machine) → Keeps count m (top_plus_x m)
unfolding top_plus_x
top_plus_x-kept count m = taking-kept count m 1 _ (same count m)

x_and_top-kept : (count : ℕ) (m : Machine) → Keeps count m (x_and_top m)
unfolding x_and_top
x_and_top-kept count m = taking-kept count m 1 _ (same count m)

x_and_below-kept : (count : ℕ) (m : Machine) → Keeps count m (x_and_below m)
unfolding x_and_below
x_and_below-kept count m = taking-kept count m 2 _ (same count m)

below_becomes-kept : (count : ℕ) (m : Machine) (w : ℕ) → Keeps count m (below_becomes w m)
unfolding below_becomes
below_becomes-kept count m w = taking-kept count m 2 _ (same count m)

exchanged-kept : (count : ℕ) (m : Machine) → Keeps count m (exchanged m)
unfolding exchanged
exchanged-kept count m = taking-kept count m 2 _ (same count m)

doubles_exchanged-kept : (count : ℕ) (m : Machine) → Keeps count m (doubles_exchanged m)
unfolding doubles_exchanged
doubles_exchanged-kept count m = taking-kept count m 4 _ (same count m)

rotated-kept : (count : ℕ) (m : Machine) → Keeps count m (rotated m)
unfolding rotated
rotated-kept count m = taking-kept count m 3 _ (same count m)

below_deleted-kept : (count : ℕ) (m : Machine) → Keeps count m (below_deleted m)
unfolding below_deleted
below_deleted-kept count m = taking-kept count m 2 _ (same count m)

logical_binary-kept : (count : ℕ) (m : Machine) (f : ℕ → ℕ → Arith) → Keeps count m (logical_binary f m)
unfolding logical_binary logical
logical_binary-kept count m f = taking-kept count m 2 _ (same count m)

logical_product-kept : (count : ℕ) (m : Machine) → Keeps count m (logical_product m)
unfolding logical_product
logical_product-kept count m = taking-kept count m 2 _ (same count m)

copied-kept : (count : ℕ) (m : Machine) → Keeps count m (copied m)
unfolding copied
copied-kept count m = taking-kept count m 1 _ (pushing-kept count m _)

double_copied-kept : (count : ℕ) (m : Machine) → Keeps count m (double_copied m)
unfolding double_copied
double_copied-kept count m = taking-kept count m 2 _ (pushing_all-kept count m (word 1 m ∷ word 0 m ∷ []))

-- the table of codes
pub operated-kept : (count : ℕ) (m : Machine) (code : ℕ) → Keeps count m (operated code m)
unfolding operated
operated-kept count m code =
    either count m (code == 0o00) (Ok m) _ (same count m) (
    either count m (code == 0o01) (below_deleted m) _ (below_deleted-kept count m) (
    either count m (code == 0o02) (deleted 2 m) _ (deleted-kept count m 2) (
    either count m (code == 0o03) (Ok (with_x 0 m)) _ (same count m) (
    either count m (code == 0o04) (Ok (with_x (wrapped (m.regs.x + 1)) m)) _ (same count m) (
    either count m (code == 0o05) (Ok (with_x (wrapped (m.regs.x + 65535)) m)) _ (same count m) (
    either count m (code == 0o06) (pushing 0 m) _ (pushing-kept count m 0) (
    either count m (code == 0o07) (pushing_all (0 ∷ 0 ∷ []) m) _ (pushing_all-kept count m (0 ∷ 0 ∷ [])) (
    either count m (code == 0o10) (double_comparison m) _ (double_comparison-kept count m) (
    either count m (code == 0o11) (double_binary double_added m) _ (double_binary-kept count m double_added) (
    either count m (code == 0o12) (double_binary double_subtracted m) _ (double_binary-kept count m double_subtracted) (
    either count m (code == 0o15) (double_negative m) _ (double_negative-kept count m) (
    either count m (code == 0o16) (doubles_exchanged m) _ (doubles_exchanged-kept count m) (
    either count m (code == 0o17) (comparison words_compared m) _ (comparison-kept count m words_compared) (
    either count m (code == 0o20) (binary added m) _ (binary-kept count m added) (
    either count m (code == 0o21) (binary subtracted m) _ (binary-kept count m subtracted) (
    either count m (code == 0o22) (product m) _ (product-kept count m) (
    either count m (code == 0o23) (division m) _ (division-kept count m) (
    either count m (code == 0o24) (negative m) _ (negative-kept count m) (
    either count m (code == 0o25) (tested m) _ (tested-kept count m) (
    either count m (code == 0o26) (x_from_below m) _ (x_from_below-kept count m) (
    either count m (code == 0o27) (double_tested m) _ (double_tested-kept count m) (
    either count m (code == 0o31) (byte_tested m) _ (byte_tested-kept count m) (
    either count m (code == 0o32) (exchanged m) _ (exchanged-kept count m) (
    either count m (code == 0o33) (stepped added m) _ (stepped-kept count m added) (
    either count m (code == 0o34) (stepped subtracted m) _ (stepped-kept count m subtracted) (
    either count m (code == 0o35) (x_and_top m) _ (x_and_top-kept count m) (
    either count m (code == 0o36) (x_plus_top m) _ (x_plus_top-kept count m) (
    either count m (code == 0o37) (top_plus_x m) _ (top_plus_x-kept count m) (
    either count m (code == 0o40) (deleted 1 m) _ (deleted-kept count m 1) (
    either count m (code == 0o41) (below_becomes 0 m) _ (below_becomes-kept count m 0) (
    either count m (code == 0o42) (below_becomes m.regs.x m) _ (below_becomes-kept count m m.regs.x) (
    either count m (code == 0o43) (x_from_top m) _ (x_from_top-kept count m) (
    either count m (code == 0o44) (pushing m.regs.x m) _ (pushing-kept count m m.regs.x) (
    either count m (code == 0o45) (copied m) _ (copied-kept count m) (
    either count m (code == 0o46) (double_copied m) _ (double_copied-kept count m) (
    either count m (code == 0o56) (rotated m) _ (rotated-kept count m) (
    either count m (code == 0o60) (comparison logically_compared m) _ (comparison-kept count m logically_compared) (
    either count m (code == 0o61) (logical_binary logically_added m) _ (logical_binary-kept count m logically_added) (
    either count m (code == 0o62) (logical_binary logically_subtracted m) _ (logical_binary-kept count m logically_subtracted) (
    either count m (code == 0o63) (logical_product m) _ (logical_product-kept count m) (
    either count m (code == 0o64) (logical_division m) _ (logical_division-kept count m) (
    either count m (code == 0o65) (inverted m) _ (inverted-kept count m) (
    either count m (code == 0o66) (bitwise bit_or m) _ (bitwise-kept count m bit_or) (
    either count m (code == 0o67) (bitwise bit_xor m) _ (bitwise-kept count m bit_xor) (
    either count m (code == 0o70) (bitwise bit_and m) _ (bitwise-kept count m bit_and) (
    either count m (code == 0o74) (stepped_below added m) _ (stepped_below-kept count m added) (
    either count m (code == 0o75) (stepped_below subtracted m) _ (stepped_below-kept count m subtracted) (
    either count m (code == 0o76) (x_and_below m) _ (x_and_below-kept count m) (
    tt)))))))))))))))))))))))))))))))))))))))))))))))))
