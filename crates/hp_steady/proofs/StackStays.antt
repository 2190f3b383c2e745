-- Each operation on the top words leaves the session where it stands. A law has its row's name.
use Rattle.std.proofs.Common.{ℕ, ◌+◌, [], refl}
use Rattle.std.specs.Prelude.{bit_and, bit_or, bit_xor, ◌==◌, ◌∷◌, Ok}
use Rattle.hp_flat.specs.hp_word.Words.{added, subtracted, logically_added, logically_subtracted, double_added, double_subtracted, words_compared, logically_compared}
use Rattle.hp_flat.specs.hp_word.declared.arithmetic.Arith.{Arith}
use Rattle.hp_flat.specs.hp_word.declared.arithmetic.Wide.{Wide}
use Rattle.hp_flat.specs.hp_word.declared.arithmetic.Code.{Code}
use Rattle.hp_flat.specs.hp_session.State.{Machine, word, with_x, wrapped, pushing, pushing_all, deleted}
use Rattle.hp_steady.specs.Rest.{Stays}
use Rattle.hp_steady.proofs.StayForms.{either, taking-stays, pushing-stays, pushing_all-stays, deleted-stays, settled-stays, settled_below-stays, settled_double-stays, quotient-stays, logical_quotient-stays}
use Rattle.hp_flat.specs.hp_session.Results.{logical}
use Rattle.hp_flat.specs.hp_stack_rows.StackRows.{binary, product, negative, stepped, stepped_below, division, logical_division, logical_binary, logical_product, double_binary, double_negative, bitwise, inverted, comparison, double_comparison, tested, double_tested, byte_tested, x_from_below, x_from_top, x_plus_top, top_plus_x, x_and_top, x_and_below, below_becomes, exchanged, doubles_exchanged, rotated, below_deleted, copied, double_copied, operated}

binary-stays : (m : Machine) (f : ℕ → ℕ → Arith) → Stays m (binary f m)
unfolding binary
binary-stays m f = taking-stays m 2 _ (settled-stays m 2 _)

product-stays : (m : Machine) → Stays m (product m)
unfolding product
product-stays m = taking-stays m 2 _ (settled-stays m 2 _)

negative-stays : (m : Machine) → Stays m (negative m)
unfolding negative
negative-stays m = taking-stays m 1 _ (settled-stays m 1 _)

stepped-stays : (m : Machine) (f : ℕ → ℕ → Arith) → Stays m (stepped f m)
unfolding stepped
stepped-stays m f = taking-stays m 1 _ (settled-stays m 1 _)

stepped_below-stays : (m : Machine) (f : ℕ → ℕ → Arith) → Stays m (stepped_below f m)
unfolding stepped_below
stepped_below-stays m f = taking-stays m 2 _ (settled_below-stays m _)

division-stays : (m : Machine) → Stays m (division m)
unfolding division
division-stays m = taking-stays m 2 _ (quotient-stays m _)

logical_division-stays : (m : Machine) → Stays m (logical_division m)
unfolding logical_division
logical_division-stays m = taking-stays m 3 _ (logical_quotient-stays m _)

double_binary-stays : (m : Machine) (f : ℕ → ℕ → Wide) → Stays m (double_binary f m)
unfolding double_binary
double_binary-stays m f = taking-stays m 4 _ (settled_double-stays m 4 _)

double_negative-stays : (m : Machine) → Stays m (double_negative m)
unfolding double_negative
double_negative-stays m = taking-stays m 2 _ (settled_double-stays m 2 _)

bitwise-stays : (m : Machine) (f : ℕ → ℕ → ℕ) → Stays m (bitwise f m)
unfolding bitwise
bitwise-stays m f = taking-stays m 2 _ refl

inverted-stays : (m : Machine) → Stays m (inverted m)
unfolding inverted
inverted-stays m = taking-stays m 1 _ refl

comparison-stays : (m : Machine) (f : ℕ → ℕ → Code) → Stays m (comparison f m)
unfolding comparison
comparison-stays m f = taking-stays m 2 _ refl

double_comparison-stays : (m : Machine) → Stays m (double_comparison m)
unfolding double_comparison
double_comparison-stays m = taking-stays m 4 _ refl

tested-stays : (m : Machine) → Stays m (tested m)
unfolding tested
tested-stays m = taking-stays m 1 _ refl

double_tested-stays : (m : Machine) → Stays m (double_tested m)
unfolding double_tested
double_tested-stays m = taking-stays m 2 _ refl

byte_tested-stays : (m : Machine) → Stays m (byte_tested m)
unfolding byte_tested
byte_tested-stays m = taking-stays m 1 _ refl

x_from_below-stays : (m : Machine) → Stays m (x_from_below m)
unfolding x_from_below
x_from_below-stays m = taking-stays m 2 _ refl

x_from_top-stays : (m : Machine) → Stays m (x_from_top m)
unfolding x_from_top
x_from_top-stays m = taking-stays m 1 _ refl

x_plus_top-stays : (m : Machine) → Stays m (x_plus_top m)
unfolding x_plus_top
x_plus_top-stays m = taking-stays m 1 _ refl

top_plus_x-stays : (m : Machine) → Stays m (top_plus_x m)
unfolding top_plus_x
top_plus_x-stays m = taking-stays m 1 _ refl

x_and_top-stays : (m : Machine) → Stays m (x_and_top m)
unfolding x_and_top
x_and_top-stays m = taking-stays m 1 _ refl

x_and_below-stays : (m : Machine) → Stays m (x_and_below m)
unfolding x_and_below
x_and_below-stays m = taking-stays m 2 _ refl

below_becomes-stays : (m : Machine) (w : ℕ) → Stays m (below_becomes w m)
unfolding below_becomes
below_becomes-stays m w = taking-stays m 2 _ refl

exchanged-stays : (m : Machine) → Stays m (exchanged m)
unfolding exchanged
exchanged-stays m = taking-stays m 2 _ refl

doubles_exchanged-stays : (m : Machine) → Stays m (doubles_exchanged m)
unfolding doubles_exchanged
doubles_exchanged-stays m = taking-stays m 4 _ refl

rotated-stays : (m : Machine) → Stays m (rotated m)
unfolding rotated
rotated-stays m = taking-stays m 3 _ refl

below_deleted-stays : (m : Machine) → Stays m (below_deleted m)
unfolding below_deleted
below_deleted-stays m = taking-stays m 2 _ refl

logical_binary-stays : (m : Machine) (f : ℕ → ℕ → Arith) → Stays m (logical_binary f m)
unfolding logical_binary logical
logical_binary-stays m f = taking-stays m 2 _ refl

logical_product-stays : (m : Machine) → Stays m (logical_product m)
unfolding logical_product
logical_product-stays m = taking-stays m 2 _ refl

copied-stays : (m : Machine) → Stays m (copied m)
unfolding copied
copied-stays m = taking-stays m 1 _ (pushing-stays m _)

double_copied-stays : (m : Machine) → Stays m (double_copied m)
unfolding double_copied
double_copied-stays m = taking-stays m 2 _ (pushing_all-stays m (word 1 m ∷ word 0 m ∷ []))

-- the table of codes
pub operated-stays : (m : Machine) (code : ℕ) → Stays m (operated code m)
unfolding operated
operated-stays m code =
    either m (code == 0o00) (Ok m) _ refl (
    either m (code == 0o01) (below_deleted m) _ (below_deleted-stays m) (
    either m (code == 0o02) (deleted 2 m) _ (deleted-stays m 2) (
    either m (code == 0o03) (Ok (with_x 0 m)) _ refl (
    either m (code == 0o04) (Ok (with_x (wrapped (m.regs.x + 1)) m)) _ refl (
    either m (code == 0o05) (Ok (with_x (wrapped (m.regs.x + 65535)) m)) _ refl (
    either m (code == 0o06) (pushing 0 m) _ (pushing-stays m 0) (
    either m (code == 0o07) (pushing_all (0 ∷ 0 ∷ []) m) _ (pushing_all-stays m (0 ∷ 0 ∷ [])) (
    either m (code == 0o10) (double_comparison m) _ (double_comparison-stays m) (
    either m (code == 0o11) (double_binary double_added m) _ (double_binary-stays m double_added) (
    either m (code == 0o12) (double_binary double_subtracted m) _ (double_binary-stays m double_subtracted) (
    either m (code == 0o15) (double_negative m) _ (double_negative-stays m) (
    either m (code == 0o16) (doubles_exchanged m) _ (doubles_exchanged-stays m) (
    either m (code == 0o17) (comparison words_compared m) _ (comparison-stays m words_compared) (
    either m (code == 0o20) (binary added m) _ (binary-stays m added) (
    either m (code == 0o21) (binary subtracted m) _ (binary-stays m subtracted) (
    either m (code == 0o22) (product m) _ (product-stays m) (
    either m (code == 0o23) (division m) _ (division-stays m) (
    either m (code == 0o24) (negative m) _ (negative-stays m) (
    either m (code == 0o25) (tested m) _ (tested-stays m) (
    either m (code == 0o26) (x_from_below m) _ (x_from_below-stays m) (
    either m (code == 0o27) (double_tested m) _ (double_tested-stays m) (
    either m (code == 0o31) (byte_tested m) _ (byte_tested-stays m) (
    either m (code == 0o32) (exchanged m) _ (exchanged-stays m) (
    either m (code == 0o33) (stepped added m) _ (stepped-stays m added) (
    either m (code == 0o34) (stepped subtracted m) _ (stepped-stays m subtracted) (
    either m (code == 0o35) (x_and_top m) _ (x_and_top-stays m) (
    either m (code == 0o36) (x_plus_top m) _ (x_plus_top-stays m) (
    either m (code == 0o37) (top_plus_x m) _ (top_plus_x-stays m) (
    either m (code == 0o40) (deleted 1 m) _ (deleted-stays m 1) (
    either m (code == 0o41) (below_becomes 0 m) _ (below_becomes-stays m 0) (
    either m (code == 0o42) (below_becomes m.regs.x m) _ (below_becomes-stays m m.regs.x) (
    either m (code == 0o43) (x_from_top m) _ (x_from_top-stays m) (
    either m (code == 0o44) (pushing m.regs.x m) _ (pushing-stays m m.regs.x) (
    either m (code == 0o45) (copied m) _ (copied-stays m) (
    either m (code == 0o46) (double_copied m) _ (double_copied-stays m) (
    either m (code == 0o56) (rotated m) _ (rotated-stays m) (
    either m (code == 0o60) (comparison logically_compared m) _ (comparison-stays m logically_compared) (
    either m (code == 0o61) (logical_binary logically_added m) _ (logical_binary-stays m logically_added) (
    either m (code == 0o62) (logical_binary logically_subtracted m) _ (logical_binary-stays m logically_subtracted) (
    either m (code == 0o63) (logical_product m) _ (logical_product-stays m) (
    either m (code == 0o64) (logical_division m) _ (logical_division-stays m) (
    either m (code == 0o65) (inverted m) _ (inverted-stays m) (
    either m (code == 0o66) (bitwise bit_or m) _ (bitwise-stays m bit_or) (
    either m (code == 0o67) (bitwise bit_xor m) _ (bitwise-stays m bit_xor) (
    either m (code == 0o70) (bitwise bit_and m) _ (bitwise-stays m bit_and) (
    either m (code == 0o74) (stepped_below added m) _ (stepped_below-stays m added) (
    either m (code == 0o75) (stepped_below subtracted m) _ (stepped_below-stays m subtracted) (
    either m (code == 0o76) (x_and_below m) _ (x_and_below-stays m) (
    tt)))))))))))))))))))))))))))))))))))))))))))))))))
