-- The classes of bytes: MVBW's letters are those of the source, and so are the bytes that it stores.
use Rattle.std.proofs.Common.{◌≡◌, ℕ, zero, suc, ◌-◌, ◌<◌, Bool, true, false, refl, arith}
use Rattle.std.specs.Prelude.{◌==◌, ◌&&◌, ◌||◌, nat_le, if◌then◌else◌}
use Rattle.std.proofs.lemmas.Bool.Decides.{nat_tests}
use Rattle.spl_moves.specs.hp_memory_rows.MoveRows as row
use Rattle.spl_moves.specs.spl_meaning.Elements as run
use Rattle.spl_moves.specs.spl_statement_code.Effects.{class_letters}

-- either of two, in either order
either_order : (a b : Bool) → (a || b) ≡ (b || a)
either_order true true = refl
either_order true false = refl
either_order false true = refl
either_order false false = refl

nothing_more : (a : Bool) → (a || false) ≡ a
nothing_more true = refl
nothing_more false = refl

pub same_class : (c b : ℕ) → row.is_of_class (class_letters c) b ≡ run.is_of_class c b
unfolding row.is_of_class
same_class zero b = refl
same_class (suc zero) b = nothing_more (run.is_digit b)
same_class (suc (suc zero)) b = either_order (run.is_digit b) (run.is_letter b)
same_class (suc (suc (suc zero))) b = refl
same_class (suc (suc (suc (suc c)))) b =
    let n = suc (suc (suc (suc c))) in
    let none : (n == 0) ≡ false = grind (arith, nat_tests) in
    let one : (n == 1) ≡ false = grind (arith, nat_tests) in
    let two : (n == 2) ≡ false = grind (arith, nat_tests) in
    let three : (n == 3) ≡ false = grind (arith, nat_tests) in
    rw (none, one, two, three) (either_order (run.is_digit b) (run.is_letter b))

pub same_byte : (c b : ℕ) → row.as_moved (class_letters c) b ≡ run.of_class c b
unfolding row.as_moved
same_byte zero b = refl
same_byte (suc zero) b = refl
same_byte (suc (suc zero)) b = refl
same_byte (suc (suc (suc zero))) b = refl
same_byte (suc (suc (suc (suc c)))) b =
    let n = suc (suc (suc (suc c))) in
    let none : (n == 0) ≡ false = grind (arith, nat_tests) in
    let one : (n == 1) ≡ false = grind (arith, nat_tests) in
    let two : (n == 2) ≡ false = grind (arith, nat_tests) in
    let three : (n == 3) ≡ false = grind (arith, nat_tests) in
    let high : nat_le 3 n ≡ true = grind (arith, nat_tests) in
    rw (none, one, two, three, high) refl

pub byte_small : (c b : ℕ) → b < 256 → run.of_class c b < 256
byte_small c b small = by (nat_le 3 c && nat_le 97 b && nat_le b 122) where
  by : (x : Bool) → (if x then b - 32 else b) < 256
  by true = omega (arith, small)
  by false = small
