-- The count of a move, upwards and downwards: how it comes nearer to 0, and where the elements lie meanwhile.
use Rattle.std.proofs.Common.{◌≡◌, ℕ, suc, ◌+◌, ◌-◌, ◌%◌, ◌<◌, ◌≤◌, Bool, true, false, refl, sym, subst, arith}
use Rattle.std.specs.Prelude.{◌==◌, ℤ, pos, negsuc, nat_lt}
use Rattle.std.proofs.lemmas.Bool.{cond-true, ltb-true, ltb-false}
use Rattle.std.proofs.lemmas.Bool.Decides.{nat_tests}
use Rattle.std.proofs.lemmas.Int.{ints}
use Rattle.spl_statement_code.specs.hp_word.Words.{signed}
use Rattle.hp_call_yields.specs.hp_memory_rows.MoveRows.{onward, nearer}
use Rattle.spl_statement_code.specs.spl_tree.declared.expressions.Kind.{Kind}
use Rattle.spl_statement_code.specs.spl_meaning.Elements.{neighbour, is_upward, count_size}
use Rattle.spl_statement_code.specs.spl_meaning.References.{Located}

-- ---- locations

-- a location by its parts
abbrev pub at_address : Bool → Kind → ℕ → Located
at_address far t a = record { far = far; kind = t; address = a }

-- the address beside one
abbrev pub beside : Bool → ℕ → ℕ
beside true a = (a + 1) % 65536
beside false a = (a + 65535) % 65536

pub beside_small : (up : Bool) (a : ℕ) → beside up a < 65536
beside_small true a = omega arith
beside_small false a = omega arith

pub neighbour_at : (up far : Bool) (t : Kind) (a : ℕ) → neighbour up (at_address far t a) ≡ at_address far t (beside up a)
neighbour_at true far t a = refl
neighbour_at false far t a = refl

-- ---- counts

-- so many elements are counted by a word with its sign
abbrev pub Fits : Bool → ℕ → Type 0
Fits true n = n < 32768
Fits false n = n ≤ 32768

-- that word
abbrev pub counted : Bool → ℕ → ℕ
counted true n = n
counted false n = (65536 - n) % 65536

pub fits_less : (up : Bool) (n : ℕ) → Fits up (suc n) → Fits up n
fits_less true n fits = omega (arith, fits)
fits_less false n fits = omega (arith, fits)

pub counted_none : (up : Bool) → (counted up 0 == 0) ≡ true
counted_none true = refl
counted_none false = refl

pub counted_some : (up : Bool) (n : ℕ) → Fits up (suc n) → (counted up (suc n) == 0) ≡ false
counted_some true n fits = grind (arith, nat_tests, fits)
counted_some false n fits = grind (arith, nat_tests, fits)

pub counted_small : (up : Bool) (n : ℕ) → Fits up n → counted up n < 65536
counted_small true n fits = omega (arith, fits)
counted_small false n fits = omega arith

pub counted_onward : (up : Bool) (n a : ℕ) → Fits up (suc n) → onward (counted up (suc n)) a ≡ beside up a
unfolding onward
counted_onward true n a fits = grind (arith, nat_tests, fits)
counted_onward false n a fits = grind (arith, nat_tests, fits)

pub counted_nearer : (up : Bool) (n : ℕ) → Fits up (suc n) → nearer (counted up (suc n)) ≡ counted up n
unfolding nearer
counted_nearer true n fits = grind (arith, nat_tests, fits)
counted_nearer false n fits = grind (arith, nat_tests, fits)

-- a word with its sign counts so many elements in its direction
pub record Counts (count : ℕ) : Type 0 where
  pub fits : Fits (is_upward (signed count)) (count_size (signed count))
  pub word : counted (is_upward (signed count)) (count_size (signed count)) ≡ count

pub counts_by : (count : ℕ) → count < 65536 → Counts count
unfolding signed
counts_by count small = by (nat_lt count 32768) refl where
  with_sign : (z : ℤ) → signed count ≡ z → Fits (is_upward z) (count_size z) → counted (is_upward z) (count_size z) ≡ count → Counts count
  with_sign z e fits word = record {
    fits = subst (λ (z : ℤ). Fits (is_upward z) (count_size z)) (sym e) fits;
    word = subst (λ (z : ℤ). counted (is_upward z) (count_size z) ≡ count) (sym e) word;
  }

  by : (b : Bool) → nat_lt count 32768 ≡ b → Counts count
  by true e =
      let low = ltb-true count 32768 e in
      with_sign (pos count) (cond-true (nat_lt count 32768) _ _ e) low refl
  by false e =
      let high = ltb-false count 32768 e in
      with_sign (negsuc (65535 - count)) (rw e (omega (arith, ints, small, high))) (omega (arith, high)) (omega (arith, high, small))
