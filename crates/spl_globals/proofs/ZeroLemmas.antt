-- Words of zero by their addresses.
use Rattle.std.proofs.Common.{◌≡◌, ℕ, zero, suc, Bool, true, false, nat_lt, Some, None, sym, ap, ◌∙◌, arith}
use Rattle.std.specs.Prelude.{if◌then◌else◌, replicate}
use Rattle.std.specs.List.{slice_get}
use Rattle.std.proofs.lemmas.Bool.Decides.{nat_tests}
use Rattle.spl_sorts.specs.spl_meaning.Runs.{zeros}
use Rattle.spl_initials.specs.Memory.{memory_of}

none_below : (a : ℕ) → nat_lt a 0 ≡ false
none_below a = grind (arith, nat_tests)

first_below : (n : ℕ) → nat_lt 0 (suc n) ≡ true
first_below n = grind (arith, nat_tests)

next_below : (a n : ℕ) → nat_lt (suc a) (suc n) ≡ nat_lt a n
next_below a n = grind (arith, nat_tests)

zero_at : (n a : ℕ) → slice_get (replicate n 0) a ≡ zeros n a
zero_at zero a = ap (λ (b : Bool). if b then Some 0 else None) (sym (none_below a))
zero_at (suc n) zero = ap (λ (b : Bool). if b then Some 0 else None) (sym (first_below n))
zero_at (suc n) (suc a) = zero_at n a ∙ ap (λ (b : Bool). if b then Some 0 else None) (sym (next_below a n))

pub zero_memory : (n : ℕ) → memory_of (replicate n 0) ≡ zeros n
unfolding memory_of
zero_memory n i a = zero_at n a i
