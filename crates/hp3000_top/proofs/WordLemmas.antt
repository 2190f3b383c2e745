-- The number of a generated job, told of a word that is short and of the number that it is.
use Rattle.std.proofs.Common.{ℕ, ◌≡◌, ◌≤◌, ◌<◌, true, false, List, length, Option, None, Some, refl, ap, arith}
use Rattle.std.specs.Prelude.{nat_le, option_and_then}
use Rattle.std.proofs.lemmas.Bool.Decides.{nat_tests}
use Rattle.job_lines.specs.Numbers.{number_in}
use Rattle.hp3000_top.specs.Verbs.{sixteen_bits, job_number}

pub long_word : (w : List ℕ) → 5 < length w → None ≡ job_number w
unfolding job_number
long_word w l = let e : nat_le (length w) 5 ≡ false = grind (arith, nat_tests, l) in rw e refl

-- of a short word it is what the number that the word is comes to in sixteen bits
pub short_word : (w : List ℕ) (o : Option ℕ) → length w ≤ 5 → o ≡ number_in w → option_and_then sixteen_bits o ≡ job_number w
unfolding job_number
short_word w o l h = let e : nat_le (length w) 5 ≡ true = grind (arith, nat_tests, l) in rw e (ap (λ (x : Option ℕ). option_and_then sixteen_bits x) h)

pub small_number : (n : ℕ) → n ≤ 65535 → Some n ≡ sixteen_bits n
small_number n l = let e : nat_le n 65535 ≡ true = grind (arith, nat_tests, l) in rw e refl

pub large_number : (n : ℕ) → 65535 < n → None ≡ sixteen_bits n
large_number n l = let e : nat_le n 65535 ≡ false = grind (arith, nat_tests, l) in rw e refl
