-- A value that stops at a cap stays there however many digits follow.
use Rattle.std.proofs.Common.{◌≡◌, ℕ, ◌+◌, ◌-◌, ◌*◌, ◌≤◌, ◌<◌, min, List, [], ◌∷◌, refl, ⊎_elim, arith}
use Rattle.std.proofs.Math.Nat.{le-mul_of_pos_right, mul_comm}
use Rattle.std.proofs.lemmas.Bool.{cases_lt}
use Rattle.hp_word.specs.Texts.{value_after}

-- digits that follow make no number less
pub value_after-le : (base n : ℕ) (ds : List ℕ) → 1 ≤ base → n ≤ value_after base n ds
unfolding value_after
value_after-le base n [] some = omega arith
value_after-le base n (d ∷ ds) some =
    omega (arith, le-mul_of_pos_right n some, mul_comm base n, value_after-le base (base * n + (d - 48)) ds some)

-- so a cap may be put on before them or after
pub value_after-capped : (base n cap : ℕ) (ds : List ℕ) → 1 ≤ base
    → min (value_after base (min n cap) ds) cap ≡ min (value_after base n ds) cap
value_after-capped base n cap ds some = ⊎_elim
    (λ (below : n < cap). let same : min n cap ≡ n = omega arith in rw same refl)
    (λ (above : cap ≤ n). let capped : min n cap ≡ cap = omega arith in
    rw capped (omega (arith, value_after-le base cap ds some, value_after-le base n ds some)))
    (cases_lt n cap)
