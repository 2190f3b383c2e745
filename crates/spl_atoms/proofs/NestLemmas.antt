-- An expression inside.
use Rattle.std.proofs.Common.{ℕ, zero, suc, ◌≡◌, ◌-◌, ◌<◌, List, refl, arith}
use Rattle.spl_tree.specs.Symbols.{Lexeme}
use Rattle.spl_reading.specs.ReadExpressions as r

pub within_is : (room taken : ℕ) (ts : List Lexeme) → 0 < room
    → r.within room taken ts ≡ r.expression (room - 1) taken ts
unfolding r.within
within_is zero taken ts h = absurd (omega arith)
within_is (suc room) taken ts h = let e : suc room - 1 ≡ room = omega arith in rw e refl
