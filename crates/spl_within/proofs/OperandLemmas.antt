-- Operands, by what is inside.
use Rattle.std.proofs.Common.{ℕ, zero, suc, ◌≡◌, ◌-◌, ◌<◌, Option, None, List, refl, arith}
use Rattle.spl_tree.specs.declared.names_and_places.At.{At}
use Rattle.spl_tree.specs.Symbols.{Lexeme}
use Rattle.spl_reading.specs.ReadExpressions as r
use Rattle.spl_atoms.specs.Nests.{inner, operand_at}

-- an operand behind a NOT
pub inner_is : (room taken : ℕ) (ts : List Lexeme) → 0 < room → inner room taken ts ≡ r.unary (room - 1) taken None ts
inner_is zero taken ts h = absurd (omega arith)
inner_is (suc room) taken ts h = let e : suc room - 1 ≡ room = omega arith in rw e refl

-- an operand, by what is inside
pub operand_is : (room taken : ℕ) (minus : Option At) (ts : List Lexeme)
    → r.unary room taken minus ts ≡ operand_at room taken minus ts
unfolding r.unary r.within r.expression
operand_is zero taken minus ts = refl
operand_is (suc room) taken minus ts = refl
