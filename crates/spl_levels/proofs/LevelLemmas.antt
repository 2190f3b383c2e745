-- The readings of a level, where its height is known.
use Rattle.std.proofs.Common.{ℕ, zero, suc, ◌≡◌, ◌-◌, ◌<◌, ◌==◌, Bool, true, false, if◌then◌else◌, Option, None, List, refl, arith}
use Rattle.std.proofs.lemmas.Bool.Decides.{nat_tests}
use Rattle.spl_tree.specs.declared.names_and_places.At.{At}
use Rattle.spl_tree.specs.declared.symbols.Symbol.{Symbol}
use Rattle.spl_tree.specs.declared.symbols.Symbol.TheVariants as s
use Rattle.spl_tree.specs.Symbols.{Lexeme}
use Rattle.spl_tree.specs.Operators.{binds, is_sign}
use Rattle.spl_reading.specs.Readers.{◌>>=◌, by_symbol, take, at_place, repeat, pure}
use Rattle.spl_reading.specs.ReadExpressions as r
use Rattle.spl_levels.specs.Nests.{counted_bytes, level, first, term, turn, bytes, whole}

-- the first term of a sum
pub first_sum : (c : Bool) (room taken height count : ℕ) (minus : Option At) (ts : List Lexeme) → height ≡ 2
    → first c room taken height count minus ts
    ≡ by_symbol (λ k. if is_sign (r.operator_of k) then (take
    >>= λ t. term c room taken height count t) else level c room taken height count None) ts
unfolding r.first
first_sum c room taken height count minus ts h = rw h refl

-- a level above an operand
pub level_up : (c : Bool) (room taken height count : ℕ) (minus : Option At) (ts : List Lexeme) → 0 < height
    → level c room taken height count minus ts
    ≡ (at_place >>= λ at. first c room taken (height - 1) count minus
    >>= repeat (turn c room taken (height - 1) (r.begins minus at))) ts
unfolding r.level
level_up c room taken zero count minus ts h = absurd (omega arith)
level_up c room taken (suc height) count minus ts h = let e : suc height - 1 ≡ height = omega arith in rw e refl

-- an expression inside
pub within_is : (room taken : ℕ) (ts : List Lexeme) → 0 < room
    → r.within room taken ts ≡ whole false (room - 1) taken ts
unfolding r.within r.expression r.whole
within_is zero taken ts h = absurd (omega arith)
within_is (suc room) taken ts h = let e : suc room - 1 ≡ room = omega arith in rw e refl

-- the bytes of a comparison, at their height in a condition
pub turn_compared : (c : Bool) (room taken height : ℕ) (at : At) (f : r.Found) (k : Symbol) (ts : List Lexeme)
    → (binds (r.operator_of k) ≡ suc height → ⊥)
    → c ≡ true → height ≡ 7 → r.is s.Comma k ≡ true
    → r.turn_by (r.unary room) (counted_bytes c room) room c taken (level c room taken height) height at f k ts
    ≡ (if r.is_comparison f.form then bytes room taken f else pure (false, f)) ts
unfolding r.turn_by
turn_compared c room taken height at f k ts n t h a = let x : (binds (r.operator_of k) == suc height) ≡ false =
    grind (arith, nat_tests) in
    let u : (suc height == 1) ≡ false = rw h refl in let v : (suc height == 8) ≡ true = rw h refl in
    rw (x, u, v, a, t) refl

-- a shift
pub turn_shifted : (c : Bool) (room taken height : ℕ) (at : At) (f : r.Found) (k : Symbol) (ts : List Lexeme)
    → (binds (r.operator_of k) ≡ suc height → ⊥)
    → height ≡ 0 → r.is s.Ampersand k ≡ true
    → r.turn_by (r.unary room) (counted_bytes c room) room c taken (level c room taken height) height at f k ts
    ≡ r.shifted (r.unary room) (counted_bytes c room) room c taken at f ts
unfolding r.turn_by
turn_shifted c room taken height at f k ts n h a = let t : (binds (r.operator_of k) == suc height) ≡ false =
    grind (arith, nat_tests) in
    let u : (suc height == 1) ≡ true = rw h refl in rw (t, u, a) refl
