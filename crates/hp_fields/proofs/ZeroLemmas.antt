-- The zeros that ADDS pushes: the first of a row of 255.
use Rattle.std.proofs.Common.{◌≡◌, ℕ, ◌<◌, List, length, take, replicate, sym, subst, ap, ◌∙◌, arith}
use Rattle.std.specs.Prelude.{Result}
use Rattle.std.proofs.lemmas.List.{take-replicate, length-replicate}
use Rattle.hp_word.specs.declared.endings.Trap.{Trap}
use Rattle.hp_session.specs.declared.registers.Regs.{Regs}
use Rattle.hp_session.specs.State.{pushing_all}
use Rattle.hp_tos.specs.Seen.{Seen}
use Rattle.hp_rows.specs.Numbers.{uses}
use Rattle.hp_rows.specs.Performs.{Performs}

-- the first n of them are n zeros
pub zeros_of : (n : ℕ) → n < 256 → take {A = ℕ} n (replicate {A = ℕ} 255 0) ≡ replicate {A = ℕ} n 0
zeros_of n below = take-replicate n 255 0 (omega arith)

-- words that are n zeros are pushed as n zeros
pub zeros_pushed : (words : List ℕ) (n : ℕ) (regs : Regs) (s : Seen) (answer : Result (Unit {0}) Trap) (next : Regs) (after : Seen)
    → words ≡ replicate {A = ℕ} n 0 → Performs (pushing_all words) (uses 0 (length words)) regs s answer next after
    → Performs (pushing_all (replicate {A = ℕ} n 0)) (uses 0 n) regs s answer next after
zeros_pushed words n regs s answer next after is performs =
    let so : Performs (pushing_all (replicate {A = ℕ} n 0)) (uses 0 (length words)) regs s answer next after = rw (sym is) performs in
    subst (λ k. Performs (pushing_all (replicate {A = ℕ} n 0)) (uses 0 k) regs s answer next after)
    (ap length is ∙ length-replicate n 0) so
