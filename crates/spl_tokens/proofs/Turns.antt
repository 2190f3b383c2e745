-- Loops: what is left of the turns, where some of them were made.
use Rattle.std.proofs.Common.{ℕ, suc, ◌≡◌, ◌+◌, ◌-◌, ◌<◌, ◌≤◌, Bool, true, false, List, length, refl, ap, ◌∙◌, arith}
use Rattle.spl_tree.specs.Symbols.{Lexeme}
use Rattle.spl_reading.specs.Readers.{Got, Bad, Parser, pure, refuse, followed, and_then, turns, repeat}
use Rattle.spl_tokens.specs.declared.faults.Fault.{Fault}
use Rattle.spl_tokens.specs.declared.faults.Fault.TheVariants.{Syntax, TooDeep, NoMemory}
use Rattle.spl_tokens.specs.Reads.{Fails}

-- one turn of some
one_of : (n i : ℕ) → i < n → n - i ≡ suc (n - (i + 1))
one_of n i h = omega arith

-- before the first turn
pub loop_begins : {S : Type 0} (step : S → Parser (Bool × S)) (s : S) (ts : List Lexeme) → turns step (length ts + 1 - 0) s ts ≡ repeat step s ts
unfolding repeat
loop_begins step s ts = let e : length ts + 1 - 0 ≡ suc (length ts) = omega arith in ap (λ n. turns step n s ts) e

-- behind a turn that goes on
pub loop_goes_on : {S : Type 0} (step : S → Parser (Bool × S)) (n i : ℕ) (s next : S) (ts us : List Lexeme) → i < n
    → step s ts ≡ Got (true, next) us → turns step (n - i) s ts ≡ turns step (n - (i + 1)) next us
unfolding turns followed and_then
loop_goes_on step n i s next ts us h e = ap (λ m. turns step m s ts) (one_of n i h) ∙ rw e refl

-- behind the last
pub loop_ends : {S : Type 0} (step : S → Parser (Bool × S)) (n i : ℕ) (s next : S) (ts us : List Lexeme) → i < n
    → step s ts ≡ Got (false, next) us → turns step (n - i) s ts ≡ Got next us
unfolding turns followed and_then pure
loop_ends step n i s next ts us h e = ap (λ m. turns step m s ts) (one_of n i h) ∙ rw e refl

-- at a fault
pub loop_fails : {S : Type 0} (step : S → Parser (Bool × S)) (n i : ℕ) (s : S) (ts us : List Lexeme) (e : Fault) → i < n
    → Fails (step s ts) e us → Fails (turns step (n - i) s ts) e us
unfolding turns followed and_then
loop_fails step n i s ts us Syntax h f = ap (λ m. turns step m s ts) (one_of n i h) ∙ rw f refl
loop_fails step n i s ts us TooDeep h f = ap (λ m. turns step m s ts) (one_of n i h) ∙ rw f refl
loop_fails step n i s ts us NoMemory h f = tt

-- where no turn is left
pub loop_stops : {S : Type 0} (step : S → Parser (Bool × S)) (n i : ℕ) (s : S) (ts : List Lexeme) → n ≤ i → turns step (n - i) s ts ≡ Bad ts
unfolding turns refuse
loop_stops step n i s ts h = let e : n - i ≡ 0 = omega arith in ap (λ m. turns step m s ts) e

pub ruleset loops = (loop_begins, loop_goes_on, loop_ends, loop_fails, loop_stops)
