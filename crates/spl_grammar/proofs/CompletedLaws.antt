-- Each open prefix can be completed, said with the list of tokens in front of what is left.
use Rattle.std.proofs.Common.{ℕ, zero, suc, ◌+◌, ◌-◌, ◌≡◌, List, [], ◌∷◌, ◌++◌, length, take, refl, arith, ap}
use Rattle.spl_reading.specs.spl_tree.Symbols.{Lexeme}
use Rattle.spl_reading.specs.spl_tree.Parts.{Part}
use Rattle.spl_grammar.specs.Answers.{Completes}
use Rattle.spl_grammar.proofs.MovedParts.{Swap, same, behind, swap_longer}
use Rattle.spl_grammar.proofs.CompletedParts.{Whole, Completed}

-- what is left follows so many tokens
front_left : {rest next ts to : List Lexeme} (n : ℕ) → Swap rest next ts to → n + length rest ≡ length ts
    → ts ≡ take n ts ++ rest
front_left zero same e = refl
front_left (suc n) same e = absurd (omega arith)
front_left zero (behind a) e = let l = swap_longer a in absurd (omega arith)
front_left (suc n) (behind {t = t} a) e = ap (λ us. t ∷ us) (front_left n a (omega arith))

-- and so does what is put there
front_kept : {rest next ts to : List Lexeme} (n : ℕ) → Swap rest next ts to → n + length rest ≡ length ts
    → to ≡ take n ts ++ next
front_kept zero same e = refl
front_kept (suc n) same e = absurd (omega arith)
front_kept zero (behind a) e = let l = swap_longer a in absurd (omega arith)
front_kept (suc n) (behind {t = t} a) e = ap (λ us. t ∷ us) (front_kept n a (omega arith))

-- how many tokens stand before
so_many : {rest next ts to : List Lexeme} → Swap rest next ts to
    → (length ts - length rest) + length rest ≡ length ts
so_many a = let l = swap_longer a in omega arith

-- a completed part as one behind its own tokens
pub completes : {p : Part} {P : List Lexeme → List Lexeme → Type 0} {ts rest : List Lexeme} → Completed p ts rest
    → ((us more : List Lexeme) → Whole p us more → P us more) → Completes P ts rest
completes {ts = ts} {rest = rest} o f = record {
  front = take (length ts - length rest) ts;
  tail = o.tail;
  before = let a = o.whole [] in front_left (length ts - length rest) a.swap (so_many a.swap);
  whole = λ more. let a = o.whole more in
      rw (← front_kept (length ts - length rest) a.swap (so_many a.swap)) (f a.to more a.whole);
}
