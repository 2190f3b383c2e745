-- A loop whose turns take tokens is explained turn by turn.
use Rattle.std.proofs.Common.{ℕ, zero, suc, ◌<◌, Bool, true, false, if◌then◌else◌, List, length, arith}
use Rattle.spl_reading.specs.spl_tree.Symbols.{Lexeme}
use Rattle.spl_reading.specs.spl_tree.Parts.{Part}
use Rattle.spl_reading.specs.Readers.{Outcome, Got, Parser, and_then, followed, pure, turns, repeat}
use Rattle.spl_grammar.specs.Answers.{Explains, got, bad, deep}
use Rattle.spl_grammar.proofs.LocalReaders as lr

-- what a turn leaves: the state of the loop where another turn follows, and what was read where none does
pub data TurnLeaves {S : Type 0} (I W : S → List Lexeme → Type 0) : Bool × S → List Lexeme → Type 0 where
  goes_on : {s : S} {rest : List Lexeme} → I s rest → TurnLeaves I W (true, s) rest
  ends : {s : S} {rest : List Lexeme} → W s rest → TurnLeaves I W (false, s) rest

-- a turn that goes on takes a token
went : {S : Type 0} {n : ℕ} {s : S} {rest : List Lexeme} → lr.Taking n (Got (true, s) rest) → length rest < n
went (lr.goes l) = l

-- A loop in the part p that begins at ts, behind d constructs and n operators.
module _ {S : Type 0} (most : ℕ) (step : S → Parser (Bool × S))
    (takes : (s : S) (ts : List Lexeme) → lr.Taking (length ts) (step s ts))
    (p : Part) (d n : ℕ) (ts : List Lexeme) (I W : S → List Lexeme → Type 0)
    (turn : (s : S) (now : List Lexeme) → I s now → Explains most (TurnLeaves I W) p d n ts (step s now)) where
  -- with more turns than there are tokens left
  turns_explained : (fuel : ℕ) (s : S) (now : List Lexeme) → length now < fuel → I s now
      → Explains most W p d n ts (turns step fuel s now)
  unfolding turns followed and_then pure
  turns_explained zero s now l x = absurd (omega arith)
  turns_explained (suc fuel) s now l x = go (turns_explained fuel) (step s now) (takes s now) (turn s now x)
    where
      go : ((u : S) (rest : List Lexeme) → length rest < fuel → I u rest
          → Explains most W p d n ts (turns step fuel u rest))
          → (o : Outcome (Bool × S)) → lr.Taking (length now) o → Explains most (TurnLeaves I W) p d n ts o
          → Explains most W p d n ts (and_then o (λ r. if r.0 then turns step fuel r.1 else pure r.1))
      go next _ t (got (goes_on i)) = let m = went t in next _ _ (omega arith) i
      go next _ t (got (ends w)) = got w
      go next _ t (bad o l) = bad o l
      go next _ t (deep o l) = deep o l

  pub repeat_explained : (s : S) (now : List Lexeme) → I s now → Explains most W p d n ts (repeat step s now)
  unfolding repeat
  repeat_explained s now x = turns_explained (suc (length now)) s now (omega arith) x
