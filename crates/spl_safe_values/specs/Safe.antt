-- Parts of a run that do not come to what has no meaning.
use Rattle.std.specs.Prelude.{◌≡◌, ℕ, Bool, true, false, List, length, is_some}
use Rattle.spl_covered.specs.spl_meaning.Names.{Names, Profile}
use Rattle.spl_covered.specs.spl_meaning.Pending.{formals_words}
use Rattle.spl_covered.specs.spl_meaning.States.{State, Outcome, done, leaves, spent, ends, strays}
use Rattle.spl_covered.specs.spl_meaning.Values.{Who, Callee, a_call, sense_of}
use Rattle.spl_covered.specs.spl_values.spl_frames.Sizes.{CallsFit}

-- an outcome that did not come to what has no meaning, and that is no way out of a statement
abbrev pub Safe : {A : Type 0} → Outcome A → Type 0
Safe (done a s) = s.lost ≡ false
Safe (leaves x s) = ⊥
Safe (spent s) = s.lost ≡ false
Safe (ends e s) = s.lost ≡ false
Safe (strays s) = s.lost ≡ false

-- an outcome behind which a condition code is known, where it is done
abbrev pub Coded : {A : Type 0} → Outcome A → Type 0
Coded (done a s) = is_some s.code ≡ true
Coded (leaves x s) = Unit {0}
Coded (spent s) = Unit {0}
Coded (ends e s) = Unit {0}
Coded (strays s) = Unit {0}

-- Calls of those who may be called, with as many words as their parameters have, are safe from where the run is not lost, and give as many words as
-- their results have.
pub record SafeCalls (may : Who → Bool) (names : Names) (call : Callee) : Type 0 where
  pub safe : (x : List ℕ) (who : Who) (p : Profile) → sense_of x (names x) ≡ a_call who p → may who ≡ true
      → (ws : List ℕ) (k : ℕ) (s : State) → length ws ≡ formals_words p.formals → s.lost ≡ false → Safe (call who ws k s)
  pub fit : CallsFit names call
