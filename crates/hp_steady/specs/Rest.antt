-- Where a session stands, and what else no instruction changes that neither branches nor calls.
use Rattle.std.specs.Prelude.{◌≡◌, ◌⊎◌, ℕ, Bool, List, MatchResult, ⊤}
use Rattle.hp_flat.specs.hp_word.declared.endings.Ending.{Ending}
use Rattle.hp_flat.specs.hp_session.State.{Machine, Outcome, passed}

-- the place of the next step, Q, and whether overflow traps
pub record Seat : Type 0 where
  pub seg : ℕ
  pub p : ℕ
  pub right : Bool
  pub q : ℕ
  pub traps : Bool

abbrev pub seat : Machine → Seat
seat m = record { seg = m.regs.seg; p = m.regs.p; right = m.regs.right; q = m.regs.q; traps = m.regs.traps }

-- all but the words of stack and extra segment, the mode, X, the two flags and the condition code
pub record Rest : Type 0 where
  pub seat : Seat
  pub lines : List (List ℕ)
  pub next_line : ℕ
  pub printed : List ℕ
  pub ending : Ending
  pub stack_limit : ℕ
  pub room : ℕ

abbrev pub rest : Machine → Rest
rest m = record {
  seat = seat m;
  lines = m.lines;
  next_line = m.next_line;
  printed = m.printed;
  ending = m.ending;
  stack_limit = m.stack_limit;
  room = m.room;
}

-- what a row leaves has the same rest, if it does not trap
abbrev pub Stays : Machine → Outcome → Type 0
Stays m outcome = MatchResult outcome (λ n. rest n ≡ rest m) (λ _. ⊤)

-- the same of the place alone
abbrev pub StaysSeated : Machine → Outcome → Type 0
StaysSeated m outcome = MatchResult outcome (λ n. seat n ≡ seat m) (λ _. ⊤)

-- what a step of a move leaves is at the same word for the next one, or past it
abbrev pub StaysOrPasses : Machine → Outcome → Type 0
StaysOrPasses m outcome = MatchResult outcome (λ n. (rest n ≡ rest m) ⊎ (rest n ≡ rest (passed m))) (λ _. ⊤)
