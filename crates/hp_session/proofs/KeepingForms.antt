-- What a row keeps, told of the parts of what it leaves: so a row that changes other parts keeps all of it by computing.
use Rattle.std.specs.Prelude.{◌≡◌, ℕ, ◌<◌, ◌≤◌, false, List, length, take, MatchResult, ⊤}
use Rattle.hp_word.specs.declared.endings.Ending.{Ending}
use Rattle.hp_session.specs.State.{Machine, Outcome}
use Rattle.hp_session.specs.Keeping.{is_trapped}

-- the parts of a session after a row against the session before it; the program has `count` segments
pub record HasKept (count : ℕ) (m : Machine) (seg limit room : ℕ) (lines : List (List ℕ)) (next : ℕ) (extra printed : List ℕ) (ending : Ending) : Type 0 where
  pub within : m.regs.seg < count → seg < count
  pub same_limit : limit ≡ m.stack_limit
  pub same_room : room ≡ m.room
  pub same_lines : lines ≡ m.lines
  pub later : m.next_line ≤ next
  pub same_size : length extra ≡ length m.extra
  pub front : take (length m.printed) printed ≡ m.printed
  -- a row traps by its answer alone, and never by its ending
  pub untrapped : is_trapped m.ending ≡ false → is_trapped ending ≡ false

-- a session after a row
abbrev pub IsKept : ℕ → Machine → Machine → Type 0
IsKept count m n = HasKept count m n.regs.seg n.stack_limit n.room n.lines n.next_line n.extra n.printed n.ending

-- what a row leaves has kept all this
abbrev pub Keeps : ℕ → Machine → Outcome → Type 0
Keeps count m outcome = MatchResult outcome (λ n. IsKept count m n) (λ _. ⊤)
