-- What it means that the code at the entry of a body tests its room.
use Rattle.std.specs.Prelude.{◌≡◌, ℕ, ◌+◌, ◌-◌, ◌≤◌, ◌<◌, length}
use Rattle.hp_flat.specs.hp_word.declared.endings.Ending.TheVariants.{Running, Trapped}
use Rattle.hp_flat.specs.hp_word.declared.endings.Trap.TheVariants.{StackOverflow}
use Rattle.hp_flat.specs.hp_session.State.{Machine}
use Rattle.spl_follow.specs.Spots.{Spot, spot, pos, Ground}
use Rattle.spl_follow.specs.Matching.{outer}
use Rattle.spl_follow.specs.Following.{Rate, Tally, Goes}

-- From p the code grants room for so many words above the stack. Where STACK has it, the machine comes to q as it was, but for its flags and
-- index register; where it has not, and STACK is at most the greatest, the machine traps. Nothing is met or printed on the way, and it is
-- charged its halves of words.
pub record Grants (g : Ground) (w : Rate) (p q : Spot) (need : ℕ) : Type 0 where
  pub enough : (m : Machine) → spot m ≡ p → m.ending ≡ Running → length m.stack + need ≤ m.stack_limit → (t : Tally)
      → (n : Machine) × Goes g w (pos q - pos p) 0 w.reach t m t n × (spot n ≡ q) × (n.stack ≡ m.stack) × (outer n ≡ outer m)
  pub lacking : (m : Machine) → spot m ≡ p → m.ending ≡ Running → m.stack_limit ≤ 32767 → m.stack_limit < length m.stack + need → (t : Tally)
      → (n : Machine) × Goes g w (pos q - pos p) 0 0 t m t n × (n.ending ≡ Trapped StackOverflow) × (n.printed ≡ m.printed)
