use Rattle.std.proofs.Common.{ℕ, ◌≡◌, ◌+◌, ◌-◌, ◌*◌, ◌/◌, ◌≤◌, Bool, if◌then◌else◌}
use Rattle.spl_reading.specs.Readers.{turns, repeat}
use Rattle.spl_parts.specs.Parts.{found}
use Rattle.spl_levels.specs.Nests.{turn}
use Rattle.spl_levels.proofs.levels.Levels.+level.Given as goal

-- The levels below, and of a level its parts; of a condition the expressions in it, which are none.
abbrev pub weight : Bool → ℕ
weight c = if c then 100 else 0

abbrev pub decreases-level : goal.decreases-level
decreases-level g l = 8 * l.height + weight l.self.now.condition

abbrev pub decreases-term : goal.decreases-term
decreases-term g l = 8 * l.height + 1 + weight l.self.now.condition

abbrev pub decreases-first : goal.decreases-first
decreases-first g l = 8 * l.height + 2 + weight l.self.now.condition

abbrev pub decreases-join : goal.decreases-join
decreases-join g l = 8 * l.height + 2 + weight l.self.now.condition

abbrev pub decreases-turn : goal.decreases-turn
decreases-turn g l = 8 * l.height + 3 + weight l.self.now.condition

abbrev pub decreases-rest : goal.decreases-rest
decreases-rest g l = 8 * l.height + 4 + weight l.self.now.condition

abbrev pub decreases-compared : goal.decreases-compared
decreases-compared g l = 97

abbrev pub decreases-bytes : goal.decreases-bytes
decreases-bytes g l = 96

abbrev pub decreases-length : goal.decreases-length
decreases-length g l = 95

abbrev pub decreases-whole : goal.decreases-whole
decreases-whole g l = 90 + weight l.self.now.condition

-- the turns that are left read the rest
abbrev pub invariant-rest-loop-turn : goal.invariant-rest-loop-turn
invariant-rest-loop-turn g l = record {
  rest : turns (turn l.self.condition l.self.room l.self.taken l.height l.at) (l._turn-end - l._turn)
      (found l.of) l.tokens
      ≡ repeat (turn l.self.condition l.self.room l.self.taken l.height l.at) (found l.initial.of) l.initial.tokens;
  room : l.self.taken + l.of.count / 8 ≤ l.self.room;
}
