-- What no step changes, and what steps only add to.
use Rattle.std.specs.Prelude.{◌≡◌, ℕ, ◌<◌, ◌≤◌, Bool, true, false, length, take}
use Rattle.hp_word.specs.declared.endings.Ending.{Ending}
use Rattle.hp_word.specs.declared.endings.Ending.TheVariants.{Trapped}
use Rattle.hp_session.specs.State.{Machine}

-- n is a session that goes on from m; its program has `count` segments
pub record Continues (count : ℕ) (m n : Machine) : Type 0 where
  -- it stands in a segment of the program, if it did before
  pub within : m.regs.seg < count → n.regs.seg < count
  -- STACK, the print room and the terminal lines are the same
  pub same_limit : n.stack_limit ≡ m.stack_limit
  pub same_room : n.room ≡ m.room
  pub same_lines : n.lines ≡ m.lines
  -- no line that was taken is given back
  pub later : m.next_line ≤ n.next_line
  -- the extra segment has as many words
  pub same_size : length n.extra ≡ length m.extra
  -- what was printed stands in front of what is printed now
  pub front : take (length m.printed) n.printed ≡ m.printed

-- whether a run has ended in a trap
abbrev pub is_trapped : Ending → Bool
is_trapped (Trapped t) = true
is_trapped _ = false
