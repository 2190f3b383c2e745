use Rattle.std.proofs.Common.{◌≡◌, take}
use Rattle.hp_session.specs.SessionView.{lines_of}
use Rattle.hp_flat.proofs.opening.copy_lines.Given as goal

-- the lines copied so far are equal
abbrev pub invariant-loop-line : goal.invariant-loop-line
invariant-loop-line l = lines_of l.copies.items ≡ lines_of (take l.line-index l.lines)
