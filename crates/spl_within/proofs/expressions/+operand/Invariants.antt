use Rattle.std.proofs.Common.{◌+◌, ◌*◌}
use Rattle.spl_within.proofs.expressions.+operand.Given as goal

-- Inside one construct fewer may be opened; an expression reads operands, and an operand its parts.
abbrev pub decreases-inner : goal.decreases-inner
decreases-inner l = 8 * l.room

abbrev pub decreases-inverse : goal.decreases-inverse
decreases-inverse l = 8 * l.room + 1

abbrev pub decreases-plain : goal.decreases-plain
decreases-plain l = 8 * l.room + 2

abbrev pub decreases-read : goal.decreases-read
decreases-read l = 8 * l.room + 3

abbrev pub decreases-operand : goal.decreases-operand
decreases-operand l = 8 * l.room + 4

abbrev pub decreases-inside : goal.decreases-inside
decreases-inside l = 8 * l.room + 5
