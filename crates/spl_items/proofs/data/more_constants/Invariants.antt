use Rattle.std.proofs.Common.{◌≡◌, ◌-◌}
use Rattle.spl_reading.specs.Readers.{turns, repeat}
use Rattle.spl_listed.specs.Lists as lists
use Rattle.spl_reading.specs.ReadDeclarations as r
use Rattle.spl_reading.specs.ReadExpressions.{constant}
use Rattle.spl_items.proofs.data.more_constants.Given as goal

-- the turns that are left read the rest
abbrev pub invariant-loop-turn : goal.invariant-loop-turn
invariant-loop-turn l = turns (r.more_parts constant) (l._turn-end - l._turn) (lists.constants l.read) l.tokens
    ≡ repeat (r.more_parts constant) (lists.constants l.initial.read) l.initial.tokens
