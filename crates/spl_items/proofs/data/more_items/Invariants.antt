use Rattle.std.proofs.Common.{◌≡◌, ◌-◌}
use Rattle.spl_reading.specs.Readers.{turns, repeat}
use Rattle.spl_listed.specs.Lists as lists
use Rattle.spl_reading.specs.ReadDeclarations as r
use Rattle.spl_items.proofs.data.more_items.Given as goal

-- the turns that are left read the rest
abbrev pub invariant-loop-turn : goal.invariant-loop-turn
invariant-loop-turn l = turns (r.more_parts r.item) (l._turn-end - l._turn) (lists.items l.read) l.tokens
    ≡ repeat (r.more_parts r.item) (lists.items l.initial.read) l.initial.tokens
