use Rattle.std.proofs.Common.{◌≡◌, ◌-◌}
use Rattle.spl_reading.specs.Readers.{turns, repeat}
use Rattle.spl_listed.specs.Lists as lists
use Rattle.spl_reading.specs.ReadDeclarations as r
use Rattle.spl_items.proofs.data.more_arrays.Given as goal

-- the turns that are left read the rest
abbrev pub invariant-loop-turn : goal.invariant-loop-turn
invariant-loop-turn l = turns (r.more_arrays) (l._turn-end - l._turn) (lists.arrays (l.read, l.last)) l.tokens
    ≡ repeat (r.more_arrays) (lists.arrays (l.initial.read, l.initial.last)) l.initial.tokens
