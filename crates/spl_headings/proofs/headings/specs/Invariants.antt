use Rattle.std.proofs.Common.{◌≡◌, ◌-◌}
use Rattle.spl_reading.specs.Readers.{turns, repeat}
use Rattle.spl_listed.specs.Lists as lists
use Rattle.spl_reading.specs.ReadDeclarations as r
use Rattle.spl_headings.proofs.headings.specs.Given as goal

-- the turns that are left read the rest
abbrev pub invariant-loop-turn : goal.invariant-loop-turn
invariant-loop-turn l = turns (r.more_specs) (l._turn-end - l._turn) (lists.specs l.read) l.tokens
    ≡ repeat (r.more_specs) (lists.specs l.initial.read) l.initial.tokens
