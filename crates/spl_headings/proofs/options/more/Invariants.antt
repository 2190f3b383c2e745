use Rattle.std.proofs.Common.{◌≡◌, ◌-◌}
use Rattle.spl_reading.specs.Readers.{turns, repeat}
use Rattle.spl_headings.specs.Headings.{options}
use Rattle.spl_reading.specs.ReadDeclarations as r
use Rattle.spl_headings.proofs.options.more.Given as goal

-- the turns that are left read the rest
abbrev pub invariant-loop-turn : goal.invariant-loop-turn
invariant-loop-turn l = turns (r.more_options) (l._turn-end - l._turn) (options l.options) l.tokens
    ≡ repeat (r.more_options) (options l.initial.options) l.initial.tokens
