use Rattle.std.proofs.Common.{◌≡◌, ◌-◌}
use Rattle.spl_reading.specs.Readers.{turns, repeat}
use Rattle.spl_listed.specs.Lists as lists
use Rattle.spl_reading.specs.ReadDeclarations as r
use Rattle.spl_items.proofs.equates.more_terms.Given as goal

-- the turns that are left read the rest
abbrev pub invariant-loop-turn : goal.invariant-loop-turn
invariant-loop-turn l = turns (r.more_terms) (l._turn-end - l._turn) (lists.terms l.read) l.tokens
    ≡ repeat (r.more_terms) (lists.terms l.initial.read) l.initial.tokens
