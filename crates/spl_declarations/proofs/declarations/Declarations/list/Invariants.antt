use Rattle.std.proofs.Common.{◌≡◌, ◌-◌}
use Rattle.spl_reading.specs.Readers.{turns, repeat}
use Rattle.spl_listed.specs.Lists as lists
use Rattle.spl_declarations.specs.Nests as nests
use Rattle.spl_declarations.proofs.declarations.Declarations.list.Given as goal

-- the turns that are left read the rest
abbrev pub invariant-loop-turn : goal.invariant-loop-turn
invariant-loop-turn g l = turns (nests.more_declarations l.self.room l.self.unit l.segment) (l._turn-end - l._turn)
    (lists.state (l.after, l.read)) l.tokens
    ≡ repeat (nests.more_declarations l.self.room l.self.unit l.segment) (lists.state
    (l.initial.after, l.initial.read)) l.initial.tokens
