use Rattle.std.proofs.Common.{◌≡◌, ◌-◌}
use Rattle.spl_reading.specs.Readers.{turns, repeat}
use Rattle.spl_reading.specs.ReadStatements.{more_statements}
use Rattle.spl_effects.specs.References.{statements}
use Rattle.spl_statements.specs.Nests.{inner}
use Rattle.spl_statements.proofs.statements.Statements.more.Given as goal

-- the turns that are left read the rest
abbrev pub invariant-loop-turn : goal.invariant-loop-turn
invariant-loop-turn g l = turns (more_statements (inner l.self.room)) (l._turn-end - l._turn)
    (statements l.read) l.tokens
    ≡ repeat (more_statements (inner l.self.room)) (statements l.initial.read) l.initial.tokens
