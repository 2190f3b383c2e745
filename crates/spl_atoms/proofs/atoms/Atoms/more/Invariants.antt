use Rattle.std.proofs.Common.{◌≡◌, ◌-◌}
use Rattle.spl_reading.specs.Readers.{turns, repeat}
use Rattle.spl_parts.specs.Parts.{expressions}
use Rattle.spl_atoms.specs.Nests.{more_arguments}
use Rattle.spl_atoms.proofs.atoms.Atoms.more.Given as goal

-- the turns that are left read the rest
abbrev pub invariant-loop-turn : goal.invariant-loop-turn
invariant-loop-turn g l = turns (more_arguments l.self.room l.taken) (l._turn-end - l._turn)
    (expressions l.args) l.tokens
    ≡ repeat (more_arguments l.self.room l.taken) (expressions l.initial.args) l.initial.tokens
