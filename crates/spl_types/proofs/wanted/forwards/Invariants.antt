use Rattle.std.proofs.Common.{◌≡◌}
use Rattle.spl_sound.specs.spl_meaning.Names.{find}
use Rattle.spl_sorts.specs.Tables.{table_of}
use Rattle.spl_types.proofs.ForwardLaws.{bodies_last, found_last}
use Rattle.spl_types.proofs.wanted.forwards.Given as goal

-- the bodies among those looked at, and what is found along them
abbrev pub invariant-loop-i : goal.invariant-loop-i
invariant-loop-i l =
    (find (table_of l.bodies) ≡ bodies_last l.items l.i) × (l.report ≡ found_last l.items l.i l.initial.report)
