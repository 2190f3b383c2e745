-- The programs so far are copied.
use Rattle.std.proofs.Common.{take}
use Rattle.hp3000_top.specs.Steps.{AreCopies}
use Rattle.hp3000_top.proofs.running.copies.Given as goal

abbrev pub invariant-loop-program : goal.invariant-loop-program
invariant-loop-program l = AreCopies (take l.program-index l.programs) l.copies.items
