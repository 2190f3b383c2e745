use Rattle.std.proofs.Common.{◌≡◌, ◌+◌, drop, if◌then◌else◌}
use Rattle.mpe_segmenter.specs.Faults.{mains}
use Rattle.mpe_segmenter.proofs.faults.main_fault.Given as goal

-- the main bodies so far and those of the modules left are all
abbrev pub invariant-loop-module : goal.invariant-loop-module
invariant-loop-module l = (if l.found then 1 else 0) + mains (drop l.module-index l.modules) ≡ mains l.modules
