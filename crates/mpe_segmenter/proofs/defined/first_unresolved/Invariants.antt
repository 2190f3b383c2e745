use Rattle.std.proofs.Common.{◌≡◌, drop}
use Rattle.mpe_segmenter.specs.Faults.{unmet_from}
use Rattle.mpe_segmenter.proofs.defined.first_unresolved.Given as goal

-- the first unmet of the modules left is the first of all
abbrev pub invariant-loop-module : goal.invariant-loop-module
invariant-loop-module l = unmet_from l.names (drop l.module-index l.modules) ≡ unmet_from l.names l.modules
