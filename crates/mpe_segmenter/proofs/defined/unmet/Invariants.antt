use Rattle.std.proofs.Common.{◌≡◌, drop}
use Rattle.mpe_segmenter.specs.Faults.{first_unmet}
use Rattle.mpe_segmenter.proofs.defined.unmet.Given as goal

-- the first unmet of those left is the first of all
abbrev pub invariant-loop-want : goal.invariant-loop-want
invariant-loop-want l = first_unmet l.names (drop l.want-index l.wants) ≡ first_unmet l.names l.wants
