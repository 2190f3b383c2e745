use Rattle.std.proofs.Common.{◌≡◌}
use Rattle.mpe_segmenter.specs.Names.{parts}
use Rattle.mpe_segmenter.specs.PartViews.{parts_in, names_in}
use Rattle.mpe_segmenter.proofs.parts.parted.Given as goal

-- the segments of the modules so far
abbrev pub invariant-loop-module : goal.invariant-loop-module
invariant-loop-module l = record {
  parts : parts_in l.parts.items ≡ parts l.yielded;
  names : l.names ≡ names_in l.parts.items;
}
