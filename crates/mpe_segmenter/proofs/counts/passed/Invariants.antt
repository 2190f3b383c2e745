use Rattle.std.proofs.Common.{◌≡◌, ◌≤◌, drop}
use Rattle.mpe_segmenter.specs.Counts.{passed_by}
use Rattle.mpe_segmenter.proofs.counts.passed.Given as goal

-- the sum so far has not passed, and with the modules left it passes where all do
abbrev pub invariant-loop-one : goal.invariant-loop-one
invariant-loop-one l = record {
  low : l.sum ≤ 16383;
  left : passed_by l.sum (drop l.one-index l.modules) ≡ passed_by l.before l.modules;
}
