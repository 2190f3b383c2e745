use Rattle.std.proofs.Common.{◌≡◌, ◌+◌, drop}
use Rattle.mpe_segmenter.specs.Entered.{total}
use Rattle.mpe_segmenter.proofs.counts.are_few.Given as goal

-- what is left for the modules left
abbrev pub invariant-loop-one : goal.invariant-loop-one
invariant-loop-one l = total l.modules + l.left ≡ 4294967295 + total (drop l.one-index l.modules)
