use Rattle.std.proofs.Common.{◌≡◌, drop}
use Rattle.mpe_segmenter.specs.Entries.{all_wants}
use Rattle.mpe_segmenter.specs.Walks.{with_wants}
use Rattle.mpe_segmenter.proofs.entries.want_modules.Given as goal

-- what is wanted so far and the wants of the modules left are all
abbrev pub invariant-loop-one : goal.invariant-loop-one
invariant-loop-one l = with_wants l.called l.wanted (all_wants (drop l.one-index l.modules)) ≡ with_wants l.called l.fn.wanted (all_wants l.modules)
