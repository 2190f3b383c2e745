use Rattle.std.proofs.Common.{◌≡◌, map, drop}
use Rattle.mpe_segmenter.specs.Entries.{wanted_of}
use Rattle.mpe_segmenter.specs.Walks.{with_wants}
use Rattle.mpe_segmenter.proofs.entries.want_all.Given as goal

-- what is wanted so far and the wants left are all
abbrev pub invariant-loop-want : goal.invariant-loop-want
invariant-loop-want l = with_wants l.called l.wanted (map wanted_of (drop l.want-index l.wants)) ≡ with_wants l.called l.fn.wanted (map wanted_of l.wants)
