use Rattle.std.proofs.Common.{◌≡◌, map, take}
use Rattle.mpe_segmenter.specs.Entries.{wanted_of}
use Rattle.mpe_segmenter.specs.Entered.{entry_by}
use Rattle.mpe_segmenter.proofs.laying.entries_of.Given as goal

-- the entries of the wants so far
abbrev pub invariant-loop-want : goal.invariant-loop-want
invariant-loop-want l = l.found.items ≡ map (λ w. entry_by l.entries.own l.entries.called l.entries.wanted (wanted_of w)) (take l.want-index l.wants)
