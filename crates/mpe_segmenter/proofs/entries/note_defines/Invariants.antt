use Rattle.std.proofs.Common.{◌≡◌, ◌+◌, drop}
use Rattle.mpe_segmenter.specs.Walks.{with_defines}
use Rattle.mpe_segmenter.proofs.entries.note_defines.Given as goal

-- the names so far and those of the defines left are all
abbrev pub invariant-loop-k : goal.invariant-loop-k
invariant-loop-k l = with_defines l.called (l.first + l.k) (drop l.k l.defines) ≡ with_defines l.fn.called l.first l.defines
