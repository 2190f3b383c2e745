use Rattle.std.proofs.Common.{◌≡◌, take}
use Rattle.mpe_segmenter.specs.Segments.{laid_from, entries_by}
use Rattle.mpe_segmenter.proofs.fixes.complete.Given as goal

-- the words with the fixes so far put in
abbrev pub invariant-loop-fix : goal.invariant-loop-fix
invariant-loop-fix l = l.words ≡ laid_from l.base (entries_by l.first l.wants) (take l.fix-index l.fixes) 0 l.initial.words
