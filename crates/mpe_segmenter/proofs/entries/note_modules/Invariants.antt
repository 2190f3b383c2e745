use Rattle.std.proofs.Common.{◌≡◌, ◌+◌, drop}
use Rattle.mpe_segmenter.specs.Entries.{owned}
use Rattle.mpe_segmenter.specs.Walks.{with_modules}
use Rattle.mpe_segmenter.proofs.entries.note_modules.Given as goal

-- the names and entries so far and those of the modules left are all
abbrev pub invariant-loop-one : goal.invariant-loop-one
invariant-loop-one l = record {
  called : with_modules l.called l.own (drop l.one-index l.modules) ≡ with_modules l.fn.called 0 l.modules;
  own : l.own + owned (drop l.one-index l.modules) ≡ owned l.modules;
}
