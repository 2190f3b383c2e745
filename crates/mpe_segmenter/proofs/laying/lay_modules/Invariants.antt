use Rattle.std.proofs.Common.{◌≡◌, ◌≤◌, ◌+◌, ◌++◌, length}
use Rattle.mpe_segmenter.specs.Entries.{owned}
use Rattle.mpe_segmenter.specs.Entered.{entry_by}
use Rattle.mpe_segmenter.specs.Segments.{body_from}
use Rattle.mpe_segmenter.specs.Counts.{sizes}
use Rattle.mpe_segmenter.proofs.laying.lay_modules.Given as goal

-- the words so far and those of the modules left are all
abbrev pub invariant-loop-one : goal.invariant-loop-one
invariant-loop-one l = record {
  few : l.first + owned l.one-iterator.rest.items ≤ 128;
  within : length l.words.items + sizes l.one-iterator.rest.items ≤ 16383;
  made : l.words.items ++ body_from (entry_by l.entries.own l.entries.called l.entries.wanted) (length l.words.items) l.first l.one-iterator.rest.items
      ≡ body_from (entry_by l.entries.own l.entries.called l.entries.wanted) 0 1 l.fn.modules.items;
}
