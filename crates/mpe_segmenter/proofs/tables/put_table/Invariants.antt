use Rattle.std.proofs.Common.{◌≡◌, ◌++◌, take, reverse}
use Rattle.mpe_segmenter.proofs.tables.put_table.Given as goal

-- the labels so far, from the last on
abbrev pub invariant-loop-k : goal.invariant-loop-k
invariant-loop-k l = l.words.items ≡ l.fn.words.items ++ take l.k (reverse l.labels)
