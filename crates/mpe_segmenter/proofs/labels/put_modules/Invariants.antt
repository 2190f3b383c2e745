use Rattle.std.proofs.Common.{◌≡◌, ◌≤◌, ◌+◌, ◌++◌, map, drop, true}
use Rattle.std.specs.List.{list_all}
use Rattle.mpe_segmenter.specs.Entries.{owns}
use Rattle.mpe_segmenter.specs.Segments.{own_bits}
use Rattle.mpe_segmenter.specs.Counts.{sizes, is_well_formed}
use Rattle.mpe_segmenter.proofs.labels.put_modules.Given as goal

-- the labels so far and those of the modules left are all
abbrev pub invariant-loop-one : goal.invariant-loop-one
invariant-loop-one l = record {
  within : l.base + sizes (drop l.one-index l.modules) ≤ 16383;
  formed : list_all is_well_formed (drop l.one-index l.modules) ≡ true;
  made : l.labels.items ++ map own_bits (owns l.base (drop l.one-index l.modules)) ≡ l.fn.labels.items ++ map own_bits (owns 0 l.modules);
}
