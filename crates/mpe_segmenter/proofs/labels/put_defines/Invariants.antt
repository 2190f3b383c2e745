use Rattle.std.proofs.Common.{◌≡◌, ◌++◌, map, drop, true}
use Rattle.std.specs.Prelude.{nat_lt}
use Rattle.std.specs.List.{list_all}
use Rattle.mpe_segmenter.specs.Entries.{own_of}
use Rattle.mpe_segmenter.specs.Segments.{own_bits}
use Rattle.mpe_segmenter.proofs.labels.put_defines.Given as goal

-- the labels so far and those of the defines left are all
abbrev pub invariant-loop-define : goal.invariant-loop-define
invariant-loop-define l = record {
  below : list_all (λ d. nat_lt d.offset l.size) (drop l.define-index l.defines) ≡ true;
  made : l.labels.items ++ map own_bits (map (own_of l.base) (drop l.define-index l.defines)) ≡ l.fn.labels.items ++ map own_bits (map (own_of l.base) l.defines);
}
