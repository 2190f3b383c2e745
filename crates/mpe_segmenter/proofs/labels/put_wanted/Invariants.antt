use Rattle.std.proofs.Common.{◌≡◌, ◌++◌, map, drop}
use Rattle.hp_instr.specs.Labels.{label_bits}
use Rattle.mpe_segmenter.specs.Segments.{wanted_label}
use Rattle.mpe_segmenter.specs.Programs.{tables_of}
use Rattle.mpe_segmenter.specs.PlaceViews.{seen}
use Rattle.mpe_segmenter.specs.SegmentViews.{segments_in}
use Rattle.mpe_segmenter.proofs.labels.put_wanted.Given as goal

-- the labels so far and those of the names left are all
abbrev pub invariant-loop-key : goal.invariant-loop-key
invariant-loop-key l =
    l.labels.items ++ map (λ k. label_bits (wanted_label (tables_of (segments_in l.segments)) (seen k))) (drop l.key-index l.keys)
    ≡ l.fn.labels.items ++ map (λ k. label_bits (wanted_label (tables_of (segments_in l.segments)) (seen k))) l.keys
