-- The labels of the modules' own entries, and behind them those of the names that are wanted.
use Rattle.std.proofs.Common.{◌∙◌, ◌++◌, List, ℕ, map, ap}
use Rattle.mpe_segmenter.specs.Entries.{owns, table_of}
use Rattle.mpe_segmenter.specs.Segments.{own_bits}
use Rattle.mpe_segmenter.specs.Programs.{tables_of}
use Rattle.mpe_segmenter.specs.SegmentViews.{segments_in}
use Rattle.mpe_segmenter.proofs.LabelLemmas.{wanted_words, labels_are}
use Rattle.mpe_segmenter.proofs.labels.labels_of.Goals as goal

pub returns : goal.returns
returns c =
    c.in_ok-put_wanted.ensures
    ∙ ap (λ (ws : List ℕ). c.put_modules.new.labels.items ++ ws) (wanted_words (tables_of (segments_in c.args.segments.now)) c.keys.result.now (table_of c.args.segment.now.modules.items).wanted (c.keys.ensures ∙ c.args.segment.now.entered.wants))
    ∙ labels_are (tables_of (segments_in c.args.segments.now)) c.args.segment.now.modules.items c.put_modules.new.labels.items (c.in_ok-put_modules.ensures ∙ ap (λ (ws : List ℕ). ws ++ map own_bits (owns 0 c.as_slice.result.now)) c.new-labels.ensures.items ∙ ap (λ ms. map own_bits (owns 0 ms)) c.as_slice.ensures.value)
