-- A segment that fits has room, and its entries are those of its table.
use Rattle.std.proofs.Common.{◌∙◌, ◌++◌, ℕ, List, ap, arith}
use Rattle.mpe_segmenter.specs.Segments.{table_words}
use Rattle.mpe_segmenter.specs.SegmentViews.{segment_in}
use Rattle.mpe_segmenter.proofs.EntryLemmas.{length-owns}
use Rattle.mpe_segmenter.proofs.FitLemmas.{fits}
use Rattle.mpe_segmenter.proofs.LayLemmas.{has_room, body_is}
use Rattle.mpe_segmenter.proofs.laying.lay_segment.Goals as goal

pub lay_modules-requires-clause-room : goal.lay_modules-requires-clause-room
lay_modules-requires-clause-room c =
    has_room c.args.segment.modules.items c.args.segment.entries.own c.args.segment.entries.called c.args.segment.entries.wanted c.args.segment.entered (fits (segment_in c.args.segment) c.requires.fits).entries

pub lay_modules-requires-clause-own : goal.lay_modules-requires-clause-own
lay_modules-requires-clause-own c = omega (arith, length-owns c.args.segment.modules.items 0, (fits (segment_in c.args.segment) c.requires.fits).entries)

pub returns : goal.returns
returns c =
    c.in_ok-put_table.ensures
    ∙ ap (λ (ws : List ℕ). ws ++ table_words c.args.labels.now) (c.in_ok-words.ensures ∙ body_is c.args.segment.modules.items c.args.segment.entries.own c.args.segment.entries.called c.args.segment.entries.wanted c.args.segment.entered)
