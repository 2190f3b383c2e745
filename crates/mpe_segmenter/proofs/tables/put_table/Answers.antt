-- Labels are appended from the last on.
use Rattle.std.proofs.Common.{◌∙◌, refl}
use Rattle.mpe_segmenter.proofs.LaidLemmas.{labels_more}
use Rattle.mpe_segmenter.proofs.tables.put_table.Goals as goal

pub loop-k-preserved : goal.loop-k-preserved
loop-k-preserved c =
    labels_more c.args.labels.now c.loop-k.k c.args.words.now.items c.push.new.self.items c.loop-k-test.true
    (c.in_ok-push.ensures.items ∙ rw c.loop-k.invariant refl)
