use Rattle.mpe_segmenter.proofs.FitLemmas.{local_formed}
use Rattle.mpe_segmenter.proofs.labels.local_word.Goals as goal

-- an offset below 16,384 has a label
pub label_word-requires : goal.label_word-requires
label_word-requires c = local_formed c.args.offset c.requires
