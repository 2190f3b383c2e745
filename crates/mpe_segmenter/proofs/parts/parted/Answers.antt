-- Each turn puts a module into its segment.
use Rattle.std.proofs.Common.{◌∙◌, sym, ap}
use Rattle.mpe_segmenter.specs.Walks.{with_module}
use Rattle.mpe_segmenter.proofs.PartLemmas.{parts_push}
use Rattle.mpe_segmenter.proofs.parts.parted.Goals as goal

pub loop-module-preserved : goal.loop-module-preserved
loop-module-preserved c = record {
  parts = c.in_ok-put.ensures.parts ∙ ap (λ ps. with_module ps c.in-Some.module) c.loop-module.invariant.parts ∙ sym (parts_push c.loop-module.yielded c.in-Some.module);
  names = c.in_ok-put.ensures.names;
}
