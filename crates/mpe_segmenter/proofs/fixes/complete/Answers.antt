-- Each fix is put into its word, at which no earlier one stands.
use Rattle.std.proofs.Common.{sym}
use Rattle.spl_branch.specs.declared.modules.FixKind.TheVariants as kind
use Rattle.mpe_segmenter.specs.Segments.{entries_by}
use Rattle.mpe_segmenter.proofs.LaidLemmas.{laid_none, laid_more}
use Rattle.mpe_segmenter.proofs.fixes.complete.Goals as goal

pub loop-fix-init : goal.loop-fix-init
loop-fix-init c = sym (laid_none c.args.words.now c.args.base (entries_by c.args.first c.args.wants.now) 0)

pub loop-fix-preserved : goal.loop-fix-preserved
loop-fix-preserved c =
    laid_more c.args.words.now c.args.base (entries_by c.args.first c.args.wants.now) c.args.fixes.now c.loop-fix.fix-index (record { offset = 0; kind = kind.Define; index = 0 }) c.loop-fix.words c.completed.result c.requires.apart c.loop-fix-test.true c.loop-fix.invariant c.completed.ensures
