-- What was found module by module are the entries.
use Rattle.std.proofs.Common.{◌∙◌, ap}
use Rattle.mpe_segmenter.specs.Entries.{all_wants}
use Rattle.mpe_segmenter.specs.Walks.{with_modules, with_wants}
use Rattle.mpe_segmenter.proofs.EntryLemmas.{entered}
use Rattle.mpe_segmenter.proofs.entries.entries_of.Goals as goal

pub returns : goal.returns
returns c =
    entered c.args.modules.now c.in_ok-own.own c.note_modules.new.called c.want_modules.new.wanted c.in_ok-own.ensures.own
    (c.in_ok-own.ensures.called ∙ ap (λ es. with_modules es 0 c.args.modules.now) c.new-called.ensures)
    (c.in_ok-want_modules.ensures ∙ ap (λ vs. with_wants c.note_modules.new.called vs (all_wants c.args.modules.now)) c.new-wanted.ensures)
