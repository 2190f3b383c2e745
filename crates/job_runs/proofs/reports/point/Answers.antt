use Rattle.std.proofs.Common.{map, get_or, [], sym, ap, ◌∙◌}
use Rattle.job_text.specs.declared.job.Text.{Text}
use Rattle.mpe_turns.specs.hp_tos.Representation.{seen_of}
use Rattle.job_text.specs.Views.{text_value}
use Rattle.job_runs.specs.Reported.{names_of}
use Rattle.job_runs.proofs.PointLemmas.{name_at, same_reported}
use Rattle.job_runs.proofs.reports.point.Goals as goal

pub returns : goal.returns
unfolding seen_of
returns c = λ codes.
    let s = c.args.session.now in
    same_reported c.new.result.text.items (get_or (names_of (map text_value c.args.programs.now)) s.program []) c.in_ok-bytes.bytes.items s.terminal.printed.items s.ending s.steps
    s.cpu.stack.fills s.cpu.stack.spills
    (c.new.ensures ∙ c.deref-2.ensures.0 ∙ ap (λ (t : Text). t.name.text.items) (sym c.index-programs-session.is)
    ∙ sym (name_at c.args.programs.now s.program c.index-programs-session.result c.requires c.index-programs-session.is))
    (c.in_ok-bytes.ensures.items ∙ c.deref.ensures.value)
