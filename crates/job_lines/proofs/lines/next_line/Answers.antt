-- The first line ends at the first line feed.
use Rattle.std.proofs.Common.{◌+◌, sym, ◌∙◌}
use Rattle.job_lines.proofs.LineLemmas.{lines_more, all_taken}
use Rattle.job_lines.proofs.lines.next_line.Goals as goal

pub returns-in-Some-clause-lines : goal.returns-in-Some-clause-lines
returns-in-Some-clause-lines c =
    rw (c.without_return.ensures, all_taken c.args.text.now (c.in-Some.i + 1)) (lines_more c.args.text.now c.in-Some.i (sym c.feed.ensures ∙ c.in-Some.is))
