-- A line that breaks a rule is the first fault of what is left, and so of all.
use Rattle.std.proofs.Common.{◌∙◌, sym}
use Rattle.job_lines.specs.Lines.{lines}
use Rattle.job_text.specs.Views.{state_of}
use Rattle.job_text.proofs.ReadingLemmas.{line_refused}
use Rattle.job_text.proofs.reader.read_lines.Goals as goal

pub returns-in-Some-2 : goal.returns-in-Some-2
returns-in-Some-2 c =
    sym c.loop-line.invariant.same
    ∙ line_refused c.args.prep c.loop-line.number (lines c.loop-line.left.now) c.in-Some.line.now (lines c.in-Some.rest.now) (state_of c.loop-line.reading)
    c.in-Some-2.rule c.in-Some.ensures.lines (rw c.in-Some-2.is at c.in_ok-rule.ensures)
