use Rattle.std.proofs.Common.{◌≡◌, ◌+◌, ◌≤◌, length}
use Rattle.job_lines.specs.Lines.{lines}
use Rattle.job_text.specs.Verdicts.{verdict_from}
use Rattle.job_text.specs.Views.{state_of}
use Rattle.job_text.proofs.reader.read_lines.Given as goal

-- what is left of the text comes to what all of it does, and each line had a byte at least
abbrev pub invariant-loop-line : goal.invariant-loop-line
invariant-loop-line l = record {
  same : verdict_from l.prep l.number (lines l.left) (state_of l.reading) ≡ verdict_from l.prep 1 (lines l.text) (state_of l.initial.reading);
  few : l.number + length l.left ≤ length l.text + 1;
}

abbrev pub decreases-loop-line : goal.decreases-loop-line
decreases-loop-line l = length l.left
