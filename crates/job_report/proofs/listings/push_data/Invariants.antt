use Rattle.std.proofs.Common.{◌≡◌, ◌++◌, drop}
use Rattle.job_report.specs.Listings.{data_lines}
use Rattle.job_report.proofs.listings.push_data.Given as goal

-- what is told, with the words that are left, is all
abbrev pub invariant-loop-offset : goal.invariant-loop-offset
invariant-loop-offset l = l.text.items ++ data_lines l.offset (drop l.offset l.words) ≡ l.initial.text.items ++ data_lines 0 l.words
