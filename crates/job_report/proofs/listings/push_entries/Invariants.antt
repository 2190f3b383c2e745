use Rattle.std.proofs.Common.{◌≡◌, ◌+◌, ◌-◌, ◌++◌}
use Rattle.hp_program.specs.Valid.{entries_of}
use Rattle.job_report.specs.Listings.{entry_lines}
use Rattle.job_report.proofs.listings.push_entries.Given as goal

-- what is told, with the entries that are left, is all
abbrev pub invariant-loop-k : goal.invariant-loop-k
invariant-loop-k l =
    l.text.items ++ entry_lines l.words (l.k + 1) (entries_of l.words - l.k) ≡ l.initial.text.items ++ entry_lines l.words 1 (entries_of l.words)
