use Rattle.std.proofs.Common.{◌≡◌, ◌≤◌, ◌+◌, drop}
use Rattle.mpe_segmenter.specs.Entries.{owned}
use Rattle.mpe_segmenter.specs.Programs.{main_at}
use Rattle.mpe_segmenter.proofs.mains.main_entry.Given as goal

-- the main body is among the modules left, if it is in any
abbrev pub invariant-loop-one : goal.invariant-loop-one
invariant-loop-one l = record {
  few : l.first + owned (drop l.one-index l.modules) ≤ 128;
  left : main_at l.first (drop l.one-index l.modules) ≡ main_at 1 l.modules;
}
