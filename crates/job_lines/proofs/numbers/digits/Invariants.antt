use Rattle.std.proofs.Common.{◌≡◌, ◌<◌, ◌^◌, drop}
use Rattle.job_lines.specs.Numbers.{digits_after}
use Rattle.job_lines.proofs.numbers.digits.Given as goal

-- the digits left make of the value so far what all make
abbrev pub invariant-loop-d : goal.invariant-loop-d
invariant-loop-d l = record {
  small : l.value < 10 ^ l.d-index;
  same : digits_after l.value (drop l.d-index l.word) ≡ digits_after 0 l.word;
}
