-- A loop over the modules that are not there yet.
use Rattle.std.proofs.Common.{◌≡◌, ◌≤◌, ◌+◌, length}
use Rattle.spl_modules.specs.Entered.{entered_of}
use Rattle.spl_modules.proofs.modules.reach.Given as goal

-- there are as many modules as have been counted, and nothing is entered
abbrev pub invariant-loop : goal.invariant-loop
invariant-loop l = record {
  end : l.end ≡ l.fn.segment + 1;
  long : l.counter ≤ length l.modules.items;
  same : entered_of l.modules.items ≡ entered_of l.fn.modules.items;
}
