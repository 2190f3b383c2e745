-- A loop over codes.
use Rattle.std.proofs.Common.{◌≡◌, ◌++◌}
use Rattle.spl_unit_codes.specs.Slots.{AreSlots}
use Rattle.spl_unit_codes.proofs.growing.finish.Given as goal

-- the slots of the codes so far; the others are left
abbrev pub invariant-loop-part : goal.invariant-loop-part
invariant-loop-part l = record {
  slots : AreSlots l.yielded l.slots.items;
  all : l.yielded ++ l.part-iterator.rest.items ≡ l.fn.parts.items;
}
