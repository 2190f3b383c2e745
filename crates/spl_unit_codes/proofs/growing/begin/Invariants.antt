-- A loop over the segments of a unit.
use Rattle.spl_module_code.specs.spl_sound.Spelled.{source_of}
use Rattle.spl_module_code.specs.spl_modules.Walks.{walk_of}
use Rattle.spl_unit_codes.proofs.Begins.{FirstBegun}
use Rattle.spl_unit_codes.proofs.growing.begin.Given as goal

-- the codes of those so far
abbrev pub invariant-loop-number : goal.invariant-loop-number
invariant-loop-number l = FirstBegun (source_of l.unit) (walk_of l.entries).entered.made l.number l.parts.items
