-- A loop over units.
use Rattle.std.proofs.Common.{◌≡◌, ◌++◌, map, drop}
use Rattle.spl_sound.specs.spl_meaning.Limits.{joined}
use Rattle.spl_sound.specs.Spelled.{source_of}
use Rattle.spl_rooms.specs.Walked.{unit_rooms}
use Rattle.spl_rooms.proofs.units.all_rooms.Given as goal

-- the rooms so far and those of the units from here on are all
abbrev pub invariant-loop-unit : goal.invariant-loop-unit
invariant-loop-unit l = l.all.items ++ joined unit_rooms (map source_of (drop l.unit-index l.units)) ≡ joined unit_rooms (map source_of l.units)
