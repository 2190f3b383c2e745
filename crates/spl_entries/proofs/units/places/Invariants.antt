-- A loop over units.
use Rattle.std.proofs.Common.{◌≡◌, ◌++◌, map, drop}
use Rattle.spl_globals.specs.spl_sound.Spelled.{source_of}
use Rattle.spl_entries.specs.Entries.{entries_of, units_entries}
use Rattle.spl_entries.proofs.units.places.Given as goal

-- the places so far and those of the units from here on are all
abbrev pub invariant-loop-unit : goal.invariant-loop-unit
invariant-loop-unit l = l.all.items ++ units_entries l.next (map source_of (drop l.unit-index l.units)) ≡ entries_of (map source_of l.units)
