-- A loop over units.
use Rattle.std.proofs.Common.{◌≡◌, ◌++◌, map, drop}
use Rattle.spl_sound.specs.Spelled.{source_of}
use Rattle.spl_places.specs.ListedData.{datum_of}
use Rattle.spl_places.specs.Programs as programs
use Rattle.spl_areas.proofs.gather.all_globals.Given as goal

-- the items so far and those from here on are all
abbrev pub invariant-loop-unit : goal.invariant-loop-unit
invariant-loop-unit l =
    map datum_of l.all.items ++ programs.all_globals (map source_of (drop l.unit-index l.units)) ≡ programs.all_globals (map source_of l.units)
