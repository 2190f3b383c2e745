-- A loop over units.
use Rattle.std.proofs.Common.{◌≡◌, map, drop}
use Rattle.spl_sound.specs.Spelled.{source_of}
use Rattle.spl_places.specs.Gathered.{passed_in_units}
use Rattle.spl_areas.proofs.limits.units_passed.Given as goal

-- the first limit with the units from here on is that with all
abbrev pub invariant-loop-unit : goal.invariant-loop-unit
invariant-loop-unit l =
    passed_in_units (map source_of (drop l.unit-index l.units)) l.first ≡ passed_in_units (map source_of l.units) l.initial.first
