-- A loop over units.
use Rattle.std.proofs.Common.{◌≡◌, map, drop}
use Rattle.spl_areas.specs.spl_sound.Spelled.{source_of}
use Rattle.spl_initials.specs.Memory.{memory_of}
use Rattle.spl_globals.specs.Stored.{units_stored}
use Rattle.spl_globals.proofs.units.units_stored.Given as goal

-- what is stored with the units from here on is what is stored with all
abbrev pub invariant-loop-unit : goal.invariant-loop-unit
invariant-loop-unit l =
    units_stored l.pass l.next (map source_of (drop l.unit-index l.units)) (memory_of l.words)
    ≡ units_stored l.pass l.fn.at (map source_of l.units) (memory_of l.initial.words)
