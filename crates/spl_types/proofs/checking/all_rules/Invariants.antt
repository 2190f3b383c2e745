use Rattle.std.proofs.Common.{◌≡◌, map, []}
use Rattle.spl_sound.specs.Spelled.{source_of}
use Rattle.spl_uses.specs.spl_found.FoundUnits.{walked_units}
use Rattle.spl_types.proofs.CheckLaws.{units_left}
use Rattle.spl_types.proofs.checking.all_rules.Given as goal

-- what is found from here in the units that are left is what is found in all
abbrev pub invariant-loop-i : goal.invariant-loop-i
invariant-loop-i l = units_left l.units l.i l.report ≡ walked_units [] (map source_of l.units) l.initial.report
