-- A loop over units.
use Rattle.std.proofs.Common.{◌≡◌, ◌++◌, map, drop}
use Rattle.spl_tree.specs.Views.{letters}
use Rattle.spl_module_code.specs.spl_sound.Spelled.{source_of}
use Rattle.spl_module_code.specs.Modules.{program_uses}
use Rattle.spl_unit_codes.proofs.picking.used_segments.Given as goal

-- the names so far, and those of the units from here on, are those of all
abbrev pub invariant-loop-unit : goal.invariant-loop-unit
invariant-loop-unit l = map letters l.names.items ++ program_uses (map source_of (drop l.unit-index l.units)) ≡ program_uses (map source_of l.units)
