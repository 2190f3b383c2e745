-- A loop over the segments of a unit.
use Rattle.std.proofs.Common.{◌≡◌, map, drop}
use Rattle.spl_tree.specs.Views.{letters}
use Rattle.spl_module_code.specs.spl_meaning.Names.{find}
use Rattle.spl_module_code.specs.spl_places.NameMaps.{entries_of, behind_table}
use Rattle.spl_module_code.specs.Modules.{numbered}
use Rattle.spl_unit_codes.proofs.picking.segment_numbers.Given as goal

-- the names so far, and behind them those from here on, are all
abbrev pub invariant-loop-number : goal.invariant-loop-number
invariant-loop-number l =
    behind_table (find (entries_of l.numbers)) (numbered l.number (map letters (drop l.number l.name-items)))
    ≡ find (numbered 0 (map letters l.name-items))
