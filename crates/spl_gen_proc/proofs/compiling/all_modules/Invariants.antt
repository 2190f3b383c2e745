-- A loop over units.
use Rattle.std.proofs.Common.{map, drop}
use Rattle.spl_tree.specs.Views.{letters}
use Rattle.spl_sound.specs.Spelled.{source_of}
use Rattle.spl_unit_walks.proofs.UnitsWalks.{UnitsWalk}
use Rattle.spl_gen_proc.proofs.compiling.all_modules.Given as goal

-- these units are left
abbrev pub invariant-loop-unit : goal.invariant-loop-unit
invariant-loop-unit l =
    UnitsWalk l.rooms (map letters l.names) (map source_of l.units) (map source_of (drop l.unit-index l.units)) l.fn.start l.at l.modules.items
