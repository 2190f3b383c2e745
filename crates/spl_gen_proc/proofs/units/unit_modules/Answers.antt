-- All that a unit comes to.
use Rattle.std.proofs.Common.{map}
use Rattle.spl_tree.specs.Views.{letters}
use Rattle.spl_sound.specs.Spelled.{source_of}
use Rattle.spl_unit_laws.specs.spl_modules.Walks.{walk_of}
use Rattle.spl_unit_laws.specs.spl_body_scopes.Levels.{level_of}
use Rattle.spl_unit_walks.proofs.UnitParts.{unit_appended}
use Rattle.spl_gen_proc.proofs.units.unit_modules.Goals as goal

pub returns : goal.returns
returns c =
    unit_appended (map letters c.args.names.now) (source_of c.args.unit.now) c.args.at c.in_ok-next.next (walk_of c.in_ok-entries.entries)
    (level_of c.in_ok-whole.whole) c.args.rooms.now c.args.modules.now.items c.unit_made.new.modules.items c.in_ok-entries.ensures c.in_ok-whole.ensures c.in_ok-next.ensures
