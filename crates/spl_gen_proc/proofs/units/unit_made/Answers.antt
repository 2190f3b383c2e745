-- The marks that a unit begins with may be set, and its parts are its modules.
use Rattle.std.proofs.Common.{map}
use Rattle.spl_tree.specs.Views.{letters}
use Rattle.spl_sound.specs.Spelled.{source_of}
use Rattle.spl_unit_laws.specs.spl_modules.Walks.{walk_of}
use Rattle.spl_unit_laws.specs.spl_body_scopes.Levels.{level_of}
use Rattle.spl_unit_walks.specs.Views.{fixed_of}
use Rattle.spl_unit_walks.proofs.Begins.{free_begun}
use Rattle.spl_unit_walks.proofs.UnitParts.{unit_is_made, bodies_complete}
use Rattle.spl_gen_proc.proofs.units.unit_made.Goals as goal

pub unit_bodies-requires-clause-free : goal.unit_bodies-requires-clause-free
unit_bodies-requires-clause-free c =
    free_begun (source_of c.args.fixed.now.unit.now) (walk_of c.args.fixed.now.entries.now) c.in_ok-parts.parts.items c.requires.entries c.in_ok-parts.ensures

pub picked_parts-requires : goal.picked_parts-requires
picked_parts-requires c =
    bodies_complete (source_of c.args.fixed.now.unit.now) c.args.at (walk_of c.args.fixed.now.entries.now) (level_of c.args.fixed.now.whole.now)
    (level_of c.in_ok-level.level) c.args.fixed.now.rooms.now c.in_ok-parts.parts.items c.unit_bodies.new.parts.items c.in_ok-last.last
    c.requires.begins c.requires.entries c.requires.whole c.in_ok-level.ensures.level c.in_ok-parts.ensures c.in_ok-last.ensures

pub returns : goal.returns
returns c =
    unit_is_made (fixed_of c.args.fixed.now) (walk_of c.args.fixed.now.entries.now).entered.made (source_of c.args.fixed.now.unit.now) (map letters c.args.names.now)
    c.args.at c.in_ok-level.primary (level_of c.in_ok-level.level) c.in_ok-last.last c.in_ok-parts.parts.items c.unit_bodies.new.parts.items
    c.args.modules.now.items c.picked_parts.new.modules.items c.in_ok-level.ensures.level c.in_ok-level.ensures.next c.in_ok-parts.ensures c.in_ok-last.ensures
    c.in_ok-picked_parts.ensures
