-- The walk, and behind it the main body.
use Rattle.std.proofs.Common.{ap}
use Rattle.spl_layout.specs.spl_rooms.declared.room_type.Room.{Room}
use Rattle.spl_sound.specs.Spelled.{source_of}
use Rattle.spl_unit_laws.specs.spl_body_scopes.Levels.{level_of}
use Rattle.spl_unit_laws.specs.spl_routine_code.Routines as r
use Rattle.spl_unit_laws.specs.Units.{first_cursor}
use Rattle.spl_unit_walks.specs.Views.{fixed_of}
use Rattle.spl_unit_walks.proofs.UnitParts.{bodies_stand}
use Rattle.spl_gen_proc.proofs.units.unit_bodies.Goals as goal

pub returns : goal.returns
returns c =
    let u = source_of c.args.fixed.now.unit.now in
    bodies_stand (fixed_of c.args.fixed.now) u (r.room_at c.args.fixed.now.rooms.now c.args.at.room).depth c.room_at.result (level_of c.args.level.now)
    (level_of c.walk.new.level) (first_cursor u c.args.at) c.in_ok-first.first c.in_ok-last.last c.args.parts.now.items c.walk.new.parts.items c.main_part.new.parts.items
    (ap (λ (room : Room). room.depth) c.room_at.ensures) c.in_ok-first.ensures c.in_ok-last.ensures.steps c.in_ok-last.ensures.free c.in_ok-main_part.ensures
