-- A subprogram has no main body; nothing stands outside a unit's list.
use Rattle.std.proofs.Common.{List, map, ap, ◌∙◌}
use Rattle.spl_tree.specs.declared.statements.Stmt.{Stmt}
use Rattle.spl_tree.specs.Views.{statement}
use Rattle.spl_sound.specs.spl_meaning.Names.{find}
use Rattle.spl_sorts.specs.Tables.{table_of}
use Rattle.spl_places.specs.spl_found.OwnNames.{over}
use Rattle.spl_rooms.specs.Walked.{body_depth}
use Rattle.spl_rooms.proofs.RoomWalks.{main_found}
use Rattle.spl_rooms.proofs.units.main_room.Goals as goal

pub returns : goal.returns
returns c =
    let own = find (table_of c.args.own.now) in
    let outer = find (table_of c.args.outer.now) in
    main_found own outer c.args.unit.now c.in_ok-depth.depth c.args.all.now.items c.push.new.self.items c.if-unit.false c.requires
    (c.in_ok-depth.ensures ∙ ap (λ (ss : List Stmt). body_depth (over own outer) (map statement ss)) c.deref.ensures.value)
    c.in_ok-push.ensures.items
