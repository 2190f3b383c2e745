-- Its own list is looked up twice.
use Rattle.std.proofs.Common.{map, ap, ◌∙◌}
use Rattle.spl_tree.specs.StatementTrees.{statements}
use Rattle.spl_tree.specs.Views.{statement}
use Rattle.spl_sound.specs.spl_meaning.Names.{Names, find}
use Rattle.spl_sound.specs.spl_meaning.Pending.{depth}
use Rattle.spl_sorts.specs.Tables.{table_of}
use Rattle.spl_rooms.proofs.RoomWalks.{over_twice}
use Rattle.spl_rooms.proofs.bodies.body_depth.Goals as goal

pub returns : goal.returns
returns c =
    let ss = statements (map statement c.args.list.now) in
    c.in_ok-words.ensures ∙ ap (λ (names : Names). depth names ss) (over_twice (find (table_of c.args.own.now)) (find (table_of c.args.outer.now)))
