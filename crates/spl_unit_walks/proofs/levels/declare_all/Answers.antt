-- One declaration more.
use Rattle.std.proofs.Common.{map}
use Rattle.spl_tree.specs.DeclarationTrees.{declarations}
use Rattle.spl_tree.specs.Spells.{declaration}
use Rattle.spl_unit_laws.specs.spl_body_scopes.Levels.{level_of}
use Rattle.spl_unit_walks.proofs.LevelWalks.{level_first, level_next, level_done}
use Rattle.spl_unit_walks.proofs.levels.declare_all.Goals as goal

pub loop-item-init : goal.loop-item-init
loop-item-init c = level_first c.args.list.now (level_of c.args.level.now)

pub loop-item-preserved : goal.loop-item-preserved
loop-item-preserved c =
    level_next (level_of c.args.level.now) (declarations (map declaration c.args.list.now)) c.args.list.now c.loop-item.item-index c.item-item.result
    (level_of c.loop-item.level) (level_of c.declare.new.level) c.loop-item.invariant c.loop-item-test.true c.item-item.is c.in_ok-declare.ensures

pub returns : goal.returns
returns c =
    level_done (level_of c.args.level.now) (declarations (map declaration c.args.list.now)) c.args.list.now c.loop-item.item-index
    (level_of c.loop-item.level) c.loop-item.invariant c.loop-item-test.false
