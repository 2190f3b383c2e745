-- One declaration more.
use Rattle.std.proofs.Common.{◌+◌, map, ap, ◌∙◌}
use Rattle.spl_tree.specs.DeclarationTrees.{declarations}
use Rattle.spl_tree.specs.Spells.{declaration}
use Rattle.spl_gen_routines.specs.Views.{around_of}
use Rattle.spl_routine_code.proofs.InnerWalks.{free_here, walk_next, walk_done}
use Rattle.spl_gen_routines.proofs.inners.subroutines.Goals as goal

pub inner-requires-clause-free : goal.inner-requires-clause-free
inner-requires-clause-free c =
    free_here (around_of c.args.around.now) c.args.rooms.now c.args.room c.args.entry (declarations (map declaration c.args.list.now)) c.args.list.now
    c.loop-item.item-index c.item-item.result c.args.code.now c.loop-item.code c.loop-item.count c.in_ok-plus-2.field-0
    c.loop-item.invariant c.loop-item-test.true c.item-item.is c.in_ok-plus-2.ensures

pub loop-item-preserved : goal.loop-item-preserved
loop-item-preserved c =
    walk_next (around_of c.args.around.now) c.args.rooms.now c.args.room c.args.entry (declarations (map declaration c.args.list.now)) c.args.list.now
    c.loop-item.item-index c.item-item.result c.args.code.now c.loop-item.code c.inner.new.code c.loop-item.count c.in_ok-count.count
    c.in_ok-plus.field-0 c.in_ok-plus-2.field-0 c.loop-item.invariant c.loop-item-test.true c.item-item.is c.in_ok-plus.ensures c.in_ok-plus-2.ensures
    c.in_ok-inner.ensures (c.in_ok-count.ensures ∙ ap (λ n. c.loop-item.count + n) c.inner_count.ensures)

pub returns-clause-code : goal.returns-clause-code
returns-clause-code c =
    (walk_done (around_of c.args.around.now) c.args.rooms.now c.args.room c.args.entry (declarations (map declaration c.args.list.now)) c.args.list.now
    c.loop-item.item-index c.args.code.now c.loop-item.code c.loop-item.count c.loop-item.invariant c.loop-item-test.false).0
