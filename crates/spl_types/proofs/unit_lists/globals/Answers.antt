use Rattle.std.proofs.Common.{rules, ◌<◌, length, sym, ◌∙◌}
use Rattle.spl_sound.specs.spl_meaning.Names.{find}
use Rattle.spl_sorts.specs.Tables.{table_of}
use Rattle.spl_lists.specs.Arounds.{around_of}
use Rattle.spl_types.specs.WaitingNames.{waits_of}
use Rattle.spl_types.specs.OtherUnits.{agrees_of}
use Rattle.spl_types.proofs.GlobalWalks.{walk_step, names_step}
use Rattle.spl_types.proofs.unit_lists.globals.Goals as goal

-- a declaration more
pub loop-item-preserved : goal.loop-item-preserved
loop-item-preserved c =
    let items = c.args.items.now in
    let i = c.loop-item.item-index in
    let d = c.item-item.result in
    let inside : i < length items = search rules in
    let e = c.in_ok-global.ensures in (
      sym (walk_step (around_of c.args.around.now) (agrees_of c.args.others.now) (waits_of c.loop-item.waiting) (waits_of c.global.new.waiting)
          (find (table_of c.loop-item.here)) (find (table_of c.global.new.here)) items i d c.loop-item.report c.global.new.report inside (search rules) e.waits e.names e.first)
          ∙ c.loop-item.invariant.0,
      sym (names_step (find (table_of c.loop-item.here)) (find (table_of c.global.new.here)) items i d inside (search rules) e.names) ∙ c.loop-item.invariant.1,
    )
