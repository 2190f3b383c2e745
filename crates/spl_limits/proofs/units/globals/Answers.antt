-- A declaration more.
use Rattle.spl_sound.specs.spl_meaning.Names.{find}
use Rattle.spl_sorts.specs.Tables.{table_of}
use Rattle.spl_limits.proofs.LimitWalks.{global_more, names_more}
use Rattle.spl_limits.proofs.units.globals.Goals as goal

pub loop-d-preserved : goal.loop-d-preserved
loop-d-preserved c = record {
  first =
      global_more c.loop-d.first c.global.new.first _ (find (table_of c.nothing-outer.result)) (find (table_of c.loop-d.here))
      (find (table_of c.declare_all.new.here)) c.args.list.now c.loop-d.d-index c.d-item.result c.loop-d-test.true c.d-item.is
      c.nothing-outer.ensures c.in_ok-declare_all.ensures c.in_ok-global.ensures c.loop-d.invariant.first;
  names =
      names_more _ (find (table_of c.nothing-outer.result)) (find (table_of c.loop-d.here))
      (find (table_of c.declare_all.new.here)) c.args.list.now c.loop-d.d-index c.d-item.result c.loop-d-test.true c.d-item.is
      c.nothing-outer.ensures c.in_ok-declare_all.ensures c.loop-d.invariant.names;
}
