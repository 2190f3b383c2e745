-- Before the first declaration, and one more.
use Rattle.std.proofs.Common.{map, ap}
use Rattle.spl_tree.specs.DeclarationTrees.{declarations}
use Rattle.spl_tree.specs.Spells.{declaration}
use Rattle.spl_sound.specs.spl_meaning.Names.{Names, find}
use Rattle.spl_sorts.specs.Tables.{table_of}
use Rattle.spl_places.specs.Gathered.{passed_among}
use Rattle.spl_areas.proofs.GatherWalks.{passed_more}
use Rattle.spl_areas.proofs.limits.unit_passed.Goals as goal

pub loop-d-init : goal.loop-d-init
loop-d-init c = ap (λ (here : Names). passed_among here (declarations (map declaration c.args.list.now)) c.args.first.now) c.nothing-here.ensures

pub loop-d-preserved : goal.loop-d-preserved
loop-d-preserved c =
    passed_more c.loop-d.first c.passed_in.new.first _ (find (table_of c.nothing-outer.result)) (find (table_of c.loop-d.here))
    (find (table_of c.declare_all.new.here)) c.args.list.now c.loop-d.d-index c.d-item.result c.loop-d-test.true c.d-item.is
    c.nothing-outer.ensures c.in_ok-declare_all.ensures c.in_ok-passed_in.ensures c.loop-d.invariant
