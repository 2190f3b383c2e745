-- Before the first declaration, and one more.
use Rattle.std.proofs.Common.{map, ap}
use Rattle.spl_tree.specs.DeclarationTrees.{declarations}
use Rattle.spl_tree.specs.Spells.{declaration}
use Rattle.spl_sorts.specs.spl_meaning.Names.{Names, find}
use Rattle.spl_sorts.specs.Tables.{table_of}
use Rattle.spl_areas.specs.Gathered.{items_among}
use Rattle.spl_initials.specs.Memory.{memory_of}
use Rattle.spl_globals.specs.Stored.{owns_stored, behind_owns}
use Rattle.spl_globals.proofs.StoredWalks.{own_more, next_more}
use Rattle.spl_globals.proofs.owns.owns_stored.Goals as goal

pub loop-d-init : goal.loop-d-init
loop-d-init c =
    let ds = declarations (map declaration c.args.list.now) in
    let at = c.args.at in
    record {
      words = ap (λ (here : Names). owns_stored c.args.pass here at.own at.own_arrays ds (memory_of c.args.words.now)) c.nothing-here.ensures;
      next = ap (λ (here : Names). behind_owns at (items_among here ds)) c.nothing-here.ensures;
    }

pub loop-d-preserved : goal.loop-d-preserved
loop-d-preserved c = record {
  words =
      own_more c.args.pass c.loop-d.next c.in_ok-next.next (memory_of c.loop-d.words) (memory_of c.declaration_stored.new.words) _
      (find (table_of c.nothing-outer.result)) (find (table_of c.loop-d.here)) (find (table_of c.declare_all.new.here))
      c.args.list.now c.loop-d.d-index c.d-item.result c.loop-d-test.true c.d-item.is
      c.nothing-outer.ensures c.in_ok-declare_all.ensures c.in_ok-next.ensures.words c.in_ok-next.ensures.next c.loop-d.invariant.words;
  next =
      next_more c.loop-d.next c.in_ok-next.next _
      (find (table_of c.nothing-outer.result)) (find (table_of c.loop-d.here)) (find (table_of c.declare_all.new.here))
      c.args.list.now c.loop-d.d-index c.d-item.result c.loop-d-test.true c.d-item.is
      c.nothing-outer.ensures c.in_ok-declare_all.ensures c.in_ok-next.ensures.next c.loop-d.invariant.next;
}
