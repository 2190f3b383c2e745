-- Before the first declaration, and one more.
use Rattle.std.proofs.Common.{◌++◌, map, ap, ◌∙◌}
use Rattle.spl_tree.specs.DeclarationTrees.{declarations}
use Rattle.spl_tree.specs.Spells.{declaration}
use Rattle.spl_sorts.specs.spl_meaning.Names.{Names, find, nothing_declared}
use Rattle.spl_sorts.specs.Tables.{table_of}
use Rattle.spl_entries.specs.Entries.{entries_among, areas_among}
use Rattle.spl_entries.proofs.EntryWalks.{places_more, areas_more}
use Rattle.spl_entries.proofs.units.unit_places.Goals as goal

pub loop-d-init : goal.loop-d-init
loop-d-init c =
    let ds = declarations (map declaration c.args.list.now) in
    let at = c.args.at in
    let here = find (table_of c.nothing-here.result) in
    record {
      places =
          ap (λ (outer : Names). c.args.all.now.items ++ entries_among outer here at ds) c.nothing-outer.ensures
          ∙ ap (λ (here : Names). c.args.all.now.items ++ entries_among nothing_declared here at ds) c.nothing-here.ensures;
      next =
          ap (λ (outer : Names). areas_among outer here at ds) c.nothing-outer.ensures
          ∙ ap (λ (here : Names). areas_among nothing_declared here at ds) c.nothing-here.ensures;
    }

pub loop-d-preserved : goal.loop-d-preserved
loop-d-preserved c = record {
  places =
      places_more c.loop-d.all.items c.declaration.new.all.items _ (find (table_of c.nothing-outer.result)) (find (table_of c.loop-d.here))
      (find (table_of c.declaration.new.here)) c.loop-d.next c.in_ok-next.next c.args.list.now c.loop-d.d-index c.d-item.result c.loop-d-test.true c.d-item.is
      c.in_ok-next.ensures.names c.in_ok-next.ensures.next c.in_ok-next.ensures.places c.loop-d.invariant.places;
  next =
      areas_more _ (find (table_of c.nothing-outer.result)) (find (table_of c.loop-d.here))
      (find (table_of c.declaration.new.here)) c.loop-d.next c.in_ok-next.next c.args.list.now c.loop-d.d-index c.d-item.result c.loop-d-test.true c.d-item.is
      c.in_ok-next.ensures.names c.in_ok-next.ensures.next c.loop-d.invariant.next;
}
