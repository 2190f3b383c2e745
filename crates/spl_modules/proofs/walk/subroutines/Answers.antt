-- Before the first declaration, and one more.
use Rattle.std.proofs.Common.{length, map, refl}
use Rattle.spl_tree.specs.DeclarationTrees.{declarations}
use Rattle.spl_tree.specs.Spells.{declaration}
use Rattle.spl_sound.specs.spl_meaning.Names.{find}
use Rattle.spl_places.specs.NameMaps.{entries_of}
use Rattle.spl_scopes.specs.Entries.{main, inner_entries}
use Rattle.spl_modules.specs.Entered.{entered_of, behind_entries, inner_indexes}
use Rattle.spl_modules.proofs.WalkSteps.{entered_more, names_more, names_first}
use Rattle.spl_modules.proofs.walk.subroutines.Goals as goal

pub loop-d-init : goal.loop-d-init
loop-d-init c = record {
  entered = refl;
  names = names_first (entries_of c.new-own.result)
      (inner_indexes (length ((entered_of c.args.modules.now.items).made c.args.segment)) (declarations (map declaration c.args.list.now))) c.new-own.ensures;
}

pub loop-d-preserved : goal.loop-d-preserved
loop-d-preserved c = record {
  entered =
      entered_more (behind_entries (entered_of c.args.modules.now.items) (inner_entries c.args.segment main (declarations (map declaration c.args.list.now))))
      (entered_of c.loop-d.modules.items) (entered_of c.inner.new.modules.items) c.args.segment c.args.list.now c.loop-d.d-index c.d-item.result
      c.loop-d-test.true c.d-item.is c.in_ok-inner.ensures.entered c.loop-d.invariant.entered;
  names =
      names_more (find (inner_indexes (length ((entered_of c.args.modules.now.items).made c.args.segment)) (declarations (map declaration c.args.list.now))))
      (find (entries_of c.loop-d.own)) (find (entries_of c.inner.new.own)) (entered_of c.loop-d.modules.items) (entered_of c.inner.new.modules.items)
      c.args.segment c.args.list.now c.loop-d.d-index c.d-item.result c.loop-d-test.true c.d-item.is
      c.in_ok-inner.ensures.entered c.in_ok-inner.ensures.names c.loop-d.invariant.names;
}
