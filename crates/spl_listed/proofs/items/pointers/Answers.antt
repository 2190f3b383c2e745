use Rattle.std.proofs.Common.{ap, map}
use Rattle.spl_tree.specs.Spells.{placed, item_tree}
use Rattle.spl_listed.proofs.ListLemmas.{pushed}
use Rattle.spl_listed.proofs.ItemLemmas.{one_pointer}
use Rattle.spl_listed.proofs.items.pointers.Goals as goal

-- one more name is one more pointer
pub loop-name-preserved : goal.loop-name-preserved
loop-name-preserved c = cc (
  ap (map item_tree) c.in_ok-push.ensures.items,
  pushed item_tree c.loop-name.items.items c.pointer.result,
  one_pointer placed c.loop-name.yielded (c.in-Some.name, c.in-Some.at),
  c.loop-name.invariant,
  c.pointer.ensures,
)
