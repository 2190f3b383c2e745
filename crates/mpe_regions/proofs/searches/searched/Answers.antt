use Rattle.std.proofs.Common.{sym, ◌∙◌}
use Rattle.mpe_links.specs.Nodes.{node_at}
use Rattle.mpe_regions.proofs.SearchSteps.{sought_next}
use Rattle.mpe_regions.proofs.searches.searched.Goals as goal

-- a node with another key leads on to the right
pub loop-i-preserved : goal.loop-i-preserved
unfolding node_at
loop-i-preserved c =
    sym (sought_next c.args.nodes.now c.args.key _ c.loop-i.i c.loop-i.at c.loop-i-test.true c.if-at-nodes.false c.if-node-key.false) ∙ c.loop-i.invariant
