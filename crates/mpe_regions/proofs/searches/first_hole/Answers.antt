use Rattle.std.proofs.Common.{sym, ◌∙◌, rules}
use Rattle.mpe_links.specs.Nodes.{node_at}
use Rattle.mpe_regions.proofs.SearchSteps.{hole_next, hole_here}
use Rattle.mpe_regions.proofs.searches.first_hole.Goals as goal

-- where the words do not fit before a node, the search goes on behind it
pub loop-i-preserved : goal.loop-i-preserved
unfolding node_at
loop-i-preserved c = record {
  rest = sym (hole_next c.args.nodes.now c.args.end c.args.want _ c.loop-i.i c.loop-i.from c.loop-i.before c.loop-i.at c.loop-i-test.true
      c.if-at-nodes.false c.if-from-want.false) ∙ c.loop-i.invariant.rest;
  small = search rules;
}

pub returns-then-from-want : goal.returns-then-from-want
unfolding node_at
returns-then-from-want c =
    sym (hole_here c.args.nodes.now c.args.end c.args.want _ c.loop-i.i c.loop-i.from c.loop-i.before c.loop-i.at c.loop-i-test.true
    c.if-at-nodes.false c.if-from-want.true) ∙ c.loop-i.invariant.rest
