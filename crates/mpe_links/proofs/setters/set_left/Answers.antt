use Rattle.std.proofs.Common.{refl, get_or}
use Rattle.mpe_links.specs.Nodes.{blank, less_left}
use Rattle.mpe_links.proofs.NodeLemmas.{wrote_left, same}
use Rattle.mpe_links.proofs.setters.set_left.Goals as goal

pub returns-then-at-ne-NONE-clause-written : goal.returns-then-at-ne-NONE-clause-written
returns-then-at-ne-NONE-clause-written c = λ last. wrote_left (λ n. n.left) c.args.nodes.now last c.args.at c.args.to (record (get_or c.args.nodes.now c.args.at blank) { left = c.args.to }) c.if-at-ne-NONE.true (c.requires c.if-at-ne-NONE.true) refl

pub returns-then-at-ne-NONE-clause-same : goal.returns-then-at-ne-NONE-clause-same
returns-then-at-ne-NONE-clause-same c = same less_left c.args.nodes.now c.args.at (record (get_or c.args.nodes.now c.args.at blank) { left = c.args.to }) (c.requires c.if-at-ne-NONE.true) refl
