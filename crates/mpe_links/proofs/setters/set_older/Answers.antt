use Rattle.std.proofs.Common.{refl, get_or}
use Rattle.mpe_links.specs.Nodes.{blank, less_older}
use Rattle.mpe_links.proofs.NodeLemmas.{wrote, same}
use Rattle.mpe_links.proofs.setters.set_older.Goals as goal

pub returns-else-at-eq-NONE-clause-written : goal.returns-else-at-eq-NONE-clause-written
returns-else-at-eq-NONE-clause-written c = wrote (λ n. n.older) c.args.nodes.now c.args.newest.now c.args.at c.args.to (record (get_or c.args.nodes.now c.args.at blank) { older = c.args.to }) c.if-at-eq-NONE.false (c.requires c.if-at-eq-NONE.false) refl

pub returns-else-at-eq-NONE-clause-same : goal.returns-else-at-eq-NONE-clause-same
returns-else-at-eq-NONE-clause-same c = same less_older c.args.nodes.now c.args.at (record (get_or c.args.nodes.now c.args.at blank) { older = c.args.to }) (c.requires c.if-at-eq-NONE.false) refl
