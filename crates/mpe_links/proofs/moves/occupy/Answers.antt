use Rattle.std.proofs.Common.{◌∷◌, ◌++◌, ap, ◌∙◌}
use Rattle.mpe_links.specs.declared.node.Node.{Node}
use Rattle.mpe_links.specs.Writes.{less_use, less_place}
use Rattle.mpe_links.proofs.TableLemmas.{placed_still, used_still, free_still}
use Rattle.mpe_links.proofs.moves.occupy.Goals as goal

pub returns-clause-placed : goal.returns-clause-placed
returns-clause-placed c xs ys e t r =
    placed_still c.link_place.new.nodes c.link_last.new.nodes c.link_place.new.first (xs ++ c.args.x ∷ ys)
    (λ k. ap (λ (n : Node). n.right) (c.link_last.ensures.same k)) (λ k. ap (λ (n : Node). n.left) (c.link_last.ensures.same k))
    (c.link_place.ensures.put xs ys e t r)

pub returns-clause-used : goal.returns-clause-used
returns-clause-used c us t r =
    c.link_last.ensures.put us t
    (used_still c.args.nodes.now c.link_place.new.nodes c.args.oldest.now c.args.newest.now us
    (λ k. ap (λ (n : Node). n.newer) (c.link_place.ensures.same k)) (λ k. ap (λ (n : Node). n.older) (c.link_place.ensures.same k)) r)

pub returns-clause-spare : goal.returns-clause-spare
returns-clause-spare c free fs m nb nx h =
    free_still c.link_place.new.nodes c.link_last.new.nodes free fs (λ k. ap (λ (n : Node). n.right) (c.link_last.ensures.same k))
    (c.link_place.ensures.free free fs m nb nx h)

pub returns-clause-same : goal.returns-clause-same
returns-clause-same c k = ap less_place (c.link_last.ensures.same k) ∙ ap less_use (c.link_place.ensures.same k)
