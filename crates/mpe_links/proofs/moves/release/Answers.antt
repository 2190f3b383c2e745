use Rattle.std.proofs.Common.{◌≡◌, ◌≢◌, ℕ, List, ◌∷◌, ◌++◌, refl, sym, ap, subst, ◌∙◌, arith, false}
use Rattle.mpe_links.specs.declared.node.Node.{Node}
use Rattle.mpe_links.specs.Nodes.{node_at}
use Rattle.mpe_links.specs.Writes.{less_use, less_place, less_links}
use Rattle.mpe_links.specs.Rings.{InUse, InPlace, AreFree}
use Rattle.mpe_links.proofs.NodeLemmas.{node_there, node_other}
use Rattle.mpe_links.proofs.TableLemmas.{placed_still, used_still, free_still, placed_apart, used_apart, pushed, apart_absent}
use Rattle.mpe_links.proofs.moves.release.Goals as goal

pub returns-clause-placed : goal.returns-clause-placed
returns-clause-placed c xs ys r =
    let d : c.args.x ≢ 65535 = omega arith in
    subst (λ (ns : List Node). InPlace ns c.unlink_place.new.first (xs ++ ys)) (sym c.free_node.ensures.nodes)
    (placed_apart c.unlink_use.new.nodes c.unlink_place.new.first c.args.x _ (xs ++ ys) (apart_absent c.args.x xs ys r.apart.1) d
    (placed_still c.unlink_place.new.nodes c.unlink_use.new.nodes c.unlink_place.new.first (xs ++ ys)
    (λ k. ap (λ (n : Node). n.right) (c.unlink_use.ensures.same k)) (λ k. ap (λ (n : Node). n.left) (c.unlink_use.ensures.same k))
    (c.unlink_place.ensures.taken xs ys r)))

pub returns-clause-used : goal.returns-clause-used
returns-clause-used c us vs r =
    let d : c.args.x ≢ 65535 = omega arith in
    subst (λ (ns : List Node). InUse ns c.unlink_use.new.oldest c.unlink_use.new.newest (us ++ vs)) (sym c.free_node.ensures.nodes)
    (used_apart c.unlink_use.new.nodes c.unlink_use.new.oldest c.unlink_use.new.newest c.args.x _ (us ++ vs) (apart_absent c.args.x us vs r.apart.1) d
    (c.unlink_use.ensures.taken us vs
    (used_still c.args.nodes.now c.unlink_place.new.nodes c.args.oldest.now c.args.newest.now (us ++ c.args.x ∷ vs)
    (λ k. ap (λ (n : Node). n.newer) (c.unlink_place.ensures.same k)) (λ k. ap (λ (n : Node). n.older) (c.unlink_place.ensures.same k)) r)))

pub returns-clause-freed : goal.returns-clause-freed
returns-clause-freed c fs m t l h =
    let d : c.args.x ≢ 65535 = omega arith in
    let within = c.requires.within in
    let n1 = c.unlink_place.ensures.free c.args.free.now fs m l h in
    let n2 = free_still c.unlink_place.new.nodes c.unlink_use.new.nodes c.args.free.now fs (λ k. ap (λ (n : Node). n.right) (c.unlink_use.ensures.same k)) n1 in
    let n3 = pushed c.unlink_use.new.nodes c.args.free.now c.args.x (record (node_at c.unlink_use.new.nodes c.args.x) { right = c.args.free.now; live = false })
    fs d (omega arith) t m refl n2 in
    subst (λ (f : ℕ). AreFree c.free_node.new.nodes f (c.args.x ∷ fs)) (sym c.free_node.ensures.free)
    (subst (λ (ns : List Node). AreFree ns c.args.x (c.args.x ∷ fs)) (sym c.free_node.ensures.nodes) n3)

pub returns-clause-others : goal.returns-clause-others
returns-clause-others c k d =
    let e : node_at c.free_node.new.nodes k ≡ node_at c.unlink_use.new.nodes k =
    subst (λ (ns : List Node). node_at ns k ≡ node_at c.unlink_use.new.nodes k) (sym c.free_node.ensures.nodes) (node_other c.unlink_use.new.nodes c.args.x k _ d) in
    ap less_links e ∙ ap less_place (c.unlink_use.ensures.same k) ∙ ap less_use (c.unlink_place.ensures.same k)

pub returns-clause-dead : goal.returns-clause-dead
returns-clause-dead c =
    subst (λ (ns : List Node). (node_at ns c.args.x).live ≡ false) (sym c.free_node.ensures.nodes)
    (ap (λ (n : Node). n.live) (node_there c.unlink_use.new.nodes c.args.x
    (record (node_at c.unlink_use.new.nodes c.args.x) { right = c.args.free.now; live = false }) (omega arith)))
