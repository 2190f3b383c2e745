-- The first free node is filled, which touches no link, and then linked.
use Rattle.std.proofs.Common.{◌≡◌, ◌≢◌, ◌∙◌, ℕ, List, ◌++◌, ap, subst, sym, refl, arith, true}
use Rattle.mpe_links.specs.declared.node.Node.{Node}
use Rattle.mpe_links.specs.Nodes.{node_at, right_of}
use Rattle.mpe_links.specs.Writes.{less_links}
use Rattle.mpe_links.specs.Rings.{AreFree}
use Rattle.mpe_links.proofs.NodeLemmas.{node_there, node_other}
use Rattle.mpe_links.proofs.RingLemmas.{ends}
use Rattle.mpe_links.proofs.TableLemmas.{placed_still, used_still, free_still, popped}
use Rattle.mpe_regions.proofs.FreshLemmas.{filled_same}
use Rattle.mpe_regions.proofs.tables.enter.Goals as goal

pub occupy-requires-clause-behind : goal.occupy-requires-clause-behind
occupy-requires-clause-behind c =
    let right = filled_same (λ n. n.right) c.args.nodes.now c.fill.new.nodes c.args.free.now _ c.fill.ensures.filled c.requires.within refl in
    let e : right_of c.fill.new.nodes c.args.first.now c.args.before ≡ right_of c.args.nodes.now c.args.first.now c.args.before =
    ap (ends c.args.before c.args.first.now) (right c.args.before) in
    λ d. let h = c.requires.behind (λ s. d (e ∙ s)) in omega (arith, e, h, c.fill.auto.nodes)

pub returns-clause-placed : goal.returns-clause-placed
returns-clause-placed c xs ys e t r =
    c.occupy.ensures.placed xs ys e t
    (placed_still c.args.nodes.now c.fill.new.nodes c.args.first.now (xs ++ ys)
    (filled_same (λ n. n.right) c.args.nodes.now c.fill.new.nodes c.args.free.now _ c.fill.ensures.filled c.requires.within refl)
    (filled_same (λ n. n.left) c.args.nodes.now c.fill.new.nodes c.args.free.now _ c.fill.ensures.filled c.requires.within refl) r)

pub returns-clause-used : goal.returns-clause-used
returns-clause-used c us t r =
    c.occupy.ensures.used us t
    (used_still c.args.nodes.now c.fill.new.nodes c.args.oldest.now c.args.newest.now us
    (filled_same (λ n. n.newer) c.args.nodes.now c.fill.new.nodes c.args.free.now _ c.fill.ensures.filled c.requires.within refl)
    (filled_same (λ n. n.older) c.args.nodes.now c.fill.new.nodes c.args.free.now _ c.fill.ensures.filled c.requires.within refl) r)

pub returns-clause-spare : goal.returns-clause-spare
returns-clause-spare c fs m nb nx h =
    let d : c.args.free.now ≢ 65535 = let few = c.requires.few in let w = c.requires.within in omega arith in
    c.occupy.ensures.spare c.fill.result fs m nb nx
    (free_still c.args.nodes.now c.fill.new.nodes c.fill.result fs
    (filled_same (λ n. n.right) c.args.nodes.now c.fill.new.nodes c.args.free.now _ c.fill.ensures.filled c.requires.within refl)
    (subst (λ (f : ℕ). AreFree c.args.nodes.now f fs) (sym c.fill.ensures.right) (popped c.args.nodes.now c.args.free.now c.args.free.now fs d m h)))

pub returns-clause-others : goal.returns-clause-others
returns-clause-others c k d =
    c.occupy.ensures.same k
    ∙ ap less_links (subst (λ (ns : List Node). node_at ns k ≡ node_at c.args.nodes.now k) (sym c.fill.ensures.filled) (node_other c.args.nodes.now c.args.free.now k _ d))

pub returns-clause-here : goal.returns-clause-here
returns-clause-here c =
    c.occupy.ensures.same c.args.free.now
    ∙ ap less_links (ap (λ (ns : List Node). node_at ns c.args.free.now) c.fill.ensures.filled
    ∙ node_there c.args.nodes.now c.args.free.now
    (record (node_at c.args.nodes.now c.args.free.now) { key = c.args.region.key; place = c.args.region.place; size = c.args.region.size; live = true })
    c.requires.within)
