use Rattle.std.proofs.Common.{◌≡◌, List, subst, sym, refl, arith, false}
use Rattle.mpe_links.specs.declared.node.Node.{Node}
use Rattle.mpe_regions.specs.Fresh.{IsFresh}
use Rattle.mpe_regions.proofs.FreshLemmas.{fresh_none, fresh_more}
use Rattle.mpe_regions.proofs.tables.free_nodes.Goals as goal

pub loop-i-init : goal.loop-i-init
loop-i-init c = subst (λ (ns : List Node). IsFresh ns 65535 0) (sym c.in_ok-nodes.ensures.items) fresh_none

-- each node leads to the one before it
pub loop-i-preserved : goal.loop-i-preserved
loop-i-preserved c =
    fresh_more c.loop-i.nodes.items c.push.new.self.items
    (record { key = 0; place = 0; size = 0; left = 65535; right = c.loop-i.free; older = 65535; newer = 65535; live = false })
    c.loop-i.free c.loop-i.i c.in_ok-push.ensures.items refl refl (omega arith) c.loop-i.invariant

pub returns : goal.returns
returns c = let all : c.loop-i.i ≡ c.args.count = omega arith in subst (IsFresh c.loop-i.nodes.items c.loop-i.free) all c.loop-i.invariant
