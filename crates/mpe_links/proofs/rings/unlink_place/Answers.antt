use Rattle.std.proofs.Common.{◌≢◌, refl, arith}
use Rattle.mpe_links.specs.Nodes.{node_at}
use Rattle.mpe_links.proofs.RingLemmas.{place_unlinked, place_same, free_unlinked}
use Rattle.mpe_links.proofs.rings.unlink_place.Goals as goal

pub set_right-requires : goal.set_right-requires
unfolding node_at
set_right-requires c = c.requires.left

pub set_left-requires : goal.set_left-requires
unfolding node_at
set_left-requires c = λ d. omega (arith, c.requires.right d)

pub returns-clause-taken : goal.returns-clause-taken
unfolding node_at
returns-clause-taken c xs ys r =
    let d : c.args.x ≢ 65535 = omega arith in
    place_unlinked c.args.nodes.now c.set_right.new.nodes c.set_left.new.nodes c.args.first.now c.set_right.new.first
    c.args.x _ _ d refl refl c.set_right.ensures.written c.set_right.ensures.same c.set_left.ensures.written c.set_left.ensures.same xs ys r

pub returns-clause-same : goal.returns-clause-same
returns-clause-same c = place_same c.args.nodes.now c.set_right.new.nodes c.set_left.new.nodes c.set_right.ensures.same c.set_left.ensures.same

pub returns-clause-free : goal.returns-clause-free
unfolding node_at
returns-clause-free c free fs m n h =
    free_unlinked c.args.nodes.now c.set_right.new.nodes c.set_left.new.nodes c.args.first.now c.set_right.new.first _ _ free fs c.set_right.ensures.written
    c.set_left.ensures.same m n h
