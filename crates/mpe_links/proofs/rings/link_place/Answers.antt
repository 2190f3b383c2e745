use Rattle.std.proofs.Common.{◌≢◌, arith}
use Rattle.mpe_links.proofs.RingLemmas.{place_linked, place_same_4, free_linked}
use Rattle.mpe_links.proofs.rings.link_place.Goals as goal

pub returns-clause-put : goal.returns-clause-put
returns-clause-put c xs ys e t r =
    let d : c.args.x ≢ 65535 = omega arith in
    place_linked c.args.nodes.now c.set_right.new.nodes c.set_right-2.new.nodes c.set_left.new.nodes c.set_left-2.new.nodes c.args.first.now c.set_right.new.first
    c.set_right-2.new.first c.args.x c.args.before c.right_at-behind.result d c.right_at-behind.ensures c.set_right.ensures.written c.set_right-2.ensures.written
    c.set_left.ensures.written c.set_left-2.ensures.written c.set_right.ensures.same c.set_right-2.ensures.same c.set_left.ensures.same c.set_left-2.ensures.same xs ys e t r

pub returns-clause-same : goal.returns-clause-same
returns-clause-same c =
    place_same_4 c.args.nodes.now c.set_right.new.nodes c.set_right-2.new.nodes c.set_left.new.nodes c.set_left-2.new.nodes
    c.set_right.ensures.same c.set_right-2.ensures.same c.set_left.ensures.same c.set_left-2.ensures.same

pub returns-clause-free : goal.returns-clause-free
returns-clause-free c free fs m nb nx h =
    free_linked c.args.nodes.now c.set_right.new.nodes c.set_right-2.new.nodes c.set_left.new.nodes c.set_left-2.new.nodes c.args.first.now c.set_right.new.first
    c.set_right-2.new.first c.args.x c.args.before c.right_at-behind.result free fs c.set_right.ensures.written c.set_right-2.ensures.written
    c.set_left.ensures.same c.set_left-2.ensures.same m nb nx h
