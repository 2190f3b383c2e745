use Rattle.std.proofs.Common.{◌≢◌, arith}
use Rattle.mpe_links.proofs.RingLemmas.{use_linked, use_same_4}
use Rattle.mpe_links.proofs.rings.link_last.Goals as goal

pub returns-clause-put : goal.returns-clause-put
returns-clause-put c us t r =
    let d : c.args.x ≢ 65535 = omega arith in
    use_linked c.args.nodes.now c.set_newer.new.nodes c.set_newer-2.new.nodes c.set_older.new.nodes c.set_older-2.new.nodes c.args.oldest.now c.set_newer.new.oldest
    c.set_newer-2.new.oldest c.args.newest.now c.set_older.new.newest c.set_older-2.new.newest c.args.x d c.set_newer.ensures.written c.set_newer-2.ensures.written
    c.set_older.ensures.written c.set_older-2.ensures.written c.set_newer.ensures.same c.set_newer-2.ensures.same c.set_older.ensures.same c.set_older-2.ensures.same us t r

pub returns-clause-same : goal.returns-clause-same
returns-clause-same c =
    use_same_4 c.args.nodes.now c.set_newer.new.nodes c.set_newer-2.new.nodes c.set_older.new.nodes c.set_older-2.new.nodes
    c.set_newer.ensures.same c.set_newer-2.ensures.same c.set_older.ensures.same c.set_older-2.ensures.same
