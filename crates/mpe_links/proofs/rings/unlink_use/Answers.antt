use Rattle.std.proofs.Common.{◌≢◌, refl, arith}
use Rattle.mpe_links.specs.Nodes.{node_at}
use Rattle.mpe_links.proofs.RingLemmas.{use_unlinked, use_same}
use Rattle.mpe_links.proofs.rings.unlink_use.Goals as goal

pub set_newer-requires : goal.set_newer-requires
unfolding node_at
set_newer-requires c = c.requires.older

pub set_older-requires : goal.set_older-requires
unfolding node_at
set_older-requires c = λ d. omega (arith, c.requires.newer d)

pub returns-clause-taken : goal.returns-clause-taken
unfolding node_at
returns-clause-taken c us vs r =
    let d : c.args.x ≢ 65535 = omega arith in
    use_unlinked c.args.nodes.now c.set_newer.new.nodes c.set_older.new.nodes c.args.oldest.now c.set_newer.new.oldest c.args.newest.now c.set_older.new.newest
    c.args.x _ _ d refl refl c.set_newer.ensures.written c.set_newer.ensures.same c.set_older.ensures.written c.set_older.ensures.same us vs r

pub returns-clause-same : goal.returns-clause-same
returns-clause-same c = use_same c.args.nodes.now c.set_newer.new.nodes c.set_older.new.nodes c.set_newer.ensures.same c.set_older.ensures.same
