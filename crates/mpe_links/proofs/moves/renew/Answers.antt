use Rattle.std.proofs.Common.{◌≢◌, ◌++◌, ◌∙◌, arith}
use Rattle.mpe_links.proofs.TableLemmas.{older_within, newer_within, newest_within, apart_absent}
use Rattle.mpe_links.proofs.TableLemmas.{less_counts}
use Rattle.mpe_links.proofs.moves.renew.Goals as goal

pub unlink_use-requires-clause-older : goal.unlink_use-requires-clause-older
unlink_use-requires-clause-older c =
    let l = c.requires.listed in
    let d : c.args.x ≢ 65535 = omega arith in
    older_within _ c.args.nodes.now c.args.oldest.now c.args.newest.now c.args.x l.0 l.1 d l.2 l.3

pub unlink_use-requires-clause-newer : goal.unlink_use-requires-clause-newer
unlink_use-requires-clause-newer c =
    let l = c.requires.listed in
    let d : c.args.x ≢ 65535 = omega arith in
    newer_within _ c.args.nodes.now c.args.oldest.now c.args.newest.now c.args.x l.0 l.1 d l.2 l.3

pub link_last-requires-clause-newest : goal.link_last-requires-clause-newest
link_last-requires-clause-newest c =
    let l = c.requires.listed in
    λ d. let h = newest_within _ c.unlink_use.new.nodes c.unlink_use.new.oldest c.unlink_use.new.newest (l.0 ++ l.1) (c.unlink_use.ensures.taken l.0 l.1 l.2)
    (λ k t. l.3 k (less_counts k c.args.x l.0 l.1 t)) d in
    omega (arith, h)

pub returns-clause-moved : goal.returns-clause-moved
returns-clause-moved c us vs r =
    c.link_last.ensures.put (us ++ vs) (apart_absent c.args.x us vs r.apart.1) (c.unlink_use.ensures.taken us vs r)

pub returns-clause-same : goal.returns-clause-same
returns-clause-same c k = c.link_last.ensures.same k ∙ c.unlink_use.ensures.same k
