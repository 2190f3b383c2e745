use Rattle.std.proofs.Common.{sym, ◌∙◌}
use Rattle.mpe_regions.proofs.LinkLemmas.{found_is}
use Rattle.mpe_regions.proofs.FoundLemmas.{sought_is}
use Rattle.mpe_regions.proofs.searches.find.Goals as goal

-- a node that is noted and has the key is the one with that key, since each key is there once
pub returns-in-Some : goal.returns-in-Some
returns-in-Some c xs l =
    let seen = c.in-Some.ensures in
    sym (found_is c.args.nodes.now c.args.key c.in-Some.x xs (l.live c.in-Some.x seen.1) seen.2 (l.once c.args.key))

pub returns-in-None : goal.returns-in-None
returns-in-None c xs l = c.searched.ensures ∙ sought_is c.args.nodes.now c.args.first c.args.key xs l
