-- The set has what it had, and the name.
use Rattle.std.proofs.Common.{ap, ◌∙◌}
use Rattle.spl_profiles.specs.NameSets.{has_of, and_name}
use Rattle.spl_profiles.proofs.NameLemmas.{among, has_added}
use Rattle.spl_profiles.proofs.name_sets.NameSet.add.Goals as goal

pub returns : goal.returns
returns c =
    ap among c.in_ok-insert.ensures.keys ∙ has_added c.args.self.now.names.keys c.copy.result.text
    ∙ ap (and_name (has_of c.args.self.now)) c.copy.ensures
