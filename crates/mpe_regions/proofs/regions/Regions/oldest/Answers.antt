use Rattle.std.proofs.Common.{◌∙◌, ap, subst, length, cond, List, Some, None}
use Rattle.std.specs.Prelude.{nat_lt}
use Rattle.mpe_links.specs.declared.node.Node.{Node}
use Rattle.mpe_regions.specs.Area.{oldest_of}
use Rattle.mpe_regions.specs.Sound.{IsSound}
use Rattle.mpe_regions.specs.Kept.{Kept}
use Rattle.mpe_regions.specs.LinkedForm.{key_at}
use Rattle.mpe_regions.proofs.LinkLemmas.{sound_of}
use Rattle.mpe_regions.proofs.LinkReads.{oldest_is}
use Rattle.mpe_regions.proofs.regions.Regions.oldest.Goals as goal

pub returns-clause-value : goal.returns-clause-value
returns-clause-value c =
    c.key_in.ensures
    ∙ ap (λ (ns : List Node). cond (nat_lt c.self.inside.oldest (length ns)) (Some (key_at ns c.self.inside.oldest)) None) c.deref.ensures.value
    ∙ oldest_is c.self.inside c.self.invariant ∙ ap (λ (k : Kept). oldest_of k.area) c.self.view_is

pub returns-clause-sound : goal.returns-clause-sound
returns-clause-sound c = subst (λ (k : Kept). IsSound k.area) c.self.view_is (sound_of c.self.inside c.self.invariant)
