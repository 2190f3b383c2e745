use Rattle.std.proofs.Common.{◌∙◌, ap, subst, length}
use Rattle.std.specs.Prelude.{nat_le}
use Rattle.mpe_regions.specs.Sound.{IsSound}
use Rattle.mpe_regions.specs.Kept.{Kept}
use Rattle.mpe_regions.proofs.LinkLemmas.{sound_of}
use Rattle.mpe_regions.proofs.LinkReads.{full_is}
use Rattle.mpe_regions.proofs.regions.Regions.is_full.Goals as goal

-- the table is full where no node is free
pub returns-clause-value : goal.returns-clause-value
returns-clause-value c = full_is c.self.inside c.self.invariant ∙ ap (λ (k : Kept). nat_le k.room (length k.area.list)) c.self.view_is

pub returns-clause-sound : goal.returns-clause-sound
returns-clause-sound c = subst (λ (k : Kept). IsSound k.area) c.self.view_is (sound_of c.self.inside c.self.invariant)
