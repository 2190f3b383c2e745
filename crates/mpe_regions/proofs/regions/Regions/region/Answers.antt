use Rattle.std.proofs.Common.{◌≡◌, ◌∙◌, ◌<◌, ap, subst, sym, length, List}
use Rattle.std.specs.Prelude.{option_map, IfSome}
use Rattle.mpe_links.specs.declared.node.Node.{Node}
use Rattle.mpe_regions.specs.Area.{region_of}
use Rattle.mpe_regions.specs.Sound.{IsSound}
use Rattle.mpe_regions.specs.Kept.{Kept}
use Rattle.mpe_regions.specs.LinkedForm.{region_at, found_in}
use Rattle.mpe_regions.proofs.LinkLemmas.{sound_of}
use Rattle.mpe_regions.proofs.LinkReads.{find_gives, found_within, region_found}
use Rattle.mpe_regions.proofs.regions.Regions.region.Goals as goal

found : (c : goal.After-find) → c.find.result ≡ found_in c.self.inside.nodes.items c.args.key c.self.invariant.xs
found c = find_gives c.self.inside c.self.invariant c.args.key c.deref-2.result.now c.find.result c.deref-2.ensures.value c.find.ensures

pub region_in-requires : goal.region_in-requires
region_in-requires c =
    subst (λ (ns : List Node). IfSome c.find.result (λ x. x < length ns)) (sym c.deref.ensures.value)
    (found_within c.self.inside c.self.invariant c.args.key c.find.result (found c))

pub returns-clause-value : goal.returns-clause-value
returns-clause-value c =
    c.region_in.ensures ∙ ap (λ (ns : List Node). option_map (region_at ns) c.find.result) c.deref.ensures.value
    ∙ region_found c.self.inside c.self.invariant c.args.key c.find.result (found c.before) ∙ ap (λ (k : Kept). region_of c.args.key k.area.list) c.self.view_is

pub returns-clause-sound : goal.returns-clause-sound
returns-clause-sound c = subst (λ (k : Kept). IsSound k.area) c.self.view_is (sound_of c.self.inside c.self.invariant)
