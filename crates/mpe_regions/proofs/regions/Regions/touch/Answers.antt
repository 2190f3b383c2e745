-- A key that is found is in a node that goes to the end of the order of use; one that is not found is not live.
use Rattle.std.proofs.Common.{◌≡◌, ◌∙◌, ◌<◌, ℕ, List, [], ◌∷◌, ◌++◌, length, ap, subst, sym, refl, arith, Some, None}
use Rattle.std.specs.Vec.{with_items}
use Rattle.std.proofs.lemmas.List.{with_items_is}
use Rattle.mpe_links.specs.declared.node.Node.{Node}
use Rattle.mpe_links.specs.Lists.{times}
use Rattle.mpe_links.specs.Writes.{Same, less_use}
use Rattle.mpe_links.specs.Rings.{InUse}
use Rattle.mpe_regions.specs.declared.regions.Regions.TheInside.{Inside}
use Rattle.mpe_regions.specs.Area.{is_live}
use Rattle.mpe_regions.specs.Loads.{used, touched}
use Rattle.mpe_regions.specs.Sound.{IsSound}
use Rattle.mpe_regions.specs.Kept.{Kept}
use Rattle.mpe_regions.specs.LinkedForm.{area_of}
use Rattle.mpe_regions.proofs.SoundLemmas.{sound-touched}
use Rattle.mpe_regions.proofs.LinkLemmas.{sound_of}
use Rattle.mpe_regions.proofs.LinkReads.{find_gives, found_within, renew_needs, live_is, touched_absent, touched_live}
use Rattle.mpe_regions.proofs.TableMoves.{Moved, touched_inside}
use Rattle.mpe_regions.proofs.regions.Regions.touch.Goals as goal

pub renew-requires-clause-within : goal.renew-requires-clause-within
renew-requires-clause-within c =
    subst (λ (ns : List Node). c.in-Some.x < length ns) (sym c.deref_mut.ensures.value)
    (found_within c.self.inside c.self.invariant c.args.key (Some c.in-Some.x) (find_gives c.self.inside c.self.invariant c.args.key c.deref.result.now (Some c.in-Some.x) c.deref.ensures.value c.in-Some.ensures))

pub renew-requires-clause-listed : goal.renew-requires-clause-listed
renew-requires-clause-listed c =
    subst (λ (ns : List Node). (us vs : List ℕ) × InUse ns c.self.inside.oldest c.self.inside.newest (us ++ c.in-Some.x ∷ vs)
    × ((k : ℕ) → 0 < times k (us ++ c.in-Some.x ∷ vs) → k < length ns)) (sym c.deref_mut.ensures.value)
    (renew_needs c.self.inside c.self.invariant c.args.key c.in-Some.x (sym (find_gives c.self.inside c.self.invariant c.args.key c.deref.result.now (Some c.in-Some.x) c.deref.ensures.value c.in-Some.ensures)))

pub returns-in-None-clause-live : goal.returns-in-None-clause-live
returns-in-None-clause-live c =
    live_is c.self.inside c.self.invariant c.args.key None (find_gives c.self.inside c.self.invariant c.args.key c.deref.result.now None c.deref.ensures.value c.in-None.ensures)
    ∙ ap (λ (k : Kept). is_live c.args.key k.area) c.self.view_is

pub returns-in-None-clause-touched : goal.returns-in-None-clause-touched
returns-in-None-clause-touched c =
    touched_absent c.args.key c.args.self.now.area
    (live_is c.self.inside c.self.invariant c.args.key None (find_gives c.self.inside c.self.invariant c.args.key c.deref.result.now None c.deref.ensures.value c.in-None.ensures)
    ∙ ap (λ (k : Kept). is_live c.args.key k.area) c.self.view_is)

pub returns-in-None-clause-sound : goal.returns-in-None-clause-sound
returns-in-None-clause-sound c = subst (λ (k : Kept). IsSound k.area) c.self.view_is (sound_of c.self.inside c.self.invariant)

-- what stands in the vector after the move
items : (c : goal.After-self-1) → (with_items c.self.inside.nodes c.renew.new.nodes).items ≡ c.renew.new.nodes
items c =
    with_items_is c.self.inside.nodes c.renew.new.nodes
    (omega (arith, c.self.inside.nodes.ok.0, c.renew.auto.nodes, ap length c.deref_mut.ensures.value))

abbrev after : goal.After-self-1 → Inside
after c = record {
  size = c.self.inside.size;
  nodes = with_items c.self.inside.nodes c.renew.new.nodes;
  first = c.self.inside.first;
  oldest = c.renew.new.oldest;
  newest = c.renew.new.newest;
  free = c.self.inside.free;
  guesses = c.self.inside.guesses;
}

moved : (c : goal.After-self-1) → Moved (after c) (used c.args.key (area_of c.self.inside))
moved c =
    let here = find_gives c.self.inside c.self.invariant c.args.key c.deref.result.now (Some c.in-Some.x) c.deref.ensures.value c.in-Some.ensures in
    let live = live_is c.self.inside c.self.invariant c.args.key (Some c.in-Some.x) (find_gives c.self.inside c.self.invariant c.args.key c.deref.result.now (Some c.in-Some.x) c.deref.ensures.value c.in-Some.ensures) in
    let value = c.deref_mut.ensures.value in
    let same : Same less_use c.self.inside.nodes.items c.renew.new.nodes =
    subst (λ (ns : List Node). Same less_use ns c.renew.new.nodes) value c.renew.ensures.same in
    touched_inside c.self.inside (after c) c.self.invariant c.args.key c.in-Some.x refl refl refl refl (sym here)
    (λ front rest r. subst (λ (ns : List Node). InUse ns c.renew.new.oldest c.renew.new.newest ((front ++ rest) ++ c.in-Some.x ∷ [])) (sym (items c))
    (c.renew.ensures.moved front rest (subst (λ (ns : List Node). InUse ns c.self.inside.oldest c.self.inside.newest (front ++ c.in-Some.x ∷ rest)) (sym value) r)))
    (subst (λ (ns : List Node). Same less_use c.self.inside.nodes.items ns) (sym (items c)) same)
    (let e = ap length (items c) in omega (arith, e, c.renew.auto.nodes, ap length value))
    (subst IsSound (sym (touched_live c.args.key (area_of c.self.inside) live)) (sound-touched c.args.key (area_of c.self.inside) (sound_of c.self.inside c.self.invariant)))

pub invariant_of-self : goal.invariant_of-self
invariant_of-self c = (moved c).table

pub returns-in-Some-clause-live : goal.returns-in-Some-clause-live
returns-in-Some-clause-live c = live_is c.self.inside c.self.invariant c.args.key (Some c.in-Some.x) (find_gives c.self.inside c.self.invariant c.args.key c.deref.result.now (Some c.in-Some.x) c.deref.ensures.value c.in-Some.ensures) ∙ ap (λ (k : Kept). is_live c.args.key k.area) c.self.view_is

pub returns-in-Some-clause-touched : goal.returns-in-Some-clause-touched
returns-in-Some-clause-touched c =
    (moved c).is ∙ touched_live c.args.key (area_of c.self.inside) (live_is c.self.inside c.self.invariant c.args.key (Some c.in-Some.x) (find_gives c.self.inside c.self.invariant c.args.key c.deref.result.now (Some c.in-Some.x) c.deref.ensures.value c.in-Some.ensures))
    ∙ ap (λ (k : Kept). touched c.args.key k.area) c.self.view_is

pub returns-in-Some-clause-sound : goal.returns-in-Some-clause-sound
returns-in-Some-clause-sound c = sound_of (after c) (moved c).table
