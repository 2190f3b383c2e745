-- A key that is found is in a node that leaves both orders and is free; one that is not found is not live.
use Rattle.std.proofs.Common.{◌≡◌, ◌∙◌, ◌<◌, List, ◌∷◌, ◌++◌, length, ap, subst, sym, refl, arith, false, Some, None}
use Rattle.std.specs.Vec.{with_items}
use Rattle.std.proofs.lemmas.List.{with_items_is}
use Rattle.mpe_links.specs.declared.node.Node.{Node}
use Rattle.mpe_links.specs.Lists.{times}
use Rattle.mpe_links.specs.Nodes.{node_at, IsLink}
use Rattle.mpe_links.specs.Writes.{less_links}
use Rattle.mpe_links.specs.Rings.{InUse, InPlace, AreFree}
use Rattle.mpe_regions.specs.declared.regions.Regions.TheInside.{Inside}
use Rattle.mpe_regions.specs.Area.{is_live}
use Rattle.mpe_regions.specs.Loads.{dropped}
use Rattle.mpe_regions.specs.Sound.{IsSound}
use Rattle.mpe_regions.specs.Kept.{Kept}
use Rattle.mpe_regions.specs.LinkedForm.{area_of}
use Rattle.mpe_regions.proofs.LinkLemmas.{sound_of}
use Rattle.mpe_regions.proofs.LinkReads.{find_gives, live_is, dropped_none}
use Rattle.mpe_regions.proofs.TableMoves.{Moved}
use Rattle.mpe_regions.proofs.TableAfter.{needs, released_inside}
use Rattle.mpe_regions.proofs.regions.Regions.give.Goals as goal

pub release-requires-clause-within : goal.release-requires-clause-within
release-requires-clause-within c =
    subst (λ (ns : List Node). c.in-Some.x < length ns) (sym c.deref_mut.ensures.value)
    (needs c.self.inside c.self.invariant c.args.key c.in-Some.x (sym (find_gives c.self.inside c.self.invariant c.args.key c.deref.result.now (Some c.in-Some.x) c.deref.ensures.value c.in-Some.ensures))).within

pub release-requires-clause-left : goal.release-requires-clause-left
release-requires-clause-left c =
    subst (λ (ns : List Node). IsLink (length ns) (node_at ns c.in-Some.x).left) (sym c.deref_mut.ensures.value)
    (needs c.self.inside c.self.invariant c.args.key c.in-Some.x (sym (find_gives c.self.inside c.self.invariant c.args.key c.deref.result.now (Some c.in-Some.x) c.deref.ensures.value c.in-Some.ensures))).left

pub release-requires-clause-right : goal.release-requires-clause-right
release-requires-clause-right c =
    subst (λ (ns : List Node). IsLink (length ns) (node_at ns c.in-Some.x).right) (sym c.deref_mut.ensures.value)
    (needs c.self.inside c.self.invariant c.args.key c.in-Some.x (sym (find_gives c.self.inside c.self.invariant c.args.key c.deref.result.now (Some c.in-Some.x) c.deref.ensures.value c.in-Some.ensures))).right

pub release-requires-clause-older : goal.release-requires-clause-older
release-requires-clause-older c =
    subst (λ (ns : List Node). IsLink (length ns) (node_at ns c.in-Some.x).older) (sym c.deref_mut.ensures.value)
    (needs c.self.inside c.self.invariant c.args.key c.in-Some.x (sym (find_gives c.self.inside c.self.invariant c.args.key c.deref.result.now (Some c.in-Some.x) c.deref.ensures.value c.in-Some.ensures))).older

pub release-requires-clause-newer : goal.release-requires-clause-newer
release-requires-clause-newer c =
    subst (λ (ns : List Node). IsLink (length ns) (node_at ns c.in-Some.x).newer) (sym c.deref_mut.ensures.value)
    (needs c.self.inside c.self.invariant c.args.key c.in-Some.x (sym (find_gives c.self.inside c.self.invariant c.args.key c.deref.result.now (Some c.in-Some.x) c.deref.ensures.value c.in-Some.ensures))).newer

pub returns-in-None-clause-live : goal.returns-in-None-clause-live
returns-in-None-clause-live c = live_is c.self.inside c.self.invariant c.args.key None (find_gives c.self.inside c.self.invariant c.args.key c.deref.result.now None c.deref.ensures.value c.in-None.ensures) ∙ ap (λ (k : Kept). is_live c.args.key k.area) c.self.view_is

pub returns-in-None-clause-dropped : goal.returns-in-None-clause-dropped
returns-in-None-clause-dropped c =
    subst (λ (k : Kept). k.area ≡ dropped c.args.key k.area) c.self.view_is (dropped_none c.self.inside c.self.invariant c.args.key (find_gives c.self.inside c.self.invariant c.args.key c.deref.result.now None c.deref.ensures.value c.in-None.ensures))

pub returns-in-None-clause-sound : goal.returns-in-None-clause-sound
returns-in-None-clause-sound c = subst (λ (k : Kept). IsSound k.area) c.self.view_is (sound_of c.self.inside c.self.invariant)

-- what stands in the vector after the move
items : (c : goal.After-self-1) → (with_items c.self.inside.nodes c.release.new.nodes).items ≡ c.release.new.nodes
items c =
    with_items_is c.self.inside.nodes c.release.new.nodes
    (omega (arith, c.self.inside.nodes.ok.0, c.release.auto.nodes, ap length c.deref_mut.ensures.value))

abbrev after : goal.After-self-1 → Inside
after c = record {
  size = c.self.inside.size;
  nodes = with_items c.self.inside.nodes c.release.new.nodes;
  first = c.release.new.first;
  oldest = c.release.new.oldest;
  newest = c.release.new.newest;
  free = c.release.new.free;
  guesses = c.self.inside.guesses;
}

moved : (c : goal.After-self-1) → Moved (after c) (dropped c.args.key (area_of c.self.inside))
moved c =
    let value = c.deref_mut.ensures.value in
    let new = items c in
    let x = c.in-Some.x in
    released_inside c.self.inside (after c) c.self.invariant c.args.key x refl refl (sym (find_gives c.self.inside c.self.invariant c.args.key c.deref.result.now (Some c.in-Some.x) c.deref.ensures.value c.in-Some.ensures))
    (λ front rest p. subst (λ (ns : List Node). InPlace ns c.release.new.first (front ++ rest)) (sym new)
    (c.release.ensures.placed front rest (subst (λ (ns : List Node). InPlace ns c.self.inside.first (front ++ x ∷ rest)) (sym value) p)))
    (λ us vs u. subst (λ (ns : List Node). InUse ns c.release.new.oldest c.release.new.newest (us ++ vs)) (sym new)
    (c.release.ensures.used us vs (subst (λ (ns : List Node). InUse ns c.self.inside.oldest c.self.inside.newest (us ++ x ∷ vs)) (sym value) u)))
    (λ fs h t l f. subst (λ (ns : List Node). AreFree ns c.release.new.free (x ∷ fs)) (sym new)
    (c.release.ensures.freed fs h t (subst (λ (ns : List Node). times (node_at ns x).left fs ≡ 0) (sym value) l)
    (subst (λ (ns : List Node). AreFree ns c.self.inside.free fs) (sym value) f)))
    (λ k d. subst (λ (ns : List Node). less_links (node_at ns k) ≡ less_links (node_at c.self.inside.nodes.items k)) (sym new)
    (subst (λ (ns : List Node). less_links (node_at c.release.new.nodes k) ≡ less_links (node_at ns k)) value (c.release.ensures.others k d)))
    (subst (λ (ns : List Node). (node_at ns x).live ≡ false) (sym new) c.release.ensures.dead)
    (let e = ap length new in omega (arith, e, c.release.auto.nodes, ap length value))

pub invariant_of-self : goal.invariant_of-self
invariant_of-self c = (moved c).table

pub returns-in-Some-clause-live : goal.returns-in-Some-clause-live
returns-in-Some-clause-live c = live_is c.self.inside c.self.invariant c.args.key (Some c.in-Some.x) (find_gives c.self.inside c.self.invariant c.args.key c.deref.result.now (Some c.in-Some.x) c.deref.ensures.value c.in-Some.ensures) ∙ ap (λ (k : Kept). is_live c.args.key k.area) c.self.view_is

pub returns-in-Some-clause-dropped : goal.returns-in-Some-clause-dropped
returns-in-Some-clause-dropped c = (moved c).is ∙ ap (λ (k : Kept). dropped c.args.key k.area) c.self.view_is

pub returns-in-Some-clause-sound : goal.returns-in-Some-clause-sound
returns-in-Some-clause-sound c = sound_of (after c) (moved c).table
