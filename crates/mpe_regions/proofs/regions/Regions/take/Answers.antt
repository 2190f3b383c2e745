-- The region is entered in the hole that was found; the table has a free node.
use Rattle.std.proofs.Common.{◌≡◌, ◌∙◌, ◌<◌, List, [], ◌∷◌, ◌++◌, length, ap, subst, sym, refl, arith, Some, None}
use Rattle.std.specs.Vec.{with_items}
use Rattle.std.proofs.lemmas.List.{with_items_is}
use Rattle.mpe_links.specs.declared.node.Node.{Node}
use Rattle.mpe_links.specs.Nodes.{node_at, right_of, IsLink}
use Rattle.mpe_links.specs.Writes.{less_links}
use Rattle.mpe_links.specs.Rings.{InUse, InPlace, AreFree}
use Rattle.mpe_regions.specs.declared.regions.Regions.TheInside.{Inside}
use Rattle.mpe_regions.specs.Area.{IsAbsent}
use Rattle.mpe_regions.specs.Loads.{hole, put, put_if}
use Rattle.mpe_regions.specs.Sound.{IsSound}
use Rattle.mpe_regions.specs.Kept.{Kept}
use Rattle.mpe_regions.specs.LinkedForm.{area_of}
use Rattle.mpe_regions.proofs.LinkLemmas.{sound_of}
use Rattle.mpe_regions.proofs.TableMoves.{Moved}
use Rattle.mpe_regions.proofs.TableAfter.{ready, entered_inside, hole_gives, hole_tells}
use Rattle.mpe_regions.proofs.regions.Regions.take.Goals as goal

pub enter-requires-clause-within : goal.enter-requires-clause-within
enter-requires-clause-within c =
    subst (λ (ns : List Node). c.self.inside.free < length ns) (sym c.deref_mut.ensures.value)
    (ready c.self.inside c.self.invariant c.args.size c.in-Some.hole (hole_gives c.self.inside c.self.invariant c.args.size c.deref.result.now (Some c.in-Some.hole) c.deref.ensures.value c.in-Some.ensures c.requires.some) (subst (λ (k : Kept). length k.area.list < k.room) (sym c.self.view_is) c.requires.free)).within

pub enter-requires-clause-before : goal.enter-requires-clause-before
enter-requires-clause-before c =
    subst (λ (ns : List Node). IsLink (length ns) c.in-Some.hole.before) (sym c.deref_mut.ensures.value)
    (ready c.self.inside c.self.invariant c.args.size c.in-Some.hole (hole_gives c.self.inside c.self.invariant c.args.size c.deref.result.now (Some c.in-Some.hole) c.deref.ensures.value c.in-Some.ensures c.requires.some) (subst (λ (k : Kept). length k.area.list < k.room) (sym c.self.view_is) c.requires.free)).link

pub enter-requires-clause-behind : goal.enter-requires-clause-behind
enter-requires-clause-behind c =
    subst (λ (ns : List Node). IsLink (length ns) (right_of ns c.self.inside.first c.in-Some.hole.before)) (sym c.deref_mut.ensures.value)
    (ready c.self.inside c.self.invariant c.args.size c.in-Some.hole (hole_gives c.self.inside c.self.invariant c.args.size c.deref.result.now (Some c.in-Some.hole) c.deref.ensures.value c.in-Some.ensures c.requires.some) (subst (λ (k : Kept). length k.area.list < k.room) (sym c.self.view_is) c.requires.free)).behind

pub enter-requires-clause-newest : goal.enter-requires-clause-newest
enter-requires-clause-newest c =
    subst (λ (ns : List Node). IsLink (length ns) c.self.inside.newest) (sym c.deref_mut.ensures.value)
    (ready c.self.inside c.self.invariant c.args.size c.in-Some.hole (hole_gives c.self.inside c.self.invariant c.args.size c.deref.result.now (Some c.in-Some.hole) c.deref.ensures.value c.in-Some.ensures c.requires.some) (subst (λ (k : Kept). length k.area.list < k.room) (sym c.self.view_is) c.requires.free)).newest

pub returns-in-None-clause-place : goal.returns-in-None-clause-place
returns-in-None-clause-place c =
    hole_tells c.self.inside c.self.invariant c.args.size None (hole_gives c.self.inside c.self.invariant c.args.size c.deref.result.now None c.deref.ensures.value c.in-None.ensures c.requires.some) ∙ ap (λ (k : Kept). hole k.area c.args.size) c.self.view_is

pub returns-in-None-clause-taken : goal.returns-in-None-clause-taken
returns-in-None-clause-taken c =
    ap (λ o. put_if c.args.key c.args.size o c.args.self.now.area)
    (hole_tells c.self.inside c.self.invariant c.args.size None (hole_gives c.self.inside c.self.invariant c.args.size c.deref.result.now None c.deref.ensures.value c.in-None.ensures c.requires.some) ∙ ap (λ (k : Kept). hole k.area c.args.size) c.self.view_is)

pub returns-in-None-clause-sound : goal.returns-in-None-clause-sound
returns-in-None-clause-sound c = subst (λ (k : Kept). IsSound k.area) c.self.view_is (sound_of c.self.inside c.self.invariant)

-- what stands in the vectors after the move
items : (c : goal.After-self-in-Some-1) → (with_items c.self.inside.nodes c.enter.new.nodes).items ≡ c.enter.new.nodes
items c =
    with_items_is c.self.inside.nodes c.enter.new.nodes
    (omega (arith, c.self.inside.nodes.ok.0, c.enter.auto.nodes, ap length c.deref_mut.ensures.value))

noted : (c : goal.After-self-in-Some-1) → (with_items c.self.inside.guesses c.note.new.guesses).items ≡ c.note.new.guesses
noted c =
    with_items_is c.self.inside.guesses c.note.new.guesses
    (omega (arith, c.self.inside.guesses.ok.0, c.note.auto.guesses, ap length c.deref_mut-in-Some.ensures.value))

abbrev after : goal.After-self-in-Some-1 → Inside
after c = record {
  size = c.self.inside.size;
  nodes = with_items c.self.inside.nodes c.enter.new.nodes;
  first = c.enter.new.first;
  oldest = c.enter.new.oldest;
  newest = c.enter.new.newest;
  free = c.enter.new.free;
  guesses = with_items c.self.inside.guesses c.note.new.guesses;
}

moved : (c : goal.After-self-in-Some-1) → Moved (after c) (put c.args.key c.args.size c.in-Some.hole.place (area_of c.self.inside))
moved c =
    let value = c.deref_mut.ensures.value in
    let new = items c in
    let x = c.self.inside.free in
    entered_inside c.self.inside (after c) c.self.invariant c.args.key c.args.size c.in-Some.hole (hole_gives c.self.inside c.self.invariant c.args.size c.deref.result.now (Some c.in-Some.hole) c.deref.ensures.value c.in-Some.ensures c.requires.some) c.requires.some (subst (λ (k : Kept). IsAbsent c.args.key k.area) (sym c.self.view_is) c.requires.fresh) (subst (λ (k : Kept). length k.area.list < k.room) (sym c.self.view_is) c.requires.free) refl
    (let e = ap length (noted c) in omega (arith, e, c.note.auto.guesses, ap length c.deref_mut-in-Some.ensures.value))
    (λ xs ys e t p. subst (λ (ns : List Node). InPlace ns c.enter.new.first (xs ++ x ∷ ys)) (sym new)
    (c.enter.ensures.placed xs ys e t (subst (λ (ns : List Node). InPlace ns c.self.inside.first (xs ++ ys)) (sym value) p)))
    (λ us t u. subst (λ (ns : List Node). InUse ns c.enter.new.oldest c.enter.new.newest (us ++ x ∷ [])) (sym new)
    (c.enter.ensures.used us t (subst (λ (ns : List Node). InUse ns c.self.inside.oldest c.self.inside.newest us) (sym value) u)))
    (λ fs m b t f. subst (λ (ns : List Node). AreFree ns c.enter.new.free fs) (sym new)
    (c.enter.ensures.spare fs m b t (subst (λ (ns : List Node). AreFree ns x (x ∷ fs)) (sym value) f)))
    (λ k d. subst (λ (ns : List Node). less_links (node_at ns k) ≡ less_links (node_at c.self.inside.nodes.items k)) (sym new)
    (subst (λ (ns : List Node). less_links (node_at c.enter.new.nodes k) ≡ less_links (node_at ns k)) value (c.enter.ensures.others k d)))
    (ap (λ (ns : List Node). less_links (node_at ns x)) new ∙ c.enter.ensures.here)
    (let e = ap length new in omega (arith, e, c.enter.auto.nodes, ap length value))

pub invariant_of-self : goal.invariant_of-self
invariant_of-self c = (moved c).table

pub returns-in-Some-clause-place : goal.returns-in-Some-clause-place
returns-in-Some-clause-place c =
    hole_tells c.self.inside c.self.invariant c.args.size (Some c.in-Some.hole) (hole_gives c.self.inside c.self.invariant c.args.size c.deref.result.now (Some c.in-Some.hole) c.deref.ensures.value c.in-Some.ensures c.requires.some) ∙ ap (λ (k : Kept). hole k.area c.args.size) c.self.view_is

pub returns-in-Some-clause-taken : goal.returns-in-Some-clause-taken
returns-in-Some-clause-taken c =
    (moved c).is
    ∙ ap (λ o. put_if c.args.key c.args.size o (area_of c.self.inside)) (hole_tells c.self.inside c.self.invariant c.args.size (Some c.in-Some.hole) (hole_gives c.self.inside c.self.invariant c.args.size c.deref.result.now (Some c.in-Some.hole) c.deref.ensures.value c.in-Some.ensures c.requires.some))
    ∙ ap (λ (k : Kept). put_if c.args.key c.args.size (hole k.area c.args.size) k.area) c.self.view_is

pub returns-in-Some-clause-sound : goal.returns-in-Some-clause-sound
returns-in-Some-clause-sound c = sound_of (after c) (moved c).table
