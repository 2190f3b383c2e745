-- One declaration more.
use Rattle.std.proofs.Common.{◌<◌, ◌≤◌, ◌≡◌, List, length, get_or, map, subst}
use Rattle.spl_tree.specs.declared.declarations.Decl.{Decl}
use Rattle.spl_tree.specs.DeclarationTrees.{declarations}
use Rattle.spl_tree.specs.Spells.{declaration}
use Rattle.spl_unit_laws.specs.spl_body_scopes.Levels.{level_of}
use Rattle.spl_unit_laws.specs.Known.{Known}
use Rattle.spl_unit_walks.specs.Views.{fixed_of}
use Rattle.spl_unit_walks.proofs.Frees.{walk_first, walk_next, free_at, once_at, walk_done}
use Rattle.spl_gen_proc.proofs.walk.walk.Goals as goal

pub loop-item-init : goal.loop-item-init
loop-item-init c =
    let unit = c.args.fixed.now.unit.now in
    let from : Known = record { level = level_of c.args.level.now; at = c.args.start; parts = c.args.parts.now.items } in
    walk_first (fixed_of c.args.fixed.now) unit.subprogram unit.items.items from c.requires.free c.requires.once

pub grow-requires-clause-free : goal.grow-requires-clause-free
grow-requires-clause-free c =
    let unit = c.args.fixed.now.unit.now in
    let i = c.loop-item.item-index in
    let d = c.item-item.result in
    let from : Known = record { level = level_of c.args.level.now; at = c.args.start; parts = c.args.parts.now.items } in
    let now : Known = record { level = level_of c.loop-item.level; at = c.loop-item.at; parts = c.loop-item.parts.items } in
    free_at (fixed_of c.args.fixed.now) unit.subprogram (declarations (map declaration unit.items.items)) unit.items.items i d from now c.loop-item.invariant
    (subst (λ (ds : List Decl). i < length ds) c.deref-item-items.ensures.value c.loop-item-test.true)
    (subst (λ (ds : List Decl). d ≡ get_or ds i d) c.deref-item-items.ensures.value c.item-item.is)

pub grow-requires-clause-once : goal.grow-requires-clause-once
grow-requires-clause-once c =
    let unit = c.args.fixed.now.unit.now in
    let i = c.loop-item.item-index in
    let d = c.item-item.result in
    let from : Known = record { level = level_of c.args.level.now; at = c.args.start; parts = c.args.parts.now.items } in
    let now : Known = record { level = level_of c.loop-item.level; at = c.loop-item.at; parts = c.loop-item.parts.items } in
    once_at (fixed_of c.args.fixed.now) unit.subprogram (declarations (map declaration unit.items.items)) unit.items.items i d from now c.loop-item.invariant
    (subst (λ (ds : List Decl). i < length ds) c.deref-item-items.ensures.value c.loop-item-test.true)
    (subst (λ (ds : List Decl). d ≡ get_or ds i d) c.deref-item-items.ensures.value c.item-item.is)

pub loop-item-preserved : goal.loop-item-preserved
loop-item-preserved c =
    let unit = c.args.fixed.now.unit.now in
    let i = c.loop-item.item-index in
    let d = c.item-item.result in
    let from : Known = record { level = level_of c.args.level.now; at = c.args.start; parts = c.args.parts.now.items } in
    let now : Known = record { level = level_of c.loop-item.level; at = c.loop-item.at; parts = c.loop-item.parts.items } in
    let next : Known = record { level = level_of c.declare.new.level; at = c.in_ok-at.at; parts = c.grow.new.parts.items } in
    walk_next (fixed_of c.args.fixed.now) unit.subprogram (declarations (map declaration unit.items.items)) unit.items.items i d from now next c.loop-item.invariant
    (subst (λ (ds : List Decl). i < length ds) c.deref-item-items.ensures.value c.loop-item-test.true)
    (subst (λ (ds : List Decl). d ≡ get_or ds i d) c.deref-item-items.ensures.value c.item-item.is)
    c.in_ok-declare.ensures c.in_ok-at.ensures

pub returns-clause-steps : goal.returns-clause-steps
returns-clause-steps c =
    let unit = c.args.fixed.now.unit.now in
    let i = c.loop-item.item-index in
    let from : Known = record { level = level_of c.args.level.now; at = c.args.start; parts = c.args.parts.now.items } in
    let now : Known = record { level = level_of c.loop-item.level; at = c.loop-item.at; parts = c.loop-item.parts.items } in
    (walk_done (fixed_of c.args.fixed.now) unit.subprogram (declarations (map declaration unit.items.items)) unit.items.items i from now c.loop-item.invariant
    (subst (λ (ds : List Decl). length ds ≤ i) c.deref-item-items.ensures.value c.loop-item-test.false)).0

pub returns-clause-free : goal.returns-clause-free
returns-clause-free c =
    let unit = c.args.fixed.now.unit.now in
    let i = c.loop-item.item-index in
    let from : Known = record { level = level_of c.args.level.now; at = c.args.start; parts = c.args.parts.now.items } in
    let now : Known = record { level = level_of c.loop-item.level; at = c.loop-item.at; parts = c.loop-item.parts.items } in
    (walk_done (fixed_of c.args.fixed.now) unit.subprogram (declarations (map declaration unit.items.items)) unit.items.items i from now c.loop-item.invariant
    (subst (λ (ds : List Decl). length ds ≤ i) c.deref-item-items.ensures.value c.loop-item-test.false)).1
