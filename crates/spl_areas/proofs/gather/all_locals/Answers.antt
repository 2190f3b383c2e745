-- One unit more.
use Rattle.std.proofs.Common.{List, map, ap, ◌++◌, ◌∙◌}
use Rattle.spl_tree.specs.declared.declarations.Decl.{Decl}
use Rattle.spl_tree.specs.DeclarationTrees.{declarations}
use Rattle.spl_tree.specs.Spells.{declaration}
use Rattle.spl_sound.specs.spl_meaning.Names.{nothing_declared}
use Rattle.spl_places.specs.ListedData.{datum_of}
use Rattle.spl_places.specs.Gathered.{items_among}
use Rattle.spl_areas.proofs.GatherWalks.{units_more}
use Rattle.spl_areas.proofs.gather.all_locals.Goals as goal

pub loop-unit-preserved : goal.loop-unit-preserved
loop-unit-preserved c =
    let items = c.in_ok-unit_locals.ensures
    ∙ ap (λ (list : List Decl). map datum_of c.loop-unit.all.items ++ items_among nothing_declared (declarations (map declaration list))) c.deref.ensures.value in
    units_more (map datum_of c.loop-unit.all.items) (map datum_of c.unit_locals.new.all.items) _ c.args.units.now c.loop-unit.unit-index c.unit-item.result
    c.loop-unit-test.true c.unit-item.is items c.loop-unit.invariant
