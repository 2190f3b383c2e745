-- All that a unit's declarations enter.
use Rattle.std.proofs.Common.{◌≤◌, List, length, sym, subst, ◌∙◌}
use Rattle.spl_tree.specs.declared.declarations.Decl.{Decl}
use Rattle.spl_sound.specs.Spelled.{source_of}
use Rattle.spl_modules.specs.Entered.{Walk}
use Rattle.spl_modules.specs.UnitModules.{IsUnitModules}
use Rattle.spl_modules.specs.Walks.{walk_of}
use Rattle.spl_modules.proofs.ModuleLaws.{unit_modules}
use Rattle.spl_modules.proofs.WalkSteps.{unit_end}
use Rattle.spl_modules.proofs.walk.unit_entries.Goals as goal

pub returns : goal.returns
returns c =
    let unit = c.args.unit.now in
    let at_end = subst (λ (ds : List Decl). length ds ≤ c.loop-d.d-index) c.deref-d-items.ensures.value c.loop-d-test.false in
    let all = sym (unit_end unit.segment (walk_of c.loop-d.all) unit.items.items c.loop-d.d-index at_end) ∙ c.loop-d.invariant in
    subst (λ (w : Walk). IsUnitModules (source_of unit) w) (sym all) (unit_modules (source_of unit))
