-- A unit's list stands in no other.
use Rattle.std.proofs.Common.{Option, map, ap, ◌∙◌}
use Rattle.std.proofs.lemmas.Result.{on_ok_weaker}
use Rattle.spl_tree.specs.DeclarationTrees.{declarations}
use Rattle.spl_tree.specs.Spells.{declaration}
use Rattle.spl_sound.specs.spl_meaning.Names.{Names, find, nothing_declared}
use Rattle.spl_sound.specs.spl_meaning.Limits.{Full}
use Rattle.spl_sorts.specs.Tables.{table_of}
use Rattle.spl_areas.specs.spl_found.OwnNames.{over, behind_declarations}
use Rattle.spl_limits.specs.FirstPassed.{behind_subroutines, behind_globals}
use Rattle.spl_limits.proofs.units.unit_passed.Goals as goal

pub returns : goal.returns
returns c =
    let ds = declarations (map declaration c.args.list.now) in
    let f = c.args.first.now in
    let none = c.nothing-here.ensures in
    let own = c.in_ok-globals.ensures.names ∙ ap (λ (here : Names). behind_declarations nothing_declared here ds) none in
    let all = behind_declarations nothing_declared nothing_declared ds in
    on_ok_weaker c.subroutines.result
    (λ e. e
    ∙ ap (λ (outer : Names). behind_subroutines (over (find (table_of c.globals.new.here)) outer) ds c.globals.new.first) c.nothing-outer.ensures
    ∙ ap (λ (here : Names). behind_subroutines (over here nothing_declared) ds c.globals.new.first) own
    ∙ ap (λ (k : Option Full). behind_subroutines (over all nothing_declared) ds k)
    (c.in_ok-globals.ensures.first ∙ ap (λ (here : Names). behind_globals here ds f) none))
    c.subroutines.ensures
