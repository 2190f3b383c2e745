-- The parameters are the first names inside.
use Rattle.std.proofs.Common.{List, map, ap, ◌∙◌}
use Rattle.std.proofs.lemmas.Result.{on_ok_weaker}
use Rattle.spl_tree.specs.Spells.{heading_tree}
use Rattle.spl_tree.specs.Views.{statement}
use Rattle.spl_sound.specs.spl_meaning.Names as n
use Rattle.spl_sound.specs.spl_meaning.Names.{Names, find, parameters}
use Rattle.spl_sound.specs.spl_meaning.Limits.{first_among}
use Rattle.spl_sorts.specs.declared.profiles.Formal.{Formal}
use Rattle.spl_sorts.specs.Profiles.{formal_of}
use Rattle.spl_sorts.specs.Tables.{table_of}
use Rattle.spl_areas.specs.spl_found.OwnNames.{over}
use Rattle.spl_depths.specs.ReachLaws.{body_limits}
use Rattle.spl_limits.proofs.bodies.subroutine.Goals as goal

pub returns : goal.returns
returns c =
    let around = over (find (table_of c.args.own.now)) (find (table_of c.args.outer.now)) in
    let h = heading_tree c.args.heading.now in
    let formals = ap (λ (fs : List Formal). map formal_of fs) c.deref.ensures.value ∙ ap (λ (p : n.Profile). p.formals) c.in_ok-profile.ensures in
    let names = c.in_ok-parameters.ensures ∙ ap (λ (fs : List n.Formal). find (parameters fs)) formals in
    on_ok_weaker c.subroutine_limits.result
    (λ e. e ∙ ap (λ (here : Names). first_among c.args.first.now (body_limits h (over here around) (statement c.args.statement.now))) names)
    c.subroutine_limits.ensures
