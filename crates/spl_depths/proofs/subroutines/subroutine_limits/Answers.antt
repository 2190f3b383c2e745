-- The heading's limit first, and then those of uses, from no waiting word on.
use Rattle.std.proofs.Common.{ap, ◌∙◌}
use Rattle.std.proofs.lemmas.Result.{on_ok_weaker}
use Rattle.spl_tree.specs.Views as view
use Rattle.spl_tree.specs.Spells.{heading_tree}
use Rattle.spl_sorts.specs.Tables.{names_of}
use Rattle.spl_depths.specs.Places.{shown}
use Rattle.spl_depths.specs.Reach.{reach_of}
use Rattle.spl_depths.proofs.ReachLaws.{first_in_body}
use Rattle.spl_depths.proofs.subroutines.subroutine_limits.Goals as goal

pub returns : goal.returns
returns c =
    let h = heading_tree c.args.heading.now in
    let reach = c.in_ok-reach.ensures ∙ ap (reach_of h.name) c.requires in
    on_ok_weaker c.statement.result
    (λ walked. first_in_body h (names_of c.args.names.now) (view.statement c.args.body.now) (shown c.in_ok-reach.reach) c.args.first.now
    c.heading_limits.new.first c.statement.new.first reach c.heading_limits.ensures walked)
    c.statement.ensures
