-- A loop over arguments.
use Rattle.std.proofs.Common.{◌≡◌, map, drop}
use Rattle.spl_tree.specs.Views as view
use Rattle.spl_tree.specs.Trees.{trees}
use Rattle.spl_sorts.specs.Profiles.{formal_of}
use Rattle.spl_sorts.specs.Tables.{names_of}
use Rattle.spl_depths.specs.Places.{shown}
use Rattle.spl_depths.specs.Reached.{reached_among}
use Rattle.spl_depths.proofs.uses.+uses.Given as goal

-- the first limit from here on is that of all
abbrev pub invariant-arguments-loop-e : goal.invariant-arguments-loop-e
invariant-arguments-loop-e l =
    reached_among (names_of l.inside.names) (shown l.inside.reach.now) (map formal_of l.formals) (trees (map view.expression (drop l.e-index l.args))) l.waiting l.first
    ≡ reached_among (names_of l.inside.names) (shown l.inside.reach.now) (map formal_of l.initial.formals) (trees (map view.expression l.args)) l.initial.waiting l.initial.first
