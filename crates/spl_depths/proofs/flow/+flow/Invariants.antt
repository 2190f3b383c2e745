-- A loop over statements.
use Rattle.std.proofs.Common.{◌≡◌, map, drop}
use Rattle.spl_tree.specs.Views as view
use Rattle.spl_tree.specs.StatementTrees.{statements}
use Rattle.spl_sorts.specs.Tables.{names_of}
use Rattle.spl_depths.specs.Places.{shown}
use Rattle.spl_depths.specs.Reached.{reached_statements}
use Rattle.spl_depths.proofs.flow.+flow.Given as goal

-- the first limit from here on is that of all
abbrev pub invariant-in_order-loop-one : goal.invariant-in_order-loop-one
invariant-in_order-loop-one l =
    reached_statements (names_of l.inside.names) (shown l.inside.reach.now) (statements (map view.statement (drop l.one-index l.list))) l.waiting l.first
    ≡ reached_statements (names_of l.inside.names) (shown l.inside.reach.now) (statements (map view.statement l.list)) l.waiting l.initial.first
