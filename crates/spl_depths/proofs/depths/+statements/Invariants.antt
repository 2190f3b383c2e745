-- A loop over statements.
use Rattle.std.proofs.Common.{◌≡◌, max, map, drop}
use Rattle.spl_tree.specs.Views as view
use Rattle.spl_tree.specs.StatementTrees.{statements}
use Rattle.spl_sorts.specs.spl_meaning.Pending as pending
use Rattle.spl_sorts.specs.Tables.{names_of}
use Rattle.spl_depths.proofs.depths.+statements.Given as goal

-- the most so far, or that of the statements from here on, is the most of all
abbrev pub invariant-in_order-loop-one : goal.invariant-in_order-loop-one
invariant-in_order-loop-one l =
    max l.most (pending.statements_most (names_of l.names) (statements (map view.statement (drop l.one-index l.list))))
    ≡ pending.statements_most (names_of l.names) (statements (map view.statement l.list))
