-- A table of the labels of a list.
use Rattle.std.proofs.Common.{◌≡◌, drop, map}
use Rattle.spl_tree.specs.Views as view
use Rattle.spl_tree.specs.StatementTrees.{statements}
use Rattle.spl_sorts.specs.spl_meaning.StatementRules as rules
use Rattle.spl_sorts.specs.Tables.{table_of}
use Rattle.spl_flow.specs.Labels.{with_labels}
use Rattle.spl_flow.proofs.labels.list_labels.Given as goal

-- the table with the labels that are left is that with all
abbrev pub invariant-loop-statement : goal.invariant-loop-statement
invariant-loop-statement l =
    with_labels (table_of l.table) (rules.list_labels (statements (map view.statement (drop l.statement-index l.list))))
    ≡ with_labels (table_of l.initial.table) (rules.list_labels (statements (map view.statement l.list)))
