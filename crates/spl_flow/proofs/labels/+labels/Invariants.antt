-- The labels of a body, statement by statement.
use Rattle.std.proofs.Common.{◌≡◌, drop, map}
use Rattle.spl_tree.specs.Views as view
use Rattle.spl_tree.specs.StatementTrees.{statements}
use Rattle.spl_sorts.specs.spl_meaning.StatementRules as rules
use Rattle.spl_flow.specs.Labels.{seen, seen_all}
use Rattle.spl_flow.proofs.labels.+labels.Given as goal

-- what is seen from here in the statements that are left is what is seen in all
abbrev pub invariant-labels_among-loop-statement : goal.invariant-labels_among-loop-statement
invariant-labels_among-loop-statement l =
    seen_all (seen l.table l.report) (rules.all_labels_of (statements (map view.statement (drop l.statement-index l.list))))
    ≡ seen_all (seen l.initial.table l.initial.report) (rules.all_labels_of (statements (map view.statement l.list)))
