-- Loops over the statements of a list and over those of a CASE.
use Rattle.std.proofs.Common.{◌≡◌, drop, map, false}
use Rattle.spl_tree.specs.Views as view
use Rattle.spl_tree.specs.StatementTrees.{statements}
use Rattle.spl_found.specs.FoundStatements.{found_statements, found_arms}
use Rattle.spl_uses.specs.Scopes.{scope_of}
use Rattle.spl_flow.specs.Labels.{shown}
use Rattle.spl_flow.proofs.statements.+statements.Given as goal

-- what is found from here in the statements that are left is what is found in all, with the same labels
abbrev pub invariant-in_order-loop-one : goal.invariant-in_order-loop-one
invariant-in_order-loop-one l = record {
  first : found_statements (scope_of l.scope) (shown l.labels.items) l.after (statements (map view.statement (drop l.one-index l.list))) l.report
      ≡ found_statements (scope_of l.scope) (shown l.initial.labels.items) false (statements (map view.statement l.list)) l.initial.report;
  kept : l.labels.items ≡ l.initial.labels.items;
}

-- what is found from here in the statements that are left is what is found in all, with the same labels
abbrev pub invariant-apart-loop-one : goal.invariant-apart-loop-one
invariant-apart-loop-one l = record {
  first : found_arms (scope_of l.scope) (shown l.labels.items) (statements (map view.statement (drop l.one-index l.list))) l.report
      ≡ found_arms (scope_of l.scope) (shown l.initial.labels.items) (statements (map view.statement l.list)) l.initial.report;
  kept : l.labels.items ≡ l.initial.labels.items;
}
