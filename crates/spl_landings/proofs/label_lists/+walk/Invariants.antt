-- A loop over statements.
use Rattle.std.proofs.Common.{◌≡◌, ◌++◌, map, drop}
use Rattle.spl_tree.specs.Views as view
use Rattle.spl_tree.specs.StatementTrees as trees
use Rattle.spl_module_code.specs.LabelsOfBodies.{labels_among}
use Rattle.spl_landings.specs.Labels.{label_of}
use Rattle.spl_landings.proofs.label_lists.+walk.Given as goal

-- the labels so far, with those from here on, are those before the list, with all of it
abbrev pub invariant-among-loop-one : goal.invariant-among-loop-one
invariant-among-loop-one l =
    map label_of l.labels.items ++ labels_among (trees.statements (map view.statement (drop l.one-index l.statements))) l.pending
    ≡ map label_of l.initial.labels.items ++ labels_among (trees.statements (map view.statement l.statements)) l.pending
