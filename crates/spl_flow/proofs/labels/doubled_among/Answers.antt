-- From a table without labels on.
use Rattle.std.proofs.Common.{map}
use Rattle.spl_tree.specs.Views as view
use Rattle.spl_tree.specs.StatementTrees.{statements}
use Rattle.spl_sorts.specs.spl_meaning.StatementRules as rules
use Rattle.spl_flow.proofs.LabelLemmas.{seen_from_none}
use Rattle.spl_flow.proofs.labels.doubled_among.Goals as goal

pub returns : goal.returns
returns c = seen_from_none c.labels_among.new.table _ c.new-table.result c.args.report.now
    (rules.all_labels_of (statements (map view.statement c.args.list.now))) c.new-table.ensures c.in_ok-labels_among.ensures
