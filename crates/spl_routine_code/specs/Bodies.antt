-- The statements of a body, as a part of code.
use Rattle.std.specs.Prelude.{ℕ}
use Rattle.spl_tree.specs.StatementTrees.{Statements}
use Rattle.spl_sorts.specs.spl_meaning.Names.{Table, find}
use Rattle.spl_label_marks.specs.spl_code.Parts.{Part}
use Rattle.spl_label_marks.specs.spl_code.Calls.{Scope}
use Rattle.spl_label_marks.specs.spl_statement_code.Landings.{Landing, Context}
use Rattle.spl_label_marks.specs.spl_statement_code.Statements.{listed}
use Rattle.spl_label_marks.specs.spl_module_code.LabelsOfBodies.{labels_among, with_landings}

-- what the statements of a body are made with, where its labels lead as a table has it, and RETURN to a mark
abbrev pub context_with : Scope → Table Landing → ℕ → Context
context_with scope labels leave = record { scope = scope; landings = find labels; leave = leave }

-- the statements of a body, behind new marks for its labels; nothing waits before them
abbrev pub statements_part : Scope → Statements → ℕ → Part
statements_part scope ss leave = with_landings (labels_among ss 0) (λ labels. listed (context_with scope labels leave) ss 0)
