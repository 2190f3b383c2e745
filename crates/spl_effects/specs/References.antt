-- References at the front of a statement.
use Rattle.std.specs.Prelude.{ℕ, List, map, Vec}
use Rattle.std.specs.declared.alloc.Global.{Global}
use Rattle.spl_tree.specs.declared.names_and_places.At.{At}
use Rattle.spl_tree.specs.declared.statements.Stmt.{Stmt}
use Rattle.spl_tree.specs.Trees as tree
use Rattle.spl_tree.specs.Trees.{Tree}
use Rattle.spl_tree.specs.StatementTrees as stat
use Rattle.spl_tree.specs.Views as view
use Rattle.spl_reading.specs.Readers.{Parser}
use Rattle.spl_reading.specs.ReadStatements as r

-- the place of a reference, and the call that it is where no assignment follows
abbrev pub place_of : Tree → At
place_of (tree.Tree.named letters index at) = at
place_of _ = record { unit = 0; line = 0; column = 0 }

abbrev pub call_of : Tree → stat.Statement
call_of (tree.Tree.named letters index at) = stat.Statement.call letters index at
call_of _ = stat.Statement.empty

-- what stands behind a reference at the front of a statement
abbrev pub behind : ℕ → Tree → Parser stat.Statement
behind room reference = r.behind_reference room reference (place_of reference) (call_of reference)

-- statements in order
abbrev pub statements : Vec Stmt Global → List stat.Statement
statements xs = map view.statement xs.items
