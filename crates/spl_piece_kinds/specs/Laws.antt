-- Each piece in the code of expressions, statements, bodies and modules has an instruction of its kind, whatever their trees and their names.
use Rattle.std.specs.Prelude.{◌≡◌, ℕ, true, List}
use Rattle.spl_module_code.specs.spl_tree.Trees.{Tree}
use Rattle.spl_module_code.specs.spl_tree.StatementTrees.{Statement, Statements}
use Rattle.spl_module_code.specs.spl_meaning.Bodies.{Body}
use Rattle.spl_module_code.specs.spl_code.Calls.{Scope}
use Rattle.spl_module_code.specs.spl_code.Code.{Aim, code, reference}
use Rattle.spl_module_code.specs.spl_statement_code.Landings.{Context}
use Rattle.spl_module_code.specs.spl_statement_code.Statements.{statement, listed}
use Rattle.spl_module_code.specs.spl_scopes.Entries.{Owner, Entry}
use Rattle.spl_module_code.specs.spl_scopes.Scopes.{Placed}
use Rattle.spl_module_code.specs.Bodies.{body_statements}
use Rattle.spl_module_code.specs.Modules.{module_part, module_written}
use Rattle.spl_piece_kinds.specs.Kinds.{have_kinds, HasKinds}

abbrev pub CodeHasKinds : Type 0
CodeHasKinds = (c : Scope) (e : Tree) (aim : Aim) (k : ℕ) → HasKinds (code c e aim k)

abbrev pub ReferenceHasKinds : Type 0
ReferenceHasKinds = (c : Scope) (e : Tree) (k : ℕ) → HasKinds (reference c e k)

abbrev pub StatementHasKinds : Type 0
StatementHasKinds = (c : Context) (s : Statement) (k : ℕ) → HasKinds (statement c s k)

abbrev pub StatementsHaveKinds : Type 0
StatementsHaveKinds = (c : Context) (ss : Statements) (k : ℕ) → HasKinds (listed c ss k)

-- the statements of a body, in a module with any entries
abbrev pub BodyStatementsHaveKinds : Type 0
BodyStatementsHaveKinds = (es : List Entry) (o : Owner) (b : Body) (leave : ℕ) → HasKinds (body_statements es o b leave)

abbrev pub ModuleHasKinds : Type 0
ModuleHasKinds = (p : Placed) (g : ℕ) → HasKinds (module_part p g)

-- so each piece of the code of a unit in a segment has an instruction of its kind
abbrev pub CodesHaveKinds : Type 0
CodesHaveKinds = (p : Placed) (g : ℕ) → have_kinds (module_written p g).pieces ≡ true
