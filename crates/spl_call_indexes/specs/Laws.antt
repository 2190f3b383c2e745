-- Each call in the code of expressions, statements, bodies and modules has its index.
use Rattle.std.specs.Prelude.{◌≡◌, ℕ, true, List, length}
use Rattle.std.specs.List.{list_all}
use Rattle.spl_module_code.specs.spl_tree.Trees.{Tree}
use Rattle.spl_module_code.specs.spl_tree.StatementTrees.{Statement, Statements}
use Rattle.spl_module_code.specs.spl_meaning.Bodies.{Body}
use Rattle.spl_module_code.specs.spl_branch.declared.buffer.Code.{Code}
use Rattle.spl_module_code.specs.spl_branch.Pieces.{is_indexed}
use Rattle.spl_module_code.specs.spl_code.Calls.{Scope}
use Rattle.spl_module_code.specs.spl_code.Code.{Aim, code, reference}
use Rattle.spl_module_code.specs.spl_statement_code.Landings.{Context}
use Rattle.spl_module_code.specs.spl_statement_code.Statements.{statement, listed}
use Rattle.spl_module_code.specs.spl_scopes.Entries.{Owner, Entry, module_entries}
use Rattle.spl_module_code.specs.spl_scopes.Scopes.{Placed}
use Rattle.spl_module_code.specs.Bodies.{body_statements}
use Rattle.spl_module_code.specs.Modules.{module_part, IsCodeOf}
use Rattle.spl_call_indexes.specs.Indexes.{IsIndexedPart, EntriesBelow}

abbrev pub CodeIsIndexed : Type 0
CodeIsIndexed = (n : ℕ) (c : Scope) → EntriesBelow n c → (e : Tree) (aim : Aim) (k : ℕ) → IsIndexedPart n (code c e aim k)

abbrev pub ReferenceIsIndexed : Type 0
ReferenceIsIndexed = (n : ℕ) (c : Scope) → EntriesBelow n c → (e : Tree) (k : ℕ) → IsIndexedPart n (reference c e k)

abbrev pub StatementIsIndexed : Type 0
StatementIsIndexed = (n : ℕ) (c : Context) → EntriesBelow n c.scope → (s : Statement) (k : ℕ) → IsIndexedPart n (statement c s k)

abbrev pub StatementsAreIndexed : Type 0
StatementsAreIndexed = (n : ℕ) (c : Context) → EntriesBelow n c.scope → (ss : Statements) (k : ℕ) → IsIndexedPart n (listed c ss k)

-- the statements of a body call entries of its module alone
abbrev pub BodyStatementsAreIndexed : Type 0
BodyStatementsAreIndexed = (es : List Entry) (o : Owner) (b : Body) (leave : ℕ) → IsIndexedPart (length es) (body_statements es o b leave)

abbrev pub ModuleIsIndexed : Type 0
ModuleIsIndexed = (p : Placed) (g : ℕ) → IsIndexedPart (length (module_entries p.unit g)) (module_part p g)

-- so each call in the code of a unit in a segment has its want or its entry
abbrev pub CodesHaveIndexes : Type 0
CodesHaveIndexes = (p : Placed) (name : List ℕ) (g : ℕ) (c : Code) → IsCodeOf p name g c
    → list_all (is_indexed (length c.wants.items) (length c.entries.items)) c.pieces.items ≡ true
