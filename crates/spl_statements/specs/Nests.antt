-- A function value that reads statements, where fewer than so many constructs may be opened; and the rules of a
-- statement
-- by what is inside.
use Rattle.std.specs.Prelude.{ℕ, zero, suc, ◌<◌, List, if◌then◌else◌, Result}
use Rattle.std.specs.declared.alloc.Global.{Global}
use denote.Ref.{MutBor}
use Rattle.spl_tree.specs.declared.statements.Stmt.{Stmt}
use Rattle.spl_tree.specs.declared.symbols.Reserved.{Reserved}
use Rattle.spl_tree.specs.Symbols.{Lexeme}
use Rattle.spl_tree.specs.Trees as tree
use Rattle.spl_tree.specs.Trees.{Tree, trees}
use Rattle.spl_tree.specs.StatementTrees as stat
use Rattle.spl_tree.specs.Views as view
use Rattle.spl_reading.specs.Readers.{Parser, pure, refuse}
use Rattle.spl_reading.specs.ReadStatements as r
use Rattle.spl_tokens.specs.declared.faults.Fault.{Fault}
use Rattle.spl_tokens.specs.Reads.{Reads}

pub record Nests (bound : ℕ) (pre : Global → MutBor (List Lexeme) → ℕ → Type 0)
    (post : Global → MutBor (List Lexeme) → ℕ → Result Stmt Fault → MutBor (List Lexeme) → Type 0) : Type 0 where
  pub callable : (alloc : Global) (old : MutBor (List Lexeme)) (room : ℕ) → room < bound → pre alloc old room
  pub reads : (alloc : Global) (old new : MutBor (List Lexeme)) (room : ℕ) (result : Result Stmt Fault) → room < bound
      → post alloc old room result new → Reads view.statement (r.statement room old.now) result new.now

-- the statement inside, where so many constructs may be opened around it
abbrev pub inner : ℕ → Parser stat.Statement
inner zero = refuse
inner (suc room) = r.statement room

-- the room that is left inside
abbrev pub below : ℕ → ℕ
below zero = zero
below (suc room) = room

-- the rules, by what is inside
abbrev pub labelled : ℕ → Lexeme → Parser stat.Statement
labelled room t = r.labelled room (below room) (inner room) t

abbrev pub with_arguments : ℕ → Lexeme → Parser stat.Statement
with_arguments room t = r.with_arguments room (below room) (inner room) t

abbrev pub named : ℕ → Lexeme → Parser stat.Statement
named room t = r.named_statement room (below room) (inner room) t

abbrev pub address_assigned : ℕ → Parser stat.Statement
address_assigned room = r.address_assigned room (below room) (inner room)

abbrev pub block : ℕ → Parser stat.Statement
block room = r.block room (below room) (inner room)

abbrev pub else_behind : ℕ → Lexeme → stat.Test → stat.Statement → Parser stat.Statement
else_behind room i q x = r.else_behind room (below room) (inner room) i q x

abbrev pub if_statement : ℕ → Parser stat.Statement
if_statement room = r.if_statement room (below room) (inner room)

abbrev pub while_statement : ℕ → Parser stat.Statement
while_statement room = r.while_statement room (below room) (inner room)

abbrev pub do_statement : ℕ → Parser stat.Statement
do_statement room = r.do_statement room (below room) (inner room)

abbrev pub for_statement : ℕ → Parser stat.Statement
for_statement room = r.for_statement room (below room) (inner room)

abbrev pub case_statement : ℕ → Parser stat.Statement
case_statement room = r.case_statement room (below room) (inner room)

abbrev pub go_statement : ℕ → Parser stat.Statement
go_statement room = r.go_statement room (below room) (inner room)

abbrev pub effect_statement : ℕ → Parser stat.Statement
effect_statement room = r.effect_statement room (below room) (inner room)

abbrev pub by_word : ℕ → Reserved → Parser stat.Statement
by_word room word = r.by_word room (below room) (inner room) word

abbrev pub read : ℕ → Parser stat.Statement
read room = r.statement_step room (below room) (inner room)

-- behind the arguments of a name: an assignment to an element, or a call
abbrev pub with_one : ℕ → Lexeme → List Tree → Parser stat.Statement
with_one room t es = if r.is_single es
    then r.behind_reference room (tree.Tree.named t.letters (trees es) t.at) t.at (stat.Statement.call t.letters
    (trees es) t.at)
    else pure (stat.Statement.call t.letters (trees es) t.at)
