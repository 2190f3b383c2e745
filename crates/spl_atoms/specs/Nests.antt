-- A function value that reads expressions, where fewer than so many constructs may be opened; and the rules of operands
-- by what is inside.
use Rattle.std.specs.Prelude.{ℕ, zero, suc, ◌≤◌, ◌<◌, Bool, Option, None, List, Result}
use Rattle.std.specs.declared.alloc.Global.{Global}
use denote.Ref.{MutBor}
use Rattle.spl_tree.specs.declared.names_and_places.At.{At}
use Rattle.spl_tree.specs.declared.expressions.Expr.{Expr}
use Rattle.spl_tree.specs.declared.expressions.Kind.{Kind}
use Rattle.spl_tree.specs.Symbols.{Lexeme}
use Rattle.spl_tree.specs.Operators.{other}
use Rattle.spl_tree.specs.Trees as tree
use Rattle.spl_tree.specs.Views as view
use Rattle.spl_reading.specs.Readers.{Parser, ◌>>=◌, by_symbol, take, pure, refuse}
use Rattle.spl_reading.specs.ReadExpressions as r
use Rattle.spl_tokens.specs.declared.faults.Fault.{Fault}
use Rattle.spl_tokens.specs.Reads.{Reads}

pub record ReadsExpressions (bound : ℕ) (pre : Global → MutBor (List Lexeme) → ℕ → ℕ → Type 0)
    (post : Global → MutBor (List Lexeme) → ℕ → ℕ → Result Expr Fault → MutBor (List Lexeme) → Type 0) : Type 0 where
  pub callable : (alloc : Global) (old : MutBor (List Lexeme)) (room taken : ℕ) → room < bound → taken ≤ room
      → pre alloc old room taken
  pub reads : (alloc : Global) (old new : MutBor (List Lexeme)) (room taken : ℕ) (result : Result Expr Fault)
      → room < bound → post alloc old room taken result new
      → Reads view.expression (r.expression room taken old.now) result new.now

-- the operand behind a NOT, with which one more construct is open
abbrev pub inner : ℕ → ℕ → Parser r.Found
inner zero taken = refuse
inner (suc room) taken = r.unary room taken None

-- an expression in parentheses, with which one more construct is open
abbrev pub enclosed : ℕ → ℕ → Parser tree.Tree
enclosed room taken = r.enclosed room (inner room taken) (r.within room taken) taken

-- a further argument
abbrev pub more_arguments : ℕ → ℕ → List tree.Tree → Parser (Bool × List tree.Tree)
more_arguments room taken es = r.more_arguments room (inner room taken) (r.within room taken) taken es

-- arguments in parentheses
abbrev pub arguments : ℕ → ℕ → Parser (List tree.Tree)
arguments room taken = r.arguments room (inner room taken) (r.within room taken) taken

-- a name, with the arguments behind it
abbrev pub named : ℕ → ℕ → Lexeme → Parser r.Found
named room taken t = r.named room (inner room taken) (r.within room taken) taken t

-- the address of what a name stands for
abbrev pub addressed : ℕ → ℕ → Lexeme → Lexeme → Parser r.Found
addressed room taken a t = r.addressed room (inner room taken) (r.within room taken) taken a t

-- a value taken as one of another kind
abbrev pub transfer : ℕ → ℕ → Kind → Parser r.Found
transfer room taken k = take >>= λ t. enclosed room taken >>= λ e. pure (r.plain other (tree.Tree.transfer k e t.at))

-- an operand without a bit field
abbrev pub atom : ℕ → ℕ → Parser r.Found
atom room taken = by_symbol (r.primary_by room (inner room taken) (r.within room taken) taken)

abbrev pub primary : ℕ → ℕ → Parser r.Found
primary room taken = r.primary room (inner room taken) (r.within room taken) taken

-- NOT and its operand
abbrev pub inverse : ℕ → ℕ → Parser r.Found
inverse room taken = r.inverse room (inner room taken) (r.within room taken) taken

-- an operand; a minus may stand before its number
abbrev pub operand_at : ℕ → ℕ → Option At → Parser r.Found
operand_at room taken minus = r.unary_step room (inner room taken) (r.within room taken) taken minus

-- the number behind a minus
abbrev pub negated_at : At → Parser r.Found
negated_at at = by_symbol (r.negative_by at) >>= r.field at
