-- Lists of the parts of declarations, as the grammar has them.
use Rattle.std.specs.Prelude.{ℕ, Bool, true, false, if◌then◌else◌, List, [], ◌∷◌, ◌++◌, map, Vec}
use Rattle.std.specs.declared.alloc.Global.{Global}
use Rattle.spl_tree.specs.declared.names_and_places.Name.{Name}
use Rattle.spl_tree.specs.declared.names_and_places.At.{At}
use Rattle.spl_tree.specs.declared.expressions.Const.{Const}
use Rattle.spl_tree.specs.declared.statements.Stmt.{Stmt}
use Rattle.spl_tree.specs.declared.declarations.Decl.{Decl}
use Rattle.spl_tree.specs.declared.declarations.Item.{Item}
use Rattle.spl_tree.specs.declared.declarations.Spec.{Spec}
use Rattle.spl_tree.specs.declared.symbols.Symbol.TheVariants as s
use Rattle.spl_tree.specs.declared.symbols.Reserved.TheVariants as w
use Rattle.spl_tree.specs.declared.expressions.Kind.TheVariants as kind
use Rattle.spl_reading.specs.ReadDeclarations as d
use Rattle.spl_tree.specs.Symbols.{Lexeme}
use Rattle.spl_reading.specs.Readers.{Parser, ◌>>=◌, by_symbol, take, expect, pure}
use Rattle.spl_reading.specs.ReadExpressions as r
use Rattle.spl_tree.specs.Trees as tree
use Rattle.spl_tree.specs.StatementTrees as stat
use Rattle.spl_tree.specs.DeclarationTrees as decl
use Rattle.spl_tree.specs.Views as view
use Rattle.spl_tree.specs.Spells as spells

abbrev pub names : Vec (Name × At) Global → List decl.Placed
names xs = map spells.placed xs.items

abbrev pub items : Vec Item Global → List decl.Item
items xs = map spells.item_tree xs.items

abbrev pub constants : Vec Const Global → List tree.Constant
constants xs = map view.constant xs.items

abbrev pub terms : Vec (Bool × Const) Global → List decl.Term
terms xs = map spells.term xs.items

-- a name for a sum of constants
abbrev pub equal : Name × At × Vec (Bool × Const) Global → decl.Equal
equal e = record { name = view.letters e.0; at = e.1; terms = map spells.term e.2.items }

abbrev pub equals : Vec (Name × At × Vec (Bool × Const) Global) Global → List decl.Equal
equals xs = map equal xs.items

abbrev pub specs : Vec Spec Global → List decl.Spec
specs xs = map spells.spec_tree xs.items

abbrev pub declarations : Vec Decl Global → List decl.Declaration
declarations xs = map spells.declaration xs.items

abbrev pub statements : Vec Stmt Global → List stat.Statement
statements xs = map view.statement xs.items

-- a list of arrays so far, and its last
abbrev pub arrays : Vec Item Global × Item → List decl.Item × decl.Item
arrays r = (items r.0, spells.item_tree r.1)

-- the names that VALUE lists, and the kinds of the parameters
abbrev pub tail : Vec (Name × At) Global × Vec Spec Global → List decl.Placed × List decl.Spec
tail r = (names r.0, specs r.1)

-- a body: its declarations and statements
abbrev pub body : Vec Decl Global × Vec Stmt Global → List decl.Declaration × List stat.Statement
body b = (declarations b.0, statements b.1)

-- an item with the name at a token
abbrev pub shaped : Lexeme → decl.Shape → List tree.Constant → decl.Item
shaped t shape first = record { name = t.letters; at = t.at; shape = shape; first = first }

-- the base of a view, and the bounds of an array
abbrev pub base : Parser decl.Shape
base = do
  _ ← take
  _ ← expect s.Close
  _ ← expect (s.Operator 5)
  b ← expect s.Name
  pure (decl.Shape.view b.letters)

abbrev pub bounds : Parser decl.Shape
bounds = do
  a ← r.constant
  _ ← expect s.Colon
  b ← r.constant
  _ ← expect s.Close
  pure (decl.Shape.array a b)

-- a specification without a kind
abbrev pub untyped_spec : List decl.Spec → Parser (Bool × List decl.Spec)
untyped_spec ss = by_symbol (λ k. if r.is (s.Word w.Array) k
    then (take >>= λ _. d.spec_names kind.Logical true >>= λ x. pure (true, ss ++ x ∷ [])) else pure (false, ss))

-- whether a subroutine was declared last, and the declarations so far
abbrev pub state : Bool × Vec Decl Global → Bool × List decl.Declaration
state r = (r.0, declarations r.1)

-- a heading of this segment
abbrev pub heading_in : ℕ → decl.Heading → decl.Heading
heading_in segment h = record {
  result = h.result;
  name = h.name;
  names = h.names;
  values = h.values;
  specs = h.specs;
  split = h.split;
  at = h.at;
  segment = segment;
}
