-- The parts of a unit, and the bodies of procedures.
use Rattle.std.specs.Prelude.{ℕ, false, if◌then◌else◌, List, [], ◌∷◌, map, Vec}
use Rattle.std.specs.declared.alloc.Global.{Global}
use Rattle.spl_tree.specs.declared.statements.Stmt.{Stmt}
use Rattle.spl_tree.specs.declared.names_and_places.At.{At}
use Rattle.spl_tree.specs.Symbols.{Lexeme}
use Rattle.spl_tree.specs.StatementTrees as stat
use Rattle.spl_tree.specs.declared.symbols.Reserved.TheVariants as w
use Rattle.spl_tree.specs.declared.symbols.Symbol.TheVariants as s
use Rattle.spl_tree.specs.DeclarationTrees as decl
use Rattle.spl_tree.specs.Declarations.{can_be_body}
use Rattle.spl_reading.specs.Readers.{Parser, ◌>>=◌, take, expect, pure, refuse}
use Rattle.spl_reading.specs.ReadStatements as st
use Rattle.spl_reading.specs.ReadDeclarations as r
use Rattle.spl_reading.specs.ReadDeclarations.{bodies}
use Rattle.spl_units.specs.declared.units.UnitParts.{UnitParts}
use Rattle.spl_listed.specs.Lists as lists

abbrev pub parts : UnitParts → decl.UnitTree
parts u = record {
  items = lists.declarations u.items;
  statements = lists.statements u.statements;
  segment =
      u.segment;
  at = u.at;
}

-- declarations and statements between BEGIN and END
abbrev pub block_body : ℕ → ℕ → Parser r.BodyRead
block_body room segment = do
  _ ← take
  ds ← r.declaration_list room (bodies room false) false segment
  xs ← st.statement_list (st.statement room)
  _ ← expect (s.Word w.End)
  pure (ds, xs)

-- a statement as a body
abbrev pub single_body : ℕ → Parser r.BodyRead
single_body room = st.statement room >>= λ x. if can_be_body x then pure ([], x ∷ []) else refuse

-- statements and END
unfoldable pub ended : ℕ → Parser (List stat.Statement)
ended room = st.statement_list (st.statement room) >>= λ xs. expect (s.Word w.End) >>= λ _. pure xs

-- "." and the end of the tokens
unfoldable pub stopped : Parser Lexeme
stopped = expect s.Dot >>= λ _. expect s.Stop

-- the main body of a unit, with the segment in force at its first token
unfoldable pub main_body : ℕ → Parser (ℕ × List stat.Statement)
main_body room = r.next_segment >>= λ n. ended room >>= λ xs. stopped >>= λ _. pure (n, xs)

abbrev pub main : ℕ × Vec Stmt Global → ℕ × List stat.Statement
main b = (b.0, lists.statements b.1)

-- a unit by its declarations and its main body; its subroutines are of the segment of that
abbrev pub unit_of : List decl.Declaration → ℕ × List stat.Statement → At → decl.UnitTree
unit_of ds m at = record { items = map (r.of_segment m.0) ds; statements = m.1; segment = m.0; at = at }
