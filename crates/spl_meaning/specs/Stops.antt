-- Statements by their numbers. Those that a debugger may stop at are counted, in order of text: assignments, MOVE and SCAN, calls, IF, FOR,
-- CASE, GO TO and RETURN. A statement's number is how many such stand before it in its unit; its place and its number name it.
use Rattle.std.specs.Prelude.{ℕ, ◌+◌}
use Rattle.spl_tree.specs.StatementTrees as stat
use Rattle.spl_tree.specs.StatementTrees.{Statement, Statements, statements}
use Rattle.spl_tree.specs.DeclarationTrees as decl
use Rattle.spl_tree.specs.DeclarationTrees.{Declaration, Declarations}

abbrev mutual
  -- how many there are in a statement, with itself
  pub stops : Statement → ℕ
  stops stat.Statement.empty = 0
  stops (stat.Statement.labelled x at s) = stops s
  stops (stat.Statement.block ss) = list_stops ss
  stops (stat.Statement.if_test q then_part else_part at) = 1 + stops then_part + list_stops else_part
  stops (stat.Statement.while_true e s at) = stops s
  stops (stat.Statement.until_true s e at) = stops s
  stops (stat.Statement.for_values x first step last s at) = 1 + stops s
  stops (stat.Statement.case_of e ss at) = 1 + list_stops ss
  stops (stat.Statement.go_to x at) = 1
  stops (stat.Statement.return at) = 1
  stops (stat.Statement.assign to e at) = 1
  stops (stat.Statement.assign_effect to e at) = 1
  stops (stat.Statement.do_effect e at) = 1
  stops (stat.Statement.call x es at) = 1

  -- and in a list
  pub list_stops : Statements → ℕ
  list_stops stat.Statements.none = 0
  list_stops (stat.Statements.and s ss) = stops s + list_stops ss

abbrev mutual
  -- how many there are in a declaration: a procedure has those of its subroutines before its own
  pub declaration_stops : Declaration → ℕ
  declaration_stops (decl.Declaration.procedure h items ss) = declarations_stops items + list_stops (statements ss)
  declaration_stops (decl.Declaration.subroutine h s) = stops s
  declaration_stops (decl.Declaration.data_items own k items) = 0
  declaration_stops (decl.Declaration.equate es) = 0
  declaration_stops (decl.Declaration.intrinsic xs) = 0
  declaration_stops (decl.Declaration.label xs) = 0
  declaration_stops (decl.Declaration.forward h) = 0
  declaration_stops (decl.Declaration.external h) = 0

  -- and in declarations
  pub declarations_stops : Declarations → ℕ
  declarations_stops decl.none = 0
  declarations_stops (decl.and d ds) = declaration_stops d + declarations_stops ds
