-- What the grammar says of trees beside their rules: which operators there are, where a reference stands, how many parts there may be, and that
-- the characters of strings are bytes.
use Rattle.std.specs.Prelude.{ℕ, ◌&&◌, Bool, true, false, nat_lt, List, ◌∷◌}
use Rattle.std.specs.List.{list_all}
use Rattle.spl_cuts.specs.spl_tree.Trees as tree
use Rattle.spl_cuts.specs.spl_tree.Trees.{Constant, Tree, Trees}
use Rattle.spl_cuts.specs.spl_tree.StatementTrees as stat
use Rattle.spl_cuts.specs.spl_tree.StatementTrees.{Statement, Statements, Target, Source, Effect, Test, statements}
use Rattle.spl_cuts.specs.spl_tree.DeclarationTrees as decl
use Rattle.spl_cuts.specs.spl_tree.DeclarationTrees.{Item, Declaration, Declarations, UnitTree, declarations}

-- numbers that are bytes
abbrev pub are_bytes : List ℕ → Bool
are_bytes bs = list_all (λ b. nat_lt b 256) bs

-- a name, with an index or without one
abbrev pub is_reference : Tree → Bool
is_reference (tree.Tree.named x tree.Trees.none at) = true
is_reference (tree.Tree.named x (tree.Trees.and e tree.Trees.none) at) = true
is_reference _ = false

-- one or none
abbrev pub is_one_at_most : Trees → Bool
is_one_at_most tree.Trees.none = true
is_one_at_most (tree.Trees.and e tree.Trees.none) = true
is_one_at_most _ = false

abbrev pub are_one_at_most : Statements → Bool
are_one_at_most stat.Statements.none = true
are_one_at_most (stat.Statements.and s stat.Statements.none) = true
are_one_at_most _ = false

abbrev mutual
  -- an expression or a condition
  pub is_shaped : Tree → Bool
  is_shaped (tree.Tree.number v) = true
  is_shaped (tree.Tree.wide v) = true
  is_shaped (tree.Tree.text bytes) = are_bytes bytes
  is_shaped (tree.Tree.truth b) = true
  is_shaped (tree.Tree.named x es at) = are_shaped es
  is_shaped (tree.Tree.address x es at) = is_one_at_most es && are_shaped es
  is_shaped (tree.Tree.unary op e at) = nat_lt op 3 && is_shaped e
  is_shaped (tree.Tree.binary op a b at) = nat_lt op 16 && is_shaped a && is_shaped b
  is_shaped (tree.Tree.shift op e by at) = nat_lt op 6 && is_shaped e
  is_shaped (tree.Tree.field e start size at) = is_shaped e
  is_shaped (tree.Tree.transfer k e at) = is_shaped e
  is_shaped (tree.Tree.bytes op a b count at) =
      (nat_lt op 6 && is_reference a && is_reference b) && (is_shaped a && is_shaped b && is_shaped count)

  -- arguments, or an index
  pub are_shaped : Trees → Bool
  are_shaped tree.Trees.none = true
  are_shaped (tree.Trees.and e es) = is_shaped e && are_shaped es

-- a reference as a part of a statement
abbrev pub is_shaped_reference : Tree → Bool
is_shaped_reference r = is_reference r && is_shaped r

-- what an assignment stores into
abbrev pub is_shaped_target : Target → Bool
is_shaped_target (stat.Target.plain r) = is_shaped_reference r
is_shaped_target (stat.Target.field r start size) = is_shaped_reference r
is_shaped_target (stat.Target.address x at) = true

-- what a MOVE moves: a class of characters is one of five
abbrev pub is_shaped_source : Source → Bool
is_shaped_source (stat.Source.counted r size) = is_shaped_reference r && is_shaped size
is_shaped_source (stat.Source.text bytes) = are_bytes bytes
is_shaped_source (stat.Source.class_of r c) = is_shaped_reference r && nat_lt c 5

-- a MOVE or a SCAN
abbrev pub is_shaped_effect : Effect → Bool
is_shaped_effect (stat.Effect.move to from) = is_shaped_reference to && is_shaped_source from
is_shaped_effect (stat.Effect.scan r until e) = is_shaped_reference r && is_shaped e

-- what an IF tests: one of six tests of the condition code
abbrev pub is_shaped_test : Test → Bool
is_shaped_test (stat.Test.condition e) = is_shaped e
is_shaped_test (stat.Test.code op) = nat_lt op 6

abbrev mutual
  -- a statement
  pub is_shaped_statement : Statement → Bool
  is_shaped_statement stat.Statement.empty = true
  is_shaped_statement (stat.Statement.labelled x at s) = is_shaped_statement s
  is_shaped_statement (stat.Statement.block ss) = are_shaped_statements ss
  is_shaped_statement (stat.Statement.if_test q s ss at) =
      (is_shaped_test q && is_shaped_statement s) && (are_one_at_most ss && are_shaped_statements ss)
  is_shaped_statement (stat.Statement.while_true e s at) = is_shaped e && is_shaped_statement s
  is_shaped_statement (stat.Statement.until_true s e at) = is_shaped_statement s && is_shaped e
  is_shaped_statement (stat.Statement.for_values x first step last s at) =
      (is_shaped first && is_shaped last) && (is_one_at_most step && are_shaped step) && is_shaped_statement s
  is_shaped_statement (stat.Statement.case_of e ss at) = is_shaped e && are_shaped_statements ss
  is_shaped_statement (stat.Statement.go_to x at) = true
  is_shaped_statement (stat.Statement.return at) = true
  is_shaped_statement (stat.Statement.assign to e at) = is_shaped_target to && is_shaped e
  is_shaped_statement (stat.Statement.assign_effect to e at) = is_shaped_target to && is_shaped_effect e
  is_shaped_statement (stat.Statement.do_effect e at) = is_shaped_effect e
  is_shaped_statement (stat.Statement.call x es at) = are_shaped es

  -- statements in order
  pub are_shaped_statements : Statements → Bool
  are_shaped_statements stat.Statements.none = true
  are_shaped_statements (stat.Statements.and s ss) = is_shaped_statement s && are_shaped_statements ss

-- ---- declarations

-- an item that is no array has one initial value at most, and a pointer none
abbrev pub has_values : decl.Shape → List Constant → Bool
has_values decl.Shape.simple (v ∷ u ∷ vs) = false
has_values decl.Shape.pointer (v ∷ vs) = false
has_values shape vs = true

abbrev pub is_shaped_item : Item → Bool
is_shaped_item i = has_values i.shape i.first

abbrev pub are_shaped_items : List Item → Bool
are_shaped_items is = list_all is_shaped_item is

-- what may stand in the list of a procedure: no procedure, nor the heading of one
abbrev pub is_local : Declaration → Bool
is_local (decl.Declaration.procedure h items ss) = false
is_local (decl.Declaration.forward h) = false
is_local (decl.Declaration.external h) = false
is_local d = true

abbrev pub are_local : Declarations → Bool
are_local decl.none = true
are_local (decl.and d ds) = is_local d && are_local ds

abbrev mutual
  -- a declaration, with the statements of all bodies in it
  pub is_shaped_declaration : Declaration → Bool
  is_shaped_declaration (decl.Declaration.data_items own k is) = are_shaped_items is
  is_shaped_declaration (decl.Declaration.procedure h items ss) =
      (are_local items && are_shaped_declarations items) && are_shaped_statements (statements ss)
  is_shaped_declaration (decl.Declaration.subroutine h s) = is_shaped_statement s
  is_shaped_declaration d = true

  -- declarations in order
  pub are_shaped_declarations : Declarations → Bool
  are_shaped_declarations decl.none = true
  are_shaped_declarations (decl.and d ds) = is_shaped_declaration d && are_shaped_declarations ds

-- a unit: its declarations, and its main body
abbrev pub is_shaped_unit : UnitTree → Bool
is_shaped_unit u = are_shaped_declarations (declarations u.items) && are_shaped_statements (statements u.statements)
