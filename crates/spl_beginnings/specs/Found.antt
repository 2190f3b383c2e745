-- Statements whose names are found, so that each has code behind its beginning.
use Rattle.std.specs.Prelude.{◌≡◌, ℕ, ◌&&◌, ◌||◌, Bool, true, false, List, is_some}
use Rattle.spl_statement_code.specs.spl_tree.Trees as tree
use Rattle.spl_statement_code.specs.spl_tree.Trees.{Tree}
use Rattle.spl_statement_code.specs.spl_tree.StatementTrees as stat
use Rattle.spl_statement_code.specs.spl_tree.StatementTrees.{Statement, Statements}
use Rattle.spl_statement_code.specs.spl_meaning.Names.{Profile, text_value}
use Rattle.spl_statement_code.specs.spl_meaning.References.{Access, its_own, by_address, by_cell, its_result, nowhere, access_of}
use Rattle.spl_statement_code.specs.spl_meaning.Values.{Who, procedure, subroutine, Sense, a_constant, an_intrinsic, a_call, a_variable, sense_of}
use Rattle.spl_statement_code.specs.spl_code.Calls.{Scope}
use Rattle.spl_statement_code.specs.Landings.{Context}

-- ---- values

-- a name leads to a word
abbrev pub leads : Access → Bool
leads (its_own k) = true
leads (by_address k) = true
leads (by_cell is_pointer k) = true
leads its_result = false
leads nowhere = false

-- the variable of a name is found: the name leads to a word, and has a place
abbrev pub has_place : Scope → List ℕ → Bool
has_place c x = is_some (c.places x) && leads (access_of (c.names x))

-- a call is found: a procedure, whose entry is wanted where the module has none; or a subroutine that has an entry, or a result
abbrev pub has_call : Scope → Who → Profile → Bool
has_call c (procedure x) p = true
has_call c (subroutine x) p = is_some (c.subroutines x) || is_some p.result

-- what a name is in an expression is found: a constant with a value, an intrinsic, a call, or a variable
abbrev pub has_sense : Scope → List ℕ → Sense → Bool
has_sense c x (a_constant v) = is_some v
has_sense c x (an_intrinsic i) = true
has_sense c x (a_call who p) = has_call c who p
has_sense c x a_variable = has_place c x

-- The value of an expression is found: what its code begins with is. A shift and a comparison of bytes have words of their own.
abbrev pub has_value : Scope → Tree → Bool
has_value c (tree.Tree.number v) = true
has_value c (tree.Tree.wide v) = true
has_value c (tree.Tree.text bytes) = is_some (text_value bytes)
has_value c (tree.Tree.truth b) = true
has_value c (tree.Tree.named x es at) = has_sense c x (sense_of x (c.names x))
has_value c (tree.Tree.address x es at) = has_place c x
has_value c (tree.Tree.unary op e at) = has_value c e
has_value c (tree.Tree.binary op a b at) = has_value c a
has_value c (tree.Tree.shift op e by at) = true
has_value c (tree.Tree.field e start size at) = has_value c e
has_value c (tree.Tree.transfer to e at) = has_value c e
has_value c (tree.Tree.bytes op a b count at) = true

-- ---- statements

abbrev mutual
  -- In a scope and a body with labels: each GO TO leads to one, and the values of assignments and what is called are found. The others have
  -- code of their own, whatever their names.
  pub is_found : Scope → (List ℕ → Bool) → Statement → Bool
  is_found c labels stat.Statement.empty = true
  is_found c labels (stat.Statement.labelled x at s) = is_found c labels s
  is_found c labels (stat.Statement.block ss) = are_found c labels ss
  is_found c labels (stat.Statement.if_test q then_part else_part at) = is_found c labels then_part && are_found c labels else_part
  is_found c labels (stat.Statement.while_true e s at) = is_found c labels s
  is_found c labels (stat.Statement.until_true s e at) = is_found c labels s
  is_found c labels (stat.Statement.for_values x first step last s at) = is_found c labels s
  is_found c labels (stat.Statement.case_of e ss at) = are_found c labels ss
  is_found c labels (stat.Statement.go_to x at) = labels x
  is_found c labels (stat.Statement.return at) = true
  is_found c labels (stat.Statement.assign to e at) = has_value c e
  is_found c labels (stat.Statement.assign_effect to e at) = true
  is_found c labels (stat.Statement.do_effect e at) = true
  is_found c labels (stat.Statement.call x es at) = has_sense c x (sense_of x (c.names x))

  -- the statements of a list
  pub are_found : Scope → (List ℕ → Bool) → Statements → Bool
  are_found c labels stat.Statements.none = true
  are_found c labels (stat.Statements.and s ss) = is_found c labels s && are_found c labels ss

-- the labels of a body have landings
abbrev pub Lands : Context → (List ℕ → Bool) → Type 0
Lands c labels = (x : List ℕ) → labels x ≡ true → is_some (c.landings x) ≡ true
