-- The labels of a body: each has a mark of its own, made before the code of the body's statements, and the words that wait in its list.
use Rattle.std.specs.Prelude.{ℕ, suc, ◌+◌, List, [], ◌∷◌, ◌++◌}
use Rattle.spl_statement_code.specs.spl_tree.StatementTrees as stat
use Rattle.spl_statement_code.specs.spl_tree.StatementTrees.{Statement, Statements}
use Rattle.spl_statement_code.specs.spl_meaning.Names.{Table}
use Rattle.spl_statement_code.specs.spl_code.Parts.{Part, with_fresh}
use Rattle.spl_statement_code.specs.Landings.{Landing}

-- a label, and how many words wait in the list that bears it
pub record Label : Type 0 where
  pub name : List ℕ
  pub pending : ℕ

abbrev mutual
  -- the labels in a statement, in order of text, where so many words wait; each turn of a FOR has three words more
  pub labels_in : Statement → ℕ → List Label
  labels_in (stat.Statement.labelled x at s) k = record { name = x; pending = k } ∷ labels_in s k
  labels_in (stat.Statement.block ss) k = labels_among ss k
  labels_in (stat.Statement.if_test q then_part else_part at) k = labels_in then_part k ++ labels_among else_part k
  labels_in (stat.Statement.while_true e s at) k = labels_in s k
  labels_in (stat.Statement.until_true s e at) k = labels_in s k
  labels_in (stat.Statement.for_values x first step last s at) k = labels_in s (k + 3)
  labels_in (stat.Statement.case_of e ss at) k = labels_among ss k
  labels_in _ k = []

  -- in the statements of a list
  pub labels_among : Statements → ℕ → List Label
  labels_among stat.Statements.none k = []
  labels_among (stat.Statements.and s ss) k = labels_in s k ++ labels_among ss k

-- a part with marks for labels, in their order
abbrev pub with_landings : List Label → (Table Landing → Part) → Part
with_landings [] part = part []
with_landings (x ∷ xs) part = with_fresh (λ mark. with_landings xs (λ t. part ((x.name, record { mark = mark; pending = x.pending }) ∷ t)))

-- where labels lead that have the marks from one on
abbrev pub landed_from : ℕ → List Label → Table Landing
landed_from mark [] = []
landed_from mark (x ∷ xs) = (x.name, record { mark = mark; pending = x.pending }) ∷ landed_from (suc mark) xs
