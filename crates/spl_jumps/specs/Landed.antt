-- Labels and jumps in a tree: which lead somewhere, and what they find around them.
use Rattle.std.specs.Prelude.{◌≡◌, ℕ, ◌+◌, ◌≤◌, ◌==◌, ◌&&◌, Bool, true, false, List, ◌++◌, Option, Some, None, is_some}
use Rattle.spl_choices.specs.spl_tree.StatementTrees as stat
use Rattle.spl_choices.specs.spl_tree.StatementTrees.{Statement, Statements}
use Rattle.spl_choices.specs.spl_meaning.StatementRules.{has_name, list_labels}
use Rattle.spl_choices.specs.spl_meaning.States.{to_label}
use Rattle.spl_choices.specs.spl_statement_code.Landings.{Landing}
use Rattle.spl_choices.specs.spl_follow.Simulating.{Surroundings}

-- a label leads to where so many words wait
abbrev pub is_landing : Option Landing → ℕ → Bool
is_landing (Some l) k = l.pending == k
is_landing None k = false

abbrev mutual
  -- In a statement, by where the labels of its body lead and by those of the lists around it, while k words wait: each label leads to where as many
  -- wait as in the list that bears it, and each GO TO names one that a list around it bears.
  pub is_landed : (List ℕ → Option Landing) → List (List ℕ) → Statement → ℕ → Bool
  is_landed at labels (stat.Statement.labelled y p s) k = is_landing (at y) k && is_landed at labels s k
  is_landed at labels (stat.Statement.block ss) k = are_landed at (labels ++ list_labels ss) ss k
  is_landed at labels (stat.Statement.if_test q s ss p) k = is_landed at labels s k && are_landed at labels ss k
  is_landed at labels (stat.Statement.while_true e s p) k = is_landed at labels s k
  is_landed at labels (stat.Statement.until_true s e p) k = is_landed at labels s k
  is_landed at labels (stat.Statement.for_values x first step last s p) k = is_landed at labels s (k + 3)
  is_landed at labels (stat.Statement.case_of e ss p) k = are_landed at (labels ++ list_labels ss) ss k
  is_landed at labels (stat.Statement.go_to y p) k = has_name labels y && is_some (at y)
  is_landed at labels _ k = true

  -- in the statements of a list
  pub are_landed : (List ℕ → Option Landing) → List (List ℕ) → Statements → ℕ → Bool
  are_landed at labels stat.Statements.none k = true
  are_landed at labels (stat.Statements.and s ss) k = is_landed at labels s k && are_landed at labels ss k

-- What the jumps of a body find around them while k words wait. The way out to a label leads to its mark; and to those of the lists around it
-- leaves as many words as wait in them, which are no more than here.
pub record MayJump (at : List ℕ → Option Landing) (z : Surroundings) (labels : List (List ℕ)) (k : ℕ) : Type 0 where
  pub marks : (y : List ℕ) (l : Landing) → at y ≡ Some l → z.sites.marks l.mark ≡ z.exits.target (to_label y)
  pub held : (y : List ℕ) (l : Landing) → has_name labels y ≡ true → at y ≡ Some l → z.exits.held (to_label y) ≡ l.pending
  pub few : (y : List ℕ) (l : Landing) → has_name labels y ≡ true → at y ≡ Some l → l.pending ≤ k
