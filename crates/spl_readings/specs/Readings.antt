-- What a body's parts read: names with words stand somewhere, and the place that a procedure's or a subroutine's name is given does not matter.
use Rattle.std.specs.Prelude.{◌≡◌, ℕ, ◌&&◌, not, Bool, true, false, List, Option}
use Rattle.spl_module_code.specs.spl_tree.declared.expressions.Kind.{Kind}
use Rattle.spl_module_code.specs.spl_tree.StatementTrees as stat
use Rattle.spl_module_code.specs.spl_tree.StatementTrees.{Statement, Statements, Target}
use Rattle.spl_module_code.specs.spl_meaning.Names.{Names}
use Rattle.spl_module_code.specs.spl_meaning.Places.{Place}
use Rattle.spl_module_code.specs.spl_meaning.References.{Here, Setting}
use Rattle.spl_module_code.specs.spl_meaning.States.{State}
use Rattle.spl_module_code.specs.spl_meaning.Statements.{run_all, run_body}
use Rattle.spl_module_code.specs.spl_meaning.Values.{Callee}
use Rattle.spl_module_code.specs.Bodies.{is_called}

-- what a body's parts are read with, by its places
abbrev pub here_with : Names → (List ℕ → Option (Kind × Place)) → Setting → (List ℕ → Option Place) → Here
here_with names results st places = record { names = names; places = places; results = results; setting = st }

-- two tables of places that give each name the same place, but for names of procedures and subroutines
abbrev pub PlaceAlike : Names → (List ℕ → Option Place) → (List ℕ → Option Place) → Type 0
PlaceAlike names one other = (x : List ℕ) → is_called (names x) ≡ false → one x ≡ other x

-- a target, which is not the cell of such a name
abbrev pub is_plain_target : Names → Target → Bool
is_plain_target names (stat.Target.address x at) = not (is_called (names x))
is_plain_target names to = true

abbrev mutual
  -- a statement in which each cell that is assigned is of another name
  pub is_plain_statement : Names → Statement → Bool
  is_plain_statement names (stat.Statement.labelled x at s) = is_plain_statement names s
  is_plain_statement names (stat.Statement.block ss) = are_plain names ss
  is_plain_statement names (stat.Statement.if_test q s ss at) = is_plain_statement names s && are_plain names ss
  is_plain_statement names (stat.Statement.while_true e s at) = is_plain_statement names s
  is_plain_statement names (stat.Statement.until_true s e at) = is_plain_statement names s
  is_plain_statement names (stat.Statement.for_values x first step last s at) = is_plain_statement names s
  is_plain_statement names (stat.Statement.case_of e ss at) = are_plain names ss
  is_plain_statement names (stat.Statement.assign to e at) = is_plain_target names to
  is_plain_statement names (stat.Statement.assign_effect to e at) = is_plain_target names to
  is_plain_statement names s = true

  -- a list of such
  pub are_plain : Names → Statements → Bool
  are_plain names stat.Statements.none = true
  are_plain names (stat.Statements.and s ss) = is_plain_statement names s && are_plain names ss

-- Such a list means the same with the one table and with the other, whatever calls mean.
abbrev pub BodiesReadAlike : Type 0
BodiesReadAlike = (names : Names) (results : List ℕ → Option (Kind × Place)) (st : Setting) (one other : List ℕ → Option Place) (call : Callee)
    (d number : ℕ) (ss : Statements) (s : State) → PlaceAlike names one other → are_plain names ss ≡ true
    → run_body (here_with names results st one) call d number ss s ≡ run_body (here_with names results st other) call d number ss s

-- And so do statements in order that take no jump, as that of a subroutine, while so many words wait.
abbrev pub StatementsReadAlike : Type 0
StatementsReadAlike = (names : Names) (results : List ℕ → Option (Kind × Place)) (st : Setting) (one other : List ℕ → Option Place) (call : Callee)
    (d number : ℕ) (ss : Statements) (k : ℕ) (s : State) → PlaceAlike names one other → are_plain names ss ≡ true
    → run_all (here_with names results st one) call d number ss k s ≡ run_all (here_with names results st other) call d number ss k s
