-- The trees of statements that the grammar speaks of: those of the types, with names and strings as lists of bytes, and
-- with a
-- list of one or none for what may be absent. A reference is the expression that names it.
use Rattle.std.specs.Prelude.{ℕ, List, [], ◌∷◌, Bool, true, false}
use Rattle.spl_tree.specs.declared.names_and_places.At.{At}
use Rattle.spl_tree.specs.Trees.{Tree, Trees, Constant}

-- what an assignment stores into
pub data Target : Type 0 where
  plain : Tree → Target
  field : Tree → Constant → Constant → Target
  address : List ℕ → At → Target

-- what a MOVE moves
pub data Source : Type 0 where
  counted : Tree → Tree → Source
  text : List ℕ → Source
  class_of : Tree → ℕ → Source

-- a MOVE, or a SCAN with its test word, UNTIL where the flag says so
pub data Effect : Type 0 where
  move : Tree → Source → Effect
  scan : Tree → Bool → Tree → Effect

-- what an IF tests
pub data Test : Type 0 where
  condition : Tree → Test
  code : ℕ → Test

mutual
  pub data Statement : Type 0 where
    empty : Statement
    labelled : List ℕ → At → Statement → Statement
    block : Statements → Statement
    if_test : Test → Statement → Statements → At → Statement
    while_true : Tree → Statement → At → Statement
    until_true : Statement → Tree → At → Statement
    for_values : List ℕ → Tree → Trees → Tree → Statement → At → Statement
    case_of : Tree → Statements → At → Statement
    go_to : List ℕ → At → Statement
    return : At → Statement
    assign : Target → Tree → At → Statement
    assign_effect : Target → Effect → At → Statement
    do_effect : Effect → At → Statement
    call : List ℕ → Trees → At → Statement

  -- statements in order
  pub data Statements : Type 0 where
    none : Statements
    and : Statement → Statements → Statements

-- a list of statements as part of one
abbrev pub statements : List Statement → Statements
statements [] = none
statements (s ∷ ss) = and s (statements ss)

-- No ELSE can belong to the statement: it does not end in an IF without one.
unfoldable pub closed : Statement → Bool
closed (if_test q yes_part none at) = false
closed (if_test q yes_part (and other_part ss) at) = closed other_part
closed (labelled name at s) = closed s
closed (while_true q s at) = closed s
closed (for_values name first step last s at) = closed s
closed empty = true
closed (block ss) = true
closed (until_true s q at) = true
closed (case_of q ss at) = true
closed (go_to name at) = true
closed (return at) = true
closed (assign to value at) = true
closed (assign_effect to effect at) = true
closed (do_effect effect at) = true
closed (call name args at) = true
