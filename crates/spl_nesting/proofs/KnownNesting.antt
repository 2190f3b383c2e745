-- Known values: FORs in one another, and operands that wait.
use Rattle.std.proofs.Common.{◌≡◌, [], ◌∷◌, refl}
use Rattle.spl_sound.specs.spl_tree.declared.names_and_places.At.{At}
use Rattle.spl_sound.specs.spl_tree.Trees as tree
use Rattle.spl_sound.specs.spl_tree.Trees.{Tree}
use Rattle.spl_sound.specs.spl_tree.StatementTrees as stat
use Rattle.spl_sound.specs.spl_tree.StatementTrees.{Statement, statements}
use Rattle.spl_nesting.specs.Nesting.{nested, fors}
use Rattle.spl_nesting.specs.Heights.{height, statement_height}

-- a place
at : At
at = record { unit = 1; line = 2; column = 3 }

-- FOR I:=1 UNTIL 2 DO, before a statement
abbrev counted : Statement → Statement
counted s = stat.Statement.for_values [] (tree.Tree.number 1) tree.Trees.none (tree.Tree.number 2) s at

-- two FORs and a block around a RETURN, beside a FOR alone
abbrev loops : Statement
loops = stat.Statement.block (statements (counted (counted (stat.Statement.return at)) ∷ counted stat.Statement.empty ∷ []))

fors_of_loops : fors loops ≡ 2
fors_of_loops = refl

nested_in_loops : nested loops ≡ 3
nested_in_loops = refl

parts_of_loops : statement_height loops ≡ 2
parts_of_loops = refl

-- a difference
abbrev difference : Tree → Tree → Tree
difference a b = tree.Tree.binary 12 a b at

-- one left operand waits in (1-2)-3, and two in 1-(2-3)
from_the_left : height (difference (difference (tree.Tree.number 1) (tree.Tree.number 2)) (tree.Tree.number 3)) ≡ 1
from_the_left = refl

from_the_right : height (difference (tree.Tree.number 1) (difference (tree.Tree.number 2) (tree.Tree.number 3))) ≡ 2
from_the_right = refl
