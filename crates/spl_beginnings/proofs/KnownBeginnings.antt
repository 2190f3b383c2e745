-- Beginnings worked by hand: statements that have words of their own whatever their names, and the three that have none where these are not found.
use Rattle.std.proofs.Common.{◌≡◌, true, false, List, [], ◌∷◌, Some, None, refl}
use Rattle.spl_statement_code.specs.spl_tree.declared.names_and_places.At.{At}
use Rattle.spl_statement_code.specs.spl_tree.Trees as tree
use Rattle.spl_statement_code.specs.spl_tree.Trees.{Tree}
use Rattle.spl_statement_code.specs.spl_tree.StatementTrees as stat
use Rattle.spl_statement_code.specs.spl_tree.StatementTrees.{Statement}
use Rattle.spl_statement_code.specs.spl_meaning.Names as n
use Rattle.spl_statement_code.specs.spl_meaning.Names.{Names}
use Rattle.spl_statement_code.specs.spl_branch.declared.pieces.Piece.{Piece}
use Rattle.spl_statement_code.specs.spl_branch.declared.pieces.Piece.TheVariants.{Begin}
use Rattle.spl_statement_code.specs.Landings.{Context}
use Rattle.spl_statement_code.specs.Statements.{statement}
use Rattle.spl_sites.specs.Beginnings.{begins_well}

-- no name has a place, no procedure and no subroutine an entry, and no label a landing
abbrev with_names : Names → Context
with_names names = record {
  scope = record { names = names; places = λ x. None; procedures = λ x. None; subroutines = λ x. None };
  landings = λ x. None;
  leave = 0;
}

abbrev no_names : Names
no_names x = None

-- each name is a subroutine without parameters and result
abbrev subroutines : Names
subroutines x = Some (n.subroutine (record { result = None; formals = []; split = false }))

-- the pieces of a statement's code
abbrev code_of : Names → Statement → List Piece
code_of names s = (statement (with_names names) s 0 0 []).pieces

-- X
abbrev x_at : At → Tree
x_at at = tree.Tree.named (88 ∷ []) tree.Trees.none at

-- X := 5 has the words of 5, even where X has no place
number_begins : (at : At) → begins_well false (code_of no_names (stat.Statement.assign (stat.Target.plain (x_at at)) (tree.Tree.number 5) at)) ≡ true
number_begins at = refl

-- X := X has none there
name_does_not : (at : At) → code_of no_names (stat.Statement.assign (stat.Target.plain (x_at at)) (x_at at) at) ≡ Begin at ∷ []
name_does_not at = refl

-- nor has GO TO X without a landing
go_to_does_not : (at : At) → code_of no_names (stat.Statement.go_to (88 ∷ []) at) ≡ Begin at ∷ []
go_to_does_not at = refl

-- nor the call of a subroutine without an entry
call_does_not : (at : At) → code_of subroutines (stat.Statement.call (88 ∷ []) tree.Trees.none at) ≡ Begin at ∷ []
call_does_not at = refl

-- IF X THEN RETURN tests what stands on top
test_begins : (at : At) → begins_well false (code_of no_names (stat.Statement.if_test (stat.Test.condition (x_at at)) (stat.Statement.return at) stat.Statements.none at)) ≡ true
test_begins at = refl
