-- The names, places and labels of the examples: statements of a subroutine in a procedure F.
use Rattle.std.specs.Prelude.{ℕ, pos, true, false, List, [], ◌∷◌, codes, Some, None}
use Rattle.spl_code.specs.hp_word.declared.intrinsics.Intrinsic.TheVariants as gate
use Rattle.spl_code.specs.spl_tree.declared.names_and_places.At.{At}
use Rattle.spl_code.specs.spl_tree.declared.expressions.Kind.TheVariants as kind
use Rattle.spl_code.specs.spl_tree.Trees as tree
use Rattle.spl_code.specs.spl_tree.Trees.{Tree, Trees}
use Rattle.spl_code.specs.spl_tree.StatementTrees as stat
use Rattle.spl_code.specs.spl_tree.StatementTrees.{Statement, Statements, statements}
use Rattle.spl_code.specs.spl_meaning.Names.{Sort, Table, Profile, find, given, simple, array, pointer, value, by_reference, intrinsic, procedure, subroutine}
use Rattle.spl_code.specs.spl_meaning.Places.{Place, data_word, above_base, below_base, below_return}
use Rattle.spl_code.specs.spl_branch.declared.pieces.Piece.{Piece}
use Rattle.spl_code.specs.spl_branch.declared.pieces.Piece.TheVariants.{Begin}
use Rattle.spl_code.specs.Calls.{Scope}
use Rattle.spl_statement_code.specs.Landings.{Landing, Context}
use Rattle.spl_statement_code.specs.Statements.{statement}
use Prim.Native.String.{String}

-- F(INTEGER by value), an INTEGER; the subroutine T, a DOUBLE; the procedure C, which gives nothing
abbrev pub f_takes : Profile
f_takes = record { result = Some kind.Integer; formals = given kind.Integer false true ∷ []; split = false }

abbrev pub t_takes : Profile
t_takes = record { result = Some kind.Double; formals = []; split = false }

abbrev pub c_takes : Profile
c_takes = record { result = None; formals = []; split = false }

-- what the names stand for
abbrev pub known : Table Sort
known =
    (codes "I", simple kind.Integer false) ∷ (codes "L", simple kind.Logical false) ∷ (codes "Y", simple kind.Byte false)
    ∷ (codes "D", simple kind.Double false) ∷ (codes "G", simple kind.Integer false) ∷ (codes "A", array kind.Integer false (pos 0) (pos 9))
    ∷ (codes "B", array kind.Byte false (pos 0) (pos 9)) ∷ (codes "P", pointer kind.Integer false) ∷ (codes "R", by_reference kind.Integer)
    ∷ (codes "W", value kind.Integer) ∷ (codes "U", by_reference kind.Integer) ∷ (codes "F", procedure f_takes) ∷ (codes "C", procedure c_takes)
    ∷ (codes "T", subroutine t_takes) ∷ (codes "READ", intrinsic gate.Read) ∷ (codes "QUIT", intrinsic gate.Quit) ∷ []

-- where their words stand: locals, a global, a parameter of the procedure and its result; parameters of the subroutine and its result
abbrev pub placed : Table Place
placed =
    (codes "I", above_base 1) ∷ (codes "L", above_base 2) ∷ (codes "Y", above_base 3) ∷ (codes "D", above_base 4) ∷ (codes "A", above_base 6)
    ∷ (codes "B", above_base 8) ∷ (codes "P", above_base 9) ∷ (codes "G", data_word 10) ∷ (codes "R", below_base 4) ∷ (codes "F", below_base 5)
    ∷ (codes "W", below_return 1) ∷ (codes "U", below_return 2) ∷ (codes "T", below_return 4) ∷ []

-- the entry of T
abbrev pub of_body : Table ℕ
of_body = (codes "T", 3) ∷ []

abbrev pub scope : Scope
scope = record {
  names = find known;
  places = find placed;
  procedures = find {A = ℕ} [];
  subroutines = find of_body;
}

-- OUT stands in the body's list, HERE in a FOR of it
abbrev pub labels : Table Landing
labels = (codes "OUT", record { mark = 3; pending = 0 }) ∷ (codes "HERE", record { mark = 4; pending = 3 }) ∷ []

abbrev pub context : Context
context = record { scope = scope; landings = find labels; leave = 5 }

-- where all stands in the text
abbrev pub here : At
here = record { unit = 1; line = 1; column = 1 }

-- the start of a statement
abbrev pub start : Piece
start = Begin here

-- a name by itself, and with what stands behind it; a number; two operands
abbrev pub name : String → Tree
name x = tree.Tree.named (codes x) tree.Trees.none here

abbrev pub name_of : String → Tree → Tree
name_of x e = tree.Tree.named (codes x) (tree.Trees.and e tree.Trees.none) here

abbrev pub number : ℕ → Tree
number v = tree.Tree.number v

abbrev pub binary : ℕ → Tree → Tree → Tree
binary op a b = tree.Tree.binary op a b here

-- a number is assigned to a name
abbrev pub set_to : String → ℕ → Statement
set_to x v = stat.Statement.assign (stat.Target.plain (name x)) (number v) here

-- two statements
abbrev pub both : Statement → Statement → Statements
both s t = stat.Statements.and s (stat.Statements.and t stat.Statements.none)

-- the pieces of a statement while so many words wait, the marks from 20 on being new and no name wanted
abbrev pub pieces_while : ℕ → Statement → List Piece
pieces_while k s = (statement context s k 20 []).pieces

abbrev pub pieces_of : Statement → List Piece
pieces_of s = pieces_while 0 s
