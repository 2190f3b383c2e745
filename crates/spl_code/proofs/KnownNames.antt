-- The names and places of the examples: a body in a procedure, in which the statements of a subroutine stand.
use Rattle.std.specs.Prelude.{ℕ, pos, true, false, List, [], ◌∷◌, codes, Some}
use Rattle.spl_meaning.specs.hp_word.declared.intrinsics.Intrinsic.TheVariants as gate
use Rattle.spl_meaning.specs.spl_tree.declared.names_and_places.At.{At}
use Rattle.spl_meaning.specs.spl_tree.declared.expressions.Kind.TheVariants as kind
use Rattle.spl_meaning.specs.spl_tree.Trees as tree
use Rattle.spl_meaning.specs.spl_tree.Trees.{Tree, Trees}
use Rattle.spl_meaning.specs.Names.{Sort, Table, Profile, find, given, simple, array, pointer, value, by_reference, equate, intrinsic, procedure, subroutine}
use Rattle.spl_meaning.specs.Places.{Place, data_word, above_base, below_base, below_return}
use Rattle.spl_branch.specs.declared.pieces.Piece.{Piece}
use Rattle.spl_code.specs.Calls.{Scope}
use Rattle.spl_code.specs.Code.{as_value, as_test, code, reference}
use Prim.Native.String.{String}

-- F(INTEGER by value) of another module; H(BYTE by value, INTEGER by reference) of this one, a BYTE; the subroutine T, a DOUBLE
abbrev pub f_takes : Profile
f_takes = record { result = Some kind.Integer; formals = given kind.Integer false true ∷ []; split = false }

abbrev pub h_takes : Profile
h_takes = record { result = Some kind.Byte; formals = given kind.Byte false true ∷ given kind.Integer false false ∷ []; split = false }

abbrev pub t_takes : Profile
t_takes = record { result = Some kind.Double; formals = []; split = false }

-- what the names stand for
abbrev pub known : Table Sort
known =
    (codes "I", simple kind.Integer false) ∷ (codes "L", simple kind.Logical false) ∷ (codes "Y", simple kind.Byte false)
    ∷ (codes "D", simple kind.Double false) ∷ (codes "G", simple kind.Integer false) ∷ (codes "A", array kind.Integer false (pos 0) (pos 9))
    ∷ (codes "E", array kind.Double false (pos 0) (pos 9)) ∷ (codes "B", array kind.Byte false (pos 0) (pos 9))
    ∷ (codes "P", pointer kind.Integer false) ∷ (codes "V", value kind.Integer) ∷ (codes "R", by_reference kind.Integer)
    ∷ (codes "W", value kind.Integer) ∷ (codes "Z", value kind.Double) ∷ (codes "U", by_reference kind.Double) ∷ (codes "C", equate (Some (pos 1000)))
    ∷ (codes "F", procedure f_takes) ∷ (codes "H", procedure h_takes) ∷ (codes "T", subroutine t_takes)
    ∷ (codes "READ", intrinsic gate.Read) ∷ []

-- where their words stand: locals, a global, parameters of the procedure, and of the subroutine
abbrev pub placed : Table Place
placed =
    (codes "I", above_base 1) ∷ (codes "L", above_base 2) ∷ (codes "Y", above_base 3) ∷ (codes "D", above_base 4) ∷ (codes "A", above_base 6)
    ∷ (codes "E", above_base 7) ∷ (codes "B", above_base 8) ∷ (codes "P", above_base 9) ∷ (codes "G", data_word 10)
    ∷ (codes "V", below_base 5) ∷ (codes "R", below_base 4) ∷ (codes "W", below_return 1) ∷ (codes "Z", below_return 3) ∷ (codes "U", below_return 4) ∷ []

-- the entries of H and T
abbrev pub of_module : Table ℕ
of_module = (codes "H", 2) ∷ []

abbrev pub of_body : Table ℕ
of_body = (codes "T", 3) ∷ []

abbrev pub scope : Scope
scope = record {
  names = find known;
  places = find placed;
  procedures = find of_module;
  subroutines = find of_body;
}

-- where all stands in the text
abbrev pub nowhere : At
nowhere = record { unit = 1; line = 1; column = 1 }

-- a name by itself, and with what stands behind it
abbrev pub name : String → Tree
name x = tree.Tree.named (codes x) tree.Trees.none nowhere

abbrev pub name_of : String → Tree → Tree
name_of x e = tree.Tree.named (codes x) (tree.Trees.and e tree.Trees.none) nowhere

-- a number, and two operands
abbrev pub number : ℕ → Tree
number v = tree.Tree.number v

abbrev pub binary : ℕ → Tree → Tree → Tree
binary op a b = tree.Tree.binary op a b nowhere

-- the pieces of a value while so many words wait, the marks from 20 on being new and no name wanted
abbrev pub value_while : ℕ → Tree → List Piece
value_while k e = (code scope e as_value k 20 []).pieces

abbrev pub value_of : Tree → List Piece
value_of e = value_while 0 e

-- of a test that leads to mark 9
abbrev pub test_of : Tree → List Piece
test_of e = (code scope e (as_test 9) 0 20 []).pieces

-- of the address of a reference
abbrev pub address_of : Tree → List Piece
address_of e = (reference scope e 0 20 []).pieces
