-- Some declarations, options and bodies, read and refused at a place, worked by hand.
use Rattle.std.proofs.Common.{ℕ, ◌≡◌, true, false, List, [], ◌∷◌, Some, None, codes, refl}
use Rattle.spl_tree.specs.declared.expressions.Kind.TheVariants as kind
use Rattle.spl_tree.specs.declared.symbols.Symbol.TheVariants as s
use Rattle.spl_tree.specs.declared.symbols.Reserved.TheVariants as w
use Rattle.spl_tree.specs.Symbols.{Lexeme}
use Rattle.spl_tree.specs.Trees.{Constant}
use Rattle.spl_tree.specs.Trees as tree
use Rattle.spl_tree.specs.StatementTrees as stat
use Rattle.spl_tree.specs.DeclarationTrees as decl
use Rattle.spl_tree.specs.DeclarationTrees.{Placed}
use Rattle.spl_reading.specs.Readers.{Outcome, Got, Bad}
use Rattle.spl_reading.specs.ReadDeclarations as rd
use Rattle.spl_reading.proofs.KnownUnits.{at, mark, name, stop, readers}
use Prim.Native.String.{String}

-- a name that is an option
abbrev option : String → ℕ → Lexeme
option word n = record { symbol = s.Name; letters = codes word; at = at n; segment = 0 }

-- a token in this segment
abbrev within : ℕ → Lexeme → Lexeme
within n t = record { symbol = t.symbol; letters = t.letters; at = t.at; segment = n }

-- a name of one letter at its place
abbrev placed : ℕ → ℕ → Placed
placed letter n = record { letters = letter ∷ []; at = at n }

-- a number without a sign, and the same with a minus
abbrev plus : ℕ → Constant
plus v = tree.Constant.number false v

abbrev minus : ℕ → Constant
minus v = tree.Constant.number true v

-- an item with this letter
abbrev item : ℕ → ℕ → decl.Shape → List Constant → decl.Item
item letter n shape first = record { name = letter ∷ []; at = at n; shape = shape; first = first }

-- a declaration of a unit, behind no subroutine and behind one
abbrev reads : List Lexeme → Outcome decl.Declaration
reads ts = rd.declaration 64 (rd.body 64) true false 7 ts

abbrev reads_later : List Lexeme → Outcome decl.Declaration
reads_later ts = rd.declaration 64 (rd.body 64) true true 7 ts

-- INTEGER A:=-5,B
reads_items : reads (mark (s.Type kind.Integer) 1 ∷ name 65 2 ∷ mark s.Assign 3 ∷ mark (s.Operator 12) 4
    ∷ mark (s.Number 5) 5 ∷ mark s.Comma 6 ∷ name 66 7 ∷ mark s.Semicolon 8 ∷ [])
    ≡ Got (decl.Declaration.data_items false kind.Integer
    (item 65 2 decl.Shape.simple (minus 5 ∷ []) ∷ item 66 7 decl.Shape.simple [] ∷ [])) (mark s.Semicolon 8 ∷ [])
unfolding readers
reads_items = refl

-- OWN BYTE ARRAY A(0:1),B(-1:N):=1,2: the values are those of the last array
reads_arrays : reads (mark (s.Word w.Own) 1 ∷ mark (s.Type kind.Byte) 2 ∷ mark (s.Word w.Array) 3 ∷ name 65 4
    ∷ mark s.Open 5 ∷ mark (s.Number 0) 6 ∷ mark s.Colon 7 ∷ mark (s.Number 1) 8 ∷ mark s.Close 9 ∷ mark s.Comma 10
    ∷ name 66 11 ∷ mark s.Open 12 ∷ mark (s.Operator 12) 13 ∷ mark (s.Number 1) 14 ∷ mark s.Colon 15 ∷ name 78 16
    ∷ mark s.Close 17 ∷ mark s.Assign 18 ∷ mark (s.Number 1) 19 ∷ mark s.Comma 20 ∷ mark (s.Number 2) 21 ∷ stop 22)
    ≡ Got (decl.Declaration.data_items true kind.Byte
    (item 65 4 (decl.Shape.array (plus 0) (plus 1)) []
    ∷ item 66 11 (decl.Shape.array (minus 1) (tree.Constant.name (78 ∷ []) (at 16))) (plus 1 ∷ plus 2 ∷ []) ∷ []))
    (stop 22)
unfolding readers
reads_arrays = refl

-- ARRAY V(*)=A: without a kind it is LOGICAL
reads_a_view : reads (mark (s.Word w.Array) 1 ∷ name 86 2 ∷ mark s.Open 3 ∷ mark (s.Operator 13) 4 ∷ mark s.Close 5
    ∷ mark (s.Operator 5) 6 ∷ name 65 7 ∷ stop 8)
    ≡ Got (decl.Declaration.data_items false kind.Logical (item 86 2 (decl.Shape.view (65 ∷ [])) [] ∷ [])) (stop 8)
unfolding readers
reads_a_view = refl

-- DOUBLE POINTER P,Q
reads_pointers : reads (mark (s.Type kind.Double) 1 ∷ mark (s.Word w.Pointer) 2 ∷ name 80 3 ∷ mark s.Comma 4
    ∷ name 81 5 ∷ stop 6)
    ≡ Got (decl.Declaration.data_items false kind.Double
    (item 80 3 decl.Shape.pointer [] ∷ item 81 5 decl.Shape.pointer [] ∷ [])) (stop 6)
unfolding readers
reads_pointers = refl

-- OWN INTEGER POINTER: no pointer is OWN
refuses_an_own_pointer : reads (mark (s.Word w.Own) 1 ∷ mark (s.Type kind.Integer) 2 ∷ mark (s.Word w.Pointer) 3
    ∷ name 80 4 ∷ stop 5) ≡ Bad (mark (s.Word w.Pointer) 3 ∷ name 80 4 ∷ stop 5)
unfolding readers
refuses_an_own_pointer = refl

-- EQUATE N=1+A-2,M=-3: a sign before a sum belongs to its first constant
reads_equations : reads (mark (s.Word w.Equate) 1 ∷ name 78 2 ∷ mark (s.Operator 5) 3 ∷ mark (s.Number 1) 4
    ∷ mark (s.Operator 11) 5 ∷ name 65 6 ∷ mark (s.Operator 12) 7 ∷ mark (s.Number 2) 8 ∷ mark s.Comma 9 ∷ name 77 10
    ∷ mark (s.Operator 5) 11 ∷ mark (s.Operator 12) 12 ∷ mark (s.Number 3) 13 ∷ stop 14)
    ≡ Got (decl.Declaration.equate (
    record {
      name = 78 ∷ [];
      at = at 2;
      terms = record { minus = false; value = plus 1 }
          ∷ record { minus = false; value = tree.Constant.name (65 ∷ []) (at 6) }
          ∷ record { minus = true; value = plus 2 } ∷ [];
    } ∷ record { name = 77 ∷ []; at = at 10; terms = record { minus = false; value = minus 3 } ∷ [] } ∷ [])) (stop 14)
unfolding readers
reads_equations = refl

-- INTRINSIC A,B and LABEL L
reads_intrinsics : reads (mark (s.Word w.Intrinsic) 1 ∷ name 65 2 ∷ mark s.Comma 3 ∷ name 66 4 ∷ stop 5)
    ≡ Got (decl.Declaration.intrinsic (placed 65 2 ∷ placed 66 4 ∷ [])) (stop 5)
unfolding readers
reads_intrinsics = refl

reads_a_label : reads (mark (s.Word w.Label) 1 ∷ name 76 2 ∷ stop 3)
    ≡ Got (decl.Declaration.label (placed 76 2 ∷ [])) (stop 3)
unfolding readers
reads_a_label = refl

-- behind a subroutine the word itself is refused
refuses_a_label_behind_a_subroutine : reads_later (mark (s.Word w.Label) 1 ∷ name 76 2 ∷ stop 3)
    ≡ Bad (mark (s.Word w.Label) 1 ∷ name 76 2 ∷ stop 3)
unfolding readers
refuses_a_label_behind_a_subroutine = refl

-- INTEGER PROCEDURE F(A,B);VALUE A;INTEGER A;ARRAY B;OPTION FORWARD: the heading is of the segment in force at its word
reads_a_forward : reads (within 1 (mark (s.Type kind.Integer) 1) ∷ within 2 (mark (s.Word w.Procedure) 2)
    ∷ within 3 (name 70 3) ∷ mark s.Open 4 ∷ name 65 5 ∷ mark s.Comma 6 ∷ name 66 7 ∷ mark s.Close 8
    ∷ mark s.Semicolon 9 ∷ mark (s.Word w.Value) 10 ∷ name 65 11 ∷ mark s.Semicolon 12 ∷ mark (s.Type kind.Integer) 13
    ∷ name 65 14 ∷ mark s.Semicolon 15 ∷ mark (s.Word w.Array) 16 ∷ name 66 17 ∷ mark s.Semicolon 18
    ∷ mark (s.Word w.Options) 19 ∷ option "FORWARD" 20 ∷ stop 21)
    ≡ Got (decl.Declaration.forward (record {
      result = Some kind.Integer;
      name = 70 ∷ [];
      names = placed 65 5 ∷ placed 66 7 ∷ [];
      values = placed 65 11 ∷ [];
      specs = record { kind = kind.Integer; array = false; names = placed 65 14 ∷ [] }
          ∷ record { kind = kind.Logical; array = true; names = placed 66 17 ∷ [] } ∷ [];
      split = false;
      at = at 3;
      segment = 2;
    })) (stop 21)
unfolding readers
reads_a_forward = refl

-- a heading without parameters, and its name
abbrev heading : ℕ → ℕ → decl.Heading
heading letter n = record {
  result = None;
  name = letter ∷ [];
  names = [];
  values = [];
  specs = [];
  split = false;
  at = at n;
  segment = 0;
}

-- PROCEDURE P(A);BYTE ARRAY A;VALUE A: the values come before the kinds
refuses_values_behind_kinds : reads (mark (s.Word w.Procedure) 1 ∷ name 80 2 ∷ mark s.Open 3 ∷ name 65 4
    ∷ mark s.Close 5 ∷ mark s.Semicolon 6 ∷ mark (s.Type kind.Byte) 7 ∷ mark (s.Word w.Array) 8 ∷ name 65 9 ∷ mark s.Semicolon 10
    ∷ mark (s.Word w.Value) 11 ∷ name 65 12 ∷ stop 13) ≡ Bad (mark (s.Word w.Value) 11 ∷ name 65 12 ∷ stop 13)
unfolding readers
refuses_values_behind_kinds = refl

-- PROCEDURE P;OPTION SPLIT;RETURN
reads_a_split_procedure : reads (mark (s.Word w.Procedure) 1 ∷ name 80 2 ∷ mark s.Semicolon 3
    ∷ mark (s.Word w.Options) 4 ∷ option "SPLIT" 5 ∷ mark s.Semicolon 6 ∷ mark (s.Word w.Return) 7 ∷ stop 8)
    ≡ Got (decl.Declaration.procedure (record {
      result = None;
      name = 80 ∷ [];
      names = [];
      values = [];
      specs = [];
      split = true;
      at = at 2;
      segment = 0;
    }) decl.Declarations.none (stat.Statement.return (at 7) ∷ [])) (stop 8)
unfolding readers
reads_a_split_procedure = refl

-- PROCEDURE P;OPTION EXTERNAL;RETURN: an external has no body, so the declaration ends there
reads_an_external : reads (mark (s.Word w.Procedure) 1 ∷ name 80 2 ∷ mark s.Semicolon 3 ∷ mark (s.Word w.Options) 4
    ∷ option "EXTERNAL" 5 ∷ mark s.Semicolon 6 ∷ mark (s.Word w.Return) 7 ∷ stop 8)
    ≡ Got (decl.Declaration.external (heading 80 2)) (mark s.Semicolon 6 ∷ mark (s.Word w.Return) 7 ∷ stop 8)
unfolding readers
reads_an_external = refl

-- SPLIT,EXTERNAL and SPLIT,SPLIT
reads_two_options : rd.options (option "SPLIT" 1 ∷ mark s.Comma 2 ∷ option "EXTERNAL" 3 ∷ stop 4)
    ≡ Got (record { forward = false; external = true; split = true }) (stop 4)
unfolding readers
reads_two_options = refl

reads_an_option_twice : rd.options (option "SPLIT" 1 ∷ mark s.Comma 2 ∷ option "SPLIT" 3 ∷ stop 4)
    ≡ Got (record { forward = false; external = false; split = true }) (stop 4)
unfolding readers
reads_an_option_twice = refl

-- FORWARD,EXTERNAL: refused at the second
refuses_external_behind_forward : rd.options (option "FORWARD" 1 ∷ mark s.Comma 2 ∷ option "EXTERNAL" 3 ∷ stop 4)
    ≡ Bad (option "EXTERNAL" 3 ∷ stop 4)
unfolding readers
refuses_external_behind_forward = refl

-- a name that is no option
refuses_another_option : rd.options (option "SPLITS" 1 ∷ stop 2) ≡ Bad (option "SPLITS" 1 ∷ stop 2)
unfolding readers
refuses_another_option = refl

-- BEGIN SUBROUTINE S;RETURN;END as the body of a procedure of segment 3: the subroutine is of that segment, wherever
-- it stands
reads_a_body : rd.body 64 3 (within 4 (mark (s.Word w.Begin) 1) ∷ within 4 (mark (s.Word w.Subroutine) 2)
    ∷ within 4 (name 83 3) ∷ mark s.Semicolon 4 ∷ mark (s.Word w.Return) 5 ∷ mark s.Semicolon 6 ∷ mark (s.Word w.End) 7
    ∷ stop 8)
    ≡ Got (
      decl.Declaration.subroutine (record {
        result = None;
        name = 83 ∷ [];
        names = [];
        values = [];
        specs = [];
        split = false;
        at = at 3;
        segment = 3;
      }) (stat.Statement.return (at 5)) ∷ [],
      stat.Statement.empty ∷ [],
    ) (stop 8)
unfolding readers
reads_a_body = refl

-- a body that is one statement has one
refuses_an_empty_body : rd.body 64 3 (mark s.Semicolon 1 ∷ stop 2) ≡ Bad (mark s.Semicolon 1 ∷ stop 2)
unfolding readers
refuses_an_empty_body = refl

-- BEGIN PROCEDURE Q: no procedure stands in a procedure
refuses_a_procedure_in_a_procedure : rd.body 64 3 (mark (s.Word w.Begin) 1 ∷ mark (s.Word w.Procedure) 2 ∷ name 81 3
    ∷ stop 4) ≡ Bad (mark (s.Word w.Procedure) 2 ∷ name 81 3 ∷ stop 4)
unfolding readers
refuses_a_procedure_in_a_procedure = refl

-- and none with a result
refuses_a_function_in_a_procedure : rd.body 64 3 (mark (s.Word w.Begin) 1 ∷ mark (s.Type kind.Integer) 2
    ∷ mark (s.Word w.Procedure) 3 ∷ name 81 4 ∷ stop 5) ≡ Bad (mark (s.Word w.Procedure) 3 ∷ name 81 4 ∷ stop 5)
unfolding readers
refuses_a_function_in_a_procedure = refl

-- BEGIN SUBROUTINE S;;END . in a unit: the subroutine is of the segment in force at the first token behind the
-- declarations
reads_a_subroutine_of_a_unit : rd.unit 64 (mark (s.Word w.Begin) 1 ∷ within 1 (mark (s.Word w.Subroutine) 2)
    ∷ within 1 (name 83 3) ∷ within 1 (mark s.Semicolon 4) ∷ within 1 (mark s.Semicolon 5)
    ∷ within 2 (mark (s.Word w.End) 6) ∷ mark s.Dot 7 ∷ stop 8)
    ≡ Got (record {
      items = decl.Declaration.subroutine (record {
        result = None;
        name = 83 ∷ [];
        names = [];
        values = [];
        specs = [];
        split = false;
        at = at 3;
        segment = 2;
      }) stat.Statement.empty ∷ [];
      statements = stat.Statement.empty ∷ [];
      segment = 2;
      at = at 1;
    }) []
unfolding readers
reads_a_subroutine_of_a_unit = refl

-- a unit ends at the end of the text: what stands behind is left
reads_no_further : rd.unit 64 (mark (s.Word w.Begin) 1 ∷ mark (s.Word w.End) 2 ∷ mark s.Dot 3 ∷ mark s.Stop 4 ∷ stop 5)
    ≡ Got (record { items = []; statements = stat.Statement.empty ∷ []; segment = 0; at = at 1 }) (stop 5)
unfolding readers
reads_no_further = refl
