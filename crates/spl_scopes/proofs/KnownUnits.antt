-- Two units for the examples. The first has its main body in segment 0; its procedures F and H stand in segment 1, P in segment 2:
--   INTEGER I; DOUBLE D; INTEGER ARRAY A(0:9);
--   INTEGER PROCEDURE F(I,K); VALUE K; INTEGER I,K;
--     BEGIN OWN LOGICAL L; INTEGER J; DOUBLE SUBROUTINE S(D); VALUE D; DOUBLE D; ; ; END;
--   PROCEDURE P; ;
--   PROCEDURE H(D); BYTE ARRAY D; BEGIN SUBROUTINE S; ; SUBROUTINE U; ; ; END;
--   SUBROUTINE T(K); VALUE K; INTEGER K; ;  LOGICAL G;
-- The second is a subprogram: PROCEDURE Q; BEGIN OWN INTEGER V; OWN DOUBLE W; ; END;
use Rattle.std.specs.Prelude.{ℕ, Bool, true, false, List, [], ◌∷◌, map, codes, Option, Some, None}
use Prim.Native.String.{String}
use Rattle.spl_code.specs.spl_tree.declared.names_and_places.At.{At}
use Rattle.spl_code.specs.spl_tree.declared.expressions.Kind.{Kind}
use Rattle.spl_code.specs.spl_tree.declared.expressions.Kind.TheVariants as kind
use Rattle.spl_code.specs.spl_tree.Trees.{number}
use Rattle.spl_code.specs.spl_tree.StatementTrees as stat
use Rattle.spl_code.specs.spl_tree.DeclarationTrees as decl
use Rattle.spl_code.specs.spl_tree.DeclarationTrees.{Placed, Spec, Heading, Item, Declaration, Declarations, declarations}
use Rattle.spl_code.specs.spl_meaning.Tables.{Source}

-- where all stands in the text
abbrev pub nowhere : At
nowhere = record { unit = 1; line = 1; column = 1 }

abbrev pub named : String → Placed
named x = record { letters = codes x; at = nowhere }

-- a heading with its result, its parameters, those by value and their kinds, in a segment
abbrev pub heading : Option Kind → String → List String → List String → List Spec → ℕ → Heading
heading result name names values specs g = record {
  result = result;
  name = codes name;
  names = map named names;
  values = map named values;
  specs = specs;
  split = false;
  at = nowhere;
  segment = g;
}

abbrev pub spec : Kind → Bool → List String → Spec
spec k is_array names = record { kind = k; array = is_array; names = map named names }

-- an item of data, of its own
abbrev pub item : Bool → Kind → String → decl.Shape → Declaration
item own k name shape = decl.Declaration.data_items own k (record { name = codes name; at = nowhere; shape = shape; first = [] } ∷ [])

abbrev pub simple : Bool → Kind → String → Declaration
simple own k name = item own k name decl.Shape.simple

-- a subroutine and a procedure, which do nothing
abbrev pub subroutine : Heading → Declaration
subroutine h = decl.Declaration.subroutine h stat.Statement.empty

abbrev pub procedure : Heading → List Declaration → Declaration
procedure h items = decl.Declaration.procedure h (declarations items) (stat.Statement.empty ∷ [])

abbrev pub f : Declaration
f = procedure (heading (Some kind.Integer) "F" ("I" ∷ "K" ∷ []) ("K" ∷ []) (spec kind.Integer false ("I" ∷ "K" ∷ []) ∷ []) 1)
    (simple true kind.Logical "L" ∷ simple false kind.Integer "J"
    ∷ subroutine (heading (Some kind.Double) "S" ("D" ∷ []) ("D" ∷ []) (spec kind.Double false ("D" ∷ []) ∷ []) 1) ∷ [])

abbrev pub h : Declaration
h = procedure (heading None "H" ("D" ∷ []) [] (spec kind.Byte true ("D" ∷ []) ∷ []) 1)
    (subroutine (heading None "S" [] [] [] 1) ∷ subroutine (heading None "U" [] [] [] 1) ∷ [])

abbrev pub first_unit : Source
first_unit = record {
  subprogram = false;
  segments = codes "SEG'" ∷ codes "ONE" ∷ codes "TWO" ∷ [];
  tree = record {
    items = simple false kind.Integer "I" ∷ simple false kind.Double "D"
        ∷ item false kind.Integer "A" (decl.Shape.array (number false 0) (number false 9))
        ∷ f ∷ procedure (heading None "P" [] [] [] 2) [] ∷ h
        ∷ subroutine (heading None "T" ("K" ∷ []) ("K" ∷ []) (spec kind.Integer false ("K" ∷ []) ∷ []) 2) ∷ simple false kind.Logical "G" ∷ [];
    statements = [];
    segment = 0;
    at = nowhere;
  };
}

abbrev pub second_unit : Source
second_unit = record {
  subprogram = true;
  segments = codes "SEG'" ∷ [];
  tree = record {
    items = procedure (heading None "Q" [] [] [] 0) (simple true kind.Integer "V" ∷ simple true kind.Double "W" ∷ []) ∷ [];
    statements = [];
    segment = 0;
    at = nowhere;
  };
}

abbrev pub units : List Source
units = first_unit ∷ second_unit ∷ []
