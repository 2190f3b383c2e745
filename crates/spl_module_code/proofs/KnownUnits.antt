-- A unit for the examples, whose main body stands in segment 0, and its procedures in segment 1:
--   INTEGER I;
--   INTEGER PROCEDURE F(K); VALUE K; INTEGER K; BEGIN INTEGER J; SUBROUTINE S(D); VALUE D; DOUBLE D; ; ; END;
--   SUBROUTINE T(K); VALUE K; INTEGER K; ;
--   PROCEDURE H; BEGIN SUBROUTINE U; ; ; END;
use Rattle.std.specs.Prelude.{ℕ, false, List, [], ◌∷◌, map, codes, Option, Some, None}
use Prim.Native.String.{String}
use Rattle.spl_statement_code.specs.spl_tree.declared.names_and_places.At.{At}
use Rattle.spl_statement_code.specs.spl_tree.declared.expressions.Kind.{Kind}
use Rattle.spl_statement_code.specs.spl_tree.declared.expressions.Kind.TheVariants as kind
use Rattle.spl_statement_code.specs.spl_tree.StatementTrees as stat
use Rattle.spl_statement_code.specs.spl_tree.StatementTrees.{Statement}
use Rattle.spl_statement_code.specs.spl_tree.DeclarationTrees as decl
use Rattle.spl_statement_code.specs.spl_tree.DeclarationTrees.{Placed, Heading, Declaration, declarations}
use Rattle.spl_statement_code.specs.spl_meaning.Tables.{Source}

-- where all stands in the text
abbrev pub nowhere : At
nowhere = record { unit = 1; line = 1; column = 1 }

abbrev pub named : String → Placed
named x = record { letters = codes x; at = nowhere }

-- a heading with its result and parameters by value of a kind, in a segment
abbrev pub heading : Option Kind → String → List String → Kind → ℕ → Heading
heading result name names k g = record {
  result = result;
  name = codes name;
  names = map named names;
  values = map named names;
  specs = record { kind = k; array = false; names = map named names } ∷ [];
  split = false;
  at = nowhere;
  segment = g;
}

abbrev pub simple : Kind → String → Declaration
simple k name = decl.Declaration.data_items false k (record { name = codes name; at = nowhere; shape = decl.Shape.simple; first = [] } ∷ [])

-- a subroutine and a procedure, which do nothing
abbrev pub subroutine : Heading → Declaration
subroutine h = decl.Declaration.subroutine h stat.Statement.empty

abbrev pub procedure : Heading → List Declaration → Declaration
procedure h items = decl.Declaration.procedure h (declarations items) (stat.Statement.empty ∷ [])

-- a unit of two segments, whose main body stands in the first
abbrev pub unit_of : List Declaration → List Statement → Source
unit_of items ss = record {
  subprogram = false;
  segments = codes "SEG'" ∷ codes "ONE" ∷ [];
  tree = record { items = items; statements = ss; segment = 0; at = nowhere };
}

abbrev pub unit : Source
unit = unit_of (simple kind.Integer "I"
    ∷ procedure (heading (Some kind.Integer) "F" ("K" ∷ []) kind.Integer 1)
    (simple kind.Integer "J" ∷ subroutine (heading None "S" ("D" ∷ []) kind.Double 1) ∷ [])
    ∷ subroutine (heading None "T" ("K" ∷ []) kind.Integer 1)
    ∷ procedure (heading None "H" [] kind.Integer 1) (subroutine (heading None "U" [] kind.Integer 1) ∷ []) ∷ []) []
