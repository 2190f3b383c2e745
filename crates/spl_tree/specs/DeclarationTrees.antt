-- The trees of declarations and units that the grammar speaks of: those of the types, with names as lists of bytes.
use Rattle.std.specs.Prelude.{ℕ, List, [], ◌∷◌, Bool, Option}
use Rattle.spl_tree.specs.declared.names_and_places.At.{At}
use Rattle.spl_tree.specs.declared.expressions.Kind.{Kind}
use Rattle.spl_tree.specs.Trees.{Constant}
use Rattle.spl_tree.specs.StatementTrees as stat

-- a name and its place
pub record Placed : Type 0 where
  pub letters : List ℕ
  pub at : At

-- the kind of some parameters, and whether they are arrays
pub record Spec : Type 0 where
  pub kind : Kind
  pub array : Bool
  pub names : List Placed

pub record Heading : Type 0 where
  pub result : Option Kind
  pub name : List ℕ
  pub names : List Placed
  pub values : List Placed
  pub specs : List Spec
  pub split : Bool
  pub at : At
  pub segment : ℕ

pub data Shape : Type 0 where
  simple : Shape
  array : Constant → Constant → Shape
  view : List ℕ → Shape
  pointer : Shape

pub record Item : Type 0 where
  pub name : List ℕ
  pub at : At
  pub shape : Shape
  pub first : List Constant

-- a part of a sum of constants: whether it is subtracted, and its value
pub record Term : Type 0 where
  pub minus : Bool
  pub value : Constant

-- a name for a sum of constants
pub record Equal : Type 0 where
  pub name : List ℕ
  pub at : At
  pub terms : List Term

mutual
  pub data Declaration : Type 0 where
    data_items : Bool → Kind → List Item → Declaration
    equate : List Equal → Declaration
    intrinsic : List Placed → Declaration
    label : List Placed → Declaration
    forward : Heading → Declaration
    external : Heading → Declaration
    procedure : Heading → Declarations → List stat.Statement → Declaration
    subroutine : Heading → stat.Statement → Declaration

  -- declarations in order
  pub data Declarations : Type 0 where
    none : Declarations
    and : Declaration → Declarations → Declarations

-- a list of declarations as part of one
abbrev pub declarations : List Declaration → Declarations
declarations [] = none
declarations (d ∷ ds) = and d (declarations ds)

-- a unit, but for whether it is a subprogram and the names of its segments
pub record UnitTree : Type 0 where
  pub items : List Declaration
  pub statements : List stat.Statement
  pub segment : ℕ
  pub at : At
