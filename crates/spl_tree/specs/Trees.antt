-- The trees that the grammar speaks of: those of the types, with names and strings as lists of bytes, and with a list
-- of
-- one or none for what may be absent.
use Rattle.std.specs.Prelude.{ℕ, List, [], ◌∷◌, Bool}
use Rattle.spl_tree.specs.declared.names_and_places.At.{At}
use Rattle.spl_tree.specs.declared.expressions.Kind.{Kind}

-- a constant; the flag of a number says that a minus stands before it
pub data Constant : Type 0 where
  number : Bool → ℕ → Constant
  wide : Bool → ℕ → Constant
  text : List ℕ → Constant
  truth : Bool → Constant
  name : List ℕ → At → Constant

mutual
  -- An expression. A reference is `named`, with no or one index.
  pub data Tree : Type 0 where
    number : ℕ → Tree
    wide : ℕ → Tree
    text : List ℕ → Tree
    truth : Bool → Tree
    named : List ℕ → Trees → At → Tree
    address : List ℕ → Trees → At → Tree
    unary : ℕ → Tree → At → Tree
    binary : ℕ → Tree → Tree → At → Tree
    shift : ℕ → Tree → Constant → At → Tree
    field : Tree → Constant → Constant → At → Tree
    transfer : Kind → Tree → At → Tree
    bytes : ℕ → Tree → Tree → Tree → At → Tree

  -- expressions in order
  pub data Trees : Type 0 where
    none : Trees
    and : Tree → Trees → Trees

-- a list of expressions as part of one
abbrev pub trees : List Tree → Trees
trees [] = none
trees (e ∷ es) = and e (trees es)
