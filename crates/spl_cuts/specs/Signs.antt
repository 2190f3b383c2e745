-- The tokens of a text, by themselves, where they stand, and as a unit lists them.
use Rattle.std.specs.Prelude.{ℕ, Bool, List}
use Rattle.spl_tree.specs.declared.names_and_places.At.{At}

-- what stands at a token; letters are capitals, and a mark is its number among ( ) , ; : . = < > + - * / & @ # := <= >= <>
pub data Sign : Type 0 where
  word : List ℕ → Sign
  number : ℕ → Sign
  wide : ℕ → Sign
  chars : List ℕ → Sign
  mark : ℕ → Sign
  stop : Sign

-- a token, with the place of its first byte and the name of the segment in force there
pub record Found : Type 0 where
  pub what : Sign
  pub at : At
  pub segment : List ℕ

-- a token of a unit, with the number of its segment
pub record Placed : Type 0 where
  pub what : Sign
  pub at : At
  pub segment : ℕ

-- the tokens of a unit, the names of their segments, and whether the unit is a subprogram
pub record Listed : Type 0 where
  pub tokens : List Placed
  pub segments : List (List ℕ)
  pub subprogram : Bool
