-- The parts of a unit that can be open behind some tokens.
use Rattle.std.specs.Prelude.{ℕ, Bool, Option}
use Rattle.spl_tree.specs.declared.names_and_places.At.{At}
use Rattle.spl_tree.specs.declared.symbols.Reserved.{Reserved}
use Rattle.spl_tree.specs.Declarations.{Options}

-- `mark` is a token of the production itself, or one that may go on with a part that is whole
pub data Part : Type 0 where
  constant : Part
  level : Bool → Option At → ℕ → Part
  unary : Option At → Part
  primary : Option At → Part
  arguments : Part
  reference : Part
  source : Part
  effect : Part
  test : Part
  statement : Part
  statements : Part
  names : Part
  constants : Part
  item : Part
  items : Part
  equal : Part
  equals : Part
  array : Part
  arrays : Part
  options : Options → Part
  heading : Reserved → Part
  declaration : Bool → Bool → Part
  declarations : Bool → Bool → Part
  body : Part
  unit : Part
  mark : Part
