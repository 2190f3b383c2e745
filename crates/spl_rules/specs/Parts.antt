-- Parts: what a rule speaks of, with all that the rule has to know of the place where it stands.
use Rattle.std.specs.Prelude.{ℕ, Bool, List, Option}
use Rattle.spl_meaning.specs.spl_tree.declared.names_and_places.At.{At}
use Rattle.spl_meaning.specs.spl_tree.declared.expressions.Kind.{Kind}
use Rattle.spl_meaning.specs.spl_tree.Trees.{Tree, Constant}
use Rattle.spl_meaning.specs.spl_tree.StatementTrees.{Statement, Target, Effect}
use Rattle.spl_meaning.specs.spl_tree.DeclarationTrees.{Placed, Spec, Heading, Item, Term, Declarations}
use Rattle.spl_meaning.specs.Names.{Names, Sort, Formal, Profile, Table}
use Rattle.spl_meaning.specs.Kinds.{Operand}
use Rattle.spl_meaning.specs.Tables.{Routine}
use Rattle.spl_meaning.specs.ExpressionRules.{Scope}
use Rattle.spl_meaning.specs.DeclarationRules.{Around}

-- what a name has to be where it stands
pub data Role : Type 0 where
  -- in an expression: a variable, an element, a constant, or what is called there
  operand : Role
  -- a variable, an element, an array or a pointer
  variable : Role
  -- what a statement calls
  callee : Role
  -- on the left of :=
  target : Role
  -- behind @ on the left of :=
  pointer : Role
  -- the variable of a FOR
  counter : Role
  -- what takes the answer of a MOVE or a SCAN
  answer : Role

-- Where a part has no place of its own it carries that of the part around it.
pub data Part : Type 0 where
  -- a name in its role, with so many arguments or indices
  name : Role → Scope → List ℕ → ℕ → At → Part
  -- a call of a name with this profile, with so many arguments, and whether its value is used
  call : Scope → List ℕ → Profile → ℕ → Bool → At → Part
  -- an argument with its parameter
  argument : Names → Option Formal → Tree → At → Part
  -- a constant
  constant : Names → At → Constant → Part
  -- a string in an expression
  text : List ℕ → At → Part
  -- an expression whose bits are worked on, or a condition
  bits : Names → At → Tree → Part
  -- an expression that has to be a word: an index, a count, a test word, a part of a FOR or a CASE
  word : Names → At → Tree → Part
  -- two operands of + - * / MOD or a relation
  operation : Names → ℕ → Tree → Tree → At → Part
  -- what is shifted, or of which bits are taken
  shifted : Names → Tree → At → Part
  -- a count of a shift
  shift_count : Names → Constant → At → Part
  -- the first bit and the length of a bit field
  field : Names → Constant → Constant → At → Part
  -- what stands behind @ in an expression
  address : Scope → List ℕ → At → Part
  -- a reference of a MOVE, a SCAN or a comparison of bytes
  far : Scope → Tree → Part
  -- the references of a comparison of bytes
  compared : Names → Tree → Tree → At → Part
  -- a value that is assigned to a place whose kind may be none
  assigned : Option Kind → Operand → At → Part
  -- a target whose bits are replaced
  replaced : Names → Tree → At → Part
  -- a MOVE or a SCAN
  effect : Names → Effect → At → Part
  -- the target of the answer of a MOVE or a SCAN
  answered : Target → At → Part
  -- the kind of what takes the answer
  answer_kind : Option Sort → At → Part
  -- a test of the condition code, and whether it is directly behind what sets it
  code_test : Bool → At → Part
  -- a GO TO, with the labels of the lists around it
  jump : List (List ℕ) → List ℕ → At → Part
  -- a RETURN
  leave : Scope → At → Part
  -- a label behind others of its body
  label : List Placed → Placed → Part
  -- a name that is declared behind those of a list
  declared : Table Sort → List ℕ → At → Part
  -- the bounds of an array
  bounds : Names → Constant → Constant → At → Part
  -- the base of a view of a kind, behind the items of a list
  base : Names → Table Sort → Bool → Kind → List ℕ → At → Part
  -- an array or a view
  elements : Around → At → Part
  -- an initial value of a kind, with the names before its item
  initial : Names → Kind → At → Constant → Part
  -- an item behind those of a list
  item : Around → Table Sort → Bool → Kind → Item → Part
  -- the sum of an EQUATE
  sum : Names → List Term → At → Part
  -- a name that INTRINSIC lists
  intrinsic : Placed → Part
  -- a parameter behind others of its heading
  parameter : List Placed → Placed → Part
  -- a name that a heading lists, with its parameters
  listed : List Placed → Placed → Part
  -- a name that VALUE lists
  value_listed : List Spec → Placed → Part
  -- a parameter with the lists of kinds
  kind_listed : List Spec → Placed → Part
  -- a name in the lists of kinds behind others
  listed_again : List Placed → Placed → Part
  -- a parameter, and whether its procedure is split
  formal : Bool → Formal → Part
  -- a FORWARD, with the declarations behind it
  forward : Heading → Declarations → Part
  -- an EXTERNAL, with a procedure of another unit
  external : Heading → Routine → Part
  -- the heading of a body, with the FORWARD that waits for it
  body : Table Sort → Option Profile → Heading → Part
  -- a subroutine
  subroutine : Around → At → Part
  -- a statement of a subprogram, in a unit with this place
  silent : At → Statement → Part
