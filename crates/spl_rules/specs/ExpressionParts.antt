-- The parts of expressions and references, in order of text.
use Rattle.std.specs.Prelude.{ℕ, ◌==◌, ◌&&◌, Bool, true, if◌then◌else◌, List, [], ◌∷◌, ◌++◌, Option, Some, None}
use Rattle.spl_meaning.specs.spl_tree.declared.names_and_places.At.{At}
use Rattle.spl_meaning.specs.spl_tree.Trees as tree
use Rattle.spl_meaning.specs.spl_tree.Trees.{Tree, Trees, Constant}
use Rattle.spl_meaning.specs.Names.{Names, Formal, Profile}
use Rattle.spl_meaning.specs.Kinds.{compares_text, callable, works_on_bits, complement}
use Rattle.spl_meaning.specs.Pending.{profile_formals, first_formal, other_formals}
use Rattle.spl_meaning.specs.ExpressionRules.{Scope, count, is_callable, is_reference_formal, is_label_name, may_compare_text}
use Rattle.spl_rules.specs.Parts as part
use Rattle.spl_rules.specs.Parts.{Part}

-- a call, where a name can be called
abbrev pub call_parts : Scope → List ℕ → Option Profile → ℕ → Bool → At → List Part
call_parts sc x None given used at = []
call_parts sc x (Some p) given used at = part.call sc x p given used at ∷ []

-- the constants of a bit field, and the field
abbrev pub field_parts : Names → Constant → Constant → At → List Part
field_parts names start size at = part.constant names at start ∷ part.constant names at size ∷ part.field names start size at ∷ []

-- an argument's own parts: where a reference has to be, a label has none
abbrev pub own_parts : Names → Option Formal → Tree → List Part → List Part
own_parts names f e ps = if is_reference_formal f && is_label_name names e then [] else ps

-- an operator with its operands
abbrev pub operation_parts : Names → ℕ → Tree → Tree → At → List Part
operation_parts names op a b at =
    if works_on_bits op then part.bits names at a ∷ part.bits names at b ∷ [] else part.operation names op a b at ∷ []

abbrev mutual
  -- the parts of an expression, in a scope and in a part with this place
  pub expression_parts : Scope → At → Tree → List Part
  expression_parts sc around (tree.Tree.number v) = []
  expression_parts sc around (tree.Tree.wide v) = []
  expression_parts sc around (tree.Tree.text bytes) = part.text bytes around ∷ []
  expression_parts sc around (tree.Tree.truth b) = []
  expression_parts sc around (tree.Tree.named x es at) =
      part.name part.operand sc x (count es) at ∷ call_parts sc x (callable (sc.names x)) (count es) true at
      ++ (if is_callable (callable (sc.names x)) then arguments_parts sc (profile_formals (callable (sc.names x))) es at else indices_parts sc es at)
  expression_parts sc around (tree.Tree.address x es at) =
      part.name part.variable sc x (count es) at ∷ part.address sc x at ∷ indices_parts sc es at
  expression_parts sc around (tree.Tree.unary op e at) = expression_parts sc at e ++ (if op == complement then part.bits sc.names at e ∷ [] else [])
  -- a string behind a relation with BYTEs is no word, nor is one behind a relation with a name that is misused
  expression_parts sc around (tree.Tree.binary op a b at) =
      if compares_text sc.names op a b then expression_parts sc at a ++ part.far sc a ∷ []
      else if may_compare_text sc.names op a b then expression_parts sc at a
      else expression_parts sc at a ++ expression_parts sc at b ++ operation_parts sc.names op a b at
  expression_parts sc around (tree.Tree.shift op e by at) =
      expression_parts sc at e ++ part.shifted sc.names e at ∷ part.constant sc.names at by ∷ part.shift_count sc.names by at ∷ []
  expression_parts sc around (tree.Tree.field e start size at) =
      expression_parts sc at e ++ part.shifted sc.names e at ∷ field_parts sc.names start size at
  expression_parts sc around (tree.Tree.transfer k e at) = expression_parts sc at e
  expression_parts sc around (tree.Tree.bytes op a b size at) =
      reference_parts sc a ++ part.far sc a ∷ reference_parts sc b ++ part.far sc b ∷ part.compared sc.names a b at
      ∷ expression_parts sc at size ++ part.word sc.names at size ∷ []

  -- the parts of a reference
  pub reference_parts : Scope → Tree → List Part
  reference_parts sc (tree.Tree.named x es at) = part.name part.variable sc x (count es) at ∷ indices_parts sc es at
  reference_parts sc _ = []

  -- the parts of indices
  pub indices_parts : Scope → Trees → At → List Part
  indices_parts sc tree.Trees.none at = []
  indices_parts sc (tree.Trees.and e es) at = expression_parts sc at e ++ part.word sc.names at e ∷ indices_parts sc es at

  -- the parts of arguments, each with its parameter
  pub arguments_parts : Scope → List Formal → Trees → At → List Part
  arguments_parts sc fs tree.Trees.none at = []
  arguments_parts sc fs (tree.Trees.and e es) at =
      own_parts sc.names (first_formal fs) e (expression_parts sc at e) ++ part.argument sc.names (first_formal fs) e at
      ∷ arguments_parts sc (other_formals fs) es at
