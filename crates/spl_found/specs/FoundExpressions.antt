-- The first broken rule of an expression, as it is found along the tree: the first fault behind a part, where this was the first before it.
use Rattle.std.specs.Prelude.{ℕ, ◌==◌, ◌&&◌, ◌||◌, not, pos, if◌then◌else◌, List, Option, is_some}
use Rattle.spl_meaning.specs.spl_tree.declared.names_and_places.At.{At}
use Rattle.spl_meaning.specs.spl_tree.Trees as tree
use Rattle.spl_meaning.specs.spl_tree.Trees.{Tree, Trees}
use Rattle.spl_meaning.specs.Names.{Formal, text_value, constant_value}
use Rattle.spl_meaning.specs.Kinds.{is_double, compares_text, callable, complement}
use Rattle.spl_meaning.specs.Pending.{first_formal, other_formals, profile_formals}
use Rattle.spl_meaning.specs.Faults.{Fault, unless, first_fault}
use Rattle.spl_meaning.specs.ExpressionRules.{Scope, rule_kind, rule_reference, may_compare_text, in_range, constant_place, constant_faults, field_faults, is_pointer, count, variable_faults, name_by, is_callable, single_faults, bits_faults, is_reference_formal, is_label_name, argument_faults, far_faults, may_be_byte, binary_faults}

unfoldable mutual
  -- an expression, in a scope and in a part with this place
  pub found : Scope → At → Tree → Option Fault → Option Fault
  found sc around (tree.Tree.number v) f = f
  found sc around (tree.Tree.wide v) f = f
  found sc around (tree.Tree.text bytes) f = first_fault f (unless (is_some (text_value bytes)) 14 around)
  found sc around (tree.Tree.truth b) f = f
  found sc around (tree.Tree.named x es at) f =
      if is_callable (callable (sc.names x))
      then found_arguments sc (profile_formals (callable (sc.names x))) es at (first_fault f (name_by sc x (callable (sc.names x)) (count es) at))
      else found_indices sc es at (first_fault f (name_by sc x (callable (sc.names x)) (count es) at))
  found sc around (tree.Tree.address x es at) f =
      found_indices sc es at (first_fault (first_fault f (variable_faults sc x (count es) at)) (unless (not sc.split || is_pointer (sc.names x)) 27 at))
  found sc around (tree.Tree.unary op e at) f =
      if op == complement then first_fault (found sc at e f) (bits_faults sc.names at e) else found sc at e f
  found sc around (tree.Tree.binary op a b at) f =
      if compares_text sc.names op a b then first_fault (found sc at a f) (far_faults sc a)
      else if may_compare_text sc.names op a b then found sc at a f
      else first_fault (found sc at b (found sc at a f)) (binary_faults sc.names op a b at)
  found sc around (tree.Tree.shift op e by at) f =
      first_fault (first_fault (first_fault (found sc at e f) (unless (not (is_double (rule_kind sc.names e))) 5 at)) (constant_faults sc.names at by))
      (unless (in_range (pos 0) (pos 15) (constant_value sc.names by)) 13 (constant_place at by))
  found sc around (tree.Tree.field e start size at) f =
      first_fault (first_fault (found sc at e f) (unless (not (is_double (rule_kind sc.names e))) 5 at)) (field_faults sc.names start size at)
  found sc around (tree.Tree.transfer k e at) f = found sc at e f
  found sc around (tree.Tree.bytes op a b size at) f =
      first_fault (found sc at size (first_fault (first_fault (found_located sc b (first_fault (found_located sc a f) (far_faults sc a))) (far_faults sc b))
      (unless (may_be_byte (rule_reference sc.names a) && may_be_byte (rule_reference sc.names b)) 24 at))) (single_faults sc.names at size)

  -- a reference
  pub found_located : Scope → Tree → Option Fault → Option Fault
  found_located sc (tree.Tree.named x es at) f = found_indices sc es at (first_fault f (variable_faults sc x (count es) at))
  found_located sc _ f = f

  -- indices in order
  pub found_indices : Scope → Trees → At → Option Fault → Option Fault
  found_indices sc tree.Trees.none at f = f
  found_indices sc (tree.Trees.and e es) at f = found_indices sc es at (first_fault (found sc at e f) (single_faults sc.names at e))

  -- arguments in order, each with its parameter
  pub found_arguments : Scope → List Formal → Trees → At → Option Fault → Option Fault
  found_arguments sc fs tree.Trees.none at f = f
  found_arguments sc fs (tree.Trees.and e es) at f =
      found_arguments sc (other_formals fs) es at (first_fault
      (if is_reference_formal (first_formal fs) && is_label_name sc.names e then f else found sc at e f) (argument_faults sc.names (first_formal fs) e at))

-- what stands behind a name: arguments of what is called, else indices
abbrev pub found_behind : Scope → List ℕ → Trees → At → Option Fault → Option Fault
found_behind sc x es at f =
    if is_callable (callable (sc.names x)) then found_arguments sc (profile_formals (callable (sc.names x))) es at f else found_indices sc es at f

-- a reference of a MOVE, a SCAN or a comparison of bytes
abbrev pub found_far : Scope → Tree → Option Fault → Option Fault
found_far sc r f = first_fault (found_located sc r f) (far_faults sc r)

-- an argument by itself: where a reference has to be, a label is only that
abbrev pub found_own : Scope → Option Formal → Tree → At → Option Fault → Option Fault
found_own sc p e at f = if is_reference_formal p && is_label_name sc.names e then f else found sc at e f
