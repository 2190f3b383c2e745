-- What is found along an expression is the first of its faults.
use Rattle.std.proofs.Common.{◌≡◌, ◌==◌, ◌&&◌, Bool, true, false, List, [], ◌++◌, Option, refl, ap, ◌∙◌}
use Rattle.std.specs.Prelude.{if◌then◌else◌}
use Rattle.spl_meaning.specs.spl_tree.declared.names_and_places.At.{At}
use Rattle.spl_meaning.specs.spl_tree.Trees as tree
use Rattle.spl_meaning.specs.spl_tree.Trees.{Tree, Trees}
use Rattle.spl_meaning.specs.Names.{Formal}
use Rattle.spl_meaning.specs.Kinds.{compares_text, callable, complement}
use Rattle.spl_meaning.specs.Pending.{first_formal, other_formals, profile_formals}
use Rattle.spl_meaning.specs.Faults.{Fault, unless, first_fault}
use Rattle.spl_meaning.specs.ExpressionRules.{Scope, rule_reference, may_compare_text, is_callable, is_reference_formal, is_label_name, argument_faults, bits_faults, single_faults, may_be_byte, far_faults, binary_faults, name_by, count, faults, located_faults, indices_faults, arguments_faults}
use Rattle.spl_found.specs.FoundExpressions.{found, found_located, found_far, found_indices, found_arguments}
use Rattle.spl_found.proofs.Order.{first_then}

-- a choice of lists of faults
pub chosen : (b : Bool) (f g h : Option Fault) (fs gs : List Fault) → g ≡ first_fault f fs → h ≡ first_fault f gs
    → (if b then g else h) ≡ first_fault f (if b then fs else gs)
chosen true f g h fs gs e k = e
chosen false f g h fs gs e k = k

mutual
  unfolding found

  pub found_is : (sc : Scope) (around : At) (e : Tree) (f : Option Fault) → found sc around e f ≡ first_fault f (faults sc around e)
  found_is sc around (tree.Tree.number v) f = refl
  found_is sc around (tree.Tree.wide v) f = refl
  found_is sc around (tree.Tree.text bytes) f = refl
  found_is sc around (tree.Tree.truth b) f = refl
  found_is sc around (tree.Tree.named x es at) f = chosen (is_callable (callable (sc.names x)))
      (first_fault f (name_by sc x (callable (sc.names x)) (count es) at)) _ _
      (arguments_faults sc (profile_formals (callable (sc.names x))) es at) (indices_faults sc es at)
      (arguments_is sc (profile_formals (callable (sc.names x))) es at _) (indices_is sc es at _) ∙ simp first_then refl
  found_is sc around (tree.Tree.address x es at) f = indices_is sc es at _ ∙ simp first_then refl
  found_is sc around (tree.Tree.unary op e at) f = chosen (op == complement) (found sc at e f) _ _ (bits_faults sc.names at e) [] refl refl
      ∙ ap (λ (g : Option Fault). first_fault g (if op == complement then bits_faults sc.names at e else [])) (found_is sc at e f) ∙ simp first_then refl
  found_is sc around (tree.Tree.binary op a b at) f = chosen (compares_text sc.names op a b) f _ _
      (faults sc at a ++ far_faults sc a)
      (if may_compare_text sc.names op a b then faults sc at a else faults sc at a ++ faults sc at b ++ binary_faults sc.names op a b at)
      (rw (found_is sc at a f) (simp first_then refl))
      (chosen (may_compare_text sc.names op a b) f _ _ (faults sc at a) (faults sc at a ++ faults sc at b ++ binary_faults sc.names op a b at)
      (found_is sc at a f)
      (rw (found_is sc at a f, found_is sc at b (first_fault f (faults sc at a))) (simp first_then refl)))
  found_is sc around (tree.Tree.shift op e by at) f = rw (found_is sc at e f) (simp first_then refl)
  found_is sc around (tree.Tree.field e start size at) f = rw (found_is sc at e f) (simp first_then refl)
  found_is sc around (tree.Tree.transfer k e at) f = found_is sc at e f
  found_is sc around (tree.Tree.bytes op a b size at) f =
      ap (λ (g : Option Fault). first_fault g (single_faults sc.names at size)) (found_is sc at size _)
      ∙ ap (λ (g : Option Fault). first_fault (first_fault (first_fault (first_fault g (far_faults sc b))
      (unless (may_be_byte (rule_reference sc.names a) && may_be_byte (rule_reference sc.names b)) 24 at)) (faults sc at size)) (single_faults sc.names at size))
      (located_is sc b _)
      ∙ ap (λ (g : Option Fault). first_fault (first_fault (first_fault (first_fault (first_fault (first_fault g (far_faults sc a)) (located_faults sc b)) (far_faults sc b))
      (unless (may_be_byte (rule_reference sc.names a) && may_be_byte (rule_reference sc.names b)) 24 at)) (faults sc at size)) (single_faults sc.names at size))
      (located_is sc a f)
      ∙ simp first_then refl

  pub located_is : (sc : Scope) (r : Tree) (f : Option Fault) → found_located sc r f ≡ first_fault f (located_faults sc r)
  located_is sc (tree.Tree.number v) f = refl
  located_is sc (tree.Tree.wide v) f = refl
  located_is sc (tree.Tree.text bytes) f = refl
  located_is sc (tree.Tree.truth b) f = refl
  located_is sc (tree.Tree.named x es at) f = indices_is sc es at _ ∙ simp first_then refl
  located_is sc (tree.Tree.address x es at) f = refl
  located_is sc (tree.Tree.unary op e at) f = refl
  located_is sc (tree.Tree.binary op a b at) f = refl
  located_is sc (tree.Tree.shift op e by at) f = refl
  located_is sc (tree.Tree.field e start size at) f = refl
  located_is sc (tree.Tree.transfer k e at) f = refl
  located_is sc (tree.Tree.bytes op a b size at) f = refl

  pub indices_is : (sc : Scope) (es : Trees) (at : At) (f : Option Fault) → found_indices sc es at f ≡ first_fault f (indices_faults sc es at)
  indices_is sc tree.Trees.none at f = refl
  indices_is sc (tree.Trees.and e es) at f = indices_is sc es at _
      ∙ ap (λ (g : Option Fault). first_fault (first_fault g (single_faults sc.names at e)) (indices_faults sc es at)) (found_is sc at e f)
      ∙ simp first_then refl

  pub arguments_is : (sc : Scope) (fs : List Formal) (es : Trees) (at : At) (f : Option Fault)
      → found_arguments sc fs es at f ≡ first_fault f (arguments_faults sc fs es at)
  arguments_is sc fs tree.Trees.none at f = refl
  arguments_is sc fs (tree.Trees.and e es) at f = arguments_is sc (other_formals fs) es at _
      ∙ ap (λ (g : Option Fault). first_fault (first_fault g (argument_faults sc.names (first_formal fs) e at)) (arguments_faults sc (other_formals fs) es at))
      (chosen (is_reference_formal (first_formal fs) && is_label_name sc.names e) f _ _ [] (faults sc at e) refl (found_is sc at e f))
      ∙ simp first_then refl

-- a reference of a MOVE, a SCAN or a comparison of bytes
pub far_is : (sc : Scope) (r : Tree) (f : Option Fault) → found_far sc r f ≡ first_fault f (located_faults sc r ++ far_faults sc r)
far_is sc r f = ap (λ (g : Option Fault). first_fault g (far_faults sc r)) (located_is sc r f) ∙ simp first_then refl
