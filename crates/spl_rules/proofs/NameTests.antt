-- The tests of a name in each role are its faults there.
use Rattle.std.proofs.Common.{ℕ, ◌≡◌, true, false, List, [], ◌∷◌, ◌++◌, Option, Some, None, refl, sym, ap, ◌∙◌}
use Rattle.std.proofs.lemmas.List.{append-nil}
use Rattle.spl_meaning.specs.spl_tree.declared.names_and_places.At.{At}
use Rattle.spl_meaning.specs.spl_tree.declared.expressions.Kind.TheVariants as kind
use Rattle.spl_meaning.specs.Names as n
use Rattle.spl_meaning.specs.Names.{Sort}
use Rattle.spl_meaning.specs.Kinds.{variable_kind, callable}
use Rattle.spl_meaning.specs.Faults.{fault}
use Rattle.spl_meaning.specs.ExpressionRules.{Scope, has_elements, variable_by, uncalled_by, name_by}
use Rattle.spl_meaning.specs.StatementRules.{target_by, pointer_faults, counter_by, called_by}
use Rattle.spl_rules.specs.Parts as part
use Rattle.spl_rules.specs.ExpressionParts.{call_parts}
use Rattle.spl_rules.proofs.Here.{name_tests, gather}

pub variable_is : (sc : Scope) (x : List ℕ) (s : Option Sort) (given : ℕ) (at : At)
    → variable_by sc x (variable_kind s) s given at ≡ name_tests part.variable sc x s given at
variable_is sc x None given at = refl
variable_is sc x (Some (n.simple k own)) given at = refl
variable_is sc x (Some (n.array k own low high)) given at = refl
variable_is sc x (Some (n.view k own base)) given at = refl
variable_is sc x (Some (n.pointer k own)) given at = refl
variable_is sc x (Some (n.value k)) given at = refl
variable_is sc x (Some (n.by_reference k)) given at = refl
variable_is sc x (Some (n.array_parameter k)) given at = refl
variable_is sc x (Some (n.equate v)) given at = refl
variable_is sc x (Some n.label) given at = refl
variable_is sc x (Some (n.intrinsic i)) given at = refl
variable_is sc x (Some (n.procedure p)) given at = refl
variable_is sc x (Some (n.subroutine p)) given at = refl
variable_is sc x (Some n.unknown) given at = refl

-- a variable in another role that names nothing else
same_variable : (sc : Scope) (x : List ℕ) (s : Option Sort) (given : ℕ) (at : At) → s ≡ sc.names x
    → variable_by sc x (variable_kind (sc.names x)) (sc.names x) given at ≡ name_tests part.variable sc x s given at
same_variable sc x s given at e =
    ap (λ (t : Option Sort). variable_by sc x (variable_kind t) t given at) (sym e) ∙ variable_is sc x s given at

pub operand_is : (sc : Scope) (x : List ℕ) (s : Option Sort) (given : ℕ) (at : At) → s ≡ sc.names x
    → name_by sc x (callable s) given at ≡ name_tests part.operand sc x s given at ++ gather (call_parts sc x (callable s) given true at)
operand_is sc x s given at e = by s e ∙ ap (λ l. name_tests part.operand sc x s given at ++ l) (called s)
  where
    called : (s : Option Sort) → gather (call_parts sc x (callable s) given true at) ≡ gather (call_parts sc x (callable s) given true at)
    called s = refl

    by : (s : Option Sort) → s ≡ sc.names x
        → name_by sc x (callable s) given at ≡ name_tests part.operand sc x s given at ++ gather (call_parts sc x (callable s) given true at)
    by (Some (n.intrinsic i)) e = sym (append-nil _)
    by (Some (n.procedure p)) e = sym (append-nil _)
    by (Some (n.subroutine p)) e = sym (append-nil _)
    by (Some (n.equate v)) e = ap (λ (t : Option Sort). uncalled_by sc x t given at) (sym e) ∙ sym (append-nil _) ∙ sym (append-nil _)
    by None e = ap (λ (t : Option Sort). uncalled_by sc x t given at) (sym e) ∙ same_variable sc x None given at e ∙ sym (append-nil _)
    by (Some s) e = ap (λ (t : Option Sort). uncalled_by sc x t given at) (sym e) ∙ same_variable sc x (Some s) given at e ∙ sym (append-nil _)

pub target_is : (sc : Scope) (x : List ℕ) (s : Option Sort) (given : ℕ) (at : At) → s ≡ sc.names x
    → target_by sc x s given at ≡ name_tests part.target sc x s given at
target_is sc x (Some (n.procedure p)) given at e = sym (append-nil _)
target_is sc x (Some (n.subroutine p)) given at e = sym (append-nil _)
target_is sc x None given at e = same_variable sc x None given at e
target_is sc x (Some s) given at e = same_variable sc x (Some s) given at e

pub pointer_is : (sc : Scope) (x : List ℕ) (s : Option Sort) (at : At) → pointer_faults sc x s at ≡ name_tests part.pointer sc x s 0 at
pointer_is sc x None at = refl
pointer_is sc x (Some (n.pointer k own)) at = refl
pointer_is sc x (Some n.unknown) at = refl
pointer_is sc x (Some s) at = refl

pub counter_is : (sc : Scope) (x : List ℕ) (s : Option Sort) (at : At) → counter_by sc x s at ≡ name_tests part.counter sc x s 0 at
counter_is sc x None at = refl
counter_is sc x (Some (n.simple kind.Integer own)) at = refl
counter_is sc x (Some (n.simple kind.Logical own)) at = refl
counter_is sc x (Some (n.simple kind.Byte own)) at = refl
counter_is sc x (Some (n.simple kind.Double own)) at = refl
counter_is sc x (Some (n.value kind.Integer)) at = refl
counter_is sc x (Some (n.value kind.Logical)) at = refl
counter_is sc x (Some (n.value kind.Byte)) at = refl
counter_is sc x (Some (n.value kind.Double)) at = refl
counter_is sc x (Some (n.by_reference kind.Integer)) at = refl
counter_is sc x (Some (n.by_reference kind.Logical)) at = refl
counter_is sc x (Some (n.by_reference kind.Byte)) at = refl
counter_is sc x (Some (n.by_reference kind.Double)) at = refl
counter_is sc x (Some s) at = refl

pub callee_is : (sc : Scope) (x : List ℕ) (s : Option Sort) (given : ℕ) (at : At) → s ≡ sc.names x
    → called_by sc (callable s) s given at ≡ name_tests part.callee sc x s given at ++ gather (call_parts sc x (callable s) given false at)
callee_is sc x s given at e = by s e
  where
    by : (s : Option Sort) → s ≡ sc.names x
        → called_by sc (callable s) s given at ≡ name_tests part.callee sc x s given at ++ gather (call_parts sc x (callable s) given false at)
    by (Some (n.intrinsic i)) e = ap (λ t. called_by sc (callable (Some (n.intrinsic i))) t given at) e ∙ sym (append-nil _)
    by (Some (n.procedure p)) e = ap (λ t. called_by sc (callable (Some (n.procedure p))) t given at) e ∙ sym (append-nil _)
    by (Some (n.subroutine p)) e = ap (λ t. called_by sc (callable (Some (n.subroutine p))) t given at) e ∙ sym (append-nil _)
    by None e = refl
    by (Some s) e = refl

-- ---- what takes an answer

pub answer_of_elements : (sc : Scope) (x : List ℕ) (s : Option Sort) (given : ℕ) (at : At) → has_elements s ≡ true
    → name_tests part.answer sc x s given at ≡ fault 3 at ∷ []
answer_of_elements sc x None given at e = cc
answer_of_elements sc x (Some (n.array k own low high)) given at e = refl
answer_of_elements sc x (Some (n.view k own base)) given at e = refl
answer_of_elements sc x (Some (n.pointer k own)) given at e = refl
answer_of_elements sc x (Some (n.array_parameter k)) given at e = refl
answer_of_elements sc x (Some s) given at e = cc

pub answer_is : (sc : Scope) (x : List ℕ) (s : Option Sort) (given : ℕ) (at : At) → has_elements s ≡ false
    → name_tests part.target sc x s given at ≡ name_tests part.answer sc x s given at
answer_is sc x None given at e = refl
answer_is sc x (Some (n.array k own low high)) given at e = cc
answer_is sc x (Some (n.view k own base)) given at e = cc
answer_is sc x (Some (n.pointer k own)) given at e = cc
answer_is sc x (Some (n.array_parameter k)) given at e = cc
answer_is sc x (Some s) given at e = refl
