-- Where an expression breaks no rule, the kind that rules go by is its kind.
-- 1. names            (name_right, same_reference)
-- 2. operators        (operand_right, told_apart)
-- 3. expressions      (same_kind)
-- 4. what follows     (same_located, others_none)
use Rattle.std.proofs.Common.{ℕ, ◌≡◌, ◌==◌, ◌&&◌, not, nat_lt, nat_le, Bool, true, false, if◌then◌else◌, List, [], ◌∷◌, ◌++◌, Option, Some, None, refl, sym, ap, subst, ◌∙◌}
use Rattle.std.proofs.lemmas.Bool.{and_parts}
use Rattle.spl_tree.specs.declared.names_and_places.At.{At}
use Rattle.spl_tree.specs.declared.expressions.Kind.{Kind}
use Rattle.spl_tree.specs.declared.expressions.Kind.TheVariants as kind
use Rattle.spl_tree.specs.Trees as tree
use Rattle.spl_tree.specs.Trees.{Tree}
use Rattle.spl_meaning.specs.Names as n
use Rattle.spl_meaning.specs.Names.{Sort}
use Rattle.spl_meaning.specs.Kinds.{Operand, of, unknown, is_byte, is_long_text, is_relation, gives_logical, class_of, class_operand, unary_operand, binary_operand, named_operand, kind_of, variable_kind, reference_kind, compares_text, callable}
use Rattle.spl_meaning.specs.Faults.{Fault, fault, unless}
use Rattle.spl_meaning.specs.ExpressionRules.{Scope, count, index_fits, is_misused, is_misused_name, rule_kind, rule_reference, may_compare_text, split_use, variable_by, variable_faults, uncalled_by, name_by, binary_faults, far_faults, faults, located_faults, indices_faults}

-- ---- lists of faults

first_none : (fs gs : List Fault) → fs ++ gs ≡ [] → fs ≡ []
first_none [] gs none = refl
first_none (f ∷ fs) gs none = cc

later_none : (fs gs : List Fault) → fs ++ gs ≡ [] → gs ≡ []
later_none [] gs none = none
later_none (f ∷ fs) gs none = cc

kept : (b : Bool) (rule : ℕ) (at : At) → unless b rule at ≡ [] → not b ≡ false
kept true rule at none = refl
kept false rule at none = cc

none_told : {A : Type 0} (f : Fault) (fs : List Fault) → f ∷ fs ≡ [] → A
none_told f fs none = cc

-- ---- 1. names

-- a variable
pub variable_right : (sc : Scope) (x : List ℕ) (o : Option Sort) (given : ℕ) (at : At) → variable_by sc x (variable_kind o) o given at ≡ []
    → is_misused o given ≡ false
unfolding is_misused
variable_right sc x None given at none = none_told (fault 1 at) [] none
variable_right sc x (Some n.unknown) given at none = refl
variable_right sc x (Some n.label) given at none = none_told (fault 3 at) [] none
variable_right sc x (Some (n.intrinsic i)) given at none = refl
variable_right sc x (Some (n.procedure p)) given at none = refl
variable_right sc x (Some (n.subroutine p)) given at none = refl
variable_right sc x (Some (n.equate v)) given at none = none_told (fault 3 at) [] none
variable_right sc x (Some (n.simple k own)) given at none = kept (index_fits (Some (n.simple k own)) given) 3 at (first_none _ (split_use sc x at) none)
variable_right sc x (Some (n.value k)) given at none = kept (index_fits (Some (n.value k)) given) 3 at (first_none _ (split_use sc x at) none)
variable_right sc x (Some (n.by_reference k)) given at none = kept (index_fits (Some (n.by_reference k)) given) 3 at (first_none _ (split_use sc x at) none)
variable_right sc x (Some (n.array k own low high)) given at none =
    kept (index_fits (Some (n.array k own low high)) given) 3 at (first_none _ (split_use sc x at) none)
variable_right sc x (Some (n.view k own base)) given at none = kept (index_fits (Some (n.view k own base)) given) 3 at (first_none _ (split_use sc x at) none)
variable_right sc x (Some (n.pointer k own)) given at none = kept (index_fits (Some (n.pointer k own)) given) 3 at (first_none _ (split_use sc x at) none)
variable_right sc x (Some (n.array_parameter k)) given at none =
    kept (index_fits (Some (n.array_parameter k)) given) 3 at (first_none _ (split_use sc x at) none)

-- a name in an expression
name_right : (sc : Scope) (x : List ℕ) (o : Option Sort) (given : ℕ) (at : At) → sc.names x ≡ o → name_by sc x (callable o) given at ≡ []
    → is_misused o given ≡ false
unfolding is_misused
name_right sc x o given at is none = by o is none
  where
    uncalled : (o : Option Sort) → sc.names x ≡ o → uncalled_by sc x (sc.names x) given at ≡ [] → uncalled_by sc x o given at ≡ []
    uncalled o is none = subst (λ q. uncalled_by sc x q given at ≡ []) is none

    -- what is no EQUATE name
    other : (o : Option Sort) → sc.names x ≡ o → variable_faults sc x given at ≡ [] → is_misused o given ≡ false
    other o is none = variable_right sc x o given at (subst (λ q. variable_by sc x (variable_kind q) q given at ≡ []) is none)

    by : (o : Option Sort) → sc.names x ≡ o → name_by sc x (callable o) given at ≡ [] → is_misused o given ≡ false
    by None is none = other None is (uncalled None is none)
    by (Some n.unknown) is none = refl
    by (Some n.label) is none = other (Some n.label) is (uncalled (Some n.label) is none)
    by (Some (n.intrinsic i)) is none = refl
    by (Some (n.procedure p)) is none = refl
    by (Some (n.subroutine p)) is none = refl
    by (Some (n.equate v)) is none = kept (given == 0) 3 at (uncalled (Some (n.equate v)) is none)
    by (Some (n.simple k own)) is none = other (Some (n.simple k own)) is (uncalled (Some (n.simple k own)) is none)
    by (Some (n.value k)) is none = other (Some (n.value k)) is (uncalled (Some (n.value k)) is none)
    by (Some (n.by_reference k)) is none = other (Some (n.by_reference k)) is (uncalled (Some (n.by_reference k)) is none)
    by (Some (n.array k own low high)) is none = other (Some (n.array k own low high)) is (uncalled (Some (n.array k own low high)) is none)
    by (Some (n.view k own base)) is none = other (Some (n.view k own base)) is (uncalled (Some (n.view k own base)) is none)
    by (Some (n.pointer k own)) is none = other (Some (n.pointer k own)) is (uncalled (Some (n.pointer k own)) is none)
    by (Some (n.array_parameter k)) is none = other (Some (n.array_parameter k)) is (uncalled (Some (n.array_parameter k)) is none)

-- what is not misused is what it is
plain_operand : (b : Bool) (p q : Operand) → b ≡ false → (if b then p else q) ≡ q
plain_operand false p q is = refl
plain_operand true p q is = cc

plain_kind : (b : Bool) (p q : Option Kind) → b ≡ false → (if b then p else q) ≡ q
plain_kind false p q is = refl
plain_kind true p q is = cc

-- a reference that breaks no rule by its name
pub same_reference : (sc : Scope) (x : List ℕ) (es : tree.Trees) (a at : At) → variable_faults sc x (count es) at ≡ []
    → rule_reference sc.names (tree.Tree.named x es a) ≡ reference_kind sc.names (tree.Tree.named x es a)
same_reference sc x es a at none =
    plain_kind (is_misused (sc.names x) (count es)) None (variable_kind (sc.names x)) (variable_right sc x (sc.names x) (count es) at none)

-- ---- 2. operators

-- a relation gives a LOGICAL
relation_gives : (op : ℕ) (p q : Operand) → is_relation op ≡ true → binary_operand op p q ≡ of kind.Logical
relation_gives op p q is = by (gives_logical op) (and_parts (nat_le 5 op) (nat_lt op 11) is).1
  where
    by : (b : Bool) → b ≡ true → (if b then of kind.Logical else class_operand (class_of p q)) ≡ of kind.Logical
    by true is = refl
    by false is = cc

-- what may compare bytes is a relation
may_relation : (names : n.Names) (op : ℕ) (a b : Tree) → may_compare_text names op a b ≡ true → is_relation op ≡ true
may_relation names op a b is = (and_parts (is_relation op) (is_misused_name names a) (and_parts _ (is_long_text b) is).0).0

-- an operand that breaks no rule is no misused name
operand_right : (sc : Scope) (around : At) (a : Tree) → faults sc around a ≡ [] → is_misused_name sc.names a ≡ false
operand_right sc around (tree.Tree.named x es at) none =
    name_right sc x (sc.names x) (count es) at refl (first_none (name_by sc x (callable (sc.names x)) (count es) at) _ none)
operand_right sc around (tree.Tree.number v) none = refl
operand_right sc around (tree.Tree.wide v) none = refl
operand_right sc around (tree.Tree.text bytes) none = refl
operand_right sc around (tree.Tree.truth t) none = refl
operand_right sc around (tree.Tree.address x es at) none = refl
operand_right sc around (tree.Tree.unary o e at) none = refl
operand_right sc around (tree.Tree.binary o c d at) none = refl
operand_right sc around (tree.Tree.shift o e by at) none = refl
operand_right sc around (tree.Tree.field e start size at) none = refl
operand_right sc around (tree.Tree.transfer k e at) none = refl
operand_right sc around (tree.Tree.bytes o c d size at) none = refl

told_apart : (sc : Scope) (around : At) (op : ℕ) (a b : Tree) → faults sc around a ≡ [] → may_compare_text sc.names op a b ≡ false
told_apart sc around op a b none = by (is_relation op) (is_misused_name sc.names a) (is_long_text b) (operand_right sc around a none)
  where
    by : (r m t : Bool) → m ≡ false → (r && m && t) ≡ false
    by true false t is = refl
    by false m t is = refl
    by true true t is = cc

-- ---- 3. expressions

pub same_kind : (sc : Scope) (around : At) (e : Tree) → faults sc around e ≡ [] → rule_kind sc.names e ≡ kind_of sc.names e
same_kind sc around (tree.Tree.number v) none = refl
same_kind sc around (tree.Tree.wide v) none = refl
same_kind sc around (tree.Tree.text bytes) none = refl
same_kind sc around (tree.Tree.truth b) none = refl
same_kind sc around (tree.Tree.named x es at) none =
    plain_operand (is_misused (sc.names x) (count es)) unknown (named_operand (sc.names x))
    (name_right sc x (sc.names x) (count es) at refl (first_none (name_by sc x (callable (sc.names x)) (count es) at) _ none))
same_kind sc around (tree.Tree.address x es at) none = refl
same_kind sc around (tree.Tree.unary op e at) none =
    ap (λ (p : Operand). unary_operand op p) (same_kind sc at e (first_none (faults sc at e) _ none))
same_kind sc around (tree.Tree.binary op a b at) none =
    by (compares_text sc.names op a b) (may_compare_text sc.names op a b) refl refl none (λ is. same_kind sc at a is) (λ is. same_kind sc at b is)
  where
    logical : is_relation op ≡ true → binary_operand op (rule_kind sc.names a) (rule_kind sc.names b) ≡ binary_operand op (kind_of sc.names a) (kind_of sc.names b)
    logical is =
        relation_gives op (rule_kind sc.names a) (rule_kind sc.names b) is ∙ sym (relation_gives op (kind_of sc.names a) (kind_of sc.names b) is)

    by : (t m : Bool) → compares_text sc.names op a b ≡ t → may_compare_text sc.names op a b ≡ m
        → (if t then faults sc at a ++ far_faults sc a
        else if m then faults sc at a else faults sc at a ++ faults sc at b ++ binary_faults sc.names op a b at) ≡ []
        → (faults sc at a ≡ [] → rule_kind sc.names a ≡ kind_of sc.names a) → (faults sc at b ≡ [] → rule_kind sc.names b ≡ kind_of sc.names b)
        → binary_operand op (rule_kind sc.names a) (rule_kind sc.names b) ≡ binary_operand op (kind_of sc.names a) (kind_of sc.names b)
    by true m is may none first second =
        logical (and_parts (is_relation op) (is_byte (reference_kind sc.names a)) (and_parts _ (is_long_text b) is).0).0
    by false true is may none first second = logical (may_relation sc.names op a b may)
    by false false is may none first second =
        let both = first_none (faults sc at a ++ faults sc at b) (binary_faults sc.names op a b at) none in
        ap (λ (p : Operand). binary_operand op p (rule_kind sc.names b)) (first (first_none (faults sc at a) (faults sc at b) both))
        ∙ ap (λ (p : Operand). binary_operand op (kind_of sc.names a) p) (second (later_none (faults sc at a) (faults sc at b) both))
same_kind sc around (tree.Tree.shift op e by at) none = refl
same_kind sc around (tree.Tree.field e start size at) none = refl
same_kind sc around (tree.Tree.transfer k e at) none = refl
same_kind sc around (tree.Tree.bytes op a b size at) none = refl

-- ---- 4. what follows

-- a reference that breaks no rule
pub same_located : (sc : Scope) (r : Tree) → located_faults sc r ≡ [] → rule_reference sc.names r ≡ reference_kind sc.names r
same_located sc (tree.Tree.named x es at) none =
    same_reference sc x es at at (first_none (variable_faults sc x (count es) at) (indices_faults sc es at) none)
same_located sc (tree.Tree.number v) none = refl
same_located sc (tree.Tree.wide v) none = refl
same_located sc (tree.Tree.text bytes) none = refl
same_located sc (tree.Tree.truth t) none = refl
same_located sc (tree.Tree.address x es at) none = refl
same_located sc (tree.Tree.unary o e at) none = refl
same_located sc (tree.Tree.binary o c d at) none = refl
same_located sc (tree.Tree.shift o e by at) none = refl
same_located sc (tree.Tree.field e start size at) none = refl
same_located sc (tree.Tree.transfer k e at) none = refl
same_located sc (tree.Tree.bytes o c d size at) none = refl

-- where an operand may compare bytes it breaks a rule, so nothing else is left out
pub others_none : (sc : Scope) (around : At) (op : ℕ) (a b : Tree) (others : List Fault)
    → (if may_compare_text sc.names op a b then faults sc around a else others) ≡ [] → others ≡ []
others_none sc around op a b others none = by (may_compare_text sc.names op a b) refl none
  where
    by : (m : Bool) → may_compare_text sc.names op a b ≡ m → (if m then faults sc around a else others) ≡ [] → others ≡ []
    by false is none = none
    by true is none = false≡true (sym (told_apart sc around op a b none) ∙ is)
      where
        false≡true : false ≡ true → others ≡ []
        false≡true is = cc
