-- A comparison with a string is LOGICAL.
use Rattle.std.proofs.Common.{◌≡◌, ℕ, Bool, true, false, ◌&&◌, if◌then◌else◌, nat_lt, nat_le, refl}
use Rattle.spl_tree.specs.declared.expressions.Kind.TheVariants as kind
use Rattle.spl_tree.specs.Trees.{Tree}
use Rattle.spl_sorts.specs.spl_meaning.Names.{Names}
use Rattle.spl_sorts.specs.spl_meaning.Kinds.{Operand, of, unknown, is_byte, is_long_text, reference_kind, compares_text, binary_operand, class_operand, class_of}
use Rattle.spl_sorts.specs.spl_meaning.ExpressionRules.{is_misused_name, rule_kind, may_compare_text}

by_relation : (low high byte long : Bool) (x : Operand) → (low && high && byte && long) ≡ true → of kind.Logical ≡ (if high then of kind.Logical else x)
by_relation low true byte long x h = refl
by_relation true false byte long x h = cc
by_relation false false byte long x h = cc

pub text_logical : (names : Names) (op : ℕ) (a b : Tree) → compares_text names op a b ≡ true
    → of kind.Logical ≡ binary_operand op (rule_kind names a) (rule_kind names b)
text_logical names op a b h =
    by_relation (nat_le 5 op) (nat_lt op 11) (is_byte (reference_kind names a)) (is_long_text b)
    (class_operand (class_of (rule_kind names a) (rule_kind names b))) h

-- so is one that may be meant, whatever the string is
same_relation : (low high misused long : Bool) (x y : Operand) → (low && high && misused && long) ≡ true
    → (if high then of kind.Logical else x) ≡ (if high then of kind.Logical else y)
same_relation low true misused long x y h = refl
same_relation true false misused long x y h = cc
same_relation false false misused long x y h = cc

pub may_be_logical : (names : Names) (op : ℕ) (a b : Tree) → may_compare_text names op a b ≡ true
    → binary_operand op (rule_kind names a) unknown ≡ binary_operand op (rule_kind names a) (rule_kind names b)
may_be_logical names op a b h =
    same_relation (nat_le 5 op) (nat_lt op 11) (is_misused_name names a) (is_long_text b)
    (class_operand (class_of (rule_kind names a) unknown)) (class_operand (class_of (rule_kind names a) (rule_kind names b))) h

pub ruleset texts = (text_logical, may_be_logical)
