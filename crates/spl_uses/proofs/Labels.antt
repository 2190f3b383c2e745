-- A label has no kind.
use Rattle.std.proofs.Common.{◌≡◌, ℕ, true, Option, Some, None, refl, sym}
use Rattle.spl_tree.specs.Trees as tree
use Rattle.spl_tree.specs.Trees.{Tree}
use Rattle.spl_sorts.specs.spl_meaning.Names as n
use Rattle.spl_sorts.specs.spl_meaning.Names.{Names, Sort}
use Rattle.spl_sorts.specs.spl_meaning.Kinds.{unknown}
use Rattle.spl_sorts.specs.spl_meaning.ExpressionRules.{count, is_misused, rule_operand, rule_kind, is_label, is_label_name}

unkinded : (s : Option Sort) (given : ℕ) → is_label s ≡ true → rule_operand s given ≡ unknown
unfolding is_misused
unkinded (Some n.label) given h = refl
unkinded None given h = refl
unkinded (Some (n.simple k own)) given h = cc
unkinded (Some (n.array k own low high)) given h = cc
unkinded (Some (n.view k own base)) given h = cc
unkinded (Some (n.pointer k own)) given h = cc
unkinded (Some (n.value k)) given h = cc
unkinded (Some (n.by_reference k)) given h = cc
unkinded (Some (n.array_parameter k)) given h = cc
unkinded (Some (n.equate v)) given h = cc
unkinded (Some (n.intrinsic i)) given h = cc
unkinded (Some (n.procedure p)) given h = cc
unkinded (Some (n.subroutine p)) given h = cc
unkinded (Some n.unknown) given h = refl

pub label_unknown : (names : Names) (e : Tree) → is_label_name names e ≡ true → unknown ≡ rule_kind names e
label_unknown names (tree.Tree.named x es at) h = sym (unkinded (names x) (count es) h)
label_unknown names (tree.Tree.number v) h = cc
label_unknown names (tree.Tree.wide v) h = cc
label_unknown names (tree.Tree.text bytes) h = cc
label_unknown names (tree.Tree.truth b) h = cc
label_unknown names (tree.Tree.address x es at) h = cc
label_unknown names (tree.Tree.unary op e at) h = cc
label_unknown names (tree.Tree.binary op a b at) h = cc
label_unknown names (tree.Tree.shift op e by at) h = cc
label_unknown names (tree.Tree.field e start size at) h = cc
label_unknown names (tree.Tree.transfer k e at) h = cc
label_unknown names (tree.Tree.bytes op a b size at) h = cc

pub ruleset labels = label_unknown
