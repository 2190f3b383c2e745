-- A name in an expression: its own faults, and those behind it; whether it is misused, and its kind.
use Rattle.std.proofs.Common.{◌≡◌, ℕ, List, map, length, Option, refl, ap, sym, ◌∙◌, Vec, Global}
use Rattle.spl_tree.specs.declared.names_and_places.Name.{Name}
use Rattle.spl_tree.specs.declared.names_and_places.At.{At}
use Rattle.spl_tree.specs.declared.expressions.Expr.{Expr}
use Rattle.spl_tree.specs.declared.expressions.Expr as expr
use Rattle.spl_tree.specs.declared.expressions.Expr.TheVariants.{rolls-Named}
use Rattle.spl_tree.specs.declared.expressions.Expr.TheFolds.{fold-roll-Expr}
use Rattle.spl_tree.specs.Trees as tree
use Rattle.spl_tree.specs.Trees.{Tree, Trees, trees}
use Rattle.spl_tree.specs.Views.{letters, expression, expression_step, reference_step}
use Rattle.spl_sorts.specs.spl_meaning.Faults.{Fault, first_fault}
use Rattle.spl_sorts.specs.spl_meaning.Names.{Names}
use Rattle.spl_sorts.specs.spl_meaning.Kinds.{Operand, callable}
use Rattle.spl_sorts.specs.spl_meaning.ExpressionRules.{Scope, count, is_misused, is_misused_name, rule_operand, rule_kind, name_by}
use Rattle.spl_found.specs.FoundExpressions.{found, found_behind}
use Rattle.spl_uses.proofs.Counts.{count_trees}

named_tree : (x : Name) (args : Vec Expr Global) (at : At) → expression (expr.Named x args at) ≡ tree.Tree.named (letters x) (trees (map expression args.items)) at
named_tree x args at = ap expression (sym (rolls-Named x args at)) ∙ fold-roll-Expr Tree Tree expression_step reference_step _

turn : (sc : Scope) (around : At) (x : List ℕ) (es : Trees) (at : At) (f : Option Fault)
    → found_behind sc x es at (first_fault f (name_by sc x (callable (sc.names x)) (count es) at)) ≡ found sc around (tree.Tree.named x es at) f
turn sc around x es at f = unfold found in refl

pub named_found : (sc : Scope) (around : At) (x : Name) (args : Vec Expr Global) (at : At) (e : Expr) (n : ℕ) (es : List Expr) (f g h : Option Fault)
    → e ≡ expr.Named x args at → n ≡ length args.items → es ≡ args.items
    → g ≡ first_fault f (name_by sc (letters x) (callable (sc.names (letters x))) n at)
    → h ≡ found_behind sc (letters x) (trees (map expression es)) at g → h ≡ found sc around (expression e) f
named_found sc around x args at e n es f g h is few same first rest =
    rest ∙ ap (λ (l : List Expr). found_behind sc (letters x) (trees (map expression l)) at g) same
    ∙ ap (λ (o : Option Fault). found_behind sc (letters x) (trees (map expression args.items)) at o)
    (first ∙ ap (λ (k : ℕ). first_fault f (name_by sc (letters x) (callable (sc.names (letters x))) k at)) (few ∙ sym (count_trees expression args.items)))
    ∙ turn sc around (letters x) (trees (map expression args.items)) at f
    ∙ ap (λ (t : Tree). found sc around t f) (sym (ap expression is ∙ named_tree x args at))

-- so many arguments are listed
listed : (x : Name) (args : Vec Expr Global) (n : ℕ) → n ≡ length args.items → n ≡ count (trees (map expression args.items))
listed x args n few = few ∙ sym (count_trees expression args.items)

pub misused_named : (names : Names) (x : Name) (args : Vec Expr Global) (at : At) (e : Expr) (n : ℕ) → e ≡ expr.Named x args at → n ≡ length args.items
    → is_misused (names (letters x)) n ≡ is_misused_name names (expression e)
misused_named names x args at e n is few =
    ap (λ (k : ℕ). is_misused (names (letters x)) k) (listed x args n few)
    ∙ ap (λ (t : Tree). is_misused_name names t) (sym (ap expression is ∙ named_tree x args at))

pub named_kind : (names : Names) (x : Name) (args : Vec Expr Global) (at : At) (e : Expr) (n : ℕ) (o : Operand) → e ≡ expr.Named x args at
    → n ≡ length args.items → o ≡ rule_operand (names (letters x)) n → o ≡ rule_kind names (expression e)
named_kind names x args at e n o is few kind =
    kind ∙ ap (λ (k : ℕ). rule_operand (names (letters x)) k) (listed x args n few)
    ∙ ap (λ (t : Tree). rule_kind names t) (sym (ap expression is ∙ named_tree x args at))
