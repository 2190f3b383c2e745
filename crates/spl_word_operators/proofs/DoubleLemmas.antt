-- Operators of DOUBLEs in a tree, over what is known of their operands.
use Rattle.std.proofs.Common.{◌≡◌, ℕ, ◌+◌, ◌≤◌, true, false, List, [], ◌∷◌, refl, sym, ap, subst, ◌∙◌, arith}
use Rattle.std.specs.Prelude.{◌==◌, ◌||◌}
use Rattle.std.proofs.lemmas.Bool.{false≢true}
use Rattle.std.proofs.Math.Logic.{⊎_elim}
use Rattle.spl_doubles.specs.hp_word.Bytes.{high_word, low_word}
use Rattle.spl_doubles.specs.spl_tree.declared.expressions.Kind.{Kind}
use Rattle.spl_doubles.specs.spl_tree.declared.expressions.Kind.TheVariants as kind
use Rattle.spl_doubles.specs.spl_tree.declared.names_and_places.At.{At}
use Rattle.spl_doubles.specs.spl_tree.Trees as tree
use Rattle.spl_doubles.specs.spl_tree.Trees.{Tree}
use Rattle.spl_doubles.specs.spl_meaning.Kinds.{Operand, of, const, unknown, Class, doubles, plus, minus, positive, negative, unary_operand, kind_of, operand_width, class_of, class_operand}
use Rattle.spl_doubles.specs.spl_meaning.Names.{Names}
use Rattle.spl_doubles.specs.spl_meaning.Operations.{by_class}
use Rattle.spl_doubles.specs.spl_meaning.Pending.{most}
use Rattle.spl_doubles.specs.spl_meaning.References.{Here}
use Rattle.spl_doubles.specs.spl_meaning.States.{State, Outcome, then_go}
use Rattle.spl_doubles.specs.spl_meaning.Values.{Callee, value}
use Rattle.spl_doubles.specs.spl_code.Calls.{Scope}
use Rattle.spl_doubles.specs.spl_code.Code as made
use Rattle.spl_doubles.specs.spl_code.Code.{Aim, as_value, code}
use Rattle.spl_doubles.specs.spl_code.Instructions.{BCC}
use Rattle.spl_doubles.specs.spl_code.Constants.{constant, double_constant}
use Rattle.spl_doubles.specs.spl_code.Operators.{class_operator, comparison, failing_codes, sign_operator, transfer}
use Rattle.spl_doubles.specs.spl_code.Parts.{Part, pieces, nothing, ◌⨟◌}
use Rattle.spl_doubles.specs.spl_follow.Standing.{IsClosed}
use Rattle.spl_doubles.proofs.spl_follow_proofs.StandLemmas.{closed_last}
use Rattle.spl_doubles.specs.spl_values.Reached.{is_sum, IsWhole}
use Rattle.spl_doubles.proofs.spl_values_proofs.SumLemmas.{sum_cases}
use Rattle.spl_doubles.proofs.spl_values_proofs.WholeLemmas.{whole_last, whole_behind}
use Rattle.spl_doubles.proofs.spl_conditions_proofs.ConditionLemmas.{condition_whole}
use Rattle.spl_doubles.proofs.DoubleLemmas.{constant_closed}
use Rattle.spl_doubles.specs.spl_operators.Laws.{is_word_operand, is_single}
use Rattle.spl_doubles.proofs.spl_operators_proofs.SingleLemmas.{sign_cases}

-- ---- kinds

-- a sign keeps the kind
pub sign_kind : (o : ℕ) (x : Operand) → ((o == positive) || (o == negative)) ≡ true → x ≡ of kind.Double → unary_operand o x ≡ of kind.Double
sign_kind o x e is =
    ap (λ (y : Operand). unary_operand o y) is
    ∙ ⊎_elim (λ i. ap (λ (n : ℕ). unary_operand n (of kind.Double)) i) (λ i. ap (λ (n : ℕ). unary_operand n (of kind.Double)) i) (sign_cases o e)

-- the class of two is that of DOUBLEs
pub class_is : (x y : Operand) → x ≡ of kind.Double → y ≡ of kind.Double → class_of x y ≡ doubles
class_is x y left right = ap (λ (u : Operand). class_of u y) left ∙ ap (λ (u : Operand). class_of (of kind.Double) u) right

-- so their sum is one
pub sum_kind : (names : Names) (o : ℕ) (a b : Tree) (at : At) → is_sum o ≡ true → kind_of names a ≡ of kind.Double → kind_of names b ≡ of kind.Double
    → kind_of names (tree.Tree.binary o a b at) ≡ of kind.Double
sum_kind names o a b at sum left right =
    ⊎_elim (λ is. subst (λ (j : ℕ). kind_of names (tree.Tree.binary j a b at) ≡ of kind.Double) (sym is) classed)
    (λ is. subst (λ (j : ℕ). kind_of names (tree.Tree.binary j a b at) ≡ of kind.Double) (sym is) classed) (sum_cases o sum) where
      classed : class_operand (class_of (kind_of names a) (kind_of names b)) ≡ of kind.Double
      classed = ap class_operand (class_is (kind_of names a) (kind_of names b) left right)

-- ---- relations

-- the code of one closes, whatever is wanted of it
pub doubles_whole : (n : ℕ) (aim : Aim) (operands : Part) → IsWhole operands → IsWhole (made.compared n doubles aim operands)
doubles_whole n aim operands x =
    condition_whole aim (λ fail. operands ⨟ pieces (comparison doubles) ⨟ made.related n fail)
    (λ fail. whole_behind (operands ⨟ pieces (comparison doubles)) (BCC (failing_codes n) fail ∷ []) (whole_behind operands (comparison doubles) x refl) refl)

-- ---- transfers

-- the low word of one, of which a BYTE keeps the right eight bits
pub low_whole : (to : Kind) (a : Part) → is_single to ≡ true → IsWhole a → IsWhole (a ⨟ pieces (transfer to (of kind.Double)))
low_whole kind.Integer a one whole = whole_behind a (transfer kind.Integer (of kind.Double)) whole refl
low_whole kind.Logical a one whole = whole_behind a (transfer kind.Logical (of kind.Double)) whole refl
low_whole kind.Byte a one whole = whole_behind a (transfer kind.Byte (of kind.Double)) whole refl
low_whole kind.Double a one whole = absurd (false≢true one)

pub extension_closed : (x : Operand) → is_word_operand x ≡ true → IsClosed (transfer kind.Double x)
extension_closed (of kind.Integer) e = refl
extension_closed (of kind.Logical) e = refl
extension_closed (of kind.Byte) e = refl
extension_closed (of kind.Double) e = absurd (false≢true e)
extension_closed const e = refl
extension_closed unknown e = absurd (false≢true e)

-- ---- signs

-- the code behind the value: nothing, or DNEG
pub sign_whole : (o : ℕ) (a : Part) → ((o == positive) || (o == negative)) ≡ true → IsWhole a → IsWhole (a ⨟ pieces (sign_operator o (of kind.Double)))
sign_whole o a e whole =
    ⊎_elim (λ i. subst (λ (n : ℕ). IsWhole (a ⨟ pieces (sign_operator n (of kind.Double)))) (sym i) (whole_last a whole))
    (λ i. subst (λ (n : ℕ). IsWhole (a ⨟ pieces (sign_operator n (of kind.Double)))) (sym i) (whole_behind a (sign_operator negative (of kind.Double)) whole refl))
    (sign_cases o e)

-- ---- sums

-- a sum's pieces close
pub sum_closed : (o : ℕ) → is_sum o ≡ true → IsClosed (class_operator doubles o)
sum_closed o e =
    ⊎_elim (λ is. subst (λ (j : ℕ). IsClosed (class_operator doubles j)) (sym is) refl) (λ is. subst (λ (j : ℕ). IsClosed (class_operator doubles j)) (sym is) refl) (sum_cases o e)

-- the code of one
pub sum_code : (c : Scope) (o : ℕ) (a b : Tree) (at : At) (k : ℕ) → is_sum o ≡ true → kind_of c.names a ≡ of kind.Double → kind_of c.names b ≡ of kind.Double
    → code c (tree.Tree.binary o a b at) as_value k
    ≡ code c a as_value k ⨟ code c b as_value (k + operand_width (kind_of c.names a)) ⨟ pieces (class_operator doubles o) ⨟ nothing
sum_code c o a b at k e left right =
    ⊎_elim (λ is. of_number plus is (at_number plus)) (λ is. of_number minus is (at_number minus)) (sum_cases o e) where
      operands : Part
      operands = code c a as_value k ⨟ code c b as_value (k + operand_width (kind_of c.names a))

      at_number : (j : ℕ) → operands ⨟ pieces (class_operator (class_of (kind_of c.names a) (kind_of c.names b)) j) ⨟ nothing ≡ operands ⨟ pieces (class_operator doubles j) ⨟ nothing
      at_number j = ap (λ (x : Class). operands ⨟ pieces (class_operator x j) ⨟ nothing) (class_is (kind_of c.names a) (kind_of c.names b) left right)

      of_number : (j : ℕ) → o ≡ j → code c (tree.Tree.binary j a b at) as_value k ≡ operands ⨟ pieces (class_operator doubles j) ⨟ nothing
          → code c (tree.Tree.binary o a b at) as_value k ≡ operands ⨟ pieces (class_operator doubles o) ⨟ nothing
      of_number j is x =
          subst (λ (i : ℕ). code c (tree.Tree.binary i a b at) as_value k ≡ operands ⨟ pieces (class_operator doubles i) ⨟ nothing) (sym is) x

-- its meaning
pub sum_is : (h : Here) (call : Callee) (o : ℕ) (a b : Tree) (at : At) (k : ℕ) (s : State) → is_sum o ≡ true → kind_of h.names a ≡ of kind.Double
    → kind_of h.names b ≡ of kind.Double
    → value h call (tree.Tree.binary o a b at) k s
    ≡ then_go (value h call a k s) (λ vs t. then_go (value h call b (k + operand_width (kind_of h.names a)) t) (λ us u. by_class doubles o vs us u))
sum_is h call o a b at k s e left right =
    ⊎_elim (λ is. of_number plus is (at_number plus)) (λ is. of_number minus is (at_number minus)) (sum_cases o e) where
      meant : Class → ℕ → Outcome (List ℕ)
      meant x j =
          then_go (value h call a k s) (λ vs t. then_go (value h call b (k + operand_width (kind_of h.names a)) t) (λ us u. by_class x j vs us u))

      at_number : (j : ℕ) → meant (class_of (kind_of h.names a) (kind_of h.names b)) j ≡ meant doubles j
      at_number j = ap (λ (x : Class). meant x j) (class_is (kind_of h.names a) (kind_of h.names b) left right)

      of_number : (j : ℕ) → o ≡ j → value h call (tree.Tree.binary j a b at) k s ≡ meant doubles j → value h call (tree.Tree.binary o a b at) k s ≡ meant doubles o
      of_number j is x = subst (λ (i : ℕ). value h call (tree.Tree.binary i a b at) k s ≡ meant doubles i) (sym is) x

-- the room of both operands
pub sum_room : (names : Names) (o : ℕ) (a b : Tree) (at : At) (need : ℕ) → is_sum o ≡ true → kind_of names a ≡ of kind.Double
    → most names (tree.Tree.binary o a b at) + 8 ≤ need → (most names a + 8 ≤ need) × (most names b + 8 + 2 ≤ need)
sum_room names o a b at need e left room =
    ⊎_elim (λ is. at_plus (subst (λ (i : ℕ). most names (tree.Tree.binary i a b at) + 8 ≤ need) is room))
    (λ is. at_minus (subst (λ (i : ℕ). most names (tree.Tree.binary i a b at) + 8 ≤ need) is room)) (sum_cases o e) where
      two : operand_width (kind_of names a) ≡ 2
      two = ap operand_width left

      at_plus : most names (tree.Tree.binary plus a b at) + 8 ≤ need → (most names a + 8 ≤ need) × (most names b + 8 + 2 ≤ need)
      at_plus l = (omega (arith, l), omega (arith, two, l))

      at_minus : most names (tree.Tree.binary minus a b at) + 8 ≤ need → (most names a + 8 ≤ need) × (most names b + 8 + 2 ≤ need)
      at_minus l = (omega (arith, l), omega (arith, two, l))

-- a double constant closes
pub double_closed : (d : ℕ) → IsClosed (double_constant d)
double_closed d = closed_last (constant (high_word d)) (constant (low_word d)) (constant_closed (low_word d))
