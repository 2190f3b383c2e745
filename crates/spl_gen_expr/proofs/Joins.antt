-- The definition of code, as its clauses stand apart: a condition as it is wanted, or a value and its test.
use Rattle.std.proofs.Common.{◌≡◌, ℕ, ◌==◌, ◌||◌, ◌&&◌, ◌<◌, nat_lt, nat_le, Bool, true, false, if◌then◌else◌, refl, arith}
use Rattle.std.proofs.lemmas.Bool.{false≢true, true≢false, ltb-true, lt-ltb, and_parts}
use Rattle.spl_tree.specs.Trees as tree
use Rattle.spl_tree.specs.Trees.{Tree}
use Rattle.spl_sorts.specs.spl_meaning.Names.{Names}
use Rattle.spl_sorts.specs.spl_meaning.Kinds.{Operand, of, kind_of, gives_logical, is_connective, is_relation, or_operator}
use Rattle.spl_tree.specs.declared.expressions.Kind.TheVariants as kind
use Rattle.spl_operations.specs.spl_code.Parts.{Part, ◌⨟◌}
use Rattle.spl_operations.specs.spl_code.Calls.{Scope}
use Rattle.spl_operations.specs.spl_code.Code.{Aim, code, condition, closing}
use Rattle.spl_gen_expr.specs.Phrases.{is_condition, value_part, test_part}

-- a condition that is chosen among tests, by the answers of four questions
chosen : (aim : Aim) (p q r t : Bool) (e b x y : ℕ → Part) (v : Part) → (p || r) ≡ true
    → condition aim (λ fail. if p then (if q then e fail else b fail) else if t then x fail else y fail)
    ≡ (if p then (if q then condition aim e else condition aim b) else if t then condition aim x else if r then condition aim y else v)
chosen aim true true r t e b x y v h = refl
chosen aim true false r t e b x y v h = refl
chosen aim false q true true e b x y v h = refl
chosen aim false q true false e b x y v h = refl
chosen aim false q false t e b x y v h = absurd (false≢true h)

-- what is no condition
none_chosen : (p r m n : Bool) (a b c v : Part) → (p || r) ≡ false → v ≡ (if p then a else if r && m && n then b else if r then c else v)
none_chosen true r m n a b c v h = absurd (true≢false h)
none_chosen false true m n a b c v h = absurd (true≢false h)
none_chosen false false m n a b c v h = refl

pub condition_is : (c : Scope) (e : Tree) (aim : Aim) (k : ℕ) → is_condition e ≡ true → condition aim (test_part c e k) ≡ code c e aim k
condition_is c (tree.Tree.binary op a b at) aim k h =
    chosen aim (is_connective op) (op == or_operator) (is_relation op) _ _ _ _ _ _ h
condition_is c (tree.Tree.bytes op a b count at) aim k h = refl
condition_is c (tree.Tree.number v) aim k h = absurd (false≢true h)
condition_is c (tree.Tree.wide v) aim k h = absurd (false≢true h)
condition_is c (tree.Tree.text bytes) aim k h = absurd (false≢true h)
condition_is c (tree.Tree.truth b) aim k h = absurd (false≢true h)
condition_is c (tree.Tree.named x es at) aim k h = absurd (false≢true h)
condition_is c (tree.Tree.address x es at) aim k h = absurd (false≢true h)
condition_is c (tree.Tree.unary op e at) aim k h = absurd (false≢true h)
condition_is c (tree.Tree.shift op e by at) aim k h = absurd (false≢true h)
condition_is c (tree.Tree.field e start size at) aim k h = absurd (false≢true h)
condition_is c (tree.Tree.transfer to e at) aim k h = absurd (false≢true h)

pub value_is : (c : Scope) (e : Tree) (aim : Aim) (k : ℕ) → is_condition e ≡ false → value_part c e k ⨟ closing aim ≡ code c e aim k
value_is c (tree.Tree.binary op a b at) aim k h = none_chosen (is_connective op) (is_relation op) _ _ _ _ _ _ h
value_is c (tree.Tree.bytes op a b count at) aim k h = absurd (true≢false h)
value_is c (tree.Tree.number v) aim k h = refl
value_is c (tree.Tree.wide v) aim k h = refl
value_is c (tree.Tree.text bytes) aim k h = refl
value_is c (tree.Tree.truth b) aim k h = refl
value_is c (tree.Tree.named x es at) aim k h = refl
value_is c (tree.Tree.address x es at) aim k h = refl
value_is c (tree.Tree.unary op e at) aim k h = refl
value_is c (tree.Tree.shift op e by at) aim k h = refl
value_is c (tree.Tree.field e start size at) aim k h = refl
value_is c (tree.Tree.transfer to e at) aim k h = refl

-- a condition gives a LOGICAL
logical_by : (p : Bool) (v : Operand) → p ≡ true → of kind.Logical ≡ (if p then of kind.Logical else v)
logical_by true v h = refl
logical_by false v h = absurd (false≢true h)

low_by : (op : ℕ) (p q : Bool) → (p ≡ true → op < 11) → (q ≡ true → op < 11) → (p || q) ≡ true → op < 11
low_by op true q hp hq h = hp refl
low_by op false q hp hq h = hq h

low : (op : ℕ) → (is_connective op || is_relation op) ≡ true → op < 11
low op h = low_by op (is_connective op) (is_relation op)
    (λ p. let lt : op < 2 = ltb-true op 2 p in omega arith) (λ q. ltb-true op 11 (and_parts (nat_le 5 op) (nat_lt op 11) q).1) h

pub logical_is : (names : Names) (e : Tree) → is_condition e ≡ true → of kind.Logical ≡ kind_of names e
logical_is names (tree.Tree.binary op a b at) h = logical_by (gives_logical op) _ (lt-ltb op 11 (low op h))
logical_is names (tree.Tree.bytes op a b count at) h = refl
logical_is names (tree.Tree.number v) h = absurd (false≢true h)
logical_is names (tree.Tree.wide v) h = absurd (false≢true h)
logical_is names (tree.Tree.text bytes) h = absurd (false≢true h)
logical_is names (tree.Tree.truth b) h = absurd (false≢true h)
logical_is names (tree.Tree.named x es at) h = absurd (false≢true h)
logical_is names (tree.Tree.address x es at) h = absurd (false≢true h)
logical_is names (tree.Tree.unary op e at) h = absurd (false≢true h)
logical_is names (tree.Tree.shift op e by at) h = absurd (false≢true h)
logical_is names (tree.Tree.field e start size at) h = absurd (false≢true h)
logical_is names (tree.Tree.transfer to e at) h = absurd (false≢true h)
