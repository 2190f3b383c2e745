-- Operators of two operands in a tree, over what is known of these.
use Rattle.std.proofs.Common.{◌≡◌, ℕ, ◌+◌, ◌≤◌, true, false, List, sym, ap, subst, ◌∙◌, arith}
use Rattle.std.specs.Prelude.{Option}
use Rattle.spl_byte_tests.specs.spl_tree.declared.expressions.Kind.{Kind}
use Rattle.spl_byte_tests.specs.spl_tree.declared.expressions.Kind.TheVariants as kind
use Rattle.spl_byte_tests.specs.spl_tree.declared.names_and_places.At.{At}
use Rattle.spl_byte_tests.specs.spl_tree.Trees as tree
use Rattle.spl_byte_tests.specs.spl_tree.Trees.{Tree}
use Rattle.spl_byte_tests.specs.spl_meaning.Names.{Names}
use Rattle.spl_byte_tests.specs.spl_meaning.Kinds.{of, Class, doubles, is_connective, is_relation, relation_number, works_on_bits, compares_text, kind_of, operand_width, class_of}
use Rattle.spl_byte_tests.specs.spl_meaning.Operations.{by_class, bits_done, joined}
use Rattle.spl_byte_tests.specs.spl_meaning.Elements.{compared_text, relation_told}
use Rattle.spl_byte_tests.specs.spl_meaning.Pending.{most, left_words}
use Rattle.spl_byte_tests.specs.spl_meaning.Places.{Place}
use Rattle.spl_byte_tests.specs.spl_meaning.States.{then_go}
use Rattle.spl_byte_tests.specs.spl_meaning.Values as meant
use Rattle.spl_byte_tests.specs.spl_meaning.Values.{Callee, text_bytes, value}
use Rattle.spl_byte_tests.specs.spl_code.Parts.{Part, pieces, ◌⨟◌}
use Rattle.spl_byte_tests.specs.spl_code.Operators.{operator}
use Rattle.spl_byte_tests.specs.spl_code.Calls.{Scope}
use Rattle.spl_byte_tests.specs.spl_code.Code as made
use Rattle.spl_byte_tests.specs.spl_code.Code.{Aim, as_value, as_test, closing, code}
use Rattle.spl_byte_tests.specs.spl_follow.Simulating.{Surroundings, Simulates}
use Rattle.spl_byte_tests.specs.spl_values.Reached.{is_word_class, IsWhole}
use Rattle.spl_byte_tests.proofs.spl_values_proofs.WholeLemmas.{whole_then, then_same, same_simulates}
use Rattle.spl_byte_tests.proofs.spl_doubles_proofs.RelationLemmas.{relations_give}
use Rattle.spl_whom.proofs.spl_conditions_proofs.ConnectiveLemmas.{connected_whole, connectives}
use Rattle.spl_byte_tests.specs.spl_word_operators.Operators.{is_covered_operator}
use Rattle.spl_byte_tests.proofs.spl_word_operators_proofs.OperatorLemmas.{where_true, where_false, no_bits, operated_whole, operated_simulates}
use Rattle.spl_byte_tests.proofs.spl_word_operators_proofs.DoubleLemmas.{class_is, doubles_whole}
use Rattle.spl_byte_tests.specs.spl_names.Names.{read_with}
use Rattle.spl_byte_tests.specs.spl_moves.Moving.{IsReference}
use Rattle.spl_byte_tests.specs.spl_scans.Laws.{AreBytes}
use Rattle.spl_byte_tests.proofs.TestLemmas.{texts_whole, texts_compared}

-- ---- AND and OR

connective_code : (c : Scope) (o : ℕ) (a b : Tree) (at : At) (aim : Aim) (k : ℕ) → is_connective o ≡ true
    → code c (tree.Tree.binary o a b at) aim k ≡ made.connected o aim (λ v. code c a v k) (λ v. code c b v k)
connective_code c o a b at aim k i = where_true (is_connective o) _ _ i

pub connective_whole : (c : Scope) (o : ℕ) (a b : Tree) (at : At) (aim : Aim) (k : ℕ) → is_connective o ≡ true → ((fail : ℕ) → IsWhole (code c a (as_test fail) k))
    → ((fail : ℕ) → IsWhole (code c b (as_test fail) k)) → IsWhole (code c (tree.Tree.binary o a b at) aim k)
connective_whole c o a b at aim k i wa wb =
    subst (λ (p : Part). IsWhole p) (sym (connective_code c o a b at aim k i)) (connected_whole o aim (λ v. code c a v k) (λ v. code c b v k) i wa wb)

pub connective_simulates : (c : Scope) (results : List ℕ → Option (Kind × Place)) (z : Surroundings) (call : Callee) (d o : ℕ) (a b : Tree) (at : At) (aim : Aim)
    (k need : ℕ) → is_connective o ≡ true → 1 ≤ need → ((fail : ℕ) → IsWhole (code c a (as_test fail) k)) → ((fail : ℕ) → IsWhole (code c b (as_test fail) k))
    → ((fail : ℕ) → Simulates z d (as_test fail) 1 k need (code c a (as_test fail) k) (λ s. value (read_with c results z.setting) call a k s))
    → ((fail : ℕ) → Simulates z d (as_test fail) 1 k need (code c b (as_test fail) k) (λ s. value (read_with c results z.setting) call b k s))
    → Simulates z d aim 1 k need (code c (tree.Tree.binary o a b at) aim k) (λ s. value (read_with c results z.setting) call (tree.Tree.binary o a b at) k s)
connective_simulates c results z call d o a b at aim k need i enough wa wb sa sb =
    let h = read_with c results z.setting in
    same_simulates z d aim 1 k need (code c (tree.Tree.binary o a b at) aim k) (made.connected o aim (λ v. code c a v k) (λ v. code c b v k))
    (λ s. value h call (tree.Tree.binary o a b at) k s) (λ s. then_go (value h call a k s) (λ vs t. meant.connected o vs t (λ u. value h call b k u)))
    (connective_code c o a b at aim k i) (λ s. where_true (is_connective o) _ _ i)
    (connectives z d k need o aim (λ v. code c a v k) (λ v. code c b v k) (λ s. value h call a k s) (λ s. value h call b k s) i enough wa wb sa sb)

-- ---- the other operators of two operands

-- one that is covered, of two words of a class, and that compares no bytes from a reference on
pub record IsOperator (c : Scope) (o : ℕ) (a b : Tree) : Type 0 where
  pub operator : is_covered_operator o ≡ true
  pub apart : compares_text c.names o a b ≡ false
  pub class : is_word_class (class_of (kind_of c.names a) (kind_of c.names b)) ≡ true

operator_code : (c : Scope) (o : ℕ) (a b : Tree) (at : At) (aim : Aim) (k : ℕ) → is_connective o ≡ false → compares_text c.names o a b ≡ false
    → code c (tree.Tree.binary o a b at) aim k
    ≡ made.operated o (class_of (kind_of c.names a) (kind_of c.names b)) aim (code c a as_value k ⨟ code c b as_value (k + operand_width (kind_of c.names a)))
operator_code c o a b at aim k i j = where_false (is_connective o) _ _ i ∙ where_false (compares_text c.names o a b) _ _ j

pub operator_whole : (c : Scope) (o : ℕ) (a b : Tree) (at : At) (aim : Aim) (k : ℕ) → is_connective o ≡ false → IsOperator c o a b
    → IsWhole (code c a as_value k) → IsWhole (code c b as_value (k + operand_width (kind_of c.names a))) → IsWhole (code c (tree.Tree.binary o a b at) aim k)
operator_whole c o a b at aim k i x wa wb =
    let other = code c b as_value (k + operand_width (kind_of c.names a)) in
    subst (λ (p : Part). IsWhole p) (sym (operator_code c o a b at aim k i x.apart))
    (operated_whole o (class_of (kind_of c.names a) (kind_of c.names b)) aim (code c a as_value k ⨟ other) x.operator x.class (whole_then (code c a as_value k) other wa wb))

pub operator_simulates : (c : Scope) (results : List ℕ → Option (Kind × Place)) (z : Surroundings) (call : Callee) (d o : ℕ) (a b : Tree) (at : At) (aim : Aim)
    (k need more : ℕ) → is_connective o ≡ false → IsOperator c o a b → more + 1 ≤ need → 3 ≤ need → IsWhole (code c a as_value k)
    → IsWhole (code c b as_value (k + operand_width (kind_of c.names a)))
    → Simulates z d as_value 1 k need (code c a as_value k) (λ s. value (read_with c results z.setting) call a k s)
    → Simulates z d as_value 1 (k + 1) more (code c b as_value (k + operand_width (kind_of c.names a))) (λ s. value (read_with c results z.setting) call b (k + operand_width (kind_of c.names a)) s)
    → Simulates z d aim 1 k need (code c (tree.Tree.binary o a b at) aim k) (λ s. value (read_with c results z.setting) call (tree.Tree.binary o a b at) k s)
operator_simulates c results z call d o a b at aim k need more i x enough room wa wb sa sb =
    let h = read_with c results z.setting in
    let left = kind_of c.names a in
    let right = kind_of c.names b in
    let first = code c a as_value k in
    let other = code c b as_value (k + operand_width left) in
    let none = x.apart in
    same_simulates z d aim 1 k need (code c (tree.Tree.binary o a b at) aim k) (made.operated o (class_of left right) aim (first ⨟ other))
    (λ s. value h call (tree.Tree.binary o a b at) k s)
    (λ s. then_go (value h call a k s) (λ vs t. then_go (value h call b (k + operand_width left) t) (λ us u. joined o left right vs us u)))
    (operator_code c o a b at aim k i none) (λ s. where_false (is_connective o) _ _ i ∙ where_false (compares_text c.names o a b) _ _ none)
    (operated_simulates z d k need more o left right aim first other (λ s. value h call a k s) (λ s. value h call b (k + operand_width left) s) x.operator x.class
    wa wb sa sb enough room)

-- ---- relations of DOUBLEs

-- one that compares no bytes from a reference on
pub record IsRelated (c : Scope) (o : ℕ) (a b : Tree) : Type 0 where
  pub relation : is_relation o ≡ true
  pub apart : compares_text c.names o a b ≡ false
  pub left : kind_of c.names a ≡ of kind.Double
  pub right : kind_of c.names b ≡ of kind.Double

related_code : (c : Scope) (o : ℕ) (a b : Tree) (at : At) (aim : Aim) (k : ℕ) → is_connective o ≡ false → IsRelated c o a b
    → code c (tree.Tree.binary o a b at) aim k
    ≡ made.compared (relation_number o) doubles aim (code c a as_value k ⨟ code c b as_value (k + operand_width (kind_of c.names a)))
related_code c o a b at aim k i r =
    let operands = code c a as_value k ⨟ code c b as_value (k + operand_width (kind_of c.names a)) in
    operator_code c o a b at aim k i r.apart
    ∙ ap (λ (x : Class). made.operated o x aim operands) (class_is (kind_of c.names a) (kind_of c.names b) r.left r.right)
    ∙ where_true (is_relation o) (made.compared (relation_number o) doubles aim operands) (operands ⨟ pieces (operator doubles o) ⨟ closing aim) r.relation

pub related_whole : (c : Scope) (o : ℕ) (a b : Tree) (at : At) (aim : Aim) (k : ℕ) → is_connective o ≡ false → IsRelated c o a b
    → IsWhole (code c a as_value k) → IsWhole (code c b as_value (k + operand_width (kind_of c.names a))) → IsWhole (code c (tree.Tree.binary o a b at) aim k)
related_whole c o a b at aim k i r wa wb =
    let operands = code c a as_value k ⨟ code c b as_value (k + operand_width (kind_of c.names a)) in
    subst (λ (p : Part). IsWhole p) (sym (related_code c o a b at aim k i r))
    (doubles_whole (relation_number o) aim operands (whole_then (code c a as_value k) (code c b as_value (k + operand_width (kind_of c.names a))) wa wb))

pub related_simulates : (c : Scope) (results : List ℕ → Option (Kind × Place)) (z : Surroundings) (call : Callee) (d o : ℕ) (a b : Tree) (at : At) (aim : Aim)
    (k need more : ℕ) → is_connective o ≡ false → IsRelated c o a b → more + 2 ≤ need → IsWhole (code c a as_value k)
    → IsWhole (code c b as_value (k + operand_width (kind_of c.names a)))
    → Simulates z d as_value 2 k need (code c a as_value k) (λ s. value (read_with c results z.setting) call a k s)
    → Simulates z d as_value 2 (k + 2) more (code c b as_value (k + operand_width (kind_of c.names a))) (λ s. value (read_with c results z.setting) call b (k + operand_width (kind_of c.names a)) s)
    → Simulates z d aim 1 k need (code c (tree.Tree.binary o a b at) aim k) (λ s. value (read_with c results z.setting) call (tree.Tree.binary o a b at) k s)
related_simulates c results z call d o a b at aim k need more i r enough wa wb sa sb =
    let h = read_with c results z.setting in
    let left = kind_of c.names a in
    let right = kind_of c.names b in
    let first = code c a as_value k in
    let other = code c b as_value (k + operand_width left) in
    same_simulates z d aim 1 k need (code c (tree.Tree.binary o a b at) aim k) (made.compared (relation_number o) doubles aim (first ⨟ other))
    (λ s. value h call (tree.Tree.binary o a b at) k s)
    (λ s. then_go (value h call a k s) (λ vs t. then_go (value h call b (k + operand_width left) t) (λ us u. by_class doubles o vs us u)))
    (related_code c o a b at aim k i r)
    (λ s. where_false (is_connective o) _ _ i ∙ where_false (compares_text c.names o a b) _ _ r.apart
    ∙ then_same (value h call a k s) (λ vs t. then_go (value h call b (k + operand_width left) t) (λ us u. joined o left right vs us u))
    (λ vs t. then_go (value h call b (k + operand_width left) t) (λ us u. by_class doubles o vs us u))
    (λ vs t. then_same (value h call b (k + operand_width left) t) (λ us u. joined o left right vs us u) (λ us u. by_class doubles o vs us u)
    (λ us u. where_false (works_on_bits o) (bits_done o vs us u) (by_class (class_of left right) o vs us u) (no_bits o r.relation)
    ∙ ap (λ (x : Class). by_class x o vs us u) (class_is left right r.left r.right))))
    (relations_give z d k need more o aim first other (λ s. value h call a k s) (λ s. value h call b (k + operand_width left) s) r.relation wa wb sa sb enough)

-- ---- comparisons with a string

-- the code of one
spelled_code : (c : Scope) (o : ℕ) (a b : Tree) (at : At) (aim : Aim) (k : ℕ) → is_connective o ≡ false → compares_text c.names o a b ≡ true
    → code c (tree.Tree.binary o a b at) aim k ≡ made.text_related (relation_number o) aim (made.reference c a k) (text_bytes b)
spelled_code c o a b at aim k i j = where_false (is_connective o) _ _ i ∙ where_true (compares_text c.names o a b) _ _ j

pub spelled_whole : (c : Scope) (o : ℕ) (a b : Tree) (at : At) (aim : Aim) (k : ℕ) → is_connective o ≡ false → compares_text c.names o a b ≡ true
    → IsWhole (made.reference c a k) → IsWhole (code c (tree.Tree.binary o a b at) aim k)
spelled_whole c o a b at aim k i j whole =
    subst (λ (p : Part). IsWhole p) (sym (spelled_code c o a b at aim k i j)) (texts_whole (relation_number o) aim (made.reference c a k) (text_bytes b) whole)

pub spelled_simulates : (c : Scope) (results : List ℕ → Option (Kind × Place)) (z : Surroundings) (call : Callee) (d o : ℕ) (a b : Tree) (at : At) (aim : Aim)
    (k need : ℕ) → is_connective o ≡ false → compares_text c.names o a b ≡ true → AreBytes (text_bytes b) → 3 ≤ need
    → IsReference z d k need kind.Byte (made.reference c a k) (λ s. meant.located (read_with c results z.setting) call a k s)
    → Simulates z d aim 1 k need (code c (tree.Tree.binary o a b at) aim k) (λ s. value (read_with c results z.setting) call (tree.Tree.binary o a b at) k s)
spelled_simulates c results z call d o a b at aim k need i j small enough reference =
    let h = read_with c results z.setting in
    same_simulates z d aim 1 k need (code c (tree.Tree.binary o a b at) aim k) (made.text_related (relation_number o) aim (made.reference c a k) (text_bytes b))
    (λ s. value h call (tree.Tree.binary o a b at) k s)
    (λ s. then_go (meant.located h call a k s) (λ p t. relation_told (relation_number o) (compared_text p (text_bytes b) t)))
    (spelled_code c o a b at aim k i j) (λ s. where_false (is_connective o) _ _ i ∙ where_true (compares_text c.names o a b) _ _ j)
    (texts_compared z d k need (relation_number o) aim (made.reference c a k) (λ s. meant.located h call a k s) (text_bytes b) small reference enough)

-- ---- room

-- The room of both operands: where the left one waits, and where it does not.
pub waiting_room : (names : Names) (o : ℕ) (a b : Tree) (at : At) (need : ℕ) → is_connective o ≡ false → compares_text names o a b ≡ false
    → (n : ℕ) → operand_width (kind_of names a) ≡ n → most names (tree.Tree.binary o a b at) + 8 ≤ need
    → (most names a + 8 ≤ need) × (most names b + 8 + n ≤ need)
waiting_room names o a b at need i j n one room =
    let waits : left_words names o a b ≡ n = where_false (is_connective o) _ _ i ∙ where_false (compares_text names o a b) _ _ j ∙ one in
    (omega (arith, room), omega (arith, waits, room))

pub either_room : (names : Names) (o : ℕ) (a b : Tree) (at : At) (need : ℕ) → is_connective o ≡ true → most names (tree.Tree.binary o a b at) + 8 ≤ need
    → (most names a + 8 ≤ need) × (most names b + 8 ≤ need)
either_room names o a b at need i room =
    let none : left_words names o a b ≡ 0 = where_true (is_connective o) _ _ i in (omega (arith, room), omega (arith, none, room))

pub left_room : (names : Names) (o : ℕ) (a b : Tree) (at : At) (need : ℕ) → most names (tree.Tree.binary o a b at) + 8 ≤ need → most names a + 8 ≤ need
left_room names o a b at need room = omega (arith, room)
