-- The code of an expression has few words, along the tree.
use Rattle.std.proofs.Common.{◌≤◌, ℕ, ◌+◌, ◌-◌, ◌%◌, ◌==◌, Bool, true, false, if◌then◌else◌, List, [], ◌∷◌, arith}
use Rattle.spl_meaning.specs.spl_tree.Trees as tree
use Rattle.spl_meaning.specs.spl_tree.Trees.{Tree, Trees, Constant}
use Rattle.spl_meaning.specs.Names.{Formal, Profile, text_value, truth_word}
use Rattle.spl_meaning.specs.Kinds.{Class, kind_of, class_of, operand_width, is_connective, is_relation, compares_text, relation_number, or_operator}
use Rattle.spl_meaning.specs.Pending.{by_value, formal_words, result_words}
use Rattle.spl_meaning.specs.References.{access_of}
use Rattle.spl_meaning.specs.Values.{sense_of, text_bytes, small_constant}
use Rattle.spl_meaning.specs.Bound.{weight, trees_weight, string_words}
use Rattle.spl_branch.specs.declared.pieces.Piece.TheVariants.{Mark}
use Rattle.spl_branch.specs.Pieces.{count_of}
use Rattle.spl_code.specs.Instructions.{BR, CMPB}
use Rattle.spl_code.specs.Parts.{Part, Wanted, pieces, piece, ◌⨟◌}
use Rattle.spl_code.specs.Constants.{constant, double_constant, text_constant}
use Rattle.spl_code.specs.Operators.{operator, comparison, shift_operator, as_parameter}
use Rattle.spl_code.specs.Operands.{leads_to_doubles, index_to_x}
use Rattle.spl_code.specs.Calls.{Scope}
use Rattle.spl_code.specs.Code.{Aim, as_value, as_test, code, reference, index, arguments, argument, closing, related, text_compared, variable, is_indexed, connected, both_tested, either_tested, either_of, text_related, bytes_related, compared, operated}
use Rattle.spl_code.specs.FewWords.{spare}
use Rattle.spl_code.proofs.CountLemmas.{Few, few_then, few_more, few_pieces, few_fresh, few_one, few_constant, few_double, few_text, few_compared_text, few_operator, few_comparison, few_sign, few_field, few_transfer, few_passed, few_variable, few_addressed, few_to_x, few_named, few_closing, few_condition, count_append}

-- a value and its closing
closed : {n : ℕ} (p : Part) (aim : Aim) (l : ℕ) (ws : List Wanted) → Few n p → count_of ((p ⨟ closing aim) l ws).pieces + spare aim ≤ n + 12
closed {n} p aim l ws few =
    let first : count_of (p l ws).pieces ≤ n = few.few l ws in
    let all = count_append (p l ws).pieces (closing aim (l + (p l ws).marks) (p l ws).wants).pieces in
    let last = few_closing aim (l + (p l ws).marks) (p l ws).wants in
    omega arith

-- a part whose words, with some to spare, are at most its weight
spared : (n m : ℕ) (p : Part) → ((l : ℕ) (ws : List Wanted) → count_of (p l ws).pieces + m ≤ n) → Few (n - m) p
spared n m p h = record { few = λ l ws. let all = h l ws in omega arith }

-- a string's words are part of its weight
text_weight : (e : Tree) → string_words (text_bytes e) + 24 ≤ weight e
text_weight (tree.Tree.number v) = omega arith
text_weight (tree.Tree.wide v) = omega arith
text_weight (tree.Tree.text bytes) = omega arith
text_weight (tree.Tree.truth b) = omega arith
text_weight (tree.Tree.named x es at) = omega arith
text_weight (tree.Tree.address x es at) = omega arith
text_weight (tree.Tree.unary op e at) = omega arith
text_weight (tree.Tree.binary op a b at) = omega arith
text_weight (tree.Tree.shift op e by at) = omega arith
text_weight (tree.Tree.field e start size at) = omega arith
text_weight (tree.Tree.transfer to e at) = omega arith
text_weight (tree.Tree.bytes op a b count at) = omega arith

-- what stands behind an argument
few_argument : {n : ℕ} (f : Formal) (v a : Part) → Few n v → Few n a → Few (n + 1) (argument f v a)
few_argument {n} f v a hv ha = go (by_value f) where
  go : (b : Bool) → Few (n + 1) (if b then v ⨟ pieces (as_parameter f.kind) else a)
  go true = few_then hv (few_pieces {n = 1} (as_parameter f.kind) (few_passed f.kind))
  go false = few_more ha (omega arith)

few_related : (op f : ℕ) → Few 4 (related op f)
few_related op f = few_one _

-- what a test and what an operator have beside their operands
few_operated : {n : ℕ} (op : ℕ) (cl : Class) (aim : Aim) (p : Part) (l : ℕ) (ws : List Wanted) → Few n p
    → count_of (operated op cl aim p l ws).pieces + spare aim ≤ n + 23
few_operated {n} op cl aim p l ws h = go (is_relation op) where
  related_so : count_of (compared (relation_number op) cl aim p l ws).pieces + spare aim ≤ n + 23
  related_so =
      let all = few_condition {n = n + 1 + 4} aim (λ fail. p ⨟ pieces (comparison cl) ⨟ related (relation_number op) fail)
      (λ fail. few_then (few_then h (few_pieces {n = 1} (comparison cl) (few_comparison cl))) (few_related (relation_number op) fail)) l ws in omega arith

  go : (b : Bool) → count_of ((if b then compared (relation_number op) cl aim p else p ⨟ pieces (operator cl op) ⨟ closing aim) l ws).pieces + spare aim ≤ n + 23
  go true = related_so
  go false = let all = closed (p ⨟ pieces (operator cl op)) aim l ws (few_then h (few_pieces {n = 5} (operator cl op) (few_operator cl op))) in omega arith

few_text_related : {n : ℕ} (op : ℕ) (aim : Aim) (p : Part) (bs : List ℕ) (l : ℕ) (ws : List Wanted) → Few n p
    → count_of (text_related op aim p bs l ws).pieces + spare aim ≤ n + string_words bs + 33
few_text_related {n} op aim p bs l ws h =
    let all = few_condition {n = n + (11 + string_words bs) + 4} aim (λ fail. p ⨟ text_compared bs ⨟ related op fail)
    (λ fail. few_then (few_then h (few_compared_text bs)) (few_related op fail)) l ws in omega arith

few_bytes_related : {n : ℕ} (op : ℕ) (aim : Aim) (p : Part) (l : ℕ) (ws : List Wanted) → Few n p
    → count_of (bytes_related op aim p l ws).pieces + spare aim ≤ n + 23
few_bytes_related {n} op aim p l ws h =
    let all = few_condition {n = n + 1 + 4} aim (λ fail. p ⨟ piece (CMPB 0) ⨟ related op fail)
    (λ fail. few_then (few_then h (few_one (CMPB 0))) (few_related op fail)) l ws in omega arith

few_connected : {n m : ℕ} (op : ℕ) (aim : Aim) (x y : Aim → Part) (l : ℕ) (ws : List Wanted) → ((f : ℕ) → Few n (x (as_test f))) → ((f : ℕ) → Few m (y (as_test f)))
    → count_of (connected op aim x y l ws).pieces + spare aim ≤ n + m + 22
few_connected {n} {m} op aim x y l ws hx hy = go (op == or_operator) where
  either : (fail : ℕ) → Few (n + m + 4) (either_of x y fail)
  either fail = few_fresh _ (λ next. few_fresh _ (λ over.
      few_more (few_then (few_then (few_then (few_then (hx next) (few_one (BR over))) (few_one (Mark next))) (hy fail)) (few_one (Mark over))) (omega arith)))

  go : (b : Bool) → count_of ((if b then either_tested aim x y else both_tested aim x y) l ws).pieces + spare aim ≤ n + m + 22
  go true = let all = few_condition {n = n + m + 4} aim (either_of x y) either l ws in omega arith
  go false = let all = few_condition {n = n + m} aim (λ fail. x (as_test fail) ⨟ y (as_test fail)) (λ fail. few_then (hx fail) (hy fail)) l ws in omega arith

-- one of three
chosen : (p t : Bool) (x y z : Part) (s n l : ℕ) (ws : List Wanted) → count_of (x l ws).pieces + s ≤ n → count_of (y l ws).pieces + s ≤ n → count_of (z l ws).pieces + s ≤ n
    → count_of ((if p then x else if t then y else z) l ws).pieces + s ≤ n
chosen true t x y z s n l ws a b c = a
chosen false true x y z s n l ws a b c = b
chosen false false x y z s n l ws a b c = c

mutual
  pub few_code : (c : Scope) (e : Tree) (aim : Aim) (k l : ℕ) (ws : List Wanted) → count_of (code c e aim k l ws).pieces + spare aim ≤ weight e
  few_code c (tree.Tree.number v) aim k l ws = let h = closed (pieces (constant (v % 65536))) aim l ws (few_pieces {n = 3} _ (few_constant (v % 65536))) in omega arith
  few_code c (tree.Tree.wide v) aim k l ws = let h = closed (pieces (double_constant (v % 4294967296))) aim l ws (few_pieces {n = 6} _ (few_double (v % 4294967296))) in omega arith
  few_code c (tree.Tree.text bytes) aim k l ws = let h = closed (text_constant (text_value bytes)) aim l ws (few_text (text_value bytes)) in omega arith
  few_code c (tree.Tree.truth b) aim k l ws = let h = closed (pieces (constant (truth_word b))) aim l ws (few_pieces {n = 3} _ (few_constant (truth_word b))) in omega arith
  few_code c (tree.Tree.named x es at) aim k l ws =
      let args = λ (p : Profile). few_arguments c p.formals es (k + result_words p) in
      let at_index = few_more {m = 3 + trees_weight es} (few_then (few_index c es false k) (few_variable c x (is_indexed es) k)) (omega arith) in
      let h = closed _ aim l ws (few_named c x (sense_of x (c.names x)) (λ p. arguments c p.formals es (k + result_words p)) (index c es false k ⨟ variable c x (is_indexed es) k) args at_index) in
      omega arith
  few_code c (tree.Tree.address x es at) aim k l ws =
      let h = closed _ aim l ws (few_then (few_index c es (leads_to_doubles (access_of (c.names x))) k) (few_addressed c x (is_indexed es) k)) in omega arith
  few_code c (tree.Tree.unary op e at) aim k l ws =
      let h = closed _ aim l ws (few_then (spared (weight e) 12 (code c e as_value k) (λ l ws. few_code c e as_value k l ws)) (few_pieces {n = 3} _ (few_sign op (kind_of c.names e)))) in
      let w = few_code c e as_value k 0 [] in omega arith
  few_code c (tree.Tree.binary op a b at) aim k l ws =
      let wa = few_code c a as_value k 0 [] in
      let wb = few_code c b as_value k 0 [] in
      let left = spared (weight a) 12 (code c a as_value k) (λ l ws. few_code c a as_value k l ws) in
      let right = spared (weight b) 12 (code c b as_value (k + operand_width (kind_of c.names a))) (λ l ws. few_code c b as_value (k + operand_width (kind_of c.names a)) l ws) in
      let place = spared (weight a) 12 (reference c a k) (λ l ws. few_reference c a k l ws) in
      let first = few_connected op aim (λ v. code c a v k) (λ v. code c b v k) l ws
      (λ f. spared (weight a) 8 (code c a (as_test f) k) (λ l ws. few_code c a (as_test f) k l ws))
      (λ f. spared (weight b) 8 (code c b (as_test f) k) (λ l ws. few_code c b (as_test f) k l ws)) in
      let second = few_text_related (relation_number op) aim (reference c a k) (text_bytes b) l ws place in
      let third = few_operated op (class_of (kind_of c.names a) (kind_of c.names b)) aim _ l ws (few_then left right) in
      let text = text_weight b in
      chosen (is_connective op) (compares_text c.names op a b) _ _ _ (spare aim) _ l ws (omega arith) (omega arith) (omega arith)
  few_code c (tree.Tree.shift op e by at) aim k l ws =
      let h = closed _ aim l ws (few_then (spared (weight e) 12 (code c e as_value k) (λ l ws. few_code c e as_value k l ws)) (few_pieces {n = 1} (shift_operator op (small_constant c.names by)) (omega arith))) in
      let w = few_code c e as_value k 0 [] in omega arith
  few_code c (tree.Tree.field e start size at) aim k l ws =
      let h = closed _ aim l ws (few_then (spared (weight e) 12 (code c e as_value k) (λ l ws. few_code c e as_value k l ws)) (few_pieces {n = 1} _ (few_field (small_constant c.names start) (small_constant c.names size)))) in
      let w = few_code c e as_value k 0 [] in omega arith
  few_code c (tree.Tree.transfer to e at) aim k l ws =
      let h = closed _ aim l ws (few_then (spared (weight e) 12 (code c e as_value k) (λ l ws. few_code c e as_value k l ws)) (few_pieces {n = 3} _ (few_transfer to (kind_of c.names e)))) in
      let w = few_code c e as_value k 0 [] in omega arith
  few_code c (tree.Tree.bytes op a b count at) aim k l ws =
      let wa = few_reference c a k 0 [] in
      let wb = few_reference c b k 0 [] in
      let wc = few_code c count as_value k 0 [] in
      let left = spared (weight a) 12 (reference c a k) (λ l ws. few_reference c a k l ws) in
      let right = spared (weight b) 12 (reference c b (k + 1)) (λ l ws. few_reference c b (k + 1) l ws) in
      let last = spared (weight count) 12 (code c count as_value (k + 2)) (λ l ws. few_code c count as_value (k + 2) l ws) in
      let all = few_bytes_related op aim _ l ws (few_then (few_then left right) last) in
      omega arith

  pub few_index : (c : Scope) (es : Trees) (d : Bool) (k : ℕ) → Few (trees_weight es) (index c es d k)
  few_index c tree.Trees.none d k = few_pieces {n = 0} [] (omega arith)
  few_index c (tree.Trees.and e es) d k =
      let w = few_code c e as_value k 0 [] in
      few_more (few_then (spared (weight e) 12 (code c e as_value k) (λ l ws. few_code c e as_value k l ws)) (few_pieces {n = 2} (index_to_x d) (few_to_x d))) (omega arith)

  pub few_reference : (c : Scope) (e : Tree) (k l : ℕ) (ws : List Wanted) → count_of (reference c e k l ws).pieces + 12 ≤ weight e
  few_reference c (tree.Tree.named x es at) k l ws =
      let all = (few_then (few_index c es (leads_to_doubles (access_of (c.names x))) k) (few_addressed c x (is_indexed es) k)).few l ws in omega arith
  few_reference c (tree.Tree.number v) k l ws = omega arith
  few_reference c (tree.Tree.wide v) k l ws = omega arith
  few_reference c (tree.Tree.text bytes) k l ws = omega arith
  few_reference c (tree.Tree.truth b) k l ws = omega arith
  few_reference c (tree.Tree.address x es at) k l ws = omega arith
  few_reference c (tree.Tree.unary op e at) k l ws = omega arith
  few_reference c (tree.Tree.binary op a b at) k l ws = omega arith
  few_reference c (tree.Tree.shift op e by at) k l ws = omega arith
  few_reference c (tree.Tree.field e start size at) k l ws = omega arith
  few_reference c (tree.Tree.transfer to e at) k l ws = omega arith
  few_reference c (tree.Tree.bytes op a b count at) k l ws = omega arith

  pub few_arguments : (c : Scope) (fs : List Formal) (es : Trees) (k : ℕ) → Few (trees_weight es) (arguments c fs es k)
  few_arguments c [] tree.Trees.none k = few_pieces {n = 0} [] (omega arith)
  few_arguments c [] (tree.Trees.and e es) k = few_more (few_pieces {n = 0} [] (omega arith)) (omega arith)
  few_arguments c (f ∷ fs) tree.Trees.none k = few_pieces {n = 0} [] (omega arith)
  few_arguments c (f ∷ fs) (tree.Trees.and e es) k =
      let w = few_code c e as_value k 0 [] in
      few_more (few_then
      (few_argument f (code c e as_value k) (reference c e k) (spared (weight e) 12 (code c e as_value k) (λ l ws. few_code c e as_value k l ws))
      (spared (weight e) 12 (reference c e k) (λ l ws. few_reference c e k l ws)))
      (few_arguments c fs es (k + formal_words f))) (omega arith)
