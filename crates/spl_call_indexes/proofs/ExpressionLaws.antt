-- The calls in the code of an expression, along the tree.
use Rattle.std.proofs.Common.{◌≡◌, ◌<◌, ◌≤◌, arith, ℕ, ◌+◌, ◌%◌, ◌==◌, ◌&&◌, nat_lt, nat_le, ℤ, Bool, true, false, if◌then◌else◌, List, [], ◌∷◌, map, length, Option, Some, None, refl}
use Rattle.std.proofs.lemmas.Bool.{lt-ltb, and_from}
use Rattle.spl_module_code.specs.hp_word.Words.{word_of}
use Rattle.spl_module_code.specs.hp_word.Bytes.{high_word, low_word}
use Rattle.spl_module_code.specs.hp_instr.declared.instruction.Mode.{Mode}
use Rattle.spl_module_code.specs.spl_tree.declared.expressions.Kind.{Kind}
use Rattle.spl_module_code.specs.spl_tree.declared.expressions.Kind.TheVariants as kind
use Rattle.spl_module_code.specs.spl_tree.Trees as tree
use Rattle.spl_module_code.specs.spl_tree.Trees.{Tree, Trees}
use Rattle.spl_module_code.specs.spl_meaning.Names.{Formal, Profile, intrinsic_profile, text_value, truth_word}
use Rattle.spl_module_code.specs.spl_meaning.Kinds.{Operand, of, const, unknown, Class, integers, logicals, doubles, mixed, plus, minus, times, modulo, works_on_bits, positive, negative, lor_operator, xor_operator, kind_of, class_of, operand_width, is_connective, is_relation, compares_text, relation_number, or_operator}
use Rattle.spl_module_code.specs.spl_meaning.Pending.{by_value, formal_words, result_words}
use Rattle.spl_module_code.specs.spl_meaning.Places.{Place}
use Rattle.spl_module_code.specs.spl_meaning.References.{Access, its_own, by_address, by_cell, its_result, nowhere, access_of}
use Rattle.spl_module_code.specs.spl_meaning.Elements.{as_words}
use Rattle.spl_module_code.specs.spl_meaning.Values.{Who, procedure, subroutine, Sense, a_constant, an_intrinsic, a_call, a_variable, sense_of, text_bytes, small_constant}
use Rattle.spl_module_code.specs.spl_branch.declared.pieces.Piece.{Piece}
use Rattle.spl_module_code.specs.spl_branch.declared.pieces.Piece.TheVariants.{Literal, Place as PlaceOf, Mark}
use Rattle.spl_module_code.specs.spl_code.Instructions.{DEL, DELB, ZERO, ANDI, LDNI, BR, LSL, CMPB, LOAD_BEFORE}
use Rattle.spl_module_code.specs.spl_code.Parts.{Part, pieces, ◌⨟◌}
use Rattle.spl_module_code.specs.spl_code.Constants.{constant, double_constant, text_constant, number_constant, text_offset}
use Rattle.spl_module_code.specs.spl_code.Operators.{operator, class_operator, integer_operator, logical_operator, double_operator, bit_operator, comparison, sign_operator, minus_operator, shift_operator, field_operator, transfer, single, extension, as_parameter}
use Rattle.spl_module_code.specs.spl_code.Operands.{loaded, address, cell_address, leads_to_doubles, index_to_x, at_place, mode_of}
use Rattle.spl_module_code.specs.spl_code.Calls.{Scope, result_room, result_taken, called, procedure_called, subroutine_called}
use Rattle.spl_module_code.specs.spl_code.Code.{Aim, as_value, as_test, code, reference, index, arguments, argument, closing, condition, related, text_compared, variable, addressed, calling, named, is_indexed, connected, both_tested, either_tested, either_of, text_related, bytes_related, compared, operated}
use Rattle.spl_call_indexes.specs.Indexes.{IsIndexedPart, EntriesBelow}
use Rattle.spl_call_indexes.proofs.PartLaws.{Plain, plain_both, plain_if, indexed_pieces, indexed_then, indexed_fresh, indexed_if, indexed_want, front_same}

-- ---- constants and strings

pub plain_constant : (c : ℕ) → Plain (constant c)
plain_constant c = plain_if (nat_lt c 256) _ _ (λ m n. refl) (plain_if (nat_lt 65280 c) _ _ (λ m n. refl) (λ m n. refl))

pub plain_double : (d : ℕ) → Plain (double_constant d)
plain_double d = plain_both (constant (high_word d)) (constant (low_word d)) (plain_constant (high_word d)) (plain_constant (low_word d))

indexed_text : {n : ℕ} (o : Option ℕ) → IsIndexedPart n (text_constant o)
indexed_text (Some w) = indexed_pieces (constant (w % 65536)) (plain_constant (w % 65536))
indexed_text None = indexed_pieces [] (λ m n. refl)

indexed_number : {n : ℕ} (o : Option ℤ) → IsIndexedPart n (number_constant o)
indexed_number (Some v) = indexed_pieces (constant (word_of v)) (plain_constant (word_of v))
indexed_number None = indexed_pieces [] (λ m n. refl)

plain_literals : (ws : List ℕ) → Plain (map Literal ws)
plain_literals [] = λ m n. refl
plain_literals (w ∷ ws) = λ m n. plain_literals ws m n

pub indexed_offset : {n : ℕ} (bs : List ℕ) → IsIndexedPart n (text_offset bs)
indexed_offset bs = indexed_fresh _ (λ over. indexed_fresh _ (λ start.
    indexed_then (indexed_then (indexed_then (indexed_then (indexed_then (indexed_pieces (BR over ∷ []) (λ m n. refl)) (indexed_pieces (Mark start ∷ []) (λ m n. refl)))
    (indexed_pieces (map Literal (as_words bs)) (plain_literals (as_words bs)))) (indexed_pieces (PlaceOf start ∷ []) (λ m n. refl)))
    (indexed_pieces (Mark over ∷ []) (λ m n. refl))) (indexed_pieces (LOAD_BEFORE ∷ []) (λ m n. refl))))

indexed_text_compared : {n : ℕ} (bs : List ℕ) → IsIndexedPart n (text_compared bs)
indexed_text_compared bs =
    indexed_then (indexed_then (indexed_then (indexed_offset bs) (indexed_pieces (LSL 1 ∷ []) (λ m n. refl)))
    (indexed_pieces (constant (length bs % 65536)) (plain_constant (length bs % 65536)))) (indexed_pieces (CMPB 1 ∷ []) (λ m n. refl))

-- ---- operators

plain_rest : (b : Bool) → Plain ((if b then DELB else DEL) ∷ [])
plain_rest true = λ m n. refl
plain_rest false = λ m n. refl

plain_integers : (op : ℕ) → Plain (integer_operator op)
plain_integers op =
    plain_if (op == plus) _ _ (λ m n. refl) (plain_if (op == minus) _ _ (λ m n. refl) (plain_if (op == times) _ _ (λ m n. refl) (λ m n. plain_rest (op == modulo) m n)))

plain_logicals : (op : ℕ) → Plain (logical_operator op)
plain_logicals op =
    plain_if (op == plus) _ _ (λ m n. refl) (plain_if (op == minus) _ _ (λ m n. refl) (plain_if (op == times) _ _ (λ m n. refl) (λ m n. plain_rest (op == modulo) m n)))

plain_doubles : (op : ℕ) → Plain (double_operator op)
plain_doubles op = plain_if (op == plus) _ _ (λ m n. refl) (λ m n. refl)

plain_bits : (op : ℕ) → Plain (bit_operator op)
plain_bits op = plain_if (op == lor_operator) _ _ (λ m n. refl) (plain_if (op == xor_operator) _ _ (λ m n. refl) (λ m n. refl))

plain_class : (cl : Class) (op : ℕ) → Plain (class_operator cl op)
plain_class integers op = plain_integers op
plain_class logicals op = plain_logicals op
plain_class doubles op = plain_doubles op
plain_class mixed op = λ m n. refl

plain_operator : (cl : Class) (op : ℕ) → Plain (operator cl op)
plain_operator cl op = plain_if (works_on_bits op) _ _ (plain_bits op) (plain_class cl op)

plain_comparison : (cl : Class) → Plain (comparison cl)
plain_comparison integers = λ m n. refl
plain_comparison logicals = λ m n. refl
plain_comparison doubles = λ m n. refl
plain_comparison mixed = λ m n. refl

plain_minus : (k : Operand) → Plain (minus_operator k)
plain_minus (of kind.Integer) = λ m n. refl
plain_minus (of kind.Logical) = λ m n. refl
plain_minus (of kind.Byte) = λ m n. refl
plain_minus (of kind.Double) = λ m n. refl
plain_minus const = λ m n. refl
plain_minus unknown = λ m n. refl

plain_sign : (op : ℕ) (k : Operand) → Plain (sign_operator op k)
plain_sign op k = plain_if (op == positive) _ _ (λ m n. refl) (plain_if (op == negative) _ _ (plain_minus k) (λ m n. refl))

plain_field : (start size : ℕ) → Plain (field_operator start size)
plain_field start size = plain_if (nat_le 1 size && nat_le (start + size) 16) _ _ (λ m n. refl) (λ m n. refl)

plain_single : (k : Operand) → Plain (single k)
plain_single (of kind.Integer) = λ m n. refl
plain_single (of kind.Logical) = λ m n. refl
plain_single (of kind.Byte) = λ m n. refl
plain_single (of kind.Double) = λ m n. refl
plain_single const = λ m n. refl
plain_single unknown = λ m n. refl

plain_extension : (k : Operand) → Plain (extension k)
plain_extension (of kind.Integer) = λ m n. refl
plain_extension (of kind.Logical) = λ m n. refl
plain_extension (of kind.Byte) = λ m n. refl
plain_extension (of kind.Double) = λ m n. refl
plain_extension const = λ m n. refl
plain_extension unknown = λ m n. refl

plain_transfer : (to : Kind) (k : Operand) → Plain (transfer to k)
plain_transfer kind.Integer k = plain_single k
plain_transfer kind.Logical k = plain_single k
plain_transfer kind.Byte k = plain_both (single k) (ANDI 255 ∷ []) (plain_single k) (λ m n. refl)
plain_transfer kind.Double k = plain_extension k

plain_passed : (k : Option Kind) → Plain (as_parameter k)
plain_passed None = λ m n. refl
plain_passed (Some kind.Integer) = λ m n. refl
plain_passed (Some kind.Logical) = λ m n. refl
plain_passed (Some kind.Byte) = λ m n. refl
plain_passed (Some kind.Double) = λ m n. refl

-- ---- names

plain_loaded : (a : Access) (x : Bool) (mode : Mode) → Plain (loaded a x mode)
plain_loaded (its_own kind.Integer) x mode = λ m n. refl
plain_loaded (its_own kind.Logical) x mode = λ m n. refl
plain_loaded (its_own kind.Byte) x mode = λ m n. refl
plain_loaded (its_own kind.Double) x mode = λ m n. refl
plain_loaded (by_address kind.Integer) x mode = λ m n. refl
plain_loaded (by_address kind.Logical) x mode = λ m n. refl
plain_loaded (by_address kind.Byte) x mode = λ m n. refl
plain_loaded (by_address kind.Double) x mode = λ m n. refl
plain_loaded (by_cell p kind.Integer) x mode = λ m n. refl
plain_loaded (by_cell p kind.Logical) x mode = λ m n. refl
plain_loaded (by_cell p kind.Byte) x mode = λ m n. refl
plain_loaded (by_cell p kind.Double) x mode = λ m n. refl
plain_loaded its_result x mode = λ m n. refl
plain_loaded nowhere x mode = λ m n. refl

plain_cell : (x : Bool) (mode : Mode) → Plain (cell_address x mode)
plain_cell true mode = λ m n. refl
plain_cell false mode = λ m n. refl

plain_address : (a : Access) (x : Bool) (mode : Mode) → Plain (address a x mode)
plain_address (its_own kind.Integer) x mode = λ m n. refl
plain_address (its_own kind.Logical) x mode = λ m n. refl
plain_address (its_own kind.Byte) x mode = λ m n. refl
plain_address (its_own kind.Double) x mode = λ m n. refl
plain_address (by_address k) x mode = plain_cell x mode
plain_address (by_cell p k) x mode = plain_cell x mode
plain_address its_result x mode = λ m n. refl
plain_address nowhere x mode = λ m n. refl

pub plain_at : (o : Option Place) (f : Place → List Piece) → ((p : Place) → Plain (f p)) → Plain (at_place o f)
plain_at (Some p) f h = h p
plain_at None f h = λ m n. refl

pub indexed_variable : {n : ℕ} (c : Scope) (x : List ℕ) (i : Bool) (k : ℕ) → IsIndexedPart n (variable c x i k)
indexed_variable c x i k = indexed_pieces (at_place (c.places x) (λ p. loaded (access_of (c.names x)) i (mode_of k p)))
    (plain_at (c.places x) _ (λ p. plain_loaded (access_of (c.names x)) i (mode_of k p)))

indexed_addressed : {n : ℕ} (c : Scope) (x : List ℕ) (i : Bool) (k : ℕ) → IsIndexedPart n (addressed c x i k)
indexed_addressed c x i k = indexed_pieces (at_place (c.places x) (λ p. address (access_of (c.names x)) i (mode_of k p)))
    (plain_at (c.places x) _ (λ p. plain_address (access_of (c.names x)) i (mode_of k p)))

plain_to_x : (d : Bool) → Plain (index_to_x d)
plain_to_x true = λ m n. refl
plain_to_x false = λ m n. refl

plain_room : (o : Option Kind) → Plain (result_room o)
plain_room None = λ m n. refl
plain_room (Some kind.Integer) = λ m n. refl
plain_room (Some kind.Logical) = λ m n. refl
plain_room (Some kind.Byte) = λ m n. refl
plain_room (Some kind.Double) = λ m n. refl

plain_taken : (o : Option Kind) → Plain (result_taken o)
plain_taken None = λ m n. refl
plain_taken (Some kind.Integer) = λ m n. refl
plain_taken (Some kind.Logical) = λ m n. refl
plain_taken (Some kind.Byte) = λ m n. refl
plain_taken (Some kind.Double) = λ m n. refl

-- ---- calls

below_true : (entry n : ℕ) → entry < n → (nat_lt entry n && true) ≡ true
below_true entry n lt = and_from (nat_lt entry n) true (lt-ltb entry n lt) refl

same_length : (n : ℕ) → n ≤ n
same_length n = omega arith

indexed_procedure : {n : ℕ} (x : List ℕ) (o : Option ℕ) → ((entry : ℕ) → o ≡ Some entry → entry < n) → IsIndexedPart n (procedure_called x o)
indexed_procedure {n} x (Some entry) below =
    record { grows = λ l ws. same_length (length ws); keeps = λ l ws. front_same ws; calls = λ l ws. below_true entry n (below entry refl) }
indexed_procedure x None below = indexed_want x false

indexed_subroutine : {n : ℕ} (o : Option ℕ) → ((entry : ℕ) → o ≡ Some entry → entry < n) → IsIndexedPart n (subroutine_called o)
indexed_subroutine {n} (Some entry) below =
    record { grows = λ l ws. same_length (length ws); keeps = λ l ws. front_same ws; calls = λ l ws. below_true entry n (below entry refl) }
indexed_subroutine None below = indexed_pieces [] (λ m n. refl)

indexed_called : {n : ℕ} (c : Scope) → EntriesBelow n c → (w : Who) → IsIndexedPart n (called c w)
indexed_called c below (procedure x) = indexed_procedure x (c.procedures x) (below.procedures x)
indexed_called c below (subroutine x) = indexed_subroutine (c.subroutines x) (below.subroutines x)

indexed_calling : {n : ℕ} (p : Profile) (args call : Part) → IsIndexedPart n args → IsIndexedPart n call → IsIndexedPart n (calling p args call)
indexed_calling p args call a b =
    indexed_then (indexed_then (indexed_then (indexed_pieces (result_room p.result) (plain_room p.result)) a) b) (indexed_pieces (result_taken p.result) (plain_taken p.result))

pub indexed_named : {n : ℕ} (c : Scope) → EntriesBelow n c → (x : List ℕ) (s : Sense) (args : Profile → Part) (at : Part)
    → ((p : Profile) → IsIndexedPart n (args p)) → IsIndexedPart n at → IsIndexedPart n (named c x s args at)
indexed_named c below x (a_constant v) args at a b = indexed_number v
indexed_named c below x (an_intrinsic i) args at a b = indexed_calling (intrinsic_profile i) _ _ (a (intrinsic_profile i)) (indexed_want x true)
indexed_named c below x (a_call w p) args at a b = indexed_calling p _ _ (a p) (indexed_called c below w)
indexed_named c below x a_variable args at a b = b

-- ---- tests

indexed_closing : {n : ℕ} (aim : Aim) → IsIndexedPart n (closing aim)
indexed_closing as_value = indexed_pieces [] (λ m n. refl)
indexed_closing (as_test fail) = indexed_pieces _ (λ m n. refl)

-- a value and its closing
closed : {n : ℕ} {p : Part} (aim : Aim) → IsIndexedPart n p → IsIndexedPart n (p ⨟ closing aim)
closed aim h = indexed_then h (indexed_closing aim)

indexed_condition : {n : ℕ} (aim : Aim) (test : ℕ → Part) → ((f : ℕ) → IsIndexedPart n (test f)) → IsIndexedPart n (condition aim test)
indexed_condition (as_test f) test h = h f
indexed_condition as_value test h = indexed_fresh _ (λ fail. indexed_fresh _ (λ end.
    indexed_then (indexed_then (indexed_then (indexed_then (indexed_then (h fail) (indexed_pieces (LDNI 1 ∷ []) (λ m n. refl))) (indexed_pieces (BR end ∷ []) (λ m n. refl)))
    (indexed_pieces (Mark fail ∷ []) (λ m n. refl))) (indexed_pieces (ZERO ∷ []) (λ m n. refl))) (indexed_pieces (Mark end ∷ []) (λ m n. refl))))

pub indexed_related : {n : ℕ} (op f : ℕ) → IsIndexedPart n (related op f)
indexed_related op f = indexed_pieces _ (λ m n. refl)

indexed_operated : {n : ℕ} (op : ℕ) (cl : Class) (aim : Aim) (p : Part) → IsIndexedPart n p → IsIndexedPart n (operated op cl aim p)
indexed_operated op cl aim p h =
    indexed_if (is_relation op) (compared (relation_number op) cl aim p) (p ⨟ pieces (operator cl op) ⨟ closing aim)
    (indexed_condition aim _ (λ fail. indexed_then (indexed_then h (indexed_pieces (comparison cl) (plain_comparison cl))) (indexed_related (relation_number op) fail)))
    (closed aim (indexed_then h (indexed_pieces (operator cl op) (plain_operator cl op))))

indexed_text_related : {n : ℕ} (op : ℕ) (aim : Aim) (p : Part) (bs : List ℕ) → IsIndexedPart n p → IsIndexedPart n (text_related op aim p bs)
indexed_text_related op aim p bs h = indexed_condition aim _ (λ fail. indexed_then (indexed_then h (indexed_text_compared bs)) (indexed_related op fail))

indexed_bytes_related : {n : ℕ} (op : ℕ) (aim : Aim) (p : Part) → IsIndexedPart n p → IsIndexedPart n (bytes_related op aim p)
indexed_bytes_related op aim p h =
    indexed_condition aim _ (λ fail. indexed_then (indexed_then h (indexed_pieces (CMPB 0 ∷ []) (λ m n. refl))) (indexed_related op fail))

indexed_connected : {n : ℕ} (op : ℕ) (aim : Aim) (x y : Aim → Part) → ((f : ℕ) → IsIndexedPart n (x (as_test f))) → ((f : ℕ) → IsIndexedPart n (y (as_test f)))
    → IsIndexedPart n (connected op aim x y)
indexed_connected {n} op aim x y hx hy =
    indexed_if (op == or_operator) (either_tested aim x y) (both_tested aim x y)
    (indexed_condition aim (either_of x y) either) (indexed_condition aim _ (λ fail. indexed_then (hx fail) (hy fail)))
  where
    either : (fail : ℕ) → IsIndexedPart n (either_of x y fail)
    either fail = indexed_fresh _ (λ next. indexed_fresh _ (λ over.
        indexed_then (indexed_then (indexed_then (indexed_then (hx next) (indexed_pieces (BR over ∷ []) (λ m n. refl))) (indexed_pieces (Mark next ∷ []) (λ m n. refl))) (hy fail))
        (indexed_pieces (Mark over ∷ []) (λ m n. refl))))

-- ---- along the tree

indexed_argument : {n : ℕ} (f : Formal) (v a : Part) → IsIndexedPart n v → IsIndexedPart n a → IsIndexedPart n (argument f v a)
indexed_argument f v a hv ha =
    indexed_if (by_value f) (v ⨟ pieces (as_parameter f.kind)) a (indexed_then hv (indexed_pieces (as_parameter f.kind) (plain_passed f.kind))) ha

mutual
  pub indexed_code : (n : ℕ) (c : Scope) → EntriesBelow n c → (e : Tree) (aim : Aim) (k : ℕ) → IsIndexedPart n (code c e aim k)
  indexed_code n c below (tree.Tree.number v) aim k = closed aim (indexed_pieces (constant (v % 65536)) (plain_constant (v % 65536)))
  indexed_code n c below (tree.Tree.wide v) aim k = closed aim (indexed_pieces (double_constant (v % 4294967296)) (plain_double (v % 4294967296)))
  indexed_code n c below (tree.Tree.text bytes) aim k = closed aim (indexed_text (text_value bytes))
  indexed_code n c below (tree.Tree.truth b) aim k = closed aim (indexed_pieces (constant (truth_word b)) (plain_constant (truth_word b)))
  indexed_code n c below (tree.Tree.named x es at) aim k =
      closed aim (indexed_named c below x (sense_of x (c.names x)) (λ p. arguments c p.formals es (k + result_words p)) (index c es false k ⨟ variable c x (is_indexed es) k)
      (λ (p : Profile). indexed_arguments n c below p.formals es (k + result_words p))
      (indexed_then (indexed_index n c below es false k) (indexed_variable c x (is_indexed es) k)))
  indexed_code n c below (tree.Tree.address x es at) aim k =
      closed aim (indexed_then (indexed_index n c below es (leads_to_doubles (access_of (c.names x))) k) (indexed_addressed c x (is_indexed es) k))
  indexed_code n c below (tree.Tree.unary op e at) aim k =
      closed aim (indexed_then (indexed_code n c below e as_value k) (indexed_pieces (sign_operator op (kind_of c.names e)) (plain_sign op (kind_of c.names e))))
  indexed_code n c below (tree.Tree.binary op a b at) aim k =
      indexed_if (is_connective op) _ _ (indexed_connected op aim (λ v. code c a v k) (λ v. code c b v k)
      (λ f. indexed_code n c below a (as_test f) k) (λ f. indexed_code n c below b (as_test f) k))
      (indexed_if (compares_text c.names op a b) _ _ (indexed_text_related (relation_number op) aim (reference c a k) (text_bytes b) (indexed_reference n c below a k))
      (indexed_operated op (class_of (kind_of c.names a) (kind_of c.names b)) aim _
      (indexed_then (indexed_code n c below a as_value k) (indexed_code n c below b as_value (k + operand_width (kind_of c.names a))))))
  indexed_code n c below (tree.Tree.shift op e by at) aim k =
      closed aim (indexed_then (indexed_code n c below e as_value k) (indexed_pieces (shift_operator op (small_constant c.names by)) (λ m n. refl)))
  indexed_code n c below (tree.Tree.field e start size at) aim k =
      closed aim (indexed_then (indexed_code n c below e as_value k)
      (indexed_pieces (field_operator (small_constant c.names start) (small_constant c.names size)) (plain_field (small_constant c.names start) (small_constant c.names size))))
  indexed_code n c below (tree.Tree.transfer to e at) aim k =
      closed aim (indexed_then (indexed_code n c below e as_value k) (indexed_pieces (transfer to (kind_of c.names e)) (plain_transfer to (kind_of c.names e))))
  indexed_code n c below (tree.Tree.bytes op a b count at) aim k =
      indexed_bytes_related op aim _
      (indexed_then (indexed_then (indexed_reference n c below a k) (indexed_reference n c below b (k + 1))) (indexed_code n c below count as_value (k + 2)))

  pub indexed_index : (n : ℕ) (c : Scope) → EntriesBelow n c → (es : Trees) (d : Bool) (k : ℕ) → IsIndexedPart n (index c es d k)
  indexed_index n c below tree.Trees.none d k = indexed_pieces [] (λ m n. refl)
  indexed_index n c below (tree.Trees.and e es) d k = indexed_then (indexed_code n c below e as_value k) (indexed_pieces (index_to_x d) (plain_to_x d))

  pub indexed_reference : (n : ℕ) (c : Scope) → EntriesBelow n c → (e : Tree) (k : ℕ) → IsIndexedPart n (reference c e k)
  indexed_reference n c below (tree.Tree.named x es at) k =
      indexed_then (indexed_index n c below es (leads_to_doubles (access_of (c.names x))) k) (indexed_addressed c x (is_indexed es) k)
  indexed_reference n c below (tree.Tree.number v) k = indexed_pieces [] (λ m n. refl)
  indexed_reference n c below (tree.Tree.wide v) k = indexed_pieces [] (λ m n. refl)
  indexed_reference n c below (tree.Tree.text bytes) k = indexed_pieces [] (λ m n. refl)
  indexed_reference n c below (tree.Tree.truth b) k = indexed_pieces [] (λ m n. refl)
  indexed_reference n c below (tree.Tree.address x es at) k = indexed_pieces [] (λ m n. refl)
  indexed_reference n c below (tree.Tree.unary op e at) k = indexed_pieces [] (λ m n. refl)
  indexed_reference n c below (tree.Tree.binary op a b at) k = indexed_pieces [] (λ m n. refl)
  indexed_reference n c below (tree.Tree.shift op e by at) k = indexed_pieces [] (λ m n. refl)
  indexed_reference n c below (tree.Tree.field e start size at) k = indexed_pieces [] (λ m n. refl)
  indexed_reference n c below (tree.Tree.transfer to e at) k = indexed_pieces [] (λ m n. refl)
  indexed_reference n c below (tree.Tree.bytes op a b count at) k = indexed_pieces [] (λ m n. refl)

  pub indexed_arguments : (n : ℕ) (c : Scope) → EntriesBelow n c → (fs : List Formal) (es : Trees) (k : ℕ) → IsIndexedPart n (arguments c fs es k)
  indexed_arguments n c below [] tree.Trees.none k = indexed_pieces [] (λ m n. refl)
  indexed_arguments n c below [] (tree.Trees.and e es) k = indexed_pieces [] (λ m n. refl)
  indexed_arguments n c below (f ∷ fs) tree.Trees.none k = indexed_pieces [] (λ m n. refl)
  indexed_arguments n c below (f ∷ fs) (tree.Trees.and e es) k =
      indexed_then (indexed_argument f (code c e as_value k) (reference c e k) (indexed_code n c below e as_value k) (indexed_reference n c below e k))
      (indexed_arguments n c below fs es (k + formal_words f))
