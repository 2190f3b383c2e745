-- The pieces of the code of an expression, along the tree.
use Rattle.std.proofs.Common.{ℕ, ◌+◌, ◌%◌, ◌==◌, ◌&&◌, nat_lt, nat_le, ℤ, Bool, true, false, if◌then◌else◌, List, [], ◌∷◌, map, length, Option, Some, None, refl}
use Rattle.spl_module_code.specs.hp_word.Words.{word_of}
use Rattle.spl_module_code.specs.hp_word.Bytes.{high_word, low_word}
use Rattle.spl_sites.specs.hp_instr.declared.instruction.Instr.TheVariants as i
use Rattle.spl_sites.specs.hp_instr.declared.instruction.Mode.{Mode}
use Rattle.spl_module_code.specs.spl_tree.declared.expressions.Kind.{Kind}
use Rattle.spl_module_code.specs.spl_tree.declared.expressions.Kind.TheVariants as kind
use Rattle.spl_module_code.specs.spl_tree.Trees as tree
use Rattle.spl_module_code.specs.spl_tree.Trees.{Tree, Trees}
use Rattle.spl_module_code.specs.spl_meaning.Names.{Formal, Profile, intrinsic_profile, text_value, truth_word}
use Rattle.spl_module_code.specs.spl_meaning.Kinds.{Operand, of, const, unknown, Class, integers, logicals, doubles, mixed, plus, minus, times, modulo, works_on_bits, positive, negative, lor_operator, xor_operator, kind_of, class_of, operand_width, is_connective, is_relation, compares_text, relation_number, or_operator}
use Rattle.spl_module_code.specs.spl_meaning.Pending.{by_value, formal_words, result_words}
use Rattle.spl_module_code.specs.spl_meaning.Places.{Place}
use Rattle.spl_module_code.specs.spl_meaning.References.{Access, its_own, by_address, by_cell, its_result, nowhere, access_of}
use Rattle.spl_module_code.specs.spl_meaning.Elements.{as_words}
use Rattle.spl_module_code.specs.spl_meaning.Values.{Who, procedure, subroutine, Sense, a_constant, an_intrinsic, a_call, a_variable, sense_of, text_bytes, small_constant}
use Rattle.spl_module_code.specs.spl_branch.declared.pieces.Piece.{Piece}
use Rattle.spl_module_code.specs.spl_branch.declared.pieces.Piece.TheVariants.{Literal, Place as PlaceOf, Mark, Call}
use Rattle.spl_module_code.specs.spl_code.Instructions.{DEL, DELB, ZERO, ANDI, LDNI, BR, LSL, CMPB, LOAD_BEFORE}
use Rattle.spl_module_code.specs.spl_code.Parts.{Part, pieces, ◌⨟◌}
use Rattle.spl_module_code.specs.spl_code.Constants.{constant, double_constant, text_constant, number_constant, text_offset}
use Rattle.spl_module_code.specs.spl_code.Operators.{operator, class_operator, integer_operator, logical_operator, double_operator, bit_operator, comparison, sign_operator, minus_operator, shift_operator, field_operator, transfer, single, extension, as_parameter}
use Rattle.spl_module_code.specs.spl_code.Operands.{loaded, address, cell_address, leads_to_doubles, index_to_x, at_place, mode_of}
use Rattle.spl_module_code.specs.spl_code.Calls.{Scope, result_room, result_taken, called, procedure_called, subroutine_called}
use Rattle.spl_module_code.specs.spl_code.Code.{Aim, as_value, as_test, code, reference, index, arguments, argument, closing, condition, related, text_compared, variable, addressed, calling, named, is_indexed, connected, both_tested, either_tested, either_of, text_related, bytes_related, compared, operated}
use Rattle.spl_piece_kinds.specs.Kinds.{HasKinds}
use Rattle.spl_piece_kinds.proofs.PartLaws.{Plain, plain_both, plain_if, kinds_pieces, kinds_then, kinds_fresh, kinds_if, kinds_want}

-- ---- constants and strings

pub plain_constant : (c : ℕ) → Plain (constant c)
plain_constant c = plain_if (nat_lt c 256) _ _ refl (plain_if (nat_lt 65280 c) _ _ refl refl)

pub plain_double : (d : ℕ) → Plain (double_constant d)
plain_double d = plain_both (constant (high_word d)) (constant (low_word d)) (plain_constant (high_word d)) (plain_constant (low_word d))

kinds_text : (o : Option ℕ) → HasKinds (text_constant o)
kinds_text (Some w) = kinds_pieces (constant (w % 65536)) (plain_constant (w % 65536))
kinds_text None = kinds_pieces [] refl

kinds_number : (o : Option ℤ) → HasKinds (number_constant o)
kinds_number (Some v) = kinds_pieces (constant (word_of v)) (plain_constant (word_of v))
kinds_number None = kinds_pieces [] refl

plain_literals : (ws : List ℕ) → Plain (map Literal ws)
plain_literals [] = refl
plain_literals (w ∷ ws) = plain_literals ws

pub kinds_offset : (bs : List ℕ) → HasKinds (text_offset bs)
kinds_offset bs = kinds_fresh _ (λ over. kinds_fresh _ (λ start.
    kinds_then (kinds_then (kinds_then (kinds_then (kinds_then (kinds_pieces (BR over ∷ []) refl) (kinds_pieces (Mark start ∷ []) refl))
    (kinds_pieces (map Literal (as_words bs)) (plain_literals (as_words bs)))) (kinds_pieces (PlaceOf start ∷ []) refl))
    (kinds_pieces (Mark over ∷ []) refl)) (kinds_pieces (LOAD_BEFORE ∷ []) refl)))

kinds_text_compared : (bs : List ℕ) → HasKinds (text_compared bs)
kinds_text_compared bs =
    kinds_then (kinds_then (kinds_then (kinds_offset bs) (kinds_pieces (LSL 1 ∷ []) refl))
    (kinds_pieces (constant (length bs % 65536)) (plain_constant (length bs % 65536)))) (kinds_pieces (CMPB 1 ∷ []) refl)

-- ---- operators

plain_rest : (b : Bool) → Plain ((if b then DELB else DEL) ∷ [])
plain_rest true = refl
plain_rest false = refl

plain_integers : (op : ℕ) → Plain (integer_operator op)
plain_integers op =
    plain_if (op == plus) _ _ refl (plain_if (op == minus) _ _ refl (plain_if (op == times) _ _ refl (plain_rest (op == modulo))))

plain_logicals : (op : ℕ) → Plain (logical_operator op)
plain_logicals op =
    plain_if (op == plus) _ _ refl (plain_if (op == minus) _ _ refl (plain_if (op == times) _ _ refl (plain_rest (op == modulo))))

plain_doubles : (op : ℕ) → Plain (double_operator op)
plain_doubles op = plain_if (op == plus) _ _ refl refl

plain_bits : (op : ℕ) → Plain (bit_operator op)
plain_bits op = plain_if (op == lor_operator) _ _ refl (plain_if (op == xor_operator) _ _ refl refl)

plain_class : (cl : Class) (op : ℕ) → Plain (class_operator cl op)
plain_class integers op = plain_integers op
plain_class logicals op = plain_logicals op
plain_class doubles op = plain_doubles op
plain_class mixed op = refl

plain_operator : (cl : Class) (op : ℕ) → Plain (operator cl op)
plain_operator cl op = plain_if (works_on_bits op) _ _ (plain_bits op) (plain_class cl op)

plain_comparison : (cl : Class) → Plain (comparison cl)
plain_comparison integers = refl
plain_comparison logicals = refl
plain_comparison doubles = refl
plain_comparison mixed = refl

plain_minus : (k : Operand) → Plain (minus_operator k)
plain_minus (of kind.Integer) = refl
plain_minus (of kind.Logical) = refl
plain_minus (of kind.Byte) = refl
plain_minus (of kind.Double) = refl
plain_minus const = refl
plain_minus unknown = refl

plain_sign : (op : ℕ) (k : Operand) → Plain (sign_operator op k)
plain_sign op k = plain_if (op == positive) _ _ refl (plain_if (op == negative) _ _ (plain_minus k) refl)

plain_field : (start size : ℕ) → Plain (field_operator start size)
plain_field start size = plain_if (nat_le 1 size && nat_le (start + size) 16) _ _ refl refl

plain_single : (k : Operand) → Plain (single k)
plain_single (of kind.Integer) = refl
plain_single (of kind.Logical) = refl
plain_single (of kind.Byte) = refl
plain_single (of kind.Double) = refl
plain_single const = refl
plain_single unknown = refl

plain_extension : (k : Operand) → Plain (extension k)
plain_extension (of kind.Integer) = refl
plain_extension (of kind.Logical) = refl
plain_extension (of kind.Byte) = refl
plain_extension (of kind.Double) = refl
plain_extension const = refl
plain_extension unknown = refl

plain_transfer : (to : Kind) (k : Operand) → Plain (transfer to k)
plain_transfer kind.Integer k = plain_single k
plain_transfer kind.Logical k = plain_single k
plain_transfer kind.Byte k = plain_both (single k) (ANDI 255 ∷ []) (plain_single k) refl
plain_transfer kind.Double k = plain_extension k

plain_passed : (k : Option Kind) → Plain (as_parameter k)
plain_passed None = refl
plain_passed (Some kind.Integer) = refl
plain_passed (Some kind.Logical) = refl
plain_passed (Some kind.Byte) = refl
plain_passed (Some kind.Double) = refl

-- ---- names

plain_loaded : (a : Access) (x : Bool) (mode : Mode) → Plain (loaded a x mode)
plain_loaded (its_own kind.Integer) x mode = refl
plain_loaded (its_own kind.Logical) x mode = refl
plain_loaded (its_own kind.Byte) x mode = refl
plain_loaded (its_own kind.Double) x mode = refl
plain_loaded (by_address kind.Integer) x mode = refl
plain_loaded (by_address kind.Logical) x mode = refl
plain_loaded (by_address kind.Byte) x mode = refl
plain_loaded (by_address kind.Double) x mode = refl
plain_loaded (by_cell p kind.Integer) x mode = refl
plain_loaded (by_cell p kind.Logical) x mode = refl
plain_loaded (by_cell p kind.Byte) x mode = refl
plain_loaded (by_cell p kind.Double) x mode = refl
plain_loaded its_result x mode = refl
plain_loaded nowhere x mode = refl

plain_cell : (x : Bool) (mode : Mode) → Plain (cell_address x mode)
plain_cell true mode = refl
plain_cell false mode = refl

plain_address : (a : Access) (x : Bool) (mode : Mode) → Plain (address a x mode)
plain_address (its_own kind.Integer) x mode = refl
plain_address (its_own kind.Logical) x mode = refl
plain_address (its_own kind.Byte) x mode = refl
plain_address (its_own kind.Double) x mode = refl
plain_address (by_address k) x mode = plain_cell x mode
plain_address (by_cell p k) x mode = plain_cell x mode
plain_address its_result x mode = refl
plain_address nowhere x mode = refl

pub plain_at : (o : Option Place) (f : Place → List Piece) → ((p : Place) → Plain (f p)) → Plain (at_place o f)
plain_at (Some p) f h = h p
plain_at None f h = refl

pub kinds_variable : (c : Scope) (x : List ℕ) (i : Bool) (k : ℕ) → HasKinds (variable c x i k)
kinds_variable c x i k = kinds_pieces (at_place (c.places x) (λ p. loaded (access_of (c.names x)) i (mode_of k p)))
    (plain_at (c.places x) _ (λ p. plain_loaded (access_of (c.names x)) i (mode_of k p)))

kinds_addressed : (c : Scope) (x : List ℕ) (i : Bool) (k : ℕ) → HasKinds (addressed c x i k)
kinds_addressed c x i k = kinds_pieces (at_place (c.places x) (λ p. address (access_of (c.names x)) i (mode_of k p)))
    (plain_at (c.places x) _ (λ p. plain_address (access_of (c.names x)) i (mode_of k p)))

plain_to_x : (d : Bool) → Plain (index_to_x d)
plain_to_x true = refl
plain_to_x false = refl

plain_room : (o : Option Kind) → Plain (result_room o)
plain_room None = refl
plain_room (Some kind.Integer) = refl
plain_room (Some kind.Logical) = refl
plain_room (Some kind.Byte) = refl
plain_room (Some kind.Double) = refl

plain_taken : (o : Option Kind) → Plain (result_taken o)
plain_taken None = refl
plain_taken (Some kind.Integer) = refl
plain_taken (Some kind.Logical) = refl
plain_taken (Some kind.Byte) = refl
plain_taken (Some kind.Double) = refl

-- ---- calls

kinds_procedure : (x : List ℕ) (o : Option ℕ) → HasKinds (procedure_called x o)
kinds_procedure x (Some entry) = kinds_pieces (Call (i.Control 0 0) false entry ∷ []) refl
kinds_procedure x None = kinds_want x false

kinds_subroutine : (o : Option ℕ) → HasKinds (subroutine_called o)
kinds_subroutine (Some entry) = kinds_pieces (Call (i.Control 3 0) false entry ∷ []) refl
kinds_subroutine None = kinds_pieces [] refl

kinds_called : (c : Scope) (w : Who) → HasKinds (called c w)
kinds_called c (procedure x) = kinds_procedure x (c.procedures x)
kinds_called c (subroutine x) = kinds_subroutine (c.subroutines x)

kinds_calling : (p : Profile) (args call : Part) → HasKinds args → HasKinds call → HasKinds (calling p args call)
kinds_calling p args call a b =
    kinds_then (kinds_then (kinds_then (kinds_pieces (result_room p.result) (plain_room p.result)) a) b) (kinds_pieces (result_taken p.result) (plain_taken p.result))

pub kinds_named : (c : Scope) (x : List ℕ) (s : Sense) (args : Profile → Part) (at : Part)
    → ((p : Profile) → HasKinds (args p)) → HasKinds at → HasKinds (named c x s args at)
kinds_named c x (a_constant v) args at a b = kinds_number v
kinds_named c x (an_intrinsic i) args at a b = kinds_calling (intrinsic_profile i) _ _ (a (intrinsic_profile i)) (kinds_want x true)
kinds_named c x (a_call w p) args at a b = kinds_calling p _ _ (a p) (kinds_called c w)
kinds_named c x a_variable args at a b = b

-- ---- tests

kinds_closing : (aim : Aim) → HasKinds (closing aim)
kinds_closing as_value = kinds_pieces [] refl
kinds_closing (as_test fail) = kinds_pieces _ refl

-- a value and its closing
closed : {p : Part} (aim : Aim) → HasKinds p → HasKinds (p ⨟ closing aim)
closed aim h = kinds_then h (kinds_closing aim)

kinds_condition : (aim : Aim) (test : ℕ → Part) → ((f : ℕ) → HasKinds (test f)) → HasKinds (condition aim test)
kinds_condition (as_test f) test h = h f
kinds_condition as_value test h = kinds_fresh _ (λ fail. kinds_fresh _ (λ end.
    kinds_then (kinds_then (kinds_then (kinds_then (kinds_then (h fail) (kinds_pieces (LDNI 1 ∷ []) refl)) (kinds_pieces (BR end ∷ []) refl))
    (kinds_pieces (Mark fail ∷ []) refl)) (kinds_pieces (ZERO ∷ []) refl)) (kinds_pieces (Mark end ∷ []) refl)))

pub kinds_related : (op f : ℕ) → HasKinds (related op f)
kinds_related op f = kinds_pieces _ refl

kinds_operated : (op : ℕ) (cl : Class) (aim : Aim) (p : Part) → HasKinds p → HasKinds (operated op cl aim p)
kinds_operated op cl aim p h =
    kinds_if (is_relation op) (compared (relation_number op) cl aim p) (p ⨟ pieces (operator cl op) ⨟ closing aim)
    (kinds_condition aim _ (λ fail. kinds_then (kinds_then h (kinds_pieces (comparison cl) (plain_comparison cl))) (kinds_related (relation_number op) fail)))
    (closed aim (kinds_then h (kinds_pieces (operator cl op) (plain_operator cl op))))

kinds_text_related : (op : ℕ) (aim : Aim) (p : Part) (bs : List ℕ) → HasKinds p → HasKinds (text_related op aim p bs)
kinds_text_related op aim p bs h = kinds_condition aim _ (λ fail. kinds_then (kinds_then h (kinds_text_compared bs)) (kinds_related op fail))

kinds_bytes_related : (op : ℕ) (aim : Aim) (p : Part) → HasKinds p → HasKinds (bytes_related op aim p)
kinds_bytes_related op aim p h =
    kinds_condition aim _ (λ fail. kinds_then (kinds_then h (kinds_pieces (CMPB 0 ∷ []) refl)) (kinds_related op fail))

kinds_connected : (op : ℕ) (aim : Aim) (x y : Aim → Part) → ((f : ℕ) → HasKinds (x (as_test f))) → ((f : ℕ) → HasKinds (y (as_test f)))
    → HasKinds (connected op aim x y)
kinds_connected op aim x y hx hy =
    kinds_if (op == or_operator) (either_tested aim x y) (both_tested aim x y)
    (kinds_condition aim (either_of x y) either) (kinds_condition aim _ (λ fail. kinds_then (hx fail) (hy fail)))
  where
    either : (fail : ℕ) → HasKinds (either_of x y fail)
    either fail = kinds_fresh _ (λ next. kinds_fresh _ (λ over.
        kinds_then (kinds_then (kinds_then (kinds_then (hx next) (kinds_pieces (BR over ∷ []) refl)) (kinds_pieces (Mark next ∷ []) refl)) (hy fail))
        (kinds_pieces (Mark over ∷ []) refl)))

-- ---- along the tree

kinds_argument : (f : Formal) (v a : Part) → HasKinds v → HasKinds a → HasKinds (argument f v a)
kinds_argument f v a hv ha =
    kinds_if (by_value f) (v ⨟ pieces (as_parameter f.kind)) a (kinds_then hv (kinds_pieces (as_parameter f.kind) (plain_passed f.kind))) ha

mutual
  pub kinds_code : (c : Scope) (e : Tree) (aim : Aim) (k : ℕ) → HasKinds (code c e aim k)
  kinds_code c (tree.Tree.number v) aim k = closed aim (kinds_pieces (constant (v % 65536)) (plain_constant (v % 65536)))
  kinds_code c (tree.Tree.wide v) aim k = closed aim (kinds_pieces (double_constant (v % 4294967296)) (plain_double (v % 4294967296)))
  kinds_code c (tree.Tree.text bytes) aim k = closed aim (kinds_text (text_value bytes))
  kinds_code c (tree.Tree.truth b) aim k = closed aim (kinds_pieces (constant (truth_word b)) (plain_constant (truth_word b)))
  kinds_code c (tree.Tree.named x es at) aim k =
      closed aim (kinds_named c x (sense_of x (c.names x)) (λ p. arguments c p.formals es (k + result_words p)) (index c es false k ⨟ variable c x (is_indexed es) k)
      (λ (p : Profile). kinds_arguments c p.formals es (k + result_words p))
      (kinds_then (kinds_index c es false k) (kinds_variable c x (is_indexed es) k)))
  kinds_code c (tree.Tree.address x es at) aim k =
      closed aim (kinds_then (kinds_index c es (leads_to_doubles (access_of (c.names x))) k) (kinds_addressed c x (is_indexed es) k))
  kinds_code c (tree.Tree.unary op e at) aim k =
      closed aim (kinds_then (kinds_code c e as_value k) (kinds_pieces (sign_operator op (kind_of c.names e)) (plain_sign op (kind_of c.names e))))
  kinds_code c (tree.Tree.binary op a b at) aim k =
      kinds_if (is_connective op) _ _ (kinds_connected op aim (λ v. code c a v k) (λ v. code c b v k)
      (λ f. kinds_code c a (as_test f) k) (λ f. kinds_code c b (as_test f) k))
      (kinds_if (compares_text c.names op a b) _ _ (kinds_text_related (relation_number op) aim (reference c a k) (text_bytes b) (kinds_reference c a k))
      (kinds_operated op (class_of (kind_of c.names a) (kind_of c.names b)) aim _
      (kinds_then (kinds_code c a as_value k) (kinds_code c b as_value (k + operand_width (kind_of c.names a))))))
  kinds_code c (tree.Tree.shift op e by at) aim k =
      closed aim (kinds_then (kinds_code c e as_value k) (kinds_pieces (shift_operator op (small_constant c.names by)) refl))
  kinds_code c (tree.Tree.field e start size at) aim k =
      closed aim (kinds_then (kinds_code c e as_value k)
      (kinds_pieces (field_operator (small_constant c.names start) (small_constant c.names size)) (plain_field (small_constant c.names start) (small_constant c.names size))))
  kinds_code c (tree.Tree.transfer to e at) aim k =
      closed aim (kinds_then (kinds_code c e as_value k) (kinds_pieces (transfer to (kind_of c.names e)) (plain_transfer to (kind_of c.names e))))
  kinds_code c (tree.Tree.bytes op a b count at) aim k =
      kinds_bytes_related op aim _
      (kinds_then (kinds_then (kinds_reference c a k) (kinds_reference c b (k + 1))) (kinds_code c count as_value (k + 2)))

  pub kinds_index : (c : Scope) (es : Trees) (d : Bool) (k : ℕ) → HasKinds (index c es d k)
  kinds_index c tree.Trees.none d k = kinds_pieces [] refl
  kinds_index c (tree.Trees.and e es) d k = kinds_then (kinds_code c e as_value k) (kinds_pieces (index_to_x d) (plain_to_x d))

  pub kinds_reference : (c : Scope) (e : Tree) (k : ℕ) → HasKinds (reference c e k)
  kinds_reference c (tree.Tree.named x es at) k =
      kinds_then (kinds_index c es (leads_to_doubles (access_of (c.names x))) k) (kinds_addressed c x (is_indexed es) k)
  kinds_reference c (tree.Tree.number v) k = kinds_pieces [] refl
  kinds_reference c (tree.Tree.wide v) k = kinds_pieces [] refl
  kinds_reference c (tree.Tree.text bytes) k = kinds_pieces [] refl
  kinds_reference c (tree.Tree.truth b) k = kinds_pieces [] refl
  kinds_reference c (tree.Tree.address x es at) k = kinds_pieces [] refl
  kinds_reference c (tree.Tree.unary op e at) k = kinds_pieces [] refl
  kinds_reference c (tree.Tree.binary op a b at) k = kinds_pieces [] refl
  kinds_reference c (tree.Tree.shift op e by at) k = kinds_pieces [] refl
  kinds_reference c (tree.Tree.field e start size at) k = kinds_pieces [] refl
  kinds_reference c (tree.Tree.transfer to e at) k = kinds_pieces [] refl
  kinds_reference c (tree.Tree.bytes op a b count at) k = kinds_pieces [] refl

  pub kinds_arguments : (c : Scope) (fs : List Formal) (es : Trees) (k : ℕ) → HasKinds (arguments c fs es k)
  kinds_arguments c [] tree.Trees.none k = kinds_pieces [] refl
  kinds_arguments c [] (tree.Trees.and e es) k = kinds_pieces [] refl
  kinds_arguments c (f ∷ fs) tree.Trees.none k = kinds_pieces [] refl
  kinds_arguments c (f ∷ fs) (tree.Trees.and e es) k =
      kinds_then (kinds_argument f (code c e as_value k) (reference c e k) (kinds_code c e as_value k) (kinds_reference c e k))
      (kinds_arguments c fs es (k + formal_words f))
