-- The names that the code of an expression wants, along the tree: at most one for each name in it.
use Rattle.std.proofs.Common.{◌≡◌, ℕ, suc, ◌+◌, ◌%◌, ◌==◌, ℤ, Bool, true, false, List, [], ◌∷◌, map, length, Option, Some, None, refl, arith}
use Rattle.std.specs.Prelude.{is_some}
use Rattle.spl_module_code.specs.hp_word.Words.{word_of}
use Rattle.spl_module_code.specs.hp_word.declared.intrinsics.Intrinsic.{Intrinsic}
use Rattle.spl_module_code.specs.spl_tree.Trees as tree
use Rattle.spl_module_code.specs.spl_tree.Trees.{Tree, Trees}
use Rattle.spl_module_code.specs.spl_meaning.Names as n
use Rattle.spl_module_code.specs.spl_meaning.Names.{Sort, Formal, Profile, intrinsic_profile, intrinsic_named, text_value, truth_word}
use Rattle.spl_module_code.specs.spl_meaning.Kinds.{Class, kind_of, class_of, operand_width, is_connective, is_relation, compares_text, relation_number, or_operator}
use Rattle.spl_module_code.specs.spl_meaning.Pending.{by_value, formal_words, result_words}
use Rattle.spl_module_code.specs.spl_meaning.References.{access_of}
use Rattle.spl_module_code.specs.spl_meaning.Elements.{as_words}
use Rattle.spl_module_code.specs.spl_meaning.Values.{Who, procedure, subroutine, sense_of, text_bytes, small_constant}
use Rattle.spl_module_code.specs.spl_branch.declared.pieces.Piece.TheVariants.{Literal, Place as PlaceOf, Mark}
use Rattle.spl_module_code.specs.spl_code.Instructions.{ZERO, LDNI, BR, LSL, CMPB, LOAD_BEFORE}
use Rattle.spl_module_code.specs.spl_code.Parts.{Part, pieces, ◌⨟◌}
use Rattle.spl_module_code.specs.spl_code.Constants.{constant, double_constant, text_constant, number_constant, text_offset}
use Rattle.spl_module_code.specs.spl_code.Operators.{operator, comparison, sign_operator, shift_operator, field_operator, transfer, as_parameter}
use Rattle.spl_module_code.specs.spl_code.Operands.{leads_to_doubles, index_to_x}
use Rattle.spl_module_code.specs.spl_code.Calls.{Scope, result_room, result_taken, called, procedure_called, subroutine_called}
use Rattle.spl_module_code.specs.spl_code.Code.{Aim, as_value, as_test, code, reference, index, arguments, argument, closing, condition, related, text_compared, variable, calling, named, is_indexed, connected, both_tested, either_tested, either_of, text_related, bytes_related, compared, operated}
use Rattle.spl_few_calls.specs.Calls.{calls, calls_among}
use Rattle.spl_wanted_names.specs.Wants.{IsWanting}
use Rattle.spl_wanted_names.proofs.PartLaws.{wanting_less, wanting_pieces, wanting_then, wanting_behind, wanting_before, wanting_fresh, wanting_if, wanting_name, wanting_gate}
use Rattle.spl_wanted_names.proofs.Intrinsics.{Known}

-- a part beside one that wants no name
pub wanting_beside : {m : ℕ} {p q : Part} → IsWanting m p → IsWanting 0 q → IsWanting m (p ⨟ q)
wanting_beside {m} {p} {q} a b = wanting_less (omega arith) (wanting_then a b)

-- ---- constants and strings

wanting_text : {m : ℕ} (o : Option ℕ) → IsWanting m (text_constant o)
wanting_text (Some w) = wanting_pieces (constant (w % 65536))
wanting_text None = wanting_pieces []

wanting_number : {m : ℕ} (o : Option ℤ) → IsWanting m (number_constant o)
wanting_number (Some v) = wanting_pieces (constant (word_of v))
wanting_number None = wanting_pieces []

pub wanting_offset : (bs : List ℕ) → IsWanting 0 (text_offset bs)
wanting_offset bs = wanting_fresh _ (λ over. wanting_fresh _ (λ start.
    wanting_behind (LOAD_BEFORE ∷ []) (wanting_behind (Mark over ∷ []) (wanting_behind (PlaceOf start ∷ []) (wanting_behind (map Literal (as_words bs))
    (wanting_behind (Mark start ∷ []) (wanting_pieces (BR over ∷ []))))))))

wanting_text_compared : (bs : List ℕ) → IsWanting 0 (text_compared bs)
wanting_text_compared bs =
    wanting_behind (CMPB 1 ∷ []) (wanting_behind (constant (length bs % 65536)) (wanting_behind (LSL 1 ∷ []) (wanting_offset bs)))

-- ---- names

wanting_procedure : (x : List ℕ) (o : Option ℕ) → IsWanting 1 (procedure_called x o)
wanting_procedure x (Some entry) = wanting_pieces _
wanting_procedure x None = wanting_name x

wanting_subroutine : (o : Option ℕ) → IsWanting 1 (subroutine_called o)
wanting_subroutine (Some entry) = wanting_pieces _
wanting_subroutine None = wanting_pieces []

wanting_called : (c : Scope) (w : Who) → IsWanting 1 (called c w)
wanting_called c (procedure x) = wanting_procedure x (c.procedures x)
wanting_called c (subroutine x) = wanting_subroutine (c.subroutines x)

wanting_calling : {m : ℕ} (p : Profile) (args call : Part) → IsWanting m args → IsWanting 1 call → IsWanting (suc m) (calling p args call)
wanting_calling {m} p args call a b =
    wanting_behind (result_taken p.result) (wanting_less (omega arith) (wanting_then (wanting_before (result_room p.result) a) b))

wanting_named : {m : ℕ} (c : Scope) (x : List ℕ) (o : Option Sort) (args : Profile → Part) (at : Part)
    → ((i : Intrinsic) → o ≡ Some (n.intrinsic i) → is_some (intrinsic_named x) ≡ true)
    → ((p : Profile) → IsWanting m (args p)) → IsWanting m at → IsWanting (suc m) (named c x (sense_of x o) args at)
wanting_named {m} c x None args at known a b = wanting_less (omega arith) b
wanting_named {m} c x (Some (n.equate v)) args at known a b = wanting_number v
wanting_named {m} c x (Some (n.intrinsic i)) args at known a b =
    wanting_calling (intrinsic_profile i) _ _ (a (intrinsic_profile i)) (wanting_gate x (known i refl))
wanting_named {m} c x (Some (n.procedure p)) args at known a b = wanting_calling p _ _ (a p) (wanting_called c (procedure x))
wanting_named {m} c x (Some (n.subroutine p)) args at known a b = wanting_calling p _ _ (a p) (wanting_called c (subroutine x))
wanting_named {m} c x (Some (n.simple k own)) args at known a b = wanting_less (omega arith) b
wanting_named {m} c x (Some (n.array k own low high)) args at known a b = wanting_less (omega arith) b
wanting_named {m} c x (Some (n.view k own base)) args at known a b = wanting_less (omega arith) b
wanting_named {m} c x (Some (n.pointer k own)) args at known a b = wanting_less (omega arith) b
wanting_named {m} c x (Some (n.value k)) args at known a b = wanting_less (omega arith) b
wanting_named {m} c x (Some (n.by_reference k)) args at known a b = wanting_less (omega arith) b
wanting_named {m} c x (Some (n.array_parameter k)) args at known a b = wanting_less (omega arith) b
wanting_named {m} c x (Some n.label) args at known a b = wanting_less (omega arith) b
wanting_named {m} c x (Some n.unknown) args at known a b = wanting_less (omega arith) b

-- ---- tests

-- a value and its closing
closed : {m : ℕ} {p : Part} (aim : Aim) → IsWanting m p → IsWanting m (p ⨟ closing aim)
closed as_value h = wanting_behind [] h
closed (as_test fail) h = wanting_behind _ h

wanting_condition : {m : ℕ} (aim : Aim) (test : ℕ → Part) → ((f : ℕ) → IsWanting m (test f)) → IsWanting m (condition aim test)
wanting_condition (as_test f) test h = h f
wanting_condition as_value test h = wanting_fresh _ (λ fail. wanting_fresh _ (λ end.
    wanting_behind (Mark end ∷ []) (wanting_behind (ZERO ∷ []) (wanting_behind (Mark fail ∷ []) (wanting_behind (BR end ∷ []) (wanting_behind (LDNI 1 ∷ []) (h fail)))))))

pub wanting_related : {m : ℕ} (op f : ℕ) → IsWanting m (related op f)
wanting_related op f = wanting_pieces _

wanting_operated : {m : ℕ} (op : ℕ) (cl : Class) (aim : Aim) (p : Part) → IsWanting m p → IsWanting m (operated op cl aim p)
wanting_operated op cl aim p h =
    wanting_if (is_relation op) (compared (relation_number op) cl aim p) (p ⨟ pieces (operator cl op) ⨟ closing aim)
    (wanting_condition aim _ (λ fail. wanting_behind _ (wanting_behind (comparison cl) h))) (closed aim (wanting_behind (operator cl op) h))

wanting_text_related : {m : ℕ} (op : ℕ) (aim : Aim) (p : Part) (bs : List ℕ) → IsWanting m p → IsWanting m (text_related op aim p bs)
wanting_text_related op aim p bs h = wanting_condition aim _ (λ fail. wanting_behind _ (wanting_beside h (wanting_text_compared bs)))

wanting_bytes_related : {m : ℕ} (op : ℕ) (aim : Aim) (p : Part) → IsWanting m p → IsWanting m (bytes_related op aim p)
wanting_bytes_related op aim p h = wanting_condition aim _ (λ fail. wanting_behind _ (wanting_behind (CMPB 0 ∷ []) h))

wanting_connected : {a b : ℕ} (op : ℕ) (aim : Aim) (x y : Aim → Part) → ((f : ℕ) → IsWanting a (x (as_test f))) → ((f : ℕ) → IsWanting b (y (as_test f)))
    → IsWanting (a + b) (connected op aim x y)
wanting_connected {a} {b} op aim x y hx hy =
    wanting_if (op == or_operator) (either_tested aim x y) (both_tested aim x y)
    (wanting_condition aim (either_of x y) either) (wanting_condition aim _ (λ fail. wanting_then (hx fail) (hy fail)))
  where
    either : (fail : ℕ) → IsWanting (a + b) (either_of x y fail)
    either fail = wanting_fresh _ (λ next. wanting_fresh _ (λ over.
        wanting_behind (Mark over ∷ []) (wanting_then (wanting_behind (Mark next ∷ []) (wanting_behind (BR over ∷ []) (hx next))) (hy fail))))

-- ---- along the tree

wanting_argument : {m : ℕ} (f : Formal) (v a : Part) → IsWanting m v → IsWanting m a → IsWanting m (argument f v a)
wanting_argument f v a hv ha = wanting_if (by_value f) (v ⨟ pieces (as_parameter f.kind)) a (wanting_behind (as_parameter f.kind) hv) ha

mutual
  pub wanting_code : (c : Scope) → Known c.names → (e : Tree) (aim : Aim) (k : ℕ) → IsWanting (calls e) (code c e aim k)
  wanting_code c known (tree.Tree.number v) aim k = closed aim (wanting_pieces (constant (v % 65536)))
  wanting_code c known (tree.Tree.wide v) aim k = closed aim (wanting_pieces (double_constant (v % 4294967296)))
  wanting_code c known (tree.Tree.text bytes) aim k = closed aim (wanting_text (text_value bytes))
  wanting_code c known (tree.Tree.truth b) aim k = closed aim (wanting_pieces (constant (truth_word b)))
  wanting_code c known (tree.Tree.named x es at) aim k =
      closed aim (wanting_named c x (c.names x) (λ p. arguments c p.formals es (k + result_words p)) (index c es false k ⨟ variable c x (is_indexed es) k)
      (λ i is. known x i is) (λ (p : Profile). wanting_arguments c known p.formals es (k + result_words p))
      (wanting_behind _ (wanting_index c known es false k)))
  wanting_code c known (tree.Tree.address x es at) aim k =
      closed aim (wanting_behind _ (wanting_index c known es (leads_to_doubles (access_of (c.names x))) k))
  wanting_code c known (tree.Tree.unary op e at) aim k =
      closed aim (wanting_behind (sign_operator op (kind_of c.names e)) (wanting_code c known e as_value k))
  wanting_code c known (tree.Tree.binary op a b at) aim k =
      wanting_if (is_connective op) _ _ (wanting_connected op aim (λ v. code c a v k) (λ v. code c b v k)
      (λ f. wanting_code c known a (as_test f) k) (λ f. wanting_code c known b (as_test f) k))
      (wanting_if (compares_text c.names op a b) _ _
      (wanting_less (omega arith) (wanting_text_related (relation_number op) aim (reference c a k) (text_bytes b) (wanting_reference c known a k)))
      (wanting_operated op (class_of (kind_of c.names a) (kind_of c.names b)) aim _
      (wanting_then (wanting_code c known a as_value k) (wanting_code c known b as_value (k + operand_width (kind_of c.names a))))))
  wanting_code c known (tree.Tree.shift op e by at) aim k =
      closed aim (wanting_behind (shift_operator op (small_constant c.names by)) (wanting_code c known e as_value k))
  wanting_code c known (tree.Tree.field e start size at) aim k =
      closed aim (wanting_behind (field_operator (small_constant c.names start) (small_constant c.names size)) (wanting_code c known e as_value k))
  wanting_code c known (tree.Tree.transfer to e at) aim k =
      closed aim (wanting_behind (transfer to (kind_of c.names e)) (wanting_code c known e as_value k))
  wanting_code c known (tree.Tree.bytes op a b count at) aim k =
      wanting_bytes_related op aim _
      (wanting_then (wanting_then (wanting_reference c known a k) (wanting_reference c known b (k + 1))) (wanting_code c known count as_value (k + 2)))

  pub wanting_index : (c : Scope) → Known c.names → (es : Trees) (d : Bool) (k : ℕ) → IsWanting (calls_among es) (index c es d k)
  wanting_index c known tree.Trees.none d k = wanting_pieces []
  wanting_index c known (tree.Trees.and e es) d k = wanting_less (omega arith) (wanting_behind (index_to_x d) (wanting_code c known e as_value k))

  pub wanting_reference : (c : Scope) → Known c.names → (e : Tree) (k : ℕ) → IsWanting (calls e) (reference c e k)
  wanting_reference c known (tree.Tree.named x es at) k =
      wanting_less (omega arith) (wanting_behind _ (wanting_index c known es (leads_to_doubles (access_of (c.names x))) k))
  wanting_reference c known (tree.Tree.number v) k = wanting_pieces []
  wanting_reference c known (tree.Tree.wide v) k = wanting_pieces []
  wanting_reference c known (tree.Tree.text bytes) k = wanting_pieces []
  wanting_reference c known (tree.Tree.truth b) k = wanting_pieces []
  wanting_reference c known (tree.Tree.address x es at) k = wanting_pieces []
  wanting_reference c known (tree.Tree.unary op e at) k = wanting_pieces []
  wanting_reference c known (tree.Tree.binary op a b at) k = wanting_pieces []
  wanting_reference c known (tree.Tree.shift op e by at) k = wanting_pieces []
  wanting_reference c known (tree.Tree.field e start size at) k = wanting_pieces []
  wanting_reference c known (tree.Tree.transfer to e at) k = wanting_pieces []
  wanting_reference c known (tree.Tree.bytes op a b count at) k = wanting_pieces []

  pub wanting_arguments : (c : Scope) → Known c.names → (fs : List Formal) (es : Trees) (k : ℕ) → IsWanting (calls_among es) (arguments c fs es k)
  wanting_arguments c known [] tree.Trees.none k = wanting_pieces []
  wanting_arguments c known [] (tree.Trees.and e es) k = wanting_pieces []
  wanting_arguments c known (f ∷ fs) tree.Trees.none k = wanting_pieces []
  wanting_arguments c known (f ∷ fs) (tree.Trees.and e es) k =
      wanting_then (wanting_argument f (code c e as_value k) (reference c e k) (wanting_code c known e as_value k) (wanting_reference c known e k))
      (wanting_arguments c known fs es (k + formal_words f))
