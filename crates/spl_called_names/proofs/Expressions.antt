-- The names that the code of an expression wants, along the tree.
use Rattle.std.proofs.Common.{◌≡◌, ℕ, ◌+◌, ◌%◌, ◌==◌, ℤ, Bool, true, false, List, [], ◌∷◌, ◌++◌, map, length, Option, Some, None}
use Rattle.spl_module_code.specs.hp_word.Words.{word_of}
use Rattle.spl_module_code.specs.spl_tree.Trees as tree
use Rattle.spl_module_code.specs.spl_tree.Trees.{Tree, Trees}
use Rattle.spl_module_code.specs.spl_meaning.Names as n
use Rattle.spl_module_code.specs.spl_meaning.Names.{Sort, Formal, Profile, intrinsic_profile, text_value, truth_word}
use Rattle.spl_module_code.specs.spl_meaning.Kinds.{Class, kind_of, class_of, operand_width, is_connective, is_relation, compares_text, relation_number, or_operator}
use Rattle.spl_module_code.specs.spl_meaning.Pending.{by_value, formal_words, result_words}
use Rattle.spl_module_code.specs.spl_meaning.References.{access_of}
use Rattle.spl_module_code.specs.spl_meaning.Elements.{as_words}
use Rattle.spl_module_code.specs.spl_meaning.Values.{sense_of, text_bytes, small_constant}
use Rattle.spl_module_code.specs.spl_meaning.Bound.{names_in, names_among}
use Rattle.spl_module_code.specs.spl_branch.declared.pieces.Piece.TheVariants.{Literal, Place as PlaceOf, Mark}
use Rattle.spl_module_code.specs.spl_code.Instructions.{ZERO, LDNI, BR, LSL, CMPB, LOAD_BEFORE}
use Rattle.spl_module_code.specs.spl_code.Parts.{Part, pieces, ◌⨟◌}
use Rattle.spl_module_code.specs.spl_code.Constants.{constant, double_constant, text_constant, number_constant, text_offset}
use Rattle.spl_module_code.specs.spl_code.Operators.{operator, comparison, sign_operator, shift_operator, field_operator, transfer, as_parameter}
use Rattle.spl_module_code.specs.spl_code.Operands.{leads_to_doubles, index_to_x}
use Rattle.spl_module_code.specs.spl_code.Calls.{Scope, result_room, result_taken, procedure_called, subroutine_called}
use Rattle.spl_module_code.specs.spl_code.Code.{Aim, as_value, as_test, code, reference, index, arguments, argument, closing, condition, related, text_compared, variable, calling, named, is_indexed, connected, both_tested, either_tested, either_of, text_related, bytes_related, compared, operated}
use Rattle.spl_called_names.specs.Called.{Testing, call_passes, IsPassing}
use Rattle.spl_called_names.proofs.PartLaws.{passing_pieces, passing_then, passing_behind, passing_before, passing_fresh, passing_if, passing_want, Pass, first_pass, last_pass, one_passes}

-- ---- constants and strings

passing_text : {t : Testing} (o : Option ℕ) → IsPassing t (text_constant o)
passing_text (Some w) = passing_pieces (constant (w % 65536))
passing_text None = passing_pieces []

passing_number : {t : Testing} (o : Option ℤ) → IsPassing t (number_constant o)
passing_number (Some v) = passing_pieces (constant (word_of v))
passing_number None = passing_pieces []

pub passing_offset : {t : Testing} (bs : List ℕ) → IsPassing t (text_offset bs)
passing_offset bs = passing_fresh _ (λ over. passing_fresh _ (λ start.
    passing_behind (LOAD_BEFORE ∷ []) (passing_behind (Mark over ∷ []) (passing_behind (PlaceOf start ∷ []) (passing_behind (map Literal (as_words bs))
    (passing_behind (Mark start ∷ []) (passing_pieces (BR over ∷ []))))))))

passing_text_compared : {t : Testing} (bs : List ℕ) → IsPassing t (text_compared bs)
passing_text_compared bs =
    passing_behind (CMPB 1 ∷ []) (passing_behind (constant (length bs % 65536)) (passing_behind (LSL 1 ∷ []) (passing_offset bs)))

-- ---- names

passing_procedure : (t : Testing) (x : List ℕ) (o : Option ℕ) → t (record { name = x; gate = false }) ≡ true → IsPassing t (procedure_called x o)
passing_procedure t x (Some entry) one = passing_pieces _
passing_procedure t x None one = passing_want t x false one

passing_subroutine : {t : Testing} (o : Option ℕ) → IsPassing t (subroutine_called o)
passing_subroutine (Some entry) = passing_pieces _
passing_subroutine None = passing_pieces []

passing_calling : {t : Testing} (p : Profile) (args call : Part) → IsPassing t args → IsPassing t call → IsPassing t (calling p args call)
passing_calling p args call a b = passing_behind (result_taken p.result) (passing_then (passing_before (result_room p.result) a) b)

passing_named : {t : Testing} (c : Scope) (x : List ℕ) (o : Option Sort) (args : Profile → Part) (at : Part) → call_passes t o x ≡ true
    → ((p : Profile) → IsPassing t (args p)) → IsPassing t at → IsPassing t (named c x (sense_of x o) args at)
passing_named {t} c x None args at one a b = b
passing_named {t} c x (Some (n.equate v)) args at one a b = passing_number v
passing_named {t} c x (Some (n.intrinsic i)) args at one a b = passing_calling (intrinsic_profile i) _ _ (a (intrinsic_profile i)) (passing_want t x true one)
passing_named {t} c x (Some (n.procedure p)) args at one a b = passing_calling p _ _ (a p) (passing_procedure t x (c.procedures x) one)
passing_named {t} c x (Some (n.subroutine p)) args at one a b = passing_calling p _ _ (a p) (passing_subroutine (c.subroutines x))
passing_named {t} c x (Some (n.simple k own)) args at one a b = b
passing_named {t} c x (Some (n.array k own low high)) args at one a b = b
passing_named {t} c x (Some (n.view k own base)) args at one a b = b
passing_named {t} c x (Some (n.pointer k own)) args at one a b = b
passing_named {t} c x (Some (n.value k)) args at one a b = b
passing_named {t} c x (Some (n.by_reference k)) args at one a b = b
passing_named {t} c x (Some (n.array_parameter k)) args at one a b = b
passing_named {t} c x (Some n.label) args at one a b = b
passing_named {t} c x (Some n.unknown) args at one a b = b

-- ---- tests

-- a value and its closing
closed : {t : Testing} {p : Part} (aim : Aim) → IsPassing t p → IsPassing t (p ⨟ closing aim)
closed as_value h = passing_behind [] h
closed (as_test fail) h = passing_behind _ h

passing_condition : {t : Testing} (aim : Aim) (test : ℕ → Part) → ((f : ℕ) → IsPassing t (test f)) → IsPassing t (condition aim test)
passing_condition (as_test f) test h = h f
passing_condition as_value test h = passing_fresh _ (λ fail. passing_fresh _ (λ end.
    passing_behind (Mark end ∷ []) (passing_behind (ZERO ∷ []) (passing_behind (Mark fail ∷ []) (passing_behind (BR end ∷ []) (passing_behind (LDNI 1 ∷ []) (h fail)))))))

pub passing_related : {t : Testing} (op f : ℕ) → IsPassing t (related op f)
passing_related op f = passing_pieces _

passing_operated : {t : Testing} (op : ℕ) (cl : Class) (aim : Aim) (p : Part) → IsPassing t p → IsPassing t (operated op cl aim p)
passing_operated op cl aim p h =
    passing_if (is_relation op) (compared (relation_number op) cl aim p) (p ⨟ pieces (operator cl op) ⨟ closing aim)
    (passing_condition aim _ (λ fail. passing_behind _ (passing_behind (comparison cl) h))) (closed aim (passing_behind (operator cl op) h))

passing_text_related : {t : Testing} (op : ℕ) (aim : Aim) (p : Part) (bs : List ℕ) → IsPassing t p → IsPassing t (text_related op aim p bs)
passing_text_related op aim p bs h = passing_condition aim _ (λ fail. passing_behind _ (passing_then h (passing_text_compared bs)))

passing_bytes_related : {t : Testing} (op : ℕ) (aim : Aim) (p : Part) → IsPassing t p → IsPassing t (bytes_related op aim p)
passing_bytes_related op aim p h = passing_condition aim _ (λ fail. passing_behind _ (passing_behind (CMPB 0 ∷ []) h))

passing_connected : {t : Testing} (op : ℕ) (aim : Aim) (x y : Aim → Part) → ((f : ℕ) → IsPassing t (x (as_test f))) → ((f : ℕ) → IsPassing t (y (as_test f)))
    → IsPassing t (connected op aim x y)
passing_connected {t} op aim x y hx hy =
    passing_if (op == or_operator) (either_tested aim x y) (both_tested aim x y)
    (passing_condition aim (either_of x y) either) (passing_condition aim _ (λ fail. passing_then (hx fail) (hy fail)))
  where
    either : (fail : ℕ) → IsPassing t (either_of x y fail)
    either fail = passing_fresh _ (λ next. passing_fresh _ (λ over.
        passing_behind (Mark over ∷ []) (passing_then (passing_behind (Mark next ∷ []) (passing_behind (BR over ∷ []) (hx next))) (hy fail))))

-- ---- along the tree

passing_argument : {t : Testing} (f : Formal) (v a : Part) → IsPassing t v → IsPassing t a → IsPassing t (argument f v a)
passing_argument f v a hv ha = passing_if (by_value f) (v ⨟ pieces (as_parameter f.kind)) a (passing_behind (as_parameter f.kind) hv) ha

mutual
  pub passing_code : {t : Testing} (c : Scope) (e : Tree) → Pass t c.names (names_in e) → (aim : Aim) (k : ℕ) → IsPassing t (code c e aim k)
  passing_code c (tree.Tree.number v) h aim k = closed aim (passing_pieces (constant (v % 65536)))
  passing_code c (tree.Tree.wide v) h aim k = closed aim (passing_pieces (double_constant (v % 4294967296)))
  passing_code c (tree.Tree.text bytes) h aim k = closed aim (passing_text (text_value bytes))
  passing_code c (tree.Tree.truth b) h aim k = closed aim (passing_pieces (constant (truth_word b)))
  passing_code c (tree.Tree.named x es at) h aim k =
      let inside = first_pass (names_among es) (x ∷ []) h in
      closed aim (passing_named c x (c.names x) (λ p. arguments c p.formals es (k + result_words p)) (index c es false k ⨟ variable c x (is_indexed es) k)
      (one_passes x (last_pass (names_among es) (x ∷ []) h)) (λ (p : Profile). passing_arguments c p.formals es inside (k + result_words p))
      (passing_behind _ (passing_index c es inside false k)))
  passing_code c (tree.Tree.address x es at) h aim k =
      closed aim (passing_behind _ (passing_index c es h (leads_to_doubles (access_of (c.names x))) k))
  passing_code c (tree.Tree.unary op e at) h aim k =
      closed aim (passing_behind (sign_operator op (kind_of c.names e)) (passing_code c e h as_value k))
  passing_code c (tree.Tree.binary op a b at) h aim k =
      let first = first_pass (names_in a) (names_in b) h in
      let last = last_pass (names_in a) (names_in b) h in
      passing_if (is_connective op) _ _ (passing_connected op aim (λ v. code c a v k) (λ v. code c b v k)
      (λ f. passing_code c a first (as_test f) k) (λ f. passing_code c b last (as_test f) k))
      (passing_if (compares_text c.names op a b) _ _
      (passing_text_related (relation_number op) aim (reference c a k) (text_bytes b) (passing_reference c a first k))
      (passing_operated op (class_of (kind_of c.names a) (kind_of c.names b)) aim _
      (passing_then (passing_code c a first as_value k) (passing_code c b last as_value (k + operand_width (kind_of c.names a))))))
  passing_code c (tree.Tree.shift op e by at) h aim k =
      closed aim (passing_behind (shift_operator op (small_constant c.names by)) (passing_code c e h as_value k))
  passing_code c (tree.Tree.field e start size at) h aim k =
      closed aim (passing_behind (field_operator (small_constant c.names start) (small_constant c.names size)) (passing_code c e h as_value k))
  passing_code c (tree.Tree.transfer to e at) h aim k =
      closed aim (passing_behind (transfer to (kind_of c.names e)) (passing_code c e h as_value k))
  passing_code c (tree.Tree.bytes op a b count at) h aim k =
      let both = first_pass (names_in a ++ names_in b) (names_in count) h in
      passing_bytes_related op aim _
      (passing_then
      (passing_then (passing_reference c a (first_pass (names_in a) (names_in b) both) k) (passing_reference c b (last_pass (names_in a) (names_in b) both) (k + 1)))
      (passing_code c count (last_pass (names_in a ++ names_in b) (names_in count) h) as_value (k + 2)))

  pub passing_index : {t : Testing} (c : Scope) (es : Trees) → Pass t c.names (names_among es) → (d : Bool) (k : ℕ) → IsPassing t (index c es d k)
  passing_index c tree.Trees.none h d k = passing_pieces []
  passing_index c (tree.Trees.and e es) h d k = passing_behind (index_to_x d) (passing_code c e (first_pass (names_in e) (names_among es) h) as_value k)

  pub passing_reference : {t : Testing} (c : Scope) (e : Tree) → Pass t c.names (names_in e) → (k : ℕ) → IsPassing t (reference c e k)
  passing_reference c (tree.Tree.named x es at) h k =
      passing_behind _ (passing_index c es (first_pass (names_among es) (x ∷ []) h) (leads_to_doubles (access_of (c.names x))) k)
  passing_reference c (tree.Tree.number v) h k = passing_pieces []
  passing_reference c (tree.Tree.wide v) h k = passing_pieces []
  passing_reference c (tree.Tree.text bytes) h k = passing_pieces []
  passing_reference c (tree.Tree.truth b) h k = passing_pieces []
  passing_reference c (tree.Tree.address x es at) h k = passing_pieces []
  passing_reference c (tree.Tree.unary op e at) h k = passing_pieces []
  passing_reference c (tree.Tree.binary op a b at) h k = passing_pieces []
  passing_reference c (tree.Tree.shift op e by at) h k = passing_pieces []
  passing_reference c (tree.Tree.field e start size at) h k = passing_pieces []
  passing_reference c (tree.Tree.transfer to e at) h k = passing_pieces []
  passing_reference c (tree.Tree.bytes op a b count at) h k = passing_pieces []

  pub passing_arguments : {t : Testing} (c : Scope) (fs : List Formal) (es : Trees) → Pass t c.names (names_among es) → (k : ℕ) → IsPassing t (arguments c fs es k)
  passing_arguments c [] tree.Trees.none h k = passing_pieces []
  passing_arguments c [] (tree.Trees.and e es) h k = passing_pieces []
  passing_arguments c (f ∷ fs) tree.Trees.none h k = passing_pieces []
  passing_arguments c (f ∷ fs) (tree.Trees.and e es) h k =
      let one = first_pass (names_in e) (names_among es) h in
      passing_then (passing_argument f (code c e as_value k) (reference c e k) (passing_code c e one as_value k) (passing_reference c e one k))
      (passing_arguments c fs es (last_pass (names_in e) (names_among es) h) (k + formal_words f))
