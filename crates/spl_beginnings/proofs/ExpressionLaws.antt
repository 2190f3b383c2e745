-- How the code of an expression begins, along the tree.
use Rattle.std.proofs.Common.{◌≡◌, ℕ, ◌+◌, ◌%◌, ◌==◌, ◌&&◌, nat_lt, nat_le, ℤ, Bool, true, false, if◌then◌else◌, List, [], ◌∷◌, map, length, Option, Some, None, refl}
use Rattle.spl_statement_code.specs.hp_word.Words.{word_of}
use Rattle.spl_statement_code.specs.hp_word.Bytes.{high_word, low_word}
use Rattle.spl_sites.specs.hp_instr.declared.instruction.Instr.TheVariants as i
use Rattle.spl_sites.specs.hp_instr.declared.instruction.Mode.{Mode}
use Rattle.spl_statement_code.specs.spl_tree.declared.expressions.Kind.{Kind}
use Rattle.spl_statement_code.specs.spl_tree.declared.expressions.Kind.TheVariants as kind
use Rattle.spl_statement_code.specs.spl_tree.Trees as tree
use Rattle.spl_statement_code.specs.spl_tree.Trees.{Tree, Trees}
use Rattle.spl_statement_code.specs.spl_meaning.Names.{Formal, Profile, intrinsic_profile, text_value, truth_word}
use Rattle.spl_statement_code.specs.spl_meaning.Kinds.{Operand, of, const, unknown, Class, integers, logicals, doubles, mixed, plus, minus, times, modulo, works_on_bits, positive, negative, lor_operator, xor_operator, kind_of, class_of, operand_width, is_connective, is_relation, compares_text, relation_number, or_operator}
use Rattle.spl_statement_code.specs.spl_meaning.Pending.{by_value, formal_words, result_words}
use Rattle.spl_statement_code.specs.spl_meaning.Places.{Place}
use Rattle.spl_statement_code.specs.spl_meaning.References.{Access, its_own, by_address, by_cell, its_result, nowhere, access_of}
use Rattle.spl_statement_code.specs.spl_meaning.Elements.{as_words}
use Rattle.spl_statement_code.specs.spl_meaning.Values.{Who, procedure, subroutine, Sense, a_constant, an_intrinsic, a_call, a_variable, sense_of, text_bytes, small_constant}
use Rattle.spl_statement_code.specs.spl_branch.declared.pieces.Piece.{Piece}
use Rattle.spl_statement_code.specs.spl_branch.declared.pieces.Piece.TheVariants.{Literal, Place as PlaceOf, Call}
use Rattle.spl_statement_code.specs.spl_code.Instructions.{DEL, DELB, ZERO, ANDI, LDNI, BR, LSL, CMPB, LOAD_BEFORE}
use Rattle.spl_statement_code.specs.spl_code.Parts.{Part, pieces, ◌⨟◌}
use Rattle.spl_statement_code.specs.spl_code.Constants.{constant, double_constant, text_constant, number_constant, text_offset}
use Rattle.spl_statement_code.specs.spl_code.Operators.{operator, class_operator, integer_operator, logical_operator, double_operator, bit_operator, comparison, sign_operator, minus_operator, shift_operator, field_operator, transfer, single, extension, as_parameter}
use Rattle.spl_statement_code.specs.spl_code.Operands.{loaded, address, cell_address, leads_to_doubles, index_to_x, at_place, mode_of}
use Rattle.spl_statement_code.specs.spl_code.Calls.{Scope, result_room, result_taken, called, procedure_called, subroutine_called}
use Rattle.spl_statement_code.specs.spl_code.Code.{Aim, as_value, as_test, code, reference, index, arguments, argument, closing, condition, related, text_compared, variable, addressed, calling, named, is_indexed, connected, both_tested, either_tested, either_of, text_related, bytes_related, compared, operated}
use Rattle.spl_sites.specs.Beginnings.{begins_well}
use Rattle.spl_beginnings.specs.Opens.{Opens, MayOpen}
use Rattle.spl_beginnings.proofs.PartLaws.{Front, front_both, front_if, well_pieces, opens_pieces, may_pieces, may_well, open_may, open_well, opens_then, may_opens, may_then, opens_fresh, opens_want, well_mark}

-- ---- constants and strings

pub front_constant : (c : ℕ) → Front (constant c)
front_constant c = front_if (nat_lt c 256) _ _ refl (front_if (nat_lt 65280 c) _ _ refl refl)

pub front_double : (d : ℕ) → Front (double_constant d)
front_double d = front_both (constant (high_word d)) (constant (low_word d)) (front_constant (high_word d)) (front_constant (low_word d))

may_text : (o : Option ℕ) → MayOpen (text_constant o)
may_text (Some w) = may_pieces (constant (w % 65536)) (front_constant (w % 65536))
may_text None = may_pieces [] refl

may_number : (o : Option ℤ) → MayOpen (number_constant o)
may_number (Some v) = may_pieces (constant (word_of v)) (front_constant (word_of v))
may_number None = may_pieces [] refl

well_literals : (ws : List ℕ) → begins_well false (map Literal ws) ≡ true
well_literals [] = refl
well_literals (w ∷ ws) = well_literals ws

pub opens_offset : (bs : List ℕ) → Opens (text_offset bs)
opens_offset bs = opens_fresh _ (λ over. opens_fresh _ (λ start.
    opens_then (opens_then (opens_then (opens_then (opens_then (opens_pieces (BR over ∷ []) refl) (well_mark start))
    (well_pieces (map Literal (as_words bs)) (well_literals (as_words bs)))) (well_pieces (PlaceOf start ∷ []) refl))
    (well_mark over)) (well_pieces (LOAD_BEFORE ∷ []) refl)))

opens_text_compared : (bs : List ℕ) → Opens (text_compared bs)
opens_text_compared bs =
    opens_then (opens_then (opens_then (opens_offset bs) (well_pieces (LSL 1 ∷ []) refl))
    (may_well (may_pieces (constant (length bs % 65536)) (front_constant (length bs % 65536))))) (well_pieces (CMPB 1 ∷ []) refl)

-- ---- operators

well_rest : (b : Bool) → begins_well false ((if b then DELB else DEL) ∷ []) ≡ true
well_rest true = refl
well_rest false = refl

front_integers : (op : ℕ) → Front (integer_operator op)
front_integers op =
    front_if (op == plus) _ _ refl (front_if (op == minus) _ _ refl (front_if (op == times) _ _ refl (well_rest (op == modulo))))

front_logicals : (op : ℕ) → Front (logical_operator op)
front_logicals op =
    front_if (op == plus) _ _ refl (front_if (op == minus) _ _ refl (front_if (op == times) _ _ refl (well_rest (op == modulo))))

front_doubles : (op : ℕ) → Front (double_operator op)
front_doubles op = front_if (op == plus) _ _ refl refl

front_bits : (op : ℕ) → Front (bit_operator op)
front_bits op = front_if (op == lor_operator) _ _ refl (front_if (op == xor_operator) _ _ refl refl)

front_class : (cl : Class) (op : ℕ) → Front (class_operator cl op)
front_class integers op = front_integers op
front_class logicals op = front_logicals op
front_class doubles op = front_doubles op
front_class mixed op = refl

pub front_operator : (cl : Class) (op : ℕ) → Front (operator cl op)
front_operator cl op = front_if (works_on_bits op) _ _ (front_bits op) (front_class cl op)

front_comparison : (cl : Class) → Front (comparison cl)
front_comparison integers = refl
front_comparison logicals = refl
front_comparison doubles = refl
front_comparison mixed = refl

front_minus : (k : Operand) → Front (minus_operator k)
front_minus (of kind.Integer) = refl
front_minus (of kind.Logical) = refl
front_minus (of kind.Byte) = refl
front_minus (of kind.Double) = refl
front_minus const = refl
front_minus unknown = refl

pub front_sign : (op : ℕ) (k : Operand) → Front (sign_operator op k)
front_sign op k = front_if (op == positive) _ _ refl (front_if (op == negative) _ _ (front_minus k) refl)

pub front_field : (start size : ℕ) → Front (field_operator start size)
front_field start size = front_if (nat_le 1 size && nat_le (start + size) 16) _ _ refl refl

front_single : (k : Operand) → Front (single k)
front_single (of kind.Integer) = refl
front_single (of kind.Logical) = refl
front_single (of kind.Byte) = refl
front_single (of kind.Double) = refl
front_single const = refl
front_single unknown = refl

front_extension : (k : Operand) → Front (extension k)
front_extension (of kind.Integer) = refl
front_extension (of kind.Logical) = refl
front_extension (of kind.Byte) = refl
front_extension (of kind.Double) = refl
front_extension const = refl
front_extension unknown = refl

pub front_transfer : (to : Kind) (k : Operand) → Front (transfer to k)
front_transfer kind.Integer k = front_single k
front_transfer kind.Logical k = front_single k
front_transfer kind.Byte k = front_both (single k) (ANDI 255 ∷ []) (front_single k) refl
front_transfer kind.Double k = front_extension k

front_passed : (k : Option Kind) → Front (as_parameter k)
front_passed None = refl
front_passed (Some kind.Integer) = refl
front_passed (Some kind.Logical) = refl
front_passed (Some kind.Byte) = refl
front_passed (Some kind.Double) = refl

-- ---- names

front_loaded : (a : Access) (x : Bool) (mode : Mode) → Front (loaded a x mode)
front_loaded (its_own kind.Integer) x mode = refl
front_loaded (its_own kind.Logical) x mode = refl
front_loaded (its_own kind.Byte) x mode = refl
front_loaded (its_own kind.Double) x mode = refl
front_loaded (by_address kind.Integer) x mode = refl
front_loaded (by_address kind.Logical) x mode = refl
front_loaded (by_address kind.Byte) x mode = refl
front_loaded (by_address kind.Double) x mode = refl
front_loaded (by_cell p kind.Integer) x mode = refl
front_loaded (by_cell p kind.Logical) x mode = refl
front_loaded (by_cell p kind.Byte) x mode = refl
front_loaded (by_cell p kind.Double) x mode = refl
front_loaded its_result x mode = refl
front_loaded nowhere x mode = refl

front_cell : (x : Bool) (mode : Mode) → Front (cell_address x mode)
front_cell true mode = refl
front_cell false mode = refl

front_address : (a : Access) (x : Bool) (mode : Mode) → Front (address a x mode)
front_address (its_own kind.Integer) x mode = refl
front_address (its_own kind.Logical) x mode = refl
front_address (its_own kind.Byte) x mode = refl
front_address (its_own kind.Double) x mode = refl
front_address (by_address k) x mode = front_cell x mode
front_address (by_cell p k) x mode = front_cell x mode
front_address its_result x mode = refl
front_address nowhere x mode = refl

pub front_at : (o : Option Place) (f : Place → List Piece) → ((p : Place) → Front (f p)) → Front (at_place o f)
front_at (Some p) f h = h p
front_at None f h = refl

pub may_variable : (c : Scope) (x : List ℕ) (i : Bool) (k : ℕ) → MayOpen (variable c x i k)
may_variable c x i k = may_pieces (at_place (c.places x) (λ p. loaded (access_of (c.names x)) i (mode_of k p)))
    (front_at (c.places x) _ (λ p. front_loaded (access_of (c.names x)) i (mode_of k p)))

pub may_addressed : (c : Scope) (x : List ℕ) (i : Bool) (k : ℕ) → MayOpen (addressed c x i k)
may_addressed c x i k = may_pieces (at_place (c.places x) (λ p. address (access_of (c.names x)) i (mode_of k p)))
    (front_at (c.places x) _ (λ p. front_address (access_of (c.names x)) i (mode_of k p)))

front_to_x : (d : Bool) → Front (index_to_x d)
front_to_x true = refl
front_to_x false = refl

pub front_room : (o : Option Kind) → Front (result_room o)
front_room None = refl
front_room (Some kind.Integer) = refl
front_room (Some kind.Logical) = refl
front_room (Some kind.Byte) = refl
front_room (Some kind.Double) = refl

pub front_taken : (o : Option Kind) → Front (result_taken o)
front_taken None = refl
front_taken (Some kind.Integer) = refl
front_taken (Some kind.Logical) = refl
front_taken (Some kind.Byte) = refl
front_taken (Some kind.Double) = refl

-- ---- calls

may_procedure : (x : List ℕ) (o : Option ℕ) → MayOpen (procedure_called x o)
may_procedure x (Some entry) = may_pieces (Call (i.Control 0 0) false entry ∷ []) refl
may_procedure x None = open_may (opens_want x false)

may_subroutine : (o : Option ℕ) → MayOpen (subroutine_called o)
may_subroutine (Some entry) = may_pieces (Call (i.Control 3 0) false entry ∷ []) refl
may_subroutine None = may_pieces [] refl

may_called : (c : Scope) (w : Who) → MayOpen (called c w)
may_called c (procedure x) = may_procedure x (c.procedures x)
may_called c (subroutine x) = may_subroutine (c.subroutines x)

may_calling : (p : Profile) (args call : Part) → MayOpen args → MayOpen call → MayOpen (calling p args call)
may_calling p args call a b =
    may_then (may_then (may_then (may_pieces (result_room p.result) (front_room p.result)) a) b) (may_pieces (result_taken p.result) (front_taken p.result))

pub may_named : (c : Scope) (x : List ℕ) (s : Sense) (args : Profile → Part) (at : Part)
    → ((p : Profile) → MayOpen (args p)) → MayOpen at → MayOpen (named c x s args at)
may_named c x (a_constant v) args at a b = may_number v
may_named c x (an_intrinsic i) args at a b = may_calling (intrinsic_profile i) _ _ (a (intrinsic_profile i)) (open_may (opens_want x true))
may_named c x (a_call w p) args at a b = may_calling p _ _ (a p) (may_called c w)
may_named c x a_variable args at a b = b

-- ---- tests

-- the code of a value may open; that of a test opens, since it branches
abbrev pub OpensAs : Aim → Part → Type 0
OpensAs as_value p = MayOpen p
OpensAs (as_test fail) p = Opens p

-- what opens does so as either
opens_as : {p : Part} (aim : Aim) → Opens p → OpensAs aim p
opens_as as_value h = open_may h
opens_as (as_test fail) h = h

as_if : (aim : Aim) (b : Bool) (p q : Part) → OpensAs aim p → OpensAs aim q → OpensAs aim (if b then p else q)
as_if aim true p q a b = a
as_if aim false p q a b = b

-- a value and its closing
pub closed : {p : Part} (aim : Aim) → MayOpen p → OpensAs aim (p ⨟ closing aim)
closed as_value h = may_then h (may_pieces [] refl)
closed (as_test fail) h = may_opens h (opens_pieces _ refl)

-- a condition opens where its test does
pub opens_condition : (aim : Aim) (test : ℕ → Part) → ((f : ℕ) → Opens (test f)) → Opens (condition aim test)
opens_condition (as_test f) test h = h f
opens_condition as_value test h = opens_fresh _ (λ fail. opens_fresh _ (λ end.
    opens_then (opens_then (opens_then (opens_then (opens_then (h fail) (well_pieces (LDNI 1 ∷ []) refl)) (well_pieces (BR end ∷ []) refl))
    (well_mark fail)) (well_pieces (ZERO ∷ []) refl)) (well_mark end)))

pub opens_related : (op f : ℕ) → Opens (related op f)
opens_related op f = opens_pieces _ refl

pub opens_compared : (op : ℕ) (cl : Class) (aim : Aim) (p : Part) → MayOpen p → Opens (compared op cl aim p)
opens_compared op cl aim p h =
    opens_condition aim _ (λ fail. may_opens (may_then h (may_pieces (comparison cl) (front_comparison cl))) (opens_related op fail))

as_operated : (op : ℕ) (cl : Class) (aim : Aim) (p : Part) → MayOpen p → OpensAs aim (operated op cl aim p)
as_operated op cl aim p h =
    as_if aim (is_relation op) (compared (relation_number op) cl aim p) (p ⨟ pieces (operator cl op) ⨟ closing aim)
    (opens_as aim (opens_compared (relation_number op) cl aim p h)) (closed aim (may_then h (may_pieces (operator cl op) (front_operator cl op))))

pub opens_text_related : (op : ℕ) (aim : Aim) (p : Part) (bs : List ℕ) → MayOpen p → Opens (text_related op aim p bs)
opens_text_related op aim p bs h = opens_condition aim _ (λ fail. opens_then (may_opens h (opens_text_compared bs)) (open_well (opens_related op fail)))

pub opens_bytes_related : (op : ℕ) (aim : Aim) (p : Part) → MayOpen p → Opens (bytes_related op aim p)
opens_bytes_related op aim p h =
    opens_condition aim _ (λ fail. opens_then (may_opens h (opens_pieces (CMPB 0 ∷ []) refl)) (open_well (opens_related op fail)))

pub opens_if : (b : Bool) (p q : Part) → Opens p → Opens q → Opens (if b then p else q)
opens_if true p q a b = a
opens_if false p q a b = b

pub opens_connected : (op : ℕ) (aim : Aim) (x y : Aim → Part) → ((f : ℕ) → Opens (x (as_test f))) → ((f : ℕ) → Opens (y (as_test f)))
    → Opens (connected op aim x y)
opens_connected op aim x y hx hy =
    opens_if (op == or_operator) (either_tested aim x y) (both_tested aim x y)
    (opens_condition aim (either_of x y) either) (opens_condition aim _ (λ fail. opens_then (hx fail) (open_well (hy fail))))
  where
    either : (fail : ℕ) → Opens (either_of x y fail)
    either fail = opens_fresh _ (λ next. opens_fresh _ (λ over.
        opens_then (opens_then (opens_then (opens_then (hx next) (well_pieces (BR over ∷ []) refl)) (well_mark next)) (open_well (hy fail)))
        (well_mark over)))

-- ---- along the tree

may_argument : (f : Formal) (v a : Part) → MayOpen v → MayOpen a → MayOpen (argument f v a)
may_argument f v a hv ha =
    as_if as_value (by_value f) (v ⨟ pieces (as_parameter f.kind)) a (may_then hv (may_pieces (as_parameter f.kind) (front_passed f.kind))) ha

mutual
  pub opens_code : (c : Scope) (e : Tree) (aim : Aim) (k : ℕ) → OpensAs aim (code c e aim k)
  opens_code c (tree.Tree.number v) aim k = closed aim (may_pieces (constant (v % 65536)) (front_constant (v % 65536)))
  opens_code c (tree.Tree.wide v) aim k = closed aim (may_pieces (double_constant (v % 4294967296)) (front_double (v % 4294967296)))
  opens_code c (tree.Tree.text bytes) aim k = closed aim (may_text (text_value bytes))
  opens_code c (tree.Tree.truth b) aim k = closed aim (may_pieces (constant (truth_word b)) (front_constant (truth_word b)))
  opens_code c (tree.Tree.named x es at) aim k =
      closed aim (may_named c x (sense_of x (c.names x)) (λ p. arguments c p.formals es (k + result_words p)) (index c es false k ⨟ variable c x (is_indexed es) k)
      (λ (p : Profile). may_arguments c p.formals es (k + result_words p))
      (may_then (may_index c es false k) (may_variable c x (is_indexed es) k)))
  opens_code c (tree.Tree.address x es at) aim k =
      closed aim (may_then (may_index c es (leads_to_doubles (access_of (c.names x))) k) (may_addressed c x (is_indexed es) k))
  opens_code c (tree.Tree.unary op e at) aim k =
      closed aim (may_then (opens_code c e as_value k) (may_pieces (sign_operator op (kind_of c.names e)) (front_sign op (kind_of c.names e))))
  opens_code c (tree.Tree.binary op a b at) aim k =
      as_if aim (is_connective op) _ _ (opens_as aim (opens_connected op aim (λ v. code c a v k) (λ v. code c b v k)
      (λ f. opens_code c a (as_test f) k) (λ f. opens_code c b (as_test f) k)))
      (as_if aim (compares_text c.names op a b) _ _
      (opens_as aim (opens_text_related (relation_number op) aim (reference c a k) (text_bytes b) (may_reference c a k)))
      (as_operated op (class_of (kind_of c.names a) (kind_of c.names b)) aim _
      (may_then (opens_code c a as_value k) (opens_code c b as_value (k + operand_width (kind_of c.names a))))))
  opens_code c (tree.Tree.shift op e by at) aim k =
      closed aim (may_then (opens_code c e as_value k) (may_pieces (shift_operator op (small_constant c.names by)) refl))
  opens_code c (tree.Tree.field e start size at) aim k =
      closed aim (may_then (opens_code c e as_value k)
      (may_pieces (field_operator (small_constant c.names start) (small_constant c.names size)) (front_field (small_constant c.names start) (small_constant c.names size))))
  opens_code c (tree.Tree.transfer to e at) aim k =
      closed aim (may_then (opens_code c e as_value k) (may_pieces (transfer to (kind_of c.names e)) (front_transfer to (kind_of c.names e))))
  opens_code c (tree.Tree.bytes op a b count at) aim k =
      opens_as aim (opens_bytes_related op aim _
      (may_then (may_then (may_reference c a k) (may_reference c b (k + 1))) (opens_code c count as_value (k + 2))))

  pub may_index : (c : Scope) (es : Trees) (d : Bool) (k : ℕ) → MayOpen (index c es d k)
  may_index c tree.Trees.none d k = may_pieces [] refl
  may_index c (tree.Trees.and e es) d k = may_then (opens_code c e as_value k) (may_pieces (index_to_x d) (front_to_x d))

  pub may_reference : (c : Scope) (e : Tree) (k : ℕ) → MayOpen (reference c e k)
  may_reference c (tree.Tree.named x es at) k =
      may_then (may_index c es (leads_to_doubles (access_of (c.names x))) k) (may_addressed c x (is_indexed es) k)
  may_reference c (tree.Tree.number v) k = may_pieces [] refl
  may_reference c (tree.Tree.wide v) k = may_pieces [] refl
  may_reference c (tree.Tree.text bytes) k = may_pieces [] refl
  may_reference c (tree.Tree.truth b) k = may_pieces [] refl
  may_reference c (tree.Tree.address x es at) k = may_pieces [] refl
  may_reference c (tree.Tree.unary op e at) k = may_pieces [] refl
  may_reference c (tree.Tree.binary op a b at) k = may_pieces [] refl
  may_reference c (tree.Tree.shift op e by at) k = may_pieces [] refl
  may_reference c (tree.Tree.field e start size at) k = may_pieces [] refl
  may_reference c (tree.Tree.transfer to e at) k = may_pieces [] refl
  may_reference c (tree.Tree.bytes op a b count at) k = may_pieces [] refl

  pub may_arguments : (c : Scope) (fs : List Formal) (es : Trees) (k : ℕ) → MayOpen (arguments c fs es k)
  may_arguments c [] tree.Trees.none k = may_pieces [] refl
  may_arguments c [] (tree.Trees.and e es) k = may_pieces [] refl
  may_arguments c (f ∷ fs) tree.Trees.none k = may_pieces [] refl
  may_arguments c (f ∷ fs) (tree.Trees.and e es) k =
      may_then (may_argument f (code c e as_value k) (reference c e k) (opens_code c e as_value k) (may_reference c e k))
      (may_arguments c fs es (k + formal_words f))
