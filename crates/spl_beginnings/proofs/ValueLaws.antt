-- The code of a value that is found opens: it has pieces, the first of which has words that are run.
-- 1. constants; words that names lead to; calls         (open_constant, opens_variable, opens_named)
-- 2. along the tree, by what the code begins with        (opens_value)
use Rattle.std.proofs.Common.{◌≡◌, ℕ, ◌+◌, ◌%◌, ◌||◌, nat_lt, Bool, true, false, if◌then◌else◌, List, [], ◌∷◌, Option, Some, None, is_some, refl}
use Rattle.std.proofs.lemmas.Bool.{false≢true}
use Rattle.spl_statement_code.specs.hp_word.Words.{word_of}
use Rattle.spl_statement_code.specs.hp_word.Bytes.{high_word, low_word}
use Rattle.spl_sites.specs.hp_instr.declared.instruction.Instr.TheVariants as i
use Rattle.spl_sites.specs.hp_instr.declared.instruction.Mode.{Mode}
use Rattle.spl_statement_code.specs.spl_tree.declared.expressions.Kind.{Kind}
use Rattle.spl_statement_code.specs.spl_tree.declared.expressions.Kind.TheVariants as kind
use Rattle.spl_statement_code.specs.spl_tree.Trees as tree
use Rattle.spl_statement_code.specs.spl_tree.Trees.{Tree, Trees}
use Rattle.spl_statement_code.specs.spl_meaning.Names.{Profile, intrinsic_profile, text_value, truth_word}
use Rattle.spl_statement_code.specs.spl_meaning.Kinds.{Class, kind_of, class_of, operand_width, is_connective, is_relation, compares_text, relation_number}
use Rattle.spl_statement_code.specs.spl_meaning.Pending.{result_words}
use Rattle.spl_statement_code.specs.spl_meaning.Places.{Place}
use Rattle.spl_statement_code.specs.spl_meaning.References.{Access, its_own, by_address, by_cell, its_result, nowhere, access_of}
use Rattle.spl_statement_code.specs.spl_meaning.Values.{Who, procedure, subroutine, Sense, a_constant, an_intrinsic, a_call, a_variable, sense_of, text_bytes, small_constant}
use Rattle.spl_statement_code.specs.spl_branch.declared.pieces.Piece.{Piece}
use Rattle.spl_statement_code.specs.spl_branch.declared.pieces.Piece.TheVariants.{Call}
use Rattle.spl_statement_code.specs.spl_code.Parts.{Part, pieces, ◌⨟◌}
use Rattle.spl_statement_code.specs.spl_code.Constants.{constant, double_constant, text_constant}
use Rattle.spl_statement_code.specs.spl_code.Operators.{operator, sign_operator, shift_operator, field_operator, transfer}
use Rattle.spl_statement_code.specs.spl_code.Operands.{loaded, address, cell_address, leads_to_doubles, at_place, mode_of}
use Rattle.spl_statement_code.specs.spl_code.Calls.{Scope, result_room, result_taken, called, procedure_called, subroutine_called}
use Rattle.spl_statement_code.specs.spl_code.Code.{as_value, as_test, code, reference, index, arguments, closing, variable, addressed, calling, named, is_indexed, compared, operated}
use Rattle.spl_sites.specs.Beginnings.{begins_well}
use Rattle.spl_beginnings.specs.Opens.{Opens, MayOpen}
use Rattle.spl_beginnings.specs.Found.{leads, has_place, has_call, has_sense, has_value}
use Rattle.spl_beginnings.proofs.PartLaws.{left_of, right_of, both_well, well_of_open, well_pieces, opens_pieces, may_pieces, may_well, open_may, opens_then, may_opens, may_then, opens_want}
use Rattle.spl_beginnings.proofs.ExpressionLaws.{front_room, front_taken, front_sign, front_transfer, front_field, front_operator, may_index, may_arguments, may_reference, opens_code, opens_if, opens_compared, opens_text_related, opens_bytes_related, opens_connected}

-- ---- 1. constants, names and calls

open_if : (b : Bool) (ps qs : List Piece) → begins_well true ps ≡ true → begins_well true qs ≡ true → begins_well true (if b then ps else qs) ≡ true
open_if true ps qs p q = p
open_if false ps qs p q = q

open_constant : (c : ℕ) → begins_well true (constant c) ≡ true
open_constant c = open_if (nat_lt c 256) _ _ refl (open_if (nat_lt 65280 c) _ _ refl refl)

open_double : (d : ℕ) → begins_well true (double_constant d) ≡ true
open_double d =
    both_well true (constant (high_word d)) (constant (low_word d)) (open_constant (high_word d)) (well_of_open (constant (low_word d)) (open_constant (low_word d)))

opens_text : (o : Option ℕ) → is_some o ≡ true → Opens (text_constant o)
opens_text (Some w) is = opens_pieces (constant (w % 65536)) (open_constant (w % 65536))
opens_text None is = absurd (false≢true is)

open_loaded : (a : Access) (x : Bool) (mode : Mode) → leads a ≡ true → begins_well true (loaded a x mode) ≡ true
open_loaded (its_own kind.Integer) x mode is = refl
open_loaded (its_own kind.Logical) x mode is = refl
open_loaded (its_own kind.Byte) x mode is = refl
open_loaded (its_own kind.Double) x mode is = refl
open_loaded (by_address kind.Integer) x mode is = refl
open_loaded (by_address kind.Logical) x mode is = refl
open_loaded (by_address kind.Byte) x mode is = refl
open_loaded (by_address kind.Double) x mode is = refl
open_loaded (by_cell p kind.Integer) x mode is = refl
open_loaded (by_cell p kind.Logical) x mode is = refl
open_loaded (by_cell p kind.Byte) x mode is = refl
open_loaded (by_cell p kind.Double) x mode is = refl
open_loaded its_result x mode is = absurd (false≢true is)
open_loaded nowhere x mode is = absurd (false≢true is)

open_cell : (x : Bool) (mode : Mode) → begins_well true (cell_address x mode) ≡ true
open_cell true mode = refl
open_cell false mode = refl

open_address : (a : Access) (x : Bool) (mode : Mode) → leads a ≡ true → begins_well true (address a x mode) ≡ true
open_address (its_own kind.Integer) x mode is = refl
open_address (its_own kind.Logical) x mode is = refl
open_address (its_own kind.Byte) x mode is = refl
open_address (its_own kind.Double) x mode is = refl
open_address (by_address k) x mode is = open_cell x mode
open_address (by_cell p k) x mode is = open_cell x mode
open_address its_result x mode is = absurd (false≢true is)
open_address nowhere x mode is = absurd (false≢true is)

open_at : (o : Option Place) (f : Place → List Piece) → is_some o ≡ true → ((p : Place) → begins_well true (f p) ≡ true) → begins_well true (at_place o f) ≡ true
open_at (Some p) f is h = h p
open_at None f is h = absurd (false≢true is)

opens_variable : (c : Scope) (x : List ℕ) (i : Bool) (k : ℕ) → has_place c x ≡ true → Opens (variable c x i k)
opens_variable c x i k is = opens_pieces (at_place (c.places x) (λ p. loaded (access_of (c.names x)) i (mode_of k p)))
    (open_at (c.places x) (λ p. loaded (access_of (c.names x)) i (mode_of k p)) (left_of (is_some (c.places x)) (leads (access_of (c.names x))) is)
    (λ p. open_loaded (access_of (c.names x)) i (mode_of k p) (right_of (is_some (c.places x)) (leads (access_of (c.names x))) is)))

opens_addressed : (c : Scope) (x : List ℕ) (i : Bool) (k : ℕ) → has_place c x ≡ true → Opens (addressed c x i k)
opens_addressed c x i k is = opens_pieces (at_place (c.places x) (λ p. address (access_of (c.names x)) i (mode_of k p)))
    (open_at (c.places x) (λ p. address (access_of (c.names x)) i (mode_of k p)) (left_of (is_some (c.places x)) (leads (access_of (c.names x))) is)
    (λ p. open_address (access_of (c.names x)) i (mode_of k p) (right_of (is_some (c.places x)) (leads (access_of (c.names x))) is)))

-- a call that has pieces, whatever its room and its arguments
opens_calling : (p : Profile) (args call : Part) → MayOpen args → Opens call → Opens (calling p args call)
opens_calling p args call a b =
    opens_then (may_opens (may_then (may_pieces (result_room p.result) (front_room p.result)) a) b)
    (may_well (may_pieces (result_taken p.result) (front_taken p.result)))

-- and one with room for its result, whatever its arguments and its pieces
open_room : (o : Option Kind) → is_some o ≡ true → begins_well true (result_room o) ≡ true
open_room None is = absurd (false≢true is)
open_room (Some kind.Integer) is = refl
open_room (Some kind.Logical) is = refl
open_room (Some kind.Byte) is = refl
open_room (Some kind.Double) is = refl

opens_procedure : (x : List ℕ) (o : Option ℕ) → Opens (procedure_called x o)
opens_procedure x (Some entry) = opens_pieces (Call (i.Control 0 0) false entry ∷ []) refl
opens_procedure x None = opens_want x false

opens_subroutine : (p : Profile) (args : Part) (o : Option ℕ) → MayOpen args → (is_some o || is_some p.result) ≡ true → Opens (calling p args (subroutine_called o))
opens_subroutine p args (Some entry) a is = opens_calling p args _ a (opens_pieces (Call (i.Control 3 0) false entry ∷ []) refl)
opens_subroutine p args None a is =
    opens_then (opens_then (opens_then (opens_pieces (result_room p.result) (open_room p.result is)) (may_well a)) (well_pieces [] refl))
    (may_well (may_pieces (result_taken p.result) (front_taken p.result)))

opens_called : (c : Scope) (w : Who) (p : Profile) (args : Part) → MayOpen args → has_call c w p ≡ true → Opens (calling p args (called c w))
opens_called c (procedure x) p args a is = opens_calling p args _ a (opens_procedure x (c.procedures x))
opens_called c (subroutine x) p args a is = opens_subroutine p args (c.subroutines x) a is

opens_named : (c : Scope) (x : List ℕ) (s : Sense) (args : Profile → Part) (at : Part)
    → ((p : Profile) → MayOpen (args p)) → (has_place c x ≡ true → Opens at) → has_sense c x s ≡ true → Opens (named c x s args at)
opens_named c x (a_constant (Some v)) args at a b is = opens_pieces (constant (word_of v)) (open_constant (word_of v))
opens_named c x (a_constant None) args at a b is = absurd (false≢true is)
opens_named c x (an_intrinsic i) args at a b is = opens_calling (intrinsic_profile i) _ _ (a (intrinsic_profile i)) (opens_want x true)
opens_named c x (a_call w p) args at a b is = opens_called c w p (args p) (a p) is
opens_named c x a_variable args at a b is = b is

-- ---- 2. along the tree

-- nothing stands behind a value
valued : {p : Part} → Opens p → Opens (p ⨟ closing as_value)
valued h = opens_then h (well_pieces [] refl)

opens_operated : (op : ℕ) (cl : Class) (p : Part) → Opens p → Opens (operated op cl as_value p)
opens_operated op cl p h =
    opens_if (is_relation op) (compared (relation_number op) cl as_value p) (p ⨟ pieces (operator cl op) ⨟ closing as_value)
    (opens_compared (relation_number op) cl as_value p (open_may h)) (valued (opens_then h (may_well (may_pieces (operator cl op) (front_operator cl op)))))

pub opens_name : (c : Scope) (x : List ℕ) (es : Trees) (k : ℕ) → has_sense c x (sense_of x (c.names x)) ≡ true
    → Opens (named c x (sense_of x (c.names x)) (λ p. arguments c p.formals es (k + result_words p)) (index c es false k ⨟ variable c x (is_indexed es) k))
opens_name c x es k is =
    opens_named c x (sense_of x (c.names x)) (λ p. arguments c p.formals es (k + result_words p)) (index c es false k ⨟ variable c x (is_indexed es) k)
    (λ (p : Profile). may_arguments c p.formals es (k + result_words p))
    (λ there. may_opens (may_index c es false k) (opens_variable c x (is_indexed es) k there)) is

pub opens_value : (c : Scope) (e : Tree) (k : ℕ) → has_value c e ≡ true → Opens (code c e as_value k)
opens_value c (tree.Tree.number v) k is = valued (opens_pieces (constant (v % 65536)) (open_constant (v % 65536)))
opens_value c (tree.Tree.wide v) k is = valued (opens_pieces (double_constant (v % 4294967296)) (open_double (v % 4294967296)))
opens_value c (tree.Tree.text bytes) k is = valued (opens_text (text_value bytes) is)
opens_value c (tree.Tree.truth b) k is = valued (opens_pieces (constant (truth_word b)) (open_constant (truth_word b)))
opens_value c (tree.Tree.named x es at) k is = valued (opens_name c x es k is)
opens_value c (tree.Tree.address x es at) k is =
    valued (may_opens (may_index c es (leads_to_doubles (access_of (c.names x))) k) (opens_addressed c x (is_indexed es) k is))
opens_value c (tree.Tree.unary op e at) k is =
    valued (opens_then (opens_value c e k is) (may_well (may_pieces (sign_operator op (kind_of c.names e)) (front_sign op (kind_of c.names e)))))
opens_value c (tree.Tree.binary op a b at) k is =
    opens_if (is_connective op) _ _ (opens_connected op as_value (λ v. code c a v k) (λ v. code c b v k)
    (λ f. opens_code c a (as_test f) k) (λ f. opens_code c b (as_test f) k))
    (opens_if (compares_text c.names op a b) _ _ (opens_text_related (relation_number op) as_value (reference c a k) (text_bytes b) (may_reference c a k))
    (opens_operated op (class_of (kind_of c.names a) (kind_of c.names b)) _
    (opens_then (opens_value c a k is) (may_well (opens_code c b as_value (k + operand_width (kind_of c.names a)))))))
opens_value c (tree.Tree.shift op e by at) k is =
    valued (may_opens (opens_code c e as_value k) (opens_pieces (shift_operator op (small_constant c.names by)) refl))
opens_value c (tree.Tree.field e start size at) k is =
    valued (opens_then (opens_value c e k is)
    (may_well (may_pieces (field_operator (small_constant c.names start) (small_constant c.names size)) (front_field (small_constant c.names start) (small_constant c.names size)))))
opens_value c (tree.Tree.transfer to e at) k is =
    valued (opens_then (opens_value c e k is) (may_well (may_pieces (transfer to (kind_of c.names e)) (front_transfer to (kind_of c.names e)))))
opens_value c (tree.Tree.bytes op a b count at) k is =
    opens_bytes_related op as_value _
    (may_then (may_then (may_reference c a k) (may_reference c b (k + 1))) (opens_code c count as_value (k + 2)))
