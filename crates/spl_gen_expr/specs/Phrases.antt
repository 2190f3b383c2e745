-- The clauses of the definition of code, apart: values without a test, tests of conditions, and the parts of both.
use Rattle.std.specs.Prelude.{ℕ, ◌+◌, ◌%◌, ◌==◌, ◌||◌, Bool, true, false, if◌then◌else◌, ℤ, List, Option, Some, None}
use Rattle.spl_tree.specs.Trees as tree
use Rattle.spl_tree.specs.Trees.{Tree, Trees}
use Rattle.spl_sorts.specs.spl_meaning.Names as n
use Rattle.spl_sorts.specs.spl_meaning.Names.{Sort, Formal, Profile, text_value, truth_word}
use Rattle.spl_sorts.specs.spl_meaning.Kinds.{kind_of, operand_width, class_of, is_connective, is_relation, compares_text, relation_number, or_operator}
use Rattle.spl_sorts.specs.spl_meaning.Pending.{result_words}
use Rattle.spl_sorts.specs.spl_meaning.References.{access_of}
use Rattle.spl_sorts.specs.spl_meaning.Values.{procedure, subroutine, sense_of, text_bytes, small_constant}
use Rattle.spl_operations.specs.spl_code.Parts.{Part, pieces, piece, nothing, ◌⨟◌, call_wanted}
use Rattle.spl_operations.specs.spl_code.Instructions.{CMPB}
use Rattle.spl_operations.specs.spl_code.Constants.{constant, double_constant, text_constant}
use Rattle.spl_operations.specs.spl_code.Operators.{operator, comparison, sign_operator, shift_operator, field_operator, transfer}
use Rattle.spl_operations.specs.spl_code.Operands.{index_to_x, leads_to_doubles}
use Rattle.spl_operations.specs.spl_code.Calls.{Scope, result_room, called}
use Rattle.spl_operations.specs.spl_code.Code.{as_value, as_test, code, reference, index, arguments, argument, named, variable, addressed, is_indexed, either_of, related, text_compared}

-- AND, OR, and relations
abbrev pub is_condition : Tree → Bool
is_condition (tree.Tree.binary op a b at) = is_connective op || is_relation op
is_condition (tree.Tree.bytes op a b count at) = true
is_condition _ = false

-- a name with what stands behind it
abbrev pub named_part : Scope → List ℕ → Trees → ℕ → Part
named_part c x es k =
    named c x (sense_of x (c.names x)) (λ p. arguments c p.formals es (k + result_words p)) (index c es false k ⨟ variable c x (is_indexed es) k)

-- the value of a name of a sum, where it is one
abbrev pub equated : Option Sort → Option (Option ℤ)
equated (Some (n.equate v)) = Some v
equated _ = None

-- the call of what a name stands for
abbrev pub called_by : Scope → List ℕ → Option Sort → Part
called_by c x (Some (n.intrinsic i)) = call_wanted x true
called_by c x (Some (n.procedure p)) = called c (procedure x)
called_by c x (Some (n.subroutine p)) = called c (subroutine x)
called_by c x _ = nothing

-- a variable at its index
abbrev pub element_part : Scope → List ℕ → Trees → ℕ → Part
element_part c x es k = index c es false k ⨟ variable c x (is_indexed es) k

-- the address of a name with an index
abbrev pub address_part : Scope → List ℕ → Trees → ℕ → Part
address_part c x es k = index c es (leads_to_doubles (access_of (c.names x))) k ⨟ addressed c x (is_indexed es) k

-- two operands in order
abbrev pub both_values : Scope → Tree → Tree → ℕ → Part
both_values c a b k = code c a as_value k ⨟ code c b as_value (k + operand_width (kind_of c.names a))

-- the value of what is no condition
abbrev pub value_part : Scope → Tree → ℕ → Part
value_part c (tree.Tree.number v) k = pieces (constant (v % 65536))
value_part c (tree.Tree.wide v) k = pieces (double_constant (v % 4294967296))
value_part c (tree.Tree.text bytes) k = text_constant (text_value bytes)
value_part c (tree.Tree.truth b) k = pieces (constant (truth_word b))
value_part c (tree.Tree.named x es at) k = named_part c x es k
value_part c (tree.Tree.address x es at) k = address_part c x es k
value_part c (tree.Tree.unary op e at) k = code c e as_value k ⨟ pieces (sign_operator op (kind_of c.names e))
value_part c (tree.Tree.binary op a b at) k =
    both_values c a b k ⨟ pieces (operator (class_of (kind_of c.names a) (kind_of c.names b)) op)
value_part c (tree.Tree.shift op e by at) k = code c e as_value k ⨟ pieces (shift_operator op (small_constant c.names by))
value_part c (tree.Tree.field e start size at) k =
    code c e as_value k ⨟ pieces (field_operator (small_constant c.names start) (small_constant c.names size))
value_part c (tree.Tree.transfer to e at) k = code c e as_value k ⨟ pieces (transfer to (kind_of c.names e))
value_part c (tree.Tree.bytes op a b count at) k = nothing

-- tests of OR and AND
abbrev pub either_part : Scope → Tree → ℕ → ℕ → Part
either_part c (tree.Tree.binary op a b at) k fail = either_of (λ v. code c a v k) (λ v. code c b v k) fail
either_part c _ k fail = nothing

abbrev pub both_part : Scope → Tree → ℕ → ℕ → Part
both_part c (tree.Tree.binary op a b at) k fail = code c a (as_test fail) k ⨟ code c b (as_test fail) k
both_part c _ k fail = nothing

-- of relations: of two values, of bytes to a string, of bytes by their number
abbrev pub relation_part : Scope → Tree → ℕ → ℕ → Part
relation_part c (tree.Tree.binary op a b at) k fail =
    both_values c a b k ⨟ pieces (comparison (class_of (kind_of c.names a) (kind_of c.names b))) ⨟ related (relation_number op) fail
relation_part c _ k fail = nothing

abbrev pub text_part : Scope → Tree → ℕ → ℕ → Part
text_part c (tree.Tree.binary op a b at) k fail = reference c a k ⨟ text_compared (text_bytes b) ⨟ related (relation_number op) fail
text_part c _ k fail = nothing

abbrev pub bytes_part : Scope → Tree → ℕ → ℕ → Part
bytes_part c (tree.Tree.bytes op a b count at) k fail =
    reference c a k ⨟ reference c b (k + 1) ⨟ code c count as_value (k + 2) ⨟ piece (CMPB 0) ⨟ related op fail
bytes_part c _ k fail = nothing

-- the test of a condition
abbrev pub test_part : Scope → Tree → ℕ → ℕ → Part
test_part c (tree.Tree.binary op a b at) k fail =
    if is_connective op then (if op == or_operator then either_part c (tree.Tree.binary op a b at) k fail else both_part c (tree.Tree.binary op a b at) k fail)
    else if compares_text c.names op a b then text_part c (tree.Tree.binary op a b at) k fail
    else relation_part c (tree.Tree.binary op a b at) k fail
test_part c (tree.Tree.bytes op a b count at) k fail = bytes_part c (tree.Tree.bytes op a b count at) k fail
test_part c _ k fail = nothing

-- an index that there is
abbrev pub index_part : Scope → Tree → Bool → ℕ → Part
index_part c e doubled k = code c e as_value k ⨟ pieces (index_to_x doubled)

-- the room and the arguments of a call
abbrev pub call_part : Scope → Profile → Trees → ℕ → Part
call_part c p es k = pieces (result_room p.result) ⨟ arguments c p.formals es (k + result_words p)

-- an argument
abbrev pub argument_part : Scope → Formal → Tree → ℕ → Part
argument_part c f e k = argument f (code c e as_value k) (reference c e k)
