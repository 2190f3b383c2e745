-- The code of expressions and conditions: one recursion on the tree, by what is wanted of it and by how many words wait.
use Rattle.std.specs.Prelude.{ℕ, ◌+◌, ◌%◌, ◌==◌, Bool, true, false, if◌then◌else◌, List, [], ◌∷◌, length}
use Rattle.spl_meaning.specs.spl_tree.Trees as tree
use Rattle.spl_meaning.specs.spl_tree.Trees.{Tree, Trees}
use Rattle.spl_meaning.specs.Names.{Formal, Profile, intrinsic_profile, text_value, truth_word}
use Rattle.spl_meaning.specs.Kinds.{Class, kind_of, operand_width, class_of, is_connective, is_relation, compares_text, relation_number, or_operator}
use Rattle.spl_meaning.specs.Pending.{by_value, result_words, formal_words}
use Rattle.spl_meaning.specs.References.{access_of}
use Rattle.spl_meaning.specs.Values.{Sense, a_constant, an_intrinsic, a_call, a_variable, sense_of, small_constant, text_bytes}
use Rattle.spl_branch.specs.declared.pieces.Piece.TheVariants.{Mark}
use Rattle.spl_code.specs.Instructions.{ZERO, LSL, LDNI, BR, BRE, BCC, CMPB}
use Rattle.spl_code.specs.Parts.{Part, pieces, piece, nothing, ◌⨟◌, with_fresh, call_wanted}
use Rattle.spl_code.specs.Constants.{constant, double_constant, text_constant, number_constant, text_offset}
use Rattle.spl_code.specs.Operators.{operator, comparison, failing_codes, sign_operator, shift_operator, field_operator, transfer, as_parameter}
use Rattle.spl_code.specs.Operands.{mode_of, loaded, address, leads_to_doubles, index_to_x, at_place}
use Rattle.spl_code.specs.Calls.{Scope, result_room, result_taken, called}

-- what is wanted of an expression: its value, or a test that goes on where it is true and leads to a mark where it is not
pub data Aim : Type 0 where
  as_value : Aim
  as_test : ℕ → Aim

-- a value that is tested: its lowest bit decides
abbrev pub closing : Aim → Part
closing as_value = nothing
closing (as_test fail) = piece (BRE fail)

-- A condition is a test by itself. As a value it is all ones where the test goes on, and zero where it leads to its mark.
abbrev pub condition : Aim → (ℕ → Part) → Part
condition (as_test fail) test = test fail
condition as_value test =
    with_fresh (λ fail. with_fresh (λ end.
    test fail ⨟ piece (LDNI 1) ⨟ piece (BR end) ⨟ piece (Mark fail) ⨟ piece ZERO ⨟ piece (Mark end)))

-- a relation of what was compared
abbrev pub related : ℕ → ℕ → Part
related op fail = piece (BCC (failing_codes op) fail)

-- the bytes of a string are compared with those from the address on top on
abbrev pub text_compared : List ℕ → Part
text_compared bytes = text_offset bytes ⨟ piece (LSL 1) ⨟ pieces (constant (length bytes % 65536)) ⨟ piece (CMPB 1)

-- AND: each side leads to the mark where it is false
abbrev pub both_tested : Aim → (Aim → Part) → (Aim → Part) → Part
both_tested aim left right = condition aim (λ fail. left (as_test fail) ⨟ right (as_test fail))

-- OR, as a test: where the left side is false it leads to the right one, else over that
abbrev pub either_of : (Aim → Part) → (Aim → Part) → ℕ → Part
either_of left right fail =
    with_fresh (λ next. with_fresh (λ over.
    left (as_test next) ⨟ piece (BR over) ⨟ piece (Mark next) ⨟ right (as_test fail) ⨟ piece (Mark over)))

abbrev pub either_tested : Aim → (Aim → Part) → (Aim → Part) → Part
either_tested aim left right = condition aim (either_of left right)

-- OR and AND, by their numbers
abbrev pub connected : ℕ → Aim → (Aim → Part) → (Aim → Part) → Part
connected op aim left right = if op == or_operator then either_tested aim left right else both_tested aim left right

-- a relation of the address of bytes to a string
abbrev pub text_related : ℕ → Aim → Part → List ℕ → Part
text_related op aim address bytes = condition aim (λ fail. address ⨟ text_compared bytes ⨟ related op fail)

-- a relation of the bytes at two addresses, so many as a count says
abbrev pub bytes_related : ℕ → Aim → Part → Part
bytes_related op aim operands = condition aim (λ fail. operands ⨟ piece (CMPB 0) ⨟ related op fail)

-- a relation of two values of a class
abbrev pub compared : ℕ → Class → Aim → Part → Part
compared op class aim operands = condition aim (λ fail. operands ⨟ pieces (comparison class) ⨟ related op fail)

-- an operator that is neither AND nor OR, behind two values of a class
abbrev pub operated : ℕ → Class → Aim → Part → Part
operated op class aim operands =
    if is_relation op then compared (relation_number op) class aim operands else operands ⨟ pieces (operator class op) ⨟ closing aim

-- whether a name has an index
abbrev pub is_indexed : Trees → Bool
is_indexed tree.Trees.none = false
is_indexed (tree.Trees.and e es) = true

-- the value of a variable, behind the code of its index
abbrev pub variable : Scope → List ℕ → Bool → ℕ → Part
variable c x indexed k = pieces (at_place (c.places x) (λ place. loaded (access_of (c.names x)) indexed (mode_of k place)))

-- the address of a reference, behind the code of its index
abbrev pub addressed : Scope → List ℕ → Bool → ℕ → Part
addressed c x indexed k = pieces (at_place (c.places x) (λ place. address (access_of (c.names x)) indexed (mode_of k place)))

-- a call: room for its result, its arguments, and the call itself
abbrev pub calling : Profile → Part → Part → Part
calling p arguments call = pieces (result_room p.result) ⨟ arguments ⨟ call ⨟ pieces (result_taken p.result)

-- a name in an expression: a constant, a call with its arguments, or the variable at its index
abbrev pub named : Scope → List ℕ → Sense → (Profile → Part) → Part → Part
named c x (a_constant v) arguments at_index = number_constant v
named c x (an_intrinsic i) arguments at_index = calling (intrinsic_profile i) (arguments (intrinsic_profile i)) (call_wanted x true)
named c x (a_call who p) arguments at_index = calling p (arguments p) (called c who)
named c x a_variable arguments at_index = at_index

-- an argument: its value as its parameter holds it, or the address of what it names
abbrev pub argument : Formal → Part → Part → Part
argument f by_its_value by_its_address = if by_value f then by_its_value ⨟ pieces (as_parameter f.kind) else by_its_address

abbrev mutual
  -- an expression
  pub code : Scope → Tree → Aim → ℕ → Part
  code c (tree.Tree.number v) aim k = pieces (constant (v % 65536)) ⨟ closing aim
  code c (tree.Tree.wide v) aim k = pieces (double_constant (v % 4294967296)) ⨟ closing aim
  code c (tree.Tree.text bytes) aim k = text_constant (text_value bytes) ⨟ closing aim
  code c (tree.Tree.truth b) aim k = pieces (constant (truth_word b)) ⨟ closing aim
  code c (tree.Tree.named x es at) aim k =
      named c x (sense_of x (c.names x)) (λ p. arguments c p.formals es (k + result_words p)) (index c es false k ⨟ variable c x (is_indexed es) k)
      ⨟ closing aim
  code c (tree.Tree.address x es at) aim k =
      index c es (leads_to_doubles (access_of (c.names x))) k ⨟ addressed c x (is_indexed es) k ⨟ closing aim
  code c (tree.Tree.unary op e at) aim k = code c e as_value k ⨟ pieces (sign_operator op (kind_of c.names e)) ⨟ closing aim
  code c (tree.Tree.binary op a b at) aim k =
      if is_connective op then connected op aim (λ v. code c a v k) (λ v. code c b v k)
      else if compares_text c.names op a b then text_related (relation_number op) aim (reference c a k) (text_bytes b)
      else operated op (class_of (kind_of c.names a) (kind_of c.names b)) aim
      (code c a as_value k ⨟ code c b as_value (k + operand_width (kind_of c.names a)))
  code c (tree.Tree.shift op e by at) aim k =
      code c e as_value k ⨟ pieces (shift_operator op (small_constant c.names by)) ⨟ closing aim
  code c (tree.Tree.field e start size at) aim k =
      code c e as_value k ⨟ pieces (field_operator (small_constant c.names start) (small_constant c.names size)) ⨟ closing aim
  code c (tree.Tree.transfer to e at) aim k = code c e as_value k ⨟ pieces (transfer to (kind_of c.names e)) ⨟ closing aim
  code c (tree.Tree.bytes op a b count at) aim k =
      bytes_related op aim (reference c a k ⨟ reference c b (k + 1) ⨟ code c count as_value (k + 2))

  -- the address of a reference
  pub reference : Scope → Tree → ℕ → Part
  reference c (tree.Tree.named x es at) k =
      index c es (leads_to_doubles (access_of (c.names x))) k ⨟ addressed c x (is_indexed es) k
  reference c _ k = nothing

  -- an index goes to X, where there is one
  pub index : Scope → Trees → Bool → ℕ → Part
  index c tree.Trees.none doubled k = nothing
  index c (tree.Trees.and e es) doubled k = code c e as_value k ⨟ pieces (index_to_x doubled)

  -- arguments, one for each parameter; each waits for those behind it
  pub arguments : Scope → List Formal → Trees → ℕ → Part
  arguments c [] es k = nothing
  arguments c (f ∷ fs) tree.Trees.none k = nothing
  arguments c (f ∷ fs) (tree.Trees.and e es) k =
      argument f (code c e as_value k) (reference c e k) ⨟ arguments c fs es (k + formal_words f)
