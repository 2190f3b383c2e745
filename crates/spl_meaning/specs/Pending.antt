-- Pending words: those that wait above a frame while a part is worked out; and depths, the room that bodies need.
use Rattle.std.specs.Prelude.{ℕ, ◌+◌, Bool, true, false, max, if◌then◌else◌, List, [], ◌∷◌, Option, Some, None}
use Rattle.spl_tree.specs.declared.expressions.Kind.{Kind}
use Rattle.spl_tree.specs.Trees as tree
use Rattle.spl_tree.specs.Trees.{Tree, Trees}
use Rattle.spl_tree.specs.StatementTrees as stat
use Rattle.spl_tree.specs.StatementTrees.{Statement, Statements, Target, Source, Effect, Test}
use Rattle.spl_meaning.specs.Names as n
use Rattle.spl_meaning.specs.Names.{Names, Sort, Formal, Profile}
use Rattle.spl_meaning.specs.Kinds.{width, result_width, operand_width, kind_of, is_connective, compares_text, callable}

-- ---- words of parameters

-- the words of a parameter by value, or by reference
abbrev pub value_words : Bool → Option Kind → ℕ
value_words true (Some k) = width k
value_words _ k = 1

-- a parameter that is given its value: VALUE lists it, and it is no array
abbrev pub by_value : Formal → Bool
by_value f = if f.array then false else f.value

-- a value has the words of its kind, a reference is one word
abbrev pub formal_words : Formal → ℕ
formal_words f = value_words (by_value f) f.kind

-- the words of parameters
abbrev pub formals_words : List Formal → ℕ
formals_words [] = 0
formals_words (f ∷ fs) = formal_words f + formals_words fs

-- the words of a result
abbrev pub result_words : Profile → ℕ
result_words p = result_width p.result

-- the words of a marker
abbrev pub marker_words : ℕ
marker_words = 4

-- the words of a return word
abbrev pub return_words : ℕ
return_words = 1

-- ---- the greatest number of pending words at any point of a part, above those that stood before it

-- the words that a call puts behind its parameters: a marker, a return word, or none
abbrev pub link_words : Option Sort → ℕ
link_words (Some (n.procedure p)) = marker_words
link_words (Some (n.subroutine p)) = return_words
link_words _ = 0

-- the first of a list of parameters, and the others
abbrev pub first_formal : List Formal → Option Formal
first_formal [] = None
first_formal (f ∷ fs) = Some f

-- the parameters behind the first
abbrev pub other_formals : List Formal → List Formal
other_formals [] = []
other_formals (f ∷ fs) = fs

-- the words of an argument
abbrev pub argument_words : Option Formal → ℕ
argument_words None = 0
argument_words (Some f) = formal_words f

-- the parameters of what is called
abbrev pub profile_formals : Option Profile → List Formal
profile_formals None = []
profile_formals (Some p) = p.formals

-- the words of its result
abbrev pub profile_result_words : Option Profile → ℕ
profile_result_words None = 0
profile_result_words (Some p) = result_words p

-- the words of a left operand that wait for the right one: its value, but nothing of AND and OR, nor of a comparison with a string
abbrev pub left_words : Names → ℕ → Tree → Tree → ℕ
left_words names op a b =
    if is_connective op then 0 else if compares_text names op a b then 0 else operand_width (kind_of names a)

abbrev mutual
  -- an expression
  pub most : Names → Tree → ℕ
  most names (tree.Tree.number v) = 0
  most names (tree.Tree.wide v) = 0
  most names (tree.Tree.text bytes) = 0
  most names (tree.Tree.truth b) = 0
  most names (tree.Tree.named x es at) =
      let p = callable (names x) in
      max (most_of names (profile_formals p) (profile_result_words p) es)
      (profile_result_words p + formals_words (profile_formals p) + link_words (names x))
  most names (tree.Tree.address x es at) = most_of names [] 0 es
  most names (tree.Tree.unary op e at) = most names e
  most names (tree.Tree.binary op a b at) = max (most names a) (left_words names op a b + most names b)
  most names (tree.Tree.shift op e by at) = most names e
  most names (tree.Tree.field e start size at) = most names e
  most names (tree.Tree.transfer k e at) = most names e
  most names (tree.Tree.bytes op a b count at) = max (most names a) (max (1 + most names b) (2 + most names count))

  -- arguments, or an index: each waits for those behind it
  pub most_of : Names → List Formal → ℕ → Trees → ℕ
  most_of names fs k tree.Trees.none = 0
  most_of names fs k (tree.Trees.and e es) =
      max (k + most names e) (most_of names (other_formals fs) (k + argument_words (first_formal fs)) es)

-- what waits behind k words once the index of a reference is worked out, where it has one
abbrev pub behind_index : Tree → ℕ → ℕ
behind_index (tree.Tree.named x (tree.Trees.and e es) at) k = k + 1
behind_index _ k = k

-- what waits behind k words while the value for a target is worked out
abbrev pub waiting : Target → ℕ → ℕ
waiting (stat.Target.plain r) k = behind_index r k
waiting (stat.Target.field r start size) k = behind_index r k
waiting (stat.Target.address x at) k = k

-- a reference that is assigned: its index alone, since assigning a result is no call
abbrev pub index_most : Names → Tree → ℕ
index_most names (tree.Tree.named x es at) = most_of names [] 0 es
index_most names _ = 0

-- a target
abbrev pub target_most : Names → Target → ℕ
target_most names (stat.Target.plain r) = index_most names r
target_most names (stat.Target.field r start size) = index_most names r
target_most names (stat.Target.address x at) = 0

-- What waits behind k words while the second reference of a MOVE is worked out, or the test word of a SCAN: the first address, and a word
-- more where the answer is used.
abbrev pub behind_first : Bool → ℕ → ℕ
behind_first true k = k + 2
behind_first false k = k + 1

-- what waits behind k words while the count of a MOVE is worked out: both addresses, and a word more where the answer is used
abbrev pub behind_second : Bool → ℕ → ℕ
behind_second true k = k + 3
behind_second false k = k + 2

-- what a MOVE moves
abbrev pub source_most : Names → Bool → Source → ℕ
source_most names used (stat.Source.counted r count) = max (behind_first used (most names r)) (behind_second used (most names count))
source_most names used (stat.Source.text bytes) = 0
source_most names used (stat.Source.class_of r c) = behind_first used (most names r)

-- a MOVE or a SCAN, whose answer is used or not
abbrev pub effect_most : Names → Bool → Effect → ℕ
effect_most names used (stat.Effect.move r from) = max (most names r) (source_most names used from)
effect_most names used (stat.Effect.scan r until e) = max (most names r) (behind_first used (most names e))

-- what an IF tests
abbrev pub test_most : Names → Test → ℕ
test_most names (stat.Test.condition e) = most names e
test_most names (stat.Test.code op) = 0

-- an expression that may be none
abbrev pub trees_most : Names → Trees → ℕ
trees_most names tree.Trees.none = 0
trees_most names (tree.Trees.and e es) = most names e

abbrev mutual
  -- a statement
  pub statement_most : Names → Statement → ℕ
  statement_most names stat.Statement.empty = 0
  statement_most names (stat.Statement.labelled x at s) = statement_most names s
  statement_most names (stat.Statement.block ss) = statements_most names ss
  statement_most names (stat.Statement.if_test q then_part else_part at) =
      max (test_most names q) (max (statement_most names then_part) (statements_most names else_part))
  statement_most names (stat.Statement.while_true q s at) = max (most names q) (statement_most names s)
  statement_most names (stat.Statement.until_true s q at) = max (statement_most names s) (most names q)
  statement_most names (stat.Statement.for_values x first step last s at) =
      max (most names first) (max (1 + trees_most names step) (max (2 + most names last) (3 + statement_most names s)))
  statement_most names (stat.Statement.case_of e ss at) = max (most names e) (statements_most names ss)
  statement_most names (stat.Statement.go_to x at) = 0
  statement_most names (stat.Statement.return at) = 0
  statement_most names (stat.Statement.assign to e at) = max (target_most names to) (waiting to (most names e))
  statement_most names (stat.Statement.assign_effect to e at) = max (target_most names to) (waiting to (effect_most names true e))
  statement_most names (stat.Statement.do_effect e at) = effect_most names false e
  statement_most names (stat.Statement.call x es at) = most names (tree.Tree.named x es at)

  -- the statements of a list
  pub statements_most : Names → Statements → ℕ
  statements_most names stat.Statements.none = 0
  statements_most names (stat.Statements.and s ss) = max (statement_most names s) (statements_most names ss)

-- A body's depth: the greatest number of its pending words, and 8 more. A subroutine's counts those above its return word.
abbrev pub depth : Names → Statements → ℕ
depth names ss = statements_most names ss + 8
