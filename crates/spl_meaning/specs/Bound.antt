-- How many words the code of a segment may have: 24 for each node of its procedures and of its main body, the words of their strings,
-- its entries, and one.
use Rattle.std.specs.Prelude.{ℕ, ◌+◌, ◌*◌, ◌/◌, ◌&&◌, not, Bool, true, false, if◌then◌else◌, List, [], ◌∷◌, ◌++◌, length, get_or, codes, Option, Some}
use Rattle.spl_tree.specs.Trees as tree
use Rattle.spl_tree.specs.Trees.{Tree, Trees, Constant}
use Rattle.spl_tree.specs.StatementTrees as stat
use Rattle.spl_tree.specs.StatementTrees.{Statement, Statements, Target, Source as Moved, Effect, Test, statements}
use Rattle.spl_tree.specs.DeclarationTrees as decl
use Rattle.spl_tree.specs.DeclarationTrees.{Placed, Spec, Heading, Item, Equal, Term, Shape, Declaration, Declarations, declarations}
use Rattle.spl_meaning.specs.Names as n
use Rattle.spl_meaning.specs.Names.{Names, Sort, same_flag, find, same_name}
use Rattle.spl_meaning.specs.Tables.{Source, Routine, Subroutine, unit_table, routines_of, routine_names, routine_subroutines, unit_subroutines, subroutine_names}
use Rattle.spl_meaning.specs.Places.{sum}

-- ---- weights: 24 for a node, and the words of its strings

-- the weight of a node
abbrev pub node : ℕ
node = 24

-- the words of a string, two characters to a word
abbrev pub string_words : List ℕ → ℕ
string_words bytes = (length bytes + 1) / 2

-- a constant
abbrev pub constant_weight : Constant → ℕ
constant_weight (tree.Constant.text bytes) = node + string_words bytes
constant_weight _ = node

abbrev mutual
  -- an expression or a reference
  pub weight : Tree → ℕ
  weight (tree.Tree.number v) = node
  weight (tree.Tree.wide v) = node
  weight (tree.Tree.text bytes) = node + string_words bytes
  weight (tree.Tree.truth b) = node
  weight (tree.Tree.named x es at) = node + trees_weight es
  weight (tree.Tree.address x es at) = node + trees_weight es
  weight (tree.Tree.unary op e at) = node + weight e
  weight (tree.Tree.binary op a b at) = node + weight a + weight b
  weight (tree.Tree.shift op e by at) = node + weight e + constant_weight by
  weight (tree.Tree.field e start size at) = node + weight e + constant_weight start + constant_weight size
  weight (tree.Tree.transfer to e at) = node + weight e
  weight (tree.Tree.bytes op a b count at) = node + weight a + weight b + weight count

  -- arguments, or an index
  pub trees_weight : Trees → ℕ
  trees_weight tree.Trees.none = 0
  trees_weight (tree.Trees.and e es) = weight e + trees_weight es

-- a target is a node beside its reference
abbrev pub target_weight : Target → ℕ
target_weight (stat.Target.plain r) = node + weight r
target_weight (stat.Target.field r start size) = node + weight r + constant_weight start + constant_weight size
target_weight (stat.Target.address x at) = node

-- what a MOVE moves
abbrev pub source_weight : Moved → ℕ
source_weight (stat.Source.counted r e) = node + weight r + weight e
source_weight (stat.Source.text bytes) = node + string_words bytes
source_weight (stat.Source.class_of r c) = node + weight r

-- a MOVE or a SCAN
abbrev pub effect_weight : Effect → ℕ
effect_weight (stat.Effect.move r from) = node + weight r + source_weight from
effect_weight (stat.Effect.scan r until e) = node + weight r + weight e

-- what an IF tests
abbrev pub test_weight : Test → ℕ
test_weight (stat.Test.condition e) = node + weight e
test_weight (stat.Test.code op) = node

abbrev mutual
  -- a statement
  pub statement_weight : Statement → ℕ
  statement_weight stat.Statement.empty = node
  statement_weight (stat.Statement.labelled x at s) = node + statement_weight s
  statement_weight (stat.Statement.block ss) = node + statements_weight ss
  statement_weight (stat.Statement.if_test q then_part else_part at) =
      node + test_weight q + statement_weight then_part + statements_weight else_part
  statement_weight (stat.Statement.while_true e s at) = node + weight e + statement_weight s
  statement_weight (stat.Statement.until_true s e at) = node + statement_weight s + weight e
  statement_weight (stat.Statement.for_values x first step last s at) =
      node + weight first + trees_weight step + weight last + statement_weight s
  statement_weight (stat.Statement.case_of e ss at) = node + weight e + statements_weight ss
  statement_weight (stat.Statement.go_to x at) = node
  statement_weight (stat.Statement.return at) = node
  statement_weight (stat.Statement.assign to e at) = node + target_weight to + weight e
  statement_weight (stat.Statement.assign_effect to e at) = node + target_weight to + effect_weight e
  statement_weight (stat.Statement.do_effect e at) = node + effect_weight e
  statement_weight (stat.Statement.call x es at) = node + trees_weight es

  -- statements in order
  pub statements_weight : Statements → ℕ
  statements_weight stat.Statements.none = 0
  statements_weight (stat.Statements.and s ss) = statement_weight s + statements_weight ss

-- names in a list
abbrev pub listed_weight : List Placed → ℕ
listed_weight names = node * length names

-- a heading with its lists
abbrev pub heading_weight : Heading → ℕ
heading_weight h = node + listed_weight h.names + listed_weight h.values + sum (λ (l : Spec). node + listed_weight l.names) h.specs

-- the bounds of an array
abbrev pub shape_weight : Shape → ℕ
shape_weight (decl.Shape.array low high) = constant_weight low + constant_weight high
shape_weight _ = 0

-- an item with its bounds and initial values
abbrev pub item_weight : Item → ℕ
item_weight i = node + shape_weight i.shape + sum constant_weight i.first

-- an EQUATE counts one listed name for each of its items
abbrev pub equate_weight : Equal → ℕ
equate_weight e = node + sum (λ (t : Term). constant_weight t.value) e.terms

-- a subroutine is a declaration with a heading
abbrev pub subroutine_weight : Heading → Statement → ℕ
subroutine_weight h s = node + heading_weight h + statement_weight s

-- a declaration of a procedure's body
abbrev pub declaration_weight : Declaration → ℕ
declaration_weight (decl.Declaration.data_items own k items) = node + sum item_weight items
declaration_weight (decl.Declaration.equate es) = node + sum equate_weight es
declaration_weight (decl.Declaration.intrinsic xs) = node + listed_weight xs
declaration_weight (decl.Declaration.label xs) = node + listed_weight xs
declaration_weight (decl.Declaration.subroutine h s) = subroutine_weight h s
declaration_weight _ = 0

-- declarations in order
abbrev pub declarations_weight : Declarations → ℕ
declarations_weight decl.none = 0
declarations_weight (decl.and d ds) = declaration_weight d + declarations_weight ds

-- a procedure: its heading, its body, and what is in it
abbrev pub routine_weight : Routine → ℕ
routine_weight r = heading_weight r.heading + node + declarations_weight r.items + statements_weight (statements r.statements)

-- subroutines in order
abbrev pub subroutines_weight : List Subroutine → ℕ
subroutines_weight ss = sum (λ s. subroutine_weight s.heading s.statement) ss

-- a main body: its unit, the unit's subroutines and statements
abbrev pub main_weight : Source → ℕ
main_weight u =
    node + subroutines_weight (unit_subroutines u) + statements_weight (statements u.tree.statements)

-- ---- the names that code calls

abbrev mutual
  -- all names in an expression, those of arguments before that of their call
  pub names_in : Tree → List (List ℕ)
  names_in (tree.Tree.number v) = []
  names_in (tree.Tree.wide v) = []
  names_in (tree.Tree.text bytes) = []
  names_in (tree.Tree.truth b) = []
  names_in (tree.Tree.named x es at) = names_among es ++ x ∷ []
  names_in (tree.Tree.address x es at) = names_among es
  names_in (tree.Tree.unary op e at) = names_in e
  names_in (tree.Tree.binary op a b at) = names_in a ++ names_in b
  names_in (tree.Tree.shift op e by at) = names_in e
  names_in (tree.Tree.field e start size at) = names_in e
  names_in (tree.Tree.transfer to e at) = names_in e
  names_in (tree.Tree.bytes op a b count at) = names_in a ++ names_in b ++ names_in count

  -- all names in arguments, or in an index
  pub names_among : Trees → List (List ℕ)
  names_among tree.Trees.none = []
  names_among (tree.Trees.and e es) = names_in e ++ names_among es

-- of a reference that is assigned, the index alone
abbrev pub index_names : Tree → List (List ℕ)
index_names (tree.Tree.named x es at) = names_among es
index_names _ = []

-- the names in a target
abbrev pub target_names : Target → List (List ℕ)
target_names (stat.Target.plain r) = index_names r
target_names (stat.Target.field r start size) = index_names r
target_names (stat.Target.address x at) = []

-- the names in what a MOVE moves
abbrev pub source_names : Moved → List (List ℕ)
source_names (stat.Source.counted r e) = names_in r ++ names_in e
source_names (stat.Source.text bytes) = []
source_names (stat.Source.class_of r c) = names_in r

-- the names in a MOVE or a SCAN
abbrev pub effect_names : Effect → List (List ℕ)
effect_names (stat.Effect.move r from) = names_in r ++ source_names from
effect_names (stat.Effect.scan r until e) = names_in r ++ names_in e

-- the names in a test
abbrev pub test_names : Test → List (List ℕ)
test_names (stat.Test.condition e) = names_in e
test_names (stat.Test.code op) = []

abbrev mutual
  -- the names in a statement
  pub statement_names : Statement → List (List ℕ)
  statement_names stat.Statement.empty = []
  statement_names (stat.Statement.labelled x at s) = statement_names s
  statement_names (stat.Statement.block ss) = statements_names ss
  statement_names (stat.Statement.if_test q then_part else_part at) =
      test_names q ++ statement_names then_part ++ statements_names else_part
  statement_names (stat.Statement.while_true e s at) = names_in e ++ statement_names s
  statement_names (stat.Statement.until_true s e at) = statement_names s ++ names_in e
  statement_names (stat.Statement.for_values x first step last s at) =
      names_in first ++ names_among step ++ names_in last ++ statement_names s
  statement_names (stat.Statement.case_of e ss at) = names_in e ++ statements_names ss
  statement_names (stat.Statement.go_to x at) = []
  statement_names (stat.Statement.return at) = []
  statement_names (stat.Statement.assign to e at) = target_names to ++ names_in e
  statement_names (stat.Statement.assign_effect to e at) = target_names to ++ effect_names e
  statement_names (stat.Statement.do_effect e at) = effect_names e
  statement_names (stat.Statement.call x es at) = names_among es ++ x ∷ []

  -- the names in statements in order
  pub statements_names : Statements → List (List ℕ)
  statements_names stat.Statements.none = []
  statements_names (stat.Statements.and s ss) = statement_names s ++ statements_names ss

-- ---- entries

-- what a segment's table leads to elsewhere: an intrinsic, or a procedure of another segment
pub record Want : Type 0 where
  pub gate : Bool
  pub name : List ℕ

-- whether a want is among some
abbrev pub is_wanted : List Want → Want → Bool
is_wanted [] w = false
is_wanted (v ∷ vs) w = if same_flag v.gate w.gate && same_name v.name w.name then true else is_wanted vs w

-- each want once
abbrev pub with_want : List Want → Want → List Want
with_want ws w = if is_wanted ws w then ws else ws ++ w ∷ []

-- whether a name is one of these
abbrev pub stands_in : List (List ℕ) → List ℕ → Bool
stands_in [] x = false
stands_in (y ∷ ys) x = if same_name x y then true else stands_in ys x

-- the wants behind a call of a name
abbrev pub with_call : List (List ℕ) → List Want → Option Sort → List ℕ → List Want
with_call here ws (Some (n.intrinsic i)) x = with_want ws (record { gate = true; name = x })
with_call here ws (Some (n.procedure p)) x = if stands_in here x then ws else with_want ws (record { gate = false; name = x })
with_call here ws _ x = ws

-- the wants behind calls of these names
abbrev pub with_calls : List (List ℕ) → Names → List Want → List (List ℕ) → List Want
with_calls here names ws [] = ws
with_calls here names ws (x ∷ xs) = with_calls here names (with_call here ws (names x) x) xs

-- the wants behind subroutines
abbrev pub with_subroutines : List (List ℕ) → Names → List Want → List Subroutine → List Want
with_subroutines here around ws [] = ws
with_subroutines here around ws (s ∷ ss) =
    with_subroutines here around (with_calls here (subroutine_names around s) ws (statement_names s.statement)) ss

-- ---- segments

-- the name of a unit's segment by its number
abbrev pub segment_name : Source → ℕ → List ℕ
segment_name u i = get_or u.segments i []

-- the procedures of a unit that stand in a segment
abbrev pub among_segment : Source → List ℕ → List Routine → List Routine
among_segment u x [] = []
among_segment u x (r ∷ rs) = if same_name (segment_name u r.heading.segment) x then r ∷ among_segment u x rs else among_segment u x rs

-- the procedures of a unit in a segment
abbrev pub routines_in : Source → List ℕ → List Routine
routines_in u x = among_segment u x (routines_of u)

-- whether the main body of a unit stands in a segment
abbrev pub has_main : Source → List ℕ → Bool
has_main u x = not u.subprogram && same_name (segment_name u u.tree.segment) x

-- the names of procedures
abbrev pub names_of_routines : List Routine → List (List ℕ)
names_of_routines [] = []
names_of_routines (r ∷ rs) = r.heading.name ∷ names_of_routines rs

-- all procedures of a segment
abbrev pub names_in_segment : List Source → List ℕ → List (List ℕ)
names_in_segment [] x = []
names_in_segment (u ∷ us) x = names_of_routines (routines_in u x) ++ names_in_segment us x

-- the wants behind procedures
abbrev pub with_routines : List (List ℕ) → List Want → List Routine → List Want
with_routines here ws [] = ws
with_routines here ws (r ∷ rs) =
    with_routines here
    (with_calls here (routine_names r) (with_subroutines here (routine_names r) ws (routine_subroutines r))
    (statements_names (statements r.statements)))
    rs

-- the wants behind a main body, which wants TERMINATE at its end
abbrev pub with_main : List (List ℕ) → List Want → Source → List Want
with_main here ws u =
    with_want
    (with_calls here (find (unit_table u)) (with_subroutines here (find (unit_table u)) ws (unit_subroutines u))
    (statements_names (statements u.tree.statements)))
    (record { gate = true; name = codes "TERMINATE" })

-- the wants behind a unit
abbrev pub with_unit : List ℕ → List (List ℕ) → List Want → Source → List Want
with_unit x here ws u = if has_main u x then with_main here (with_routines here ws (routines_in u x)) u else with_routines here ws (routines_in u x)

-- the wants behind units
abbrev pub wants_from : List ℕ → List (List ℕ) → List Want → List Source → List Want
wants_from x here ws [] = ws
wants_from x here ws (u ∷ us) = wants_from x here (with_unit x here ws u) us

-- the entries of code: a procedure or a main body, and its subroutines
abbrev pub own_entries : List ℕ → Source → ℕ
own_entries x u =
    sum (λ r. 1 + length (routine_subroutines r)) (routines_in u x)
    + (if has_main u x then 1 + length (unit_subroutines u) else 0)

-- the number of a segment's entries: those of its code, and its wants
abbrev pub entries : List Source → List ℕ → ℕ
entries us x = sum (own_entries x) us + length (wants_from x (names_in_segment us x) [] us)

-- the weight of what a unit has in a segment
abbrev pub unit_weight : List ℕ → Source → ℕ
unit_weight x u = sum routine_weight (routines_in u x) + (if has_main u x then main_weight u else 0)

-- how many words the segment of this name may have
abbrev pub bound : List Source → List ℕ → ℕ
bound us x = sum (unit_weight x) us + entries us x + 1
