-- Some lists of tokens, read, refused at a place, and too deep at a place, worked by hand.
use Rattle.std.proofs.Common.{ℕ, ◌≡◌, false, List, [], ◌∷◌, refl}
use Rattle.spl_tree.specs.declared.names_and_places.At.{At}
use Rattle.spl_tree.specs.declared.symbols.Symbol.{Symbol}
use Rattle.spl_tree.specs.declared.symbols.Symbol.TheVariants as s
use Rattle.spl_tree.specs.declared.symbols.Reserved.TheVariants as w
use Rattle.spl_tree.specs.Symbols.{Lexeme}
use Rattle.spl_tree.specs.Trees as tree
use Rattle.spl_tree.specs.Trees.{Tree, trees}
use Rattle.spl_tree.specs.StatementTrees as stat
use Rattle.spl_tree.specs.StatementTrees.{statements, closed}
use Rattle.spl_tree.specs.Operators.{binds, shift_of}
use Rattle.spl_tree.specs.Statements.{class_of}
use Rattle.spl_reading.specs.Readers.{Got, Bad, Deep, and_then, followed, pure, refuse, by_symbol, take, at_place, allowed, kind_number, reserved_number, truth_number, symbol_number, same_symbol, expect, numbered, named_number, turns, repeat}
use Rattle.spl_reading.specs.ReadExpressions.{signed_by, constant_by, constant, operator_of, bits, field, negative_by, enter, opening, enclosed, more_arguments, arguments, named, addressed, primary_by, inverse, primary, unary_step, counted, signed_by_next, first, join, shifted, bytes, turn_by, turn, level, whole, unary, expression, within, condition}
use Rattle.spl_reading.specs.ReadStatements.{indexed, reference, source_behind, source, while_or_until, move, scan, effect, if_test, value, assigned, field_assigned, behind_reference, stepped, go_name, more_statements, statement_list, labelled, with_arguments, named_statement, address_assigned, block, else_behind, if_statement, while_statement, do_statement, for_statement, case_statement, go_statement, effect_statement, by_word, statement_by, statement_step, statement}

-- the place in column n of the first line
abbrev at : ℕ → At
at n = record { unit = 1; line = 1; column = n }

-- a token without letters, and a name of one letter
abbrev mark : Symbol → ℕ → Lexeme
mark k n = record { symbol = k; letters = []; at = at n; segment = 0 }

abbrev name : ℕ → ℕ → Lexeme
name letter n = record { symbol = s.Name; letters = letter ∷ []; at = at n; segment = 0 }

-- the variable with this letter
abbrev variable : ℕ → ℕ → Tree
variable letter n = tree.Tree.named (letter ∷ []) (trees []) (at n)

-- the end of the text
abbrev stop : ℕ → List Lexeme
stop n = mark s.Stop n ∷ []

-- what computes here
readers : ℕ
unfolding and_then followed pure refuse by_symbol take at_place allowed kind_number reserved_number truth_number symbol_number same_symbol expect numbered named_number turns repeat signed_by constant_by constant operator_of bits field negative_by enter opening enclosed more_arguments arguments named addressed primary_by inverse primary unary_step counted signed_by_next first join shifted bytes turn_by turn level whole unary expression within condition binds shift_of class_of indexed reference source_behind source while_or_until move scan effect if_test value assigned field_assigned behind_reference stepped go_name more_statements statement_list labelled with_arguments named_statement address_assigned block else_behind if_statement while_statement do_statement for_statement case_statement go_statement effect_statement by_word statement_by statement_step statement closed
readers = 0

-- A-B-C is (A-B)-C
reads_from_the_left : expression 64 0
    (name 65 1 ∷ mark (s.Operator 12) 2 ∷ name 66 3 ∷ mark (s.Operator 12) 4 ∷ name 67 5 ∷ stop 6)
    ≡ Got (tree.Tree.binary 12 (tree.Tree.binary 12 (variable 65 1) (variable 66 3) (at 1)) (variable 67 5) (at 1))
    (stop 6)
unfolding readers
reads_from_the_left = refl

-- -5*D begins with the constant -5, at the minus
negates_a_constant : expression 64 0
    (mark (s.Operator 12) 1 ∷ mark (s.Number 5) 2 ∷ mark (s.Operator 13) 3 ∷ name 68 4 ∷ stop 5)
    ≡ Got (tree.Tree.binary 13 (tree.Tree.number 65531) (variable 68 4) (at 1)) (stop 5)
unfolding readers
negates_a_constant = refl

-- -A*B negates the term
negates_a_term : expression 64 0 (mark (s.Operator 12) 1 ∷ name 65 2 ∷ mark (s.Operator 13) 3 ∷ name 66 4 ∷ stop 5)
    ≡ Got (tree.Tree.unary 1 (tree.Tree.binary 13 (variable 65 2) (variable 66 4) (at 2)) (at 1)) (stop 5)
unfolding readers
negates_a_term = refl

-- (A=B=C): the second relation can't stand there
refuses_a_second_relation : expression 64 0
    (mark s.Open 1 ∷ name 65 2 ∷ mark (s.Operator 5) 3 ∷ name 66 4 ∷ mark (s.Operator 5) 5 ∷ name 67 6 ∷ mark s.Close 7
    ∷ stop 8)
    ≡ Bad (mark (s.Operator 5) 5 ∷ name 67 6 ∷ mark s.Close 7 ∷ stop 8)
unfolding readers
refuses_a_second_relation = refl

-- (A and the end: refused at the end
refuses_an_open_parenthesis : expression 64 0 (mark s.Open 1 ∷ name 65 2 ∷ stop 3) ≡ Bad (stop 3)
unfolding readers
refuses_an_open_parenthesis = refl

-- NOT A needs room for one construct
counts_not : expression 0 0 (mark s.Not 1 ∷ name 65 2 ∷ stop 3) ≡ Deep (mark s.Not 1 ∷ name 65 2 ∷ stop 3)
unfolding readers
counts_not = refl

reads_not : expression 1 0 (mark s.Not 1 ∷ name 65 2 ∷ stop 3) ≡ Got (tree.Tree.unary 2 (variable 65 2) (at 1)) (stop 3)
unfolding readers
reads_not = refl

-- the eighth operator counts as a construct: too deep at it, where none may be open
counts_the_eighth_operator : expression 0 0
    (name 65 1 ∷ mark (s.Operator 11) 2 ∷ name 65 3 ∷ mark (s.Operator 11) 4 ∷ name 65 5 ∷ mark (s.Operator 11) 6 ∷
    name 65 7
    ∷ mark (s.Operator 11) 8 ∷ name 65 9 ∷ mark (s.Operator 11) 10 ∷ name 65 11 ∷ mark (s.Operator 11) 12 ∷ name 65 13
    ∷ mark (s.Operator 11) 14 ∷ name 65 15
    ∷ mark (s.Operator 11) 16 ∷ name 65 17 ∷ stop 18) ≡ Deep (mark (s.Operator 11) 16 ∷ name 65 17 ∷ stop 18)
unfolding readers
counts_the_eighth_operator = refl

-- A.(0:4) is a bit field
reads_a_field : expression 64 0
    (name 65 1 ∷ mark s.Dot 2 ∷ mark s.Open 3 ∷ mark (s.Number 0) 4 ∷ mark s.Colon 5 ∷ mark (s.Number 4) 6 ∷ mark
    s.Close 7 ∷ stop 8)
    ≡ Got (tree.Tree.field (variable 65 1) (tree.Constant.number false 0) (tree.Constant.number false 4) (at 1))
    (stop 8)
unfolding readers
reads_a_field = refl

-- A&LSL(2) is a shift of kind 2
reads_a_shift : expression 64 0
    (name 65 1 ∷ mark s.Ampersand 2 ∷ record { symbol = s.Name; letters = 76 ∷ 83 ∷ 76 ∷ []; at = at 3; segment = 0 } ∷
    mark s.Open 6
    ∷ mark (s.Number 2) 7 ∷ mark s.Close 8 ∷ stop 9) ≡ Got
    (tree.Tree.shift 2 (variable 65 1) (tree.Constant.number false 2) (at 1)) (stop 9)
unfolding readers
reads_a_shift = refl

-- A=B,(3) as a condition compares three bytes
compares_bytes : condition 64 0
    (name 65 1 ∷ mark (s.Operator 5) 2 ∷ name 66 3 ∷ mark s.Comma 4 ∷ mark s.Open 5 ∷ mark (s.Number 3) 6 ∷ mark
    s.Close 7 ∷ stop 8)
    ≡ Got (tree.Tree.bytes 0 (variable 65 1) (variable 66 3) (tree.Tree.number 3) (at 1)) (stop 8)
unfolding readers
compares_bytes = refl

-- (A)=B,(3) does not: in parentheses A is no reference
compares_no_bytes : condition 64 0
    (mark s.Open 1 ∷ name 65 2 ∷ mark s.Close 3 ∷ mark (s.Operator 5) 4 ∷ name 66 5 ∷ mark s.Comma 6 ∷ mark s.Open 7 ∷
    mark (s.Number 3) 8
    ∷ mark s.Close 9 ∷ stop 10) ≡ Got (tree.Tree.binary 5 (variable 65 2) (variable 66 5) (at 1))
    (mark s.Comma 6 ∷ mark s.Open 7 ∷ mark (s.Number 3) 8 ∷ mark s.Close 9 ∷ stop 10)
unfolding readers
compares_no_bytes = refl

-- IF A THEN IF B THEN C ELSE D: the ELSE belongs to the IF inside
binds_else_to_the_nearest_if : statement 64
    (mark (s.Word w.If) 1 ∷ name 65 2 ∷ mark (s.Word w.Then) 3 ∷ mark (s.Word w.If) 4 ∷ name 66 5 ∷ mark
    (s.Word w.Then) 6 ∷ name 67 7
    ∷ mark (s.Word w.Else) 8 ∷ name 68 9 ∷ stop 10)
    ≡ Got (stat.Statement.if_test (stat.Test.condition (variable 65 2))
    (stat.Statement.if_test (stat.Test.condition (variable 66 5)) (stat.Statement.call (67 ∷ []) (trees []) (at 7))
    (statements (stat.Statement.call (68 ∷ []) (trees []) (at 9) ∷ [])) (at 4))
    (statements []) (at 1)) (stop 10)
unfolding readers
binds_else_to_the_nearest_if = refl

-- L: counts as a construct from its colon on
counts_a_label : statement 0 (name 76 1 ∷ mark s.Colon 2 ∷ stop 3) ≡ Deep (mark s.Colon 2 ∷ stop 3)
unfolding readers
counts_a_label = refl

-- A(1,2):=3 is no assignment
refuses_two_indices : statement 64
    (name 65 1 ∷ mark s.Open 2 ∷ mark (s.Number 1) 3 ∷ mark s.Comma 4 ∷ mark (s.Number 2) 5 ∷ mark s.Close 6 ∷ mark
    s.Assign 7 ∷ mark (s.Number 3) 8 ∷ stop 9)
    ≡ Got (stat.Statement.call (65 ∷ []) (trees (tree.Tree.number 1 ∷ tree.Tree.number 2 ∷ [])) (at 1))
    (mark s.Assign 7 ∷ mark (s.Number 3) 8 ∷ stop 9)
unfolding readers
refuses_two_indices = refl

-- behind A=B a comma begins a count of bytes: no condition is read there, though A=B is one
comma_goes_on : condition 64 0
    (name 65 1 ∷ mark (s.Operator 5) 2 ∷ name 66 3 ∷ mark s.Comma 4 ∷ mark s.Semicolon 5 ∷ [])
    ≡ Bad (mark s.Semicolon 5 ∷ [])
unfolding readers
comma_goes_on = refl
