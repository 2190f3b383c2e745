-- Some small units, read and refused at a place, worked by hand.
use Rattle.std.proofs.Common.{ℕ, ◌≡◌, true, false, List, [], ◌∷◌, ◌++◌, replicate, None, refl}
use Rattle.spl_tree.specs.declared.names_and_places.At.{At}
use Rattle.spl_tree.specs.declared.symbols.Symbol.{Symbol}
use Rattle.spl_tree.specs.declared.symbols.Symbol.TheVariants as s
use Rattle.spl_tree.specs.declared.symbols.Reserved.TheVariants as w
use Rattle.spl_tree.specs.Symbols.{Lexeme}
use Rattle.spl_tree.specs.Trees as tree
use Rattle.spl_tree.specs.Trees.{Tree, trees}
use Rattle.spl_tree.specs.StatementTrees as stat
use Rattle.spl_tree.specs.StatementTrees.{statements, closed}
use Rattle.spl_tree.specs.Operators.{binds, shift_of}
use Rattle.spl_tree.specs.Statements.{class_of}
use Rattle.spl_reading.specs.Readers.{Got, Bad, Deep, and_then, followed, pure, refuse, by_symbol, take, at_place, allowed, kind_number, reserved_number, truth_number, symbol_number, same_symbol, expect, numbered, named_number, turns, repeat}
use Rattle.spl_reading.specs.ReadExpressions.{signed_by, constant_by, constant, operator_of, bits, field, negative_by, enter, opening, enclosed, more_arguments, arguments, named, addressed, primary_by, inverse, primary, unary_step, counted, signed_by_next, first, join, shifted, bytes, turn_by, turn, level, whole, unary, expression, within, condition}
use Rattle.spl_tree.specs.declared.expressions.Kind.TheVariants as kind
use Rattle.spl_tree.specs.DeclarationTrees as decl
use Rattle.spl_tree.specs.Declarations.{option_of}
use Rattle.spl_reading.specs.ReadDeclarations as rd
use Rattle.spl_reading.specs.ReadDeclarations.{declaration_of}
use Rattle.spl_reading.specs.ReadStatements.{indexed, reference, source_behind, source, while_or_until, move, scan, effect, if_test, value, assigned, field_assigned, behind_reference, stepped, go_name, more_statements, statement_list, labelled, with_arguments, named_statement, address_assigned, block, else_behind, if_statement, while_statement, do_statement, for_statement, case_statement, go_statement, effect_statement, by_word, statement_by, statement_step, statement}

-- the place in column n of the first line
abbrev pub at : ℕ → At
at n = record { unit = 1; line = 1; column = n }

-- a token without letters, and a name of one letter
abbrev pub mark : Symbol → ℕ → Lexeme
mark k n = record { symbol = k; letters = []; at = at n; segment = 0 }

abbrev pub name : ℕ → ℕ → Lexeme
name letter n = record { symbol = s.Name; letters = letter ∷ []; at = at n; segment = 0 }

-- the variable with this letter
abbrev variable : ℕ → ℕ → Tree
variable letter n = tree.Tree.named (letter ∷ []) (trees []) (at n)

-- the end of the text
abbrev pub stop : ℕ → List Lexeme
stop n = mark s.Stop n ∷ []

-- what computes here
unfoldable pub readers : ℕ
unfolding and_then followed pure refuse by_symbol take at_place allowed kind_number reserved_number truth_number symbol_number same_symbol expect numbered named_number turns repeat signed_by constant_by constant operator_of bits field negative_by enter opening enclosed more_arguments arguments named addressed primary_by inverse primary unary_step counted signed_by_next first join shifted bytes turn_by turn level whole unary expression within condition binds shift_of class_of indexed reference source_behind source while_or_until move scan effect if_test value assigned field_assigned behind_reference stepped go_name more_statements statement_list labelled with_arguments named_statement address_assigned block else_behind if_statement while_statement do_statement for_statement case_statement go_statement effect_statement by_word statement_by statement_step statement closed rd.by_token rd.option_among rd.option_behind rd.more_options rd.options rd.more_parts rd.separated rd.name rd.names rd.item rd.shape rd.array rd.more_arrays rd.arrays rd.more_terms rd.equal rd.parameters rd.spec_names rd.spec_behind rd.spec_by rd.more_specs rd.heading_tail rd.heading rd.array_data rd.item_data rd.behind_heading rd.procedure rd.subroutine rd.owned_by rd.typed_by rd.typed rd.by_word rd.declaration_by rd.declaration rd.declares rd.more_declarations rd.declaration_list rd.body rd.next_segment rd.unit option_of
readers = 0

-- BEGIN INTEGER A; A:=1 END .
reads_a_unit : rd.unit 64 (mark (s.Word w.Begin) 1 ∷ mark (s.Type kind.Integer) 2 ∷ name 65 3 ∷ mark s.Semicolon 4 ∷
    name 65 5 ∷ mark s.Assign 6 ∷ mark (s.Number 1) 7
    ∷ mark (s.Word w.End) 8 ∷ mark s.Dot 9 ∷ stop 10)
    ≡ Got (record {
      items = decl.Declaration.data_items false kind.Integer
          (record { name = 65 ∷ []; at = at 3; shape = decl.Shape.simple; first = [] } ∷ []) ∷ [];
      statements = stat.Statement.assign (stat.Target.plain (variable 65 5)) (tree.Tree.number 1) (at 5) ∷ [];
      segment = 0;
      at = at 1;
    }) []
unfolding readers
reads_a_unit = refl

-- BEGIN END . has one empty statement
reads_an_empty_unit : rd.unit 64 (mark (s.Word w.Begin) 1 ∷ mark (s.Word w.End) 2 ∷ mark s.Dot 3 ∷ stop 4)
    ≡ Got (record { items = []; statements = stat.Statement.empty ∷ []; segment = 0; at = at 1 }) []
unfolding readers
reads_an_empty_unit = refl

-- BEGIN SUBROUTINE S;; INTEGER A: behind a subroutine only subroutines stand
refuses_data_behind_a_subroutine : rd.unit 64
    (mark (s.Word w.Begin) 1 ∷ mark (s.Word w.Subroutine) 2 ∷ name 83 3 ∷ mark s.Semicolon 4 ∷ mark s.Semicolon 5
    ∷ mark (s.Type kind.Integer) 6 ∷ name 65 7 ∷ stop 8) ≡ Bad (name 65 7 ∷ stop 8)
unfolding readers
refuses_data_behind_a_subroutine = refl

-- END without its dot: refused at the end of the text
refuses_a_missing_dot : rd.unit 64 (mark (s.Word w.Begin) 1 ∷ mark (s.Word w.End) 2 ∷ stop 3) ≡ Bad (stop 3)
unfolding readers
refuses_a_missing_dot = refl

-- BEGIN IF = THEN BEGIN END END . where one construct may be open: too deep at the second BEGIN, as that of the unit does
-- not count
sinks_in_a_branch : rd.unit 1 (mark (s.Word w.Begin) 1 ∷ mark (s.Word w.If) 2 ∷ mark (s.Operator 5) 3
    ∷ mark (s.Word w.Then) 4 ∷ mark (s.Word w.Begin) 5 ∷ mark (s.Word w.End) 6 ∷ mark (s.Word w.End) 7 ∷ mark s.Dot 8
    ∷ stop 9)
    ≡ Deep (mark (s.Word w.Begin) 5 ∷ mark (s.Word w.End) 6 ∷ mark (s.Word w.End) 7 ∷ mark s.Dot 8 ∷ stop 9)
unfolding readers
sinks_in_a_branch = refl

-- BEGIN PROCEDURE P; BEGIN BEGIN BEGIN where one construct may be open: that of the body does not count either
sinks_in_a_procedure : rd.unit 1 (mark (s.Word w.Begin) 1 ∷ mark (s.Word w.Procedure) 2 ∷ name 80 3
    ∷ mark s.Semicolon 4 ∷ mark (s.Word w.Begin) 5 ∷ mark (s.Word w.Begin) 6 ∷ mark (s.Word w.Begin) 7 ∷ stop 8)
    ≡ Deep (mark (s.Word w.Begin) 7 ∷ stop 8)
unfolding readers
sinks_in_a_procedure = refl

-- PROCEDURE P; RETURN is a declaration of a unit, and none of a body
reads_a_procedure : declaration_of true false 0 64 (mark (s.Word w.Procedure) 1 ∷ name 80 2 ∷ mark s.Semicolon 3
    ∷ mark (s.Word w.Return) 4 ∷ mark s.Semicolon 5 ∷ [])
    ≡ Got (decl.Declaration.procedure (record {
      result = None;
      name = 80 ∷ [];
      names = [];
      values = [];
      specs = [];
      split = false;
      at = at 2;
      segment = 0;
    }) (decl.declarations []) (stat.Statement.return (at 4) ∷ [])) (mark s.Semicolon 5 ∷ [])
unfolding readers
reads_a_procedure = refl

-- which has no procedures
refuses_a_procedure_in_a_body : declaration_of false false 0 64 (mark (s.Word w.Procedure) 1 ∷ name 80 2 ∷ [])
    ≡ Bad (mark (s.Word w.Procedure) 1 ∷ name 80 2 ∷ [])
unfolding readers
refuses_a_procedure_in_a_body = refl

-- BEGIN and 65 more, where 64 constructs may be open: too deep at the last; and not so with 64, which are refused at the end
sinks_at_the_sixty_fifth : rd.unit 64 (mark (s.Word w.Begin) 1 ∷ replicate 65 (mark (s.Word w.Begin) 2) ++ stop 3)
    ≡ Deep (mark (s.Word w.Begin) 2 ∷ stop 3)
unfolding readers
sinks_at_the_sixty_fifth = refl

refuses_sixty_four : rd.unit 64 (mark (s.Word w.Begin) 1 ∷ replicate 64 (mark (s.Word w.Begin) 2) ++ stop 3) ≡ Bad (stop 3)
unfolding readers
refuses_sixty_four = refl
