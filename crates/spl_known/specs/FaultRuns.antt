-- Programs that break a rule or pass a limit, each by its text, with the first rule or limit, its unit, line and column.
use Rattle.std.specs.Prelude.{List, [], ◌∷◌, Some}
use Rattle.spl_known.specs.Programs.{KnownFault, breaking, passing, general_declarations}

-- ---- rule 1

abbrev pub global_used_before_its_declaration : KnownFault
global_used_before_its_declaration =
    breaking 1 1 1 20 "BEGIN PROCEDURE P; K:=1; INTEGER K; P END."

abbrev pub second_unit_is_checked_too : KnownFault
second_unit_is_checked_too =
    record (breaking 1 2 3 2 "BEGIN INTEGER I; INTRINSIC QUIT; I:=1; QUIT(I) END.") { texts = "BEGIN INTEGER I; INTRINSIC QUIT; I:=1; QUIT(I) END." ∷ "$CONTROL SUBPROGRAM\nBEGIN PROCEDURE P;\n Q:=1; END." ∷ [] }

abbrev pub subroutine_of_the_unit_called_in_a_procedure : KnownFault
subroutine_of_the_unit_called_in_a_procedure =
    breaking 1 1 1 20 "BEGIN PROCEDURE P; S; SUBROUTINE S; RETURN; P END."

abbrev pub the_first_of_two_broken_rules : KnownFault
the_first_of_two_broken_rules =
    breaking 1 1 1 21 "BEGIN INTEGER I; I:=J; I:=1D; RETURN END."

abbrev pub undeclared_name : KnownFault
undeclared_name =
    breaking 1 1 2 1 "BEGIN\nJ:=1\nEND."

-- a name in a constant has its own place
abbrev pub name_of_a_constant_undeclared : KnownFault
name_of_a_constant_undeclared =
    breaking 1 1 1 25 "BEGIN INTEGER ARRAY A(0:N); END."

-- the base of a view has the place of the view
abbrev pub base_of_a_view_undeclared : KnownFault
base_of_a_view_undeclared =
    breaking 1 1 1 21 "BEGIN LOGICAL ARRAY W(*)=V; END."

-- an EQUATE name is visible from the end of its own item
abbrev pub equate_seen_behind_its_item : KnownFault
equate_seen_behind_its_item =
    breaking 1 1 1 16 "BEGIN EQUATE A=A+1; END."

-- ---- rule 2

abbrev pub name_declared_twice : KnownFault
name_declared_twice =
    breaking 2 1 1 17 "BEGIN INTEGER I,I; I:=1 END."

abbrev pub parameter_declared_again_in_the_body : KnownFault
parameter_declared_again_in_the_body =
    breaking 2 1 1 57 "BEGIN PROCEDURE P(A); VALUE A; INTEGER A; BEGIN INTEGER A; A:=1; END; P(1) END."

-- a second FORWARD
abbrev pub forward_twice : KnownFault
forward_twice =
    breaking 2 1 1 46 "BEGIN PROCEDURE P; OPTION FORWARD; PROCEDURE P; OPTION FORWARD; PROCEDURE P; RETURN; P END."

abbrev pub parameter_twice : KnownFault
parameter_twice =
    breaking 2 1 1 21 "BEGIN PROCEDURE P(A,A); VALUE A; INTEGER A; RETURN; END."

-- a procedure with a second body
abbrev pub body_twice : KnownFault
body_twice =
    breaking 2 1 1 38 "BEGIN PROCEDURE P; RETURN; PROCEDURE P; RETURN; P END."

-- ---- rule 3

abbrev pub assignment_to_an_intrinsic : KnownFault
assignment_to_an_intrinsic =
    breaking 3 1 1 23 "BEGIN INTRINSIC QUIT; QUIT:=1 END."

abbrev pub variable_as_a_statement : KnownFault
variable_as_a_statement =
    breaking 3 1 1 18 "BEGIN INTEGER I; I END."

-- a simple variable has no elements
abbrev pub index_on_a_variable : KnownFault
index_on_a_variable =
    breaking 3 1 1 18 "BEGIN INTEGER I; I(1):=2 END."

-- LABEL takes its name in the list
abbrev pub label_as_a_variable : KnownFault
label_as_a_variable =
    breaking 3 1 1 30 "BEGIN LABEL A; INTEGER I; I:=A; A: END."

-- the answer of a MOVE goes to a simple variable
abbrev pub move_assigned_to_an_element : KnownFault
move_assigned_to_an_element =
    record (breaking 3 1 1 142 "W(0):=MOVE B:=\"A\" END.") { front = general_declarations }

-- `@` on the left wants a pointer
abbrev pub cell_of_an_array_assigned : KnownFault
cell_of_an_array_assigned =
    breaking 3 1 1 29 "BEGIN INTEGER ARRAY A(0:1); @A:=5 END."

abbrev pub move_assigned_to_a_field : KnownFault
move_assigned_to_a_field =
    record (breaking 3 1 1 142 "I.(0:4):=MOVE B:=\"A\" END.") { front = general_declarations }

-- ---- rule 4

abbrev pub integer_compared_with_double : KnownFault
integer_compared_with_double =
    breaking 4 1 1 31 "BEGIN INTEGER I; DOUBLE D; IF I<D THEN I:=1 END."

abbrev pub integer_plus_logical : KnownFault
integer_plus_logical =
    breaking 4 1 1 32 "BEGIN INTEGER I; LOGICAL L; I:=I+L END."

-- a BYTE and an INTEGER are mixed, though a BYTE fits an INTEGER
abbrev pub integer_with_byte : KnownFault
integer_with_byte =
    breaking 4 1 1 29 "BEGIN BYTE C; INTEGER I; I:=I+C END."

-- ---- rule 5

abbrev pub product_of_doubles : KnownFault
product_of_doubles =
    breaking 5 1 2 4 "BEGIN DOUBLE D; \nD:=D*D END."

abbrev pub shift_of_a_double : KnownFault
shift_of_a_double =
    breaking 5 1 1 31 "BEGIN DOUBLE D; LOGICAL L; L:=D&LSL(1) END."

abbrev pub field_of_a_byte_assigned : KnownFault
field_of_a_byte_assigned =
    breaking 5 1 1 15 "BEGIN BYTE C; C.(0:4):=1 END."

-- ---- rule 6

abbrev pub word_assigned_to_a_double : KnownFault
word_assigned_to_a_double =
    breaking 6 1 2 1 "BEGIN DOUBLE D;\nD:=1 END."

abbrev pub move_assigned_to_a_double : KnownFault
move_assigned_to_a_double =
    record (breaking 6 1 1 152 "DOUBLE D; D:=MOVE B:=\"A\" END.") { front = general_declarations }

abbrev pub double_for_a_bit_field : KnownFault
double_for_a_bit_field =
    breaking 6 1 1 18 "BEGIN INTEGER I; I.(0:4):=5D END."

-- ---- rule 7

abbrev pub condition_of_integer_kind : KnownFault
condition_of_integer_kind =
    breaking 7 1 2 4 "BEGIN INTEGER I;\nIF I THEN I:=1 END."

-- the operand has its own place
abbrev pub not_of_an_integer : KnownFault
not_of_an_integer =
    breaking 7 1 1 36 "BEGIN INTEGER I; LOGICAL L; L:=NOT I END."

-- a constant has the place of the part around it
abbrev pub and_of_a_double_constant : KnownFault
and_of_a_double_constant =
    breaking 7 1 1 21 "BEGIN LOGICAL L; L:=L AND 5D END."

-- ---- rule 8

abbrev pub too_few_arguments_in_an_expression : KnownFault
too_few_arguments_in_an_expression =
    breaking 8 1 1 81 "BEGIN INTEGER I; INTEGER PROCEDURE F(A,B); VALUE A,B; INTEGER A,B; F:=A+B; I:=1+F(2) END."

abbrev pub too_many_arguments : KnownFault
too_many_arguments =
    breaking 8 1 1 23 "BEGIN INTRINSIC QUIT; QUIT(1,2) END."

-- ---- rule 9

abbrev pub word_as_a_double_argument : KnownFault
word_as_a_double_argument =
    record (breaking 9 1 1 145 "N:=DASCII(5,10,B) END.") { front = general_declarations }

-- a constant has the place of the call
abbrev pub double_constant_for_a_word_parameter : KnownFault
double_constant_for_a_word_parameter =
    breaking 9 1 1 51 "BEGIN PROCEDURE P(A); VALUE A; INTEGER A; RETURN; P(5D) END."

-- ---- rule 10

abbrev pub number_as_a_reference_argument : KnownFault
number_as_a_reference_argument =
    record (breaking 10 1 1 142 "PRINT(5,1,0) END.") { front = general_declarations }

abbrev pub byte_for_a_word_by_reference : KnownFault
byte_for_a_word_by_reference =
    breaking 10 1 1 52 "BEGIN BYTE C; PROCEDURE P(A); INTEGER A; RETURN; P(C) END."

-- a typed procedure's name as an argument is a call
abbrev pub call_as_a_reference : KnownFault
call_as_a_reference =
    breaking 10 1 1 73 "BEGIN INTEGER PROCEDURE F; RETURN; PROCEDURE P(A); INTEGER A; RETURN; P(F) END."

-- ---- rule 11

abbrev pub untyped_procedure_in_an_expression : KnownFault
untyped_procedure_in_an_expression =
    breaking 11 1 1 42 "BEGIN INTEGER I; PROCEDURE P; I:=2; I:=1+P END."

-- ---- rule 12

abbrev pub result_assigned_outside_its_body : KnownFault
result_assigned_outside_its_body =
    breaking 12 1 1 34 "BEGIN INTEGER PROCEDURE F; F:=1; F:=2 END."

-- a procedure without a type has no result
abbrev pub untyped_name_assigned : KnownFault
untyped_name_assigned =
    breaking 12 1 1 20 "BEGIN PROCEDURE P; P:=1; P END."

-- ---- rule 13

abbrev pub bit_field_of_no_bits : KnownFault
bit_field_of_no_bits =
    breaking 13 1 2 4 "BEGIN INTEGER I; I:=1;\nI:=I.(10:0) END."

abbrev pub bit_field_past_the_word : KnownFault
bit_field_past_the_word =
    breaking 13 1 2 4 "BEGIN INTEGER I; I:=1;\nI:=I.(10:7) END."

abbrev pub shift_by_sixteen : KnownFault
shift_by_sixteen =
    breaking 13 1 2 4 "BEGIN INTEGER I; I:=1;\nI:=I&LSL(16) END."

-- a name has its own place
abbrev pub shift_count_by_a_name : KnownFault
shift_count_by_a_name =
    breaking 13 1 1 40 "BEGIN EQUATE E=16; LOGICAL L; L:=L&LSL(E) END."

-- ---- rule 14

abbrev pub equate_above_a_word : KnownFault
equate_above_a_word =
    breaking 14 1 1 22 "BEGIN EQUATE A=40000,B=A+A; END."

abbrev pub equate_below_a_word : KnownFault
equate_below_a_word =
    breaking 14 1 1 23 "BEGIN EQUATE A=-32768,B=A-1; END."

abbrev pub string_of_three_for_a_word : KnownFault
string_of_three_for_a_word =
    breaking 14 1 2 1 "BEGIN INTEGER I;\nI:=\"ABC\" END."

-- a wide constant for a word
abbrev pub wide_constant_as_an_index : KnownFault
wide_constant_as_an_index =
    breaking 14 1 1 29 "BEGIN INTEGER ARRAY A(0:1); A(1D):=2 END."

abbrev pub wide_initial_value_of_a_word : KnownFault
wide_initial_value_of_a_word =
    breaking 14 1 1 15 "BEGIN INTEGER I:=5D; END."

-- ---- rule 15

abbrev pub array_bounds_reversed : KnownFault
array_bounds_reversed =
    breaking 15 1 1 28 "BEGIN INTEGER ARRAY B(0:1),A(5:1); END."

abbrev pub more_initial_values_than_elements : KnownFault
more_initial_values_than_elements =
    breaking 15 1 1 21 "BEGIN INTEGER ARRAY A(0:1):=1,2,3; END."

-- only a wide constant fits a DOUBLE
abbrev pub word_as_an_initial_double : KnownFault
word_as_an_initial_double =
    breaking 15 1 1 14 "BEGIN DOUBLE D:=5; END."

-- 64,001 elements, which pass the limit of all data words too
abbrev pub too_many_elements : KnownFault
too_many_elements =
    record (breaking 15 1 1 18 "BEGIN BYTE ARRAY A(0:64000); END.") { limit = Some (4, 1, 1, 18) }

-- ---- rule 16

abbrev pub view_of_a_byte_array : KnownFault
view_of_a_byte_array =
    breaking 16 1 1 37 "BEGIN BYTE ARRAY C(0:3); BYTE ARRAY D(*)=C; END."

abbrev pub view_of_double_kind : KnownFault
view_of_double_kind =
    breaking 16 1 1 42 "BEGIN LOGICAL ARRAY C(0:3); DOUBLE ARRAY D(*)=C; END."

abbrev pub own_view_of_what_is_not : KnownFault
own_view_of_what_is_not =
    breaking 16 1 1 66 "BEGIN PROCEDURE P; BEGIN INTEGER ARRAY A(0:1); OWN INTEGER ARRAY V(*)=A; END; P END."

-- the base has to stand in the same list
abbrev pub base_in_another_list : KnownFault
base_in_another_list =
    breaking 16 1 1 62 "BEGIN INTEGER ARRAY A(0:1); PROCEDURE P; BEGIN INTEGER ARRAY V(*)=A; END; P END."

-- ---- rule 17

abbrev pub initial_values_of_a_local_array : KnownFault
initial_values_of_a_local_array =
    breaking 17 1 1 40 "BEGIN PROCEDURE P; BEGIN INTEGER ARRAY A(0:1):=1,2; A(0):=1; END; P END."

abbrev pub own_outside_a_procedure : KnownFault
own_outside_a_procedure =
    breaking 17 1 1 19 "BEGIN OWN INTEGER I; END."

abbrev pub initial_value_of_a_view : KnownFault
initial_value_of_a_view =
    breaking 17 1 1 43 "BEGIN INTEGER ARRAY A(0:1); INTEGER ARRAY V(*)=A:=1; END."

-- ---- rule 18

abbrev pub parameter_in_two_lists : KnownFault
parameter_in_two_lists =
    breaking 18 1 1 51 "BEGIN PROCEDURE P(A); VALUE A; INTEGER A; LOGICAL A; RETURN; P(1) END."

abbrev pub value_of_no_parameter : KnownFault
value_of_no_parameter =
    breaking 18 1 1 31 "BEGIN PROCEDURE P(A); VALUE A,B; INTEGER A; RETURN; P(1) END."

abbrev pub value_names_an_array : KnownFault
value_names_an_array =
    breaking 18 1 1 29 "BEGIN PROCEDURE P(A); VALUE A; INTEGER ARRAY A; RETURN; END."

abbrev pub parameter_in_no_list : KnownFault
parameter_in_no_list =
    breaking 18 1 1 19 "BEGIN PROCEDURE P(A); RETURN; END."

-- ---- rule 19

abbrev pub external_heading_that_differs : KnownFault
external_heading_that_differs =
    record (breaking 19 1 1 28 "BEGIN INTEGER I; PROCEDURE P(A); VALUE A; INTEGER A; OPTION EXTERNAL; P(I) END.") { texts = "BEGIN INTEGER I; PROCEDURE P(A); VALUE A; INTEGER A; OPTION EXTERNAL; P(I) END." ∷ "$CONTROL SUBPROGRAM\nBEGIN PROCEDURE P(A); INTEGER A; RETURN; END." ∷ [] }

abbrev pub forward_without_body : KnownFault
forward_without_body =
    breaking 19 1 1 17 "BEGIN PROCEDURE P; OPTION FORWARD; P END."

abbrev pub heading_that_differs_from_its_forward : KnownFault
heading_that_differs_from_its_forward =
    breaking 19 1 1 69 "BEGIN PROCEDURE P(A); VALUE A; INTEGER A; OPTION FORWARD; PROCEDURE P(A); VALUE A; LOGICAL A; RETURN; P(1) END."

-- ---- rule 20

abbrev pub label_twice_in_one_body : KnownFault
label_twice_in_one_body =
    breaking 20 1 1 28 "BEGIN INTEGER I; L1: I:=1; L1: I:=2; GO L1 END."

-- a subroutine is a body of its own; within one the second counts
abbrev pub label_in_a_procedure_and_its_subroutine : KnownFault
label_in_a_procedure_and_its_subroutine =
    breaking 20 1 1 51 "BEGIN PROCEDURE P; BEGIN SUBROUTINE S; BEGIN A: ; A: END; A: S; END; P END."

-- ---- rule 21

abbrev pub jump_into_a_block : KnownFault
jump_into_a_block =
    breaking 21 1 1 18 "BEGIN INTEGER I; GO TO L1; BEGIN L1: I:=1 END END."

abbrev pub jump_out_of_a_procedure : KnownFault
jump_out_of_a_procedure =
    breaking 21 1 1 31 "BEGIN INTEGER I; PROCEDURE P; GOTO L1; L1: P END."

-- the branch of an IF is in no list
abbrev pub label_of_a_branch : KnownFault
label_of_a_branch =
    breaking 21 1 1 40 "BEGIN INTEGER I; IF TRUE THEN A: I:=1; GO TO A END."

-- ---- rule 22

abbrev pub condition_code_after_an_assignment : KnownFault
condition_code_after_an_assignment =
    breaking 22 1 1 24 "BEGIN INTEGER I; I:=1; IF > THEN I:=2 END."

abbrev pub condition_code_after_an_indexed_target : KnownFault
condition_code_after_an_indexed_target =
    record (breaking 22 1 1 181 "INTEGER ARRAY Q(0:1); Q(0):=READ(W,1); IF = THEN I:=2 END.") { front = general_declarations }

abbrev pub condition_code_tested_twice : KnownFault
condition_code_tested_twice =
    record (breaking 22 1 1 168 "PRINT(W,1,0); IF = THEN ; IF = THEN I:=2 END.") { front = general_declarations }

-- an IF with a label is never directly behind
abbrev pub labelled_test_of_the_code : KnownFault
labelled_test_of_the_code =
    record (breaking 22 1 1 159 "PRINT(W,1,0); A: IF = THEN I:=1 END.") { front = general_declarations }

-- nor is a statement of a CASE
abbrev pub test_of_the_code_in_a_case : KnownFault
test_of_the_code_in_a_case =
    record (breaking 22 1 1 172 "CASE 0 OF BEGIN PRINT(W,1,0); IF = THEN I:=1 END END.") { front = general_declarations }

-- ---- rule 23

abbrev pub loop_variable_of_logical_kind : KnownFault
loop_variable_of_logical_kind =
    breaking 23 1 2 1 "BEGIN LOGICAL L;\nFOR L:=1 UNTIL 2 DO ; END."

abbrev pub double_as_an_index : KnownFault
double_as_an_index =
    breaking 23 1 1 41 "BEGIN DOUBLE D; INTEGER ARRAY A(0:1); A(D):=2 END."

abbrev pub double_limit_of_a_loop : KnownFault
double_limit_of_a_loop =
    breaking 23 1 1 43 "BEGIN DOUBLE D; INTEGER I; FOR I:=1 UNTIL D DO ; END."

abbrev pub loop_over_an_element : KnownFault
loop_over_an_element =
    breaking 23 1 1 29 "BEGIN INTEGER ARRAY A(0:1); FOR A:=1 UNTIL 2 DO ; END."

-- ---- rule 24

abbrev pub bytes_moved_from_words : KnownFault
bytes_moved_from_words =
    breaking 24 1 2 1 "BEGIN LOGICAL ARRAY W(0:39); BYTE ARRAY B(*)=W; INTEGER I,J,K,N; LOGICAL L; INTRINSIC PRINT,READ,ASCII,DASCII,BINARY,DBINARY,TERMINATE,QUIT;\nMOVE B:=W,(1) END."

abbrev pub scan_of_words : KnownFault
scan_of_words =
    record (breaking 24 1 1 142 "SCAN W WHILE 1 END.") { front = general_declarations }

abbrev pub comparison_of_words : KnownFault
comparison_of_words =
    record (breaking 24 1 1 145 "IF W=B,(2) THEN I:=1 END.") { front = general_declarations }

-- ---- rule 25

abbrev pub return_in_the_main_body : KnownFault
return_in_the_main_body =
    breaking 25 1 1 30 "BEGIN INTEGER I; IF I=1 THEN RETURN END."

-- the earlier place counts, not the lower rule
abbrev pub earlier_column_before_lower_rule : KnownFault
earlier_column_before_lower_rule =
    breaking 25 1 1 18 "BEGIN INTEGER I; RETURN; J:=1 END."

-- ---- rule 26

abbrev pub unknown_intrinsic : KnownFault
unknown_intrinsic =
    breaking 26 1 1 22 "BEGIN INTRINSIC QUIT,FOPEN; QUIT(1) END."

-- ---- rule 27

abbrev pub array_in_a_split_procedure : KnownFault
array_in_a_split_procedure =
    breaking 27 1 2 32 "BEGIN PROCEDURE P; OPTION SPLIT;\nBEGIN INTEGER J; INTEGER ARRAY A(0:1); J:=1; END; P END."

abbrev pub global_in_a_split_procedure : KnownFault
global_in_a_split_procedure =
    breaking 27 1 2 7 "BEGIN INTEGER I; PROCEDURE P; OPTION SPLIT;\nBEGIN I:=1; END; P END."

-- the place is that of the parameter
abbrev pub reference_parameter_of_a_split_procedure : KnownFault
reference_parameter_of_a_split_procedure =
    breaking 27 1 1 21 "BEGIN PROCEDURE P(A,C); VALUE A; INTEGER A,C; OPTION SPLIT; RETURN; END."

-- `@` of anything but a pointer
abbrev pub address_in_a_split_procedure : KnownFault
address_in_a_split_procedure =
    breaking 27 1 1 54 "BEGIN PROCEDURE P; OPTION SPLIT; BEGIN INTEGER I; I:=@I; END; P END."

-- a MOVE reaches the extra segment alone
abbrev pub move_in_a_split_procedure : KnownFault
move_in_a_split_procedure =
    breaking 27 1 1 72 "BEGIN PROCEDURE P; OPTION SPLIT; BEGIN BYTE C; BYTE POINTER Q; MOVE Q:=C,(1); END; P END."

abbrev pub intrinsic_in_a_split_procedure : KnownFault
intrinsic_in_a_split_procedure =
    breaking 27 1 1 50 "BEGIN INTRINSIC QUIT; PROCEDURE P; OPTION SPLIT; QUIT(1); P END."

-- ---- rule 28

abbrev pub data_in_a_subprogram : KnownFault
data_in_a_subprogram =
    breaking 28 1 3 9 "$CONTROL SUBPROGRAM\nBEGIN\nINTEGER I; PROCEDURE P; RETURN; END."

abbrev pub statement_in_a_subprogram : KnownFault
statement_in_a_subprogram =
    breaking 28 1 3 1 "$CONTROL SUBPROGRAM\nBEGIN PROCEDURE P; RETURN;\nP END."

-- a block has no place of its own
abbrev pub block_in_a_subprogram : KnownFault
block_in_a_subprogram =
    record (breaking 28 2 2 1 "BEGIN END.") { texts = "BEGIN END." ∷ "$CONTROL SUBPROGRAM\nBEGIN BEGIN END END." ∷ [] }

abbrev pub subroutine_in_a_subprogram : KnownFault
subroutine_in_a_subprogram =
    record (breaking 28 2 2 18 "BEGIN END.") { texts = "BEGIN END." ∷ "$CONTROL SUBPROGRAM\nBEGIN SUBROUTINE S; ; END." ∷ [] }

-- ---- limit 4

abbrev pub data_of_more_than_all_words : KnownFault
data_of_more_than_all_words =
    passing 4 1 2 15 "BEGIN INTEGER I;\nINTEGER ARRAY A(1:32000); END."

-- in P's own body the name is the subroutine's, which is assigned outside its body
abbrev pub result_hidden_by_a_subroutine : KnownFault
result_hidden_by_a_subroutine =
    breaking 12 1 1 78 "BEGIN INTRINSIC QUIT; INTEGER PROCEDURE P; BEGIN INTEGER SUBROUTINE P; P:=5; P:=7 END; QUIT(P) END."

-- an EQUATE name is a constant of one word, and has a place
abbrev pub equate_as_an_initial_double : KnownFault
equate_as_an_initial_double =
    breaking 15 1 1 29 "BEGIN EQUATE E=5; DOUBLE D:=E; END."

-- nothing is said of the kind of a name that is no constant
abbrev pub undeclared_initial_double : KnownFault
undeclared_initial_double =
    breaking 1 1 1 17 "BEGIN DOUBLE D:=Z; END."

abbrev pub variable_as_an_initial_double : KnownFault
variable_as_an_initial_double =
    breaking 3 1 1 28 "BEGIN INTEGER I; DOUBLE D:=I; END."

-- nor of the number of values, where a bound has none
abbrev pub values_of_an_array_of_no_known_length : KnownFault
values_of_an_array_of_no_known_length =
    breaking 1 1 1 25 "BEGIN INTEGER ARRAY A(0:L):=4,5,6; END."

-- an EQUATE without value is no 0: at one place 14 is broken, and not 13
abbrev pub equate_without_value : KnownFault
equate_without_value =
    breaking 14 1 1 56 "BEGIN DEFINE D=EQUATE A=\"ABC\"; LOGICAL L; L:=L.(0:A)#; D END."

-- ---- names that are misused

-- a name that is misused has no kind, so that 4 is not broken where the part around it begins
abbrev pub sum_with_an_indexed_variable : KnownFault
sum_with_an_indexed_variable =
    breaking 3 1 1 34 "BEGIN INTEGER I; LOGICAL L; L:=L+I(1) END."

-- nor has a sum of it
abbrev pub sum_in_a_sum_with_an_indexed_variable : KnownFault
sum_in_a_sum_with_an_indexed_variable =
    breaking 3 1 1 35 "BEGIN INTEGER I; LOGICAL L; L:=L+(I(1)+I) END."

-- an EQUATE name has no index
abbrev pub sum_with_an_indexed_constant : KnownFault
sum_with_an_indexed_constant =
    breaking 3 1 1 34 "BEGIN EQUATE E=5; DOUBLE D; D:=D+E(1) END."

-- what is not misused has its kind
abbrev pub sum_of_what_is_not_misused : KnownFault
sum_of_what_is_not_misused =
    breaking 4 1 1 31 "BEGIN INTEGER I; DOUBLE D; D:=I+D END."

-- nor is 6, where it is assigned
abbrev pub indexed_variable_assigned_to_a_double : KnownFault
indexed_variable_assigned_to_a_double =
    breaking 3 1 1 31 "BEGIN INTEGER I; DOUBLE D; D:=I(1) END."

-- nor 5, where it is shifted
abbrev pub indexed_double_shifted : KnownFault
indexed_double_shifted =
    breaking 3 1 1 32 "BEGIN DOUBLE D; LOGICAL L; L:=(D(1))&LSL(1) END."

-- nor 7, where it is a condition
abbrev pub negated_indexed_variable_as_a_condition : KnownFault
negated_indexed_variable_as_a_condition =
    breaking 3 1 1 22 "BEGIN INTEGER I; IF -I(1) THEN I:=1 END."

-- nor 9, where it is an argument
abbrev pub negated_indexed_double_as_an_argument : KnownFault
negated_indexed_double_as_an_argument =
    breaking 3 1 1 39 "BEGIN DOUBLE D; INTRINSIC QUIT; QUIT(-D(1)) END."

-- nor 23, where it is an index
abbrev pub negated_indexed_double_as_an_index : KnownFault
negated_indexed_double_as_an_index =
    breaking 3 1 1 42 "BEGIN INTEGER ARRAY A(0:1); DOUBLE D; A(-D(1)):=2 END."

-- nor 24
abbrev pub bytes_moved_from_an_indexed_variable : KnownFault
bytes_moved_from_an_indexed_variable =
    record (breaking 3 1 1 150 "MOVE B:=I(1),(5) END.") { front = general_declarations }

abbrev pub words_scanned_of_an_indexed_variable : KnownFault
words_scanned_of_an_indexed_variable =
    record (breaking 3 1 1 147 "SCAN I(1) WHILE 1 END.") { front = general_declarations }

abbrev pub bytes_compared_with_an_indexed_variable : KnownFault
bytes_compared_with_an_indexed_variable =
    record (breaking 3 1 1 147 "IF B=I(1),(2) THEN I:=1 END.") { front = general_declarations }

-- nor 14, where a string is compared with it
abbrev pub label_compared_with_a_string : KnownFault
label_compared_with_a_string =
    breaking 3 1 1 31 "BEGIN LABEL A; INTEGER I; IF (A)=\"ABC\" THEN I:=1; A: END."

-- which is broken behind what is not misused
abbrev pub variable_compared_with_a_string : KnownFault
variable_compared_with_a_string =
    breaking 14 1 1 21 "BEGIN INTEGER I; IF (I)=\"ABC\" THEN I:=1 END."

-- ---- bit fields with a constant that has no value

-- where one of its constants has no value, the other is held to the word by itself
abbrev pub length_beyond_the_word_behind_a_string : KnownFault
length_beyond_the_word_behind_a_string =
    breaking 13 1 1 21 "BEGIN LOGICAL L; L:=L.(\"ABC\":17) END."

abbrev pub first_bit_beyond_the_word_before_a_string : KnownFault
first_bit_beyond_the_word_before_a_string =
    breaking 13 1 1 21 "BEGIN LOGICAL L; L:=L.(16:\"ABC\") END."

-- 16 bits, or the bit 15, may be within it
abbrev pub length_of_a_word_behind_a_string : KnownFault
length_of_a_word_behind_a_string =
    breaking 14 1 1 21 "BEGIN LOGICAL L; L:=L.(\"ABC\":16) END."

abbrev pub last_bit_before_a_string : KnownFault
last_bit_before_a_string =
    breaking 14 1 1 21 "BEGIN LOGICAL L; L:=L.(15:\"ABC\") END."

-- all of these
abbrev pub fault_runs : List KnownFault
fault_runs =
    global_used_before_its_declaration
    ∷ second_unit_is_checked_too
    ∷ subroutine_of_the_unit_called_in_a_procedure
    ∷ the_first_of_two_broken_rules
    ∷ undeclared_name
    ∷ name_of_a_constant_undeclared
    ∷ base_of_a_view_undeclared
    ∷ equate_seen_behind_its_item
    ∷ name_declared_twice
    ∷ parameter_declared_again_in_the_body
    ∷ forward_twice
    ∷ parameter_twice
    ∷ body_twice
    ∷ assignment_to_an_intrinsic
    ∷ variable_as_a_statement
    ∷ index_on_a_variable
    ∷ label_as_a_variable
    ∷ move_assigned_to_an_element
    ∷ cell_of_an_array_assigned
    ∷ move_assigned_to_a_field
    ∷ integer_compared_with_double
    ∷ integer_plus_logical
    ∷ integer_with_byte
    ∷ product_of_doubles
    ∷ shift_of_a_double
    ∷ field_of_a_byte_assigned
    ∷ word_assigned_to_a_double
    ∷ move_assigned_to_a_double
    ∷ double_for_a_bit_field
    ∷ condition_of_integer_kind
    ∷ not_of_an_integer
    ∷ and_of_a_double_constant
    ∷ too_few_arguments_in_an_expression
    ∷ too_many_arguments
    ∷ word_as_a_double_argument
    ∷ double_constant_for_a_word_parameter
    ∷ number_as_a_reference_argument
    ∷ byte_for_a_word_by_reference
    ∷ call_as_a_reference
    ∷ untyped_procedure_in_an_expression
    ∷ result_assigned_outside_its_body
    ∷ untyped_name_assigned
    ∷ bit_field_of_no_bits
    ∷ bit_field_past_the_word
    ∷ shift_by_sixteen
    ∷ shift_count_by_a_name
    ∷ equate_above_a_word
    ∷ equate_below_a_word
    ∷ string_of_three_for_a_word
    ∷ wide_constant_as_an_index
    ∷ wide_initial_value_of_a_word
    ∷ array_bounds_reversed
    ∷ more_initial_values_than_elements
    ∷ word_as_an_initial_double
    ∷ too_many_elements
    ∷ view_of_a_byte_array
    ∷ view_of_double_kind
    ∷ own_view_of_what_is_not
    ∷ base_in_another_list
    ∷ initial_values_of_a_local_array
    ∷ own_outside_a_procedure
    ∷ initial_value_of_a_view
    ∷ parameter_in_two_lists
    ∷ value_of_no_parameter
    ∷ value_names_an_array
    ∷ parameter_in_no_list
    ∷ external_heading_that_differs
    ∷ forward_without_body
    ∷ heading_that_differs_from_its_forward
    ∷ label_twice_in_one_body
    ∷ label_in_a_procedure_and_its_subroutine
    ∷ jump_into_a_block
    ∷ jump_out_of_a_procedure
    ∷ label_of_a_branch
    ∷ condition_code_after_an_assignment
    ∷ condition_code_after_an_indexed_target
    ∷ condition_code_tested_twice
    ∷ labelled_test_of_the_code
    ∷ test_of_the_code_in_a_case
    ∷ loop_variable_of_logical_kind
    ∷ double_as_an_index
    ∷ double_limit_of_a_loop
    ∷ loop_over_an_element
    ∷ bytes_moved_from_words
    ∷ scan_of_words
    ∷ comparison_of_words
    ∷ return_in_the_main_body
    ∷ earlier_column_before_lower_rule
    ∷ unknown_intrinsic
    ∷ array_in_a_split_procedure
    ∷ global_in_a_split_procedure
    ∷ reference_parameter_of_a_split_procedure
    ∷ address_in_a_split_procedure
    ∷ move_in_a_split_procedure
    ∷ intrinsic_in_a_split_procedure
    ∷ data_in_a_subprogram
    ∷ statement_in_a_subprogram
    ∷ block_in_a_subprogram
    ∷ subroutine_in_a_subprogram
    ∷ data_of_more_than_all_words
    ∷ result_hidden_by_a_subroutine
    ∷ equate_as_an_initial_double
    ∷ undeclared_initial_double
    ∷ variable_as_an_initial_double
    ∷ values_of_an_array_of_no_known_length
    ∷ equate_without_value
    ∷ sum_with_an_indexed_variable
    ∷ sum_in_a_sum_with_an_indexed_variable
    ∷ sum_with_an_indexed_constant
    ∷ sum_of_what_is_not_misused
    ∷ indexed_variable_assigned_to_a_double
    ∷ indexed_double_shifted
    ∷ negated_indexed_variable_as_a_condition
    ∷ negated_indexed_double_as_an_argument
    ∷ negated_indexed_double_as_an_index
    ∷ bytes_moved_from_an_indexed_variable
    ∷ words_scanned_of_an_indexed_variable
    ∷ bytes_compared_with_an_indexed_variable
    ∷ label_compared_with_a_string
    ∷ variable_compared_with_a_string
    ∷ length_beyond_the_word_behind_a_string
    ∷ first_bit_beyond_the_word_before_a_string
    ∷ length_of_a_word_behind_a_string
    ∷ last_bit_before_a_string
    ∷ []
