-- Runs of procedures, subroutines and split procedures: each program by its text, with the point at which its run is after some steps.
use Rattle.std.specs.Prelude.{pos, List, [], ◌∷◌, codes}
use Rattle.spl_meaning.specs.hp_word.declared.endings.Ending.TheVariants.{Running, Terminated, Quit, Trapped}
use Rattle.spl_meaning.specs.hp_word.declared.endings.Trap.TheVariants.{IntegerOverflow, Bounds, StackOverflow}
use Rattle.spl_meaning.specs.Runs.{stands, stray}
use Rattle.spl_known.specs.Programs.{Known, usual, general}

abbrev pub byte_parameter_and_result : Known
byte_parameter_and_result =
    usual "BEGIN INTRINSIC QUIT; BYTE PROCEDURE F(C); VALUE C; BYTE C; F:=C+256; QUIT(INTEGER(F(%1101))) END." (stands (Quit (pos 65)))

abbrev pub double_parameter_and_result : Known
double_parameter_and_result =
    usual "BEGIN DOUBLE E; INTRINSIC QUIT; DOUBLE PROCEDURE F(C,D); VALUE C; DOUBLE C,D; BEGIN D:=D+C; F:=D-1D; END; E:=70000D; QUIT(INTEGER(F(-69990D,E))*100+INTEGER(E)) END." (stands (Quit (pos 910)))

abbrev pub endless_recursion : Known
endless_recursion =
    usual "BEGIN PROCEDURE P; P; P END." (stands (Trapped StackOverflow))

abbrev pub external_procedure_of_a_second_unit : Known
external_procedure_of_a_second_unit =
    record (usual "BEGIN PROCEDURE P; OPTION EXTERNAL; P END." (stands Terminated)) { texts = "BEGIN PROCEDURE P; OPTION EXTERNAL; P END.\n" ∷ "$CONTROL SUBPROGRAM\nBEGIN PROCEDURE P; RETURN; END.\n" ∷ [] }

abbrev pub factorial_of_eight_overflows : Known
factorial_of_eight_overflows =
    usual "BEGIN INTEGER K; INTRINSIC QUIT; INTEGER PROCEDURE F(N); VALUE N; INTEGER N; BEGIN IF N<2 THEN F:=1 ELSE F:=N*F(N-1); END; K:=F(8); QUIT(K) END." (stands (Trapped IntegerOverflow))

abbrev pub factorial_of_seven : Known
factorial_of_seven =
    usual "BEGIN INTEGER K; INTRINSIC QUIT; INTEGER PROCEDURE F(N); VALUE N; INTEGER N; BEGIN IF N<2 THEN F:=1 ELSE F:=N*F(N-1); END; K:=F(7); QUIT(K) END." (stands (Quit (pos 5040)))

abbrev pub jump_out_of_two_loops_in_a_subroutine : Known
jump_out_of_two_loops_in_a_subroutine =
    general "SUBROUTINE S; BEGIN FOR I:=1 UNTIL 5 DO FOR J:=1 UNTIL 5 DO BEGIN K:=K+1; IF I*J=6 THEN GO TO OUT; END; OUT: K:=K+100; END; S; QUIT(K) END." (stands (Quit (pos 108)))

abbrev pub local_name_hides_global : Known
local_name_hides_global =
    general "PROCEDURE P(I); VALUE I; INTEGER I; BEGIN INTEGER J; J:=I; I:=99; K:=K+J; END; I:=4; J:=5; P(7); QUIT(I*100+J*10+K) END." (stands (Quit (pos 457)))

abbrev pub procedures_that_call_each_other : Known
procedures_that_call_each_other =
    general "LOGICAL PROCEDURE ODD(A); VALUE A; INTEGER A; OPTION FORWARD; LOGICAL PROCEDURE EVEN(A); VALUE A; INTEGER A; IF A=0 THEN EVEN:=TRUE ELSE EVEN:=ODD(A-1); LOGICAL PROCEDURE ODD(A); VALUE A; INTEGER A; IF A=0 THEN ODD:=FALSE ELSE ODD:=EVEN(A-1); IF ODD(7) THEN K:=1; IF EVEN(7) THEN K:=K+10; QUIT(K) END." (stands (Quit (pos 1)))

abbrev pub recursion_that_just_fits : Known
recursion_that_just_fits =
    record (usual "BEGIN LOGICAL ARRAY W(0:0); INTRINSIC PRINT; PROCEDURE R(N); VALUE N; INTEGER N; BEGIN PRINT(W,-1,%320); IF N>0 THEN R(N-1); END; W(0):=\"X \"; R(8) END." (stands Terminated)) { stack = 64; printed = codes "XXXXXXXXX" }

abbrev pub recursion_until_stack_overflow : Known
recursion_until_stack_overflow =
    record (usual "BEGIN LOGICAL ARRAY W(0:0); INTRINSIC PRINT; PROCEDURE R(N); VALUE N; INTEGER N; BEGIN PRINT(W,-1,%320); IF N>0 THEN R(N-1); END; W(0):=\"X \"; R(9) END." (stands (Trapped StackOverflow))) { stack = 64; printed = codes "XXXXXXXXX" }

abbrev pub result_is_zero_at_first : Known
result_is_zero_at_first =
    general "INTEGER PROCEDURE F(A); VALUE A; INTEGER A; BEGIN IF A=0 THEN RETURN; F:=7; F:=A; END; F(9); QUIT(F(0)*10+F(4)) END." (stands (Quit (pos 4)))

abbrev pub stack_that_leaves_no_room : Known
stack_that_leaves_no_room =
    record (usual "BEGIN INTEGER ARRAY A(0:99); A(0):=1 END." (stands (Trapped StackOverflow))) { stack = 105 }

abbrev pub subroutine_of_a_procedure_uses_its_frame : Known
subroutine_of_a_procedure_uses_its_frame =
    general "INTEGER PROCEDURE F(A); VALUE A; INTEGER A; BEGIN INTEGER T; SUBROUTINE S(V); INTEGER V; BEGIN T:=T+A; V:=V+1; END; S(A); S(A); F:=T; END; QUIT(F(5)) END." (stands (Quit (pos 11)))

abbrev pub subroutine_with_a_parameter : Known
subroutine_with_a_parameter =
    general "INTEGER SUBROUTINE SQ(V); VALUE V; INTEGER V; SQ:=V*V; QUIT(SQ(5)+SQ(SQ(2))) END." (stands (Quit (pos 41)))

abbrev pub three_units_in_three_segments : Known
three_units_in_three_segments =
    record (usual "BEGIN INTEGER K; INTRINSIC QUIT; INTEGER PROCEDURE F(A); VALUE A; INTEGER A; OPTION EXTERNAL;\n$CONTROL SEGMENT=MAIN\nK:=F(10); QUIT(K) END." (stands (Quit (pos 55)))) { texts = "BEGIN INTEGER K; INTRINSIC QUIT; INTEGER PROCEDURE F(A); VALUE A; INTEGER A; OPTION EXTERNAL;\n$CONTROL SEGMENT=MAIN\nK:=F(10); QUIT(K) END.\n" ∷ "$CONTROL SUBPROGRAM,SEGMENT=EVEN\nBEGIN INTEGER PROCEDURE G(A); VALUE A; INTEGER A; OPTION EXTERNAL; INTEGER PROCEDURE F(A); VALUE A; INTEGER A; IF A>0 THEN F:=G(A-1)+A; END.\n" ∷ "$CONTROL SUBPROGRAM,SEGMENT=ODD\nBEGIN INTEGER PROCEDURE F(A); VALUE A; INTEGER A; OPTION EXTERNAL; INTEGER PROCEDURE G(A); VALUE A; INTEGER A; IF A>0 THEN G:=F(A-1)+A; END.\n" ∷ [] }

abbrev pub two_segments_take_turns : Known
two_segments_take_turns =
    usual "BEGIN INTEGER I,K; INTRINSIC QUIT;\n$CONTROL SEGMENT=ONE\nPROCEDURE P; K:=K+1;\n$CONTROL SEGMENT=TWO\nFOR I:=1 UNTIL 100 DO P; QUIT(K) END." (stands (Quit (pos 100)))

abbrev pub operands_from_left_to_right : Known
operands_from_left_to_right =
    record (general "INTEGER PROCEDURE F(C); VALUE C; INTEGER C; BEGIN W(0):=C; PRINT(W,-1,%320); F:=1; END; W(F(\"1 \")):=F(\"2 \")+F(\"3 \") END." (stands Terminated)) { printed = codes "123" }

abbrev pub extra_segment_holds_squares : Known
extra_segment_holds_squares =
    record (general "PROCEDURE PUT(I,V); VALUE I,V; INTEGER I,V; OPTION SPLIT; BEGIN INTEGER POINTER P; P(I):=V; END; INTEGER PROCEDURE SUM(N); VALUE N; INTEGER N; OPTION SPLIT; BEGIN INTEGER POINTER P; INTEGER I,T; FOR I:=0 UNTIL N-1 DO T:=T+P(I); SUM:=T; END; FOR I:=0 UNTIL 9 DO PUT(I,I*I); QUIT(SUM(10)) END." (stands (Quit (pos 285)))) { extra = 10 }

abbrev pub extra_segment_read_past_its_end : Known
extra_segment_read_past_its_end =
    record (general "PROCEDURE PUT(I,V); VALUE I,V; INTEGER I,V; OPTION SPLIT; BEGIN INTEGER POINTER P; P(I):=V; END; INTEGER PROCEDURE SUM(N); VALUE N; INTEGER N; OPTION SPLIT; BEGIN INTEGER POINTER P; INTEGER I,T; FOR I:=0 UNTIL N-1 DO T:=T+P(I); SUM:=T; END; FOR I:=0 UNTIL 9 DO PUT(I,I*I); QUIT(SUM(11)) END." (stands (Trapped Bounds))) { extra = 10 }

abbrev pub locals_of_a_split_procedure_stay_on_the_stack : Known
locals_of_a_split_procedure_stay_on_the_stack =
    record (usual "BEGIN INTRINSIC QUIT; INTEGER PROCEDURE P(A); VALUE A; INTEGER A; OPTION SPLIT; BEGIN INTEGER POINTER Q; INTEGER I,J; Q:=3; J:=A; I:=J+Q; J:=0; P:=I*10+Q(1); END; QUIT(P(4)) END." (stands (Quit (pos 70)))) { extra = 2 }

abbrev pub no_extra_segment : Known
no_extra_segment =
    general "PROCEDURE PUT(I,V); VALUE I,V; INTEGER I,V; OPTION SPLIT; BEGIN INTEGER POINTER P; P(I):=V; END; INTEGER PROCEDURE SUM(N); VALUE N; INTEGER N; OPTION SPLIT; BEGIN INTEGER POINTER P; INTEGER I,T; FOR I:=0 UNTIL N-1 DO T:=T+P(I); SUM:=T; END; PUT(0,1) END." (stands (Trapped Bounds))

abbrev pub overflow_inside_a_split_procedure : Known
overflow_inside_a_split_procedure =
    record (usual "BEGIN INTEGER I; PROCEDURE P(A); VALUE A; INTEGER A; OPTION SPLIT; BEGIN INTEGER POINTER Q; INTEGER J; @Q:=1; Q:=A; J:=Q; Q(-1):=J*J; END; P(100); P(200) END." (stands (Trapped IntegerOverflow))) { extra = 2 }

abbrev pub split_procedure_goes_round_and_out : Known
split_procedure_goes_round_and_out =
    record (usual "BEGIN INTRINSIC QUIT; LOGICAL PROCEDURE P(A); VALUE A; INTEGER A; OPTION SPLIT; BEGIN LOGICAL POINTER Q; INTEGER I; FOR I:=0 UNTIL 9 DO BEGIN Q(I):=I*I; IF I=A THEN GO TO OUT; END; OUT: P:=Q(A)+Q(A+1); END; QUIT(P(5)*100+P(3)) END." (stands (Quit (pos 2525)))) { extra = 10 }

abbrev pub split_procedure_returns_early : Known
split_procedure_returns_early =
    record (usual "BEGIN INTEGER I; INTRINSIC QUIT; INTEGER PROCEDURE P(A); VALUE A; INTEGER A; OPTION SPLIT; BEGIN BYTE POINTER Q; Q(3):=A; IF A>5 THEN BEGIN P:=INTEGER(Q(3))+INTEGER(Q(2)); RETURN; END; P:=1; END; I:=P(4)*1000; QUIT(I+P(300)) END." (stands (Quit (pos 1044)))) { extra = 2 }

-- main body, statement, call, the empty body
abbrev pub call_takes_a_step : Known
call_takes_a_step =
    record (usual "BEGIN PROCEDURE P; RETURN; P END." (stands Running)) { steps = 4 }

-- RETURN is the fourth step, the end the fifth
abbrev pub call_is_done : Known
call_is_done =
    record (usual "BEGIN PROCEDURE P; RETURN; P END." (stands Terminated)) { steps = 5 }

-- two local words become zero, a step each, and the body of an empty statement
abbrev pub local_words_take_steps : Known
local_words_take_steps =
    record (usual "BEGIN PROCEDURE P; BEGIN INTEGER I,J; END; P END." (stands Running)) { steps = 6 }

abbrev pub local_words_are_done : Known
local_words_are_done =
    record (usual "BEGIN PROCEDURE P; BEGIN INTEGER I,J; END; P END." (stands Terminated)) { steps = 7 }

-- the words of a call that has ended are no data words
abbrev pub words_of_an_ended_call : Known
words_of_an_ended_call =
    usual "BEGIN INTEGER POINTER P; INTEGER I; PROCEDURE Q; BEGIN INTEGER V; @P:=@V; END; Q; I:=P END." stray

-- a word below the locals is of the marker
abbrev pub write_into_its_own_marker : Known
write_into_its_own_marker =
    usual "BEGIN INTEGER POINTER P; PROCEDURE BAD; BEGIN INTEGER V; @P:=@V-1; P:=0; END; BAD END." stray

-- each call has fresh local words
abbrev pub locals_are_zero_again : Known
locals_are_zero_again =
    usual "BEGIN INTEGER I; INTRINSIC QUIT; INTEGER PROCEDURE F; BEGIN INTEGER V; V:=V+1; F:=V; END; I:=F; I:=I*10+F; QUIT(I) END." (stands (Quit (pos 11)))

-- GO TO a label of the subroutine's block
abbrev pub jump_within_a_subroutine : Known
jump_within_a_subroutine =
    usual "BEGIN INTEGER I; INTRINSIC QUIT; SUBROUTINE S; BEGIN A: I:=I+1; IF I<3 THEN GO TO A END; S; QUIT(I) END." (stands (Quit (pos 3)))

-- RETURN leaves the subroutine alone
abbrev pub return_from_a_subroutine : Known
return_from_a_subroutine =
    usual "BEGIN INTEGER I; INTRINSIC QUIT; PROCEDURE P; BEGIN SUBROUTINE S; BEGIN I:=1; RETURN; I:=2 END; S; I:=I+10; END; P; QUIT(I) END." (stands (Quit (pos 11)))

-- subroutines of one list see each other
abbrev pub subroutine_calls_another : Known
subroutine_calls_another =
    usual "BEGIN INTEGER I; INTRINSIC QUIT; SUBROUTINE T(V); VALUE V; INTEGER V; I:=I*10+V; SUBROUTINE S; BEGIN T(1); T(2) END; S; QUIT(I) END." (stands (Quit (pos 12)))

-- a subroutine with a result may call itself: the sum from 4 down
abbrev pub subroutine_calls_itself : Known
subroutine_calls_itself =
    usual "BEGIN INTEGER I; INTRINSIC QUIT; INTEGER SUBROUTINE S(V); VALUE V; INTEGER V; IF V>0 THEN S:=V+S(V-1); I:=S(4); QUIT(I) END." (stands (Quit (pos 10)))

-- a subroutine may assign the result of its procedure
abbrev pub result_of_the_procedure_in_a_subroutine : Known
result_of_the_procedure_in_a_subroutine =
    usual "BEGIN INTEGER I; INTRINSIC QUIT; INTEGER PROCEDURE F; BEGIN SUBROUTINE S; F:=8; S; END; QUIT(F) END." (stands (Quit (pos 8)))

-- a call as a statement drops the value
abbrev pub value_dropped : Known
value_dropped =
    usual "BEGIN INTEGER I; INTRINSIC QUIT; INTEGER PROCEDURE F; BEGIN I:=I+1; F:=5; END; F; F; QUIT(I) END." (stands (Quit (pos 2)))

-- operands, then arguments, each as it comes
abbrev pub calls_print_from_left_to_right : Known
calls_print_from_left_to_right =
    record (general "INTEGER PROCEDURE F(C); VALUE C; INTEGER C; BEGIN W(0):=C; PRINT(W,-1,%320); F:=1; END; PROCEDURE P(A,C); VALUE A,C; INTEGER A,C; RETURN; P(F(\"1 \")+F(\"2 \"),F(\"3 \")) END." (stands Terminated)) { printed = codes "123" }

-- one data word, the marker and 8: 13
abbrev pub just_room_for_the_main_body : Known
just_room_for_the_main_body =
    record (usual "BEGIN INTEGER I; I:=1 END." (stands Terminated)) { stack = 13 }

abbrev pub no_room_for_the_main_body : Known
no_room_for_the_main_body =
    record (usual "BEGIN INTEGER I; I:=1 END." (stands (Trapped StackOverflow))) { stack = 12 }

-- the main body's frame ends at 4, the callee's marker at 8, a local word and 8
abbrev pub just_room_for_a_call : Known
just_room_for_a_call =
    record (usual "BEGIN PROCEDURE P; BEGIN INTEGER V; V:=1; END; P END." (stands Terminated)) { stack = 17 }

abbrev pub no_room_for_a_call : Known
no_room_for_a_call =
    record (usual "BEGIN PROCEDURE P; BEGIN INTEGER V; V:=1; END; P END." (stands (Trapped StackOverflow))) { stack = 16 }

-- a return word in place of the marker, and 8
abbrev pub just_room_for_a_subroutine : Known
just_room_for_a_subroutine =
    record (usual "BEGIN SUBROUTINE S; ; S END." (stands Terminated)) { stack = 13 }

abbrev pub no_room_for_a_subroutine : Known
no_room_for_a_subroutine =
    record (usual "BEGIN SUBROUTINE S; ; S END." (stands (Trapped StackOverflow))) { stack = 12 }

-- two words of result
abbrev pub double_result_by_a_subroutine : Known
double_result_by_a_subroutine =
    usual "BEGIN DOUBLE D; INTRINSIC QUIT; DOUBLE SUBROUTINE S(A,C); VALUE A,C; DOUBLE A; INTEGER C; S:=A+DOUBLE(C); D:=S(40D,2); QUIT(INTEGER(D)) END." (stands (Quit (pos 42)))

-- in P the name is the subroutine's, whose result is 5; P's own stays 0
abbrev pub subroutine_hides_its_procedures_result : Known
subroutine_hides_its_procedures_result =
    usual "BEGIN INTEGER K; INTRINSIC QUIT; INTEGER PROCEDURE P; BEGIN INTEGER SUBROUTINE P; P:=5; K:=P END; QUIT(P*10+K) END." (stands (Quit (pos 5)))

-- an initial value sees the names before its item, and not those behind it
abbrev pub local_initial_value_sees_names_before_it : Known
local_initial_value_sees_names_before_it =
    usual "BEGIN EQUATE N=1; INTRINSIC QUIT; PROCEDURE P; BEGIN INTEGER I:=N; EQUATE N=2; QUIT(I) END; P END." (stands (Quit (pos 1)))

abbrev pub own_initial_value_sees_names_before_it : Known
own_initial_value_sees_names_before_it =
    usual "BEGIN EQUATE N=1; INTRINSIC QUIT; PROCEDURE P; BEGIN OWN INTEGER I:=N; INTEGER N; QUIT(I) END; P END." (stands (Quit (pos 1)))

-- Assigning a result is no call. The main body needs 4 words of its marker, 8 of the call and 8 more; F begins at 12 and needs 8.
abbrev pub assigned_result_is_no_call : Known
assigned_result_is_no_call =
    record (usual "BEGIN INTRINSIC QUIT; INTEGER PROCEDURE F(A,B,C); VALUE A,B,C; INTEGER A,B,C; F:=A; QUIT(F(7,8,9)) END." (stands (Quit (pos 7)))) { stack = 20 }

-- all of these
abbrev pub call_runs : List Known
call_runs =
    byte_parameter_and_result
    ∷ double_parameter_and_result
    ∷ endless_recursion
    ∷ external_procedure_of_a_second_unit
    ∷ factorial_of_eight_overflows
    ∷ factorial_of_seven
    ∷ jump_out_of_two_loops_in_a_subroutine
    ∷ local_name_hides_global
    ∷ procedures_that_call_each_other
    ∷ recursion_that_just_fits
    ∷ recursion_until_stack_overflow
    ∷ result_is_zero_at_first
    ∷ stack_that_leaves_no_room
    ∷ subroutine_of_a_procedure_uses_its_frame
    ∷ subroutine_with_a_parameter
    ∷ three_units_in_three_segments
    ∷ two_segments_take_turns
    ∷ operands_from_left_to_right
    ∷ extra_segment_holds_squares
    ∷ extra_segment_read_past_its_end
    ∷ locals_of_a_split_procedure_stay_on_the_stack
    ∷ no_extra_segment
    ∷ overflow_inside_a_split_procedure
    ∷ split_procedure_goes_round_and_out
    ∷ split_procedure_returns_early
    ∷ call_takes_a_step
    ∷ call_is_done
    ∷ local_words_take_steps
    ∷ local_words_are_done
    ∷ words_of_an_ended_call
    ∷ write_into_its_own_marker
    ∷ locals_are_zero_again
    ∷ jump_within_a_subroutine
    ∷ return_from_a_subroutine
    ∷ subroutine_calls_another
    ∷ subroutine_calls_itself
    ∷ result_of_the_procedure_in_a_subroutine
    ∷ value_dropped
    ∷ calls_print_from_left_to_right
    ∷ just_room_for_the_main_body
    ∷ no_room_for_the_main_body
    ∷ just_room_for_a_call
    ∷ no_room_for_a_call
    ∷ just_room_for_a_subroutine
    ∷ no_room_for_a_subroutine
    ∷ double_result_by_a_subroutine
    ∷ subroutine_hides_its_procedures_result
    ∷ local_initial_value_sees_names_before_it
    ∷ own_initial_value_sees_names_before_it
    ∷ assigned_result_is_no_call
    ∷ []
