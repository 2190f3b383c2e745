-- Runs of statements: each program by its text, with the point at which its run is after some steps.
use Rattle.std.specs.Prelude.{pos, negsuc, List, [], ◌∷◌, codes}
use Rattle.spl_meaning.specs.hp_word.declared.endings.Ending.TheVariants.{Running, Terminated, Quit, Trapped}
use Rattle.spl_meaning.specs.hp_word.declared.endings.Trap.TheVariants.{IntegerOverflow}
use Rattle.spl_meaning.specs.Runs.{stands}
use Rattle.spl_known.specs.Programs.{Known, usual, general}

abbrev pub case_outside_its_arms : Known
case_outside_its_arms =
    general "K:=5; CASE -1 OF BEGIN K:=1; K:=2 END; CASE 2 OF BEGIN K:=3; K:=4 END; QUIT(K) END." (stands (Quit (pos 5)))

abbrev pub case_with_an_empty_arm : Known
case_with_an_empty_arm =
    general "FOR I:=0 UNTIL 3 DO CASE I OF BEGIN K:=K+1; K:=K+10; ; END; QUIT(K) END." (stands (Quit (pos 11)))

abbrev pub condition_is_the_lowest_bit : Known
condition_is_the_lowest_bit =
    general "L:=2; IF L THEN K:=1; L:=3; IF L THEN K:=K+10; IF NOT L THEN K:=K+100; QUIT(K) END." (stands (Quit (pos 10)))

abbrev pub else_of_the_nearest_if : Known
else_of_the_nearest_if =
    general "IF 1=1 THEN IF 1=2 THEN K:=1 ELSE K:=2; QUIT(K) END." (stands (Quit (pos 2)))

abbrev pub jump_out_of_two_loops : Known
jump_out_of_two_loops =
    general "FOR I:=1 UNTIL 9 DO FOR J:=1 UNTIL 9 DO IF I*J=12 THEN GO TO L1; L1: QUIT(I) END." (stands (Quit (pos 2)))

abbrev pub loop_limit_is_taken_once : Known
loop_limit_is_taken_once =
    general "N:=3; FOR I:=1 UNTIL N DO BEGIN N:=10; K:=K+1 END; QUIT(K) END." (stands (Quit (pos 3)))

abbrev pub loop_that_never_runs : Known
loop_that_never_runs =
    general "FOR I:=5 UNTIL 4 DO K:=1; QUIT(K*100+I) END." (stands (Quit (pos 5)))

abbrev pub loop_variable_changed_inside : Known
loop_variable_changed_inside =
    general "FOR I:=1 UNTIL 10 DO BEGIN I:=I+2; K:=K+1 END; QUIT(K*100+I) END." (stands (Quit (pos 413)))

abbrev pub loop_variable_overflows : Known
loop_variable_overflows =
    general "FOR I:=32766 UNTIL 32767 DO K:=K+1; QUIT(K) END." (stands (Trapped IntegerOverflow))

abbrev pub loop_with_a_negative_step : Known
loop_with_a_negative_step =
    general "FOR I:=10 STEP -3 UNTIL 1 DO K:=K+I; QUIT(K*10+I) END." (stands (Quit (pos 218)))

abbrev pub right_side_of_and_left_out : Known
right_side_of_and_left_out =
    general "IF K<>0 AND 5/K=1 THEN N:=1; IF K=0 OR 5/K=1 THEN N:=N+4; QUIT(N) END." (stands (Quit (pos 4)))

abbrev pub while_and_until : Known
while_and_until =
    general "I:=10; WHILE I>7 DO I:=I-1; DO K:=K+1 UNTIL K*K>=30; QUIT(I*10+K) END." (stands (Quit (pos 76)))

abbrev pub many_jumps_out_of_a_loop : Known
many_jumps_out_of_a_loop =
    record (usual "BEGIN INTEGER I,J,K; INTRINSIC QUIT; L1: K:=K+1; FOR I:=1 UNTIL 9 DO FOR J:=1 UNTIL 9 DO IF K<500 THEN GO TO L1; QUIT(K) END." (stands (Quit (pos 500)))) { stack = 64 }

abbrev pub step_before_limit : Known
step_before_limit =
    record (general "INTEGER PROCEDURE F(A,C); VALUE A,C; INTEGER A,C; BEGIN W(9):=C; PRINT(W(9),-1,%320); F:=A; END; FOR I:=F(1,\"1 \") STEP F(1,\"2 \") UNTIL F(2,\"3 \") DO K:=K+I; QUIT(K) END." (stands (Quit (pos 3)))) { printed = codes "123" }

abbrev pub all_six_condition_code_tests : Known
all_six_condition_code_tests =
    general "N:=READ(W,1); IF > THEN K:=K+1; N:=READ(W,1); IF >= THEN K:=K+2; N:=READ(W,1); IF <> THEN K:=K+4; N:=READ(W,1); IF <= THEN K:=K+8; PRINT(W,0,%320); IF >= THEN K:=K+16; PRINT(W,0,%320); IF <= THEN K:=K+32; N:=ASCII(1,2,B); IF <> THEN K:=K+64; N:=ASCII(1,2,B); IF = THEN K:=K+128; QUIT(K) END." (stands (Quit (pos 119)))

-- the test of DO stands behind its body
abbrev pub do_until_runs_once : Known
do_until_runs_once =
    usual "BEGIN INTEGER I; INTRINSIC QUIT; DO I:=I+1 UNTIL TRUE; QUIT(I) END." (stands (Quit (pos 1)))

-- until the condition holds
abbrev pub do_until_counts : Known
do_until_counts =
    usual "BEGIN INTEGER I; INTRINSIC QUIT; DO I:=I+1 UNTIL I=7; QUIT(I) END." (stands (Quit (pos 7)))

-- GO TO an earlier statement of the list, five times
abbrev pub jump_backward : Known
jump_backward =
    usual "BEGIN INTEGER I; INTRINSIC QUIT; A: I:=I+1; IF I<5 THEN GO TO A; QUIT(I) END." (stands (Quit (pos 5)))

-- each label of a statement leads to it
abbrev pub jump_behind_two_labels : Known
jump_behind_two_labels =
    usual "BEGIN INTEGER I; INTRINSIC QUIT; GOTO B; I:=100; A: B: I:=I+1; QUIT(I) END." (stands (Quit (pos 1)))

-- GO TO a label of a CASE runs that statement, and then the CASE is done
abbrev pub jump_into_a_case : Known
jump_into_a_case =
    usual "BEGIN INTEGER I; INTRINSIC QUIT; CASE 0 OF BEGIN BEGIN I:=1; GO TO A END; I:=I+10; A: I:=I+100; I:=I+1000 END; QUIT(I) END." (stands (Quit (pos 101)))

-- a negative value runs none
abbrev pub case_of_a_negative : Known
case_of_a_negative =
    usual "BEGIN INTEGER I; INTRINSIC QUIT; I:=-1; CASE I OF BEGIN I:=5 END; QUIT(I) END." (stands (Quit (negsuc 0)))

-- GO TO a label of an outer list
abbrev pub jump_out_of_a_block : Known
jump_out_of_a_block =
    usual "BEGIN INTEGER I; INTRINSIC QUIT; BEGIN BEGIN GO TO L END; I:=1 END; I:=I+2; L: I:=I+4; QUIT(I) END." (stands (Quit (pos 4)))

-- a loop that never ends runs on
abbrev pub endless_loop_goes_on : Known
endless_loop_goes_on =
    record (usual "BEGIN INTEGER I; WHILE TRUE DO I:=0 END." (stands Running)) { steps = 50 }

-- an empty statement, a block and a label take a step each: 1 and 4 and 2
abbrev pub empty_statements_take_steps : Known
empty_statements_take_steps =
    record (usual "BEGIN INTRINSIC TERMINATE; ; BEGIN END; L: TERMINATE END." (stands Running)) { steps = 6 }

-- a block holds an empty statement
abbrev pub empty_statements_are_done : Known
empty_statements_are_done =
    record (usual "BEGIN INTRINSIC TERMINATE; ; BEGIN END; L: TERMINATE END." (stands Terminated)) { steps = 7 }

-- FOR, its test, a body, its test: with the main body 1 and 1 and 1 and 1 and 1, and the end
abbrev pub loop_tests_take_steps : Known
loop_tests_take_steps =
    record (usual "BEGIN INTEGER I; FOR I:=1 UNTIL 1 DO I:=I END." (stands Running)) { steps = 5 }

abbrev pub loop_tests_are_done : Known
loop_tests_are_done =
    record (usual "BEGIN INTEGER I; FOR I:=1 UNTIL 1 DO I:=I END." (stands Terminated)) { steps = 6 }

-- the variable is raised before it is tested
abbrev pub for_to_the_largest_integer : Known
for_to_the_largest_integer =
    usual "BEGIN INTEGER I,K; FOR I:=32766 UNTIL 32767 DO K:=K+1 END." (stands (Trapped IntegerOverflow))

abbrev pub for_of_a_negative_step_to_the_least : Known
for_of_a_negative_step_to_the_least =
    usual "BEGIN INTEGER I,K; FOR I:=-32767 STEP -1 UNTIL -32768 DO K:=K+1 END." (stands (Trapped IntegerOverflow))

-- a step is taken once
abbrev pub for_down_and_up : Known
for_down_and_up =
    usual "BEGIN INTEGER I,S,K; INTRINSIC QUIT; S:=2; FOR I:=1 STEP S UNTIL 7 DO BEGIN S:=100; K:=K*10+I END; QUIT(K) END." (stands (Quit (pos 1357)))

-- a condition tests the lowest bit: 2 is false and 3 is true
abbrev pub if_with_a_constant : Known
if_with_a_constant =
    usual "BEGIN INTEGER I; INTRINSIC QUIT; IF 2 THEN I:=1; IF 3 THEN I:=I+10; QUIT(I) END." (stands (Quit (pos 10)))

-- the right side of OR is not worked out
abbrev pub left_side_of_or_decides : Known
left_side_of_or_decides =
    usual "BEGIN INTEGER I,J; INTRINSIC QUIT; IF I=0 OR 1/J=0 THEN QUIT(4) END." (stands (Quit (pos 4)))

-- RETURN leaves a procedure from within
abbrev pub return_in_a_loop : Known
return_in_a_loop =
    usual "BEGIN INTEGER I; INTRINSIC QUIT; PROCEDURE P; BEGIN FOR I:=1 UNTIL 9 DO IF I=4 THEN RETURN; END; P; QUIT(I) END." (stands (Quit (pos 4)))

-- all of these
abbrev pub statement_runs : List Known
statement_runs =
    case_outside_its_arms
    ∷ case_with_an_empty_arm
    ∷ condition_is_the_lowest_bit
    ∷ else_of_the_nearest_if
    ∷ jump_out_of_two_loops
    ∷ loop_limit_is_taken_once
    ∷ loop_that_never_runs
    ∷ loop_variable_changed_inside
    ∷ loop_variable_overflows
    ∷ loop_with_a_negative_step
    ∷ right_side_of_and_left_out
    ∷ while_and_until
    ∷ many_jumps_out_of_a_loop
    ∷ step_before_limit
    ∷ all_six_condition_code_tests
    ∷ do_until_runs_once
    ∷ do_until_counts
    ∷ jump_backward
    ∷ jump_behind_two_labels
    ∷ jump_into_a_case
    ∷ case_of_a_negative
    ∷ jump_out_of_a_block
    ∷ endless_loop_goes_on
    ∷ empty_statements_take_steps
    ∷ empty_statements_are_done
    ∷ loop_tests_take_steps
    ∷ loop_tests_are_done
    ∷ for_to_the_largest_integer
    ∷ for_of_a_negative_step_to_the_least
    ∷ for_down_and_up
    ∷ if_with_a_constant
    ∷ left_side_of_or_decides
    ∷ return_in_a_loop
    ∷ []
