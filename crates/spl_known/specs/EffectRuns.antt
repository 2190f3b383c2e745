-- Runs of intrinsics, MOVE, SCAN and comparisons of bytes: each program by its text, with the point at which its run is after some steps.
use Rattle.std.specs.Prelude.{pos, negsuc, List, [], ◌∷◌, codes}
use Rattle.spl_meaning.specs.hp_word.declared.endings.Ending.TheVariants.{Running, Terminated, Quit, Trapped}
use Rattle.spl_meaning.specs.hp_word.declared.endings.Trap.TheVariants.{Bounds, OutputLimit}
use Rattle.spl_meaning.specs.Runs.{stands, stray}
use Rattle.spl_known.specs.Programs.{Known, usual, general}

abbrev pub answer_of_a_move_downwards : Known
answer_of_a_move_downwards =
    general "N:=MOVE W(5):=W(3),(-3); K:=MOVE W(5):=W(3),(0); QUIT(N*10+K) END." (stands (Quit (negsuc 29)))

abbrev pub ascii_in_another_base : Known
ascii_in_another_base =
    general "N:=ASCII(5,16,B); IF < THEN K:=1; QUIT(K*100+N) END." (stands (Quit (pos 100)))

abbrev pub ascii_in_both_bases : Known
ascii_in_both_bases =
    record (general "N:=ASCII(40000,10,B); PRINT(W,-N,0); N:=ASCII(40000,8,B); PRINT(W,-N,0); N:=ASCII(-1,8,B(1)); PRINT(W,-7,0) END." (stands Terminated)) { printed = codes "-25536\n116100\n1177777\n" }

abbrev pub byte_comparison_is_unsigned : Known
byte_comparison_is_unsigned =
    general "B(0):=200; B(1):=100; IF B>B(1),(1) THEN K:=1; QUIT(K) END." (stands (Quit (pos 1)))

abbrev pub byte_comparisons : Known
byte_comparisons =
    general "MOVE B:=\"ABCABD\"; IF B=B(3),(2) THEN K:=1; IF B<B(3),(3) THEN K:=K+10; IF B>=\"ABB\" THEN K:=K+100; IF B<>B(1),(0) THEN K:=K+1000; QUIT(K) END." (stands (Quit (pos 111)))

abbrev pub dascii_in_both_bases : Known
dascii_in_both_bases =
    record (general "N:=DASCII(-2147483648D,10,B); PRINT(W,-N,0); N:=DASCII(-1D,8,B); PRINT(W,-N,0); N:=DASCII(8D,8,B); PRINT(W,-N,0); N:=DASCII(0D,10,B); PRINT(W,-N,0) END." (stands Terminated)) { printed = codes "-2147483648\n37777777777\n00000000010\n0\n" }

abbrev pub length_below_the_stack : Known
length_below_the_stack =
    general "PRINT(W,-32768,0) END." (stands (Trapped Bounds))

abbrev pub logical_addition_passes_the_sign : Known
logical_addition_passes_the_sign =
    record (general "L:=32767; L:=L+1; N:=DASCII(DOUBLE(L),10,B); PRINT(W,-N,0) END." (stands Terminated)) { printed = codes "32768\n" }

abbrev pub move_downwards : Known
move_downwards =
    record (general "MOVE B:=\"0123456789\"; MOVE B(9):=B(7),(-8); PRINT(W,5,0) END." (stands Terminated)) { printed = codes "0101234567\n" }

abbrev pub move_spreads_a_byte : Known
move_spreads_a_byte =
    record (general "B(0):=\".\"; MOVE B(1):=B,(9); MOVE B(3):=\"abc\"; PRINT(W,5,0) END." (stands Terminated)) { printed = codes "...abc....\n" }

abbrev pub move_while_with_capitals : Known
move_while_with_capitals =
    record (general "MOVE B:=\"ab12,cd\"; N:=MOVE B(10):=B WHILE AS; PRINT(W(5),-N,0); N:=MOVE B(10):=B WHILE ANS; PRINT(W(5),-N,0); N:=MOVE B(10):=B WHILE N; QUIT(N) END." (stands (Quit (pos 0)))) { printed = codes "AB\nAB12\n" }

abbrev pub moves_while_letters_and_digits : Known
moves_while_letters_and_digits =
    general "MOVE B:=\"AB12-\"; N:=MOVE B(10):=B WHILE AN; QUIT(N) END." (stands (Quit (pos 4)))

abbrev pub no_line_is_left : Known
no_line_is_left =
    general "N:=READ(W,4); IF > THEN K:=1; IF 1=1 THEN QUIT(K*10+N) END." (stands (Quit (pos 10)))

abbrev pub number_of_a_second_unit : Known
number_of_a_second_unit =
    record (usual "BEGIN LOGICAL ARRAY W(0:39); BYTE ARRAY B(*)=W; INTEGER I,J,K,N; LOGICAL L; INTRINSIC PRINT,READ,ASCII,DASCII,BINARY,DBINARY,TERMINATE,QUIT; INTEGER PROCEDURE TWICE(A); VALUE A; INTEGER A; OPTION EXTERNAL; N:=ASCII(TWICE(21),10,B); PRINT(W,-N,0) END." (stands Terminated)) { texts = "BEGIN LOGICAL ARRAY W(0:39); BYTE ARRAY B(*)=W; INTEGER I,J,K,N; LOGICAL L; INTRINSIC PRINT,READ,ASCII,DASCII,BINARY,DBINARY,TERMINATE,QUIT; INTEGER PROCEDURE TWICE(A); VALUE A; INTEGER A; OPTION EXTERNAL; N:=ASCII(TWICE(21),10,B); PRINT(W,-N,0) END.\n" ∷ "$CONTROL SUBPROGRAM\nBEGIN INTEGER PROCEDURE TWICE(A); VALUE A; INTEGER A; BEGIN OWN INTEGER C:=1; C:=C+1; TWICE:=A*C; END; END.\n" ∷ []; printed = codes "42\n" }

abbrev pub number_texts_of_doubles : Known
number_texts_of_doubles =
    record (general "DOUBLE D; MOVE B:=\"2147483647-2147483648%37777777777\"; D:=DBINARY(B,10); N:=DASCII(D,10,B(40)); PRINT(W(20),-N,0); D:=DBINARY(B(10),11); N:=DASCII(D,8,B(40)); PRINT(W(20),-N,0); D:=DBINARY(B(21),12); N:=DASCII(D,10,B(40)); PRINT(W(20),-N,0); B(9):=\"8\"; D:=DBINARY(B,10); IF > THEN QUIT(INTEGER(D)+9) END." (stands (Quit (pos 9)))) { printed = codes "2147483647\n20000000000\n-1\n" }

abbrev pub number_texts_of_words : Known
number_texts_of_words =
    general "MOVE B:=\"65535-32768%177777+7\"; L:=BINARY(B,5); I:=INTEGER(L); L:=BINARY(B(5),6); J:=INTEGER(L); L:=BINARY(B(11),7); K:=INTEGER(L); N:=BINARY(B(18),2); IF = THEN QUIT(I+K+N+J/32767) END." (stands (Quit (pos 4)))

abbrev pub number_texts_that_are_refused : Known
number_texts_that_are_refused =
    general "MOVE B:=\"65536-32769%200000+-1 7\"; L:=BINARY(B,5); IF > THEN K:=K+1; L:=BINARY(B(5),6); IF > THEN K:=K+2; L:=BINARY(B(11),7); IF > THEN K:=K+4; L:=BINARY(B(18),3); IF < THEN K:=K+8; L:=BINARY(B(21),1); IF < THEN K:=K+16; L:=BINARY(B,-1); IF < THEN K:=K+32; L:=BINARY(B(18),1); IF < THEN K:=K+64; L:=5; L:=BINARY(B,0); IF = THEN K:=K+128; QUIT(K+INTEGER(L)) END." (stands (Quit (pos 255)))

abbrev pub output_ends_with_the_room : Known
output_ends_with_the_room =
    record (general "MOVE B:=\"ABCD\"; PRINT(W,2,%320); PRINT(W,0,%320); PRINT(W,-1,%320) END." (stands (Trapped OutputLimit))) { room = 4; printed = codes "ABCD" }

abbrev pub output_limit_exact : Known
output_limit_exact =
    record (usual "BEGIN LOGICAL ARRAY BUF(0:35); BYTE ARRAY B(*)=BUF; INTRINSIC PRINT,TERMINATE; MOVE B:=\"HELLO\"; PRINT(BUF,-5,%40); PRINT(BUF,0,0); TERMINATE END." (stands Terminated)) { room = 7; printed = codes "HELLO\n\n" }

abbrev pub output_limit_passed : Known
output_limit_passed =
    record (usual "BEGIN LOGICAL ARRAY BUF(0:35); BYTE ARRAY B(*)=BUF; INTRINSIC PRINT,TERMINATE; MOVE B:=\"HELLO\"; PRINT(BUF,-5,%40); PRINT(BUF,0,0); TERMINATE END." (stands (Trapped OutputLimit))) { room = 6; printed = codes "HELLO\n" }

abbrev pub print_out_of_bounds : Known
print_out_of_bounds =
    general "INTEGER POINTER P; @P:=60000; PRINT(P,1,0) END." (stands (Trapped Bounds))

abbrev pub prints_hello : Known
prints_hello =
    record (usual "BEGIN LOGICAL ARRAY BUF(0:35); BYTE ARRAY B(*)=BUF; INTRINSIC PRINT,TERMINATE; MOVE B:=\"HELLO\"; PRINT(BUF,-5,%40); TERMINATE END." (stands Terminated)) { printed = codes "HELLO\n" }

abbrev pub prints_words_bytes_and_an_empty_line : Known
prints_words_bytes_and_an_empty_line =
    record (general "MOVE B:=\"ABCDEF\"; PRINT(W,2,0); PRINT(W(1),-3,%320); PRINT(W,0,0); PRINT(W,0,%320); PRINT(W,-1,1) END." (stands Terminated)) { printed = codes "ABCD\nCDE\nA\n" }

abbrev pub quotes_inside_a_string : Known
quotes_inside_a_string =
    record (general "MOVE B:=\"a\"\"b\"; PRINT(W,-3,0) END." (stands Terminated)) { printed = codes "a\"b\n" }

abbrev pub reads_a_line_and_no_more : Known
reads_a_line_and_no_more =
    record (general "N:=READ(W,-4); PRINT(W,-N,0); N:=READ(W,-4); IF > THEN QUIT(N) END." (stands (Quit (pos 0)))) { lines = "ABCDEF" ∷ []; printed = codes "ABCD\n" }

abbrev pub reads_words_and_rounds_up : Known
reads_words_and_rounds_up =
    record (general "MOVE B:=\"......\"; N:=READ(W,2); I:=READ(W(1),-4); PRINT(W,3,0); J:=READ(W,0); K:=READ(W,4); QUIT(N*1000+I*100+J*10+K) END." (stands (Quit (pos 2302)))) { lines = "abc" ∷ "xyz" ∷ "zero" ∷ "k12" ∷ []; printed = codes "abxyz.\n" }

abbrev pub scan_while_and_until : Known
scan_while_and_until =
    general "MOVE B:=\"    ABC;DEF.\"; I:=SCAN B WHILE %6440; J:=SCAN B(I) UNTIL %35456; K:=SCAN B(8) UNTIL %35456; QUIT(I*100+J*10+K) END." (stands (Quit (pos 433)))

abbrev pub single_byte_against_a_string_of_one : Known
single_byte_against_a_string_of_one =
    general "B(0):=\"A\"; IF B=\"A\" THEN K:=1; IF B(0)<\"B\" THEN K:=K+10; QUIT(K) END." (stands (Quit (pos 11)))

abbrev pub string_comparison_and_bit_field : Known
string_comparison_and_bit_field =
    general "I:=%123456; MOVE B:=\"ABC\"; IF B=\"ABC\" THEN QUIT(I.(4:4)) END." (stands (Quit (pos 7)))

abbrev pub string_moved_to_words : Known
string_moved_to_words =
    record (general "MOVE B:=\"........\"; N:=MOVE W(1):=\"ABC\"; PRINT(W,4,0); QUIT(N) END." (stands (Quit (pos 2)))) { printed = codes "..ABC ..\n" }

abbrev pub terminal_lines_of_all_sorts : Known
terminal_lines_of_all_sorts =
    record (general "L1: ; N:=READ(W,-80); IF = THEN BEGIN PRINT(W,-N,0); K:=K+1; GO L1 END; QUIT(K) END." (stands (Quit (pos 5)))) { lines = "one" ∷ "" ∷ "!eoj" ∷ "  two" ∷ "!!" ∷ []; printed = codes "one\n\n!eoj\n  two\n!!\n" }

-- main body, an assignment
abbrev pub before_the_print : Known
before_the_print =
    record (usual "BEGIN LOGICAL ARRAY W(0:0); INTRINSIC PRINT,QUIT; W(0):=\"AB\"; PRINT(W,-2,%320); QUIT(1) END." (stands Running)) { steps = 2 }

-- the call begins, and what it prints is done before its own step
abbrev pub print_before_its_step : Known
print_before_its_step =
    record (usual "BEGIN LOGICAL ARRAY W(0:0); INTRINSIC PRINT,QUIT; W(0):=\"AB\"; PRINT(W,-2,%320); QUIT(1) END." (stands Running)) { steps = 3; printed = codes "AB" }

-- its own step
abbrev pub print_and_its_step : Known
print_and_its_step =
    record (usual "BEGIN LOGICAL ARRAY W(0:0); INTRINSIC PRINT,QUIT; W(0):=\"AB\"; PRINT(W,-2,%320); QUIT(1) END." (stands Running)) { steps = 4; printed = codes "AB" }

-- QUIT begins
abbrev pub begin_of_the_quit : Known
begin_of_the_quit =
    record (usual "BEGIN LOGICAL ARRAY W(0:0); INTRINSIC PRINT,QUIT; W(0):=\"AB\"; PRINT(W,-2,%320); QUIT(1) END." (stands Running)) { steps = 5; printed = codes "AB" }

-- and ends the run
abbrev pub quit_behind_the_print : Known
quit_behind_the_print =
    record (usual "BEGIN LOGICAL ARRAY W(0:0); INTRINSIC PRINT,QUIT; W(0):=\"AB\"; PRINT(W,-2,%320); QUIT(1) END." (stands (Quit (pos 1)))) { steps = 6; printed = codes "AB" }

-- main body, MOVE, three elements
abbrev pub moved_elements_take_steps : Known
moved_elements_take_steps =
    record (usual "BEGIN LOGICAL ARRAY W(0:3); MOVE W(1):=W,(3) END." (stands Running)) { steps = 5 }

-- and the end
abbrev pub moved_elements_are_done : Known
moved_elements_are_done =
    record (usual "BEGIN LOGICAL ARRAY W(0:3); MOVE W(1):=W,(3) END." (stands Terminated)) { steps = 6 }

-- main body, IF, the first byte and the second, which differ; and the end
abbrev pub compared_elements_take_steps : Known
compared_elements_take_steps =
    record (usual "BEGIN BYTE ARRAY B(0:3); IF B=\"  \" THEN; B(0):=\" \"; END." (stands Running)) { steps = 4 }

-- a count of zero moves nothing
abbrev pub move_of_nothing : Known
move_of_nothing =
    record (general "MOVE B:=\"AB\"; MOVE B(1):=B,(0); PRINT(W,-2,%320) END." (stands Terminated)) { printed = codes "AB" }

-- an element that is no data word
abbrev pub move_past_the_data : Known
move_past_the_data =
    usual "BEGIN LOGICAL ARRAY W(0:1); MOVE W(1):=W,(9) END." stray

-- an element at STACK
abbrev pub move_to_bounds : Known
move_to_bounds =
    usual "BEGIN LOGICAL ARRAY W(0:1); LOGICAL POINTER P; @P:=1023; MOVE P(1):=W,(1) END." (stands (Trapped Bounds))

-- a byte that is no data word
abbrev pub print_of_no_data : Known
print_of_no_data =
    usual "BEGIN LOGICAL ARRAY W(0:1); INTRINSIC PRINT; PRINT(W,3,0) END." stray

-- a test of the condition code may stand behind a labelled call
abbrev pub code_behind_a_label : Known
code_behind_a_label =
    general "A: PRINT(W,0,%320); IF = THEN QUIT(3) END." (stands (Quit (pos 3)))

-- no line is left: CCG
abbrev pub condition_code_of_a_read : Known
condition_code_of_a_read =
    general "READ(W,4); IF > THEN QUIT(1) ELSE QUIT(2) END." (stands (Quit (pos 1)))

-- a line: CCE
abbrev pub condition_code_of_a_line : Known
condition_code_of_a_line =
    record (general "READ(W,4); IF = THEN QUIT(1) ELSE QUIT(2) END." (stands (Quit (pos 1)))) { lines = "" ∷ [] }

-- one line after the other
abbrev pub reads_two_lines : Known
reads_two_lines =
    record (general "N:=READ(W,-9); PRINT(W,-N,%320); N:=READ(W,-9); PRINT(W,-N,%320) END." (stands Terminated)) { lines = "one" ∷ "two" ∷ "three" ∷ []; printed = codes "onetwo" }

-- a pointer in a split procedure reaches the extra segment alone
abbrev pub extra_segment_is_not_the_stack : Known
extra_segment_is_not_the_stack =
    record (usual "BEGIN INTEGER I; INTRINSIC QUIT; PROCEDURE PUT; OPTION SPLIT; BEGIN INTEGER POINTER P; P(0):=7; END; I:=3; PUT; QUIT(I) END." (stands (Quit (pos 3)))) { extra = 1 }

-- four words of data, four of the marker, and eight more: the left side of the comparison does not wait
abbrev pub comparison_with_a_string_waits_for_nothing : Known
comparison_with_a_string_waits_for_nothing =
    record (usual "BEGIN BYTE ARRAY B(0:3); LOGICAL L; L:=B=\"ABC\" END." (stands Terminated)) { stack = 16 }

-- all of these
abbrev pub effect_runs : List Known
effect_runs =
    answer_of_a_move_downwards
    ∷ ascii_in_another_base
    ∷ ascii_in_both_bases
    ∷ byte_comparison_is_unsigned
    ∷ byte_comparisons
    ∷ dascii_in_both_bases
    ∷ length_below_the_stack
    ∷ logical_addition_passes_the_sign
    ∷ move_downwards
    ∷ move_spreads_a_byte
    ∷ move_while_with_capitals
    ∷ moves_while_letters_and_digits
    ∷ no_line_is_left
    ∷ number_of_a_second_unit
    ∷ number_texts_of_doubles
    ∷ number_texts_of_words
    ∷ number_texts_that_are_refused
    ∷ output_ends_with_the_room
    ∷ output_limit_exact
    ∷ output_limit_passed
    ∷ print_out_of_bounds
    ∷ prints_hello
    ∷ prints_words_bytes_and_an_empty_line
    ∷ quotes_inside_a_string
    ∷ reads_a_line_and_no_more
    ∷ reads_words_and_rounds_up
    ∷ scan_while_and_until
    ∷ single_byte_against_a_string_of_one
    ∷ string_comparison_and_bit_field
    ∷ string_moved_to_words
    ∷ terminal_lines_of_all_sorts
    ∷ before_the_print
    ∷ print_before_its_step
    ∷ print_and_its_step
    ∷ begin_of_the_quit
    ∷ quit_behind_the_print
    ∷ moved_elements_take_steps
    ∷ moved_elements_are_done
    ∷ compared_elements_take_steps
    ∷ move_of_nothing
    ∷ move_past_the_data
    ∷ move_to_bounds
    ∷ print_of_no_data
    ∷ code_behind_a_label
    ∷ condition_code_of_a_read
    ∷ condition_code_of_a_line
    ∷ reads_two_lines
    ∷ extra_segment_is_not_the_stack
    ∷ comparison_with_a_string_waits_for_nothing
    ∷ []
