-- Runs of arrays, pointers, views and parameters by reference: each program by its text, with the point at which its run is after some steps.
use Rattle.std.specs.Prelude.{pos, List, [], ◌∷◌, codes}
use Rattle.spl_meaning.specs.hp_word.declared.endings.Ending.TheVariants.{Quit, Trapped}
use Rattle.spl_meaning.specs.hp_word.declared.endings.Trap.TheVariants.{Bounds}
use Rattle.spl_meaning.specs.Runs.{stands, stray}
use Rattle.spl_known.specs.Programs.{Known, usual, general}

abbrev pub addresses_of_globals : Known
addresses_of_globals =
    usual "BEGIN INTEGER I; DOUBLE D; BYTE C; INTEGER ARRAY A(1:3); INTRINSIC QUIT; QUIT(INTEGER(@D)*1000+INTEGER(@C)*100+INTEGER(@A(2))) END." (stands (Quit (pos 1606)))

abbrev pub array_of_doubles : Known
array_of_doubles =
    usual "BEGIN DOUBLE ARRAY E(1:3):=1D,2D,70000D; INTRINSIC QUIT; E(1):=E(2)+E(3); QUIT(INTEGER(E(1)-70000D)) END." (stands (Quit (pos 2)))

abbrev pub array_with_a_negative_lower_bound : Known
array_with_a_negative_lower_bound =
    usual "BEGIN INTEGER ARRAY A(-2:2):=10,20,30,40,50; INTRINSIC QUIT; QUIT(A+A(-2)+A(2)) END." (stands (Quit (pos 90)))

abbrev pub byte_array_with_lower_bound_one : Known
byte_array_with_lower_bound_one =
    usual "BEGIN BYTE ARRAY C(1:4):=\"A\",\"B\",\"C\",\"D\"; INTRINSIC QUIT; QUIT(INTEGER(C(3))*100+INTEGER(C(2))) END." (stands (Quit (pos 6766)))

abbrev pub byte_view_of_words : Known
byte_view_of_words =
    usual "BEGIN LOGICAL ARRAY A(0:1):=%40502,%41504; BYTE ARRAY B(*)=A; INTRINSIC QUIT; B(2):=90; QUIT(INTEGER(A(1))-INTEGER(B(1))) END." (stands (Quit (pos 23042)))

abbrev pub element_out_of_bounds : Known
element_out_of_bounds =
    record (usual "BEGIN INTEGER ARRAY A(0:9); INTEGER I; I:=30000; A(I):=1 END." (stands (Trapped Bounds))) { stack = 800 }

abbrev pub element_past_its_array : Known
element_past_its_array =
    usual "BEGIN INTEGER ARRAY A(0:9); INTEGER ARRAY H(0:1):=7,8; INTRINSIC QUIT; QUIT(A(10)) END." (stands (Quit (pos 7)))

abbrev pub pointer_to_an_element : Known
pointer_to_an_element =
    usual "BEGIN INTEGER ARRAY A(0:2):=4,5,6; INTEGER POINTER P; INTRINSIC QUIT; @P:=@A(1); QUIT(P(1)) END." (stands (Quit (pos 6)))

abbrev pub word_view_of_words : Known
word_view_of_words =
    usual "BEGIN INTEGER ARRAY A(1:4):=1,2,3,4; LOGICAL ARRAY V(*)=A; INTRINSIC QUIT; V(2):=9; QUIT(A(2)*10+INTEGER(V(4))) END." (stands (Quit (pos 94)))

abbrev pub pointer_steps_through_an_array : Known
pointer_steps_through_an_array =
    usual "BEGIN INTEGER ARRAY A(0:3):=1,10,100,1000; INTEGER I,K; INTRINSIC QUIT; INTEGER POINTER Q; PROCEDURE P; BEGIN INTEGER POINTER R; @R:=@Q+1; R:=R+K; @Q:=@R; END; @Q:=@A; P; K:=5; P; QUIT(A(1)*10+A(2)+Q) END." (stands (Quit (pos 310)))

abbrev pub own_array_with_a_view : Known
own_array_with_a_view =
    general "PROCEDURE P(I); VALUE I; INTEGER I; BEGIN OWN INTEGER ARRAY A(0:1):=%40502,%41504; BYTE ARRAY C(*)=A; C(I):=C(I)+1; K:=A(1); END; P(2); P(3); QUIT(K-%41504) END." (stands (Quit (pos 257)))

abbrev pub own_variable_keeps_its_value : Known
own_variable_keeps_its_value =
    general "PROCEDURE P; BEGIN OWN INTEGER C:=5; INTEGER D; C:=C+1; D:=D+1; K:=K*100+C*10+D; END; P; P; QUIT(K) END." (stands (Quit (pos 6171)))

abbrev pub parameters_by_reference : Known
parameters_by_reference =
    general "PROCEDURE SWAP(A,B); INTEGER A,B; BEGIN INTEGER T; T:=A; A:=B; B:=T; END; I:=3; J:=8; SWAP(I,J); QUIT(I*10+J) END." (stands (Quit (pos 83)))

abbrev pub array_and_element_as_arguments : Known
array_and_element_as_arguments =
    usual "BEGIN INTEGER ARRAY A(-1:4):=1,2,3,4,5,6; INTRINSIC QUIT; INTEGER PROCEDURE F(R,K); VALUE K; INTEGER ARRAY R; INTEGER K; F:=R(K)*10+R; QUIT(F(A,-1)*100+F(A(2),2)) END." (stands (Quit (pos 1264)))

abbrev pub reference_to_a_loop_variable : Known
reference_to_a_loop_variable =
    general "PROCEDURE P(A); INTEGER A; FOR A:=1 UNTIL 4 DO K:=K+A; P(J); QUIT(K*10+J) END." (stands (Quit (pos 105)))

-- the main body's marker stands behind one cell and is no data
abbrev pub read_of_a_marker : Known
read_of_a_marker =
    usual "BEGIN INTEGER POINTER P; INTEGER I; @P:=2; I:=P END." stray

-- an address below STACK that is no data word
abbrev pub write_above_the_frame : Known
write_above_the_frame =
    usual "BEGIN INTEGER POINTER P; @P:=100; P:=1 END." stray

-- an address at STACK is out of bounds
abbrev pub bounds_before_a_stray : Known
bounds_before_a_stray =
    usual "BEGIN INTEGER POINTER P; @P:=1024; P:=1 END." (stands (Trapped Bounds))

-- and the one below it is not
abbrev pub last_word_below_stack : Known
last_word_below_stack =
    usual "BEGIN INTEGER POINTER P; @P:=1023; P:=1 END." stray

-- the second word of the last data double is none
abbrev pub double_half_astray : Known
double_half_astray =
    usual "BEGIN DOUBLE POINTER P; DOUBLE D; @P:=2; D:=P END." stray

-- what was printed before stays
abbrev pub printed_before_a_stray : Known
printed_before_a_stray =
    record (usual "BEGIN LOGICAL ARRAY W(0:0); INTEGER POINTER P; INTRINSIC PRINT; W(0):=\"OK\"; PRINT(W,-2,%320); @P:=500; P:=1 END." stray) { printed = codes "OK" }

-- a pointer that is set to an address reads what stands there
abbrev pub pointer_to_a_variable : Known
pointer_to_a_variable =
    usual "BEGIN INTEGER POINTER P; INTEGER I; INTRINSIC QUIT; I:=42; @P:=@I; P:=P+1; QUIT(I) END." (stands (Quit (pos 43)))

-- a byte address, left half first
abbrev pub byte_pointer : Known
byte_pointer =
    usual "BEGIN BYTE POINTER P; INTEGER I; INTRINSIC QUIT; I:=\"AB\"; @P:=@I; @P:=@I*2; QUIT(P(1)) END." (stands (Quit (pos 66)))

-- the address of a BYTE counts bytes, and its left half has it
abbrev pub byte_variable_is_the_left_half : Known
byte_variable_is_the_left_half =
    usual "BEGIN BYTE C; INTEGER POINTER P; INTRINSIC QUIT; C:=\"A\"; @P:=@C/2; QUIT(P) END." (stands (Quit (pos 16640)))

-- addresses wrap at 65,536: element 65,535 is that before element 0
abbrev pub index_wraps : Known
index_wraps =
    usual "BEGIN INTEGER I; INTEGER ARRAY A(0:1); INTEGER POINTER P; INTRINSIC QUIT; I:=9; @P:=@I+1; QUIT(P(65535)) END." (stands (Quit (pos 9)))

-- the index is worked out before the value
abbrev pub index_then_value : Known
index_then_value =
    usual "BEGIN INTEGER I; INTEGER ARRAY A(0:3); INTRINSIC QUIT; INTEGER PROCEDURE F; BEGIN I:=I+1; F:=I; END; A(F):=F*10; QUIT(A(1)) END." (stands (Quit (pos 20)))

-- the cell of a pointer is read when the value is there
abbrev pub cell_read_after_the_value : Known
cell_read_after_the_value =
    usual "BEGIN INTEGER POINTER P; INTEGER I,J; INTRINSIC QUIT; INTEGER PROCEDURE F; BEGIN @P:=@J; F:=5; END; @P:=@I; P:=F; QUIT(I*10+J) END." (stands (Quit (pos 5)))

-- elements of a DOUBLE array are two words
abbrev pub double_elements : Known
double_elements =
    usual "BEGIN DOUBLE ARRAY D(1:2); INTEGER ARRAY A(*)=D; INTRINSIC QUIT; D(1):=1D; D(2):=2D; QUIT(A(3)*10+A(5)) END." (stands (Quit (pos 12)))

-- all of these
abbrev pub reference_runs : List Known
reference_runs =
    addresses_of_globals
    ∷ array_of_doubles
    ∷ array_with_a_negative_lower_bound
    ∷ byte_array_with_lower_bound_one
    ∷ byte_view_of_words
    ∷ element_out_of_bounds
    ∷ element_past_its_array
    ∷ pointer_to_an_element
    ∷ word_view_of_words
    ∷ pointer_steps_through_an_array
    ∷ own_array_with_a_view
    ∷ own_variable_keeps_its_value
    ∷ parameters_by_reference
    ∷ array_and_element_as_arguments
    ∷ reference_to_a_loop_variable
    ∷ read_of_a_marker
    ∷ write_above_the_frame
    ∷ bounds_before_a_stray
    ∷ last_word_below_stack
    ∷ double_half_astray
    ∷ printed_before_a_stray
    ∷ pointer_to_a_variable
    ∷ byte_pointer
    ∷ byte_variable_is_the_left_half
    ∷ index_wraps
    ∷ index_then_value
    ∷ cell_read_after_the_value
    ∷ double_elements
    ∷ []
