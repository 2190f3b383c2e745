-- Runs of arithmetic, constants and tokens: each program by its text, with the point at which its run is after some steps.
use Rattle.std.specs.Prelude.{pos, negsuc, List, [], ◌∷◌}
use Rattle.spl_meaning.specs.hp_word.declared.endings.Ending.TheVariants.{Running, Terminated, Quit, Trapped}
use Rattle.spl_meaning.specs.hp_word.declared.endings.Trap.TheVariants.{IntegerOverflow, DivideByZero}
use Rattle.spl_meaning.specs.Runs.{stands}
use Rattle.spl_known.specs.Programs.{Known, usual, general}

abbrev pub addition_overflows : Known
addition_overflows =
    usual "BEGIN INTEGER A,B; INTRINSIC QUIT; A:=32767; B:=A+1; QUIT(B) END." (stands (Trapped IntegerOverflow))

abbrev pub adds_and_quits : Known
adds_and_quits =
    usual "BEGIN INTEGER I; INTRINSIC QUIT; I:=2; I:=I+3; QUIT(I) END." (stands (Quit (pos 5)))

abbrev pub arithmetic_shift_right : Known
arithmetic_shift_right =
    general "L:=%177776; I:=INTEGER(L)&ASR(1); QUIT(I) END." (stands (Quit (negsuc 0)))

abbrev pub assignment_to_a_bit_field : Known
assignment_to_a_bit_field =
    general "I:=-1; I.(4:4):=%23; QUIT(I) END." (stands (Quit (negsuc 3072)))

abbrev pub bit_field_of_a_word : Known
bit_field_of_a_word =
    general "I:=%123456; QUIT(I.(4:4)) END." (stands (Quit (pos 7)))

abbrev pub bit_operations_and_relations : Known
bit_operations_and_relations =
    general "L:=1=1 LAND 6; L:=L XOR 3 LOR 8; QUIT(INTEGER(L)) END." (stands (Quit (pos 13)))

abbrev pub byte_variable_keeps_eight_bits : Known
byte_variable_keeps_eight_bits =
    usual "BEGIN BYTE C; INTRINSIC QUIT; C:=%1101; QUIT(INTEGER(C)) END." (stands (Quit (pos 65)))

abbrev pub constants_of_all_sorts : Known
constants_of_all_sorts =
    general "I:=TRUE; J:=\"AB\"; K:=%17; QUIT(J-16706+K+I+FALSE) END." (stands (Quit (pos 14)))

abbrev pub declaration_alone : Known
declaration_alone =
    usual "BEGIN INTEGER I; END." (stands Terminated)

abbrev pub define_of_a_define : Known
define_of_a_define =
    usual "BEGIN DEFINE A=1+2#; DEFINE B=A+A #; INTEGER I; INTRINSIC QUIT; I:=B+I; QUIT(I) END." (stands (Quit (pos 6)))

abbrev pub define_stands_for_a_number : Known
define_stands_for_a_number =
    usual "BEGIN DEFINE T=2#; INTEGER I; INTRINSIC QUIT; I:=T; I:=I+3; QUIT(I) END." (stands (Quit (pos 5)))

abbrev pub defined_word_is_replaced_where_it_stands : Known
defined_word_is_replaced_where_it_stands =
    usual "BEGIN INTEGER T; INTRINSIC QUIT; T:=5; DEFINE T=8#; QUIT(T) END." (stands (Quit (pos 8)))

abbrev pub division_truncates_toward_zero : Known
division_truncates_toward_zero =
    general "I:=-7; J:=2; QUIT(I/J*100+I MOD J) END." (stands (Quit (negsuc 300)))

abbrev pub double_keeps_the_sign_of_an_integer : Known
double_keeps_the_sign_of_an_integer =
    general "DOUBLE D; I:=-5; D:=DOUBLE(I)+3D; L:=D=-2D; QUIT(INTEGER(L)) END." (stands (Quit (negsuc 0)))

abbrev pub double_of_a_logical_is_not_negative : Known
double_of_a_logical_is_not_negative =
    general "DOUBLE D; L:=65535; D:=DOUBLE(L)+1D; L:=D=65536D; QUIT(INTEGER(L)) END." (stands (Quit (negsuc 0)))

abbrev pub double_overflow : Known
double_overflow =
    usual "BEGIN DOUBLE D; D:=2147483647D; D:=D+1D END." (stands (Trapped IntegerOverflow))

abbrev pub doubles_are_compared_with_sign : Known
doubles_are_compared_with_sign =
    general "DOUBLE D; D:=-1D; L:=D<1D; QUIT(INTEGER(L)) END." (stands (Quit (negsuc 0)))

abbrev pub equate_of_equates : Known
equate_of_equates =
    usual "BEGIN EQUATE A=5,B=A+10-2,C=B-\"A\"+%100; INTRINSIC QUIT; QUIT(C) END." (stands (Quit (pos 12)))

abbrev pub initial_values_of_variables : Known
initial_values_of_variables =
    usual "BEGIN INTEGER I:=7,J:=-3; LOGICAL L:=TRUE; BYTE C:=\"A\"; DOUBLE D:=65537D; INTRINSIC QUIT; QUIT(I+J+INTEGER(L)+INTEGER(C)+INTEGER(D)) END." (stands (Quit (pos 69)))

abbrev pub integer_overflow_by_addition : Known
integer_overflow_by_addition =
    general "I:=32767; I:=I+1; TERMINATE END." (stands (Trapped IntegerOverflow))

abbrev pub integer_product_overflows : Known
integer_product_overflows =
    general "I:=256; I:=I*128 END." (stands (Trapped IntegerOverflow))

abbrev pub least_integer_over_minus_one : Known
least_integer_over_minus_one =
    general "I:=-32768; J:=-1; I:=I/J END." (stands (Trapped IntegerOverflow))

abbrev pub logical_division_by_zero : Known
logical_division_by_zero =
    general "L:=L/0 END." (stands (Trapped DivideByZero))

abbrev pub logical_division_is_unsigned : Known
logical_division_is_unsigned =
    general "L:=65534; QUIT(INTEGER(L/3)-INTEGER(L MOD 10)) END." (stands (Quit (pos 21840)))

abbrev pub logical_product_wraps : Known
logical_product_wraps =
    general "L:=65535; QUIT(INTEGER(L*L)+2) END." (stands (Quit (pos 3)))

abbrev pub logicals_are_compared_without_sign : Known
logicals_are_compared_without_sign =
    general "L:=40000; I:=INTEGER(L); J:=INTEGER(L>1)*10; K:=INTEGER(I>1); QUIT(J+K) END." (stands (Quit (negsuc 9)))

abbrev pub low_word_of_a_double : Known
low_word_of_a_double =
    general "DOUBLE D; D:=100000D; D:=D+D; QUIT(INTEGER(D)) END." (stands (Quit (pos 3392)))

abbrev pub minus_of_a_logical : Known
minus_of_a_logical =
    general "L:=1; L:=-L; L:=L/2; QUIT(INTEGER(L)) END." (stands (Quit (pos 32767)))

abbrev pub minus_of_the_least_integer : Known
minus_of_the_least_integer =
    general "I:=-32768; I:=-I END." (stands (Trapped IntegerOverflow))

abbrev pub modulo_by_zero : Known
modulo_by_zero =
    general "I:=5 MOD K END." (stands (Trapped DivideByZero))

abbrev pub negated_number_binds_first : Known
negated_number_binds_first =
    general "QUIT(-32768/2) END." (stands (Quit (negsuc 16383)))

abbrev pub not_of_a_word : Known
not_of_a_word =
    general "L:=5; QUIT(INTEGER(NOT L)) END." (stands (Quit (negsuc 5)))

abbrev pub six_shifts_of_one_word : Known
six_shifts_of_one_word =
    general "L:=%100001; QUIT(INTEGER(L&ASL(1)+L&ASR(1)+L&LSL(1)+L&LSR(1)+L&CSL(1)+L&CSR(1))) END." (stands (Quit (pos 16391)))

abbrev pub small_letters_comments_and_commands : Known
small_letters_comments_and_commands =
    usual "$PAGE \"x\" <<\nbegin integer i,x1; COMMENT no << this is one; intrinsic quit;\n$title whatever\n  x1:=%17<<fifteen>>+<<\n$ >>1;\n$CONTROL uslinit,list=9,segment=seg'\ni:=x1-2; quit(i) end." (stands (Quit (pos 14)))

abbrev pub tabs_and_returns_are_blanks : Known
tabs_and_returns_are_blanks =
    usual "BEGIN\tINTEGER\r I;INTRINSIC\tQUIT;\tI:=3\t+\t4; QUIT(I) END." (stands (Quit (pos 7)))

abbrev pub quit_with_a_negative_number : Known
quit_with_a_negative_number =
    general "QUIT(-32768) END." (stands (Quit (negsuc 32767)))

-- no step is made
abbrev pub before_the_first_step : Known
before_the_first_step =
    record (usual "BEGIN INTEGER I; INTRINSIC QUIT; I:=2; I:=I+3; QUIT(I) END." (stands Running)) { steps = 0 }

-- the main body, two assignments, the call and its intrinsic are five steps
abbrev pub one_step_before_the_quit : Known
one_step_before_the_quit =
    record (usual "BEGIN INTEGER I; INTRINSIC QUIT; I:=2; I:=I+3; QUIT(I) END." (stands Running)) { steps = 4 }

-- and then the run has ended
abbrev pub the_step_of_the_quit : Known
the_step_of_the_quit =
    record (usual "BEGIN INTEGER I; INTRINSIC QUIT; I:=2; I:=I+3; QUIT(I) END." (stands (Quit (pos 5)))) { steps = 5 }

-- an ended run stays as it is
abbrev pub an_ended_run_stays : Known
an_ended_run_stays =
    record (usual "BEGIN INTEGER I; INTRINSIC QUIT; I:=2; I:=I+3; QUIT(I) END." (stands (Quit (pos 5)))) { steps = 6 }

-- the end of the main body is a step of its own
abbrev pub before_the_last_step : Known
before_the_last_step =
    record (usual "BEGIN INTEGER I; I:=1 END." (stands Running)) { steps = 2 }

-- behind the main body, the assignment
abbrev pub the_last_step : Known
the_last_step =
    record (usual "BEGIN INTEGER I; I:=1 END." (stands Terminated)) { steps = 3 }

-- bits 0110 and 0011 differ in two, share one, and have three together
abbrev pub xor_lor_and_land : Known
xor_lor_and_land =
    usual "BEGIN LOGICAL L; INTRINSIC QUIT; L:=(6 XOR 3)*100+(6 LOR 3)*10+(6 LAND 3); QUIT(L) END." (stands (Quit (pos 572)))

-- 65,536 and 3 less 65,536
abbrev pub double_sum : Known
double_sum =
    usual "BEGIN DOUBLE D; INTRINSIC QUIT; D:=65536D+3D-65536D; QUIT(INTEGER(D)) END." (stands (Quit (pos 3)))

-- minus a double
abbrev pub double_negated : Known
double_negated =
    usual "BEGIN DOUBLE D; INTRINSIC QUIT; D:=7D; D:=-D; QUIT(INTEGER(D)) END." (stands (Quit (negsuc 6)))

-- minus the least double is out of range
abbrev pub double_of_the_least_negated : Known
double_of_the_least_negated =
    usual "BEGIN DOUBLE D; D:=-2147483648D; D:=-D END." (stands (Trapped IntegerOverflow))

-- a transfer to BYTE takes the right eight bits
abbrev pub byte_of_a_word : Known
byte_of_a_word =
    usual "BEGIN INTEGER I; INTRINSIC QUIT; I:=%1501; QUIT(BYTE(I)) END." (stands (Quit (pos 65)))

-- a remainder has the sign of what is divided
abbrev pub remainder_of_a_negative : Known
remainder_of_a_negative =
    usual "BEGIN INTEGER I; INTRINSIC QUIT; I:=-7; QUIT(I MOD 3) END." (stands (Quit (negsuc 0)))

-- LOGICALs have no sign: 65,529 by 10 leaves 9
abbrev pub remainder_of_a_logical : Known
remainder_of_a_logical =
    usual "BEGIN LOGICAL L; INTRINSIC QUIT; L:=-7; QUIT(L MOD 10) END." (stands (Quit (pos 9)))

-- MOD traps as the quotient does
abbrev pub least_integer_modulo_minus_one : Known
least_integer_modulo_minus_one =
    usual "BEGIN INTEGER I,J; I:=-32768; J:=-1; I:=I MOD J END." (stands (Trapped IntegerOverflow))

-- a plus changes nothing
abbrev pub plus_in_front : Known
plus_in_front =
    usual "BEGIN INTEGER I; INTRINSIC QUIT; I:=+5; QUIT(+I) END." (stands (Quit (pos 5)))

-- all bits of TRUE are ones
abbrev pub not_of_truth : Known
not_of_truth =
    usual "BEGIN LOGICAL L; INTRINSIC QUIT; L:=NOT TRUE; QUIT(L) END." (stands (Quit (pos 0)))

-- the first character times 256, and the second
abbrev pub string_of_two_as_a_word : Known
string_of_two_as_a_word =
    usual "BEGIN INTEGER I; INTRINSIC QUIT; I:=\"AB\"; QUIT(I) END." (stands (Quit (pos 16706)))

-- all of these
abbrev pub arithmetic_runs : List Known
arithmetic_runs =
    addition_overflows
    ∷ adds_and_quits
    ∷ arithmetic_shift_right
    ∷ assignment_to_a_bit_field
    ∷ bit_field_of_a_word
    ∷ bit_operations_and_relations
    ∷ byte_variable_keeps_eight_bits
    ∷ constants_of_all_sorts
    ∷ declaration_alone
    ∷ define_of_a_define
    ∷ define_stands_for_a_number
    ∷ defined_word_is_replaced_where_it_stands
    ∷ division_truncates_toward_zero
    ∷ double_keeps_the_sign_of_an_integer
    ∷ double_of_a_logical_is_not_negative
    ∷ double_overflow
    ∷ doubles_are_compared_with_sign
    ∷ equate_of_equates
    ∷ initial_values_of_variables
    ∷ integer_overflow_by_addition
    ∷ integer_product_overflows
    ∷ least_integer_over_minus_one
    ∷ logical_division_by_zero
    ∷ logical_division_is_unsigned
    ∷ logical_product_wraps
    ∷ logicals_are_compared_without_sign
    ∷ low_word_of_a_double
    ∷ minus_of_a_logical
    ∷ minus_of_the_least_integer
    ∷ modulo_by_zero
    ∷ negated_number_binds_first
    ∷ not_of_a_word
    ∷ six_shifts_of_one_word
    ∷ small_letters_comments_and_commands
    ∷ tabs_and_returns_are_blanks
    ∷ quit_with_a_negative_number
    ∷ before_the_first_step
    ∷ one_step_before_the_quit
    ∷ the_step_of_the_quit
    ∷ an_ended_run_stays
    ∷ before_the_last_step
    ∷ the_last_step
    ∷ xor_lor_and_land
    ∷ double_sum
    ∷ double_negated
    ∷ double_of_the_least_negated
    ∷ byte_of_a_word
    ∷ remainder_of_a_negative
    ∷ remainder_of_a_logical
    ∷ least_integer_modulo_minus_one
    ∷ plus_in_front
    ∷ not_of_truth
    ∷ string_of_two_as_a_word
    ∷ []
