-- Known programs break no rule and pass no limit, computed.
use Rattle.std.proofs.Common.{refl}
use Rattle.spl_known.specs.Programs.{IsRight, AllRight}
use Rattle.spl_known.specs.ArithmeticRuns as arithmetic
use Rattle.spl_known.specs.ReferenceRuns as reference
use Rattle.spl_known.specs.StatementRuns as statement
use Rattle.spl_known.specs.CallRuns as call
use Rattle.spl_known.specs.EffectRuns as effect
use Rattle.spl_known.proofs.Computing.{all}

addition_overflows : IsRight arithmetic.addition_overflows
unfolding all
addition_overflows = refl

adds_and_quits : IsRight arithmetic.adds_and_quits
unfolding all
adds_and_quits = refl

arithmetic_shift_right : IsRight arithmetic.arithmetic_shift_right
unfolding all
arithmetic_shift_right = refl

assignment_to_a_bit_field : IsRight arithmetic.assignment_to_a_bit_field
unfolding all
assignment_to_a_bit_field = refl

bit_field_of_a_word : IsRight arithmetic.bit_field_of_a_word
unfolding all
bit_field_of_a_word = refl

bit_operations_and_relations : IsRight arithmetic.bit_operations_and_relations
unfolding all
bit_operations_and_relations = refl

byte_variable_keeps_eight_bits : IsRight arithmetic.byte_variable_keeps_eight_bits
unfolding all
byte_variable_keeps_eight_bits = refl

constants_of_all_sorts : IsRight arithmetic.constants_of_all_sorts
unfolding all
constants_of_all_sorts = refl

declaration_alone : IsRight arithmetic.declaration_alone
unfolding all
declaration_alone = refl

define_of_a_define : IsRight arithmetic.define_of_a_define
unfolding all
define_of_a_define = refl

define_stands_for_a_number : IsRight arithmetic.define_stands_for_a_number
unfolding all
define_stands_for_a_number = refl

defined_word_is_replaced_where_it_stands : IsRight arithmetic.defined_word_is_replaced_where_it_stands
unfolding all
defined_word_is_replaced_where_it_stands = refl

division_truncates_toward_zero : IsRight arithmetic.division_truncates_toward_zero
unfolding all
division_truncates_toward_zero = refl

double_keeps_the_sign_of_an_integer : IsRight arithmetic.double_keeps_the_sign_of_an_integer
unfolding all
double_keeps_the_sign_of_an_integer = refl

double_of_a_logical_is_not_negative : IsRight arithmetic.double_of_a_logical_is_not_negative
unfolding all
double_of_a_logical_is_not_negative = refl

double_overflow : IsRight arithmetic.double_overflow
unfolding all
double_overflow = refl

doubles_are_compared_with_sign : IsRight arithmetic.doubles_are_compared_with_sign
unfolding all
doubles_are_compared_with_sign = refl

equate_of_equates : IsRight arithmetic.equate_of_equates
unfolding all
equate_of_equates = refl

initial_values_of_variables : IsRight arithmetic.initial_values_of_variables
unfolding all
initial_values_of_variables = refl

integer_overflow_by_addition : IsRight arithmetic.integer_overflow_by_addition
unfolding all
integer_overflow_by_addition = refl

integer_product_overflows : IsRight arithmetic.integer_product_overflows
unfolding all
integer_product_overflows = refl

least_integer_over_minus_one : IsRight arithmetic.least_integer_over_minus_one
unfolding all
least_integer_over_minus_one = refl

logical_division_by_zero : IsRight arithmetic.logical_division_by_zero
unfolding all
logical_division_by_zero = refl

logical_division_is_unsigned : IsRight arithmetic.logical_division_is_unsigned
unfolding all
logical_division_is_unsigned = refl

logical_product_wraps : IsRight arithmetic.logical_product_wraps
unfolding all
logical_product_wraps = refl

logicals_are_compared_without_sign : IsRight arithmetic.logicals_are_compared_without_sign
unfolding all
logicals_are_compared_without_sign = refl

low_word_of_a_double : IsRight arithmetic.low_word_of_a_double
unfolding all
low_word_of_a_double = refl

minus_of_a_logical : IsRight arithmetic.minus_of_a_logical
unfolding all
minus_of_a_logical = refl

minus_of_the_least_integer : IsRight arithmetic.minus_of_the_least_integer
unfolding all
minus_of_the_least_integer = refl

modulo_by_zero : IsRight arithmetic.modulo_by_zero
unfolding all
modulo_by_zero = refl

negated_number_binds_first : IsRight arithmetic.negated_number_binds_first
unfolding all
negated_number_binds_first = refl

not_of_a_word : IsRight arithmetic.not_of_a_word
unfolding all
not_of_a_word = refl

six_shifts_of_one_word : IsRight arithmetic.six_shifts_of_one_word
unfolding all
six_shifts_of_one_word = refl

small_letters_comments_and_commands : IsRight arithmetic.small_letters_comments_and_commands
unfolding all
small_letters_comments_and_commands = refl

tabs_and_returns_are_blanks : IsRight arithmetic.tabs_and_returns_are_blanks
unfolding all
tabs_and_returns_are_blanks = refl

quit_with_a_negative_number : IsRight arithmetic.quit_with_a_negative_number
unfolding all
quit_with_a_negative_number = refl

before_the_first_step : IsRight arithmetic.before_the_first_step
unfolding all
before_the_first_step = refl

one_step_before_the_quit : IsRight arithmetic.one_step_before_the_quit
unfolding all
one_step_before_the_quit = refl

the_step_of_the_quit : IsRight arithmetic.the_step_of_the_quit
unfolding all
the_step_of_the_quit = refl

an_ended_run_stays : IsRight arithmetic.an_ended_run_stays
unfolding all
an_ended_run_stays = refl

before_the_last_step : IsRight arithmetic.before_the_last_step
unfolding all
before_the_last_step = refl

the_last_step : IsRight arithmetic.the_last_step
unfolding all
the_last_step = refl

xor_lor_and_land : IsRight arithmetic.xor_lor_and_land
unfolding all
xor_lor_and_land = refl

double_sum : IsRight arithmetic.double_sum
unfolding all
double_sum = refl

double_negated : IsRight arithmetic.double_negated
unfolding all
double_negated = refl

double_of_the_least_negated : IsRight arithmetic.double_of_the_least_negated
unfolding all
double_of_the_least_negated = refl

byte_of_a_word : IsRight arithmetic.byte_of_a_word
unfolding all
byte_of_a_word = refl

remainder_of_a_negative : IsRight arithmetic.remainder_of_a_negative
unfolding all
remainder_of_a_negative = refl

remainder_of_a_logical : IsRight arithmetic.remainder_of_a_logical
unfolding all
remainder_of_a_logical = refl

least_integer_modulo_minus_one : IsRight arithmetic.least_integer_modulo_minus_one
unfolding all
least_integer_modulo_minus_one = refl

plus_in_front : IsRight arithmetic.plus_in_front
unfolding all
plus_in_front = refl

not_of_truth : IsRight arithmetic.not_of_truth
unfolding all
not_of_truth = refl

string_of_two_as_a_word : IsRight arithmetic.string_of_two_as_a_word
unfolding all
string_of_two_as_a_word = refl

pub all_arithmetic : AllRight arithmetic.arithmetic_runs
all_arithmetic = (addition_overflows, (adds_and_quits, (arithmetic_shift_right, (assignment_to_a_bit_field, (bit_field_of_a_word, (bit_operations_and_relations, (byte_variable_keeps_eight_bits, (constants_of_all_sorts, (declaration_alone, (define_of_a_define, (define_stands_for_a_number, (defined_word_is_replaced_where_it_stands, (division_truncates_toward_zero, (double_keeps_the_sign_of_an_integer, (double_of_a_logical_is_not_negative, (double_overflow, (doubles_are_compared_with_sign, (equate_of_equates, (initial_values_of_variables, (integer_overflow_by_addition, (integer_product_overflows, (least_integer_over_minus_one, (logical_division_by_zero, (logical_division_is_unsigned, (logical_product_wraps, (logicals_are_compared_without_sign, (low_word_of_a_double, (minus_of_a_logical, (minus_of_the_least_integer, (modulo_by_zero, (negated_number_binds_first, (not_of_a_word, (six_shifts_of_one_word, (small_letters_comments_and_commands, (tabs_and_returns_are_blanks, (quit_with_a_negative_number, (before_the_first_step, (one_step_before_the_quit, (the_step_of_the_quit, (an_ended_run_stays, (before_the_last_step, (the_last_step, (xor_lor_and_land, (double_sum, (double_negated, (double_of_the_least_negated, (byte_of_a_word, (remainder_of_a_negative, (remainder_of_a_logical, (least_integer_modulo_minus_one, (plus_in_front, (not_of_truth, (string_of_two_as_a_word, tt)))))))))))))))))))))))))))))))))))))))))))))))))))))

addresses_of_globals : IsRight reference.addresses_of_globals
unfolding all
addresses_of_globals = refl

array_of_doubles : IsRight reference.array_of_doubles
unfolding all
array_of_doubles = refl

array_with_a_negative_lower_bound : IsRight reference.array_with_a_negative_lower_bound
unfolding all
array_with_a_negative_lower_bound = refl

byte_array_with_lower_bound_one : IsRight reference.byte_array_with_lower_bound_one
unfolding all
byte_array_with_lower_bound_one = refl

byte_view_of_words : IsRight reference.byte_view_of_words
unfolding all
byte_view_of_words = refl

element_out_of_bounds : IsRight reference.element_out_of_bounds
unfolding all
element_out_of_bounds = refl

element_past_its_array : IsRight reference.element_past_its_array
unfolding all
element_past_its_array = refl

pointer_to_an_element : IsRight reference.pointer_to_an_element
unfolding all
pointer_to_an_element = refl

word_view_of_words : IsRight reference.word_view_of_words
unfolding all
word_view_of_words = refl

pointer_steps_through_an_array : IsRight reference.pointer_steps_through_an_array
unfolding all
pointer_steps_through_an_array = refl

own_array_with_a_view : IsRight reference.own_array_with_a_view
unfolding all
own_array_with_a_view = refl

own_variable_keeps_its_value : IsRight reference.own_variable_keeps_its_value
unfolding all
own_variable_keeps_its_value = refl

parameters_by_reference : IsRight reference.parameters_by_reference
unfolding all
parameters_by_reference = refl

array_and_element_as_arguments : IsRight reference.array_and_element_as_arguments
unfolding all
array_and_element_as_arguments = refl

reference_to_a_loop_variable : IsRight reference.reference_to_a_loop_variable
unfolding all
reference_to_a_loop_variable = refl

read_of_a_marker : IsRight reference.read_of_a_marker
unfolding all
read_of_a_marker = refl

write_above_the_frame : IsRight reference.write_above_the_frame
unfolding all
write_above_the_frame = refl

bounds_before_a_stray : IsRight reference.bounds_before_a_stray
unfolding all
bounds_before_a_stray = refl

last_word_below_stack : IsRight reference.last_word_below_stack
unfolding all
last_word_below_stack = refl

double_half_astray : IsRight reference.double_half_astray
unfolding all
double_half_astray = refl

printed_before_a_stray : IsRight reference.printed_before_a_stray
unfolding all
printed_before_a_stray = refl

pointer_to_a_variable : IsRight reference.pointer_to_a_variable
unfolding all
pointer_to_a_variable = refl

byte_pointer : IsRight reference.byte_pointer
unfolding all
byte_pointer = refl

byte_variable_is_the_left_half : IsRight reference.byte_variable_is_the_left_half
unfolding all
byte_variable_is_the_left_half = refl

index_wraps : IsRight reference.index_wraps
unfolding all
index_wraps = refl

index_then_value : IsRight reference.index_then_value
unfolding all
index_then_value = refl

cell_read_after_the_value : IsRight reference.cell_read_after_the_value
unfolding all
cell_read_after_the_value = refl

double_elements : IsRight reference.double_elements
unfolding all
double_elements = refl

pub all_reference : AllRight reference.reference_runs
all_reference = (addresses_of_globals, (array_of_doubles, (array_with_a_negative_lower_bound, (byte_array_with_lower_bound_one, (byte_view_of_words, (element_out_of_bounds, (element_past_its_array, (pointer_to_an_element, (word_view_of_words, (pointer_steps_through_an_array, (own_array_with_a_view, (own_variable_keeps_its_value, (parameters_by_reference, (array_and_element_as_arguments, (reference_to_a_loop_variable, (read_of_a_marker, (write_above_the_frame, (bounds_before_a_stray, (last_word_below_stack, (double_half_astray, (printed_before_a_stray, (pointer_to_a_variable, (byte_pointer, (byte_variable_is_the_left_half, (index_wraps, (index_then_value, (cell_read_after_the_value, (double_elements, tt))))))))))))))))))))))))))))

case_outside_its_arms : IsRight statement.case_outside_its_arms
unfolding all
case_outside_its_arms = refl

case_with_an_empty_arm : IsRight statement.case_with_an_empty_arm
unfolding all
case_with_an_empty_arm = refl

condition_is_the_lowest_bit : IsRight statement.condition_is_the_lowest_bit
unfolding all
condition_is_the_lowest_bit = refl

else_of_the_nearest_if : IsRight statement.else_of_the_nearest_if
unfolding all
else_of_the_nearest_if = refl

jump_out_of_two_loops : IsRight statement.jump_out_of_two_loops
unfolding all
jump_out_of_two_loops = refl

loop_limit_is_taken_once : IsRight statement.loop_limit_is_taken_once
unfolding all
loop_limit_is_taken_once = refl

loop_that_never_runs : IsRight statement.loop_that_never_runs
unfolding all
loop_that_never_runs = refl

loop_variable_changed_inside : IsRight statement.loop_variable_changed_inside
unfolding all
loop_variable_changed_inside = refl

loop_variable_overflows : IsRight statement.loop_variable_overflows
unfolding all
loop_variable_overflows = refl

loop_with_a_negative_step : IsRight statement.loop_with_a_negative_step
unfolding all
loop_with_a_negative_step = refl

right_side_of_and_left_out : IsRight statement.right_side_of_and_left_out
unfolding all
right_side_of_and_left_out = refl

while_and_until : IsRight statement.while_and_until
unfolding all
while_and_until = refl

many_jumps_out_of_a_loop : IsRight statement.many_jumps_out_of_a_loop
unfolding all
many_jumps_out_of_a_loop = refl

step_before_limit : IsRight statement.step_before_limit
unfolding all
step_before_limit = refl

all_six_condition_code_tests : IsRight statement.all_six_condition_code_tests
unfolding all
all_six_condition_code_tests = refl

do_until_runs_once : IsRight statement.do_until_runs_once
unfolding all
do_until_runs_once = refl

do_until_counts : IsRight statement.do_until_counts
unfolding all
do_until_counts = refl

jump_backward : IsRight statement.jump_backward
unfolding all
jump_backward = refl

jump_behind_two_labels : IsRight statement.jump_behind_two_labels
unfolding all
jump_behind_two_labels = refl

jump_into_a_case : IsRight statement.jump_into_a_case
unfolding all
jump_into_a_case = refl

case_of_a_negative : IsRight statement.case_of_a_negative
unfolding all
case_of_a_negative = refl

jump_out_of_a_block : IsRight statement.jump_out_of_a_block
unfolding all
jump_out_of_a_block = refl

endless_loop_goes_on : IsRight statement.endless_loop_goes_on
unfolding all
endless_loop_goes_on = refl

empty_statements_take_steps : IsRight statement.empty_statements_take_steps
unfolding all
empty_statements_take_steps = refl

empty_statements_are_done : IsRight statement.empty_statements_are_done
unfolding all
empty_statements_are_done = refl

loop_tests_take_steps : IsRight statement.loop_tests_take_steps
unfolding all
loop_tests_take_steps = refl

loop_tests_are_done : IsRight statement.loop_tests_are_done
unfolding all
loop_tests_are_done = refl

for_to_the_largest_integer : IsRight statement.for_to_the_largest_integer
unfolding all
for_to_the_largest_integer = refl

for_of_a_negative_step_to_the_least : IsRight statement.for_of_a_negative_step_to_the_least
unfolding all
for_of_a_negative_step_to_the_least = refl

for_down_and_up : IsRight statement.for_down_and_up
unfolding all
for_down_and_up = refl

if_with_a_constant : IsRight statement.if_with_a_constant
unfolding all
if_with_a_constant = refl

left_side_of_or_decides : IsRight statement.left_side_of_or_decides
unfolding all
left_side_of_or_decides = refl

return_in_a_loop : IsRight statement.return_in_a_loop
unfolding all
return_in_a_loop = refl

pub all_statement : AllRight statement.statement_runs
all_statement = (case_outside_its_arms, (case_with_an_empty_arm, (condition_is_the_lowest_bit, (else_of_the_nearest_if, (jump_out_of_two_loops, (loop_limit_is_taken_once, (loop_that_never_runs, (loop_variable_changed_inside, (loop_variable_overflows, (loop_with_a_negative_step, (right_side_of_and_left_out, (while_and_until, (many_jumps_out_of_a_loop, (step_before_limit, (all_six_condition_code_tests, (do_until_runs_once, (do_until_counts, (jump_backward, (jump_behind_two_labels, (jump_into_a_case, (case_of_a_negative, (jump_out_of_a_block, (endless_loop_goes_on, (empty_statements_take_steps, (empty_statements_are_done, (loop_tests_take_steps, (loop_tests_are_done, (for_to_the_largest_integer, (for_of_a_negative_step_to_the_least, (for_down_and_up, (if_with_a_constant, (left_side_of_or_decides, (return_in_a_loop, tt)))))))))))))))))))))))))))))))))

byte_parameter_and_result : IsRight call.byte_parameter_and_result
unfolding all
byte_parameter_and_result = refl

double_parameter_and_result : IsRight call.double_parameter_and_result
unfolding all
double_parameter_and_result = refl

endless_recursion : IsRight call.endless_recursion
unfolding all
endless_recursion = refl

external_procedure_of_a_second_unit : IsRight call.external_procedure_of_a_second_unit
unfolding all
external_procedure_of_a_second_unit = refl

factorial_of_eight_overflows : IsRight call.factorial_of_eight_overflows
unfolding all
factorial_of_eight_overflows = refl

factorial_of_seven : IsRight call.factorial_of_seven
unfolding all
factorial_of_seven = refl

jump_out_of_two_loops_in_a_subroutine : IsRight call.jump_out_of_two_loops_in_a_subroutine
unfolding all
jump_out_of_two_loops_in_a_subroutine = refl

local_name_hides_global : IsRight call.local_name_hides_global
unfolding all
local_name_hides_global = refl

procedures_that_call_each_other : IsRight call.procedures_that_call_each_other
unfolding all
procedures_that_call_each_other = refl

recursion_that_just_fits : IsRight call.recursion_that_just_fits
unfolding all
recursion_that_just_fits = refl

recursion_until_stack_overflow : IsRight call.recursion_until_stack_overflow
unfolding all
recursion_until_stack_overflow = refl

result_is_zero_at_first : IsRight call.result_is_zero_at_first
unfolding all
result_is_zero_at_first = refl

stack_that_leaves_no_room : IsRight call.stack_that_leaves_no_room
unfolding all
stack_that_leaves_no_room = refl

subroutine_of_a_procedure_uses_its_frame : IsRight call.subroutine_of_a_procedure_uses_its_frame
unfolding all
subroutine_of_a_procedure_uses_its_frame = refl

subroutine_with_a_parameter : IsRight call.subroutine_with_a_parameter
unfolding all
subroutine_with_a_parameter = refl

three_units_in_three_segments : IsRight call.three_units_in_three_segments
unfolding all
three_units_in_three_segments = refl

two_segments_take_turns : IsRight call.two_segments_take_turns
unfolding all
two_segments_take_turns = refl

operands_from_left_to_right : IsRight call.operands_from_left_to_right
unfolding all
operands_from_left_to_right = refl

extra_segment_holds_squares : IsRight call.extra_segment_holds_squares
unfolding all
extra_segment_holds_squares = refl

extra_segment_read_past_its_end : IsRight call.extra_segment_read_past_its_end
unfolding all
extra_segment_read_past_its_end = refl

locals_of_a_split_procedure_stay_on_the_stack : IsRight call.locals_of_a_split_procedure_stay_on_the_stack
unfolding all
locals_of_a_split_procedure_stay_on_the_stack = refl

no_extra_segment : IsRight call.no_extra_segment
unfolding all
no_extra_segment = refl

overflow_inside_a_split_procedure : IsRight call.overflow_inside_a_split_procedure
unfolding all
overflow_inside_a_split_procedure = refl

split_procedure_goes_round_and_out : IsRight call.split_procedure_goes_round_and_out
unfolding all
split_procedure_goes_round_and_out = refl

split_procedure_returns_early : IsRight call.split_procedure_returns_early
unfolding all
split_procedure_returns_early = refl

call_takes_a_step : IsRight call.call_takes_a_step
unfolding all
call_takes_a_step = refl

call_is_done : IsRight call.call_is_done
unfolding all
call_is_done = refl

local_words_take_steps : IsRight call.local_words_take_steps
unfolding all
local_words_take_steps = refl

local_words_are_done : IsRight call.local_words_are_done
unfolding all
local_words_are_done = refl

words_of_an_ended_call : IsRight call.words_of_an_ended_call
unfolding all
words_of_an_ended_call = refl

write_into_its_own_marker : IsRight call.write_into_its_own_marker
unfolding all
write_into_its_own_marker = refl

locals_are_zero_again : IsRight call.locals_are_zero_again
unfolding all
locals_are_zero_again = refl

jump_within_a_subroutine : IsRight call.jump_within_a_subroutine
unfolding all
jump_within_a_subroutine = refl

return_from_a_subroutine : IsRight call.return_from_a_subroutine
unfolding all
return_from_a_subroutine = refl

subroutine_calls_another : IsRight call.subroutine_calls_another
unfolding all
subroutine_calls_another = refl

subroutine_calls_itself : IsRight call.subroutine_calls_itself
unfolding all
subroutine_calls_itself = refl

result_of_the_procedure_in_a_subroutine : IsRight call.result_of_the_procedure_in_a_subroutine
unfolding all
result_of_the_procedure_in_a_subroutine = refl

value_dropped : IsRight call.value_dropped
unfolding all
value_dropped = refl

calls_print_from_left_to_right : IsRight call.calls_print_from_left_to_right
unfolding all
calls_print_from_left_to_right = refl

just_room_for_the_main_body : IsRight call.just_room_for_the_main_body
unfolding all
just_room_for_the_main_body = refl

no_room_for_the_main_body : IsRight call.no_room_for_the_main_body
unfolding all
no_room_for_the_main_body = refl

just_room_for_a_call : IsRight call.just_room_for_a_call
unfolding all
just_room_for_a_call = refl

no_room_for_a_call : IsRight call.no_room_for_a_call
unfolding all
no_room_for_a_call = refl

just_room_for_a_subroutine : IsRight call.just_room_for_a_subroutine
unfolding all
just_room_for_a_subroutine = refl

no_room_for_a_subroutine : IsRight call.no_room_for_a_subroutine
unfolding all
no_room_for_a_subroutine = refl

double_result_by_a_subroutine : IsRight call.double_result_by_a_subroutine
unfolding all
double_result_by_a_subroutine = refl

subroutine_hides_its_procedures_result : IsRight call.subroutine_hides_its_procedures_result
unfolding all
subroutine_hides_its_procedures_result = refl

local_initial_value_sees_names_before_it : IsRight call.local_initial_value_sees_names_before_it
unfolding all
local_initial_value_sees_names_before_it = refl

own_initial_value_sees_names_before_it : IsRight call.own_initial_value_sees_names_before_it
unfolding all
own_initial_value_sees_names_before_it = refl

assigned_result_is_no_call : IsRight call.assigned_result_is_no_call
unfolding all
assigned_result_is_no_call = refl

pub all_call : AllRight call.call_runs
all_call = (byte_parameter_and_result, (double_parameter_and_result, (endless_recursion, (external_procedure_of_a_second_unit, (factorial_of_eight_overflows, (factorial_of_seven, (jump_out_of_two_loops_in_a_subroutine, (local_name_hides_global, (procedures_that_call_each_other, (recursion_that_just_fits, (recursion_until_stack_overflow, (result_is_zero_at_first, (stack_that_leaves_no_room, (subroutine_of_a_procedure_uses_its_frame, (subroutine_with_a_parameter, (three_units_in_three_segments, (two_segments_take_turns, (operands_from_left_to_right, (extra_segment_holds_squares, (extra_segment_read_past_its_end, (locals_of_a_split_procedure_stay_on_the_stack, (no_extra_segment, (overflow_inside_a_split_procedure, (split_procedure_goes_round_and_out, (split_procedure_returns_early, (call_takes_a_step, (call_is_done, (local_words_take_steps, (local_words_are_done, (words_of_an_ended_call, (write_into_its_own_marker, (locals_are_zero_again, (jump_within_a_subroutine, (return_from_a_subroutine, (subroutine_calls_another, (subroutine_calls_itself, (result_of_the_procedure_in_a_subroutine, (value_dropped, (calls_print_from_left_to_right, (just_room_for_the_main_body, (no_room_for_the_main_body, (just_room_for_a_call, (no_room_for_a_call, (just_room_for_a_subroutine, (no_room_for_a_subroutine, (double_result_by_a_subroutine, (subroutine_hides_its_procedures_result, (local_initial_value_sees_names_before_it, (own_initial_value_sees_names_before_it, (assigned_result_is_no_call, tt))))))))))))))))))))))))))))))))))))))))))))))))))

answer_of_a_move_downwards : IsRight effect.answer_of_a_move_downwards
unfolding all
answer_of_a_move_downwards = refl

ascii_in_another_base : IsRight effect.ascii_in_another_base
unfolding all
ascii_in_another_base = refl

ascii_in_both_bases : IsRight effect.ascii_in_both_bases
unfolding all
ascii_in_both_bases = refl

byte_comparison_is_unsigned : IsRight effect.byte_comparison_is_unsigned
unfolding all
byte_comparison_is_unsigned = refl

byte_comparisons : IsRight effect.byte_comparisons
unfolding all
byte_comparisons = refl

dascii_in_both_bases : IsRight effect.dascii_in_both_bases
unfolding all
dascii_in_both_bases = refl

length_below_the_stack : IsRight effect.length_below_the_stack
unfolding all
length_below_the_stack = refl

logical_addition_passes_the_sign : IsRight effect.logical_addition_passes_the_sign
unfolding all
logical_addition_passes_the_sign = refl

move_downwards : IsRight effect.move_downwards
unfolding all
move_downwards = refl

move_spreads_a_byte : IsRight effect.move_spreads_a_byte
unfolding all
move_spreads_a_byte = refl

move_while_with_capitals : IsRight effect.move_while_with_capitals
unfolding all
move_while_with_capitals = refl

moves_while_letters_and_digits : IsRight effect.moves_while_letters_and_digits
unfolding all
moves_while_letters_and_digits = refl

no_line_is_left : IsRight effect.no_line_is_left
unfolding all
no_line_is_left = refl

number_of_a_second_unit : IsRight effect.number_of_a_second_unit
unfolding all
number_of_a_second_unit = refl

number_texts_of_doubles : IsRight effect.number_texts_of_doubles
unfolding all
number_texts_of_doubles = refl

number_texts_of_words : IsRight effect.number_texts_of_words
unfolding all
number_texts_of_words = refl

number_texts_that_are_refused : IsRight effect.number_texts_that_are_refused
unfolding all
number_texts_that_are_refused = refl

output_ends_with_the_room : IsRight effect.output_ends_with_the_room
unfolding all
output_ends_with_the_room = refl

output_limit_exact : IsRight effect.output_limit_exact
unfolding all
output_limit_exact = refl

output_limit_passed : IsRight effect.output_limit_passed
unfolding all
output_limit_passed = refl

print_out_of_bounds : IsRight effect.print_out_of_bounds
unfolding all
print_out_of_bounds = refl

prints_hello : IsRight effect.prints_hello
unfolding all
prints_hello = refl

prints_words_bytes_and_an_empty_line : IsRight effect.prints_words_bytes_and_an_empty_line
unfolding all
prints_words_bytes_and_an_empty_line = refl

quotes_inside_a_string : IsRight effect.quotes_inside_a_string
unfolding all
quotes_inside_a_string = refl

reads_a_line_and_no_more : IsRight effect.reads_a_line_and_no_more
unfolding all
reads_a_line_and_no_more = refl

reads_words_and_rounds_up : IsRight effect.reads_words_and_rounds_up
unfolding all
reads_words_and_rounds_up = refl

scan_while_and_until : IsRight effect.scan_while_and_until
unfolding all
scan_while_and_until = refl

single_byte_against_a_string_of_one : IsRight effect.single_byte_against_a_string_of_one
unfolding all
single_byte_against_a_string_of_one = refl

string_comparison_and_bit_field : IsRight effect.string_comparison_and_bit_field
unfolding all
string_comparison_and_bit_field = refl

string_moved_to_words : IsRight effect.string_moved_to_words
unfolding all
string_moved_to_words = refl

terminal_lines_of_all_sorts : IsRight effect.terminal_lines_of_all_sorts
unfolding all
terminal_lines_of_all_sorts = refl

before_the_print : IsRight effect.before_the_print
unfolding all
before_the_print = refl

print_before_its_step : IsRight effect.print_before_its_step
unfolding all
print_before_its_step = refl

print_and_its_step : IsRight effect.print_and_its_step
unfolding all
print_and_its_step = refl

begin_of_the_quit : IsRight effect.begin_of_the_quit
unfolding all
begin_of_the_quit = refl

quit_behind_the_print : IsRight effect.quit_behind_the_print
unfolding all
quit_behind_the_print = refl

moved_elements_take_steps : IsRight effect.moved_elements_take_steps
unfolding all
moved_elements_take_steps = refl

moved_elements_are_done : IsRight effect.moved_elements_are_done
unfolding all
moved_elements_are_done = refl

compared_elements_take_steps : IsRight effect.compared_elements_take_steps
unfolding all
compared_elements_take_steps = refl

move_of_nothing : IsRight effect.move_of_nothing
unfolding all
move_of_nothing = refl

move_past_the_data : IsRight effect.move_past_the_data
unfolding all
move_past_the_data = refl

move_to_bounds : IsRight effect.move_to_bounds
unfolding all
move_to_bounds = refl

print_of_no_data : IsRight effect.print_of_no_data
unfolding all
print_of_no_data = refl

code_behind_a_label : IsRight effect.code_behind_a_label
unfolding all
code_behind_a_label = refl

condition_code_of_a_read : IsRight effect.condition_code_of_a_read
unfolding all
condition_code_of_a_read = refl

condition_code_of_a_line : IsRight effect.condition_code_of_a_line
unfolding all
condition_code_of_a_line = refl

reads_two_lines : IsRight effect.reads_two_lines
unfolding all
reads_two_lines = refl

extra_segment_is_not_the_stack : IsRight effect.extra_segment_is_not_the_stack
unfolding all
extra_segment_is_not_the_stack = refl

comparison_with_a_string_waits_for_nothing : IsRight effect.comparison_with_a_string_waits_for_nothing
unfolding all
comparison_with_a_string_waits_for_nothing = refl

pub all_effect : AllRight effect.effect_runs
all_effect = (answer_of_a_move_downwards, (ascii_in_another_base, (ascii_in_both_bases, (byte_comparison_is_unsigned, (byte_comparisons, (dascii_in_both_bases, (length_below_the_stack, (logical_addition_passes_the_sign, (move_downwards, (move_spreads_a_byte, (move_while_with_capitals, (moves_while_letters_and_digits, (no_line_is_left, (number_of_a_second_unit, (number_texts_of_doubles, (number_texts_of_words, (number_texts_that_are_refused, (output_ends_with_the_room, (output_limit_exact, (output_limit_passed, (print_out_of_bounds, (prints_hello, (prints_words_bytes_and_an_empty_line, (quotes_inside_a_string, (reads_a_line_and_no_more, (reads_words_and_rounds_up, (scan_while_and_until, (single_byte_against_a_string_of_one, (string_comparison_and_bit_field, (string_moved_to_words, (terminal_lines_of_all_sorts, (before_the_print, (print_before_its_step, (print_and_its_step, (begin_of_the_quit, (quit_behind_the_print, (moved_elements_take_steps, (moved_elements_are_done, (compared_elements_take_steps, (move_of_nothing, (move_past_the_data, (move_to_bounds, (print_of_no_data, (code_behind_a_label, (condition_code_of_a_read, (condition_code_of_a_line, (reads_two_lines, (extra_segment_is_not_the_stack, (comparison_with_a_string_waits_for_nothing, tt)))))))))))))))))))))))))))))))))))))))))))))))))
