-- Runs of procedures, subroutines and split procedures, computed.
use Rattle.std.proofs.Common.{refl}
use Rattle.spl_known.specs.Programs.{IsSo, AllRunSo}
use Rattle.spl_known.specs.CallRuns as known
use Rattle.spl_known.proofs.Computing.{all}

byte_parameter_and_result : IsSo known.byte_parameter_and_result
unfolding all
byte_parameter_and_result = refl

double_parameter_and_result : IsSo known.double_parameter_and_result
unfolding all
double_parameter_and_result = refl

endless_recursion : IsSo known.endless_recursion
unfolding all
endless_recursion = refl

external_procedure_of_a_second_unit : IsSo known.external_procedure_of_a_second_unit
unfolding all
external_procedure_of_a_second_unit = refl

factorial_of_eight_overflows : IsSo known.factorial_of_eight_overflows
unfolding all
factorial_of_eight_overflows = refl

factorial_of_seven : IsSo known.factorial_of_seven
unfolding all
factorial_of_seven = refl

jump_out_of_two_loops_in_a_subroutine : IsSo known.jump_out_of_two_loops_in_a_subroutine
unfolding all
jump_out_of_two_loops_in_a_subroutine = refl

local_name_hides_global : IsSo known.local_name_hides_global
unfolding all
local_name_hides_global = refl

procedures_that_call_each_other : IsSo known.procedures_that_call_each_other
unfolding all
procedures_that_call_each_other = refl

recursion_that_just_fits : IsSo known.recursion_that_just_fits
unfolding all
recursion_that_just_fits = refl

recursion_until_stack_overflow : IsSo known.recursion_until_stack_overflow
unfolding all
recursion_until_stack_overflow = refl

result_is_zero_at_first : IsSo known.result_is_zero_at_first
unfolding all
result_is_zero_at_first = refl

stack_that_leaves_no_room : IsSo known.stack_that_leaves_no_room
unfolding all
stack_that_leaves_no_room = refl

subroutine_of_a_procedure_uses_its_frame : IsSo known.subroutine_of_a_procedure_uses_its_frame
unfolding all
subroutine_of_a_procedure_uses_its_frame = refl

subroutine_with_a_parameter : IsSo known.subroutine_with_a_parameter
unfolding all
subroutine_with_a_parameter = refl

three_units_in_three_segments : IsSo known.three_units_in_three_segments
unfolding all
three_units_in_three_segments = refl

two_segments_take_turns : IsSo known.two_segments_take_turns
unfolding all
two_segments_take_turns = refl

operands_from_left_to_right : IsSo known.operands_from_left_to_right
unfolding all
operands_from_left_to_right = refl

extra_segment_holds_squares : IsSo known.extra_segment_holds_squares
unfolding all
extra_segment_holds_squares = refl

extra_segment_read_past_its_end : IsSo known.extra_segment_read_past_its_end
unfolding all
extra_segment_read_past_its_end = refl

locals_of_a_split_procedure_stay_on_the_stack : IsSo known.locals_of_a_split_procedure_stay_on_the_stack
unfolding all
locals_of_a_split_procedure_stay_on_the_stack = refl

no_extra_segment : IsSo known.no_extra_segment
unfolding all
no_extra_segment = refl

overflow_inside_a_split_procedure : IsSo known.overflow_inside_a_split_procedure
unfolding all
overflow_inside_a_split_procedure = refl

split_procedure_goes_round_and_out : IsSo known.split_procedure_goes_round_and_out
unfolding all
split_procedure_goes_round_and_out = refl

split_procedure_returns_early : IsSo known.split_procedure_returns_early
unfolding all
split_procedure_returns_early = refl

call_takes_a_step : IsSo known.call_takes_a_step
unfolding all
call_takes_a_step = refl

call_is_done : IsSo known.call_is_done
unfolding all
call_is_done = refl

local_words_take_steps : IsSo known.local_words_take_steps
unfolding all
local_words_take_steps = refl

local_words_are_done : IsSo known.local_words_are_done
unfolding all
local_words_are_done = refl

words_of_an_ended_call : IsSo known.words_of_an_ended_call
unfolding all
words_of_an_ended_call = refl

write_into_its_own_marker : IsSo known.write_into_its_own_marker
unfolding all
write_into_its_own_marker = refl

locals_are_zero_again : IsSo known.locals_are_zero_again
unfolding all
locals_are_zero_again = refl

jump_within_a_subroutine : IsSo known.jump_within_a_subroutine
unfolding all
jump_within_a_subroutine = refl

return_from_a_subroutine : IsSo known.return_from_a_subroutine
unfolding all
return_from_a_subroutine = refl

subroutine_calls_another : IsSo known.subroutine_calls_another
unfolding all
subroutine_calls_another = refl

subroutine_calls_itself : IsSo known.subroutine_calls_itself
unfolding all
subroutine_calls_itself = refl

result_of_the_procedure_in_a_subroutine : IsSo known.result_of_the_procedure_in_a_subroutine
unfolding all
result_of_the_procedure_in_a_subroutine = refl

value_dropped : IsSo known.value_dropped
unfolding all
value_dropped = refl

calls_print_from_left_to_right : IsSo known.calls_print_from_left_to_right
unfolding all
calls_print_from_left_to_right = refl

just_room_for_the_main_body : IsSo known.just_room_for_the_main_body
unfolding all
just_room_for_the_main_body = refl

no_room_for_the_main_body : IsSo known.no_room_for_the_main_body
unfolding all
no_room_for_the_main_body = refl

just_room_for_a_call : IsSo known.just_room_for_a_call
unfolding all
just_room_for_a_call = refl

no_room_for_a_call : IsSo known.no_room_for_a_call
unfolding all
no_room_for_a_call = refl

just_room_for_a_subroutine : IsSo known.just_room_for_a_subroutine
unfolding all
just_room_for_a_subroutine = refl

no_room_for_a_subroutine : IsSo known.no_room_for_a_subroutine
unfolding all
no_room_for_a_subroutine = refl

double_result_by_a_subroutine : IsSo known.double_result_by_a_subroutine
unfolding all
double_result_by_a_subroutine = refl

subroutine_hides_its_procedures_result : IsSo known.subroutine_hides_its_procedures_result
unfolding all
subroutine_hides_its_procedures_result = refl

local_initial_value_sees_names_before_it : IsSo known.local_initial_value_sees_names_before_it
unfolding all
local_initial_value_sees_names_before_it = refl

own_initial_value_sees_names_before_it : IsSo known.own_initial_value_sees_names_before_it
unfolding all
own_initial_value_sees_names_before_it = refl

assigned_result_is_no_call : IsSo known.assigned_result_is_no_call
unfolding all
assigned_result_is_no_call = refl

pub all_run : AllRunSo known.call_runs
all_run = (byte_parameter_and_result, (double_parameter_and_result, (endless_recursion, (external_procedure_of_a_second_unit, (factorial_of_eight_overflows, (factorial_of_seven, (jump_out_of_two_loops_in_a_subroutine, (local_name_hides_global, (procedures_that_call_each_other, (recursion_that_just_fits, (recursion_until_stack_overflow, (result_is_zero_at_first, (stack_that_leaves_no_room, (subroutine_of_a_procedure_uses_its_frame, (subroutine_with_a_parameter, (three_units_in_three_segments, (two_segments_take_turns, (operands_from_left_to_right, (extra_segment_holds_squares, (extra_segment_read_past_its_end, (locals_of_a_split_procedure_stay_on_the_stack, (no_extra_segment, (overflow_inside_a_split_procedure, (split_procedure_goes_round_and_out, (split_procedure_returns_early, (call_takes_a_step, (call_is_done, (local_words_take_steps, (local_words_are_done, (words_of_an_ended_call, (write_into_its_own_marker, (locals_are_zero_again, (jump_within_a_subroutine, (return_from_a_subroutine, (subroutine_calls_another, (subroutine_calls_itself, (result_of_the_procedure_in_a_subroutine, (value_dropped, (calls_print_from_left_to_right, (just_room_for_the_main_body, (no_room_for_the_main_body, (just_room_for_a_call, (no_room_for_a_call, (just_room_for_a_subroutine, (no_room_for_a_subroutine, (double_result_by_a_subroutine, (subroutine_hides_its_procedures_result, (local_initial_value_sees_names_before_it, (own_initial_value_sees_names_before_it, (assigned_result_is_no_call, tt))))))))))))))))))))))))))))))))))))))))))))))))))
