-- Runs of statements, computed.
use Rattle.std.proofs.Common.{refl}
use Rattle.spl_known.specs.Programs.{IsSo, AllRunSo}
use Rattle.spl_known.specs.StatementRuns as known
use Rattle.spl_known.proofs.Computing.{all}

case_outside_its_arms : IsSo known.case_outside_its_arms
unfolding all
case_outside_its_arms = refl

case_with_an_empty_arm : IsSo known.case_with_an_empty_arm
unfolding all
case_with_an_empty_arm = refl

condition_is_the_lowest_bit : IsSo known.condition_is_the_lowest_bit
unfolding all
condition_is_the_lowest_bit = refl

else_of_the_nearest_if : IsSo known.else_of_the_nearest_if
unfolding all
else_of_the_nearest_if = refl

jump_out_of_two_loops : IsSo known.jump_out_of_two_loops
unfolding all
jump_out_of_two_loops = refl

loop_limit_is_taken_once : IsSo known.loop_limit_is_taken_once
unfolding all
loop_limit_is_taken_once = refl

loop_that_never_runs : IsSo known.loop_that_never_runs
unfolding all
loop_that_never_runs = refl

loop_variable_changed_inside : IsSo known.loop_variable_changed_inside
unfolding all
loop_variable_changed_inside = refl

loop_variable_overflows : IsSo known.loop_variable_overflows
unfolding all
loop_variable_overflows = refl

loop_with_a_negative_step : IsSo known.loop_with_a_negative_step
unfolding all
loop_with_a_negative_step = refl

right_side_of_and_left_out : IsSo known.right_side_of_and_left_out
unfolding all
right_side_of_and_left_out = refl

while_and_until : IsSo known.while_and_until
unfolding all
while_and_until = refl

many_jumps_out_of_a_loop : IsSo known.many_jumps_out_of_a_loop
unfolding all
many_jumps_out_of_a_loop = refl

step_before_limit : IsSo known.step_before_limit
unfolding all
step_before_limit = refl

all_six_condition_code_tests : IsSo known.all_six_condition_code_tests
unfolding all
all_six_condition_code_tests = refl

do_until_runs_once : IsSo known.do_until_runs_once
unfolding all
do_until_runs_once = refl

do_until_counts : IsSo known.do_until_counts
unfolding all
do_until_counts = refl

jump_backward : IsSo known.jump_backward
unfolding all
jump_backward = refl

jump_behind_two_labels : IsSo known.jump_behind_two_labels
unfolding all
jump_behind_two_labels = refl

jump_into_a_case : IsSo known.jump_into_a_case
unfolding all
jump_into_a_case = refl

case_of_a_negative : IsSo known.case_of_a_negative
unfolding all
case_of_a_negative = refl

jump_out_of_a_block : IsSo known.jump_out_of_a_block
unfolding all
jump_out_of_a_block = refl

endless_loop_goes_on : IsSo known.endless_loop_goes_on
unfolding all
endless_loop_goes_on = refl

empty_statements_take_steps : IsSo known.empty_statements_take_steps
unfolding all
empty_statements_take_steps = refl

empty_statements_are_done : IsSo known.empty_statements_are_done
unfolding all
empty_statements_are_done = refl

loop_tests_take_steps : IsSo known.loop_tests_take_steps
unfolding all
loop_tests_take_steps = refl

loop_tests_are_done : IsSo known.loop_tests_are_done
unfolding all
loop_tests_are_done = refl

for_to_the_largest_integer : IsSo known.for_to_the_largest_integer
unfolding all
for_to_the_largest_integer = refl

for_of_a_negative_step_to_the_least : IsSo known.for_of_a_negative_step_to_the_least
unfolding all
for_of_a_negative_step_to_the_least = refl

for_down_and_up : IsSo known.for_down_and_up
unfolding all
for_down_and_up = refl

if_with_a_constant : IsSo known.if_with_a_constant
unfolding all
if_with_a_constant = refl

left_side_of_or_decides : IsSo known.left_side_of_or_decides
unfolding all
left_side_of_or_decides = refl

return_in_a_loop : IsSo known.return_in_a_loop
unfolding all
return_in_a_loop = refl

pub all_run : AllRunSo known.statement_runs
all_run = (case_outside_its_arms, (case_with_an_empty_arm, (condition_is_the_lowest_bit, (else_of_the_nearest_if, (jump_out_of_two_loops, (loop_limit_is_taken_once, (loop_that_never_runs, (loop_variable_changed_inside, (loop_variable_overflows, (loop_with_a_negative_step, (right_side_of_and_left_out, (while_and_until, (many_jumps_out_of_a_loop, (step_before_limit, (all_six_condition_code_tests, (do_until_runs_once, (do_until_counts, (jump_backward, (jump_behind_two_labels, (jump_into_a_case, (case_of_a_negative, (jump_out_of_a_block, (endless_loop_goes_on, (empty_statements_take_steps, (empty_statements_are_done, (loop_tests_take_steps, (loop_tests_are_done, (for_to_the_largest_integer, (for_of_a_negative_step_to_the_least, (for_down_and_up, (if_with_a_constant, (left_side_of_or_decides, (return_in_a_loop, tt)))))))))))))))))))))))))))))))))
