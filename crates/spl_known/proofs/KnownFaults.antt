-- Programs that break a rule or pass a limit, computed.
use Rattle.std.proofs.Common.{refl}
use Rattle.spl_known.specs.Programs.{FaultIsSo, AllFaultsSo}
use Rattle.spl_known.specs.FaultRuns as known
use Rattle.spl_known.proofs.Computing.{all}

global_used_before_its_declaration : FaultIsSo known.global_used_before_its_declaration
unfolding all
global_used_before_its_declaration = refl

second_unit_is_checked_too : FaultIsSo known.second_unit_is_checked_too
unfolding all
second_unit_is_checked_too = refl

subroutine_of_the_unit_called_in_a_procedure : FaultIsSo known.subroutine_of_the_unit_called_in_a_procedure
unfolding all
subroutine_of_the_unit_called_in_a_procedure = refl

the_first_of_two_broken_rules : FaultIsSo known.the_first_of_two_broken_rules
unfolding all
the_first_of_two_broken_rules = refl

undeclared_name : FaultIsSo known.undeclared_name
unfolding all
undeclared_name = refl

name_of_a_constant_undeclared : FaultIsSo known.name_of_a_constant_undeclared
unfolding all
name_of_a_constant_undeclared = refl

base_of_a_view_undeclared : FaultIsSo known.base_of_a_view_undeclared
unfolding all
base_of_a_view_undeclared = refl

equate_seen_behind_its_item : FaultIsSo known.equate_seen_behind_its_item
unfolding all
equate_seen_behind_its_item = refl

name_declared_twice : FaultIsSo known.name_declared_twice
unfolding all
name_declared_twice = refl

parameter_declared_again_in_the_body : FaultIsSo known.parameter_declared_again_in_the_body
unfolding all
parameter_declared_again_in_the_body = refl

forward_twice : FaultIsSo known.forward_twice
unfolding all
forward_twice = refl

parameter_twice : FaultIsSo known.parameter_twice
unfolding all
parameter_twice = refl

body_twice : FaultIsSo known.body_twice
unfolding all
body_twice = refl

assignment_to_an_intrinsic : FaultIsSo known.assignment_to_an_intrinsic
unfolding all
assignment_to_an_intrinsic = refl

variable_as_a_statement : FaultIsSo known.variable_as_a_statement
unfolding all
variable_as_a_statement = refl

index_on_a_variable : FaultIsSo known.index_on_a_variable
unfolding all
index_on_a_variable = refl

label_as_a_variable : FaultIsSo known.label_as_a_variable
unfolding all
label_as_a_variable = refl

move_assigned_to_an_element : FaultIsSo known.move_assigned_to_an_element
unfolding all
move_assigned_to_an_element = refl

cell_of_an_array_assigned : FaultIsSo known.cell_of_an_array_assigned
unfolding all
cell_of_an_array_assigned = refl

move_assigned_to_a_field : FaultIsSo known.move_assigned_to_a_field
unfolding all
move_assigned_to_a_field = refl

integer_compared_with_double : FaultIsSo known.integer_compared_with_double
unfolding all
integer_compared_with_double = refl

integer_plus_logical : FaultIsSo known.integer_plus_logical
unfolding all
integer_plus_logical = refl

integer_with_byte : FaultIsSo known.integer_with_byte
unfolding all
integer_with_byte = refl

product_of_doubles : FaultIsSo known.product_of_doubles
unfolding all
product_of_doubles = refl

shift_of_a_double : FaultIsSo known.shift_of_a_double
unfolding all
shift_of_a_double = refl

field_of_a_byte_assigned : FaultIsSo known.field_of_a_byte_assigned
unfolding all
field_of_a_byte_assigned = refl

word_assigned_to_a_double : FaultIsSo known.word_assigned_to_a_double
unfolding all
word_assigned_to_a_double = refl

move_assigned_to_a_double : FaultIsSo known.move_assigned_to_a_double
unfolding all
move_assigned_to_a_double = refl

double_for_a_bit_field : FaultIsSo known.double_for_a_bit_field
unfolding all
double_for_a_bit_field = refl

condition_of_integer_kind : FaultIsSo known.condition_of_integer_kind
unfolding all
condition_of_integer_kind = refl

not_of_an_integer : FaultIsSo known.not_of_an_integer
unfolding all
not_of_an_integer = refl

and_of_a_double_constant : FaultIsSo known.and_of_a_double_constant
unfolding all
and_of_a_double_constant = refl

too_few_arguments_in_an_expression : FaultIsSo known.too_few_arguments_in_an_expression
unfolding all
too_few_arguments_in_an_expression = refl

too_many_arguments : FaultIsSo known.too_many_arguments
unfolding all
too_many_arguments = refl

word_as_a_double_argument : FaultIsSo known.word_as_a_double_argument
unfolding all
word_as_a_double_argument = refl

double_constant_for_a_word_parameter : FaultIsSo known.double_constant_for_a_word_parameter
unfolding all
double_constant_for_a_word_parameter = refl

number_as_a_reference_argument : FaultIsSo known.number_as_a_reference_argument
unfolding all
number_as_a_reference_argument = refl

byte_for_a_word_by_reference : FaultIsSo known.byte_for_a_word_by_reference
unfolding all
byte_for_a_word_by_reference = refl

call_as_a_reference : FaultIsSo known.call_as_a_reference
unfolding all
call_as_a_reference = refl

untyped_procedure_in_an_expression : FaultIsSo known.untyped_procedure_in_an_expression
unfolding all
untyped_procedure_in_an_expression = refl

result_assigned_outside_its_body : FaultIsSo known.result_assigned_outside_its_body
unfolding all
result_assigned_outside_its_body = refl

untyped_name_assigned : FaultIsSo known.untyped_name_assigned
unfolding all
untyped_name_assigned = refl

bit_field_of_no_bits : FaultIsSo known.bit_field_of_no_bits
unfolding all
bit_field_of_no_bits = refl

bit_field_past_the_word : FaultIsSo known.bit_field_past_the_word
unfolding all
bit_field_past_the_word = refl

shift_by_sixteen : FaultIsSo known.shift_by_sixteen
unfolding all
shift_by_sixteen = refl

shift_count_by_a_name : FaultIsSo known.shift_count_by_a_name
unfolding all
shift_count_by_a_name = refl

equate_above_a_word : FaultIsSo known.equate_above_a_word
unfolding all
equate_above_a_word = refl

equate_below_a_word : FaultIsSo known.equate_below_a_word
unfolding all
equate_below_a_word = refl

string_of_three_for_a_word : FaultIsSo known.string_of_three_for_a_word
unfolding all
string_of_three_for_a_word = refl

wide_constant_as_an_index : FaultIsSo known.wide_constant_as_an_index
unfolding all
wide_constant_as_an_index = refl

wide_initial_value_of_a_word : FaultIsSo known.wide_initial_value_of_a_word
unfolding all
wide_initial_value_of_a_word = refl

array_bounds_reversed : FaultIsSo known.array_bounds_reversed
unfolding all
array_bounds_reversed = refl

more_initial_values_than_elements : FaultIsSo known.more_initial_values_than_elements
unfolding all
more_initial_values_than_elements = refl

word_as_an_initial_double : FaultIsSo known.word_as_an_initial_double
unfolding all
word_as_an_initial_double = refl

too_many_elements : FaultIsSo known.too_many_elements
unfolding all
too_many_elements = refl

view_of_a_byte_array : FaultIsSo known.view_of_a_byte_array
unfolding all
view_of_a_byte_array = refl

view_of_double_kind : FaultIsSo known.view_of_double_kind
unfolding all
view_of_double_kind = refl

own_view_of_what_is_not : FaultIsSo known.own_view_of_what_is_not
unfolding all
own_view_of_what_is_not = refl

base_in_another_list : FaultIsSo known.base_in_another_list
unfolding all
base_in_another_list = refl

initial_values_of_a_local_array : FaultIsSo known.initial_values_of_a_local_array
unfolding all
initial_values_of_a_local_array = refl

own_outside_a_procedure : FaultIsSo known.own_outside_a_procedure
unfolding all
own_outside_a_procedure = refl

initial_value_of_a_view : FaultIsSo known.initial_value_of_a_view
unfolding all
initial_value_of_a_view = refl

parameter_in_two_lists : FaultIsSo known.parameter_in_two_lists
unfolding all
parameter_in_two_lists = refl

value_of_no_parameter : FaultIsSo known.value_of_no_parameter
unfolding all
value_of_no_parameter = refl

value_names_an_array : FaultIsSo known.value_names_an_array
unfolding all
value_names_an_array = refl

parameter_in_no_list : FaultIsSo known.parameter_in_no_list
unfolding all
parameter_in_no_list = refl

external_heading_that_differs : FaultIsSo known.external_heading_that_differs
unfolding all
external_heading_that_differs = refl

forward_without_body : FaultIsSo known.forward_without_body
unfolding all
forward_without_body = refl

heading_that_differs_from_its_forward : FaultIsSo known.heading_that_differs_from_its_forward
unfolding all
heading_that_differs_from_its_forward = refl

label_twice_in_one_body : FaultIsSo known.label_twice_in_one_body
unfolding all
label_twice_in_one_body = refl

label_in_a_procedure_and_its_subroutine : FaultIsSo known.label_in_a_procedure_and_its_subroutine
unfolding all
label_in_a_procedure_and_its_subroutine = refl

jump_into_a_block : FaultIsSo known.jump_into_a_block
unfolding all
jump_into_a_block = refl

jump_out_of_a_procedure : FaultIsSo known.jump_out_of_a_procedure
unfolding all
jump_out_of_a_procedure = refl

label_of_a_branch : FaultIsSo known.label_of_a_branch
unfolding all
label_of_a_branch = refl

condition_code_after_an_assignment : FaultIsSo known.condition_code_after_an_assignment
unfolding all
condition_code_after_an_assignment = refl

condition_code_after_an_indexed_target : FaultIsSo known.condition_code_after_an_indexed_target
unfolding all
condition_code_after_an_indexed_target = refl

condition_code_tested_twice : FaultIsSo known.condition_code_tested_twice
unfolding all
condition_code_tested_twice = refl

labelled_test_of_the_code : FaultIsSo known.labelled_test_of_the_code
unfolding all
labelled_test_of_the_code = refl

test_of_the_code_in_a_case : FaultIsSo known.test_of_the_code_in_a_case
unfolding all
test_of_the_code_in_a_case = refl

loop_variable_of_logical_kind : FaultIsSo known.loop_variable_of_logical_kind
unfolding all
loop_variable_of_logical_kind = refl

double_as_an_index : FaultIsSo known.double_as_an_index
unfolding all
double_as_an_index = refl

double_limit_of_a_loop : FaultIsSo known.double_limit_of_a_loop
unfolding all
double_limit_of_a_loop = refl

loop_over_an_element : FaultIsSo known.loop_over_an_element
unfolding all
loop_over_an_element = refl

bytes_moved_from_words : FaultIsSo known.bytes_moved_from_words
unfolding all
bytes_moved_from_words = refl

scan_of_words : FaultIsSo known.scan_of_words
unfolding all
scan_of_words = refl

comparison_of_words : FaultIsSo known.comparison_of_words
unfolding all
comparison_of_words = refl

return_in_the_main_body : FaultIsSo known.return_in_the_main_body
unfolding all
return_in_the_main_body = refl

earlier_column_before_lower_rule : FaultIsSo known.earlier_column_before_lower_rule
unfolding all
earlier_column_before_lower_rule = refl

unknown_intrinsic : FaultIsSo known.unknown_intrinsic
unfolding all
unknown_intrinsic = refl

array_in_a_split_procedure : FaultIsSo known.array_in_a_split_procedure
unfolding all
array_in_a_split_procedure = refl

global_in_a_split_procedure : FaultIsSo known.global_in_a_split_procedure
unfolding all
global_in_a_split_procedure = refl

reference_parameter_of_a_split_procedure : FaultIsSo known.reference_parameter_of_a_split_procedure
unfolding all
reference_parameter_of_a_split_procedure = refl

address_in_a_split_procedure : FaultIsSo known.address_in_a_split_procedure
unfolding all
address_in_a_split_procedure = refl

move_in_a_split_procedure : FaultIsSo known.move_in_a_split_procedure
unfolding all
move_in_a_split_procedure = refl

intrinsic_in_a_split_procedure : FaultIsSo known.intrinsic_in_a_split_procedure
unfolding all
intrinsic_in_a_split_procedure = refl

data_in_a_subprogram : FaultIsSo known.data_in_a_subprogram
unfolding all
data_in_a_subprogram = refl

statement_in_a_subprogram : FaultIsSo known.statement_in_a_subprogram
unfolding all
statement_in_a_subprogram = refl

block_in_a_subprogram : FaultIsSo known.block_in_a_subprogram
unfolding all
block_in_a_subprogram = refl

subroutine_in_a_subprogram : FaultIsSo known.subroutine_in_a_subprogram
unfolding all
subroutine_in_a_subprogram = refl

data_of_more_than_all_words : FaultIsSo known.data_of_more_than_all_words
unfolding all
data_of_more_than_all_words = refl

result_hidden_by_a_subroutine : FaultIsSo known.result_hidden_by_a_subroutine
unfolding all
result_hidden_by_a_subroutine = refl

equate_as_an_initial_double : FaultIsSo known.equate_as_an_initial_double
unfolding all
equate_as_an_initial_double = refl

undeclared_initial_double : FaultIsSo known.undeclared_initial_double
unfolding all
undeclared_initial_double = refl

variable_as_an_initial_double : FaultIsSo known.variable_as_an_initial_double
unfolding all
variable_as_an_initial_double = refl

values_of_an_array_of_no_known_length : FaultIsSo known.values_of_an_array_of_no_known_length
unfolding all
values_of_an_array_of_no_known_length = refl

equate_without_value : FaultIsSo known.equate_without_value
unfolding all
equate_without_value = refl

sum_with_an_indexed_variable : FaultIsSo known.sum_with_an_indexed_variable
unfolding all
sum_with_an_indexed_variable = refl

sum_in_a_sum_with_an_indexed_variable : FaultIsSo known.sum_in_a_sum_with_an_indexed_variable
unfolding all
sum_in_a_sum_with_an_indexed_variable = refl

sum_with_an_indexed_constant : FaultIsSo known.sum_with_an_indexed_constant
unfolding all
sum_with_an_indexed_constant = refl

sum_of_what_is_not_misused : FaultIsSo known.sum_of_what_is_not_misused
unfolding all
sum_of_what_is_not_misused = refl

indexed_variable_assigned_to_a_double : FaultIsSo known.indexed_variable_assigned_to_a_double
unfolding all
indexed_variable_assigned_to_a_double = refl

indexed_double_shifted : FaultIsSo known.indexed_double_shifted
unfolding all
indexed_double_shifted = refl

negated_indexed_variable_as_a_condition : FaultIsSo known.negated_indexed_variable_as_a_condition
unfolding all
negated_indexed_variable_as_a_condition = refl

negated_indexed_double_as_an_argument : FaultIsSo known.negated_indexed_double_as_an_argument
unfolding all
negated_indexed_double_as_an_argument = refl

negated_indexed_double_as_an_index : FaultIsSo known.negated_indexed_double_as_an_index
unfolding all
negated_indexed_double_as_an_index = refl

bytes_moved_from_an_indexed_variable : FaultIsSo known.bytes_moved_from_an_indexed_variable
unfolding all
bytes_moved_from_an_indexed_variable = refl

words_scanned_of_an_indexed_variable : FaultIsSo known.words_scanned_of_an_indexed_variable
unfolding all
words_scanned_of_an_indexed_variable = refl

bytes_compared_with_an_indexed_variable : FaultIsSo known.bytes_compared_with_an_indexed_variable
unfolding all
bytes_compared_with_an_indexed_variable = refl

label_compared_with_a_string : FaultIsSo known.label_compared_with_a_string
unfolding all
label_compared_with_a_string = refl

variable_compared_with_a_string : FaultIsSo known.variable_compared_with_a_string
unfolding all
variable_compared_with_a_string = refl

length_beyond_the_word_behind_a_string : FaultIsSo known.length_beyond_the_word_behind_a_string
unfolding all
length_beyond_the_word_behind_a_string = refl

first_bit_beyond_the_word_before_a_string : FaultIsSo known.first_bit_beyond_the_word_before_a_string
unfolding all
first_bit_beyond_the_word_before_a_string = refl

length_of_a_word_behind_a_string : FaultIsSo known.length_of_a_word_behind_a_string
unfolding all
length_of_a_word_behind_a_string = refl

last_bit_before_a_string : FaultIsSo known.last_bit_before_a_string
unfolding all
last_bit_before_a_string = refl

pub all_fault : AllFaultsSo known.fault_runs
all_fault = (global_used_before_its_declaration, (second_unit_is_checked_too, (subroutine_of_the_unit_called_in_a_procedure, (the_first_of_two_broken_rules, (undeclared_name, (name_of_a_constant_undeclared, (base_of_a_view_undeclared, (equate_seen_behind_its_item, (name_declared_twice, (parameter_declared_again_in_the_body, (forward_twice, (parameter_twice, (body_twice, (assignment_to_an_intrinsic, (variable_as_a_statement, (index_on_a_variable, (label_as_a_variable, (move_assigned_to_an_element, (cell_of_an_array_assigned, (move_assigned_to_a_field, (integer_compared_with_double, (integer_plus_logical, (integer_with_byte, (product_of_doubles, (shift_of_a_double, (field_of_a_byte_assigned, (word_assigned_to_a_double, (move_assigned_to_a_double, (double_for_a_bit_field, (condition_of_integer_kind, (not_of_an_integer, (and_of_a_double_constant, (too_few_arguments_in_an_expression, (too_many_arguments, (word_as_a_double_argument, (double_constant_for_a_word_parameter, (number_as_a_reference_argument, (byte_for_a_word_by_reference, (call_as_a_reference, (untyped_procedure_in_an_expression, (result_assigned_outside_its_body, (untyped_name_assigned, (bit_field_of_no_bits, (bit_field_past_the_word, (shift_by_sixteen, (shift_count_by_a_name, (equate_above_a_word, (equate_below_a_word, (string_of_three_for_a_word, (wide_constant_as_an_index, (wide_initial_value_of_a_word, (array_bounds_reversed, (more_initial_values_than_elements, (word_as_an_initial_double, (too_many_elements, (view_of_a_byte_array, (view_of_double_kind, (own_view_of_what_is_not, (base_in_another_list, (initial_values_of_a_local_array, (own_outside_a_procedure, (initial_value_of_a_view, (parameter_in_two_lists, (value_of_no_parameter, (value_names_an_array, (parameter_in_no_list, (external_heading_that_differs, (forward_without_body, (heading_that_differs_from_its_forward, (label_twice_in_one_body, (label_in_a_procedure_and_its_subroutine, (jump_into_a_block, (jump_out_of_a_procedure, (label_of_a_branch, (condition_code_after_an_assignment, (condition_code_after_an_indexed_target, (condition_code_tested_twice, (labelled_test_of_the_code, (test_of_the_code_in_a_case, (loop_variable_of_logical_kind, (double_as_an_index, (double_limit_of_a_loop, (loop_over_an_element, (bytes_moved_from_words, (scan_of_words, (comparison_of_words, (return_in_the_main_body, (earlier_column_before_lower_rule, (unknown_intrinsic, (array_in_a_split_procedure, (global_in_a_split_procedure, (reference_parameter_of_a_split_procedure, (address_in_a_split_procedure, (move_in_a_split_procedure, (intrinsic_in_a_split_procedure, (data_in_a_subprogram, (statement_in_a_subprogram, (block_in_a_subprogram, (subroutine_in_a_subprogram, (data_of_more_than_all_words, (result_hidden_by_a_subroutine, (equate_as_an_initial_double, (undeclared_initial_double, (variable_as_an_initial_double, (values_of_an_array_of_no_known_length, (equate_without_value, (sum_with_an_indexed_variable, (sum_in_a_sum_with_an_indexed_variable, (sum_with_an_indexed_constant, (sum_of_what_is_not_misused, (indexed_variable_assigned_to_a_double, (indexed_double_shifted, (negated_indexed_variable_as_a_condition, (negated_indexed_double_as_an_argument, (negated_indexed_double_as_an_index, (bytes_moved_from_an_indexed_variable, (words_scanned_of_an_indexed_variable, (bytes_compared_with_an_indexed_variable, (label_compared_with_a_string, (variable_compared_with_a_string, (length_beyond_the_word_behind_a_string, (first_bit_beyond_the_word_before_a_string, (length_of_a_word_behind_a_string, (last_bit_before_a_string, tt))))))))))))))))))))))))))))))))))))))))))))))))))))))))))))))))))))))))))))))))))))))))))))))))))))))))))))))))))))))))))))
