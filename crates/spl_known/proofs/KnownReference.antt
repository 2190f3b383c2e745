-- Runs of arrays, pointers, views and parameters by reference, computed.
use Rattle.std.proofs.Common.{refl}
use Rattle.spl_known.specs.Programs.{IsSo, AllRunSo}
use Rattle.spl_known.specs.ReferenceRuns as known
use Rattle.spl_known.proofs.Computing.{all}

addresses_of_globals : IsSo known.addresses_of_globals
unfolding all
addresses_of_globals = refl

array_of_doubles : IsSo known.array_of_doubles
unfolding all
array_of_doubles = refl

array_with_a_negative_lower_bound : IsSo known.array_with_a_negative_lower_bound
unfolding all
array_with_a_negative_lower_bound = refl

byte_array_with_lower_bound_one : IsSo known.byte_array_with_lower_bound_one
unfolding all
byte_array_with_lower_bound_one = refl

byte_view_of_words : IsSo known.byte_view_of_words
unfolding all
byte_view_of_words = refl

element_out_of_bounds : IsSo known.element_out_of_bounds
unfolding all
element_out_of_bounds = refl

element_past_its_array : IsSo known.element_past_its_array
unfolding all
element_past_its_array = refl

pointer_to_an_element : IsSo known.pointer_to_an_element
unfolding all
pointer_to_an_element = refl

word_view_of_words : IsSo known.word_view_of_words
unfolding all
word_view_of_words = refl

pointer_steps_through_an_array : IsSo known.pointer_steps_through_an_array
unfolding all
pointer_steps_through_an_array = refl

own_array_with_a_view : IsSo known.own_array_with_a_view
unfolding all
own_array_with_a_view = refl

own_variable_keeps_its_value : IsSo known.own_variable_keeps_its_value
unfolding all
own_variable_keeps_its_value = refl

parameters_by_reference : IsSo known.parameters_by_reference
unfolding all
parameters_by_reference = refl

array_and_element_as_arguments : IsSo known.array_and_element_as_arguments
unfolding all
array_and_element_as_arguments = refl

reference_to_a_loop_variable : IsSo known.reference_to_a_loop_variable
unfolding all
reference_to_a_loop_variable = refl

read_of_a_marker : IsSo known.read_of_a_marker
unfolding all
read_of_a_marker = refl

write_above_the_frame : IsSo known.write_above_the_frame
unfolding all
write_above_the_frame = refl

bounds_before_a_stray : IsSo known.bounds_before_a_stray
unfolding all
bounds_before_a_stray = refl

last_word_below_stack : IsSo known.last_word_below_stack
unfolding all
last_word_below_stack = refl

double_half_astray : IsSo known.double_half_astray
unfolding all
double_half_astray = refl

printed_before_a_stray : IsSo known.printed_before_a_stray
unfolding all
printed_before_a_stray = refl

pointer_to_a_variable : IsSo known.pointer_to_a_variable
unfolding all
pointer_to_a_variable = refl

byte_pointer : IsSo known.byte_pointer
unfolding all
byte_pointer = refl

byte_variable_is_the_left_half : IsSo known.byte_variable_is_the_left_half
unfolding all
byte_variable_is_the_left_half = refl

index_wraps : IsSo known.index_wraps
unfolding all
index_wraps = refl

index_then_value : IsSo known.index_then_value
unfolding all
index_then_value = refl

cell_read_after_the_value : IsSo known.cell_read_after_the_value
unfolding all
cell_read_after_the_value = refl

double_elements : IsSo known.double_elements
unfolding all
double_elements = refl

pub all_run : AllRunSo known.reference_runs
all_run = (addresses_of_globals, (array_of_doubles, (array_with_a_negative_lower_bound, (byte_array_with_lower_bound_one, (byte_view_of_words, (element_out_of_bounds, (element_past_its_array, (pointer_to_an_element, (word_view_of_words, (pointer_steps_through_an_array, (own_array_with_a_view, (own_variable_keeps_its_value, (parameters_by_reference, (array_and_element_as_arguments, (reference_to_a_loop_variable, (read_of_a_marker, (write_above_the_frame, (bounds_before_a_stray, (last_word_below_stack, (double_half_astray, (printed_before_a_stray, (pointer_to_a_variable, (byte_pointer, (byte_variable_is_the_left_half, (index_wraps, (index_then_value, (cell_read_after_the_value, (double_elements, tt))))))))))))))))))))))))))))
