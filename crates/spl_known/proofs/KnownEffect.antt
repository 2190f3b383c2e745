-- Runs of intrinsics, MOVE, SCAN and comparisons of bytes, computed.
use Rattle.std.proofs.Common.{refl}
use Rattle.spl_known.specs.Programs.{IsSo, AllRunSo}
use Rattle.spl_known.specs.EffectRuns as known
use Rattle.spl_known.proofs.Computing.{all}

answer_of_a_move_downwards : IsSo known.answer_of_a_move_downwards
unfolding all
answer_of_a_move_downwards = refl

ascii_in_another_base : IsSo known.ascii_in_another_base
unfolding all
ascii_in_another_base = refl

ascii_in_both_bases : IsSo known.ascii_in_both_bases
unfolding all
ascii_in_both_bases = refl

byte_comparison_is_unsigned : IsSo known.byte_comparison_is_unsigned
unfolding all
byte_comparison_is_unsigned = refl

byte_comparisons : IsSo known.byte_comparisons
unfolding all
byte_comparisons = refl

dascii_in_both_bases : IsSo known.dascii_in_both_bases
unfolding all
dascii_in_both_bases = refl

length_below_the_stack : IsSo known.length_below_the_stack
unfolding all
length_below_the_stack = refl

logical_addition_passes_the_sign : IsSo known.logical_addition_passes_the_sign
unfolding all
logical_addition_passes_the_sign = refl

move_downwards : IsSo known.move_downwards
unfolding all
move_downwards = refl

move_spreads_a_byte : IsSo known.move_spreads_a_byte
unfolding all
move_spreads_a_byte = refl

move_while_with_capitals : IsSo known.move_while_with_capitals
unfolding all
move_while_with_capitals = refl

moves_while_letters_and_digits : IsSo known.moves_while_letters_and_digits
unfolding all
moves_while_letters_and_digits = refl

no_line_is_left : IsSo known.no_line_is_left
unfolding all
no_line_is_left = refl

number_of_a_second_unit : IsSo known.number_of_a_second_unit
unfolding all
number_of_a_second_unit = refl

number_texts_of_doubles : IsSo known.number_texts_of_doubles
unfolding all
number_texts_of_doubles = refl

number_texts_of_words : IsSo known.number_texts_of_words
unfolding all
number_texts_of_words = refl

number_texts_that_are_refused : IsSo known.number_texts_that_are_refused
unfolding all
number_texts_that_are_refused = refl

output_ends_with_the_room : IsSo known.output_ends_with_the_room
unfolding all
output_ends_with_the_room = refl

output_limit_exact : IsSo known.output_limit_exact
unfolding all
output_limit_exact = refl

output_limit_passed : IsSo known.output_limit_passed
unfolding all
output_limit_passed = refl

print_out_of_bounds : IsSo known.print_out_of_bounds
unfolding all
print_out_of_bounds = refl

prints_hello : IsSo known.prints_hello
unfolding all
prints_hello = refl

prints_words_bytes_and_an_empty_line : IsSo known.prints_words_bytes_and_an_empty_line
unfolding all
prints_words_bytes_and_an_empty_line = refl

quotes_inside_a_string : IsSo known.quotes_inside_a_string
unfolding all
quotes_inside_a_string = refl

reads_a_line_and_no_more : IsSo known.reads_a_line_and_no_more
unfolding all
reads_a_line_and_no_more = refl

reads_words_and_rounds_up : IsSo known.reads_words_and_rounds_up
unfolding all
reads_words_and_rounds_up = refl

scan_while_and_until : IsSo known.scan_while_and_until
unfolding all
scan_while_and_until = refl

single_byte_against_a_string_of_one : IsSo known.single_byte_against_a_string_of_one
unfolding all
single_byte_against_a_string_of_one = refl

string_comparison_and_bit_field : IsSo known.string_comparison_and_bit_field
unfolding all
string_comparison_and_bit_field = refl

string_moved_to_words : IsSo known.string_moved_to_words
unfolding all
string_moved_to_words = refl

terminal_lines_of_all_sorts : IsSo known.terminal_lines_of_all_sorts
unfolding all
terminal_lines_of_all_sorts = refl

before_the_print : IsSo known.before_the_print
unfolding all
before_the_print = refl

print_before_its_step : IsSo known.print_before_its_step
unfolding all
print_before_its_step = refl

print_and_its_step : IsSo known.print_and_its_step
unfolding all
print_and_its_step = refl

begin_of_the_quit : IsSo known.begin_of_the_quit
unfolding all
begin_of_the_quit = refl

quit_behind_the_print : IsSo known.quit_behind_the_print
unfolding all
quit_behind_the_print = refl

moved_elements_take_steps : IsSo known.moved_elements_take_steps
unfolding all
moved_elements_take_steps = refl

moved_elements_are_done : IsSo known.moved_elements_are_done
unfolding all
moved_elements_are_done = refl

compared_elements_take_steps : IsSo known.compared_elements_take_steps
unfolding all
compared_elements_take_steps = refl

move_of_nothing : IsSo known.move_of_nothing
unfolding all
move_of_nothing = refl

move_past_the_data : IsSo known.move_past_the_data
unfolding all
move_past_the_data = refl

move_to_bounds : IsSo known.move_to_bounds
unfolding all
move_to_bounds = refl

print_of_no_data : IsSo known.print_of_no_data
unfolding all
print_of_no_data = refl

code_behind_a_label : IsSo known.code_behind_a_label
unfolding all
code_behind_a_label = refl

condition_code_of_a_read : IsSo known.condition_code_of_a_read
unfolding all
condition_code_of_a_read = refl

condition_code_of_a_line : IsSo known.condition_code_of_a_line
unfolding all
condition_code_of_a_line = refl

reads_two_lines : IsSo known.reads_two_lines
unfolding all
reads_two_lines = refl

extra_segment_is_not_the_stack : IsSo known.extra_segment_is_not_the_stack
unfolding all
extra_segment_is_not_the_stack = refl

comparison_with_a_string_waits_for_nothing : IsSo known.comparison_with_a_string_waits_for_nothing
unfolding all
comparison_with_a_string_waits_for_nothing = refl

pub all_run : AllRunSo known.effect_runs
all_run = (answer_of_a_move_downwards, (ascii_in_another_base, (ascii_in_both_bases, (byte_comparison_is_unsigned, (byte_comparisons, (dascii_in_both_bases, (length_below_the_stack, (logical_addition_passes_the_sign, (move_downwards, (move_spreads_a_byte, (move_while_with_capitals, (moves_while_letters_and_digits, (no_line_is_left, (number_of_a_second_unit, (number_texts_of_doubles, (number_texts_of_words, (number_texts_that_are_refused, (output_ends_with_the_room, (output_limit_exact, (output_limit_passed, (print_out_of_bounds, (prints_hello, (prints_words_bytes_and_an_empty_line, (quotes_inside_a_string, (reads_a_line_and_no_more, (reads_words_and_rounds_up, (scan_while_and_until, (single_byte_against_a_string_of_one, (string_comparison_and_bit_field, (string_moved_to_words, (terminal_lines_of_all_sorts, (before_the_print, (print_before_its_step, (print_and_its_step, (begin_of_the_quit, (quit_behind_the_print, (moved_elements_take_steps, (moved_elements_are_done, (compared_elements_take_steps, (move_of_nothing, (move_past_the_data, (move_to_bounds, (print_of_no_data, (code_behind_a_label, (condition_code_of_a_read, (condition_code_of_a_line, (reads_two_lines, (extra_segment_is_not_the_stack, (comparison_with_a_string_waits_for_nothing, tt)))))))))))))))))))))))))))))))))))))))))))))))))
