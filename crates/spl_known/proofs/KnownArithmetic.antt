-- Runs of arithmetic, constants and tokens, computed.
use Rattle.std.proofs.Common.{refl}
use Rattle.std.specs.Prelude.{◌≡◌, pos, neg_ℤ}
use Rattle.spl_meaning.specs.Names.{cut}
use Rattle.spl_known.specs.Programs.{IsSo, AllRunSo}
use Rattle.spl_known.specs.ArithmeticRuns as known
use Rattle.spl_known.proofs.Computing.{all}

addition_overflows : IsSo known.addition_overflows
unfolding all
addition_overflows = refl

adds_and_quits : IsSo known.adds_and_quits
unfolding all
adds_and_quits = refl

arithmetic_shift_right : IsSo known.arithmetic_shift_right
unfolding all
arithmetic_shift_right = refl

assignment_to_a_bit_field : IsSo known.assignment_to_a_bit_field
unfolding all
assignment_to_a_bit_field = refl

bit_field_of_a_word : IsSo known.bit_field_of_a_word
unfolding all
bit_field_of_a_word = refl

bit_operations_and_relations : IsSo known.bit_operations_and_relations
unfolding all
bit_operations_and_relations = refl

byte_variable_keeps_eight_bits : IsSo known.byte_variable_keeps_eight_bits
unfolding all
byte_variable_keeps_eight_bits = refl

constants_of_all_sorts : IsSo known.constants_of_all_sorts
unfolding all
constants_of_all_sorts = refl

declaration_alone : IsSo known.declaration_alone
unfolding all
declaration_alone = refl

define_of_a_define : IsSo known.define_of_a_define
unfolding all
define_of_a_define = refl

define_stands_for_a_number : IsSo known.define_stands_for_a_number
unfolding all
define_stands_for_a_number = refl

defined_word_is_replaced_where_it_stands : IsSo known.defined_word_is_replaced_where_it_stands
unfolding all
defined_word_is_replaced_where_it_stands = refl

division_truncates_toward_zero : IsSo known.division_truncates_toward_zero
unfolding all
division_truncates_toward_zero = refl

double_keeps_the_sign_of_an_integer : IsSo known.double_keeps_the_sign_of_an_integer
unfolding all
double_keeps_the_sign_of_an_integer = refl

double_of_a_logical_is_not_negative : IsSo known.double_of_a_logical_is_not_negative
unfolding all
double_of_a_logical_is_not_negative = refl

double_overflow : IsSo known.double_overflow
unfolding all
double_overflow = refl

doubles_are_compared_with_sign : IsSo known.doubles_are_compared_with_sign
unfolding all
doubles_are_compared_with_sign = refl

equate_of_equates : IsSo known.equate_of_equates
unfolding all
equate_of_equates = refl

initial_values_of_variables : IsSo known.initial_values_of_variables
unfolding all
initial_values_of_variables = refl

integer_overflow_by_addition : IsSo known.integer_overflow_by_addition
unfolding all
integer_overflow_by_addition = refl

integer_product_overflows : IsSo known.integer_product_overflows
unfolding all
integer_product_overflows = refl

least_integer_over_minus_one : IsSo known.least_integer_over_minus_one
unfolding all
least_integer_over_minus_one = refl

logical_division_by_zero : IsSo known.logical_division_by_zero
unfolding all
logical_division_by_zero = refl

logical_division_is_unsigned : IsSo known.logical_division_is_unsigned
unfolding all
logical_division_is_unsigned = refl

logical_product_wraps : IsSo known.logical_product_wraps
unfolding all
logical_product_wraps = refl

logicals_are_compared_without_sign : IsSo known.logicals_are_compared_without_sign
unfolding all
logicals_are_compared_without_sign = refl

low_word_of_a_double : IsSo known.low_word_of_a_double
unfolding all
low_word_of_a_double = refl

minus_of_a_logical : IsSo known.minus_of_a_logical
unfolding all
minus_of_a_logical = refl

minus_of_the_least_integer : IsSo known.minus_of_the_least_integer
unfolding all
minus_of_the_least_integer = refl

modulo_by_zero : IsSo known.modulo_by_zero
unfolding all
modulo_by_zero = refl

negated_number_binds_first : IsSo known.negated_number_binds_first
unfolding all
negated_number_binds_first = refl

not_of_a_word : IsSo known.not_of_a_word
unfolding all
not_of_a_word = refl

six_shifts_of_one_word : IsSo known.six_shifts_of_one_word
unfolding all
six_shifts_of_one_word = refl

small_letters_comments_and_commands : IsSo known.small_letters_comments_and_commands
unfolding all
small_letters_comments_and_commands = refl

tabs_and_returns_are_blanks : IsSo known.tabs_and_returns_are_blanks
unfolding all
tabs_and_returns_are_blanks = refl

quit_with_a_negative_number : IsSo known.quit_with_a_negative_number
unfolding all
quit_with_a_negative_number = refl

before_the_first_step : IsSo known.before_the_first_step
unfolding all
before_the_first_step = refl

one_step_before_the_quit : IsSo known.one_step_before_the_quit
unfolding all
one_step_before_the_quit = refl

the_step_of_the_quit : IsSo known.the_step_of_the_quit
unfolding all
the_step_of_the_quit = refl

an_ended_run_stays : IsSo known.an_ended_run_stays
unfolding all
an_ended_run_stays = refl

before_the_last_step : IsSo known.before_the_last_step
unfolding all
before_the_last_step = refl

the_last_step : IsSo known.the_last_step
unfolding all
the_last_step = refl

xor_lor_and_land : IsSo known.xor_lor_and_land
unfolding all
xor_lor_and_land = refl

double_sum : IsSo known.double_sum
unfolding all
double_sum = refl

double_negated : IsSo known.double_negated
unfolding all
double_negated = refl

double_of_the_least_negated : IsSo known.double_of_the_least_negated
unfolding all
double_of_the_least_negated = refl

byte_of_a_word : IsSo known.byte_of_a_word
unfolding all
byte_of_a_word = refl

remainder_of_a_negative : IsSo known.remainder_of_a_negative
unfolding all
remainder_of_a_negative = refl

remainder_of_a_logical : IsSo known.remainder_of_a_logical
unfolding all
remainder_of_a_logical = refl

least_integer_modulo_minus_one : IsSo known.least_integer_modulo_minus_one
unfolding all
least_integer_modulo_minus_one = refl

plus_in_front : IsSo known.plus_in_front
unfolding all
plus_in_front = refl

not_of_truth : IsSo known.not_of_truth
unfolding all
not_of_truth = refl

string_of_two_as_a_word : IsSo known.string_of_two_as_a_word
unfolding all
string_of_two_as_a_word = refl

pub all_run : AllRunSo known.arithmetic_runs
all_run = (addition_overflows, (adds_and_quits, (arithmetic_shift_right, (assignment_to_a_bit_field, (bit_field_of_a_word, (bit_operations_and_relations, (byte_variable_keeps_eight_bits, (constants_of_all_sorts, (declaration_alone, (define_of_a_define, (define_stands_for_a_number, (defined_word_is_replaced_where_it_stands, (division_truncates_toward_zero, (double_keeps_the_sign_of_an_integer, (double_of_a_logical_is_not_negative, (double_overflow, (doubles_are_compared_with_sign, (equate_of_equates, (initial_values_of_variables, (integer_overflow_by_addition, (integer_product_overflows, (least_integer_over_minus_one, (logical_division_by_zero, (logical_division_is_unsigned, (logical_product_wraps, (logicals_are_compared_without_sign, (low_word_of_a_double, (minus_of_a_logical, (minus_of_the_least_integer, (modulo_by_zero, (negated_number_binds_first, (not_of_a_word, (six_shifts_of_one_word, (small_letters_comments_and_commands, (tabs_and_returns_are_blanks, (quit_with_a_negative_number, (before_the_first_step, (one_step_before_the_quit, (the_step_of_the_quit, (an_ended_run_stays, (before_the_last_step, (the_last_step, (xor_lor_and_land, (double_sum, (double_negated, (double_of_the_least_negated, (byte_of_a_word, (remainder_of_a_negative, (remainder_of_a_logical, (least_integer_modulo_minus_one, (plus_in_front, (not_of_truth, (string_of_two_as_a_word, tt)))))))))))))))))))))))))))))))))))))))))))))))))))))

-- values that a name of a sum is kept with

usual_values_are_kept : cut (neg_ℤ (pos 32768)) ≡ neg_ℤ (pos 32768)
usual_values_are_kept = refl

the_greatest_is_kept : cut (pos 1099511627776) ≡ pos 1099511627776
the_greatest_is_kept = refl

one_more_is_cut : cut (pos 1099511627777) ≡ pos 1099511627776
one_more_is_cut = refl

one_less_is_cut : cut (neg_ℤ (pos 1099511627777)) ≡ neg_ℤ (pos 1099511627776)
one_less_is_cut = refl
