-- Runs that are lost, and others that stray at a reference, computed.
use Rattle.std.proofs.Common.{refl}
use Rattle.spl_known.specs.LostRuns as known
use Rattle.spl_known.specs.LostRuns.{IsLostSo, AllLostSo}
use Rattle.spl_known.proofs.Computing.{all}

jump_to_no_label : IsLostSo known.jump_to_no_label
unfolding all
jump_to_no_label = refl

before_that_jump : IsLostSo known.before_that_jump
unfolding all
before_that_jump = refl

name_without_a_place : IsLostSo known.name_without_a_place
unfolding all
name_without_a_place = refl

code_that_is_not_known : IsLostSo known.code_that_is_not_known
unfolding all
code_that_is_not_known = refl

call_of_no_body : IsLostSo known.call_of_no_body
unfolding all
call_of_no_body = refl

two_words_for_one : IsLostSo known.two_words_for_one
unfolding all
two_words_for_one = refl

word_of_the_marker : IsLostSo known.word_of_the_marker
unfolding all
word_of_the_marker = refl

print_into_the_marker : IsLostSo known.print_into_the_marker
unfolding all
print_into_the_marker = refl

word_past_the_stack : IsLostSo known.word_past_the_stack
unfolding all
word_past_the_stack = refl

pub all_lost : AllLostSo known.lost_runs
all_lost = (jump_to_no_label, (before_that_jump, (name_without_a_place, (code_that_is_not_known, (call_of_no_body, (two_words_for_one, (word_of_the_marker, (print_into_the_marker, (word_past_the_stack, tt)))))))))
