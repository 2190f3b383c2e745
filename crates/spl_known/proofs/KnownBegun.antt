-- Statements that runs begin, computed.
use Rattle.std.proofs.Common.{refl}
use Rattle.spl_known.specs.Programs.{BeginsSo, AllBegunSo}
use Rattle.spl_known.specs.BegunRuns as known
use Rattle.spl_known.proofs.Computing.{all}

loop_of_three : BeginsSo known.loop_of_three
unfolding all
loop_of_three = refl

loop_cut_off : BeginsSo known.loop_cut_off
unfolding all
loop_cut_off = refl

silent_statements : BeginsSo known.silent_statements
unfolding all
silent_statements = refl

call_of_a_procedure : BeginsSo known.call_of_a_procedure
unfolding all
call_of_a_procedure = refl

statements_at_one_place : BeginsSo known.statements_at_one_place
unfolding all
statements_at_one_place = refl

code_behind_a_read : BeginsSo known.code_behind_a_read
unfolding all
code_behind_a_read = refl

pub all_begin : AllBegunSo known.begun_runs
all_begin = (loop_of_three, (loop_cut_off, (silent_statements, (call_of_a_procedure, (statements_at_one_place, (code_behind_a_read, tt))))))
