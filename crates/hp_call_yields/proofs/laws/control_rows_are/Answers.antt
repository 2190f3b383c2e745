-- The rows of returns and of steps of moves are those of their codes. Each is proved under its name.
use Rattle.hp_call_yields.proofs.CallYields as callyields
use Rattle.hp_call_yields.proofs.laws.control_rows_are.Goals as goal

pub returns : goal.returns
returns c = record {
  exit_row = callyields.exit_row;
  subroutine_exit_row = callyields.subroutine_exit_row;
  move_step_row = callyields.move_step_row;
}
