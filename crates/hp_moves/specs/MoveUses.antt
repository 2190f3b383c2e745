-- How many words each step of a move takes, from the deepest that it names up to the top, and how many stand in their place
-- afterwards. While a move goes on all of them stay, changed; at its end some are deleted.
use Rattle.std.specs.Prelude.{ℕ, Bool, ◌==◌, if◌then◌else◌}
use Rattle.hp_instr.specs.declared.instruction.Instr.{Instr}
use Rattle.hp_instr.specs.declared.instruction.Instr.TheVariants.{Control}
use Rattle.hp_rows.specs.Numbers.{Uses, uses}

-- those of a step that takes so many, by whether the move is over
abbrev pub ending_with : ℕ → ℕ → Bool → Uses
ending_with taken left over = if over then uses taken left else uses taken taken

-- those of each code of major 3 from 9 on
unfoldable pub step_uses : ℕ → Bool → Uses
step_uses which =
    if which == 9 then ending_with 3 1 else  -- MOVE
    if which == 10 then ending_with 3 1 else  -- MVB
    if which == 11 then ending_with 2 1 else  -- MVBW
    if which == 12 then ending_with 2 1 else  -- SCW
    if which == 13 then ending_with 2 1 else  -- SCU
    ending_with 3 0  -- CMPB

-- those of each instruction of the group
unfoldable pub move_uses : Instr → Bool → Uses
move_uses (Control which n) = step_uses which
move_uses _ = ending_with 0 0
