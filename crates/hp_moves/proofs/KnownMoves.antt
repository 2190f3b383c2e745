-- The words that steps take and leave, and where P stands after them, worked by hand from the rules.
use Rattle.std.proofs.Common.{◌≡◌, true, false, refl}
use Rattle.std.specs.Prelude.{Result, Ok, Err}
use Rattle.hp_word.specs.declared.endings.Trap.{Trap}
use Rattle.hp_word.specs.declared.endings.Trap.TheVariants.{Bounds}
use Rattle.hp_instr.specs.declared.instruction.Instr.TheVariants.{Control, LoadCode}
use Rattle.hp_rows.specs.Numbers.{uses}
use Rattle.hp_moves.specs.declared.steps.MoveStep.{MoveStep}
use Rattle.hp_moves.specs.declared.steps.MoveStep.TheVariants.{Moving, Moved}
use Rattle.hp_moves.specs.MoveUses.{step_uses, move_uses}
use Rattle.hp_moves.specs.MoveSteps.{is_over, place_after}

-- MOVE and MVB leave the target's address at their end
move-on : move_uses (Control 9 0) false ≡ uses 3 3
unfolding move_uses step_uses
move-on = refl

move-end : move_uses (Control 9 1) true ≡ uses 3 1
unfolding move_uses step_uses
move-end = refl

mvb-end : move_uses (Control 10 0) true ≡ uses 3 1
unfolding move_uses step_uses
mvb-end = refl

-- MVBW deletes its source
mvbw-on : step_uses 11 false ≡ uses 2 2
unfolding step_uses
mvbw-on = refl

mvbw-end : step_uses 11 true ≡ uses 2 1
unfolding step_uses
mvbw-end = refl

-- the scans delete their test word
scw-end : step_uses 12 true ≡ uses 2 1
unfolding step_uses
scw-end = refl

scu-end : step_uses 13 true ≡ uses 2 1
unfolding step_uses
scu-end = refl

-- CMPB deletes all three words
cmpb-on : step_uses 14 false ≡ uses 3 3
unfolding step_uses
cmpb-on = refl

cmpb-end : step_uses 14 true ≡ uses 3 0
unfolding step_uses
cmpb-end = refl

-- an instruction of another group
other : move_uses (LoadCode false 3) true ≡ uses 0 0
unfolding move_uses
other = refl

-- what answers tell
abbrev answer : MoveStep → Result MoveStep Trap
answer step = Ok step

abbrev out_of_bounds : Result MoveStep Trap
out_of_bounds = Err Bounds

over-moved : is_over (answer Moved) ≡ true
over-moved = refl

over-moving : is_over (answer Moving) ≡ false
over-moving = refl

over-trap : is_over out_of_bounds ≡ false
over-trap = refl

-- P, which goes on from 0 past the last offset
place-on : place_after false 40 ≡ 40
place-on = refl

place-end : place_after true 40 ≡ 41
place-end = refl

place-last : place_after true 65535 ≡ 0
place-last = refl
