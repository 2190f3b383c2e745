-- How many words each of these instructions takes, from the deepest that it names up to the top, and how many stand in their
-- place afterwards.
use Rattle.std.specs.Prelude.{ℕ, ◌==◌, if◌then◌else◌}
use Rattle.hp_instr.specs.declared.instruction.Instr.{Instr}
use Rattle.hp_instr.specs.declared.instruction.Instr.TheVariants.{Shifted, Immediate, Control}
use Rattle.hp_rows.specs.Numbers.{Uses, uses, drops}

-- those of the code of major 2
unfoldable pub immediate_uses : ℕ → Uses
immediate_uses which =
    if which == 0 then uses 0 0 else  -- SPLT, JOIN
    if which == 1 then uses 0 1 else  -- LDI
    if which == 2 then uses 0 0 else  -- LDXI
    if which == 3 then uses 1 0 else  -- CMPI
    if which == 4 then uses 1 1 else  -- ADDI
    if which == 5 then uses 1 1 else  -- SUBI
    if which == 6 then uses 1 1 else  -- MPYI
    if which == 7 then uses 1 1 else  -- DIVI
    if which == 8 then uses 0 1 else  -- LDNI
    if which == 9 then uses 0 0 else  -- LDXN
    if which == 10 then uses 1 0 else  -- CMPN
    if which == 11 then uses 1 1 else  -- EXF
    if which == 12 then uses 2 1 else  -- DPF
    uses 1 1  -- ANDI, ORI, XORI

-- those of the code 4 to 8 of major 3, with its number: ROOM takes a word where that is 0, and SUBS drops words without fills
unfoldable pub count_uses : ℕ → ℕ → Uses
count_uses which n =
    if which == 4 then uses 0 0 else  -- ADXI
    if which == 5 then uses 0 0 else  -- SBXI
    if which == 6 then (if n == 0 then uses 1 0 else uses 0 0) else  -- ROOM
    if which == 7 then uses 0 n else  -- ADDS
    drops n  -- SUBS

-- those of each instruction of the group
unfoldable pub field_uses : Instr → Uses
field_uses (Shifted kind count) = uses 1 1
field_uses (Immediate which n) = immediate_uses which
field_uses (Control which n) = count_uses which n
field_uses _ = uses 0 0
