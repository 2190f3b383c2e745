-- The groups of instructions, by what they work on.
use Rattle.std.specs.Prelude.{ℕ, nat_le, if◌then◌else◌}
use Rattle.hp_instr.specs.declared.groups.Group.{Group}
use Rattle.hp_instr.specs.declared.groups.Group.TheVariants as groups
use Rattle.hp_instr.specs.declared.instruction.Instr.{Instr}
use Rattle.hp_instr.specs.declared.instruction.Instr.TheVariants.{Pair, Shifted, Short, Immediate, Control, Memory, LoadCode, Branch, OnCode, Loop, Illegal}

-- the group of a code of major 3: calls up to SCAL, X and counts of words up to SUBS, then moves
abbrev pub control_group : ℕ → Group
control_group which =
    if nat_le which 3 then groups.Call else
    if nat_le which 8 then groups.Field else
    groups.Move

-- the group of an instruction: pairs of stack operations; shifts, fields, immediate numbers and counts of words; words in
-- memory and branches; moves; calls; and what is no instruction
abbrev pub group : Instr → Group
group (Pair left right) = groups.Stack
group (Shifted kind count) = groups.Field
group (Short test back d) = groups.Reference
group (Immediate which n) = groups.Field
group (Control which n) = control_group which
group (Memory major second x i mode) = groups.Reference
group (LoadCode back d) = groups.Reference
group (Branch i back d) = groups.Reference
group (OnCode mask back d) = groups.Reference
group (Loop modify back d) = groups.Reference
group (Illegal w) = groups.Illegal
