-- The names of operations and instructions in a listing, from the tables.
use Rattle.std.specs.Prelude.{◌==◌, ◌++◌, ℕ, Bool, true, false, List, [], ◌∷◌, codes, if◌then◌else◌}
use Rattle.hp_instr.specs.declared.instruction.Instr.{Instr}
use Rattle.hp_instr.specs.declared.instruction.Instr.TheVariants.{Pair, Shifted, Short, Immediate, Control, Memory, LoadCode, Branch, OnCode, Loop, Illegal}
use Rattle.hp_instr.specs.Tables.{Line, stack_operations, shifts, short_branches, window_operations, immediates, controls, first_references, second_references}

-- the name in a table's line with this code, or that there is none
abbrev pub name_in : List Line → ℕ → List ℕ
name_in [] code = codes "ILLEGAL"
name_in (entry ∷ table) code = if entry.code == code then entry.name else name_in table code

-- the name of a stack operation
unfoldable pub op_name : ℕ → List ℕ
op_name code = name_in stack_operations code

-- the name of an instruction; a pair has that of its left operation, a comma, and that of its right one
unfoldable pub listed_name : Instr → List ℕ
listed_name (Pair left right) = op_name left.code ++ codes "," ++ op_name right.code
listed_name (Shifted kind count) = name_in shifts kind
listed_name (Short test back d) = name_in short_branches test
listed_name (Immediate which n) = if which == 0 then name_in window_operations n else name_in immediates which
listed_name (Control which n) = name_in controls which
listed_name (Memory major second x i mode) = name_in (if second then second_references else first_references) major
listed_name (LoadCode back d) = codes "LOAD"
listed_name (Branch i back d) = codes "BR"
listed_name (OnCode mask back d) = codes "BCC"
listed_name (Loop modify back d) = if modify then codes "MTBA" else codes "TBA"
listed_name (Illegal w) = codes "ILLEGAL"

-- whether an instruction is a pair of stack operations
abbrev pub is_pair : Instr → Bool
is_pair (Pair left right) = true
is_pair i = false
