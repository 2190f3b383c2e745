-- What names stand for and what expressions are, as the meaning of sources has them.
use Rattle.spl_tree.specs.Views.{letters}
use Rattle.spl_meaning.specs.Names as n
use Rattle.spl_meaning.specs.Kinds as k
use Rattle.spl_sorts.specs.declared.operands.Operand.{Operand}
use Rattle.spl_sorts.specs.declared.operands.Operand.TheVariants as operand
use Rattle.spl_sorts.specs.declared.sorts.Sort.{Sort}
use Rattle.spl_sorts.specs.declared.sorts.Sort.TheVariants as sort
use Rattle.spl_sorts.specs.Profiles.{profile_of}

-- what a name stands for
abbrev pub sort_of : Sort → n.Sort
sort_of (sort.Simple kind own) = n.simple kind own
sort_of (sort.Array kind own low high) = n.array kind own low high
sort_of (sort.View kind own base) = n.view kind own (letters base)
sort_of (sort.Pointer kind own) = n.pointer kind own
sort_of (sort.Value kind) = n.value kind
sort_of (sort.ByReference kind) = n.by_reference kind
sort_of (sort.ArrayParameter kind) = n.array_parameter kind
sort_of (sort.Equate v) = n.equate v
sort_of sort.Label = n.label
sort_of (sort.Intrinsic g) = n.intrinsic g.intrinsic
sort_of (sort.Procedure p) = n.procedure (profile_of p)
sort_of (sort.Subroutine p) = n.subroutine (profile_of p)
sort_of sort.Unknown = n.unknown

-- what an expression is
abbrev pub operand_of : Operand → k.Operand
operand_of (operand.Of kind) = k.of kind
operand_of operand.Constant = k.const
operand_of operand.Unknown = k.unknown
