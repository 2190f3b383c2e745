-- The operations so far are appended.
use Rattle.std.proofs.Common.{take}
use Rattle.spl_code.specs.Parts.{pieces}
use Rattle.spl_code.specs.Appends.{Appends}
use Rattle.spl_operations.specs.Views.{operations}
use Rattle.spl_operations.proofs.puts.operate_all.Given as goal

abbrev pub invariant-loop-op : goal.invariant-loop-op
invariant-loop-op l = Appends (pieces (operations (take l.op-index l.ops))) l.fn.code l.code
