-- The operation with NOP has a word.
use Rattle.spl_operations.proofs.PutLemmas.{pair_is_instruction}
use Rattle.spl_operations.proofs.puts.operate.Goals as goal

pub instruct-requires : goal.instruct-requires
instruct-requires c = pair_is_instruction c.args.op c.requires
