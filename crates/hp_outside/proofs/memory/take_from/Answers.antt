-- The bytes copied are the first of those from the place on, and the others stand behind them.
use Rattle.std.proofs.Common.{drop, arith}
use Rattle.std.proofs.lemmas.Grind.{common_steps}
use Rattle.hp_outside.proofs.StreamLemmas.{copied_from}
use Rattle.hp_outside.proofs.memory.take_from.Goals as goal

pub returns-clause-gives : goal.returns-clause-gives
returns-clause-gives c =
    copied_from c.args.at c.min-count.result c.args.bytes.now c.copy_from_slice.new.self
    (drop c.min-count.result c.args.room.now) (grind (arith, common_steps)) (grind (arith, common_steps))
