use Rattle.std.proofs.Common.{rules, ◌+◌, ◌≤◌, length, arith}
use Rattle.hp_tos.specs.Lists.{lists}
use Rattle.hp_tos.proofs.RoomLemmas.{seen_dropped}
use Rattle.hp_tos.proofs.stack.Stack.drop_words.Goals as goal

-- registers are enough: the highest of them go
pub returns-then-n-there-clause-ok : goal.returns-then-n-there-clause-ok
returns-then-n-there-clause-ok c =
    let s = c.args.self.now in
    let there : s.sm + length s.top.items ≤ length (lists s.memory).stack = s.there in
    seen_dropped _ _ _ _ _ _ _ (search rules) (omega arith) (search rules)
