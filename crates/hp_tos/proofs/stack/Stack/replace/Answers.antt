use Rattle.std.proofs.Common.{rules, ◌+◌, ◌≤◌, length, arith}
use Rattle.hp_tos.specs.Lists.{lists}
use Rattle.hp_tos.proofs.RoomLemmas.{seen_replaced}
use Rattle.hp_tos.proofs.stack.Stack.replace.Goals as goal

-- at first they are taken away, and nothing stands in their place
pub loop-w-init : goal.loop-w-init
loop-w-init c =
    let s = c.args.self.now in
    let there : s.sm + length s.top.items ≤ length (lists s.memory).stack = s.there in
    seen_replaced _ _ _ _ _ _ _ (search rules) (omega arith) (search rules)
