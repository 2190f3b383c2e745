use Rattle.std.proofs.Common.{rules, ◌+◌, ◌≤◌, length}
use Rattle.hp_tos.specs.Lists.{lists}
use Rattle.hp_tos.proofs.RoomLemmas.{seen_filled}
use Rattle.hp_tos.proofs.stack.Stack.fill.Goals as goal

-- both loops are done, so the registers are the words that were filled and those that stood there
pub returns : goal.returns
returns c =
    let s = c.args.self.now in
    let there : s.sm + length s.top.items ≤ length (lists s.memory).stack = s.there in
    seen_filled _ _ _ _ _ _ _ _ _ c.len.ensures.value c.requires.wanting c.requires.there there (search rules)
    c.loop-w.invariant
