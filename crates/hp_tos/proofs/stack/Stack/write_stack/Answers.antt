use Rattle.std.proofs.Common.{rules, ◌+◌, ◌≤◌, length, arith}
use Rattle.hp_tos.specs.Lists.{lists}
use Rattle.hp_tos.proofs.WriteLemmas.{put_again, seen_put, seen_stored}
use Rattle.hp_tos.proofs.stack.Stack.write_stack.Goals as goal

-- the room has the word, so the stack has it
pub returns-then-address-self-clause-ok : goal.returns-then-address-self-clause-ok
returns-then-address-self-clause-ok c =
    let s = c.args.self.now in
    let there : s.sm + length s.top.items ≤ length (lists s.memory).stack = s.there in
    seen_stored _ _ _ _ _ _ _ _ (search rules) (omega arith) c.set_word.ensures

-- the register has the word, so the stack has it
pub returns-then-at-len-clause-ok : goal.returns-then-at-len-clause-ok
returns-then-at-len-clause-ok c =
    let s = c.args.self.now in
    let there : s.sm + length s.top.items ≤ length (lists s.memory).stack = s.there in
    seen_put _ _ _ _ _ _ _ _ (search rules) (omega arith) (put_again _ _ _ _ c.deref_mut.ensures.value)
