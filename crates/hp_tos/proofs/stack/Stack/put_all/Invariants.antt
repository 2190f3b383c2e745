use Rattle.std.proofs.Common.{◌≡◌, take}
use Rattle.hp_tos.specs.Steps.{pushed_together}
use Rattle.hp_tos.specs.StackView.{seen}
use Rattle.hp_tos.proofs.stack.Stack.put_all.Given as goal

-- the words so far stand on top, where registers are free for all and where they are not
abbrev pub invariant-loop-w : goal.invariant-loop-w
invariant-loop-w l = record {
  pushed : seen l.self ≡ pushed_together (take l.w-index l.words) (seen l.fn.self);
}

abbrev pub invariant-loop-w-else-words-remaining_capacity : goal.invariant-loop-w-else-words-remaining_capacity
invariant-loop-w-else-words-remaining_capacity l = record {
  pushed : seen l.self ≡ pushed_together (take l.w-index l.words) (seen l.fn.self);
}
