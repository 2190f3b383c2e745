use Rattle.std.proofs.Common.{◌≡◌, ◌++◌, take, drop}
use Rattle.hp_tos.specs.Lists.{lists}
use Rattle.hp_tos.proofs.stack.Stack.fill.Given as goal

-- the words so far are those from the lowest that is filled
abbrev pub invariant-loop-i : goal.invariant-loop-i
invariant-loop-i l = l.top.items ≡ take l.i (drop l.from (lists l.self.memory).stack)

-- above all that are filled stand the registers so far
abbrev pub invariant-loop-w : goal.invariant-loop-w
invariant-loop-w l =
    l.top.items ≡ take l.many (drop l.from (lists l.fn.self.memory).stack) ++ take l.w-index l.fn.self.top.items
