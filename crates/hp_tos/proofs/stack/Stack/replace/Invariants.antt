use Rattle.std.proofs.Common.{◌≡◌, take}
use Rattle.hp_tos.specs.StackView.{seen}
use Rattle.hp_tos.specs.Calls.{replaced}
use Rattle.hp_tos.proofs.stack.Stack.replace.Given as goal

-- the words so far stand in place of those taken away
abbrev pub invariant-loop-w : goal.invariant-loop-w
invariant-loop-w l = seen l.self ≡ replaced l.n (take l.w-index l.words) (seen l.fn.self)
