-- Program by program.
use Rattle.hp3000_top.proofs.Loops.{copies_none, copies_step}
use Rattle.hp3000_top.proofs.running.copies.Goals as goal

pub loop-program-init : goal.loop-program-init
loop-program-init c = copies_none c.in_ok-copies.copies.items c.in_ok-copies.ensures.items

pub loop-program-preserved : goal.loop-program-preserved
loop-program-preserved c =
    let same = c.in_ok-copy.ensures in
    copies_step c.args.programs.now c.loop-program.program-index c.program-item.result c.loop-program.copies.items c.push.new.self.items c.in_ok-copy.copy
    c.loop-program-test.true c.program-item.is c.in_ok-push.ensures.items c.loop-program.invariant
    (record { segments = same.0; main = same.1; entry = same.2; globals = same.3 })
