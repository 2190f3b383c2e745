-- By the type of its elements.
use Rattle.std.proofs.Common.{arith}
use Rattle.hp3000_top.proofs.CarriedSessions.{all_bytes}
use Rattle.hp3000_top.proofs.top.are_bytes.Goals as goal

pub returns : goal.returns
returns c = all_bytes c.args.bytes.now (λ i. omega (arith, c.type_inv.bytes i))
