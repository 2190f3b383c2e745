use Rattle.std.proofs.Common.{arith}
use Rattle.spl_reading.specs.Readers.{allowed}
use Rattle.spl_tokens.proofs.Steps.{steps}
use Rattle.spl_tokens.proofs.tokens.Tokens.allowed.Goals as goal

-- one more may not be open
pub returns-in_ok-peek-clause-read : goal.returns-in_ok-peek-clause-read
unfolding allowed
returns-in_ok-peek-clause-read c = rw c.if-fits.false (grind (arith, steps))
