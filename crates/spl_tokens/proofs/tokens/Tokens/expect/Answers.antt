use Rattle.spl_tokens.proofs.CursorLemmas.{taken_symbol}
use Rattle.spl_tokens.proofs.tokens.Tokens.expect.Goals as goal

-- the token that is taken is the one that was looked at
pub returns-then-same-clause-symbol : goal.returns-then-same-clause-symbol
returns-then-same-clause-symbol c = taken_symbol c.args.self.now c.args.wanted _ c.take.result c.in_ok-peek.ensures (cc (c.same.ensures, c.if-same.true)) c.take.ensures.symbol
