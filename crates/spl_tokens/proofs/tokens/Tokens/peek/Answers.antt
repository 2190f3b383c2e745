use Rattle.spl_tokens.proofs.CursorLemmas.{peek_none, peek_some}
use Rattle.spl_tokens.proofs.tokens.Tokens.peek.Goals as goal

-- the symbol that is kept is the next token's
pub returns-in-None : goal.returns-in-None
returns-in-None c = rw (← c.self.view_is) (peek_none c.self.inside.rest.now (cc (c.self.invariant, c.in-None.is)))

pub returns-in-Some : goal.returns-in-Some
returns-in-Some c = rw (← c.self.view_is) (peek_some c.self.inside.rest.now _ (cc (c.self.invariant, c.in-Some.is)))
