use Rattle.spl_tokens.proofs.CursorLemmas.{take_none, take_some, peek_taken}
use Rattle.spl_tokens.proofs.tokens.Tokens.take.Goals as goal

-- the first of the tokens is taken
pub returns-in-None-clause-read : goal.returns-in-None-clause-read
returns-in-None-clause-read c = rw (← c.self.view_is) (take_none c.self.inside.rest.now c.in-None.ensures.cases)

pub returns-in-Some-clause-read : goal.returns-in-Some-clause-read
returns-in-Some-clause-read c = rw (← c.self.view_is) (take_some c.self.inside.rest.now c.in-Some.token.now _ c.in-Some.ensures.cases.0)

-- which has the symbol
pub returns-in-Some-clause-symbol : goal.returns-in-Some-clause-symbol
returns-in-Some-clause-symbol c = rw (← c.self.view_is) (peek_taken c.self.inside.rest.now c.in-Some.token.now _ c.in-Some.ensures.cases.0)
