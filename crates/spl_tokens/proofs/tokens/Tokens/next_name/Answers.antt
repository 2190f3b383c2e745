use Rattle.spl_tokens.proofs.CursorLemmas.{named_none, named_other, named_some, name_symbol}
use Rattle.spl_tokens.proofs.tokens.Tokens.next_name.Goals as goal

-- the first of the tokens is the name
pub returns-in-None : goal.returns-in-None
returns-in-None c = rw (← c.self.view_is) (named_none c.self.inside.rest.now c.in-None.ensures.cases)

pub letters-requires : goal.letters-requires
letters-requires c = name_symbol c.in-Some.token.now (cc (c.same.ensures, c.if-same.true, c.symbol.ensures))

pub returns-then-same : goal.returns-then-same
returns-then-same c = rw (← c.self.view_is) (named_some c.self.inside.rest.now c.in-Some.token.now _ _ c.in-Some.ensures.cases.0 (cc (c.same.ensures, c.if-same.true, c.symbol.ensures)) c.letters.ensures.value)

pub returns-else-same : goal.returns-else-same
returns-else-same c = rw (← c.self.view_is) (named_other c.self.inside.rest.now c.in-Some.token.now _ c.in-Some.ensures.cases.0 (cc (c.same.ensures, c.if-same.false, c.symbol.ensures)))
