use Rattle.spl_tokens.proofs.CursorLemmas.{place_none, place_some}
use Rattle.spl_tokens.proofs.tokens.Tokens.place.Goals as goal

-- the first of the tokens has the place
pub returns-in-None : goal.returns-in-None
returns-in-None c = rw (← c.self.view_is) (place_none c.self.inside.rest.now c.in-None.ensures.cases)

pub returns-in-Some : goal.returns-in-Some
returns-in-Some c = rw (← c.self.view_is) (place_some c.self.inside.rest.now c.in-Some.token.now _ c.in-Some.ensures.cases.0)
