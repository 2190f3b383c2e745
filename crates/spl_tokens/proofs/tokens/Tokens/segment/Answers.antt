use Rattle.spl_tokens.proofs.CursorLemmas.{segment_none, segment_some}
use Rattle.spl_tokens.proofs.tokens.Tokens.segment.Goals as goal

-- the first of the tokens has the segment
pub returns-in-None : goal.returns-in-None
returns-in-None c = rw (← c.self.view_is) (segment_none c.self.inside.rest.now c.in-None.ensures.cases)

pub returns-in-Some : goal.returns-in-Some
returns-in-Some c = rw (← c.self.view_is) (segment_some c.self.inside.rest.now c.in-Some.token.now _ c.in-Some.ensures.cases.0)
