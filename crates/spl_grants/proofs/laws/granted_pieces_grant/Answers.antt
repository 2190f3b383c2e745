-- By how much room is granted.
use Rattle.spl_grants.proofs.GrantLemmas.{pieces_grant}
use Rattle.spl_grants.proofs.laws.granted_pieces_grant.Goals as goal

pub returns : goal.returns
returns c = pieces_grant
