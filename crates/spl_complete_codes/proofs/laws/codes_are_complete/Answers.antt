-- All marks are set, and the law of calls.
use Rattle.spl_complete_codes.proofs.Complete.{complete}
use Rattle.spl_complete_codes.proofs.laws.codes_are_complete.Goals as goal

pub returns : goal.returns
returns c = complete
