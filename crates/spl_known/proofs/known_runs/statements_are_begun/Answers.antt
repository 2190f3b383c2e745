use Rattle.spl_known.proofs.KnownBegun.{all_begin}
use Rattle.spl_known.proofs.known_runs.statements_are_begun.Goals as goal

-- each is computed
pub returns : goal.returns
returns c = all_begin
