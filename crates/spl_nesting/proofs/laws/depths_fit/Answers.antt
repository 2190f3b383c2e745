use Rattle.spl_nesting.proofs.HeightBounds.{depths_fit}
use Rattle.spl_nesting.proofs.laws.depths_fit.Goals as goal

-- since 63 words of each of 970 parts, and 8 more, fit
pub returns : goal.returns
returns c = depths_fit
