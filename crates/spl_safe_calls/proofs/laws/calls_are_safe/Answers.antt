-- One call within another.
use Rattle.std.proofs.Common.{◌≡◌, true}
use Rattle.spl_safe_calls.proofs.Calls.{never_lost}
use Rattle.spl_safe_calls.proofs.laws.calls_are_safe.Goals as goal

pub returns : goal.returns
returns c = λ known. never_lost c.values_have_their_words.ensures (λ x. known x ≡ true)
